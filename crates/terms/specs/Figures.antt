-- Worked figures, most of them as the exchange has printed them, beside what the definitions make of
-- them.
use Rattle.std.specs.Prelude.{◌≡◌, ℕ, Bool, true, false, cond, ◌&&◌, List, [], ◌∷◌, Some, None, codes, Option, ◌==◌, slice_index, refl}
use Rattle.terms.specs.Units.{one}
use Rattle.terms.specs.Refusals.{first}
use Rattle.terms.specs.Claims.{claim_dollars}
use Rattle.terms.specs.Family.{Answers}
use Rattle.terms.specs.Futures.{futures}
use Rattle.terms.specs.Options.{options}
use Rattle.terms.specs.Reference.{reference, reference_refusals}
use Rattle.terms.specs.Adjust.{adjusted, next_claim, line_refusals}
use Rattle.terms.specs.declared.right.Right.TheVariants.{Without, Call}
use Rattle.terms.specs.declared.claim.Claim.{Claim}
use Rattle.terms.specs.declared.claim.Claim.TheVariants.{Absent, Open, Fixed}
use Rattle.terms.specs.declared.code.Prefix.{Prefix}
use Rattle.terms.specs.declared.event.Event.{Event}
use Rattle.terms.specs.declared.terms.Terms.{Terms}
use Rattle.terms.specs.declared.adjust.Adjusted.{Adjusted}

-- cash per share and a ratio; a new stock; rights
abbrev pub pays : ℕ → ℕ → Event
pays cash ratio =
    record {
      stock = 1;
      cash = cash;
      ratio = ratio;
      rights = record { rate = 0; price = 0; deadline = 0 };
      successor = record { stock = 0; prefix = record { first = 0; second = 0 } };
    }

abbrev pub prefix_of : List ℕ → Prefix
prefix_of text = record { first = slice_index text 0; second = slice_index text 1 }

abbrev pub into : List ℕ → Event → Event
into text e =
    record { stock = e.stock; cash = e.cash; ratio = e.ratio; rights = e.rights; successor = record { stock = 2; prefix = prefix_of text } }

abbrev pub offers : ℕ → Event
offers rate =
    record {
      stock = 1;
      cash = 0;
      ratio = one;
      rights = record { rate = rate; price = 1; deadline = 1 };
      successor = record { stock = 0; prefix = record { first = 0; second = 0 } };
    }

abbrev pub level_or : Option ℕ → ℕ
level_or None = 10
level_or (Some n) = n

-- a line by its code, the units of a lot and the dollars in it
abbrev pub line : Answers → List ℕ → ℕ → ℕ → Terms
line a code units cash =
    record {
      series = record { prefix = prefix_of code; level = level_or (a.level (slice_index code 2)); expiry = 1; right = cond (a.fits Without 0) Without Call; strike = cond (a.fits Without 0) 0 1 };
      stock = 1;
      units = units;
      strike_lot = units;
      cash = cash;
      claim = Absent;
    }

-- what a notice says of a line: its code, units and dollars before and after, and the entry to each bought lot
pub record Notice : Type 0 where
  pub code : List ℕ
  pub units : ℕ
  pub cash : ℕ
  pub new_code : List ℕ
  pub new_units : ℕ
  pub new_cash : ℕ
  pub entry : ℕ

abbrev pub is_letter : Option ℕ → ℕ → Bool
is_letter None letter = false
is_letter (Some c) letter = c == letter

abbrev pub is_code : Answers → Terms → List ℕ → Bool
is_code a t code =
    (t.series.prefix.first == slice_index code 0)
    && (t.series.prefix.second == slice_index code 1
    && is_letter (a.letter t.series.level) (slice_index code 2))

abbrev pub accepted : List (ℕ × Bool) → Bool
accepted refusals = first refusals == 0

abbrev pub as_noticed : Answers → Adjusted → Notice → Bool
as_noticed a x n =
    is_code a x.terms n.new_code
    && (x.terms.units == n.new_units
    && (x.terms.cash == n.new_cash
    && x.booked == n.entry))

abbrev pub claims : Claim → ℕ → Bool
claims Absent units = false
claims (Open u price deadline) units = u == units
claims (Fixed dollars) units = false

pub data Figure : Type 0 where
  -- a price, the cash and the ratio of an event, and the reference price
  price_becomes : (price cash ratio becomes : ℕ) → Figure
  -- the lines that an event moves together
  lines_become : Answers → Event → List Notice → Figure
  -- the units of a lot, a rights rate, and the units of the claim
  claim_covers : (units rate covers : ℕ) → Figure
  -- the units of a claim, its subscription price, a close, and the dollars
  claim_pays : (units price close dollars : ℕ) → Figure

abbrev pub all_noticed : Answers → Event → List Notice → Bool
all_noticed a e [] = true
all_noticed a e (n ∷ ns) =
    accepted (line_refusals a 0 e (line a n.code n.units n.cash))
    && (as_noticed a (adjusted a e (line a n.code n.units n.cash)) n && all_noticed a e ns)

abbrev pub holds : Figure → Bool
holds (price_becomes price cash ratio becomes) =
    accepted (reference_refusals price cash ratio) && reference price cash ratio == becomes
holds (lines_become a e notices) = all_noticed a e notices
holds (claim_covers units rate covers) = claims (next_claim (offers rate) (line futures (codes "CSF") units 0)) covers
holds (claim_pays units price close dollars) = claim_dollars close (Open units price 1) == dollars

abbrev pub all_hold : List Figure → Bool
all_hold [] = true
all_hold (f ∷ fs) = holds f && all_hold fs

abbrev pub figures : List Figure
figures =
    -- a dividend of 3 dollars at 78.00: the code stays, 6,000 dollars are entered
    price_becomes 7800 3000000 one 7500
    ∷ lines_become futures (pays 3000000 one)
    (record { code = codes "CDF"; units = 20000000; cash = 0; new_code = codes "CDF"; new_units = 20000000; new_cash = 0; entry = 6000 } ∷ [])
    -- a stock dividend of 0.05 at 21.00
    ∷ price_becomes 2100 0 1050000000 2000
    ∷ lines_become futures (pays 0 1050000000)
    (record { code = codes "CNF"; units = 20000000; cash = 0; new_code = codes "CN1"; new_units = 21000000; new_cash = 0; entry = 0 } ∷ [])
    -- a share conversion at 19.80: 0.55 shares of another stock and 11.55 dollars
    ∷ price_becomes 1980 11550000 550000000 1500
    ∷ lines_become futures (into (codes "DO") (pays 11550000 550000000))
    (record { code = codes "DMF"; units = 20000000; cash = 0; new_code = codes "DO1"; new_units = 11000000; new_cash = 0; entry = 23100 } ∷ [])
    -- a dividend of 1 dollar on 2,073.9967 shares
    ∷ lines_become futures (pays 1000000 one)
    (record { code = codes "CN1"; units = 20739967; cash = 0; new_code = codes "CN1"; new_units = 20739967; new_cash = 0; entry = 2073 } ∷ [])
    -- 69.943664 shares for a thousand
    ∷ claim_covers 20000000 69943664 1398873
    -- a claim on 100 shares at 16.30
    ∷ claim_pays 1000000 1630 2030 400
    ∷ claim_pays 1000000 1630 1630 0
    -- two for one at 20.01: a half is rounded up
    ∷ price_becomes 2001 0 2000000000 1001
    -- a stock dividend of 0.1 moves two generations of options together
    ∷ lines_become options (pays 0 1100000000)
    (record { code = codes "CNO"; units = 20000000; cash = 0; new_code = codes "CNA"; new_units = 22000000; new_cash = 0; entry = 0 }
    ∷ record { code = codes "CNA"; units = 20000000; cash = 2000; new_code = codes "CNB"; new_units = 22000000; new_cash = 2000; entry = 0 }
    ∷ [])
    ∷ []

-- every figure comes out as it stands
abbrev pub FiguresHold : Type 0
FiguresHold = all_hold figures ≡ true

-- by one test, which the checker computes
pub figures_hold : FiguresHold
figures_hold = refl
