-- Stock options.
use Rattle.std.specs.Prelude.{ℕ, ◌+◌, ◌-◌, ◌*◌, Bool, true, false, codes}
use Rattle.terms.specs.Units.{is_price}
use Rattle.terms.specs.Family.{Answers}
use Rattle.terms.specs.Letters.{letter_in, level_in}
use Rattle.terms.specs.declared.right.Right.{Right}
use Rattle.terms.specs.declared.right.Right.TheVariants.{Without, Call, Put}
use Rattle.terms.specs.declared.lot.Lot.{Lot}

-- a call or a put at a strike that is a price
abbrev pub options_fits : Right → ℕ → Bool
options_fits Without strike = false
options_fits Call strike = is_price strike
options_fits Put strike = is_price strike

-- what the lot delivers, and what the strike asks for it
abbrev pub delivered : Lot → ℕ → ℕ → ℕ
delivered l price dollars = price * l.units + (l.cash + dollars) * 1000000

abbrev pub struck : Lot → ℕ
struck l = l.strike * l.strike_lot

-- by right, 0 where the holder would lose
abbrev pub exercised : Right → ℕ → ℕ → ℕ
exercised Without w k = 0
exercised Call w k = w - k
exercised Put w k = k - w

abbrev pub options : Answers
options =
    record {
      letter = letter_in (codes "OABCDEFGHI");
      level = level_in (codes "OABCDEFGHI");
      largest = 200000000;
      fits = options_fits;
      moves = λ e. true;
      kept = λ amount. amount;
      booked = λ amount. 0;
      trade = λ l price. price * l.strike_lot;
      mark = λ l price. 0;
      final = λ l price dollars. exercised l.right (delivered l price dollars) (struck l);
    }
