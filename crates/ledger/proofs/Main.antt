-- After every list of calls the book is balanced, agrees with its ledger, and is in order.
use Rattle.std.proofs.Common.{◌≡◌, ℕ, ◌+◌, ◌<◌, Bool, true, false, cond, eqb, List, [], ◌∷◌, ◌++◌, length, get_or, take, replicate, pos, refl, ap, ◌∙◌, arith}
use Rattle.std.proofs.lemmas.List.{get_or-replicate, take_more}
use Rattle.std.proofs.lemmas.Bool.{eqb-true}
use Rattle.terms.specs.Family.{Answers}
use Rattle.rows.specs.Rows.{places, rows, lots_in, no_account, no_series}
use Rattle.rows.specs.declared.table.Place.{Place}
use Rattle.rows.specs.declared.table.Place.TheVariants.{Free, Taken}
use Rattle.ledger.proofs.Views.{not_both}
use Rattle.rows.specs.Opening.{new_account}
use Rattle.rows.specs.Calls.{empty, refusal, after, settled, step, run}
use Rattle.rows.specs.declared.table.Account.{Account}
use Rattle.rows.specs.declared.table.Table.{Table}
use Rattle.rows.specs.declared.call.Call.{Call}
use Rattle.rows.specs.declared.call.Call.TheVariants.{Opening, Listing, Trade, Mark, Adjustment, Fixing, Expiry}
use Rattle.ledger.specs.Ledger.{Ledger, blank, post, posted}
use Rattle.ledger.specs.Agreement.{none, Stands, if_number, outcomes, ledger_of, numbers}
use Rattle.ledger.proofs.Ring.{if_zero}
use Rattle.ledger.proofs.Sums.{total_replicate}
use Rattle.ledger.proofs.At.{replicate_at}
use Rattle.ledger.proofs.Well.{Holds, no_lots, number_at}
use Rattle.ledger.proofs.OpenStep.{opening_holds}
use Rattle.ledger.proofs.ListStep.{listing_holds}
use Rattle.ledger.proofs.TradeStep.{trade_holds}
use Rattle.ledger.proofs.MarkStep.{mark_holds}
use Rattle.ledger.proofs.AdjustStep.{adjustment_holds}
use Rattle.ledger.proofs.FixStep.{fixing_holds}
use Rattle.ledger.proofs.ExpiryStep.{expiry_holds}

-- one call, accepted or refused
after_holds : (a : Answers) (t : Table) (g : Ledger) (c : Call) → Holds a t g → refusal a t c ≡ 0 → Holds a (after a t c) (post a g c)
after_holds a t g (Opening day account) h ok = opening_holds a t g day account h ok
after_holds a t g (Listing day name stock units price) h ok = listing_holds a t g day name stock units price h ok
after_holds a t g (Trade day name buyer seller price lots) h ok = trade_holds a t g day name buyer seller price lots h ok
after_holds a t g (Mark day name price) h ok = mark_holds a t g day name price h ok
after_holds a t g (Adjustment day event) h ok = adjustment_holds a t g day event h ok
after_holds a t g (Fixing day stock deadline close) h ok = fixing_holds a t g day stock deadline close h
after_holds a t g (Expiry day name price close) h ok = expiry_holds a t g day name price close h ok

step_by : (a : Answers) (t : Table) (g : Ledger) (c : Call) → Holds a t g → (b : Bool) → eqb (refusal a t c) 0 ≡ b → Holds a (cond b (after a t c) t) (cond b (post a g c) g)
step_by a t g c h true e = after_holds a t g c h (eqb-true (refusal a t c) 0 e)
step_by a t g c h false e = h

pub run_holds : (a : Answers) (cs : List Call) (t : Table) (g : Ledger) → Holds a t g → Holds a (run a t cs) (posted a g cs (outcomes a t cs))
run_holds a [] t g h = h
run_holds a (c ∷ cs) t g h =
    run_holds a cs (step a t c) (cond (eqb (refusal a t c) 0) (post a g c) g) (step_by a t g c h (eqb (refusal a t c) 0) refl)

-- an empty book
blank_at : (i : ℕ) → i < rows → get_or (replicate rows (new_account 0)) i no_account ≡ new_account 0
blank_at i h = get_or-replicate rows i (new_account 0) no_account h

no_number : (i : ℕ) → get_or (numbers (replicate rows (new_account 0))) i 0 ≡ 0
no_number i =
    cc (number_at (replicate rows (new_account 0)) i, replicate_at (λ (r : Account). r.number ≡ 0) no_account refl (new_account 0) refl rows i)

empty_holds : (a : Answers) → Holds a empty blank
empty_holds a =
    record {
      well =
          record {
            lines = refl;
            accounts = refl;
            lots = λ i h. ap (λ (r : Account). length r.lots) (blank_at i h);
            spare = λ i c h. blank_at i h;
            orderly = record { names = tt; stocks = tt; free = λ j e. replicate_at (λ (r : Account). lots_in j r ≡ pos 0) no_account refl (new_account 0) (no_lots j 0) rows };
            nameless = λ e j m. replicate_at (λ (x : Place). x ≡ Taken m → m.terms.series ≡ no_series) Free (not_both m) Free (not_both m) places j;
            numbers = λ i j h e. absurd (omega (arith, no_number i));
          };
      balanced =
          record {
            lots = λ j. total_replicate (lots_in j) (new_account 0) (no_lots j 0) rows;
            equity = total_replicate (λ r. r.equity) (new_account 0) refl rows;
          };
      agrees =
          record {
            accounts = refl;
            lines = none;
            equity = λ n. total_replicate (if_number n (λ r. r.equity)) (new_account 0) (if_zero (eqb 0 n) (pos 0) refl) rows;
          };
    }

pub holds_after : (a : Answers) (cs : List Call) → Holds a (run a empty cs) (ledger_of a cs)
holds_after a cs = run_holds a cs empty blank (empty_holds a)

pub stands : (a : Answers) (cs : List Call) → Stands a cs
stands a cs = let h = holds_after a cs in record { balanced = h.balanced; agrees = h.agrees; orderly = h.well.orderly }

-- a loop that makes the calls one by one
run_push : (a : Answers) (cs : List Call) (t : Table) (c : Call) → run a t (cs ++ (c ∷ [])) ≡ step a (run a t cs) c
run_push a [] t c = refl
run_push a (x ∷ cs) t c = run_push a cs (step a t x) c

pub run_more : (a : Answers) (t : Table) (cs : List Call) (i : ℕ) (d : Call) → i < length cs → run a t (take (i + 1) cs) ≡ step a (run a t (take i cs)) (get_or cs i d)
run_more a t cs i d h = ap (run a t) (take_more cs i d h) ∙ run_push a (take i cs) t (get_or cs i d)

-- from what a call's contract says of its answer and of the table after it
pub step_is : (a : Answers) (t t' u : Table) (c : Call) (answer : ℕ) → answer ≡ refusal a t c → t' ≡ settled answer (after a t c) t → t ≡ u → t' ≡ step a u c
step_is a t t' u c answer r e i = cc
