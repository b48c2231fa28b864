-- The questions, by their own definitions.
use Rattle.std.proofs.Common.{not, List, sym, refl, ◌∙◌}
use Rattle.std.proofs.lemmas.Bool.{or_parts}
use Rattle.terms.specs.Units.{is_day, is_number}
use Rattle.terms.specs.Family.{Answers}
use Rattle.rows.specs.Rows.{places, found_line, line_at}
use Rattle.rows.specs.Names.{series_of}
use Rattle.rows.specs.Questions.{terms_refusals, lots_refusals, equity_refusals}
use Rattle.rows.specs.Calls.{empty, run}
use Rattle.rows.specs.declared.table.Table.{Table}
use Rattle.rows.specs.declared.call.Call.{Call}
use Rattle.ledger.specs.Ledger.{Ledger}
use Rattle.ledger.specs.Agreement.{Answered, ledger_of}
use Rattle.ledger.specs.Asked.{Asked, RowsKept}
use Rattle.ledger.proofs.Found.{accepted, at_least_one}
use Rattle.ledger.proofs.Firsts.{at_some}
use Rattle.ledger.proofs.Main.{holds_after}
use Rattle.ledger.proofs.Answered.{answered, numbers_differ}

asked_by : (a : Answers) (t : Table) (g : Ledger) → Answered t g → Asked a t g
asked_by a t g h =
    record {
      terms = λ n ok.
          sym (at_some (λ j. (line_at t j).terms) places (found_line t (series_of a n)) (accepted (terms_refusals a t n) 3 refl ok))
          ∙ h.terms (series_of a n);
      lots = λ account n ok.
          h.lots (series_of a n) account
          (at_least_one account (or_parts (not (is_day n.expiry)) (not (is_number account)) (accepted (lots_refusals a t account n) 1 refl ok)).1)
          (accepted (lots_refusals a t account n) 3 refl ok)
          (accepted (lots_refusals a t account n) 4 refl ok);
      equity = λ account ok.
          h.equity account (at_least_one account (accepted (equity_refusals t account) 0 refl ok)) (accepted (equity_refusals t account) 1 refl ok);
    }

pub asked : (a : Answers) (cs : List Call) → Asked a (run a empty cs) (ledger_of a cs)
asked a cs = asked_by a (run a empty cs) (ledger_of a cs) (answered a cs)

pub rows_kept : (a : Answers) (cs : List Call) → RowsKept (run a empty cs)
rows_kept a cs = record { numbers_differ = numbers_differ a cs; unused = (holds_after a cs).well.spare }
