-- A book that is the run of a list of calls keeps every promise.
use Rattle.std.proofs.Common.{◌≡◌, List, sym, subst}
use Rattle.terms.specs.Family.{Answers, Law}
use Rattle.rows.specs.Calls.{empty, run}
use Rattle.rows.specs.declared.table.Table.{Table}
use Rattle.rows.specs.declared.call.Call.{Call}
use Rattle.ledger.specs.Promises.{Promises}
use Rattle.ledger.proofs.Main.{stands}
use Rattle.ledger.proofs.Answered.{answered}
use Rattle.ledger.proofs.Questions.{asked, rows_kept}
use Rattle.ledger.proofs.WorthsKept.{worths_kept}

pub promises : (a : Answers) → Law a → (cs : List Call) (t : Table) → t ≡ run a empty cs → Promises a cs t
promises a law cs t e =
    let s = stands a cs in
    subst (λ (x : Table). Promises a cs x) (sym e)
    (record {
      balanced = s.balanced;
      agrees = s.agrees;
      answered = answered a cs;
      asked = asked a cs;
      orderly = s.orderly;
      rows = rows_kept a cs;
      worth = worths_kept a law empty cs;
    })
