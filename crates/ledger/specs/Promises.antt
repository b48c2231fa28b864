-- All that holds of the book that a list of calls leaves, by the names of the promises.
use Rattle.terms.specs.Family.{Answers}
use Rattle.rows.specs.Calls.{empty}
use Rattle.rows.specs.declared.table.Table.{Table}
use Rattle.rows.specs.declared.call.Call.{Call}
use Rattle.ledger.specs.Agreement.{Balanced, Agrees, Answered, Orderly, ledger_of}
use Rattle.ledger.specs.Asked.{Asked, RowsKept}
use Rattle.ledger.specs.Worths.{WorthsKept}
use Rattle.std.specs.Prelude.{List}

pub record Promises (a : Answers) (cs : List Call) (t : Table) : Type 0 where
  pub balanced : Balanced t
  pub agrees : Agrees t (ledger_of a cs)
  pub answered : Answered t (ledger_of a cs)
  pub asked : Asked a t (ledger_of a cs)
  pub orderly : Orderly t
  pub rows : RowsKept t
  -- of every adjustment on the way to this book
  pub worth : WorthsKept a empty cs
