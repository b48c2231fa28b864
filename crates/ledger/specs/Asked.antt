-- What the questions answer, by their own definitions, is what the ledger has; and the rows of the
-- accounts are in order.
use Rattle.std.specs.Prelude.{◌≡◌, ℕ, ◌<◌, ◌≤◌, ◌+ℤ◌, Some}
use Rattle.terms.specs.Refusals.{first}
use Rattle.terms.specs.Family.{Answers}
use Rattle.terms.specs.declared.code.Name.{Name}
use Rattle.rows.specs.Rows.{rows, account_at}
use Rattle.rows.specs.Names.{series_of}
use Rattle.rows.specs.Opening.{new_account}
use Rattle.rows.specs.Questions.{terms_refusals, terms_answer, lots_refusals, lots_answer, equity_refusals, equity_answer}
use Rattle.rows.specs.declared.table.Table.{Table}
use Rattle.ledger.specs.Ledger.{Ledger, total}
use Rattle.ledger.specs.Agreement.{NumbersDiffer, numbers, entry_named, entry_terms, entry_lots, carry_worth}

pub record Asked (a : Answers) (t : Table) (g : Ledger) : Type 0 where
  -- the terms of the ledger's line of that name
  pub terms : (n : Name) → first (terms_refusals a t n) ≡ 0 → Some (terms_answer a t n) ≡ entry_terms (entry_named (series_of a n) g.lines)
  -- the account's lots in it
  pub lots : (account : ℕ) (n : Name) → first (lots_refusals a t account n) ≡ 0 → lots_answer a t account n ≡ entry_lots (entry_named (series_of a n) g.lines) account
  -- the account's history sum and its lots at their carry
  pub equity : (account : ℕ) → first (equity_refusals t account) ≡ 0 → equity_answer t account ≡ g.sums account +ℤ total (carry_worth account) g.lines

-- no two accounts have one number, and the rows behind the open accounts are not in use
pub record RowsKept (t : Table) : Type 0 where
  pub numbers_differ : NumbersDiffer (numbers t.accounts)
  pub unused : (i : ℕ) → t.count ≤ i → i < rows → account_at t i ≡ new_account 0
