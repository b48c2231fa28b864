-- What the arithmetic of one row needs: lots, equity and two values within their limits.
use Rattle.std.specs.Prelude.{ℕ, ◌≤◌, unsigned_abs}
use Rattle.terms.specs.Units.{largest_value, most_lots, most_equity}
use Rattle.rows.specs.Rows.{lots_in}
use Rattle.rows.specs.declared.table.Account.{Account}

pub record Held (r : Account) (j from to : ℕ) : Type 0 where
  pub lots : unsigned_abs (lots_in j r) ≤ most_lots
  pub equity : unsigned_abs r.equity ≤ most_equity
  pub old : from ≤ largest_value
  pub new : to ≤ largest_value
