-- What every run keeps of its table, besides balance and agreement.
use Rattle.std.proofs.Common.{◌≡◌, ℕ, ◌<◌, ◌≤◌, List, map, length, get_or, take, set, ℤ, pos, refl, arith}
use Rattle.std.proofs.lemmas.Grind.{common_steps}
use Rattle.std.proofs.lemmas.List.{take-map}
use Rattle.terms.specs.declared.code.Series.{Series}
use Rattle.terms.specs.Family.{Answers}
use Rattle.rows.specs.Rows.{places, rows, lots_in, no_account, place, line_at, account_at}
use Rattle.rows.specs.Opening.{new_account}
use Rattle.rows.specs.declared.table.Account.{Account}
use Rattle.rows.specs.declared.table.Table.{Table}
use Rattle.ledger.specs.Ledger.{Entry, Ledger, total, is_named, if_so}
use Rattle.ledger.specs.Agreement.{Balanced, Agrees, Orderly, NumbersDiffer, numbers}
use Rattle.ledger.proofs.Sums.{total_perm}
use Rattle.ledger.proofs.At.{map_at, replicate_at}
use Rattle.ledger.proofs.Found.{Live}
use Rattle.ledger.proofs.Views.{entry, view_pick}
use Rattle.ledger.proofs.Listed.{Nameless}

-- all places and rows are there, unused rows are blank, the places are in order, lines have names if
-- the family can read them, and account numbers differ
pub record Well (a : Answers) (t : Table) : Type 0 where
  pub lines : length t.lines ≡ places
  pub accounts : length t.accounts ≡ rows
  pub lots : (i : ℕ) → i < rows → length (account_at t i).lots ≡ places
  pub spare : (i : ℕ) → t.count ≤ i → i < rows → account_at t i ≡ new_account 0
  pub orderly : Orderly t
  pub nameless : Nameless a t.lines
  pub numbers : NumbersDiffer (numbers t.accounts)

-- what holds of a table and its ledger along a run
pub record Holds (a : Answers) (t : Table) (g : Ledger) : Type 0 where
  pub well : Well a t
  pub balanced : Balanced t
  pub agrees : Agrees t g

-- a new account has nothing
pub no_lots : (j n : ℕ) → lots_in j (new_account n) ≡ pos 0
no_lots j n = replicate_at (λ (z : ℤ). z ≡ pos 0) (pos 0) refl (pos 0) refl places j

-- the number in a row
pub number_at : (rs : List Account) (i : ℕ) → get_or (numbers rs) i 0 ≡ (get_or rs i no_account).number
number_at = map_at (λ r. r.number) no_account 0 refl

-- rows with the same numbers have the same open accounts
pub same_open : (c : ℕ) (rs rs' : List Account) → numbers rs' ≡ numbers rs → map (λ (r : Account). r.number) (take c rs') ≡ map (λ (r : Account). r.number) (take c rs)
same_open c rs rs' e = cc (take-map (λ (r : Account). r.number) c rs', take-map (λ (r : Account). r.number) c rs)

-- a sum over the ledger's entries of a name is that of the line
pub pick : {a : Answers} (t : Table) (g : Ledger) (k : Series) → Holds a t g → Live t k → (f : Entry → ℤ) → total (if_so (is_named k) f) g.lines ≡ f (entry t.accounts (place t k) (line_at t (place t k)))
pick {a} t g k h found f =
    cc (
      total_perm (if_so (is_named k) f) h.agrees.lines,
      view_pick t.accounts k f (place t k) (line_at t (place t k)) found.named 0 t.lines (place t k) h.well.orderly.names found.taken (omega arith),
    )

-- a new number keeps numbers different
module _ (ns : List ℕ) (c n : ℕ) (within : c < length ns) (new : (j : ℕ) → get_or ns j 0 ≡ n → ⊥) (differ : NumbersDiffer ns) where
  pub differ_set : NumbersDiffer (set ns c n)
  differ_set i j h e = grind (arith, common_steps, new, differ)
