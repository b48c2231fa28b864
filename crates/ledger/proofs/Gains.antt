-- Rows after every account has gained by its lots.
use Rattle.std.proofs.Common.{◌≡◌, ℕ, cond, eqb, List, [], ◌∷◌, map, length, get_or, take, ℤ, pos, ◌+ℤ◌, ◌*ℤ◌, sym, refl, ◌∙◌, subst, ap₂}
use lib.IntN.{zero-*ℤ}
use Rattle.std.proofs.lemmas.List.{length-map}
use Rattle.terms.specs.Family.{Answers}
use Rattle.rows.specs.Rows.{places, lots_in, no_account, account_at}
use Rattle.rows.specs.Opening.{new_account}
use Rattle.rows.specs.declared.table.Account.{Account}
use Rattle.rows.specs.declared.table.Place.{Place}
use Rattle.rows.specs.declared.table.Table.{Table}
use Rattle.ledger.specs.Ledger.{total}
use Rattle.ledger.specs.Agreement.{Orderly, NumbersDiffer, if_number, lots_of, equity_of, numbers}
use Rattle.ledger.proofs.Ring.{first_alone, if_plus, if_times}
use Rattle.ledger.proofs.Sums.{total_ext, total_add, total_mul, total_map}
use Rattle.ledger.proofs.At.{map_at}
use Rattle.ledger.proofs.Listed.{Nameless}
use Rattle.ledger.proofs.Well.{Well, no_lots, same_open}

-- an account keeps its number and its places, and one that has no lots is as it was
pub record Gains (F : Account → Account) (gain : Account → ℤ) : Type 0 where
  pub number : (r : Account) → (F r).number ≡ r.number
  pub equity : (r : Account) → (F r).equity ≡ r.equity +ℤ gain r
  pub lots : (r : Account) → length (F r).lots ≡ length r.lots
  pub unheld : (r : Account) → ((j : ℕ) → lots_in j r ≡ pos 0) → F r ≡ r

module _ {F : Account → Account} {gain : Account → ℤ} (gains : Gains F gain) where
  numbers_gained : (rs : List Account) → numbers (map F rs) ≡ numbers rs
  numbers_gained [] = refl
  numbers_gained (r ∷ rs) = ap₂ (λ (n : ℕ) (ns : List ℕ). n ∷ ns) (gains.number r) (numbers_gained rs)

  pub open_gained : (c : ℕ) (rs : List Account) → map (λ (r : Account). r.number) (take c (map F rs)) ≡ map (λ (r : Account). r.number) (take c rs)
  open_gained c rs = same_open c rs (map F rs) (numbers_gained rs)

  pub row_gained : (rs : List Account) (i : ℕ) → get_or (map F rs) i no_account ≡ F (get_or rs i no_account)
  row_gained = map_at F no_account no_account (gains.unheld no_account (λ j. refl))

  -- by account number, and all together
  pub equity_gained : (rs : List Account) (n : ℕ) → equity_of (map F rs) n ≡ equity_of rs n +ℤ total (if_number n gain) rs
  equity_gained rs n =
      total_map (if_number n (λ r. r.equity)) F rs
      ∙ (total_ext (λ r. if_number n (λ r. r.equity) (F r)) (λ r. if_number n (λ r. r.equity) r +ℤ if_number n gain r)
      (λ r. ap₂ (λ (m : ℕ) (z : ℤ). cond (eqb m n) z (pos 0)) (gains.number r) (gains.equity r) ∙ if_plus (eqb r.number n) r.equity (gain r)) rs
      ∙ total_add (if_number n (λ r. r.equity)) (if_number n gain) rs)

  pub total_gained : (rs : List Account) → total gain rs ≡ pos 0 → total (λ r. r.equity) (map F rs) ≡ total (λ r. r.equity) rs
  total_gained rs none =
      total_map (λ r. r.equity) F rs
      ∙ (total_ext (λ r. (F r).equity) (λ r. r.equity +ℤ gain r) gains.equity rs
      ∙ (total_add (λ r. r.equity) gain rs ∙ first_alone (total (λ r. r.equity) rs) (total gain rs) _ refl none))

  -- a table with such rows and other lines
  pub well_gained : {a : Answers} (t : Table) → Well a t → (ls : List Place) (day : ℕ) → length ls ≡ places → Nameless a ls → Orderly (record { lines = ls; accounts = map F t.accounts; count = t.count; day = day }) → Well a (record { lines = ls; accounts = map F t.accounts; count = t.count; day = day })
  well_gained t w ls day lines nameless orderly =
      record {
        lines = lines;
        accounts = length-map t.accounts F ∙ w.accounts;
        lots = λ i b. cc (row_gained t.accounts i, gains.lots (account_at t i), w.lots i b);
        spare = λ i c b. cc (row_gained t.accounts i, w.spare i c b, gains.unheld (new_account 0) (λ j. no_lots j 0));
        orderly = orderly;
        nameless = nameless;
        numbers = subst (λ (ns : List ℕ). NumbersDiffer ns) (sym (numbers_gained t.accounts)) w.numbers;
      }

-- as much for each lot in a place: as many are bought as sold
module _ (p : ℕ) (d : ℤ) (rs : List Account) where
  pub by_lots : (n : ℕ) → total (if_number n (λ r. lots_in p r *ℤ d)) rs ≡ lots_of rs p n *ℤ d
  by_lots n =
      total_ext (if_number n (λ r. lots_in p r *ℤ d)) (λ r. if_number n (lots_in p) r *ℤ d) (λ r. if_times (eqb r.number n) (lots_in p r) d) rs
      ∙ total_mul (if_number n (lots_in p)) d rs

  pub none_in_all : total (lots_in p) rs ≡ pos 0 → total (λ r. lots_in p r *ℤ d) rs ≡ pos 0
  none_in_all e = cc (total_mul (lots_in p) d rs, zero-*ℤ d)
