-- What holds of a book and its ledger after every list of calls.
use Rattle.std.specs.Prelude.{◌≡◌, ℕ, suc, ◌≤◌, Bool, false, cond, not, List, [], ◌∷◌, map, take, ℤ, pos, ◌+ℤ◌, ◌*ℤ◌, Some, None, Option, ◌==◌, nat_eq, slice_index, slice_index_or}
use Rattle.lookup.specs.Seek.{any_of}
use Rattle.terms.specs.Family.{Answers}
use Rattle.terms.specs.declared.code.Series.{Series}
use Rattle.terms.specs.declared.terms.Terms.{Terms}
use Rattle.rows.specs.Rows.{lots_in, holds, found_line, found_account, missing, place, row, line_at, account_at}
use Rattle.rows.specs.Listing.{clashes}
use Rattle.rows.specs.Calls.{refusal, step, run, empty}
use Rattle.rows.specs.declared.table.Place.{Place}
use Rattle.rows.specs.declared.table.Place.TheVariants.{Free, Taken}
use Rattle.rows.specs.declared.table.Account.{Account}
use Rattle.rows.specs.declared.table.Table.{Table}
use Rattle.rows.specs.declared.call.Call.{Call}
use Rattle.ledger.specs.Ledger.{Entry, Ledger, blank, total, is_named, posted}

-- the same things in another order
pub data Perm {X : Type 0} : List X → List X → Type 0 where
  none : Perm [] []
  keep : {x : X} {xs ys : List X} → Perm xs ys → Perm (x ∷ xs) (x ∷ ys)
  swap : {x y : X} {xs : List X} → Perm (x ∷ y ∷ xs) (y ∷ x ∷ xs)
  join : {xs ys zs : List X} → Perm xs ys → Perm ys zs → Perm xs zs

abbrev pub if_number : ℕ → (Account → ℤ) → Account → ℤ
if_number n f r = cond (r.number == n) (f r) (pos 0)

-- an account's lots in a place, and its equity, by its number
abbrev pub lots_of : List Account → ℕ → ℕ → ℤ
lots_of rows j n = total (if_number n (lots_in j)) rows

abbrev pub equity_of : List Account → ℕ → ℤ
equity_of rows n = total (if_number n (λ r. r.equity)) rows

-- the live lines of a book, each with its lots, as a ledger has them
abbrev pub view_from : List Account → ℕ → List Place → List Entry
view_from rows j [] = []
view_from rows j (Free ∷ ls) = view_from rows (suc j) ls
view_from rows j (Taken l ∷ ls) = (record { line = l; lots = lots_of rows j }) ∷ view_from rows (suc j) ls

abbrev pub view : Table → List Entry
view t = view_from t.accounts 0 t.lines

-- an account's lots at their carry
abbrev pub carry_worth : ℕ → Entry → ℤ
carry_worth n e = e.lots n *ℤ pos e.line.carry

-- in each line as many lots are bought as sold, and all equities add up to zero
pub record Balanced (t : Table) : Type 0 where
  pub lots : (j : ℕ) → total (lots_in j) t.accounts ≡ pos 0
  pub equity : total (λ r. r.equity) t.accounts ≡ pos 0

-- the book has the ledger's open accounts and, by name, its live lines; each equity is the account's
-- history sum and its lots at their carry over the live lines
pub record Agrees (t : Table) (g : Ledger) : Type 0 where
  pub accounts : map (λ r. r.number) (take t.count t.accounts) ≡ g.accounts
  pub lines : Perm (view t) g.lines
  pub equity : (n : ℕ) → equity_of t.accounts n ≡ g.sums n +ℤ total (carry_worth n) g.lines

-- no two live lines bear one name
abbrev pub NamesDiffer : List Place → Type 0
NamesDiffer [] = Unit {0}
NamesDiffer (Free ∷ ls) = NamesDiffer ls
NamesDiffer (Taken l ∷ ls) = (any_of (holds (Some l.terms.series)) ls ≡ false) × NamesDiffer ls

-- live lines of one prefix are of one stock, and those of one stock have one prefix
abbrev pub StocksAgree : List Place → Type 0
StocksAgree [] = Unit {0}
StocksAgree (Free ∷ ls) = StocksAgree ls
StocksAgree (Taken l ∷ ls) =
    (any_of (clashes l.terms.series.prefix l.terms.stock) ls ≡ false) × StocksAgree ls

-- nobody has lots in a free place
abbrev pub FreeEmpty : Table → Type 0
FreeEmpty t = (j : ℕ) → slice_index_or t.lines j Free ≡ Free → (i : ℕ) → lots_in j (account_at t i) ≡ pos 0

-- the places of a book are in order
pub record Orderly (t : Table) : Type 0 where
  pub names : NamesDiffer t.lines
  pub stocks : StocksAgree t.lines
  pub free : FreeEmpty t

-- no number above 0 stands at two indices: rows that are not in use have number 0
abbrev pub numbers : List Account → List ℕ
numbers rs = map (λ r. r.number) rs

abbrev pub NumbersDiffer : List ℕ → Type 0
NumbersDiffer ns = (i j : ℕ) → 1 ≤ slice_index ns i → slice_index ns i ≡ slice_index ns j → i ≡ j

-- which calls of a list are accepted
abbrev pub outcomes : Answers → Table → List Call → List Bool
outcomes a t [] = []
outcomes a t (c ∷ cs) = (refusal a t c == 0) ∷ outcomes a (step a t c) cs

-- the ledger of a list of calls, made on an empty book
abbrev pub ledger_of : Answers → List Call → Ledger
ledger_of a cs = posted a blank cs (outcomes a empty cs)

pub record Stands (a : Answers) (cs : List Call) : Type 0 where
  pub balanced : Balanced (run a empty cs)
  pub agrees : Agrees (run a empty cs) (ledger_of a cs)
  pub orderly : Orderly (run a empty cs)

-- the first entry of a name, and what it has
abbrev pub entry_named : Series → List Entry → Option Entry
entry_named k [] = None
entry_named k (e ∷ es) = cond (is_named k e) (Some e) (entry_named k es)

abbrev pub entry_terms : Option Entry → Option Terms
entry_terms None = None
entry_terms (Some e) = Some e.line.terms

abbrev pub entry_lots : Option Entry → ℕ → ℤ
entry_lots None n = pos 0
entry_lots (Some e) n = e.lots n

-- what stands at the index that was found
abbrev pub at_found : {X : Type 0} → (ℕ → X) → Option ℕ → Option X
at_found f None = None
at_found f (Some i) = Some (f i)

-- what the questions answer from a book is what its ledger has: terms and lots by name, equity, and
-- which accounts are open
pub record Answered (t : Table) (g : Ledger) : Type 0 where
  pub terms : (k : Series) → at_found (λ j. (line_at t j).terms) (found_line t k) ≡ entry_terms (entry_named k g.lines)
  pub lots :
      (k : Series) (n : ℕ) →
      1 ≤ n →
      missing (found_line t k) ≡ false →
      missing (found_account t n) ≡ false →
      lots_in (place t k) (account_at t (row t n)) ≡ entry_lots (entry_named k g.lines) n
  pub equity :
      (n : ℕ) →
      1 ≤ n →
      missing (found_account t n) ≡ false →
      (account_at t (row t n)).equity ≡ g.sums n +ℤ total (carry_worth n) g.lines
  pub accounts : (n : ℕ) → 1 ≤ n → not (missing (found_account t n)) ≡ any_of (λ m. nat_eq m n) g.accounts
