-- Why a call is turned down: each reason's number, and which one is given.
use Rattle.std.specs.Prelude.{◌≡◌, ℕ, ◌≤◌, Bool, true, false, cond, ◌&&◌, ◌||◌, List, [], ◌∷◌, Ok, Err, Result, ◌==◌, nat_lt}
use Rattle.terms.specs.declared.refusal.Refusal.{Refusal}
use Rattle.terms.specs.declared.refusal.Refusal.TheVariants.{Malformed, OutsideUnits, Misfit, IllFormedEvent, SameAccount, DeadlineOutOfOrder, NoReferencePrice, UnknownMark, CutShort, UnknownBook, DayPassed, NoLine, NameTaken, PrefixConflict, LinesFull, AccountNotOpen, AccountOpen, AccountsFull, WrongSideOfExpiry, LapsedLine, LevelPastNine, LotOutsideLimits, ClaimInTheWay, NoClaimToFix, ClaimNotFixed, LotsPastLimit, EquityPastLimit}

abbrev pub number_of : Refusal → ℕ
number_of Malformed = 1
number_of OutsideUnits = 2
number_of Misfit = 3
number_of IllFormedEvent = 4
number_of SameAccount = 5
number_of DeadlineOutOfOrder = 6
number_of NoReferencePrice = 7
number_of UnknownMark = 8
number_of CutShort = 9
number_of UnknownBook = 10
number_of DayPassed = 11
number_of NoLine = 12
number_of NameTaken = 13
number_of PrefixConflict = 14
number_of LinesFull = 15
number_of AccountNotOpen = 16
number_of AccountOpen = 17
number_of AccountsFull = 18
number_of WrongSideOfExpiry = 19
number_of LapsedLine = 20
number_of LevelPastNine = 21
number_of LotOutsideLimits = 22
number_of ClaimInTheWay = 23
number_of NoClaimToFix = 24
number_of ClaimNotFixed = 25
number_of LotsPastLimit = 26
number_of EquityPastLimit = 27

-- the number a call answers with: 0 where it was accepted
abbrev pub answer : {X : Type 0} → Result X Refusal → ℕ
answer (Ok x) = 0
answer (Err e) = number_of e

-- of the numbers whose condition holds the first one, or 0; lists of them are in rising order,
-- so that the smallest number that fits is given
abbrev pub first : List (ℕ × Bool) → ℕ
first [] = 0
first (x ∷ xs) = cond x.1 x.0 (first xs)

-- whether the numbers of a list rise, each above the one before it and the first above k
abbrev pub rise_from : ℕ → List (ℕ × Bool) → Bool
rise_from k [] = true
rise_from k (x ∷ xs) = nat_lt k x.0 && rise_from x.0 xs

-- whether a number fits: its condition holds
abbrev pub fits : ℕ → List (ℕ × Bool) → Bool
fits n [] = false
fits n (x ∷ xs) = (x.0 == n && x.1) || fits n xs

-- n is the smallest number that fits, or 0 where none does
pub record Smallest (n : ℕ) (xs : List (ℕ × Bool)) : Type 0 where
  pub none : n ≡ 0 → (m : ℕ) → fits m xs ≡ false
  pub fitting : 1 ≤ n → fits n xs ≡ true
  pub least : (m : ℕ) → fits m xs ≡ true → n ≤ m

-- what holds of the value of an accepted call
abbrev pub Accepted : {X : Type 0} → Result X Refusal → (X → Type 0) → Type 0
Accepted (Ok x) P = P x
Accepted (Err e) P = Unit {0}
