-- Sums of the lengths of years and months.
use Rattle.std.proofs.Common.{◌≡◌, ℕ, zero, suc, ◌+◌, ◌-◌, ◌*◌, ◌/◌, ◌^◌, ◌<◌, ◌≤◌, true, false, cond, map, Some, sym, refl, ap, ◌∙◌, subst, inl, inr, add-one, arith}
use Rattle.notation.specs.Calendar.{leap, year_length, month_length, total, days_before_year, days_before_month, to_day}
use Rattle.notation.specs.declared.dates.Date.{Date}
use Rattle.std.proofs.lemmas.Bool.{cases_lt, cases_eq, cases_order}
use Rattle.std.proofs.lemmas.Bool.Decides.{nat_tests}
use Rattle.std.proofs.lemmas.List.FromFn.{sum_by-map-range_with_len_more}
use Rattle.std.specs.List.{range_with_len, sum}

pub before_month_more : (y m : ℕ) → 1 ≤ m → days_before_month y (m + 1) ≡ days_before_month y m + month_length y m
before_month_more y m h =
    let next : m + 1 - 1 ≡ suc (m - 1) = omega arith in
    let this : 1 + (m - 1) ≡ m = omega arith in
    ap (total (λ n. month_length y (1 + n))) next ∙ ap (λ x. days_before_month y m + month_length y x) this

pub month_short : (y m : ℕ) → month_length y m ≤ 31
month_short y m = grind (arith, nat_tests)

-- the lengths of the first months of a year, as a list
pub months_listed : (y n : ℕ) → sum (map (month_length y) (range_with_len 1 n)) ≡ total (λ k. month_length y (1 + k)) n
months_listed y zero = refl
months_listed y (suc n) =
    let more = sum_by-map-range_with_len_more (λ x. x) (month_length y) 1 n (1 + n) refl in
    rw add-one at more ∙ ap (λ x. x + month_length y (1 + n)) (months_listed y n)

pub months_short : (y n : ℕ) → total (λ k. month_length y (1 + k)) n ≤ 31 * n
months_short y zero = omega arith
months_short y (suc n) = omega (arith, months_short y n, month_short y (1 + n))

-- the leap years among n years from 2000 on
leap_step : (n : ℕ) → year_length (2000 + n) + (suc n + 99) / 100 + (n + 3) / 4 + (n + 399) / 400 ≡ 365 + (n + 99) / 100 + (suc n + 3) / 4 + (suc n + 399) / 400
leap_step n = grind (arith, nat_tests)

years : (n : ℕ) → total (λ k. year_length (2000 + k)) n + (n + 99) / 100 ≡ 365 * n + (n + 3) / 4 + (n + 399) / 400
years zero = refl
years (suc n) = omega (arith, years n, leap_step n)

less : (a b c : ℕ) → a + c ≡ b → b - c ≡ a
less a b c e = omega arith

pub years_counted : (n : ℕ) → 365 * n + (n + 3) / 4 + (n + 399) / 400 - (n + 99) / 100 ≡ total (λ k. year_length (2000 + k)) n
years_counted n =
    less (total (λ k. year_length (2000 + k)) n) (365 * n + (n + 3) / 4 + (n + 399) / 400) ((n + 99) / 100) (years n)

twelve_months : (y : ℕ) → days_before_month y 13 ≡ year_length y
twelve_months y =
    elim (leap y) as (λ b. 31 + cond b 29 28 + 31 + 30 + 31 + 30 + 31 + 31 + 30 + 31 + 30 + 31 ≡ cond b 366 365)
    [ true ↦ refl | false ↦ refl ]

-- no month follows December
pub month_left : (y m rest : ℕ) → m ≤ 12 → month_length y m ≤ rest → days_before_month y m + rest < year_length y → m < 12
month_left y m rest last over within =
    elim (cases_eq m 12) [
      | inl e ↦
          let december : days_before_month y m + month_length y m ≡ days_before_month y 13 =
          ap (λ k. days_before_month y k + month_length y k) e in
          omega (arith, twelve_months y)
      | inr other ↦ omega arith
    ]

-- a sum and what is left of its next term are known from their sum
total_below : (f : ℕ → ℕ) (a b : ℕ) → a < b → total f a + f a ≤ total f b
total_below f a zero h = let none : ⊥ = omega arith in absurd none
total_below f a (suc b) h =
    elim (cases_lt a b) [
      | inl less ↦ omega (arith, total_below f a b less)
      | inr more ↦ let same : a ≡ b = omega arith in omega (arith, ap (λ n. total f n + f n) same)
    ]

total_splits : (f : ℕ → ℕ) (a b r s : ℕ) → r < f a → s < f b → total f a + r ≡ total f b + s → a ≡ b
total_splits f a b r s hr hs e =
    elim (cases_order a b) [
      | inl same ↦ same
      | inr (inl less) ↦ let none : ⊥ = omega (arith, total_below f a b less) in absurd none
      | inr (inr more) ↦ let none : ⊥ = omega (arith, total_below f b a more) in absurd none
    ]

-- what a date is where it has a day
pub record Real (y m d n : ℕ) : Type 0 where
  pub year : 2000 ≤ y
  pub month_first : 1 ≤ m
  pub month_last : m ≤ 12
  pub day_first : 1 ≤ d
  pub day_last : d ≤ month_length y m
  pub sum : days_before_year y + days_before_month y m + (d - 1) ≡ n
  pub fits : n < 2 ^ 16

abbrev pub date : ℕ → ℕ → ℕ → Date
date y m d = record { year = y; month = m; day = d }

real_from : (y m d n : ℕ) → to_day (date y m d) ≡ Some n → Real y m d n
real_from y m d n e = record {
  year = grind (arith, nat_tests);
  month_first = grind (arith, nat_tests);
  month_last = grind (arith, nat_tests);
  day_first = grind (arith, nat_tests);
  day_last = grind (arith, nat_tests);
  sum = grind (arith, nat_tests);
  fits = grind (arith, nat_tests);
}

within_year : (y m d n : ℕ) → Real y m d n → days_before_month y m + (d - 1) < year_length y
within_year y m d n r =
    let this : 1 + (m - 1) ≡ m = omega arith in
    omega (arith, total_below (λ k. month_length y (1 + k)) (m - 1) 12 (omega arith), ap (month_length y) this, twelve_months y)

same_year : (y m d y' m' d' n : ℕ) → Real y m d n → Real y' m' d' n → y ≡ y'
same_year y m d y' m' d' n r r' =
    let this : 2000 + (y - 2000) ≡ y = omega arith in
    let that : 2000 + (y' - 2000) ≡ y' = omega arith in
    let same : y - 2000 ≡ y' - 2000 =
    total_splits (λ k. year_length (2000 + k)) (y - 2000) (y' - 2000) (days_before_month y m + (d - 1)) (days_before_month y' m' + (d' - 1))
    (omega (arith, within_year y m d n r, ap year_length this))
    (omega (arith, within_year y' m' d' n r', ap year_length that))
    (omega arith) in
    omega arith

same_month : (y m d m' d' n : ℕ) → Real y m d n → Real y m' d' n → m ≡ m'
same_month y m d m' d' n r r' =
    let this : 1 + (m - 1) ≡ m = omega arith in
    let that : 1 + (m' - 1) ≡ m' = omega arith in
    let same : m - 1 ≡ m' - 1 =
    total_splits (λ k. month_length y (1 + k)) (m - 1) (m' - 1) (d - 1) (d' - 1)
    (omega (arith, ap (month_length y) this))
    (omega (arith, ap (month_length y) that))
    (omega arith) in
    omega arith

same_day : (y m d d' n : ℕ) → Real y m d n → Real y m d' n → d ≡ d'
same_day y m d d' n r r' = omega arith

same_date : (y m d y' m' d' n : ℕ) → Real y m d n → Real y' m' d' n → date y m d ≡ date y' m' d'
same_date y m d y' m' d' n r r' =
    let ey = same_year y m d y' m' d' n r r' in
    let ry = subst (λ x. Real x m' d' n) (sym ey) r' in
    let em = same_month y m d m' d' n r ry in
    let rm = subst (λ x. Real y x d' n) (sym em) ry in
    let ed = same_day y m d d' n r rm in
    cc

-- a day has one date
pub one_date : (a b : Date) (n : ℕ) → to_day a ≡ Some n → to_day b ≡ Some n → a ≡ b
one_date a b n e f =
    same_date a.year a.month a.day b.year b.month b.day n
    (real_from a.year a.month a.day n e)
    (real_from b.year b.month b.day n f)
