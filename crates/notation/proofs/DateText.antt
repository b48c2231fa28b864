-- The parts of a written date, as `read_date` reads them.
use Rattle.std.proofs.Common.{◌≡◌, ℕ, Bool, true, false, cond, List, Some, None, Option, sym, refl, ap, ◌∙◌, arith}
use Rattle.notation.proofs.Days.{date}
use Rattle.notation.specs.Calendar.{to_day, dashed, year_part, month_part, day_part, written_date, read_date}
use Rattle.notation.specs.Decimal.{numeral, number}
use Rattle.std.proofs.lemmas.Bool.{and_from, cond-true}

part_is : (b : Bool) (n m : ℕ) → Some m ≡ cond b (Some n) None → (b ≡ true) × (m ≡ n)
part_is true n m e = (refl, grind arith)
part_is false n m e = let none : ⊥ = grind arith in absurd none

-- a part of a written date, as it is read
abbrev Part : List ℕ → Option ℕ → Type 0
Part text r = r ≡ cond (numeral text) (Some (number 0 text)) None

pub read_parts : (text : List ℕ) (y m d : ℕ) → dashed text ≡ true → Part (year_part text) (Some y) → Part (month_part text) (Some m) → Part (day_part text) (Some d) → to_day (date y m d) ≡ read_date text
read_parts text y m d dashes ey em ed =
    let py = part_is (numeral (year_part text)) (number 0 (year_part text)) y ey in
    let pm = part_is (numeral (month_part text)) (number 0 (month_part text)) m em in
    let pd = part_is (numeral (day_part text)) (number 0 (day_part text)) d ed in
    let same : date y m d ≡ written_date text = cc (py.1, pm.1, pd.1) in
    ap to_day same
    ∙ sym (cond-true _ (to_day (written_date text)) None (and_from _ _ dashes (and_from _ _ py.0 (and_from _ _ pm.0 pd.0))))
