-- What an event books: bounds of the dollars for a lot, and the sum over the places of a row.
use Rattle.std.proofs.Common.{◌≡◌, ℕ, zero, suc, ◌+◌, ◌*◌, ◌<◌, ◌≤◌, Bool, true, false, cond, List, [], ◌∷◌, map, length, get_or, drop, ℤ, pos, ◌+ℤ◌, ◌*ℤ◌, nat_abs, sym, refl, ap, ◌∙◌, add-one, arith}
use Rattle.std.proofs.lemmas.Int.{ints}
use Rattle.std.proofs.lemmas.Bool.{and_parts, and_from, le-leb, leb-true}
use Rattle.sweep.specs.Sweep.{all_of}
use Rattle.sweep.proofs.Every.{all_at}
use Rattle.terms.specs.Units.{largest_units, largest_cash}
use Rattle.terms.specs.Events.{event_outside}
use Rattle.terms.specs.Family.{Answers, Law}
use Rattle.terms.specs.Adjust.{takes_in, cash_amount, booked_part}
use Rattle.terms.specs.declared.event.Event.{Event}
use Rattle.terms.specs.declared.terms.Terms.{Terms}
use Rattle.terms.proofs.Bounds.{share_in}
use Rattle.terms.specs.Tests.{terms_parts, event_parts}
use Rattle.rows.specs.Fits.{few, largest_entry, line_fits, entry_fits}
use Rattle.rows.specs.Trade.{change}
use Rattle.rows.specs.Adjustment.{entry, credit}
use Rattle.rows.specs.declared.table.Place.{Place}
use Rattle.rows.specs.declared.table.Place.TheVariants.{Free, Taken}
use Rattle.rows.proofs.Ints.{mul_in, abs_add}
use Rattle.rows.proofs.Sound.{taken_fits}

-- what is booked is no more than the cash amount
module _ (a : Answers) (law : Law a) (day : ℕ) (e : Event) (inside : event_outside e ≡ false) where
  booked_in : (t : Terms) → t.units ≤ largest_units → booked_part a e t ≤ largest_entry
  booked_in t h =
      let amount : cash_amount e t.units ≤ largest_entry =
      share_in t.units e.cash largest_units largest_cash 10000000000 largest_entry h (event_parts e inside).cash (omega arith) in
      omega (arith, law.parts (cash_amount e t.units))

  either_in : (b : Bool) (n : ℕ) → n ≤ largest_entry → cond b n 0 ≤ largest_entry
  either_in true n h = h
  either_in false n h = omega arith

  entry_in : (o : Place) → line_fits o ≡ true → entry_fits (entry a day e o) ≡ true
  entry_in Free h = refl
  entry_in (Taken l) h =
      le-leb (entry a day e (Taken l)) largest_entry
      (either_in (takes_in day e l.terms) (booked_part a e l.terms) (booked_in l.terms (terms_parts l.terms (taken_fits (Taken l) l refl h)).units_most))

  pub entries_in : (lines : List Place) → all_of line_fits lines ≡ true → all_of entry_fits (map (entry a day e) lines) ≡ true
  entries_in [] h = refl
  entries_in (o ∷ lines) h =
      let p = and_parts (line_fits o) (all_of line_fits lines) h in
      and_from (entry_fits (entry a day e o)) (all_of entry_fits (map (entry a day e) lines)) (entry_in o p.0) (entries_in lines p.1)

-- the sum of a row, place by place
credit_step : (ns : List ℤ) (ds : List ℕ) (j : ℕ) → j < length ns → j < length ds → credit (drop j ns) (drop j ds) ≡ get_or ns j (pos 0) *ℤ pos (get_or ds j 0 * 1000000) +ℤ credit (drop (suc j) ns) (drop (suc j) ds)
credit_step [] ds j h k = absurd (omega arith)
credit_step (n ∷ ns) [] j h k = absurd (omega arith)
credit_step (n ∷ ns) (d ∷ ds) zero h k = refl
credit_step (n ∷ ns) (d ∷ ds) (suc j) h k = credit_step ns ds j (omega arith) (omega arith)

from_zero : (n : ℕ) → change 0 n ≡ pos n
from_zero n = omega (arith, ints)

regroup : (sum x y w s' : ℤ) → sum +ℤ (x +ℤ y) ≡ w → s' ≡ sum +ℤ x → s' +ℤ y ≡ w
regroup sum x y w s' p q = omega (arith, ints)

module _ (ns : List ℤ) (ds : List ℕ) (j : ℕ) (in_ns : j < length ns) (in_ds : j < length ds) where
  abbrev pub part : ℤ
  part = get_or ns j (pos 0) *ℤ change 0 (get_or ds j 0 * 1000000)

  part_is : part ≡ get_or ns j (pos 0) *ℤ pos (get_or ds j 0 * 1000000)
  part_is = ap (λ (z : ℤ). get_or ns j (pos 0) *ℤ z) (from_zero (get_or ds j 0 * 1000000))

  pub credit_more : (sum sum' : ℤ) → sum +ℤ credit (drop j ns) (drop j ds) ≡ credit ns ds → sum' ≡ sum +ℤ part → sum' +ℤ credit (drop (j + 1) ns) (drop (j + 1) ds) ≡ credit ns ds
  credit_more sum sum' h e =
      rw add-one
      (regroup sum part (credit (drop (suc j) ns) (drop (suc j) ds)) (credit ns ds) sum'
      (ap (λ (z : ℤ). sum +ℤ z)
      (ap (λ (z : ℤ). z +ℤ credit (drop (suc j) ns) (drop (suc j) ds)) part_is ∙ sym (credit_step ns ds j in_ns in_ds)) ∙ h)
      e)

  pub part_in : all_of few ns ≡ true → all_of entry_fits ds ≡ true → nat_abs part ≤ 80000000000000000
  part_in f s =
      let lots = leb-true _ 4000 (all_at few ns j (pos 0) refl f) in
      let dollars = leb-true _ 20000000 (all_at entry_fits ds j 0 refl s) in
      let micros : nat_abs (change 0 (get_or ds j 0 * 1000000)) ≤ 20000000000000 = omega (arith, ap nat_abs (from_zero (get_or ds j 0 * 1000000))) in
      mul_in (get_or ns j (pos 0)) (change 0 (get_or ds j 0 * 1000000)) 4000 20000000000000 lots micros

pub sum_in : (j : ℕ) (sum part sum' : ℤ) → nat_abs sum ≤ j * 80000000000000000 → nat_abs part ≤ 80000000000000000 → sum' ≡ sum +ℤ part → nat_abs sum' ≤ (j + 1) * 80000000000000000
sum_in j sum part sum' h k e = omega (arith, ap nat_abs e, abs_add sum part)
