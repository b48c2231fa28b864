-- The credits of all rows, added up by place: rows then places, or places then rows.
use Rattle.std.proofs.Common.{◌≡◌, ℕ, suc, ◌*◌, Bool, cond, List, [], ◌∷◌, map, get_or, ℤ, pos, ◌+ℤ◌, ◌*ℤ◌, sym, refl, ap, ◌∙◌, ap₂, arith}
use Rattle.std.proofs.lemmas.Int.{ints}
use lib.IntN.{*ℤ-zero, zero-*ℤ}
use Rattle.terms.specs.Family.{Answers}
use Rattle.terms.specs.Adjust.{takes_in, booked_part}
use Rattle.terms.specs.declared.event.Event.{Event}
use Rattle.rows.specs.Rows.{lots_in, no_account}
use Rattle.rows.specs.Adjustment.{entry, credit}
use Rattle.rows.specs.declared.table.Account.{Account}
use Rattle.rows.specs.declared.table.Place.{Place}
use Rattle.rows.specs.declared.table.Place.TheVariants.{Free, Taken}
use Rattle.ledger.specs.Ledger.{total, booked}
use Rattle.ledger.specs.Agreement.{lots_of, view_from}
use Rattle.ledger.proofs.Ring.{second_alone, if_zero, if_plus, if_times}
use Rattle.ledger.proofs.Sums.{total_ext, total_add, total_mul, total_none}

-- lots by place, from a place on, each with the dollars of its place
abbrev pub spread : (ℕ → ℤ) → ℕ → List ℕ → ℤ
spread f j [] = pos 0
spread f j (d ∷ ds) = f j *ℤ pos (d * 1000000) +ℤ spread f (suc j) ds

spread_next : (f : ℕ → ℤ) (j : ℕ) (ds : List ℕ) → spread (λ i. f (suc i)) j ds ≡ spread f (suc j) ds
spread_next f j [] = refl
spread_next f j (d ∷ ds) = ap (λ (z : ℤ). f (suc j) *ℤ pos (d * 1000000) +ℤ z) (spread_next f (suc j) ds)

-- no lots, no credit
pub spread_none : (f : ℕ → ℤ) → ((j : ℕ) → f j ≡ pos 0) → (j : ℕ) (ds : List ℕ) → spread f j ds ≡ pos 0
spread_none f e j [] = refl
spread_none f e j (d ∷ ds) =
    second_alone (f j *ℤ pos (d * 1000000)) (spread f (suc j) ds) (pos 0)
    (ap (λ (z : ℤ). z *ℤ pos (d * 1000000)) (e j) ∙ zero-*ℤ (pos (d * 1000000))) (spread_none f e (suc j) ds)

pub credit_is : (ns : List ℤ) (ds : List ℕ) → credit ns ds ≡ spread (λ j. get_or ns j (pos 0)) 0 ds
credit_is [] ds = sym (spread_none (λ j. pos 0) (λ j. refl) 0 ds)
credit_is (n ∷ ns) [] = refl
credit_is (n ∷ ns) (d ∷ ds) =
    ap (λ (z : ℤ). n *ℤ pos (d * 1000000) +ℤ z)
    (credit_is ns ds ∙ spread_next (λ j. get_or (n ∷ ns) j (pos 0)) 0 ds)

-- over some of the rows
module _ (p : Account → Bool) (rs : List Account) where
  abbrev lots_at : ℕ → ℤ
  lots_at j = total (λ r. cond (p r) (lots_in j r) (pos 0)) rs

  exchange : (j : ℕ) (ds : List ℕ) → total (λ r. cond (p r) (spread (λ i. lots_in i r) j ds) (pos 0)) rs ≡ spread lots_at j ds
  exchange j [] = total_none (λ r. cond (p r) (pos 0) (pos 0)) no_account rs (λ i c. if_zero (p (get_or rs i no_account)) (pos 0) refl)
  exchange j (d ∷ ds) =
      total_ext (λ r. cond (p r) (spread (λ i. lots_in i r) j (d ∷ ds)) (pos 0)) (λ r. cond (p r) (lots_in j r) (pos 0) *ℤ pos (d * 1000000) +ℤ cond (p r) (spread (λ i. lots_in i r) (suc j) ds) (pos 0)) (λ r. if_plus (p r) (lots_in j r *ℤ pos (d * 1000000)) (spread (λ i. lots_in i r) (suc j) ds) ∙ ap (λ (z : ℤ). z +ℤ cond (p r) (spread (λ i. lots_in i r) (suc j) ds) (pos 0)) (if_times (p r) (lots_in j r) (pos (d * 1000000)))) rs
      ∙ (total_add (λ r. cond (p r) (lots_in j r) (pos 0) *ℤ pos (d * 1000000)) (λ r. cond (p r) (spread (λ i. lots_in i r) (suc j) ds) (pos 0)) rs
      ∙ ap₂ (λ (x y : ℤ). x +ℤ y) (total_mul (λ r. cond (p r) (lots_in j r) (pos 0)) (pos (d * 1000000)) rs) (exchange (suc j) ds))

  pub credits_are : (ds : List ℕ) → total (λ r. cond (p r) (credit r.lots ds) (pos 0)) rs ≡ spread lots_at 0 ds
  credits_are ds =
      total_ext (λ r. cond (p r) (credit r.lots ds) (pos 0)) (λ r. cond (p r) (spread (λ i. lots_in i r) 0 ds) (pos 0)) (λ r. ap (λ (z : ℤ). cond (p r) z (pos 0)) (credit_is r.lots ds)) rs
      ∙ exchange 0 ds

-- the dollars booked to a place's lots are those booked to its entry
module _ (a : Answers) (day : ℕ) (event : Event) (rs : List Account) (n : ℕ) where
  at_place : (b : Bool) (lots : ℤ) (dollars : ℕ) → lots *ℤ pos (cond b dollars 0 * 1000000) ≡ cond b (lots *ℤ pos (dollars * 1000000)) (pos 0)
  at_place b lots dollars = grind (arith, ints)

  pub spread_booked : (j : ℕ) (ls : List Place) → spread (λ i. lots_of rs i n) j (map (entry a day event) ls) ≡ total (booked a day event n) (view_from rs j ls)
  spread_booked j [] = refl
  spread_booked j (Free ∷ ls) = second_alone _ _ _ (*ℤ-zero (lots_of rs j n)) (spread_booked (suc j) ls)
  spread_booked j (Taken l ∷ ls) =
      ap₂ (λ (x y : ℤ). x +ℤ y)
      (at_place (takes_in day event l.terms) (lots_of rs j n) (booked_part a event l.terms))
      (spread_booked (suc j) ls)
