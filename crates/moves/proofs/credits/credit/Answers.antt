use Rattle.std.proofs.Common.{◌≡◌, ℕ, ◌+◌, ◌*◌, ◌≤◌, [], ◌∷◌, ◌++◌, length, get_or, drop, ℤ, pos, ◌+ℤ◌, ◌*ℤ◌, nat_abs, sym, ap, ◌∙◌, subst, ap₂, w32, w64, SFits, to_z, of_z, rules}
use Rattle.std.proofs.lemmas.Int.{to_z-of_z}
use Rattle.std.proofs.lemmas.List.{length-append}
use Rattle.std.proofs.lemmas.Slice.Zip.{zip_turn}
use Rattle.rows.specs.Trade.{change}
use Rattle.rows.specs.Adjustment.{credit}
use Rattle.moves.proofs.Booking.{part, part_in, sum_in, credit_more}
use Rattle.moves.proofs.credits.credit.Goals as goal

pub loop-n-preserved : goal.loop-n-preserved
loop-n-preserved c =
    let lots = c.args.lots.now in
    let dollars = c.args.dollars.now in
    let j = length c.loop-n.yielded in
    let sum = to_z w64 c.loop-n.sum-bits in
    let turn = zip_turn lots dollars c.loop-n.yielded _ _ c.next.new.self _ (cc) (cc) c.loop-n.yielded_by (c.in-Some.n, c.in-Some.booked) c.in-Some.is c.next.ensures.steps in
    let n = get_or lots j (pos 0) in
    let x : SFits w32 n = search rules in
    let held : to_z w32 (of_z w32 c.in-Some.n.now) ≡ n = ap (λ (z : ℤ). to_z w32 (of_z w32 z)) (turn.2 (pos 0)) ∙ to_z-of_z w32 n x in
    let m : SFits w64 c.moved-sum.result = record { sfits = c.moved-sum.type_inv } in
    let e : to_z w64 (of_z w64 c.moved-sum.result) ≡ sum +ℤ part lots dollars j turn.0 turn.1 =
    to_z-of_z w64 c.moved-sum.result m
    ∙ (c.moved-sum.ensures
    ∙ ap (λ (z : ℤ). sum +ℤ z)
    (ap₂ (λ (z : ℤ) (d : ℕ). z *ℤ change 0 (d * 1000000)) held (c.from.ensures ∙ turn.3 0))) in
    let more : length (c.loop-n.yielded ++ (c.in-Some.n, c.in-Some.booked) ∷ []) ≡ j + 1 = length-append c.loop-n.yielded ((c.in-Some.n, c.in-Some.booked) ∷ []) in
    let s = to_z w64 (of_z w64 c.moved-sum.result) in
    let kept =
    subst (λ (k : ℕ). (s +ℤ credit (drop k lots) (drop k dollars) ≡ credit lots dollars) × (nat_abs s ≤ k * 80000000000000000)) (sym more) (
      credit_more lots dollars j turn.0 turn.1 sum s c.loop-n.invariant.1 e,
      sum_in j sum (part lots dollars j turn.0 turn.1) s c.loop-n.invariant.2 (part_in lots dollars j turn.0 turn.1 c.requires.few c.requires.small) e,
    ) in
    (((tt, tt), tt), kept.0, kept.1)
