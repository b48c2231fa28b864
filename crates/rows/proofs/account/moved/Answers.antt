use Rattle.std.proofs.Common.{◌≡◌, pos, arith, w32, w64, SFits, to_z}
use Rattle.std.proofs.lemmas.Int.{to_z-of_z, ints}
use Rattle.rows.proofs.Ints.{moved_in}
use Rattle.rows.proofs.account.moved.Goals as goal

pub overflow_add-result : goal.overflow_add-result
overflow_add-result c =
    let fit = moved_in c.args.equity c.args.lots c.args.from c.args.to c.requires.held c.requires.few c.requires.old c.requires.new in
    let by = fit.0 in
    let part = fit.1 in
    let equity : SFits w64 c.args.equity = c.ranges.equity in
    let lots : SFits w32 c.args.lots = c.ranges.lots in
    let long : SFits w64 c.args.lots = omega (arith, ints) in
    let to : to_z w64 c.args.to ≡ pos c.args.to = omega (arith, ints) in
    let from : to_z w64 c.args.from ≡ pos c.args.from = omega (arith, ints) in
    simp (to, from, c.from.ensures, to_z-of_z) fit.2

pub returns : goal.returns
returns c =
    let fit = moved_in c.args.equity c.args.lots c.args.from c.args.to c.requires.held c.requires.few c.requires.old c.requires.new in
    let by = fit.0 in
    let part = fit.1 in
    let sum = fit.2 in
    let equity : SFits w64 c.args.equity = c.ranges.equity in
    let lots : SFits w32 c.args.lots = c.ranges.lots in
    let long : SFits w64 c.args.lots = omega (arith, ints) in
    let to : to_z w64 c.args.to ≡ pos c.args.to = omega (arith, ints) in
    let from : to_z w64 c.args.from ≡ pos c.args.from = omega (arith, ints) in
    simp (to, from, c.from.ensures, to_z-of_z)
