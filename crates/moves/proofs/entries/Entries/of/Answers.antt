use Rattle.std.proofs.Common.{◌≡◌, ℕ, ◌<◌, true, List, length, set, sym, refl, ap, ◌∙◌, subst, arith}
use Rattle.sweep.specs.Sweep.{all_of}
use Rattle.sweep.proofs.Every.{all_at}
use Rattle.rows.specs.Fits.{line_fits, entry_fits}
use Rattle.rows.specs.Adjustment.{entry}
use Rattle.rows.specs.declared.table.Place.TheVariants.{Free}
use Rattle.moves.proofs.Filled.{fill_more, fill_all}
use Rattle.moves.proofs.Booking.{entries_in}
use Rattle.moves.proofs.entries.Entries.of.Goals as goal

pub booked-requires : goal.booked-requires
booked-requires g c = all_at line_fits c.args.lines.now c.loop-j.j Free refl c.requires

pub loop-j-preserved : goal.loop-j-preserved
loop-j-preserved g c =
    let onset = c.args.onset.now in
    let within : c.loop-j.j < length c.args.lines.now = omega (arith, c.told-lines) in
    ap (set c.loop-j.dollars c.loop-j.j) c.booked.ensures
    ∙ fill_more (entry g.F.Family.answers onset.day onset.event) Free c.args.lines.now _ c.loop-j.dollars c.loop-j.j within (sym c.told-lines) c.loop-j.invariant

pub invariant_of-result : goal.invariant_of-result
invariant_of-result g c =
    let onset = c.args.onset.now in
    let filled = fill_all (entry g.F.Family.answers onset.day onset.event) Free c.args.lines.now _ c.loop-j.dollars c.loop-j.j (omega (arith, c.told-lines)) (sym c.told-lines) c.loop-j.invariant in
    record {
      small =
          subst (λ (ds : List ℕ). all_of entry_fits ds ≡ true) (sym filled)
          (entries_in g.F.Family.answers g.met.F.Family.keeps onset.day onset.event onset.inside c.args.lines.now c.requires);
    }
