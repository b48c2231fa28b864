use Rattle.std.proofs.Common.{◌≡◌, true, All}
use Rattle.std.proofs.iter.Serving.{serving}
use Rattle.sweep.proofs.Every.{all_each}
use Rattle.rows.specs.Fits.{line_fits}
use Rattle.rows.specs.declared.table.Place.{Place}
use Rattle.moves.proofs.onset.Onset.meets_a_name.Goals as goal

pub any-requires-clause-callable : goal.any-requires-clause-callable
any-requires-clause-callable g c =
    let each : All (λ (o : Place). line_fits o ≡ true) c.args.lines.now = all_each line_fits c.args.lines.now c.requires in
    grind serving
