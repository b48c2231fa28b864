use Rattle.std.proofs.Common.{◌≡◌, true, All}
use Rattle.std.proofs.iter.Serving.{serving}
use Rattle.sweep.proofs.Every.{all_each}
use Rattle.rows.specs.Fits.{row_fits}
use Rattle.rows.specs.declared.table.Account.{Account}
use Rattle.moves.proofs.entries.Entries.pass_a_limit.Goals as goal

pub any-requires-clause-callable : goal.any-requires-clause-callable
any-requires-clause-callable c =
    let each : All (λ (r : Account). row_fits r ≡ true) c.args.accounts.now = all_each row_fits c.args.accounts.now c.requires in
    grind serving
