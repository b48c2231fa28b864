use Rattle.std.proofs.Common.{◌≡◌, true, All}
use Rattle.std.proofs.iter.Serving.{serving}
use Rattle.sweep.proofs.Every.{all_each}
use Rattle.rows.specs.Fits.{can_gain}
use Rattle.rows.specs.declared.table.Account.{Account}
use Rattle.rows.proofs.gains.Gain.passes_a_limit.Goals as goal

-- each account can gain
pub any-requires-clause-callable : goal.any-requires-clause-callable
any-requires-clause-callable c =
    let can = can_gain c.args.self.now.place in
    let each : All (λ (r : Account). can r ≡ true) c.args.accounts.now = all_each can c.args.accounts.now c.requires in
    grind serving
