use Rattle.std.proofs.Common.{◌∙◌, rules}
use Rattle.std.proofs.lemmas.Iterator.{YieldsList-from_slice}
use Rattle.std.proofs.lemmas.Iterator.Search.{position_from_yields_List}
use Rattle.lookup.proofs.Seek.{none_found}
use Rattle.lookup.proofs.find.Goals as goal

-- what `position` answers; that `find` answers the same is looked for, so another answer is refused for what it says
pub returns-clause-first : goal.returns-clause-first
returns-clause-first g c =
    search rules
    ∙ position_from_yields_List (g.R.Keyed.has c.args.key.now) _ _ c.position.result c.position.ensures.ran
    (YieldsList-from_slice _ c.iter.ensures.rest) (λ x b q k. search rules)

pub returns-clause-none : goal.returns-clause-none
returns-clause-none g c = none_found (g.R.Keyed.has c.args.key.now) c.args.rows.now _ (returns-clause-first g c)
