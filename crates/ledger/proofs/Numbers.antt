-- The numbers that a list of calls is given, one call more.
use Rattle.std.proofs.Common.{◌≡◌, ℕ, ◌+◌, ◌<◌, List, [], ◌∷◌, ◌++◌, length, get_or, take, refl, ap, ◌∙◌}
use Rattle.std.proofs.lemmas.List.{take_more}
use Rattle.terms.specs.Family.{Answers}
use Rattle.rows.specs.Calls.{refusal, step, run}
use Rattle.rows.specs.declared.table.Table.{Table}
use Rattle.rows.specs.declared.call.Call.{Call}
use Rattle.ledger.specs.Runs.{numbers_given}

numbers_push : (a : Answers) (cs : List Call) (t : Table) (c : Call) → numbers_given a t (cs ++ (c ∷ [])) ≡ numbers_given a t cs ++ (refusal a (run a t cs) c ∷ [])
numbers_push a [] t c = refl
numbers_push a (x ∷ cs) t c = ap (λ (ns : List ℕ). refusal a t x ∷ ns) (numbers_push a cs (step a t x) c)

pub numbers_more :
    (a : Answers) (t : Table) (cs : List Call) (i : ℕ) (d : Call) →
    i < length cs →
    numbers_given a t (take (i + 1) cs) ≡ numbers_given a t (take i cs) ++ (refusal a (run a t (take i cs)) (get_or cs i d) ∷ [])
numbers_more a t cs i d h = ap (numbers_given a t) (take_more cs i d h) ∙ numbers_push a (take i cs) t (get_or cs i d)
