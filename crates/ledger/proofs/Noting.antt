-- Answers noted one by one.
use Rattle.std.proofs.Common.{◌≡◌, ℕ, suc, ◌+◌, ◌<◌, List, [], ◌∷◌, ◌++◌, length, get_or, take, set, map, None, Option, refl, ap, ◌∙◌, arith}
use Rattle.std.proofs.lemmas.List.{length-map, length-take-le, get_or-map}
use Rattle.std.proofs.lemmas.Grind.{common_steps, same_number_lists}
use Rattle.std.specs.Prelude.{Ok, Err, Result}
use Rattle.std.specs.Result.{result_err}
use Rattle.terms.specs.Family.{Answers}
use Rattle.terms.specs.Refusals.{answer}
use Rattle.terms.specs.declared.refusal.Refusal.{Refusal}
use Rattle.rows.specs.Calls.{refusal, step, run}
use Rattle.rows.specs.declared.table.Table.{Table}
use Rattle.rows.specs.declared.call.Call.{Call}
use Rattle.ledger.specs.Runs.{Noted, outcome_number, numbers_given}
use Rattle.ledger.proofs.Numbers.{numbers_more}

pub as_many : (a : Answers) (t : Table) (cs : List Call) → length (numbers_given a t cs) ≡ length cs
as_many a t [] = refl
as_many a t (c ∷ cs) = ap suc (as_many a (step a t c) cs)

-- what is noted of an answer has the answer's number
pub number_noted : {X : Type 0} (r : Result X Refusal) → outcome_number (result_err r) ≡ answer r
number_noted (Ok x) = refl
number_noted (Err e) = refl

pub one_noted :
    (ns : List ℕ) (k : ℕ) (before given : List (Option Refusal)) (x : Option Refusal) →
    length ns ≡ k →
    length given ≡ length before →
    Noted ns before given →
    Noted (ns ++ (outcome_number x ∷ [])) before (set given k x)
one_noted ns k before given x many long so_far =
    record {
      at = λ i h l. grind (arith, common_steps, so_far.at i);
      beyond = λ i h. grind (arith, common_steps, so_far.beyond i);
    }

-- the refusal of one call more
pub noted_more :
    (a : Answers) (t : Table) (cs : List Call) (i : ℕ) (d : Call) (before given : List (Option Refusal)) (x : Option Refusal) →
    i < length cs →
    outcome_number x ≡ refusal a (run a t (take i cs)) (get_or cs i d) →
    length given ≡ length before →
    Noted (numbers_given a t (take i cs)) before given →
    Noted (numbers_given a t (take (i + 1) cs)) before (set given i x)
noted_more a t cs i d before given x within is long so_far =
    let many : length (numbers_given a t (take i cs)) ≡ i = as_many a t (take i cs) ∙ length-take-le i cs (omega arith) in
    rw (numbers_more a t cs i d within, ← is) (one_noted _ i before given x many long so_far)

-- each place has its number, where there are as many places as numbers
pub all_noted :
    (ns : List ℕ) (before later : List (Option Refusal)) →
    length before ≡ length ns →
    length later ≡ length before →
    Noted ns before later →
    map outcome_number later ≡ ns
all_noted ns before later as_before as_later noted =
    same_number_lists (map outcome_number later) ns (length-map later outcome_number ∙ (as_later ∙ as_before))
    (λ k h. let l : k < length later = omega (arith, length-map later outcome_number) in get_or-map outcome_number later k None 0 l ∙ noted.at k (omega arith) (omega arith))
