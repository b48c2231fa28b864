-- What an event finds in a place, from what it finds in the line there.
use Rattle.std.proofs.Common.{◌≡◌, ℕ, Bool, true, ◌&&◌, List, sym, ap, ◌∙◌}
use Rattle.lookup.specs.Seek.{any_of}
use Rattle.terms.specs.Family.{Answers}
use Rattle.terms.specs.Adjust.{takes_in, next_series, adjusted}
use Rattle.terms.specs.declared.event.Event.{Event}
use Rattle.terms.specs.declared.adjust.Adjusted.{Adjusted}
use Rattle.rows.specs.Adjustment.{bears, meets}
use Rattle.rows.specs.declared.table.Line.{Line}
use Rattle.rows.specs.declared.table.Place.{Place}
use Rattle.rows.specs.declared.table.Place.TheVariants.{Taken}

-- a line taken in meets what bears its new name
pub meets_is :
    (a : Answers) (day : ℕ) (e : Event) (ls : List Place) (o : Place) (l : Line) (after : Adjusted) (found : Bool) →
    o ≡ Taken l →
    true ≡ takes_in day e l.terms →
    after ≡ adjusted a e l.terms →
    found ≡ any_of (bears day e after.terms.series) ls →
    found ≡ meets a day e ls o
meets_is a day e ls o l after found is taken made h =
    h
    ∙ (ap (λ (x : Adjusted). any_of (bears day e x.terms.series) ls) made
    ∙ (ap (λ (b : Bool). b && any_of (bears day e (next_series a e l.terms)) ls) taken ∙ sym (ap (meets a day e ls) is)))
