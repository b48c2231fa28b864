use Rattle.std.proofs.Common.{◌≡◌, ℕ, Bool, false, List, [], ◌∷◌, Some, nat_lt, sym, refl, ap, ◌∙◌, arith, rules}
use Rattle.std.proofs.lemmas.Bool.Decides.{nat_tests}
use Rattle.terms.specs.Refusals.{number_of, answer, first}
use Rattle.terms.proofs.Refusals.{first_of_rest}
use Rattle.lookup.specs.Seek.{sought}
use Rattle.rows.specs.Rows.{places, holds, found_line, missing, index_or, place}
use Rattle.rows.specs.Names.{malformed, misfit, series_of}
use Rattle.rows.specs.Expiry.{expiry_outside, closing_refusals}
use Rattle.rows.proofs.Inputs.{expiry_inside}
use Rattle.rows.proofs.Priced.{found_priced}
use Rattle.book.proofs.book.Book.expiry.Goals as goal

-- the line that is found by the name can be valued
pub close_line-requires-clause-priced : goal.close_line-requires-clause-priced
close_line-requires-clause-priced g c =
    let a = g.F.Family.answers in
    let n = c.args.name in
    let lines = c.args.self.now.table.lines in
    let found : Some c.in_ok-place.place ≡ sought (holds (Some (series_of a n))) lines = search rules in
    let formed : malformed a n ≡ false = search rules in
    let fits : misfit a n ≡ false = search rules in
    let outside : expiry_outside c.args.day n c.args.price c.args.close ≡ false = search rules in
    found_priced a n lines c.in_ok-place.place found c.args.self.now.lines_fit c.args.price formed fits (expiry_inside c.args.day n c.args.price c.args.close outside).0

pub returns-in_err-close_line-clause-refusal : goal.returns-in_err-close_line-clause-refusal
returns-in_err-close_line-clause-refusal g c =
    let a = g.F.Family.answers in
    let t = c.args.self.now.table in
    let n = c.args.name in
    let r = c.in_err-close_line.field-0.0 in
    let head : List (ℕ × Bool) =
    (1, malformed a n)
    ∷ (2, expiry_outside c.args.day n c.args.price c.args.close)
    ∷ (3, misfit a n)
    ∷ (11, nat_lt c.args.day t.day)
    ∷ (12, missing (found_line t (series_of a n)))
    ∷ (19, nat_lt c.args.day n.expiry)
    ∷ [] in
    let formed : malformed a n ≡ false = search rules in
    let fits : misfit a n ≡ false = search rules in
    let outside : expiry_outside c.args.day n c.args.price c.args.close ≡ false = search rules in
    let in_time : nat_lt c.args.day t.day ≡ false = grind (arith, nat_tests) in
    let found : Some c.in_ok-place.place ≡ found_line t (series_of a n) = search rules in
    let listed : missing (found_line t (series_of a n)) ≡ false = ap missing (sym found) in
    let due : nat_lt c.args.day n.expiry ≡ false = grind (arith, nat_tests) in
    let clear : 0 ≡ first head = simp (formed, outside, fits, in_time, listed, due) refl in
    let same : answer c.from_residual-in_err-close_line.result ≡ number_of r = search rules in
    let closing : number_of r ≡ first (closing_refusals a t (place t (series_of a n)) c.args.price c.args.close) =
    c.in_err-close_line.ensures.refusal ∙ ap (λ (j : ℕ). first (closing_refusals a t j c.args.price c.args.close)) (ap (index_or places) found) in
    same ∙ (closing ∙ first_of_rest head (closing_refusals a t (place t (series_of a n)) c.args.price c.args.close) refl clear)
