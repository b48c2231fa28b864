use Rattle.std.proofs.Common.{◌≡◌, ◌≤◌, true, sym, ap, ◌∙◌, subst, arith}
use Rattle.terms.specs.Units.{largest_value}
use Rattle.terms.specs.Terms.{terms_fit, lot_of}
use Rattle.terms.specs.Family.{priced}
use Rattle.terms.specs.declared.lot.Lot.{Lot}
use Rattle.terms.specs.declared.terms.Terms.{Terms}
use Rattle.rows.specs.Fits.{line_fits}
use Rattle.rows.specs.Listing.{listed_terms}
use Rattle.rows.specs.declared.table.Place.TheVariants.{Taken}
use Rattle.rows.proofs.Inputs.{listing_inside}
use Rattle.rows.proofs.Priced.{series_fit, priced_from, standard_formed, listed_fit}
use Rattle.sweep.proofs.Every.{all_set}
use Rattle.rows.proofs.Sound.{line_in}
use Rattle.book.proofs.book.Book.listing.Goals as goal

-- a listed line can be valued
pub mark_value-carry-requires : goal.mark_value-carry-requires
mark_value-carry-requires g c =
    let a = g.F.Family.answers in
    let law = g.met.F.Family.keeps in
    let n = c.args.name in
    let standard = sym c.if-not-is_standard.ensures in
    let misfit = sym c.if-is_misfit.ensures in
    let inside = listing_inside a c.args.day n c.args.stock c.args.units c.args.price (sym c.if-is_listing_outside.ensures) in
    ap (λ (l : Lot). priced a l c.args.price) (c.lot.ensures ∙ ap lot_of c.listed-terms.ensures)
    ∙ priced_from a (listed_terms a n c.args.stock c.args.units) c.args.price
    (series_fit a n (standard_formed a law n standard) misfit)
    (listed_fit a law n c.args.stock c.args.units standard misfit inside.expiry inside.stock_in inside.units_in)
    inside.price_in

pub invariant_of-self : goal.invariant_of-self
invariant_of-self g c =
    let a = g.F.Family.answers in
    let law = g.met.F.Family.keeps in
    let n = c.args.name in
    let standard = sym c.if-not-is_standard.ensures in
    let misfit = sym c.if-is_misfit.ensures in
    let inside = listing_inside a c.args.day n c.args.stock c.args.units c.args.price (sym c.if-is_listing_outside.ensures) in
    let fit = listed_fit a law n c.args.stock c.args.units standard misfit inside.expiry inside.stock_in inside.units_in in
    let priced-lot : priced a c.lot.result c.args.price ≡ true =
    ap (λ (l : Lot). priced a l c.args.price) (c.lot.ensures ∙ ap lot_of c.listed-terms.ensures)
    ∙ priced_from a (listed_terms a n c.args.stock c.args.units) c.args.price (series_fit a n (standard_formed a law n standard) misfit) fit inside.price_in in
    let value : c.mark_value-carry.result ≤ largest_value = omega (arith, c.mark_value-carry.ensures, law.mark_in c.lot.result c.args.price priced-lot) in
    let terms : terms_fit c.listed-terms.result ≡ true = subst (λ (t : Terms). terms_fit t ≡ true) (sym c.listed-terms.ensures) fit in record {
      lines_fit = all_set line_fits c.args.self.now.table.lines _ (Taken (record { terms = c.listed-terms.result; carry = c.mark_value-carry.result })) (line_in c.listed-terms.result c.mark_value-carry.result terms value) c.args.self.now.lines_fit;
      rows_fit = c.args.self.now.rows_fit;
      count_in = c.args.self.now.count_in;
    }
