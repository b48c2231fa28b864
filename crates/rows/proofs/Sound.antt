-- The book's numbers stay within their limits.
use Rattle.std.proofs.Common.{◌≡◌, ℕ, zero, suc, ◌<◌, ◌≤◌, true, false, leb, List, [], ◌∷◌, map, length, get_or, set, ℤ, pos, ◌+ℤ◌, ◌*ℤ◌, nat_abs, sym, refl, ap, ◌∙◌, subst, arith}
use Rattle.std.proofs.lemmas.List.{get_or_default}
use Rattle.std.proofs.lemmas.List.Sums.{list_all-from_AllPass}
use Rattle.std.proofs.lemmas.Bool.{and_parts, and_from, leb-true, le-leb, ltb-false}
use Rattle.lookup.specs.Seek.{any_of}
use Rattle.terms.specs.Units.{most_lots, most_equity, largest_value}
use Rattle.terms.specs.Terms.{terms_fit}
use Rattle.terms.specs.declared.terms.Terms.{Terms}
use Rattle.sweep.specs.Sweep.{all_of}
use Rattle.sweep.proofs.Every.{all_at, all_set, all_from, all_map}
use Rattle.rows.specs.Rows.{line_or, lots_in, no_account}
use Rattle.rows.specs.Held.{Held}
use Rattle.rows.specs.Fits.{past, line_fits, few, row_fits, can_gain}
use Rattle.rows.specs.Trade.{traded}
use Rattle.rows.specs.Mark.{gained, gains_past}
use Rattle.rows.specs.Adjustment.{credit, credited, credit_past}
use Rattle.rows.specs.Expiry.{closed}
use Rattle.rows.specs.declared.table.Line.{Line}
use Rattle.rows.specs.declared.table.Account.{Account}
use Rattle.rows.specs.declared.table.Place.{Place}
use Rattle.rows.specs.declared.table.Place.TheVariants.{Free, Taken}

-- lines
pub taken_fits : (o : Place) (l : Line) → o ≡ Taken l → line_fits o ≡ true → terms_fit l.terms ≡ true
taken_fits o l is e = (and_parts (terms_fit l.terms) (leb l.carry largest_value) (ap line_fits (sym is) ∙ e)).0

carry_of : (o : Place) → line_fits o ≡ true → (line_or o).carry ≤ largest_value
carry_of Free e = omega arith
carry_of (Taken l) e = leb-true l.carry largest_value (and_parts (terms_fit l.terms) (leb l.carry largest_value) e).1

pub carry_at :
    (lines : List Place) (j : ℕ) (l : Line) → l ≡ line_or (get_or lines j Free) → all_of line_fits lines ≡ true → l.carry ≤ largest_value
carry_at lines j l is fit =
    subst (λ (x : Line). x.carry ≤ largest_value) (sym is) (carry_of (get_or lines j Free) (all_at line_fits lines j Free refl fit))

pub line_in : (t : Terms) (carry : ℕ) → terms_fit t ≡ true → carry ≤ largest_value → line_fits (Taken (record { terms = t; carry = carry })) ≡ true
line_in t carry h k = and_from (terms_fit t) (leb carry largest_value) h (le-leb carry largest_value k)

-- rows
lots_few : (r : Account) → row_fits r ≡ true → all_of few r.lots ≡ true
lots_few r e = (and_parts (leb (nat_abs r.equity) most_equity) (all_of few r.lots) e).1

row_in : (r : Account) → nat_abs r.equity ≤ most_equity → all_of few r.lots ≡ true → row_fits r ≡ true
row_in r h k = and_from (leb (nat_abs r.equity) most_equity) (all_of few r.lots) (le-leb (nat_abs r.equity) most_equity h) k

-- for callers that have two values
pub held_of : (r : Account) (j from to : ℕ) → row_fits r ≡ true → from ≤ largest_value → to ≤ largest_value → Held r j from to
held_of r j from to f h k =
    record {
      lots = leb-true (nat_abs (lots_in j r)) most_lots (all_at few r.lots j (pos 0) refl (lots_few r f));
      equity = leb-true (nat_abs r.equity) most_equity (and_parts (leb (nat_abs r.equity) most_equity) (all_of few r.lots) f).0;
      old = h;
      new = k;
    }

pub held_at :
    (rows : List Account) (i j from to : ℕ) → all_of row_fits rows ≡ true → from ≤ largest_value → to ≤ largest_value →
    Held (get_or rows i no_account) j from to
held_at rows i j from to e = held_of (get_or rows i no_account) j from to (all_at row_fits rows i no_account refl e)

pub can_gain_of : (j : ℕ) (r : Account) → row_fits r ≡ true → can_gain j r ≡ true
can_gain_of j r f =
    and_from (leb (nat_abs r.equity) most_equity) (few (lots_in j r)) (and_parts (leb (nat_abs r.equity) most_equity) (all_of few r.lots) f).0
    (all_at few r.lots j (pos 0) refl (lots_few r f))

pub all_can_gain : (rows : List Account) (j : ℕ) → all_of row_fits rows ≡ true → all_of (can_gain j) rows ≡ true
all_can_gain rows j = all_from row_fits (can_gain j) (can_gain_of j) rows

pub all_held :
    (rows : List Account) (j from to : ℕ) → ((i : ℕ) → i < length rows → Held (get_or rows i no_account) j from to) →
    all_of (can_gain j) rows ≡ true
all_held rows j from to h =
    list_all-from_AllPass (can_gain j) rows
    (λ k d l.
    let held = h k l in
    let r = get_or rows k no_account in
    ap (can_gain j) (get_or_default rows k d no_account l)
    ∙ and_from (leb (nat_abs r.equity) most_equity) (few (lots_in j r)) (le-leb (nat_abs r.equity) most_equity held.equity)
    (le-leb (nat_abs (lots_in j r)) most_lots held.lots))

pub gained_fit :
    (rows : List Account) (j : ℕ) (gain : ℤ) → all_of row_fits rows ≡ true → any_of (gains_past j gain) rows ≡ false →
    all_of row_fits (map (gained j gain) rows) ≡ true
gained_fit rows j gain =
    all_map row_fits (gains_past j gain) (gained j gain) row_fits
    (λ r e n. row_in (gained j gain r) (ltb-false most_equity (nat_abs (r.equity +ℤ (lots_in j r *ℤ gain))) n) (lots_few r e))
    rows

pub credited_fit :
    (rows : List Account) (ds : List ℕ) → all_of row_fits rows ≡ true → any_of (credit_past ds) rows ≡ false →
    all_of row_fits (map (credited ds) rows) ≡ true
credited_fit rows ds =
    all_map row_fits (credit_past ds) (credited ds) row_fits
    (λ r e n. row_in (credited ds r) (ltb-false most_equity (nat_abs (r.equity +ℤ credit r.lots ds)) n) (lots_few r e))
    rows

-- a row after the last gain of a place
pub closed_fit :
    (rows : List Account) (j : ℕ) (gain : ℤ) → all_of row_fits rows ≡ true → any_of (gains_past j gain) rows ≡ false →
    all_of row_fits (map (closed j gain) rows) ≡ true
closed_fit rows j gain =
    all_map row_fits (gains_past j gain) (closed j gain) row_fits
    (λ r e n. row_in (closed j gain r) (ltb-false most_equity (nat_abs (r.equity +ℤ (lots_in j r *ℤ gain))) n) (all_set few r.lots j (pos 0) refl (lots_few r e)))
    rows

few_set : (xs : List ℤ) (j : ℕ) (v : ℤ) → all_of few xs ≡ true → past most_lots (get_or (set xs j v) j (pos 0)) ≡ false → all_of few (set xs j v) ≡ true
few_set [] j v e h = refl
few_set (x ∷ xs) zero v e h =
    and_from (few v) (all_of few xs) (le-leb (nat_abs v) most_lots (ltb-false most_lots (nat_abs v) h)) (and_parts (few x) (all_of few xs) e).1
few_set (x ∷ xs) (suc j) v e h =
    and_from (few x) (all_of few (set xs j v)) (and_parts (few x) (all_of few xs) e).0 (few_set xs j v (and_parts (few x) (all_of few xs) e).1 h)

-- a row after a trade, read from a row of the book
pub traded_fit :
    (rows : List Account) (i : ℕ) (s : Account) (j : ℕ) (n gain : ℤ) →
    s ≡ traded j n gain (get_or rows i no_account) →
    all_of row_fits rows ≡ true →
    past most_lots (lots_in j s) ≡ false →
    past most_equity s.equity ≡ false →
    row_fits s ≡ true
traded_fit rows i s j n gain is e h k =
    let r = get_or rows i no_account in
    row_in s (ltb-false most_equity (nat_abs s.equity) k)
    (subst (λ (x : Account). all_of few x.lots ≡ true) (sym is)
    (few_set r.lots j (lots_in j r +ℤ n) (lots_few r (all_at row_fits rows i no_account refl e))
    (subst (λ (x : Account). past most_lots (lots_in j x) ≡ false) is h)))
