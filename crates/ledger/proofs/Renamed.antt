-- The names, prefixes and stocks of the lines after an event: they stay apart where the event was not
-- refused.
use Rattle.std.proofs.Common.{◌≡◌, ℕ, zero, suc, ◌+◌, Bool, true, false, cond, not, ◌&&◌, List, [], ◌∷◌, map, sym, refl, ap, ◌∙◌, ap₂, arith}
use Rattle.std.proofs.lemmas.Bool.{not_from_false, cond-false}
use Rattle.lookup.specs.Seek.{any_of}
use Rattle.terms.specs.Events.{no_successor}
use Rattle.terms.specs.Family.{Answers}
use Rattle.terms.specs.Adjust.{takes_in, next_series}
use Rattle.terms.specs.declared.code.Prefix.{Prefix}
use Rattle.terms.specs.declared.code.Series.{Series}
use Rattle.terms.specs.declared.event.Event.{Event}
use Rattle.rows.specs.Rows.{same_series, no_series}
use Rattle.rows.specs.Listing.{clashes}
use Rattle.rows.specs.Adjustment.{contradicts, bears, meets, adjusted_line, place_adjusted}
use Rattle.rows.specs.declared.table.Line.{Line}
use Rattle.rows.specs.declared.table.Place.{Place}
use Rattle.rows.specs.declared.table.Place.TheVariants.{Free, Taken}
use Rattle.ledger.specs.Agreement.{NamesDiffer, StocksAgree}
use Rattle.ledger.proofs.SameSeries.{prefix_is, prefix_self, series_from, series_turn, other_series, not_series}
use Rattle.ledger.proofs.Views.{not_both, none_taken}
use Rattle.ledger.proofs.Apart.{by_name, by_stock, stock_turn}
use Rattle.ledger.proofs.Mapped.{Among, Changes, if_passes, names_map, stocks_map}

-- what becomes of a line
abbrev pub line_after : Answers → ℕ → Event → Line → Line
line_after a day event = if_passes (λ l. takes_in day event l.terms) (adjusted_line a day event)

pub adjusts_places : (a : Answers) (day : ℕ) (event : Event) → Changes (place_adjusted a day event) (line_after a day event)
adjusts_places a day event = record { free = refl; taken = λ l. refl }

-- a line that has no name expires on day 0, and so an event leaves it as it is
pub unnamed_stays : (a : Answers) (day : ℕ) (event : Event) (l : Line) → l.terms.series ≡ no_series → (line_after a day event l).terms.series ≡ no_series
unnamed_stays a day event l e = grind arith

-- of two tests that do not both pass, the second fails where the first passes
then_not : (x y : Bool) → (x && y) ≡ false → x ≡ true → y ≡ false
then_not x y e h = grind arith

-- a line does not clash with itself
self_clash : (l : Line) → by_stock l (Taken l) ≡ false
self_clash l = grind (arith, prefix_self)

-- no two lines of a book clash, in whatever order they stand
stocks_among : (ls : List Place) → StocksAgree ls → (x y : Line) → Among x ls → Among y ls → by_stock x (Taken y) ≡ false
stocks_among [] u x y m n = not_both x m.1
stocks_among (Free ∷ ls) u x y (zero, e) n = not_both x e
stocks_among (Free ∷ ls) u x y (suc i, e) (zero, q) = not_both y q
stocks_among (Free ∷ ls) u x y (suc i, e) (suc j, q) = stocks_among ls u x y (i, e) (j, q)
stocks_among (Taken z ∷ ls) u x y (zero, e) (zero, q) = cc (self_clash z)
stocks_among (Taken z ∷ ls) u x y (zero, e) (suc j, q) = cc (none_taken (by_stock z) ls j y u.0 q)
stocks_among (Taken z ∷ ls) u x y (suc i, e) (zero, q) = cc (none_taken (by_stock z) ls i x u.0 e, stock_turn x y)
stocks_among (Taken z ∷ ls) u x y (suc i, e) (suc j, q) = stocks_among ls u.1 x y (i, e) (j, q)

-- lines of one stock that do not clash have one prefix
one_prefix : (x y : Line) → by_stock x (Taken y) ≡ false → y.terms.stock ≡ x.terms.stock → y.terms.series.prefix ≡ x.terms.series.prefix
one_prefix x y n e = grind (arith, prefix_is)

-- the level moves for all lines or for none
level_back : (b : Bool) (m n : ℕ) → cond b (m + 1) m ≡ cond b (n + 1) n → m ≡ n
level_back b m n e = grind arith

module _ (a : Answers) (day : ℕ) (event : Event) (ls : List Place) (stocks : StocksAgree ls) where
  abbrev taken : Line → Bool
  taken l = takes_in day event l.terms

  -- a line that is taken in or left out
  abbrev made : Bool → Line → Line
  made b l = cond b (adjusted_line a day event l) l

  stock_is : (l : Line) → taken l ≡ true → l.terms.stock ≡ event.stock
  stock_is l h = grind arith

  -- lines taken in keep different names
  both_in : (x y : Line) → Among x ls → Among y ls → taken x ≡ true → taken y ≡ true → by_name x (Taken y) ≡ false → by_name (made true x) (Taken (made true y)) ≡ false
  both_in x y m n p q e =
      other_series (next_series a event y.terms) (next_series a event x.terms) (λ h.
      not_series y.terms.series x.terms.series e
      (series_from y.terms.series x.terms.series
      (one_prefix x y (stocks_among ls stocks x y m n) (stock_is y q ∙ sym (stock_is x p)))
      (level_back (a.moves event) y.terms.series.level x.terms.series.level (ap (λ (s : Series). s.level) h))
      (ap (λ (s : Series). s.expiry) h)
      (ap (λ (s : Series). s.right) h)
      (ap (λ (s : Series). s.strike) h)))

  -- none of them meets a line left out
  module _ (names : NamesDiffer ls) (none_meets : any_of (meets a day event ls) ls ≡ false) where
    one_in : (x y : Line) → Among x ls → Among y ls → taken x ≡ true → taken y ≡ false → by_name (made true x) (Taken y) ≡ false
    one_in x y m n p q =
        let k = next_series a event x.terms in
        let clear : any_of (bears day event k) ls ≡ false =
        then_not (taken x) (any_of (bears day event k) ls) (none_taken (meets a day event ls) ls m.0 x none_meets m.1) p in
        then_not (not (taken y)) (same_series y.terms.series k) (none_taken (bears day event k) ls n.0 y clear n.1) (not_from_false (taken y) q)

    names_by : (x y : Line) → Among x ls → Among y ls → by_name x (Taken y) ≡ false → (b c : Bool) → taken x ≡ b → taken y ≡ c → by_name (made b x) (Taken (made c y)) ≡ false
    names_by x y m n e true true p q = both_in x y m n p q e
    names_by x y m n e true false p q = one_in x y m n p q
    names_by x y m n e false true p q = series_turn (next_series a event y.terms) x.terms.series ∙ one_in y x n m q p
    names_by x y m n e false false p q = e

    pub names_adjusted : NamesDiffer (map (place_adjusted a day event) ls)
    names_adjusted =
        names_map (adjusts_places a day event) ls
        (λ x y m n e. names_by x y m n e (taken x) (taken y) refl refl) names

  -- without a new stock, each line keeps its prefix and its stock
  module _ (none : no_successor event.successor ≡ true) where
    same_prefix_by : (b : Bool) (l : Line) → (made b l).terms.series.prefix ≡ l.terms.series.prefix
    same_prefix_by b l = grind arith

    same_stock_by : (b : Bool) (l : Line) → (made b l).terms.stock ≡ l.terms.stock
    same_stock_by b l = grind arith

    clash_kept : (b c : Bool) (x y : Line) → by_stock (made b x) (Taken (made c y)) ≡ by_stock x (Taken y)
    clash_kept b c x y = grind (arith, same_prefix_by, same_stock_by)

  -- with one, the lines taken in have it and its prefix, and it contradicts no line left out
  module _ (none_contradicts : (not (no_successor event.successor) && any_of (contradicts day event) ls) ≡ false) where
    module _ (some : no_successor event.successor ≡ false) where
      new_prefix : (l : Line) → (made true l).terms.series.prefix ≡ event.successor.prefix
      new_prefix l = cond-false (no_successor event.successor) l.terms.series.prefix event.successor.prefix some

      new_stock : (l : Line) → (made true l).terms.stock ≡ event.successor.stock
      new_stock l = cond-false (no_successor event.successor) l.terms.stock event.successor.stock some

      both_new : (x y : Line) → by_stock (made true x) (Taken (made true y)) ≡ false
      both_new x y = grind (arith, new_prefix, new_stock, self_clash)

      one_new : (x y : Line) → Among y ls → taken y ≡ false → by_stock (made true x) (Taken y) ≡ false
      one_new x y n q =
          let clear : any_of (contradicts day event) ls ≡ false =
          then_not (not (no_successor event.successor)) (any_of (contradicts day event) ls) none_contradicts (not_from_false (no_successor event.successor) some) in
          ap₂ (λ (p : Prefix) (s : ℕ). clashes p s (Taken y)) (new_prefix x) (new_stock x)
          ∙ then_not (not (taken y)) (clashes event.successor.prefix event.successor.stock (Taken y))
          (none_taken (contradicts day event) ls n.0 y clear n.1) (not_from_false (taken y) q)

    stocks_by : (x y : Line) → Among x ls → Among y ls → by_stock x (Taken y) ≡ false → (s b c : Bool) → no_successor event.successor ≡ s → taken x ≡ b → taken y ≡ c → by_stock (made b x) (Taken (made c y)) ≡ false
    stocks_by x y m n e true b c o p q = clash_kept o b c x y ∙ e
    stocks_by x y m n e false true true o p q = both_new o x y
    stocks_by x y m n e false true false o p q = one_new o x y n q
    stocks_by x y m n e false false true o p q = stock_turn x (made true y) ∙ one_new o y x m p
    stocks_by x y m n e false false false o p q = e

    pub stocks_adjusted : StocksAgree (map (place_adjusted a day event) ls)
    stocks_adjusted =
        stocks_map (adjusts_places a day event) ls
        (λ x y m n e. stocks_by x y m n e (no_successor event.successor) (taken x) (taken y) refl refl refl) stocks
