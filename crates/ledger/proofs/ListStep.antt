-- An accepted listing keeps what holds.
use Rattle.std.proofs.Common.{◌≡◌, ℕ, true, false, eqb, ◌∷◌, get_or, ℤ, pos, Some, sym, refl, ap, ◌∙◌, subst, arith}
use lib.IntN.{zero-*ℤ}
use mathlib.Core.Path.{fun_ext}
use Rattle.std.proofs.lemmas.List.{length-set}
use Rattle.std.proofs.lemmas.Bool.{not-false}
use Rattle.std.proofs.lemmas.Int.{ints}
use Rattle.lookup.specs.Seek.{any_of}
use Rattle.terms.specs.Refusals.{first}
use Rattle.terms.specs.Family.{Answers}
use Rattle.terms.specs.Reading.{name_fits}
use Rattle.terms.specs.declared.code.Name.{Name}
use Rattle.rows.specs.Rows.{holds, lots_in, no_account, account_at, found_line, missing, free_place}
use Rattle.rows.specs.Names.{series_of, is_standard}
use Rattle.rows.specs.Listing.{clashes, listed, listing_refusals, listing_table}
use Rattle.rows.specs.declared.table.Line.{Line}
use Rattle.rows.specs.declared.table.Place.TheVariants.{Taken}
use Rattle.rows.specs.declared.table.Table.{Table}
use Rattle.rows.specs.declared.call.Call.TheVariants.{Listing}
use Rattle.ledger.specs.Ledger.{Ledger, post}
use Rattle.ledger.specs.Agreement.{Perm, keep, join, Agrees, if_number, lots_of, view}
use Rattle.ledger.proofs.Ring.{if_zero}
use Rattle.ledger.proofs.Sums.{total_none}
use Rattle.ledger.proofs.Found.{Vacant, accepted, nowhere, vacant}
use Rattle.ledger.proofs.Views.{view_insert, taken_is}
use Rattle.ledger.proofs.Listed.{nameless, nameless_set, no_clash}
use Rattle.ledger.proofs.Apart.{names_insert, stocks_insert, free_before}
use Rattle.ledger.proofs.Well.{Well, Holds}

module _ (a : Answers) (t : Table) (g : Ledger) (day : ℕ) (name : Name) (stock units price : ℕ) (h : Holds a t g) (ok : first (listing_refusals a t day name stock units price) ≡ 0) where
  abbrev l : Line
  l = listed a name stock units price

  abbrev p : ℕ
  p = free_place t

  passes : (i : ℕ) → (get_or (listing_refusals a t day name stock units price) i (0, false)).1 ≡ false
  passes i = accepted (listing_refusals a t day name stock units price) i refl ok

  new_name : any_of (holds (Some (series_of a name))) t.lines ≡ false
  new_name =
      nowhere (holds (Some (series_of a name))) t.lines (not-false (missing (found_line t (series_of a name))) (passes 4))

  standard : is_standard a name.code ≡ true
  standard = not-false (is_standard a name.code) (passes 0)

  new_stock : any_of (clashes (series_of a name).prefix stock) t.lines ≡ false
  new_stock =
      no_clash a name standard stock t.lines
      (not-false (name_fits a name) (passes 2))
      new_name (passes 5) h.well.nameless

  room : Vacant t
  room = vacant t (passes 6)

  none_held : lots_of t.accounts p ≡ (λ (n : ℕ). pos 0)
  none_held =
      fun_ext (λ n.
      total_none (if_number n (lots_in p)) no_account t.accounts
      (λ i c. if_zero (eqb (account_at t i).number n) (lots_in p (account_at t i)) (h.well.orderly.free p room.free i)))

  listing_agrees : Agrees (listing_table a t day name stock units price) (post a g (Listing day name stock units price))
  listing_agrees =
      record {
        accounts = h.agrees.accounts;
        lines =
            join
            (subst (λ (f : ℕ → ℤ). Perm (view (listing_table a t day name stock units price)) ((record { line = l; lots = f }) ∷ view t)) none_held
            (view_insert t.accounts l p 0 t.lines p (omega arith) room.within room.free))
            (keep h.agrees.lines);
        equity = λ n.
            let before = h.agrees.equity n in
            let none = zero-*ℤ (pos l.carry) in
            omega (arith, ints);
      }

  listing_well : Well a (listing_table a t day name stock units price)
  listing_well =
      record {
        lines = length-set t.lines p (Taken l) ∙ h.well.lines;
        accounts = h.well.accounts;
        lots = h.well.lots;
        spare = h.well.spare;
        orderly =
            record {
              names = names_insert l t.lines p new_name h.well.orderly.names;
              stocks = stocks_insert l t.lines p new_stock h.well.orderly.stocks;
              free = λ j e. h.well.orderly.free j (free_before l t.lines p j e);
            };
        nameless =
            nameless_set a t.lines p (Taken l)
            (λ m q e. ap (λ (x : Line). x.terms.series) (sym (taken_is l m q)) ∙ nameless a name standard e) h.well.nameless;
        numbers = h.well.numbers;
      }

  pub listing_holds : Holds a (listing_table a t day name stock units price) (post a g (Listing day name stock units price))
  listing_holds =
      record {
        well = listing_well;
        balanced = record { lots = h.balanced.lots; equity = h.balanced.equity };
        agrees = listing_agrees;
      }
