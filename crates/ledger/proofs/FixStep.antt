-- A fixing keeps what holds.
use Rattle.std.proofs.Common.{◌≡◌, ℕ, Bool, refl, ◌∙◌}
use Rattle.std.proofs.lemmas.List.{length-map}
use Rattle.terms.specs.Family.{Answers}
use Rattle.rows.specs.Fixing.{fixes, fixed_line, place_fixed, fixing_table}
use Rattle.rows.specs.declared.table.Line.{Line}
use Rattle.rows.specs.declared.table.Table.{Table}
use Rattle.rows.specs.declared.call.Call.TheVariants.{Fixing}
use Rattle.ledger.specs.Ledger.{Ledger, where_so, is_due, fixed, post}
use Rattle.ledger.specs.Agreement.{Agrees, view}
use Rattle.ledger.proofs.Sums.{perm_map, perm_from}
use Rattle.ledger.proofs.Mapped.{Changes, cond_kept, if_passes, view_where, worth_where, free_before_map, names_kept, stocks_kept}
use Rattle.ledger.proofs.Listed.{nameless_map}
use Rattle.ledger.proofs.Well.{Well, Holds}

module _ (a : Answers) (t : Table) (g : Ledger) (day stock deadline close : ℕ) (h : Holds a t g) where
  abbrev due : Line → Bool
  due l = fixes stock deadline l.terms

  changes : Changes (place_fixed stock deadline close) (if_passes due (fixed_line close))
  changes = record { free = refl; taken = λ l. refl }

  view_is : view (fixing_table t day stock deadline close) ≡ where_so (is_due stock deadline) (fixed close) (view t)
  view_is = view_where due (fixed_line close) changes t.accounts 0 t.lines

  fixing_agrees : Agrees (fixing_table t day stock deadline close) (post a g (Fixing day stock deadline close))
  fixing_agrees =
      record {
        accounts = h.agrees.accounts;
        lines = perm_from view_is (perm_map _ h.agrees.lines);
        equity = λ n. cc (h.agrees.equity n, worth_where due (fixed_line close) n (λ l. refl) g.lines);
      }

  fixing_well : Well a (fixing_table t day stock deadline close)
  fixing_well =
      let series : (l : Line) → (if_passes due (fixed_line close) l).terms.series ≡ l.terms.series =
      λ l. cond_kept (λ (x : Line). x.terms.series) (due l) (fixed_line close l) l refl in
      record {
        lines = length-map t.lines (place_fixed stock deadline close) ∙ h.well.lines;
        accounts = h.well.accounts;
        lots = h.well.lots;
        spare = h.well.spare;
        orderly =
            record {
              names = names_kept changes series t.lines h.well.orderly.names;
              stocks =
                  stocks_kept changes series t.lines
                  (λ l. cond_kept (λ (x : Line). x.terms.stock) (due l) (fixed_line close l) l refl) h.well.orderly.stocks;
              free = λ j e. h.well.orderly.free j (free_before_map changes t.lines j e);
            };
        nameless = nameless_map changes (λ l e. series l ∙ e) a t.lines h.well.nameless;
        numbers = h.well.numbers;
      }

  pub fixing_holds : Holds a (fixing_table t day stock deadline close) (post a g (Fixing day stock deadline close))
  fixing_holds =
      record {
        well = fixing_well;
        balanced = record { lots = h.balanced.lots; equity = h.balanced.equity };
        agrees = fixing_agrees;
      }
