-- An accepted trade keeps what holds.
use Rattle.std.proofs.Common.{◌≡◌, ℕ, ◌<◌, ◌≤◌, Bool, true, false, cond, eqb, List, length, get_or, set, ℤ, pos, ◌+ℤ◌, ◌-ℤ◌, ◌*ℤ◌, neg_ℤ, sym, refl, ap, ◌∙◌, subst, ap₂, arith}
use Rattle.std.proofs.lemmas.Grind.{common_steps}
use lib.IntN.{+ℤ_invr}
use mathlib.Core.Path.{fun_ext}
use Rattle.std.proofs.lemmas.List.{length-set, get_or-set_other, set-get_or, map-set}
use Rattle.std.proofs.lemmas.Bool.{or_parts, eqb-false, eq-eqb, ne_eqb}
use Rattle.std.proofs.lemmas.Int.{ints}
use Rattle.terms.specs.Terms.{lot_of}
use Rattle.terms.specs.Refusals.{first}
use Rattle.terms.specs.Family.{Answers}
use Rattle.terms.specs.declared.code.Name.{Name}
use Rattle.terms.specs.declared.code.Series.{Series}
use Rattle.rows.specs.Rows.{places, rows, lots_in, no_account, found_account, missing, place, row, line_at, account_at}
use Rattle.rows.specs.Names.{series_of}
use Rattle.rows.specs.Trade.{change, traded, trade_value, buyer_after, seller_after, trade_outside, trade_refusals, trade_table}
use Rattle.rows.specs.declared.table.Line.{Line}
use Rattle.rows.specs.declared.table.Account.{Account}
use Rattle.rows.specs.declared.table.Place.TheVariants.{Free, Taken}
use Rattle.rows.specs.declared.table.Table.{Table}
use Rattle.rows.specs.declared.call.Call.TheVariants.{Trade}
use Rattle.ledger.specs.Ledger.{Entry, Ledger, total, is_named, at_name, between, dealt, paid, post}
use Rattle.ledger.specs.Agreement.{Agrees, Balanced, if_number, lots_of, equity_of, view_from, view, carry_worth, numbers, NumbersDiffer}
use Rattle.ledger.proofs.Ring.{plus_zero, add_mulℤ, neg_mulℤ, mul_negℤ, mul_subℤ, if_plus}
use Rattle.ledger.proofs.Sums.{total_set, total_where, perm_map, perm_from}
use Rattle.ledger.proofs.At.{set_at}
use Rattle.ledger.proofs.Found.{Live, Open, accepted, at_least_one, live, open_row}
use Rattle.ledger.proofs.Views.{not_both, view_amend}
use Rattle.ledger.proofs.Well.{Well, Holds, number_at, same_open, pick}

turned : (from to : ℕ) → change to from ≡ neg_ℤ (change from to)
turned from to = omega (arith, ints)

-- what the buyer and the seller get, of nothing, by two tests, and of a price in two parts
of_nothing : (x y : Bool) → cond x (pos 0) (cond y (neg_ℤ (pos 0)) (pos 0)) ≡ pos 0
of_nothing x y = grind (arith, ints)

both : (b s m : ℕ) (d : ℤ) → (b ≡ s → ⊥) → cond (eqb b m) d (pos 0) +ℤ cond (eqb s m) (neg_ℤ d) (pos 0) ≡ between b s d m
both b s m d n = grind (arith, ints)

deal_split : (x y : Bool) (n c v : ℤ) → cond x (n *ℤ (c -ℤ v)) (cond y (neg_ℤ (n *ℤ (c -ℤ v))) (pos 0)) ≡ cond x n (cond y (neg_ℤ n) (pos 0)) *ℤ c -ℤ cond x (n *ℤ v) (cond y (neg_ℤ (n *ℤ v)) (pos 0))
deal_split true y n c v = mul_subℤ n c v
deal_split false true n c v = omega (arith, ints, mul_subℤ n c v, neg_mulℤ n c)
deal_split false false n c v = omega (arith, ints)

-- a row after a trade
traded_lots : (j p : ℕ) (z gain : ℤ) (r : Account) → p < length r.lots → (b : Bool) → eqb j p ≡ b → lots_in j (traded p z gain r) ≡ lots_in j r +ℤ cond b z (pos 0)
traded_lots j p z gain r h b e = grind (arith, ints, common_steps)

same_numbers : (rs : List Account) (i : ℕ) (r : Account) → r.number ≡ (get_or rs i no_account).number → numbers (set rs i r) ≡ numbers rs
same_numbers rs i r e = cc (map-set (λ (r : Account). r.number) rs i r, number_at rs i, set-get_or (numbers rs) i 0)

module _ (a : Answers) (t : Table) (g : Ledger) (day : ℕ) (name : Name) (b s price n : ℕ) (h : Holds a t g) (ok : first (trade_refusals a t day name b s price n) ≡ 0) where
  abbrev k : Series
  k = series_of a name

  abbrev p : ℕ
  p = place t k

  abbrev l : Line
  l = line_at t p

  abbrev v : ℕ
  v = trade_value a t name price

  abbrev gain : ℤ
  gain = pos n *ℤ change v l.carry

  abbrev old : List Account
  old = t.accounts

  abbrev ib : ℕ
  ib = row t b

  abbrev is : ℕ
  is = row t s

  abbrev rb : Account
  rb = account_at t ib

  abbrev rs : Account
  rs = account_at t is

  abbrev B : Account
  B = buyer_after a t name b price n

  abbrev S : Account
  S = seller_after a t name s price n

  abbrev mid : List Account
  mid = set old ib B

  abbrev new : List Account
  new = set mid is S

  -- no condition of a refusal holds, and what was asked for is there
  passes : (i : ℕ) → (get_or (trade_refusals a t day name b s price n) i (0, false)).1 ≡ false
  passes i = accepted (trade_refusals a t day name b s price n) i refl ok

  parties : (1 ≤ b) × (1 ≤ s)
  parties =
      let q : trade_outside day name b s price n ≡ false = passes 1 in
      (at_least_one b (grind arith), at_least_one s (grind arith))

  apart : b ≡ s → ⊥
  apart = eqb-false b s (passes 3)

  found : Live t k
  found = live t k (passes 5)

  both_open : (missing (found_account t b) ≡ false) × (missing (found_account t s) ≡ false)
  both_open =
      or_parts (missing (found_account t b)) (missing (found_account t s)) (passes 6)

  buyer : Open t b
  buyer = open_row t b both_open.0

  seller : Open t s
  seller = open_row t s both_open.1

  b_in : ib < rows
  b_in = let i = buyer.within in omega (arith, h.well.accounts)

  s_in : is < rows
  s_in = let i = seller.within in omega (arith, h.well.accounts)

  s_mid : is < length mid
  s_mid = let i = seller.within in omega (arith, length-set old ib B)

  rows_apart : is ≡ ib → ⊥
  rows_apart e = apart (cc (buyer.number, seller.number))

  other_row : get_or mid is no_account ≡ rs
  other_row = get_or-set_other old ib is B no_account rows_apart

  -- what changes in both rows changes in the sums
  deal : (f : Account → ℤ) (d e : ℤ) → f B ≡ f rb +ℤ d → f S ≡ f rs +ℤ e → total f new ≡ total f old +ℤ (d +ℤ e)
  deal f d e hB hS =
      let bought = total_set f old ib B no_account buyer.within in
      let sold = total_set f mid is S no_account s_mid in
      let other = ap f other_row in
      omega (arith, ints)

  deal_by : (m : ℕ) (f : Account → ℤ) (d : ℤ) → f B ≡ f rb +ℤ d → f S ≡ f rs +ℤ neg_ℤ d → total (if_number m f) new ≡ total (if_number m f) old +ℤ between b s d m
  deal_by m f d hB hS =
      deal (if_number m f) (cond (eqb b m) d (pos 0)) (cond (eqb s m) (neg_ℤ d) (pos 0))
      (ap (λ (z : ℤ). cond (eqb rb.number m) z (pos 0)) hB
      ∙ (if_plus (eqb rb.number m) (f rb) d ∙ ap (λ (i : ℕ). if_number m f rb +ℤ cond (eqb i m) d (pos 0)) buyer.number))
      (ap (λ (z : ℤ). cond (eqb rs.number m) z (pos 0)) hS
      ∙ (if_plus (eqb rs.number m) (f rs) (neg_ℤ d) ∙ ap (λ (i : ℕ). if_number m f rs +ℤ cond (eqb i m) (neg_ℤ d) (pos 0)) seller.number))
      ∙ ap (λ (z : ℤ). total (if_number m f) old +ℤ z) (both b s m d apart)

  p_in : (i : ℕ) → i < rows → p < length (account_at t i).lots
  p_in i c = omega (arith, found.within, h.well.lines, h.well.lots i c)

  b_lots : (j : ℕ) (x : Bool) → eqb j p ≡ x → lots_in j B ≡ lots_in j rb +ℤ cond x (pos n) (pos 0)
  b_lots j x e = traded_lots j p (pos n) gain rb (p_in ib b_in) x e

  s_lots : (j : ℕ) (x : Bool) → eqb j p ≡ x → lots_in j S ≡ lots_in j rs +ℤ cond x (neg_ℤ (pos n)) (pos 0)
  s_lots j x e = traded_lots j p (neg_ℤ (pos n)) (pos n *ℤ change l.carry v) rs (p_in is s_in) x e

  others : (j : ℕ) → (j ≡ p → ⊥) → lots_of new j ≡ lots_of old j
  others j ne = fun_ext (λ m.
      deal_by m (lots_in j) (pos 0) (b_lots j false (ne_eqb j p ne)) (s_lots j false (ne_eqb j p ne))
      ∙ (ap (λ (z : ℤ). lots_of old j m +ℤ z) (of_nothing (eqb b m) (eqb s m)) ∙ sym (plus_zero (lots_of old j m))))

  here : lots_of new p ≡ (λ m. lots_of old p m +ℤ between b s (pos n) m)
  here = fun_ext (λ m. deal_by m (lots_in p) (pos n) (b_lots p true (eq-eqb p p refl)) (s_lots p true (eq-eqb p p refl)))

  lost : S.equity ≡ rs.equity +ℤ neg_ℤ gain
  lost = cc (turned v l.carry, mul_negℤ (pos n) (change v l.carry))

  equity_is : (m : ℕ) → equity_of new m ≡ equity_of old m +ℤ between b s gain m
  equity_is m = deal_by m (λ r. r.equity) gain refl lost

  -- the line itself is as it was
  unchanged : set t.lines p (Taken l) ≡ t.lines
  unchanged = ap (set t.lines p) (sym found.taken) ∙ set-get_or t.lines p Free

  view_is : view_from new 0 t.lines ≡ at_name k (dealt b s n) (view t)
  view_is =
      ap (view_from new 0) (sym unchanged)
      ∙ view_amend old new k (dealt b s n) p l l found.named others
      (ap (λ (f : ℕ → ℤ). record { line = l; lots = f }) (sym here))
      0 t.lines p h.well.orderly.names found.taken (omega arith)

  abbrev part : ℕ → Entry → ℤ
  part m e = between b s (pos n) m *ℤ pos e.line.carry

  abbrev price_of : ℤ
  price_of = total (paid a k price n) g.lines

  paid_is : price_of ≡ pos n *ℤ pos v
  paid_is = pick t g k h found (λ e. pos n *ℤ pos (a.trade (lot_of e.line.terms) price))

  gain_is : (m : ℕ) → between b s gain m ≡ between b s (pos n) m *ℤ pos l.carry -ℤ between b s price_of m
  gain_is m = cc (deal_split (eqb b m) (eqb s m) (pos n) (pos l.carry) (pos v), paid_is)

  numbers_same : numbers new ≡ numbers old
  numbers_same = same_numbers mid is S (sym (ap (λ (r : Account). r.number) other_row)) ∙ same_numbers old ib B refl

  trade_agrees : Agrees (trade_table a t day name b s price n) (post a g (Trade day name b s price n))
  trade_agrees =
      record {
        accounts = same_open t.count old new numbers_same ∙ h.agrees.accounts;
        lines = perm_from view_is (perm_map _ h.agrees.lines);
        equity = λ m.
            let before = h.agrees.equity m in
            let after = equity_is m in
            let gains = gain_is m in
            let lots = pick t g k h found (part m) in
            let worth =
            total_where (carry_worth m) (is_named k) (dealt b s n) (part m)
            (λ e. add_mulℤ (e.lots m) (between b s (pos n) m) (pos e.line.carry)) g.lines in
            omega (arith, ints);
      }

  lots_balanced : (j : ℕ) (x : Bool) → eqb j p ≡ x → total (lots_in j) new ≡ pos 0
  lots_balanced j true e =
      cc (deal (lots_in j) (pos n) (neg_ℤ (pos n)) (b_lots j true e) (s_lots j true e), h.balanced.lots j, +ℤ_invr (pos n))
  lots_balanced j false e = cc (deal (lots_in j) (pos 0) (pos 0) (b_lots j false e) (s_lots j false e), h.balanced.lots j)

  trade_balanced : Balanced (trade_table a t day name b s price n)
  trade_balanced =
      record {
        lots = λ j. lots_balanced j (eqb j p) refl;
        equity =
            deal (λ r. r.equity) gain (neg_ℤ gain) refl lost
            ∙ ap₂ (λ (x y : ℤ). x +ℤ y) h.balanced.equity (+ℤ_invr gain);
      }

  -- a row is the buyer's, the seller's or as it was
  row_by : (P : Account → Type 0) → P B → P S → (i : ℕ) → P (account_at t i) → P (get_or new i no_account)
  row_by P bought sold i was = set_at P no_account mid is S sold i (set_at P no_account old ib B bought i was)

  -- the place of the trade is not free
  elsewhere : (j : ℕ) → get_or t.lines j Free ≡ Free → eqb j p ≡ false
  elsewhere j e = ne_eqb j p (λ q. not_both l (sym e ∙ (ap (λ (i : ℕ). get_or t.lines i Free) q ∙ found.taken)))

  free_at : (j : ℕ) → get_or t.lines j Free ≡ Free → (i : ℕ) → lots_in j (get_or new i no_account) ≡ pos 0
  free_at j e i =
      row_by (λ (r : Account). lots_in j r ≡ pos 0)
      (cc (b_lots j false (elsewhere j e), plus_zero (lots_in j rb), h.well.orderly.free j e ib))
      (cc (s_lots j false (elsewhere j e), plus_zero (lots_in j rs), h.well.orderly.free j e is))
      i (h.well.orderly.free j e i)

  -- a row in use is not spare
  in_use : (i m : ℕ) → t.count ≤ i → i < rows → (account_at t i).number ≡ m → 1 ≤ m → ⊥
  in_use i m c d e q = omega (arith, ap (λ (r : Account). r.number) (h.well.spare i c d))

  trade_well : Well a (trade_table a t day name b s price n)
  trade_well =
      record {
        lines = h.well.lines;
        accounts = length-set mid is S ∙ (length-set old ib B ∙ h.well.accounts);
        lots = λ i c.
            row_by (λ (r : Account). length r.lots ≡ places)
            (length-set rb.lots p (lots_in p rb +ℤ pos n) ∙ h.well.lots ib b_in)
            (length-set rs.lots p (lots_in p rs +ℤ neg_ℤ (pos n)) ∙ h.well.lots is s_in) i (h.well.lots i c);
        spare = λ i c d.
            get_or-set_other mid is i S no_account (λ e. in_use i s c d (ap (λ (m : ℕ). (account_at t m).number) e ∙ seller.number) parties.1)
            ∙ (get_or-set_other old ib i B no_account (λ e. in_use i b c d (ap (λ (m : ℕ). (account_at t m).number) e ∙ buyer.number) parties.0)
            ∙ h.well.spare i c d);
        orderly =
            record {
              names = h.well.orderly.names;
              stocks = h.well.orderly.stocks;
              free = free_at;
            };
        nameless = h.well.nameless;
        numbers =
            subst (λ (ns : List ℕ). NumbersDiffer ns)
            (sym numbers_same) h.well.numbers;
      }

  pub trade_holds : Holds a (trade_table a t day name b s price n) (post a g (Trade day name b s price n))
  trade_holds = record { well = trade_well; balanced = trade_balanced; agrees = trade_agrees }
