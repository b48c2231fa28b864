-- Futures and options keep the law of a family.
use Rattle.std.specs.Prelude.{◌≡◌, ℕ, ◌*◌, ◌≤◌, true, codes, refl}
use Rattle.std.proofs.Common.{mul-le-mul, zero-add, add-zero, arith}
use Rattle.std.proofs.lemmas.Bool.Decides.{nat_tests}
use Rattle.terms.specs.Units.{largest_units, largest_price, largest_value}
use Rattle.terms.specs.Family.{Law}
use Rattle.terms.specs.Futures.{futures, futures_fits}
use Rattle.terms.specs.Options.{options, options_fits, exercised}
use Rattle.terms.specs.declared.right.Right.{Right}
use Rattle.terms.specs.declared.right.Right.TheVariants.{Without, Call, Put}
use Rattle.terms.specs.LettersLemmas.{lettered, ten, reads, writes, differ}

-- a price times share units
pub product_in : (price units : ℕ) → price ≤ largest_price → units ≤ largest_units → price * units ≤ 400000000000000
product_in price units hp hu = mul-le-mul hp hu

futures_strikes : (r : Right) (strike : ℕ) → futures_fits r strike ≡ true → strike ≤ largest_price
futures_strikes Without strike h = grind (arith, nat_tests)
futures_strikes Call strike h = cc
futures_strikes Put strike h = cc

pub futures_law : Law futures
futures_law =
    record {
      lettered = λ n h. lettered (codes "F123456789") n (omega arith);
      ten = λ n c h. let k = ten (codes "F123456789") n c h in omega arith;
      reads = reads (codes "F123456789") refl;
      writes = writes (codes "F123456789");
      differ = differ (codes "F123456789") refl;
      lot_least = omega arith;
      lot_most = omega arith;
      strikes = futures_strikes;
      parts = zero-add;
      trade_in = λ l price h. grind (arith, nat_tests, product_in);
      mark_in = λ l price h. grind (arith, nat_tests, product_in);
      final_in = λ l price dollars h d. grind (arith, nat_tests, product_in);
    }

options_strikes : (r : Right) (strike : ℕ) → options_fits r strike ≡ true → strike ≤ largest_price
options_strikes Without strike h = cc
options_strikes Call strike h = grind (arith, nat_tests)
options_strikes Put strike h = grind (arith, nat_tests)

exercised_in : (r : Right) (w k : ℕ) → w ≤ largest_value → k ≤ largest_value → exercised r w k ≤ largest_value
exercised_in Without w k hw hk = omega arith
exercised_in Call w k hw hk = omega arith
exercised_in Put w k hw hk = omega arith

pub options_law : Law options
options_law =
    record {
      lettered = λ n h. lettered (codes "OABCDEFGHI") n (omega arith);
      ten = λ n c h. let k = ten (codes "OABCDEFGHI") n c h in omega arith;
      reads = reads (codes "OABCDEFGHI") refl;
      writes = writes (codes "OABCDEFGHI");
      differ = differ (codes "OABCDEFGHI") refl;
      lot_least = omega arith;
      lot_most = omega arith;
      strikes = options_strikes;
      parts = add-zero;
      trade_in = λ l price h. grind (arith, nat_tests, product_in);
      mark_in = λ l price h. omega arith;
      final_in =
          λ l price dollars h d.
          let s = options_strikes l.right l.strike in
          exercised_in l.right _ _ (grind (arith, nat_tests, product_in)) (grind (arith, nat_tests, product_in));
    }
