-- Bounds of the signed arithmetic of a row.
use Rattle.std.proofs.Common.{◌≡◌, ℕ, zero, suc, ◌+◌, ◌*◌, ◌≤◌, ℤ, pos, negsuc, ◌+ℤ◌, ◌-ℤ◌, ◌*ℤ◌, neg_ℤ, nat_abs, sym, refl, subst, mul-le-mul, arith, w64, SFits}
use Rattle.std.proofs.lemmas.Int.{ints}

pub abs_neg : (n : ℕ) → nat_abs (neg_ℤ (pos n)) ≡ n
abs_neg zero = refl
abs_neg (suc n) = refl

pub abs_mul : (x y : ℤ) → nat_abs (x *ℤ y) ≡ nat_abs x * nat_abs y
abs_mul (pos a) (pos b) = refl
abs_mul (pos a) (negsuc b) = abs_neg (a * suc b)
abs_mul (negsuc a) (pos b) = abs_neg (suc a * b)
abs_mul (negsuc a) (negsuc b) = refl

pub abs_add : (x y : ℤ) → nat_abs (x +ℤ y) ≤ nat_abs x + nat_abs y
abs_add x y = omega (arith, ints)

pub mul_in : (x y : ℤ) (m n : ℕ) → nat_abs x ≤ m → nat_abs y ≤ n → nat_abs (x *ℤ y) ≤ m * n
mul_in x y m n h k = subst (λ (z : ℕ). z ≤ m * n) (sym (abs_mul x y)) (mul-le-mul h k)

pub in64 : (z : ℤ) → nat_abs z ≤ 8000000000000000000 → SFits w64 z
in64 z h = omega (arith, ints)

pub product_fits : (x y : ℤ) → nat_abs x ≤ 4000 → nat_abs y ≤ 1000000000000000 → nat_abs (x *ℤ y) ≤ 4000000000000000000
product_fits x y h k = mul_in x y 4000 1000000000000000 h k

pub change_in : (from to : ℕ) → from ≤ 1000000000000000 → to ≤ 1000000000000000 → nat_abs (pos to -ℤ pos from) ≤ 1000000000000000
change_in from to h k = omega (arith, ints)

-- the parts of a gain fit their types
pub moved_in :
    (equity lots : ℤ) (from to : ℕ) → nat_abs equity ≤ 4000000000000000000 → nat_abs lots ≤ 4000 → from ≤ 1000000000000000 → to ≤ 1000000000000000 →
    SFits w64 (pos to -ℤ pos from) × SFits w64 (lots *ℤ (pos to -ℤ pos from)) × SFits w64 (equity +ℤ lots *ℤ (pos to -ℤ pos from))
moved_in equity lots from to h l o n =
    let by = pos to -ℤ pos from in
    let b : nat_abs by ≤ 1000000000000000 = change_in from to o n in
    let p : nat_abs (lots *ℤ by) ≤ 4000000000000000000 = product_fits lots by l b in
    let s : nat_abs (equity +ℤ lots *ℤ by) ≤ nat_abs equity + nat_abs (lots *ℤ by) = abs_add equity (lots *ℤ by) in
    (in64 by (omega arith), in64 (lots *ℤ by) (omega arith), in64 (equity +ℤ lots *ℤ by) (omega arith))
