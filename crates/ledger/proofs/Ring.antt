-- Laws of the integers, and of amounts under a test.
use Rattle.std.proofs.Common.{◌≡◌, ℕ, ◌+◌, ◌*◌, Bool, cond, ℤ, pos, ◌+ℤ◌, ◌-ℤ◌, ◌*ℤ◌, neg_ℤ, ap, add-mul, arith}
use lib.IntN.{*ℤ_comm}
use borrow.Author.Differences.{up, down, sum_is_lem, product_is, same_in}
use Rattle.std.proofs.lemmas.Int.{ints}

-- sums with nothing
pub plus_zero : (x : ℤ) → x ≡ x +ℤ pos 0
plus_zero x = omega (arith, ints)

pub first_alone : (x y z : ℤ) → x ≡ z → y ≡ pos 0 → x +ℤ y ≡ z
first_alone x y z e n = omega (arith, ints)

pub second_alone : (x y z : ℤ) → x ≡ pos 0 → y ≡ z → x +ℤ y ≡ z
second_alone x y z n e = omega (arith, ints)

-- products of sums, of what is negated, and of differences
pub add_mulℤ : (a b c : ℤ) → (a +ℤ b) *ℤ c ≡ a *ℤ c +ℤ b *ℤ c
add_mulℤ a b c =
    let e : up (a +ℤ b) + (down a + down b) ≡ down (a +ℤ b) + (up a + up b) = omega (arith, sum_is_lem a b) in
    let u : up (a +ℤ b) * up c + (down a * up c + down b * up c) ≡ down (a +ℤ b) * up c + (up a * up c + up b * up c) =
    simp add-mul at (ap (λ (n : ℕ). n * up c) e) in
    let d : up (a +ℤ b) * down c + (down a * down c + down b * down c) ≡ down (a +ℤ b) * down c + (up a * down c + up b * down c) =
    simp add-mul at (ap (λ (n : ℕ). n * down c) e) in
    same_in ((a +ℤ b) *ℤ c) (a *ℤ c +ℤ b *ℤ c)
    (omega (arith, u, d, product_is (a +ℤ b) c, product_is a c, product_is b c, sum_is_lem (a *ℤ c) (b *ℤ c)))

pub neg_mulℤ : (a c : ℤ) → neg_ℤ a *ℤ c ≡ neg_ℤ (a *ℤ c)
neg_mulℤ a c = grind (arith, ints)

pub mul_negℤ : (a b : ℤ) → a *ℤ neg_ℤ b ≡ neg_ℤ (a *ℤ b)
mul_negℤ a b = grind (arith, ints)

pub mul_subℤ : (a b c : ℤ) → a *ℤ (b -ℤ c) ≡ a *ℤ b -ℤ a *ℤ c
mul_subℤ a b c =
    let e = add_mulℤ b (neg_ℤ c) a in
    let q = neg_mulℤ c a in
    omega (arith, ints, *ℤ_comm a (b -ℤ c), *ℤ_comm a b, *ℤ_comm a c)

-- an amount under a test: of nothing, of a sum and of a product
pub if_zero : (b : Bool) (x : ℤ) → x ≡ pos 0 → cond b x (pos 0) ≡ pos 0
if_zero b x e = grind arith

pub if_plus : (b : Bool) (x y : ℤ) → cond b (x +ℤ y) (pos 0) ≡ cond b x (pos 0) +ℤ cond b y (pos 0)
if_plus b x y = grind (arith, ints)

pub if_times : (b : Bool) (x y : ℤ) → cond b (x *ℤ y) (pos 0) ≡ cond b x (pos 0) *ℤ y
if_times b x y = grind (arith, ints)
