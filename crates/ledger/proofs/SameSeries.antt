-- The test of two series is equality.
use Rattle.std.proofs.Common.{◌≡◌, ℕ, true, false, eqb, arith}
use Rattle.std.proofs.lemmas.Bool.{both_ways, false_from_ne_true}
use Rattle.terms.specs.Names.{right_number}
use Rattle.terms.specs.declared.right.Right.{Right}
use Rattle.terms.specs.declared.code.Prefix.{Prefix}
use Rattle.terms.specs.declared.code.Series.{Series}
use Rattle.rows.specs.Rows.{same_prefix, same_series}

right_is : (r s : Right) → right_number r ≡ right_number s → r ≡ s
right_is r s e = grind arith

pub prefix_is : (a b : Prefix) → same_prefix a b ≡ true → a ≡ b
prefix_is a b e = grind arith

pub prefix_self : (a : Prefix) → same_prefix a a ≡ true
prefix_self a = grind arith

-- a series is its parts
pub series_from : (a b : Series) → a.prefix ≡ b.prefix → a.level ≡ b.level → a.expiry ≡ b.expiry → a.right ≡ b.right → a.strike ≡ b.strike → a ≡ b
series_from a b prefix level expiry right strike =
    let e : ◌≡◌ {A = Series}
    (record { prefix = a.prefix; level = a.level; expiry = a.expiry; right = a.right; strike = a.strike })
    (record { prefix = b.prefix; level = b.level; expiry = b.expiry; right = b.right; strike = b.strike }) = cc in
    e

pub series_is : (a b : Series) → same_series a b ≡ true → a ≡ b
series_is a b e = grind (arith, prefix_is, right_is, series_from)

pub is_series : (a b : Series) → a ≡ b → same_series a b ≡ true
is_series a b e = grind arith

pub other_series : (a b : Series) → (a ≡ b → ⊥) → same_series a b ≡ false
other_series a b n = false_from_ne_true (same_series a b) (λ e. n (series_is a b e))

pub not_series : (a b : Series) → same_series a b ≡ false → a ≡ b → ⊥
not_series a b e h = both_ways (same_series a b) e (is_series a b h)

-- it does not matter which of them comes first
pub eqb_turn : (m n : ℕ) → eqb m n ≡ eqb n m
eqb_turn m n = grind arith

pub prefix_turn : (a b : Prefix) → same_prefix a b ≡ same_prefix b a
prefix_turn a b = grind arith

pub series_turn : (a b : Series) → same_series a b ≡ same_series b a
series_turn a b =
    cc (
      prefix_turn a.prefix b.prefix,
      eqb_turn a.level b.level,
      eqb_turn a.expiry b.expiry,
      eqb_turn (right_number a.right) (right_number b.right),
      eqb_turn a.strike b.strike,
    )
