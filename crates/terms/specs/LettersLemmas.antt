-- Letters written as one text with no letter twice: reading undoes writing, and writing undoes reading.
use Rattle.std.specs.Prelude.{◌≡◌, ℕ, zero, suc, ◌<◌, Bool, true, false, cond, not, ◌&&◌, ◌||◌, List, [], ◌∷◌, length, Some, None, Option, ◌==◌, refl}
use Rattle.std.proofs.Common.{sym, ap, ◌∙◌, zero-le, suc-le-suc, le_of_suc-le-suc, not-suc-le-zero, arith}
use Rattle.std.proofs.lemmas.Bool.{eqb-true, eq-eqb, cond-true, and_parts, not-true}
use Rattle.terms.specs.Letters.{letter_in, level_in, one_more}

abbrev has : ℕ → List ℕ → Bool
has c [] = false
has c (x ∷ xs) = x == c || has c xs

abbrev pub distinct : List ℕ → Bool
distinct [] = true
distinct (x ∷ xs) = not (has x xs) && distinct xs

pub lettered : (xs : List ℕ) (n : ℕ) → n < length xs → (c : ℕ) × (letter_in xs n ≡ Some c)
lettered [] n h = absurd (not-suc-le-zero h)
lettered (x ∷ xs) zero h = (x, refl)
lettered (x ∷ xs) (suc n) h = lettered xs n (le_of_suc-le-suc h)

pub ten : (xs : List ℕ) (n c : ℕ) → letter_in xs n ≡ Some c → n < length xs
ten [] n c h = let z : ◌≡◌ {A = ℕ} 0 1 = cc in absurd (omega arith)
ten (x ∷ xs) zero c h = suc-le-suc (zero-le)
ten (x ∷ xs) (suc n) c h = suc-le-suc (ten xs n c h)

or_found : (a b : Bool) → b ≡ true → (a || b) ≡ true
or_found true b h = refl
or_found false b h = h

found : (xs : List ℕ) (n c : ℕ) → letter_in xs n ≡ Some c → has c xs ≡ true
found [] n c h = cc
found (x ∷ xs) zero c h = let e : x ≡ c = cc in ap (λ b. b || has c xs) (eq-eqb x c e)
found (x ∷ xs) (suc n) c h = or_found (x == c) (has c xs) (found xs n c h)

later : (x : ℕ) (xs : List ℕ) (n c : ℕ) → has x xs ≡ false → has c xs ≡ true → level_in xs c ≡ Some n → (b : Bool) → (x == c) ≡ b → cond b (Some 0) (one_more (level_in xs c)) ≡ Some (suc n)
later x xs n c out inside e true t = let same : x ≡ c = eqb-true x c t in let bad : true ≡ false = sym inside ∙ ap (λ (y : ℕ). has y xs) (sym same) ∙ out in cc
later x xs n c out inside e false t = ap one_more e

pub reads : (xs : List ℕ) → distinct xs ≡ true → (n c : ℕ) → letter_in xs n ≡ Some c → level_in xs c ≡ Some n
reads [] d n c h = cc
reads (x ∷ xs) d zero c h = let e : x ≡ c = cc in cond-true (x == c) (Some 0) (one_more (level_in xs c)) (eq-eqb x c e)
reads (x ∷ xs) d (suc n) c h =
    let p = and_parts (not (has x xs)) (distinct xs) d in
    later x xs n c (not-true (has x xs) p.0) (found xs n c h) (reads xs p.1 n c h) (x == c) refl

after :
    (x : ℕ) (xs : List ℕ) (n c : ℕ) →
    ((m : ℕ) → level_in xs c ≡ Some m → letter_in xs m ≡ Some c) →
    (o : Option ℕ) →
    level_in xs c ≡ o →
    one_more o ≡ Some n →
    letter_in (x ∷ xs) n ≡ Some c
after x xs n c rest None e h = cc
after x xs n c rest (Some m) e h = let z : suc m ≡ n = cc in ap (letter_in (x ∷ xs)) (sym z) ∙ rest m e

written :
    (x : ℕ) (xs : List ℕ) (n c : ℕ) →
    ((m : ℕ) → level_in xs c ≡ Some m → letter_in xs m ≡ Some c) →
    (b : Bool) →
    (x == c) ≡ b →
    cond b (Some 0) (one_more (level_in xs c)) ≡ Some n →
    letter_in (x ∷ xs) n ≡ Some c
written x xs n c rest true t h =
    let e : x ≡ c = eqb-true x c t in
    let z : 0 ≡ n = cc in
    ap (letter_in (x ∷ xs)) (sym z) ∙ ap Some e
written x xs n c rest false t h = after x xs n c rest (level_in xs c) refl h

pub writes : (xs : List ℕ) (n c : ℕ) → level_in xs c ≡ Some n → letter_in xs n ≡ Some c
writes [] n c h = cc
writes (x ∷ xs) n c h = written x xs n c (λ m e. writes xs m c e) (x == c) refl h

pub differ : (xs : List ℕ) → distinct xs ≡ true → (m n c : ℕ) → letter_in xs m ≡ Some c → letter_in xs n ≡ Some c → m ≡ n
differ xs d m n c hm hn = let p = reads xs d m c hm in let q = reads xs d n c hn in cc
