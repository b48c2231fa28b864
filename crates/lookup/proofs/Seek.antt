-- Facts of the first place where a test passes, for the crates above too.
use Rattle.std.proofs.Common.{◌≡◌, ℕ, zero, suc, ◌+◌, ◌<◌, ◌≤◌, Bool, true, false, not, List, [], ◌∷◌, length, get_or, Some, None, Option, sym, refl, ap, ◌∙◌, ⊎_elim, arith}
use Rattle.std.proofs.lemmas.Bool.{cases_Bool, cases_lt, cases_order, both_ways, or_parts, or_from, cond-true, cond-false, lt-ltb, le-ltb}
use Rattle.lookup.specs.Seek.{seek, sought, any_of, FirstAt, First}

some_none : (i : ℕ) → ◌≡◌ {A = Option ℕ} (Some i) None → ⊥
some_none i e = let z : ◌≡◌ {A = ℕ} 0 1 = cc in omega arith

same_place : (i j n : ℕ) → j < n → Some i ≡ Some j → (i ≡ j) × (i < n)
same_place i j n l e = let same : i ≡ j = cc in (same, omega arith)

module _ {X : Type 0} (p : X → Bool) where
  seek_here : (x : X) (xs : List X) → p x ≡ true → seek p (x ∷ xs) ≡ 0
  seek_here x xs h = cond-false (not (p x)) (1 + seek p xs) 0 (ap not h)

  seek_later : (x : X) (xs : List X) → p x ≡ false → seek p (x ∷ xs) ≡ suc (seek p xs)
  seek_later x xs h = cond-true (not (p x)) (1 + seek p xs) 0 (ap not h) ∙ omega arith

  pub seek_most : (xs : List X) → seek p xs ≤ length xs
  seek_most [] = omega arith
  seek_most (x ∷ xs) =
      let m = seek_most xs in
      ⊎_elim (λ h. omega (arith, seek_here x xs h)) (λ h. omega (arith, seek_later x xs h)) (cases_Bool (p x))

  pub seek_in : (xs : List X) (d : X) → seek p xs < length xs → p (get_or xs (seek p xs) d) ≡ true
  seek_in [] d h = absurd (omega arith)
  seek_in (x ∷ xs) d h =
      ⊎_elim
      (λ t. ap (λ n. p (get_or (x ∷ xs) n d)) (seek_here x xs t) ∙ t)
      (λ f. ap (λ n. p (get_or (x ∷ xs) n d)) (seek_later x xs f) ∙ seek_in xs d (omega (arith, seek_later x xs f)))
      (cases_Bool (p x))

  pub seek_before : (xs : List X) (k : ℕ) (d : X) → k < seek p xs → p (get_or xs k d) ≡ false
  seek_before [] k d h = absurd (omega arith)
  seek_before (x ∷ xs) zero d h =
      ⊎_elim (λ t. absurd (omega (arith, seek_here x xs t))) (λ f. f) (cases_Bool (p x))
  seek_before (x ∷ xs) (suc k) d h =
      ⊎_elim
      (λ t. absurd (omega (arith, seek_here x xs t)))
      (λ f. seek_before xs k d (omega (arith, seek_later x xs f)))
      (cases_Bool (p x))

  pub seek_out : (xs : List X) → length xs ≤ seek p xs → any_of p xs ≡ false
  seek_out [] h = refl
  seek_out (x ∷ xs) h =
      ⊎_elim
      (λ t. absurd (omega (arith, seek_here x xs t)))
      (λ f. or_from (p x) (any_of p xs) f (seek_out xs (omega (arith, seek_later x xs f))))
      (cases_Bool (p x))

  pub any_out : (xs : List X) → any_of p xs ≡ false → seek p xs ≡ length xs
  any_out [] h = refl
  any_out (x ∷ xs) h =
      let parts = or_parts (p x) (any_of p xs) h in
      seek_later x xs parts.0 ∙ ap suc (any_out xs parts.1)

  -- The answer, by the place.
  pub sought_some : (xs : List X) (i : ℕ) → i < length xs → i ≡ seek p xs → Some i ≡ sought p xs
  sought_some xs i l e =
      ap Some e ∙ sym (cond-true _ (Some (seek p xs)) None (lt-ltb (seek p xs) (length xs) (omega arith)))

  pub sought_none : (xs : List X) → length xs ≤ seek p xs → None ≡ sought p xs
  sought_none xs l = sym (cond-false _ (Some (seek p xs)) None (le-ltb (seek p xs) (length xs) l))

  -- The place, by the answer.
  pub some_sought : (xs : List X) (i : ℕ) → Some i ≡ sought p xs → (i ≡ seek p xs) × (i < length xs)
  some_sought xs i e =
      ⊎_elim
      (λ l. same_place i (seek p xs) (length xs) l (e ∙ sym (sought_some xs (seek p xs) l refl)))
      (λ l. absurd (some_none i (e ∙ sym (sought_none xs l))))
      (cases_lt (seek p xs) (length xs))

  pub none_sought : (xs : List X) → None ≡ sought p xs → length xs ≤ seek p xs
  none_sought xs e =
      ⊎_elim
      (λ l. absurd (some_none (seek p xs) (sought_some xs (seek p xs) l refl ∙ sym e)))
      (λ l. l)
      (cases_lt (seek p xs) (length xs))

  pub none_any : (xs : List X) → None ≡ sought p xs → any_of p xs ≡ false
  none_any xs e = seek_out xs (none_sought xs e)

  -- The same of an answer that is the place.
  pub none_found : (xs : List X) (r : Option ℕ) → r ≡ sought p xs → r ≡ None → any_of p xs ≡ false
  none_found xs r e n = none_any xs (sym n ∙ e)

  -- Where the relation holds of an answer, the answer is the place.
  first_at_seek : (xs : List X) (i : ℕ) → FirstAt p xs i → i ≡ seek p xs
  first_at_seek [] i f = absurd (omega (arith, f.within))
  first_at_seek (x ∷ xs) i f =
      ⊎_elim
      (λ e. e)
      (⊎_elim
      (λ l. absurd (both_ways (p (get_or (x ∷ xs) i x)) (seek_before (x ∷ xs) i x l) (f.passes x)))
      (λ l. absurd (both_ways (p (get_or (x ∷ xs) (seek p (x ∷ xs)) x)) (f.before (seek p (x ∷ xs)) x l) (seek_in (x ∷ xs) x (omega (arith, f.within))))))
      (cases_order i (seek p (x ∷ xs)))

  none_first : (xs : List X) → First p xs None → length xs ≤ seek p xs
  none_first [] f = omega arith
  none_first (x ∷ xs) f =
      ⊎_elim
      (λ l. absurd (both_ways (p (get_or (x ∷ xs) (seek p (x ∷ xs)) x)) (f (seek p (x ∷ xs)) x l) (seek_in (x ∷ xs) x l)))
      (λ l. l)
      (cases_lt (seek p (x ∷ xs)) (length (x ∷ xs)))

  -- `sought` is the first place where the test passes.
  pub sought_first : (xs : List X) (r : Option ℕ) → r ≡ sought p xs → First p xs r
  sought_first xs (Some i) e =
      let at = some_sought xs i e in
      record {
        within = at.1;
        passes = λ d. ap (λ n. p (get_or xs n d)) at.0 ∙ seek_in xs d (omega (arith, at.0, at.1));
        before = λ k d h. seek_before xs k d (omega (arith, at.0));
      }
  sought_first xs None e = λ k d h. seek_before xs k d (omega (arith, none_sought xs e))

  -- The relation leaves no other answer.
  pub first_sought : (xs : List X) (r : Option ℕ) → First p xs r → r ≡ sought p xs
  first_sought xs (Some i) f = sought_some xs i f.within (first_at_seek xs i f)
  first_sought xs None f = sought_none xs (none_first xs f)
