-- Ticks before which nothing arrives.
use Rattle.std.proofs.Common.{◌≡◌, ℕ, ◌+◌, ◌<◌, Bool, true, false, cond, List, [], ◌∷◌, ◌++◌, length, take, get_or, refl, sym, ap, ◌∙◌, None, Some, arith}
use Rattle.std.specs.Prelude.{find, nat_eq}
use Rattle.std.proofs.lemmas.List.{take_more}
use Rattle.std.proofs.lemmas.Bool.{eqb-true}

module _ {A : Type 0} (test : A → Bool) where
  find_step : (x : A) (xs : List A) (b : Bool) → test x ≡ b → find test (x ∷ xs) ≡ cond b (Some x) (find test xs)
  find_step x xs b e = rw e refl

  -- one more that does not pass
  find_last : (xs : List A) (x : A) → find test xs ≡ None → test x ≡ false → find test (xs ++ x ∷ []) ≡ None
  find_last [] x none fails = find_step x [] false fails
  find_last (y ∷ ys) x none fails = go (λ rest. find_last ys x rest fails) (test y) refl
    where
      go : (find test ys ≡ None → find test (ys ++ x ∷ []) ≡ None) → (b : Bool) → test y ≡ b → find test (y ∷ (ys ++ x ∷ [])) ≡ None
      go later true e =
          let wrong : Some y ≡ None = sym (find_step y ys true e) ∙ none in
          absurd cc
      go later false e = find_step y (ys ++ x ∷ []) false e ∙ later (sym (find_step y ys false e) ∙ none)

  pub find_more : (xs : List A) (i : ℕ) (d x : A) → i < length xs → x ≡ get_or xs i d → find test (take i xs) ≡ None → test x ≡ false → find test (take (i + 1) xs) ≡ None
  find_more xs i d x less is none fails =
      ap (find test) (take_more xs i d less ∙ ap (λ (z : A). take i xs ++ (z ∷ [])) (sym is)) ∙ find_last (take i xs) x none fails

-- what is above a number is another one
pub other_tick : (arrival tick : ℕ) → tick < arrival → nat_eq arrival tick ≡ false
other_tick arrival tick less = go (nat_eq arrival tick) refl
  where
    go : (b : Bool) → nat_eq arrival tick ≡ b → nat_eq arrival tick ≡ false
    go false e = e
    go true e =
        let same : arrival ≡ tick = eqb-true arrival tick e in
        absurd (omega (arith, same, less))
