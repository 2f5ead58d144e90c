-- Items that are read one behind another.
use Rattle.std.proofs.Common.{◌≡◌, ℕ, suc, ◌+◌, ◌≤◌, ◌⊎◌, inl, inr, List, [], ◌∷◌, ◌++◌, length, refl, ap, sym, subst, ◌∙◌, arith, append_assoc, append-nil, length-append}
use Rattle.kn_report.specs.Texts.{numbered_from}
use Rattle.kn_report.specs.Words.{IsItemRead, AllFrom, AreRead}

module _ {A : Type 0} (spelled : ℕ → A → List ℕ) (P : ℕ → A → Type 0) where
  -- numbered items in two parts
  pub numbered_append : (k : ℕ) (xs ys : List A) → numbered_from spelled k (xs ++ ys) ≡ numbered_from spelled k xs ++ numbered_from spelled (k + length xs) ys
  numbered_append k [] ys = ap (λ (n : ℕ). numbered_from spelled n ys) (omega arith)
  numbered_append k (x ∷ xs) ys =
      let next : k + 1 + length xs ≡ k + suc (length xs) = omega arith in
      ap (λ (l : List ℕ). spelled k x ++ l) (numbered_append (k + 1) xs ys ∙ ap (λ (n : ℕ). numbered_from spelled (k + 1) xs ++ numbered_from spelled n ys) next)
      ∙ sym (append_assoc (spelled k x) (numbered_from spelled (k + 1) xs) (numbered_from spelled (k + suc (length xs)) ys))

  -- one item at the end
  pub numbered_last : (k n : ℕ) (xs : List A) (x : A) (after : List ℕ) → k + length xs ≡ n → numbered_from spelled k xs ++ (spelled n x ++ after) ≡ numbered_from spelled k (xs ++ x ∷ []) ++ after
  numbered_last k n xs x after at =
      sym (append_assoc (numbered_from spelled k xs) (spelled n x) after)
      ∙ ap (λ (l : List ℕ). (numbered_from spelled k xs ++ l) ++ after) (sym (append-nil (spelled n x)))
      ∙ ap (λ (m : ℕ). (numbered_from spelled k xs ++ numbered_from spelled m (x ∷ [])) ++ after) (sym at)
      ∙ ap (λ (l : List ℕ). l ++ after) (sym (numbered_append k xs (x ∷ [])))

  all_last : (k n : ℕ) (xs : List A) (x : A) → k + length xs ≡ n → AllFrom P k xs → P n x → AllFrom P k (xs ++ x ∷ [])
  all_last k n [] x at all good = (subst (λ (m : ℕ). P m x) (omega (arith, at)) good, tt)
  all_last k n (y ∷ ys) x at all good = (all.0, all_last (k + 1) n ys x (omega (arith, at)) all.1 good)

  -- these items were read and begin with those
  abbrev pub Longer : List A → List ℕ → List A → List ℕ → Type 0
  Longer xs rest ys more = (tail : List A) × (xs ≡ ys ++ tail) × (more ≡ numbered_from spelled (length ys) tail ++ rest)

  -- those begin with what was read
  abbrev pub Shorter : List A → List ℕ → List A → List ℕ → Type 0
  Shorter xs rest ys more = (tail : List A) × (ys ≡ xs ++ tail) × AllFrom P (length xs) tail × (rest ≡ numbered_from spelled (length xs) tail ++ more)

  -- what was read so far
  pub record SoFar (text : List ℕ) (xs : List A) (rest : List ℕ) : Type 0 where
    pub whole : text ≡ numbered_from spelled 0 xs ++ rest
    pub good : AllFrom P 0 xs
    pub both : (ys : List A) (more : List ℕ) → AllFrom P 0 ys → text ≡ numbered_from spelled 0 ys ++ more → Longer xs rest ys more ⊎ Shorter xs rest ys more

  pub nothing_yet : (text : List ℕ) → SoFar text [] text
  nothing_yet text = record {
    whole = refl;
    good = tt;
    both = λ ys more all is. inr (ys, refl, all, is);
  }

  module _ (text : List ℕ) (xs : List A) (rest : List ℕ) (x : A) (after : List ℕ) (read : IsItemRead (spelled (length xs)) (P (length xs)) rest x after) where
    longer : (ys : List A) (more : List ℕ) → Longer xs rest ys more → Longer (xs ++ x ∷ []) after ys more
    longer ys more l = go l.0 l.1 l.2
      where
        go : (tail : List A) → xs ≡ ys ++ tail → more ≡ numbered_from spelled (length ys) tail ++ rest → Longer (xs ++ x ∷ []) after ys more
        go tail e m =
            let count : length ys + length tail ≡ length xs = omega (arith, ap length e, length-append ys tail) in (
              tail ++ x ∷ [],
              ap (λ (l : List A). l ++ x ∷ []) e ∙ append_assoc ys tail (x ∷ []),
              m ∙ ap (λ (l : List ℕ). numbered_from spelled (length ys) tail ++ l) read.whole ∙ numbered_last (length ys) (length xs) tail x after count,
            )

    shorter : (ys : List A) (more : List ℕ) → Shorter xs rest ys more → Longer (xs ++ x ∷ []) after ys more ⊎ Shorter (xs ++ x ∷ []) after ys more
    shorter ys more s = go s.0 s.1 s.2 s.3
      where
        go : (tail : List A) → ys ≡ xs ++ tail → AllFrom P (length xs) tail → rest ≡ numbered_from spelled (length xs) tail ++ more → Longer (xs ++ x ∷ []) after ys more ⊎ Shorter (xs ++ x ∷ []) after ys more
        go [] e all r =
            let same : ys ≡ xs = e ∙ append-nil xs in
            let there : more ≡ spelled (length ys) x ++ after = sym r ∙ read.whole ∙ ap (λ (l : List A). spelled (length l) x ++ after) (sym same) in
            inl (x ∷ [], ap (λ (l : List A). l ++ x ∷ []) (sym same), there ∙ ap (λ (l : List ℕ). l ++ after) (sym (append-nil (spelled (length ys) x))))
        go (y ∷ tail) e all r =
            let one = read.one y (numbered_from spelled (length xs + 1) tail ++ more) all.0 (r ∙ append_assoc (spelled (length xs) y) (numbered_from spelled (length xs + 1) tail) more) in
            let count : length xs + 1 ≡ length (xs ++ x ∷ []) = sym (length-append xs (x ∷ [])) in
            inr (
              tail,
              e ∙ ap (λ (z : A). xs ++ z ∷ tail) one.0 ∙ sym (append_assoc xs (x ∷ []) tail),
              subst (λ (n : ℕ). AllFrom P n tail) count all.1,
              sym one.1 ∙ ap (λ (n : ℕ). numbered_from spelled n tail ++ more) count,
            )

    -- one item more
    pub one_more : SoFar text xs rest → SoFar text (xs ++ x ∷ []) after
    one_more so_far = record {
      whole = so_far.whole ∙ ap (λ (l : List ℕ). numbered_from spelled 0 xs ++ l) read.whole ∙ numbered_last 0 (length xs) xs x after (omega arith);
      good = all_last 0 (length xs) xs x (omega arith) so_far.good read.good;
      both = λ ys more all is. go ys more (so_far.both ys more all is);
    }
      where
        go : (ys : List A) (more : List ℕ) → Longer xs rest ys more ⊎ Shorter xs rest ys more → Longer (xs ++ x ∷ []) after ys more ⊎ Shorter (xs ++ x ∷ []) after ys more
        go ys more (inl l) = inl (longer ys more l)
        go ys more (inr s) = shorter ys more s

  -- no item is left
  pub all_read : (text : List ℕ) (xs : List A) (rest : List ℕ) → SoFar text xs rest → ((y : A) (more : List ℕ) → P (length xs) y → rest ≡ spelled (length xs) y ++ more → ⊥) → AreRead spelled P text xs rest
  all_read text xs rest so_far none = record {
    whole = so_far.whole;
    good = so_far.good;
    most = λ ys more all is. go ys more (so_far.both ys more all is);
  }
    where
      end : (ys : List A) (more : List ℕ) (tail : List A) → ys ≡ xs ++ tail → AllFrom P (length xs) tail → rest ≡ numbered_from spelled (length xs) tail ++ more → Longer xs rest ys more
      end ys more [] e all r = ([], sym (append-nil ys ∙ (e ∙ append-nil xs)), sym r)
      end ys more (y ∷ tail) e all r = absurd (none y (numbered_from spelled (length xs + 1) tail ++ more) all.0 (r ∙ append_assoc (spelled (length xs) y) (numbered_from spelled (length xs + 1) tail) more))

      go : (ys : List A) (more : List ℕ) → Longer xs rest ys more ⊎ Shorter xs rest ys more → Longer xs rest ys more
      go ys more (inl l) = l
      go ys more (inr s) = end ys more s.0 s.1 s.2 s.3

-- each item takes a byte at least
pub few_more : {A : Type 0} (xs : List A) (x : A) (new : List A) (rest after text : ℕ) → new ≡ xs ++ x ∷ [] → 1 + after ≤ rest → length xs + rest ≤ text → length new + after ≤ text
few_more xs x new rest after text is less few = omega (arith, less, few, ap length is, length-append xs (x ∷ []))

module _ {A : Type 0} (spelled : ℕ → A → List ℕ) (P : ℕ → A → Type 0) (n k : ℕ) (rest : List ℕ) where
  -- an item by its number
  pub item_at : (x : A) (after : List ℕ) → n ≡ k → IsItemRead (spelled n) (P n) rest x after → IsItemRead (spelled k) (P k) rest x after
  item_at x after same read = subst (λ (m : ℕ). IsItemRead (spelled m) (P m) rest x after) same read

  pub none_at : n ≡ k → ((y : A) (more : List ℕ) → P n y → rest ≡ spelled n y ++ more → ⊥) → (y : A) (more : List ℕ) → P k y → rest ≡ spelled k y ++ more → ⊥
  none_at same none = subst (λ (m : ℕ). (y : A) (more : List ℕ) → P m y → rest ≡ spelled m y ++ more → ⊥) same none
