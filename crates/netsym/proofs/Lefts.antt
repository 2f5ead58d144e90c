-- A fact of a list by its items, where a loop has what is left of the list.
use Rattle.std.proofs.Common.{◌≡◌, ◌<◌, ◌+◌, ◌↔◌, ℕ, true, false, List, ◌∷◌, length, drop, get_or, sym, subst}
use Rattle.std.specs.Prelude.{IsTrue}
use Rattle.std.proofs.lemmas.List.{drop_more}

-- a fact of a list, at an index, is one of its first item and one of the others
pub record ByItems {X : Type 0} (F : ℕ → List X → Type 0) (Head : ℕ → X → List X → Type 0) : Type 0 where
  pub parts : (i : ℕ) (x : X) (xs : List X) → F i (x ∷ xs) → Head i x xs × F (i + 1) xs
  pub joins : (i : ℕ) (x : X) (xs : List X) → Head i x xs → F (i + 1) xs → F i (x ∷ xs)

-- the fact of the whole list is the fact of what is left
abbrev pub IsLeft : {X : Type 0} → (ℕ → List X → Type 0) → List X → ℕ → Type 0
IsLeft F xs i = F 0 xs ↔ F i (drop i xs)

pub left_more : {X : Type 0} {F : ℕ → List X → Type 0} {Head : ℕ → X → List X → Type 0} → ByItems F Head → (xs : List X) (i : ℕ) (d : X) → i < length xs
    → Head i (get_or xs i d) (drop (i + 1) xs) → IsLeft F xs i → IsLeft F xs (i + 1)
left_more {F = F} by xs i d inside head h =
    let e = drop_more xs i d inside in
    (λ w. (by.parts i (get_or xs i d) (drop (i + 1) xs) (subst (F i) e (h.0 w))).1, λ r. h.1 (subst (F i) (sym e) (by.joins i (get_or xs i d) (drop (i + 1) xs) head r)))

pub left_fails : {X : Type 0} {F : ℕ → List X → Type 0} {Head : ℕ → X → List X → Type 0} → ByItems F Head → (xs : List X) (i : ℕ) (d : X) → i < length xs
    → (Head i (get_or xs i d) (drop (i + 1) xs) → ⊥) → IsLeft F xs i → F 0 xs → ⊥
left_fails {F = F} by xs i d inside wrong h w =
    wrong (by.parts i (get_or xs i d) (drop (i + 1) xs) (subst (F i) (drop_more xs i d inside) (h.0 w))).0

pub holds_false : {P : Type 0} → (P → ⊥) → IsTrue false ↔ P
holds_false wrong = (λ t. absurd (let e : false ≡ true = t in cc), λ p. absurd (wrong p))
