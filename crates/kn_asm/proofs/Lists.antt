-- Loops over texts whose operands may be refused.
use Rattle.std.proofs.Common.{◌≡◌, ℕ, ◌+◌, ◌<◌, ◌≤◌, List, [], ◌∷◌, ◌++◌, length, map, drop, drop-cons, get_or, add-one, Option, Some, None, refl, sym, ap, ◌∙◌, append_assoc}
use Rattle.std.specs.Option.{option_map}
use Rattle.std.proofs.lemmas.List.{append-nil, map-append, drop_all}
use Rattle.kn_asm.specs.Operands.{Operand, put_first, operand_in_lem, operands_of_lem}

-- what was read before, and what is still read
abbrev pub with_front : {A : Type 0} → List A → Option (List A) → Option (List A)
with_front front read = option_map (λ xs. front ++ xs) read

regroup : {A : Type 0} (front : List A) (x : A) (read : Option (List A)) → with_front front (put_first (Some x) read) ≡ with_front (front ++ x ∷ []) read
regroup front x None = refl
regroup front x (Some xs) = ap (λ (l : List _). Some l) (sym (append_assoc front (x ∷ []) xs))

-- the next text is the front of what is left
next_text : {A : Type 0} (see : A → List ℕ) (xs : List A) (i : ℕ) (d : A) → i < length xs → map see (drop i xs) ≡ see (get_or xs i d) ∷ map see (drop (i + 1) xs)
next_text see xs i d lt = ap (map see) (drop-cons xs i d lt) ∙ ap (λ (k : ℕ). see (get_or xs i d) ∷ map see (drop k xs)) (sym (add-one i))

module _ {A C : Type 0} (see : A → List ℕ) (view : C → Operand) where
  pub read_more : (xs : List A) (i : ℕ) (d : A) (old new : List C) (o : Option C) (x : C) (total : Option (List Operand))
      → i < length xs → option_map view o ≡ operand_in_lem (see (get_or xs i d)) → o ≡ Some x → new ≡ old ++ x ∷ []
      → with_front (map view old) (operands_of_lem (map see (drop i xs))) ≡ total → with_front (map view new) (operands_of_lem (map see (drop (i + 1) xs))) ≡ total
  unfolding operands_of_lem
  read_more xs i d old new o x total lt e is_x is_new before =
      let rest : Option (List Operand) = operands_of_lem (map see (drop (i + 1) xs)) in
      let front : map view new ≡ map view old ++ view x ∷ [] = ap (map view) is_new ∙ map-append view old (x ∷ []) in
      let first : operand_in_lem (see (get_or xs i d)) ≡ Some (view x) = sym e ∙ ap (option_map view) is_x in
      ap (λ (l : List Operand). with_front l rest) front
      ∙ sym (ap (λ (t : List (List ℕ)). with_front (map view old) (operands_of_lem t)) (next_text see xs i d lt)
      ∙ ap (λ (r : Option Operand). with_front (map view old) (put_first r rest)) first
      ∙ regroup (map view old) (view x) rest)
      ∙ before

  pub read_none : (xs : List A) (i : ℕ) (d : A) (old : List C) (o : Option C) (total : Option (List Operand))
      → i < length xs → option_map view o ≡ operand_in_lem (see (get_or xs i d)) → o ≡ None
      → with_front (map view old) (operands_of_lem (map see (drop i xs))) ≡ total → None ≡ total
  unfolding operands_of_lem
  read_none xs i d old o total lt e is_none before =
      let rest : Option (List Operand) = operands_of_lem (map see (drop (i + 1) xs)) in
      let first : operand_in_lem (see (get_or xs i d)) ≡ None = sym e ∙ ap (option_map view) is_none in
      sym (ap (λ (t : List (List ℕ)). with_front (map view old) (operands_of_lem t)) (next_text see xs i d lt)
      ∙ ap (λ (r : Option Operand). with_front (map view old) (put_first r rest)) first)
      ∙ before

  pub read_all : (xs : List A) (i : ℕ) (old : List C) (total : Option (List Operand)) → length xs ≤ i
      → with_front (map view old) (operands_of_lem (map see (drop i xs))) ≡ total → Some (map view old) ≡ total
  unfolding operands_of_lem
  read_all xs i old total le before =
      sym (ap (λ (l : List A). with_front (map view old) (operands_of_lem (map see l))) (drop_all i xs le) ∙ ap (λ (l : List Operand). Some l) (append-nil (map view old)))
      ∙ before
