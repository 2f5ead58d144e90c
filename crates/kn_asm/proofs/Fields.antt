-- Operands that are put into their fields one after the other.
use Rattle.std.proofs.Common.{◌≡◌, ℕ, ◌+◌, ◌<◌, ◌≤◌, List, [], ◌∷◌, length, map, drop, drop-cons, get_or, add-one, Option, Some, None, refl, sym, ap, ◌∙◌}
use Rattle.std.proofs.lemmas.List.{drop_all}
use Rattle.kn_code.specs.declared.row.Row.{Row}
use Rattle.kn_asm.specs.declared.meaning.Slot.{Slot}
use Rattle.kn_asm.specs.Operands.{Operand}
use Rattle.kn_asm.specs.Meaning.{put_lem, and_then, filled_lem}

next : {A B : Type 0} (f : A → B) (xs : List A) (i : ℕ) (d : A) → i < length xs → map f (drop i xs) ≡ f (get_or xs i d) ∷ map f (drop (i + 1) xs)
next f xs i d lt = ap (map f) (drop-cons xs i d lt) ∙ ap (λ (k : ℕ). f (get_or xs i d) ∷ map f (drop k xs)) (sym (add-one i))

same_slots : (slots : List Slot) (i : ℕ) (s : Slot) → i < length slots → drop i slots ≡ get_or slots i s ∷ drop (i + 1) slots
same_slots slots i s lt = drop-cons slots i s lt ∙ ap (λ (k : ℕ). get_or slots i s ∷ drop k slots) (sym (add-one i))

filled_one : (ss : List Slot) (os : List Operand) (s : Slot) (ss' : List Slot) (o : Operand) (os' : List Operand) (r : Row) → ss ≡ s ∷ ss' → os ≡ o ∷ os' → filled_lem ss os r ≡ and_then (put_lem s o r) (filled_lem ss' os')
filled_one ss os s ss' o os' r a b = rw (a, b) refl

module _ {C : Type 0} (view : C → Operand) where
  pub fill_step : (slots : List Slot) (os : List C) (i : ℕ) (s : Slot) (d : C) (r : Row) (put : Option Row) (total : Option Row)
      → i < length slots → i < length os → d ≡ get_or os i d → put ≡ put_lem (get_or slots i s) (view d) r
      → filled_lem (drop i slots) (map view (drop i os)) r ≡ total → and_then put (filled_lem (drop (i + 1) slots) (map view (drop (i + 1) os))) ≡ total
  fill_step slots os i s d r put total a b at e before =
      ap (λ (p : Option Row). and_then p (filled_lem (drop (i + 1) slots) (map view (drop (i + 1) os)))) (e ∙ ap (λ (o : C). put_lem (get_or slots i s) (view o) r) at)
      ∙ sym (filled_one (drop i slots) (map view (drop i os)) _ _ _ _ r (same_slots slots i s a) (next view os i d b)) ∙ before

  pub fill_more : (slots : List Slot) (os : List C) (i : ℕ) (s : Slot) (d : C) (r new : Row) (put : Option Row) (total : Option Row)
      → i < length slots → i < length os → d ≡ get_or os i d → put ≡ put_lem (get_or slots i s) (view d) r → put ≡ Some new
      → filled_lem (drop i slots) (map view (drop i os)) r ≡ total → filled_lem (drop (i + 1) slots) (map view (drop (i + 1) os)) new ≡ total
  fill_more slots os i s d r new put total a b at e is before =
      sym (ap (λ (p : Option Row). and_then p (filled_lem (drop (i + 1) slots) (map view (drop (i + 1) os)))) is) ∙ fill_step slots os i s d r put total a b at e before

  pub fill_stops : (slots : List Slot) (os : List C) (i : ℕ) (s : Slot) (d : C) (r : Row) (put : Option Row) (total : Option Row)
      → i < length slots → i < length os → d ≡ get_or os i d → put ≡ put_lem (get_or slots i s) (view d) r → put ≡ None
      → filled_lem (drop i slots) (map view (drop i os)) r ≡ total → None ≡ total
  fill_stops slots os i s d r put total a b at e is before =
      sym (ap (λ (p : Option Row). and_then p (filled_lem (drop (i + 1) slots) (map view (drop (i + 1) os)))) is) ∙ fill_step slots os i s d r put total a b at e before

  pub fill_short : (slots : List Slot) (os : List C) (i : ℕ) (s : Slot) (r : Row) (total : Option Row)
      → i < length slots → length os ≤ i → filled_lem (drop i slots) (map view (drop i os)) r ≡ total → None ≡ total
  fill_short slots os i s r total a b before =
      sym (ap (λ (ss : List Slot). filled_lem ss (map view (drop i os)) r) (same_slots slots i s a) ∙ ap (λ (l : List C). filled_lem (get_or slots i s ∷ drop (i + 1) slots) (map view l) r) (drop_all i os b)) ∙ before

  pub fill_long : (slots : List Slot) (os : List C) (i : ℕ) (d : C) (r : Row) (total : Option Row)
      → length slots ≤ i → i < length os → filled_lem (drop i slots) (map view (drop i os)) r ≡ total → None ≡ total
  fill_long slots os i d r total a b before =
      sym (ap (λ (ss : List Slot). filled_lem ss (map view (drop i os)) r) (drop_all i slots a) ∙ ap (λ (l : List Operand). filled_lem [] l r) (next view os i d b)) ∙ before

  pub fill_ends : (slots : List Slot) (os : List C) (i : ℕ) (r : Row) (total : Option Row)
      → length slots ≤ i → length os ≤ i → filled_lem (drop i slots) (map view (drop i os)) r ≡ total → Some r ≡ total
  fill_ends slots os i r total a b before =
      sym (ap (λ (ss : List Slot). filled_lem ss (map view (drop i os)) r) (drop_all i slots a) ∙ ap (λ (l : List C). filled_lem [] (map view l) r) (drop_all i os b)) ∙ before
