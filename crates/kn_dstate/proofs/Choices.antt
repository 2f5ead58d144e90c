-- How many picks a dstate has.
use Rattle.std.proofs.Common.{◌≡◌, ℕ, zero, suc, ◌+◌, ◌*◌, ◌<◌, ◌≤◌, List, [], ◌∷◌, length, map, get_or, drop, refl, ap, sym, ◌∙◌, arith}
use Rattle.std.specs.Prelude.{slice_get, Some}
use Rattle.std.specs.List.{AllByRecursion}
use Rattle.std.proofs.lemmas.List.{drop_more}
use Rattle.std.proofs.Math.Nat.{mul_assoc, mul-suc}
use Rattle.kn_dstate.specs.Places.{choices}

-- no column is empty
abbrev pub NoneEmpty : List (List ℕ) → Type 0
NoneEmpty cs = AllByRecursion (λ c. 0 < length c) cs

at_least : (x r : ℕ) → 0 < r → x ≤ x * r
at_least x zero h = absurd (omega arith)
at_least x (suc r) h = rw (mul-suc x r) (omega arith)

choices_some : (cs : List (List ℕ)) → NoneEmpty cs → 0 < choices cs
choices_some [] h = omega arith
choices_some (c ∷ cs) h = let more = at_least (length c) (choices cs) (choices_some cs h.1) in omega (arith, more, h.0)

none_empty-drop : {V : Type 0} (f : V → List ℕ) (i : ℕ) (xs : List V) → NoneEmpty (map f xs) → NoneEmpty (map f (drop i xs))
none_empty-drop f zero xs h = h
none_empty-drop f (suc i) [] h = tt
none_empty-drop f (suc i) (x ∷ xs) h = none_empty-drop f i xs h.1

-- one column more
pub product_more : {V : Type 0} (f : V → List ℕ) (xs : List V) (i : ℕ) (v : V) (count next total : ℕ) → i < length xs → v ≡ get_or xs i v → count * choices (map f (drop i xs)) ≡ total → next ≡ count * length (f v)
    → next * choices (map f (drop (i + 1) xs)) ≡ total
product_more {V} f xs i v count next total low is so step =
    let rest = choices (map f (drop (i + 1) xs)) in
    let left : drop i xs ≡ v ∷ drop (i + 1) xs = drop_more xs i v low ∙ ap (λ (x : V). x ∷ drop (i + 1) xs) (sym is) in
    ap (λ (n : ℕ). n * rest) step ∙ (mul_assoc count (length (f v)) rest ∙ (ap (λ (l : List V). count * choices (map f l)) (sym left) ∙ so))

-- what is too much for some columns is too much for all
pub product_past : {V : Type 0} (f : V → List ℕ) (xs : List V) (i : ℕ) (v : V) (count bound total : ℕ) → i < length xs → v ≡ get_or xs i v → NoneEmpty (map f xs) → count * choices (map f (drop i xs)) ≡ total → bound ≤ count * length (f v)
    → bound ≤ total
product_past {V} f xs i v count bound total low is some so past =
    let whole = product_more f xs i v count (count * length (f v)) total low is so refl in
    let more = at_least (count * length (f v)) (choices (map f (drop (i + 1) xs))) (choices_some (map f (drop (i + 1) xs)) (none_empty-drop f (i + 1) xs some)) in
    omega (arith, whole, more, past)

-- what holds of each column
pub none_empty : (cs : List (List ℕ)) → ((n : ℕ) (c : List ℕ) → slice_get cs n ≡ Some c → 0 < length c) → NoneEmpty cs
none_empty [] h = tt
none_empty (c ∷ cs) h = (h zero c refl, none_empty cs (λ n c' is. h (suc n) c' is))
