-- Looking up in a list of rows, and lists whose elements differ.
use Rattle.std.specs.Prelude.{◌≡◌, ℕ, nat_eq, Bool, true, false, ◌&&◌, not, List, [], ◌∷◌, map, find, Some, if◌then◌else◌, refl}
use Rattle.std.specs.List.{IsDistinct, AllByRecursion, list_all}
use Rattle.std.specs.Option.{option_map}
use Rattle.std.specs.Str.{bytes_eq}
use Rattle.std.specs.Cmp.Derive.{both_true}
use Rattle.std.proofs.Common.{sym, ◌∙◌, ap, eq-eqb}

-- a search in a list of images
pub find-map : {X Y : Type 0} (f : X → Y) (p : Y → Bool) (xs : List X) →
    option_map f (find (λ x. p (f x)) xs) ≡ find p (map f xs)
find-map f p [] = refl
find-map f p (x ∷ xs) =
    elim (p (f x)) as (λ b. option_map f (if b then Some x else find (λ x. p (f x)) xs) ≡ (if b then Some (f x) else find p (map f xs)))
    [ true ↦ refl | false ↦ find-map f p xs ]

-- whether no element is equal to one after it
abbrev pub differ : {K : Type 0} → (K → K → Bool) → List K → Bool
differ e [] = true
differ e (x ∷ xs) = list_all (λ y. not (e x y)) xs && differ e xs

-- the parts of a test of two
both : (a b : Bool) → (a && b) ≡ true → (a ≡ true) × (b ≡ true)
both true b holds = (refl, holds)
both false b holds = cc

not-true : (b : Bool) → not b ≡ true → b ≡ false
not-true true holds = sym holds
not-true false holds = refl

-- a list in which the test finds no element
none : {K : Type 0} (p : K → Bool) (xs : List K) → list_all (λ y. not (p y)) xs ≡ true → AllByRecursion (λ y. p y ≡ false) xs
none p [] holds = tt
none p (x ∷ xs) holds =
    let parts : (not (p x) ≡ true) × (list_all (λ y. not (p y)) xs ≡ true) = both (not (p x)) (list_all (λ y. not (p y)) xs) holds in
    (not-true (p x) parts.0, none p xs parts.1)

-- what the test says
pub IsDistinct-differ : {K : Type 0} (e : K → K → Bool) (xs : List K) → differ e xs ≡ true → IsDistinct e xs
unfolding IsDistinct
IsDistinct-differ e [] holds = tt
IsDistinct-differ e (x ∷ xs) holds =
    let parts : (list_all (λ y. not (e x y)) xs ≡ true) × (differ e xs ≡ true) = both (list_all (λ y. not (e x y)) xs) (differ e xs) holds in
    (none (e x) xs parts.0, IsDistinct-differ e xs parts.1)

pub nat_eq-same : (n : ℕ) → nat_eq n n ≡ true
nat_eq-same n = eq-eqb n n refl

pub bytes_eq-same : (xs : List ℕ) → bytes_eq xs xs ≡ true
bytes_eq-same [] = refl
bytes_eq-same (x ∷ xs) = both_true (nat_eq-same x) (bytes_eq-same xs)

-- keys that differ: each element is the first one with its key
module _ {X K : Type 0} (same : K → K → Bool) (reflexive : (k : K) → same k k ≡ true) (key : X → K) where
  -- elements behind one with another key
  behind : (x : X) (xs ys : List X) → AllByRecursion (λ k. same (key x) k ≡ false) (map key ys) →
      AllByRecursion (λ y. find (λ (z : X). same (key z) (key y)) xs ≡ Some y) ys →
      AllByRecursion (λ y. find (λ (z : X). same (key z) (key y)) (x ∷ xs) ≡ Some y) ys
  behind x xs [] apart each = tt
  behind x xs (y ∷ ys) apart each =
      (ap (λ (b : Bool). if b then Some x else find (λ (z : X). same (key z) (key y)) xs) apart.0 ∙ each.0, behind x xs ys apart.1 each.1)

  pub one_by_key : (xs : List X) → IsDistinct same (map key xs) → AllByRecursion (λ x. find (λ (y : X). same (key y) (key x)) xs ≡ Some x) xs
  unfolding IsDistinct
  one_by_key [] apart = tt
  one_by_key (x ∷ xs) apart =
      (ap (λ (b : Bool). if b then Some x else find (λ (y : X). same (key y) (key x)) xs) (reflexive (key x)), behind x xs xs apart.0 (one_by_key xs apart.1))
