-- Some of a list, in their order.
use Rattle.std.specs.Prelude.{◌≡◌, ◌⊎◌, List, [], ◌∷◌}

-- the first list is some of the second, in their order
abbrev pub Among : {A : Type 0} → List A → List A → Type 0
Among [] ys = Unit {0}
Among (x ∷ xs) [] = ⊥
Among (x ∷ xs) (y ∷ ys) = ((x ≡ y) × Among xs ys) ⊎ Among (x ∷ xs) ys
