-- What roots among a list of terms reach: their own places, and those of the operands of all that they reach.
use Rattle.std.specs.Prelude.{◌≡◌, ◌⊎◌, ℕ, ◌<◌, true, List, [], ◌∷◌, length, take, slice_get, Some}
use Rattle.std.specs.List.{AllByRecursion}
use Rattle.std.specs.BTreeSet.{BTreeSet, contains}
use Rattle.std.specs.Ordering.{nat_cmp}
use Rattle.kn_term.specs.declared.node.Node.{Node}
use Rattle.kn_term.specs.declared.node.Node.TheVariants as nodes
use Rattle.kn_term.specs.declared.node.Ref.{Ref}

-- the roots name terms of a list of so many nodes
abbrev pub RootsStand : ℕ → List Ref → Type 0
RootsStand count roots = (i : ℕ) (r : Ref) → slice_get roots i ≡ Some r → r.index < count

-- one of the roots names the term at a place
abbrev pub IsRootAt : List Ref → ℕ → Type 0
IsRootAt roots place = (i : ℕ) × (slice_get roots i ≡ Some (record { index = place }))

-- a place is that of an operand of a node
abbrev pub IsOperand : Node → ℕ → Type 0
IsOperand (nodes.Konst w) place = ⊥
IsOperand (nodes.Input n k width) place = ⊥
IsOperand (nodes.Apply op x y) place = (place ≡ x.index) ⊎ (place ≡ y.index)
IsOperand (nodes.Ite c x y) place = (place ≡ c.index) ⊎ ((place ≡ x.index) ⊎ (place ≡ y.index))

-- roots reach a place: that of a root, or of an operand of the node at a place that they reach
pub data IsReached (ns : List Node) (roots : List Ref) : ℕ → Type 0 where
  Root : (place : ℕ) → IsRootAt roots place → IsReached ns roots place
  Operand : (place above : ℕ) (n : Node) → IsReached ns roots above → slice_get ns above ≡ Some n → IsOperand n place → IsReached ns roots place

-- a place is among these
abbrev pub IsAmong : List ℕ → ℕ → Type 0
IsAmong [] place = ⊥
IsAmong (p ∷ ps) place = (place ≡ p) ⊎ IsAmong ps place

-- places in rising order, each once
abbrev pub AreRising : List ℕ → Type 0
AreRising [] = Unit {0}
AreRising (p ∷ ps) = AllByRecursion (λ q. p < q) ps × AreRising ps

-- each place is one of the list, and the operands of its node have theirs before it
abbrev pub AreInOrder : List Node → List ℕ → Type 0
AreInOrder ns places = (i place : ℕ) → slice_get places i ≡ Some place
    → (place < length ns) × ((n : Node) → slice_get ns place ≡ Some n → (k : ℕ) → IsOperand n k → IsAmong (take i places) k)

-- a place is in a set
abbrev pub IsIn : BTreeSet ℕ → ℕ → Type 0
IsIn set place = contains nat_cmp set place ≡ true
