-- What roots among a list of terms read.
use Rattle.std.specs.Prelude.{◌≡◌, ◌⊎◌, ℕ, ◌<◌, ◌≤◌, List, slice_get, Some}
use Rattle.kn_term.specs.declared.node.Node.{Node}
use Rattle.kn_term.specs.declared.node.Node.TheVariants as nodes
use Rattle.kn_term.specs.declared.node.Ref.{Ref}
use Rattle.kn_term.specs.Terms.{Valuation, Reads, listed}
use Rattle.kn_term.specs.Nodes.{term_at}
use Rattle.kn_term.specs.Reached.{IsAmong}

-- one of the roots reads an input of a node by its index, with so many bits
abbrev pub RootsRead : List Node → List Ref → (node index width : ℕ) → Type 0
RootsRead ns roots n k width = (place : ℕ) × (r : Ref) × (slice_get roots place ≡ Some r) × Reads n k width (term_at ns r.index)

-- the word of the input at a place is at least its width; words grow to such a width, or stay
pub record IsWidened (ns : List Node) (place : ℕ) (old new : Valuation) : Type 0 where
  pub covers : (n k width : ℕ) → slice_get ns place ≡ Some (nodes.Input n k width) → width ≤ listed new n k
  pub kept : (n k : ℕ) → listed old n k ≤ listed new n k
  pub read : (n k : ℕ) → (listed new n k ≡ listed old n k) ⊎ (slice_get ns place ≡ Some (nodes.Input n k (listed new n k)))

-- the word of each input is at least its width at each of these places
abbrev pub AreWide : List Node → List ℕ → Valuation → Type 0
AreWide ns places a = (place n k width : ℕ) → IsAmong places place → slice_get ns place ≡ Some (nodes.Input n k width) → width ≤ listed a n k

-- the word of each input is its width at one of these places, if it is not 0
abbrev pub AreRead : List Node → List ℕ → Valuation → Type 0
AreRead ns places a = (n k : ℕ) → 0 < listed a n k → (place : ℕ) × IsAmong places place × (slice_get ns place ≡ Some (nodes.Input n k (listed a n k)))
