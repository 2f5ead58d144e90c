-- The numbers that edges of a circuit spell, by the inputs.
use Rattle.std.specs.Prelude.{◌≡◌, ℕ, ◌+◌, ◌*◌, ◌^◌, Bool, if◌then◌else◌, List, [], ◌∷◌, length, slice_get, Some, min, max}
use Rattle.kn_word.specs.Words.{one_if, one_of}
use Rattle.kn_aig.specs.declared.gates.Edge.{Edge}
use Rattle.kn_aig.specs.declared.gates.AigNode.{AigNode}
use Rattle.kn_aig.specs.Circuits.{value_of, inputs_of, Stands}
use Rattle.kn_aig.specs.Circuits.{Extends}
use Rattle.kn_blast.specs.declared.gates.Gate.{Gate}
use Rattle.kn_blast.specs.declared.gates.Gate.TheVariants as gates

-- the number that edges spell, the lowest bit first
abbrev pub number : List Bool → List AigNode → List Edge → ℕ
number bits ns [] = 0
number bits ns (e ∷ es) = one_if (value_of bits ns e) + 2 * number bits ns es

-- each edge names a node of the circuit
abbrev pub AllStand : List AigNode → List Edge → Type 0
AllStand ns es = (place : ℕ) (e : Edge) → slice_get es place ≡ Some e → Stands ns e

-- a circuit that became longer, with the inputs that it had
pub record Grows (old new : List AigNode) : Type 0 where
  pub extends : Extends old new
  pub inputs : inputs_of new ≡ inputs_of old

-- so many edges stand in a circuit, and spell this number
pub record Spells (ns : List AigNode) (es : List Edge) (width : ℕ) (meaning : List Bool → ℕ) : Type 0 where
  pub stand : AllStand ns es
  pub many : length es ≡ width
  pub value : (bits : List Bool) → number bits ns es ≡ meaning bits

-- an edge stands in a circuit, and has this value
pub record Has (ns : List AigNode) (e : Edge) (meaning : List Bool → Bool) : Type 0 where
  pub stands : Stands ns e
  pub value : (bits : List Bool) → value_of bits ns e ≡ meaning bits

-- what a gate makes of two digits
abbrev pub digit : Gate → ℕ → ℕ → ℕ
digit gates.And = min
digit gates.Or = max
digit gates.Xor = one_of

-- what a bit at a place counts for
abbrev pub weight : Bool → ℕ → ℕ
weight b place = if b then 2 ^ place else 0

-- so many edges stand in a circuit, and spell this number together with what is carried behind them
pub record Carries (ns : List AigNode) (es : List Edge) (carry : Edge) (width : ℕ) (total : List Bool → ℕ) : Type 0 where
  pub stand : AllStand ns es
  pub many : length es ≡ width
  pub stands : Stands ns carry
  pub value : (bits : List Bool) → number bits ns es + weight (value_of bits ns carry) width ≡ total bits
