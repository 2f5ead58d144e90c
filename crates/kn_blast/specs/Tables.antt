-- Words of edges for the places of a list of terms.
use Rattle.std.specs.Prelude.{◌≡◌, ℕ, List, length, slice_get, Option, Some}
use Rattle.kn_aig.specs.declared.gates.Edge.{Edge}
use Rattle.kn_aig.specs.declared.gates.AigNode.{AigNode}
use Rattle.kn_term.specs.declared.node.Node.{Node}
use Rattle.kn_term.specs.declared.node.Ref.{Ref}
use Rattle.kn_term.specs.Terms.{Term, ev}
use Rattle.kn_term.specs.Nodes.{term_at}
use Rattle.kn_blast.specs.declared.inputs.InputBits.{InputBits}
use Rattle.kn_blast.specs.Spelling.{AllStand, Spells}
use Rattle.kn_blast.specs.Inputs.{given_by}
use Rattle.kn_term.specs.Reached.{IsOperand, IsAmong}

-- sixteen edges that stand in a circuit, and spell the word of a term by the inputs
abbrev pub IsWordOf : List AigNode → List InputBits → Term → List Edge → Type 0
IsWordOf ns entries t es = Spells ns es 16 (λ bits. ev (given_by bits entries) t)

-- each word of a table has sixteen edges that stand in a circuit
abbrev pub AreWords : List AigNode → (ℕ → Option (List Edge)) → Type 0
AreWords ns table = (place : ℕ) (es : List Edge) → table place ≡ Some es → AllStand ns es × (length es ≡ 16)

-- a table has the word of the term at a place
abbrev pub HasWordOf : List AigNode → List InputBits → List Node → (ℕ → Option (List Edge)) → ℕ → Type 0
HasWordOf ns entries terms table place = (es : List Edge) × (table place ≡ Some es) × IsWordOf ns entries (term_at terms place) es

-- a table has the words of a node's operands
abbrev pub HasOperandWords : List AigNode → List InputBits → List Node → (ℕ → Option (List Edge)) → Node → Type 0
HasOperandWords ns entries terms table n = (place : ℕ) → IsOperand n place → HasWordOf ns entries terms table place

-- a table has the words of the terms at these places
abbrev pub AreWordsOf : List AigNode → List InputBits → List Node → (ℕ → Option (List Edge)) → List ℕ → Type 0
AreWordsOf ns entries terms table places = (place : ℕ) → IsAmong places place → HasWordOf ns entries terms table place

-- the word for each root is the one that a table has at its place, if it has one
abbrev pub AreReadAt : (ℕ → Option (List Edge)) → List Ref → List (List Edge) → Type 0
AreReadAt table roots words = (i : ℕ) (r : Ref) (word es : List Edge) → slice_get roots i ≡ Some r → slice_get words i ≡ Some word → table r.index ≡ Some es → word ≡ es
