-- What a circuit is to a question on the inputs of a network.
use Rattle.std.specs.Prelude.{◌≡◌, ℕ, ◌%◌, ◌^◌, Bool, true, not, ◌&&◌, nat_eq, if◌then◌else◌, List, [], ◌∷◌, map}
use Rattle.std.specs.List.{AllByRecursion}
use Rattle.kn_term.specs.Terms.{Term, Valuation, listed, ev}
use Rattle.kn_term.specs.Valuations.{precedes}
use Rattle.kn_cond.specs.Conditions.{Read, Query, reads_in, widest}
use Rattle.kn_aig.specs.declared.gates.Edge.{Edge}
use Rattle.kn_aig.specs.declared.gates.AigNode.{AigNode}
use Rattle.kn_aig.specs.Circuits.{value_of}
use Rattle.kn_blast.specs.declared.inputs.InputBits.{InputBits}
use Rattle.kn_blast.specs.Inputs.{IsGivenBy}

-- what is asked is that a term is not 0
pub record IsOfTerm (q : Query) (t : Term) : Type 0 where
  pub reads : q.reads ≡ widest (reads_in t)
  pub meets : (a : Valuation) → q.meets a ≡ not (nat_eq (ev a t) 0)

-- a read comes behind that of an input, in order of node and index
abbrev pub RisesBehind : ℕ → ℕ → Read → Type 0
RisesBehind n k r = precedes n k r.node r.index ≡ true

-- reads in order of node and index, each input once
abbrev pub AreRising : List Read → Type 0
AreRising [] = Unit {0}
AreRising (r ∷ rs) = AllByRecursion (RisesBehind r.node r.index) rs × AreRising rs

-- the width with which an input is read, or 0
abbrev pub width_at : List Read → ℕ → ℕ → ℕ
width_at [] n k = 0
width_at (r ∷ rs) n k = if nat_eq r.node n && nat_eq r.index k then r.width else width_at rs n k

-- the input of some bits of a circuit
abbrev pub read_of : InputBits → Read
read_of e = record { node = e.node; index = e.index; width = e.width }

-- an edge of a circuit is true exactly where the inputs that its bits spell meet a question
pub record IsCircuitOf (q : Query) (entries : List InputBits) (ns : List AigNode) (e : Edge) : Type 0 where
  pub reads : q.reads ≡ map read_of entries
  pub value : (bits : List Bool) (a : Valuation) → IsGivenBy bits entries a → value_of bits ns e ≡ q.meets a
  pub depends : (a b : Valuation) → ((n k : ℕ) → listed a n k % 2 ^ width_at q.reads n k ≡ listed b n k % 2 ^ width_at q.reads n k) → q.meets a ≡ q.meets b
