-- A way through an event as it is kept: over a list of terms, with all that is known so far as one condition.
use Rattle.std.specs.Prelude.{◌≡◌, ℕ, ◌≤◌, Bool, List, ◌++◌, length, map, take}
use Rattle.std.specs.List.{AllByRecursion}
use Rattle.kn_built.specs.Built.{Extends}
use Rattle.kn_term.specs.declared.node.Node.{Node}
use Rattle.kn_term.specs.declared.node.Ref.{Ref}
use Rattle.kn_term.specs.declared.node.Literal.{Literal}
use Rattle.kn_term.specs.Terms.{Term}
use Rattle.kn_term.specs.Reached.{RootsStand}
use Rattle.kn_cond.specs.Conditions.{Condition}
use Rattle.kn_cond.specs.Meanings.{condition_of, StandIn}
use Rattle.kn_cond.specs.declared.standing.Standing.{Standing}
use Rattle.kn_packet.specs.Packets.{PacketView}
use Rattle.kn_node.specs.Views.{MachineView}
use Rattle.kn_model.specs.Rows.{Way}
use Rattle.kn_model.specs.Alikes.{ConditionAlike, TermAlike}
use Rattle.kn_model.proofs.AlikeRows.{WayAlike}
use Rattle.kn_machine.specs.Views.{packet_of, state_with}

-- The machine, the terms that all is over, what is known so far and of the inputs that meet it, how many literals of it
-- are of before the event, the trace of before the event, the instruction that comes next, the bits and literals of the
-- event so far, and what it sent.
pub record WayView : Type 0 where
  pub machine : MachineView
  pub terms : List Node
  pub cond : List Literal
  pub standing : Standing
  pub own : ℕ
  pub trace : List Bool
  pub pc : ℕ
  pub bits : List Bool
  pub literals : List Literal
  pub sends : List PacketView

-- all that is known so far
abbrev pub known_of : WayView → Condition
known_of w = condition_of w.terms w.cond

-- what was known before the event
abbrev pub before_of : List Node → ℕ → List Literal → Condition
before_of ns own cond = condition_of ns (take own cond)

-- the way, in the definitions' words
abbrev pub way_of : WayView → Way Term
way_of w = record {
  state = state_with w.terms w.machine w.trace (before_of w.terms w.own w.cond);
  pc = w.pc;
  bits = w.bits;
  literals = condition_of w.terms w.literals;
  sends = map packet_of w.sends;
}

-- Registers, memory and literals stand among the terms, and what is known is what was known before with the event's literals.
pub record IsWay (terms : List Node) (registers memory : List Ref) (cond : List Literal) (own : ℕ) (literals : List Literal) : Type 0 where
  pub registers_stand : RootsStand (length terms) registers
  pub memory_stands : RootsStand (length terms) memory
  pub known_stands : StandIn terms cond
  pub literals_stand : StandIn terms literals
  pub few : own ≤ length cond
  pub known : ConditionAlike (condition_of terms cond) (before_of terms own cond ++ condition_of terms literals)

-- a way is alike to another; and what a row does
abbrev pub AlikeWay : Way Term → Way Term → Type 0
AlikeWay = WayAlike TermAlike ConditionAlike ConditionAlike

-- a change of the machine or of the place: terms, what is known and what was sent stay
pub record IsStill (v w : WayView) : Type 0 where
  pub terms : w.terms ≡ v.terms
  pub known : known_of w ≡ known_of v
  pub standing : w.standing ≡ v.standing
  pub sends : w.sends ≡ v.sends

-- only the list of terms grows
pub record IsGrown (v w : WayView) : Type 0 where
  pub way : way_of w ≡ way_of v
  pub terms : Extends v.terms w.terms
  pub known : known_of w ≡ known_of v
  pub standing : w.standing ≡ v.standing
  pub sends : w.sends ≡ v.sends

-- packets with the stamps of a node, of a history, and with their own numbers
abbrev pub AreStamped : (node history : ℕ) → List PacketView → Type 0
AreStamped node history ps = AllByRecursion (λ (q : PacketView). (q.stamp.node ≡ node) × (q.stamp.history ≡ history) × (q.stamp.seq ≡ q.seq)) ps

-- a row of an event of a node with this history: what is known stays, and what is sent is stamped
pub record IsRow (node history : ℕ) (v w : WayView) : Type 0 where
  pub known : known_of w ≡ known_of v
  pub standing : w.standing ≡ v.standing
  pub stamps : AreStamped node history v.sends → AreStamped node history w.sends

-- terms grow, and what is known and what was sent stay
pub record IsChanged (v w : WayView) : Type 0 where
  pub terms : Extends v.terms w.terms
  pub known : known_of w ≡ known_of v
  pub standing : w.standing ≡ v.standing
  pub sends : w.sends ≡ v.sends
