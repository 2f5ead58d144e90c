-- Node states as contracts see them: the machine, and the terms and literals that it is kept with.
use Rattle.std.specs.Prelude.{◌≡◌, ℕ, ◌≤◌, Bool, List, map, length, Option}
use Rattle.kn_term.specs.declared.node.Node.{Node}
use Rattle.kn_term.specs.declared.node.Ref.{Ref}
use Rattle.kn_term.specs.declared.node.Literal.{Literal}
use Rattle.kn_term.specs.Terms.{Term}
use Rattle.kn_term.specs.Nodes.{term_at}
use Rattle.kn_term.specs.Reached.{RootsStand}
use Rattle.kn_cond.specs.Meanings.{StandIn}
use Rattle.kn_cond.specs.declared.standing.Standing.{Standing}
use Rattle.kn_packet.specs.Packets.{PacketView}
use Rattle.kn_node.specs.declared.machine.Outcome.{Outcome}

-- what a node's events read and change
pub record MachineView : Type 0 where
  pub registers : List Ref
  pub memory : List Ref
  -- the tick that each timer is set to
  pub timers : List (Option ℕ)
  -- the packets that wait, in order of their keys
  pub queue : List PacketView
  -- inputs made, packets sent, losses and duplications left
  pub inputs : ℕ
  pub sent : ℕ
  pub losses : ℕ
  pub duplications : ℕ
  pub outcome : Outcome
  pub booted : Bool
  -- the reboot ticks that are not decided yet
  pub reboots : List ℕ

-- 16 registers, 64 words of memory and 8 timers; at most 65,535 inputs were made and packets sent
pub record IsMachine (registers memory : List Ref) (timers : List (Option ℕ)) (inputs sent : ℕ) : Type 0 where
  pub all_registers : length registers ≡ 16
  pub all_words : length memory ≡ 64
  pub all_timers : length timers ≡ 8
  pub few_inputs : inputs ≤ 65535
  pub few_sent : sent ≤ 65535

-- a node, its machine, the terms that machine and condition are over, its own condition, the bits of its decisions, the
-- number of its history, and what is known of the inputs that meet the condition
pub record ConfigView : Type 0 where
  pub node : ℕ
  pub machine : MachineView
  pub terms : List Node
  pub cond : List Literal
  pub trace : List Bool
  pub history : ℕ
  pub standing : Standing

-- registers, memory and condition stand among the terms
pub record IsConfig (terms : List Node) (machine : MachineView) (cond : List Literal) : Type 0 where
  pub registers : RootsStand (length terms) machine.registers
  pub memory : RootsStand (length terms) machine.memory
  pub literals : StandIn terms cond

-- the terms that these name
abbrev pub terms_in : List Node → List Ref → List Term
terms_in ns rs = map (λ (r : Ref). term_at ns r.index) rs
