-- A node and its packets over words, in the definitions' words.
use Rattle.std.specs.Prelude.{◌≡◌, ℕ, ◌≤◌, List, length, Option}
use Rattle.kn_built.specs.Putting.{AreSorted}
use Rattle.kn_node.specs.declared.machine.Outcome.{Outcome}
use Rattle.kn_node.specs.declared.machine.Outcome.TheVariants as outcomes
use Rattle.kn_node.specs.declared.machine.FailKind.{FailKind}
use Rattle.kn_node.specs.declared.machine.FailKind.TheVariants as kinds
use Rattle.kn_model.specs.Packets.{Packet, packet_le}
use Rattle.kn_model.specs.Nodes.{State, Outcome as Outcomes, Running as runs, Halted as halts, Failed as fails, FailKind as FailKinds, Assert as asserts, Bounds as bounds, Fuel as fuels}

abbrev pub kind_of : FailKind → FailKinds
kind_of kinds.Assert = asserts
kind_of kinds.Bounds = bounds
kind_of kinds.Fuel = fuels

abbrev pub outcome_of : Outcome → Outcomes
outcome_of outcomes.Running = runs
outcome_of outcomes.Halted = halts
outcome_of (outcomes.Failed kind pc tick) = fails (kind_of kind) pc tick

-- a node by its number, and its state
pub record NodeView : Type 0 where
  pub node : ℕ
  pub state : State ℕ

-- 16 registers, 64 words of memory and 8 timers; at most 65,535 inputs were made and packets sent; the queue is in order
pub record IsNode (registers memory : List ℕ) (timers : List (Option ℕ)) (queue : List (Packet ℕ)) (inputs sent : ℕ) : Type 0 where
  pub all_registers : length registers ≡ 16
  pub all_words : length memory ≡ 64
  pub all_timers : length timers ≡ 8
  pub few_inputs : inputs ≤ 65535
  pub few_sent : sent ≤ 65535
  pub in_order : AreSorted packet_le queue

-- a state is that of a node
abbrev pub IsNodeState : State ℕ → Type 0
IsNodeState s = IsNode s.registers s.memory s.timers s.queue s.inputs s.sent

-- a packet has at most 8 words, and its sender's number is a word
pub record IsPacket (from : ℕ) (payload : List ℕ) : Type 0 where
  pub sender : from ≤ 65535
  pub few : length payload ≤ 8
