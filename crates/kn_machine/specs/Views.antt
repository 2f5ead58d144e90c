-- What is kept of a node, of a packet and of a path, in the definitions' words.
use Rattle.std.specs.Prelude.{Bool, List, ◌++◌, map, flat_map}
use Rattle.kn_term.specs.declared.node.Node.{Node}
use Rattle.kn_term.specs.Terms.{Term}
use Rattle.kn_cond.specs.Conditions.{Condition}
use Rattle.kn_cond.specs.Meanings.{condition_of}
use Rattle.kn_packet.specs.Packets.{PacketView}
use Rattle.kn_node.specs.declared.machine.Outcome.{Outcome}
use Rattle.kn_node.specs.declared.machine.Outcome.TheVariants as outcomes
use Rattle.kn_node.specs.declared.machine.FailKind.{FailKind}
use Rattle.kn_node.specs.declared.machine.FailKind.TheVariants as kinds
use Rattle.kn_node.specs.Views.{MachineView, ConfigView, terms_in}
use Rattle.kn_model.specs.Packets.{Packet}
use Rattle.kn_model.specs.Nodes.{State, Outcome as Outcomes, Running as runs, Halted as halts, Failed as fails, FailKind as FailKinds, Assert as asserts, Bounds as bounds, Fuel as fuels}
use Rattle.kn_model.specs.Laws.{queued_all}

abbrev pub kind_of : FailKind → FailKinds
kind_of kinds.Assert = asserts
kind_of kinds.Bounds = bounds
kind_of kinds.Fuel = fuels

abbrev pub outcome_of : Outcome → Outcomes
outcome_of outcomes.Running = runs
outcome_of outcomes.Halted = halts
outcome_of (outcomes.Failed kind pc tick) = fails (kind_of kind) pc tick

-- a packet over terms: its words and its guard are those of its own list
abbrev pub packet_of : PacketView → Packet Term
packet_of p = record {
  from = p.from;
  seq = p.seq;
  copy = p.copy;
  to = p.to;
  arrival = p.arrival;
  payload = terms_in p.terms p.payload;
  guard = condition_of p.terms p.guard;
  bits = p.stamp.bits;
}

-- a state over terms: a machine over a list of terms, a trace and an own condition
abbrev pub state_with : List Node → MachineView → List Bool → Condition → State Term
state_with ns m trace own = record {
  registers = terms_in ns m.registers;
  memory = terms_in ns m.memory;
  timers = m.timers;
  queue = map packet_of m.queue;
  inputs = m.inputs;
  sent = m.sent;
  losses = m.losses;
  duplications = m.duplications;
  booted = m.booted;
  reboots = m.reboots;
  outcome = outcome_of m.outcome;
  trace = trace;
  own = own;
}

-- the condition that a state is kept with
abbrev pub own_of : ConfigView → Condition
own_of c = condition_of c.terms c.cond

-- the state that is kept
abbrev pub state_of : ConfigView → State Term
state_of c = state_with c.terms c.machine c.trace (own_of c)

-- a state with packets in its queue, and their guards in its own condition
abbrev pub received : List (Packet Term) → State Term → State Term
received ps s = record (queued_all ps s) { own = s.own ++ flat_map (λ (p : Packet Term). p.guard) ps }
