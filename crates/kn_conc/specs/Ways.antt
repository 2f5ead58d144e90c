-- A way through an event over words: a decision goes by its value, and nothing is kept of what it was decided by.
use Rattle.std.specs.Prelude.{◌≡◌, ◌<◌, ◌≤◌, ℕ, ◌+◌, Bool, true, false, if◌then◌else◌, [], ◌∷◌, ◌++◌, length, map}
use Rattle.kn_model.specs.Packets.{Packet}
use Rattle.kn_model.specs.Nodes.{State}
use Rattle.kn_model.specs.Nets.{Network, Link, code_of}
use Rattle.kn_code.specs.declared.program.Instr.{Instr}
use Rattle.std.specs.List.{AllByRecursion}
use Rattle.kn_model.specs.Terms.{Valuation, words, word_holds}
use Rattle.kn_model.specs.Rows.{Here, Way, Effect, Goes, Stops, Decides, effect}
use Rattle.kn_model.specs.Paths.{Path}
use Rattle.kn_conc.specs.declared.spot.Spot.{Spot}
use Rattle.kn_conc.specs.declared.rows.Step.{Step}
use Rattle.kn_conc.specs.declared.rows.Step.TheVariants as steps
use Rattle.kn_conc.specs.declared.way.Way.{Way as ConcWay}

-- the way, in the definitions' words
abbrev pub way_of : ConcWay → Way ℕ
way_of w = record { state = w.node.state; pc = w.pc; bits = w.bits; literals = []; sends = w.sends.items }

-- where an event runs, in the definitions
abbrev pub here_of : Network → Spot → Here ℕ
here_of net spot = record { node = spot.node; tick = spot.tick; code = code_of net spot.node; links = spot.links.items; fuel = net.limits.fuel; mail = spot.mail }

-- a decision was taken
abbrev pub with_bit : Bool → Way ℕ → Way ℕ
with_bit bit w = record w { bits = w.bits ++ bit ∷ [] }

-- a packet was sent
abbrev pub with_packet : Packet ℕ → Way ℕ → Way ℕ
with_packet p w = record w { state = record w.state { sent = w.state.sent + 1 }; sends = w.sends ++ p ∷ [] }

-- what comes of an effect: a decision goes on by its value
abbrev pub taken : Effect ℕ → Effect ℕ
taken (Goes w) = Goes w
taken (Stops w) = Stops w
taken (Decides l w v) = if word_holds l then Goes (with_bit false w) else Goes (with_bit true v)

-- a packet without the condition and the bits that it was sent under
abbrev pub bare_packet : Packet ℕ → Packet ℕ
bare_packet p = record p { guard = []; bits = [] }

-- a state without its own condition, and a way and a path without what they were decided by
abbrev pub bare_state : State ℕ → State ℕ
bare_state s = record s { own = [] }

abbrev pub bare_way : Way ℕ → Way ℕ
bare_way w = record w { state = bare_state w.state; literals = []; sends = map bare_packet w.sends }

abbrev pub bare_path : Path ℕ → Path ℕ
bare_path p = record p { literals = []; state = bare_state p.state; sends = map bare_packet p.sends }

abbrev pub bare : Effect ℕ → Effect ℕ
bare (Goes w) = Goes (bare_way w)
bare (Stops w) = Stops (bare_way w)
bare (Decides l w v) = Decides l (bare_way w) (bare_way v)

-- what the program says of an effect, where the way is this one now
abbrev pub seen : Step → Way ℕ → Effect ℕ
seen steps.Goes w = Goes w
seen steps.Stops w = Stops w

-- an instruction made this way of that one
abbrev pub IsStep : Valuation → Here ℕ → Instr → Way ℕ → Way ℕ → Step → Type 0
IsStep a here i v w s = bare (seen s w) ≡ bare (taken (effect (words a) here i v))

-- few nodes, links and ticks, and delays that are words
pub record IsPlace (spot : Spot) : Type 0 where
  pub few : spot.node < 64
  pub early : spot.tick ≤ 4096
  pub delays : AllByRecursion (λ (l : Link). l.delay ≤ 65535) spot.links.items
  pub fan : length spot.links.items ≤ 16
