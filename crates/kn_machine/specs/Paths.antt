-- A path through an event as it is kept.
use Rattle.std.specs.Prelude.{Bool, List, map}
use Rattle.kn_term.specs.declared.node.Literal.{Literal}
use Rattle.kn_term.specs.Terms.{Term}
use Rattle.kn_cond.specs.Meanings.{condition_of}
use Rattle.kn_packet.specs.Packets.{PacketView}
use Rattle.kn_node.specs.Views.{ConfigView}
use Rattle.kn_model.specs.Paths.{Path}
use Rattle.kn_machine.specs.Views.{packet_of, state_of}

-- the bits, the state after it, what it sent, and the literals of its decisions, over the state's terms
pub record PathView : Type 0 where
  pub bits : List Bool
  pub config : ConfigView
  pub sends : List PacketView
  pub literals : List Literal

-- the path, in the definitions' words
abbrev pub path_seen : PathView → Path Term
path_seen p = record {
  bits = p.bits;
  literals = condition_of p.config.terms p.literals;
  state = state_of p.config;
  sends = map packet_of p.sends;
}
