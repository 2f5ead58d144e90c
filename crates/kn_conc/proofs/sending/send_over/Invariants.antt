-- The sends so far.
use Rattle.std.proofs.Common.{◌≡◌}
use Rattle.kn_model.specs.Nets.{Network}
use Rattle.kn_conc.specs.Ways.{here_of, way_of}
use Rattle.kn_conc.proofs.Sends.{SentSoFar}
use Rattle.kn_conc.proofs.sending.send_over.Given as goal

abbrev pub invariant-loop-link : goal.invariant-loop-link
invariant-loop-link l = record {
  sent : SentSoFar (λ (net : Network). here_of net l.spot) l.b l.n l.links l.link-index (way_of l.initial.way) (way_of l.way);
  node : l.way.node.node ≡ l.initial.way.node.node;
  trace : l.way.node.state.trace ≡ l.initial.way.node.state.trace;
}
