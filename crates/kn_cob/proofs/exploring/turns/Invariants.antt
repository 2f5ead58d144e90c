use Rattle.std.proofs.Common.{◌≤◌}
use Rattle.kn_model.specs.Terms.{Term, terms}
use Rattle.kn_model.specs.Due.{left}
use Rattle.kn_model.specs.Scenarios.{Scenario, node_at, turns}
use Rattle.kn_cob.specs.Copies.{IsCopy, AreCopies}
use Rattle.kn_cob.proofs.exploring.turns.Given as goal

abbrev pub invariant-loop-turn : goal.invariant-loop-turn
invariant-loop-turn g l = record {
  made : (s : Scenario Term) → IsCopy l.net.network l.place.tick l.fn.copy s → AreCopies l.net.network l.place.tick l.list.items (turns terms l.net.network l.place.node l.place.tick l._turn s);
  within : (s : Scenario Term) → IsCopy l.net.network l.place.tick l.fn.copy s → l._turn ≤ left l.net.network.limits.ticks l.place.tick (node_at terms s l.place.node).state;
}
