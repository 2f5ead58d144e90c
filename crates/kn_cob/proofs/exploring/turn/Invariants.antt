use Rattle.std.proofs.Common.{◌≡◌, ◌++◌, List}
use Rattle.kn_model.specs.Terms.{Term, terms}
use Rattle.kn_model.specs.Scenarios.{Scenario, copies}
use Rattle.kn_cob.specs.Copies.{AreCopies}
use Rattle.kn_cob.proofs.Looping.{Halfway}
use Rattle.kn_cob.proofs.exploring.turn.Given as goal

abbrev pub invariant-loop-copy : goal.invariant-loop-copy
invariant-loop-copy g l = record {
  all : l.fn.list.items ≡ l.yielded ++ l.copy-iterator.rest.items;
  made : (ss : List (Scenario Term)) → AreCopies l.net.network l.place.tick l.fn.list.items ss
      → Halfway l.net.network l.place.tick l.place.tick (copies terms l.net.network l.place.node l.place.tick) l.out.items l.fn.list.items l.yielded ss;
}
