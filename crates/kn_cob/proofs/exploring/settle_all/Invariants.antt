use Rattle.std.proofs.Common.{◌≡◌, ◌≤◌, ◌++◌, length}
use Rattle.kn_model.specs.Terms.{terms}
use Rattle.kn_model.specs.Scenarios.{settled}
use Rattle.kn_cob.specs.Ticks.{so_far}
use Rattle.kn_cob.proofs.Looping.{Halfway}
use Rattle.kn_cob.proofs.exploring.settle_all.Given as goal

abbrev pub invariant-loop-copy : goal.invariant-loop-copy
invariant-loop-copy g l = record {
  all : l.fn.list.items ≡ l.yielded ++ l.copy-iterator.rest.items;
  made : Halfway l.net.network l.place.tick l.place.tick (settled terms l.net.network l.place.tick l.place.node) l.out.items l.fn.list.items l.yielded (so_far l.net.network l.place.tick l.place.node);
  few : length l.out.items ≤ l.net.network.limits.dstates;
}
