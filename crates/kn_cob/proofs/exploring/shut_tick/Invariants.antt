use Rattle.std.proofs.Common.{◌≡◌, ◌≤◌, ◌+◌, ◌++◌, [], ◌∷◌, length}
use Rattle.std.specs.List.{AllByRecursion}
use Rattle.kn_model.specs.Terms.{Term, terms}
use Rattle.kn_model.specs.Scenarios.{Scenario, close, pre}
use Rattle.kn_cob.specs.Closing.{AreShut}
use Rattle.kn_cob.proofs.Looping.{Halfway}
use Rattle.kn_cob.proofs.exploring.shut_tick.Given as goal

abbrev pub invariant-loop-copy : goal.invariant-loop-copy
invariant-loop-copy l = record {
  all : l.fn.list.items ≡ l.yielded ++ l.copy-iterator.rest.items;
  made : Halfway l.net.network l.tick (l.tick + 1) (λ (s : Scenario Term). close s ∷ []) l.out.items l.fn.list.items l.yielded (pre terms l.net.network l.tick);
  shut : AllByRecursion AreShut l.out.items;
  few : length l.out.items ≤ length l.yielded;
}
