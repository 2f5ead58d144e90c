use Rattle.std.proofs.Common.{◌≡◌, ◌<◌, List, drop, length}
use Rattle.std.specs.List.{AllByRecursion}
use Rattle.kn_cob.specs.Nodes.{NodeView}
use Rattle.kn_cob.specs.Ticks.{some_due}
use Rattle.kn_cob.proofs.exploring.is_due_in_some.Given as goal

abbrev pub invariant-loop-copy : goal.invariant-loop-copy
invariant-loop-copy l = record {
  none : some_due l.place.tick l.place.node (drop l.copy-index l.list) ≡ some_due l.place.tick l.place.node l.list;
  long : AllByRecursion (λ (c : List NodeView). l.place.node < length c) (drop l.copy-index l.list);
}
