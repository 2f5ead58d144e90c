use Rattle.std.proofs.Common.{map, take, drop}
use Rattle.std.specs.Arc.{arc_value}
use Rattle.std.specs.List.{AllByRecursion}
use Rattle.kn_model.specs.Alikes.{OneByOne}
use Rattle.kn_cob.specs.Closing.{IsStanding, IsClosed}
use Rattle.kn_cob.proofs.copies.NetworkCopy.shut.Given as goal

abbrev pub invariant-loop-now : goal.invariant-loop-now
invariant-loop-now l = record {
  closed : OneByOne (IsClosed l.net.network) (map arc_value (take l.now-index l.now-items)) (map arc_value l.nodes.items);
  standing : AllByRecursion (IsStanding l.net.network) (map arc_value (drop l.now-index l.now-items));
}
