use Rattle.std.proofs.Common.{◌≡◌, ◌≤◌, length}
use Rattle.std.specs.List.{AllByRecursion}
use Rattle.kn_model.specs.Terms.{terms}
use Rattle.kn_model.specs.Scenarios.{cob}
use Rattle.kn_cob.specs.Copies.{AreCopies}
use Rattle.kn_cob.specs.Closing.{AreShut}
use Rattle.kn_cob.specs.Ticks.{AreIdleUntil}
use Rattle.kn_cob.proofs.exploring.copies_at_end.Given as goal

abbrev pub invariant-loop-tick : goal.invariant-loop-tick
invariant-loop-tick g l = record {
  made : AreCopies l.net.network l.tick l.list.items (cob terms l.net.network l.tick);
  shut : AllByRecursion AreShut l.list.items;
  few : length l.list.items ≤ l.net.network.limits.dstates;
  idle : AreIdleUntil l.quiet l.list.items;
  start : l.tick ≡ 0 → l.quiet ≡ 0;
}
