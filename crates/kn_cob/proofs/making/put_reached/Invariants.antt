-- A line for each state so far.
use Rattle.std.proofs.Common.{◌≡◌, ◌++◌, map, take}
use Rattle.kn_cob.specs.Reports.{numbers, reach_by, reached_at}
use Rattle.kn_cob.proofs.making.put_reached.Given as goal

abbrev pub invariant-loop-state : goal.invariant-loop-state
invariant-loop-state l =
    l.failures.items ≡ l.initial.failures.items ++ map (reached_at (reach_by l.place.dstate (numbers l.place.nodes l.place.first) l.answer)) (take l.state-index l.failed)
