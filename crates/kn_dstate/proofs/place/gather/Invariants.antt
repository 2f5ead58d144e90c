use Rattle.std.proofs.Common.{◌≡◌, [], map, drop}
use Rattle.kn_dstate.specs.Gathered.{gathered}
use Rattle.kn_dstate.proofs.place.gather.Given as goal

abbrev pub invariant-loop-key : goal.invariant-loop-key
invariant-loop-key l = gathered l.dstates.slots l.node (drop l.key-index l.keys) (map (λ x. x.0) l.out.items) ≡ gathered l.dstates.slots l.node l.keys []
