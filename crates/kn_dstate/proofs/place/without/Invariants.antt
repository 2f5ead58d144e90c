use Rattle.std.proofs.Common.{◌≡◌, ◌++◌, map, drop}
use Rattle.kn_dstate.specs.Places.{others}
use Rattle.kn_dstate.proofs.place.without.Given as goal

abbrev pub invariant-loop-x : goal.invariant-loop-x
invariant-loop-x l = map (λ x. x.0) l.out.items ++ others l.s.0 (map (λ x. x.0) (drop l.x-index l.column)) ≡ others l.s.0 (map (λ x. x.0) l.column)
