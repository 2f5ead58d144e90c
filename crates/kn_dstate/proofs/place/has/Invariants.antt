use Rattle.std.proofs.Common.{◌≡◌, map, drop}
use Rattle.kn_dstate.specs.Places.{is_in}
use Rattle.kn_dstate.proofs.place.has.Given as goal

abbrev pub invariant-loop-x : goal.invariant-loop-x
invariant-loop-x l = is_in l.s.0 (map (λ x. x.0) (drop l.x-index l.column)) ≡ is_in l.s.0 (map (λ x. x.0) l.column)
