use Rattle.std.proofs.Common.{◌≡◌, map, drop}
use Rattle.kn_dstate.specs.Gathered.{with_all}
use Rattle.kn_dstate.proofs.place.add_column.Given as goal

abbrev pub invariant-loop-x : goal.invariant-loop-x
invariant-loop-x l = with_all (map (λ x. x.0) (drop l.x-index l.column)) (map (λ x. x.0) l.out.items) ≡ with_all (map (λ x. x.0) l.column) (map (λ x. x.0) l.fn.out.items)
