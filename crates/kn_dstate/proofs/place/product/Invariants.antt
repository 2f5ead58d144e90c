use Rattle.std.proofs.Common.{◌≡◌, ◌*◌, map, drop}
use Rattle.kn_dstate.specs.Places.{choices}
use Rattle.kn_dstate.proofs.place.product.Given as goal

abbrev pub invariant-loop-column : goal.invariant-loop-column
invariant-loop-column l = l.count * choices (map (λ v. map (λ s. s.0) v.items) (drop l.column-index l.columns)) ≡ choices (map (λ v. map (λ s. s.0) v.items) l.columns)
