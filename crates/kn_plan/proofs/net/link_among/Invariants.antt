-- So many of the node's links are still before the wanted one.
use Rattle.std.proofs.Common.{◌≡◌, drop}
use Rattle.std.specs.Prelude.{slice_get, filter, nat_eq}
use Rattle.kn_plan.specs.Nets.{Link}
use Rattle.kn_plan.proofs.net.link_among.Given as goal

abbrev pub invariant-loop-link : goal.invariant-loop-link
invariant-loop-link l = slice_get (filter (λ (k : Link). nat_eq k.from l.node) l.links) l.number ≡ slice_get (filter (λ (k : Link). nat_eq k.from l.node) (drop l.link-index l.links)) l.left
