-- The links so far, and those of the rest.
use Rattle.std.proofs.Common.{◌≡◌, ◌++◌, drop}
use Rattle.std.specs.Prelude.{filter, nat_eq}
use Rattle.kn_model.specs.Nets.{Link}
use Rattle.kn_machine.proofs.spot.links_of.Given as goal

abbrev pub invariant-loop-link : goal.invariant-loop-link
invariant-loop-link l = l.links.items ++ filter (λ (x : Link). nat_eq x.from l.node) (drop l.link-index l.link-items) ≡ filter (λ (x : Link). nat_eq x.from l.node) l.link-items
