-- The places of the roots so far.
use Rattle.std.proofs.Common.{ℕ, ◌↔◌, take}
use Rattle.kn_term.specs.Reached.{IsRootAt, IsIn}
use Rattle.kn_term.proofs.reach.places_of.Given as goal

abbrev pub invariant-loop-root : goal.invariant-loop-root
invariant-loop-root l = (k : ℕ) → IsIn l.places k ↔ IsRootAt (take l.root-index l.roots) k
