-- The places that were found, and those ahead.
use Rattle.std.proofs.Common.{length, reverse}
use Rattle.kn_term.proofs.Reaching.{Reaching, lowest}
use Rattle.kn_term.proofs.reach.reached.Given as goal

abbrev pub invariant-loop-place : goal.invariant-loop-place
invariant-loop-place l = Reaching l.terms l.roots (reverse l.places.items) l.ahead

abbrev pub decreases-loop-place : goal.decreases-loop-place
decreases-loop-place l = lowest (length l.terms) (reverse l.places.items)
