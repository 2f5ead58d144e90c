-- What is listed, and what is left to list.
use Rattle.std.proofs.Common.{◌≡◌, ◌++◌, ◌+◌, ◌-◌}
use Rattle.kn_cob.specs.Reports.{numbers}
use Rattle.kn_cob.proofs.making.numbers_from.Given as goal

abbrev pub invariant-loop-place : goal.invariant-loop-place
invariant-loop-place l = l.states.items ++ numbers (l.count - l.place) (l.first + l.place) ≡ numbers l.count l.first
