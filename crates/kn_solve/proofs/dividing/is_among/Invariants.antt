-- The inputs so far are others.
use Rattle.std.proofs.Common.{◌≡◌, drop}
use Rattle.kn_solve.specs.Parts.{is_among}
use Rattle.kn_solve.proofs.dividing.is_among.Given as goal

abbrev pub invariant-loop-input : goal.invariant-loop-input
invariant-loop-input l = is_among (drop l.input-index l.inputs) l.node l.index ≡ is_among l.inputs l.node l.index
