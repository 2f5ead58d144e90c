-- The marks so far.
use Rattle.std.proofs.Common.{◌≡◌, vec_len}
use Rattle.kn_term.specs.Nodes.{terms_of}
use Rattle.kn_solve.specs.Parts.{AreMarked}
use Rattle.kn_solve.proofs.dividing.marks_of.Given as goal

abbrev pub invariant-loop-place : goal.invariant-loop-place
invariant-loop-place l = record {
  marked : AreMarked (terms_of l.terms) l.inputs l.marks.items;
  count : vec_len l.marks ≡ l.place;
}
