-- The widths at the places so far.
use Rattle.std.proofs.Common.{take}
use Rattle.kn_blast.specs.Reached.{AreWide, AreRead}
use Rattle.kn_blast.proofs.opening.widths_read.Given as goal

abbrev pub invariant-loop-place : goal.invariant-loop-place
invariant-loop-place l = record {
  wide : AreWide l.terms (take l.place-index l.places) l.widths;
  read : AreRead l.terms l.places l.widths;
}
