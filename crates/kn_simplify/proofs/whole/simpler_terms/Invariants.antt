-- What stands for the places so far.
use Rattle.std.proofs.Common.{length, take}
use Rattle.kn_built.specs.Built.{Extends}
use Rattle.kn_simplify.specs.Folded.{AreFolded}
use Rattle.kn_simplify.specs.Simpler.{AreSimpler, simpler_in}
use Rattle.kn_simplify.proofs.whole.simpler_terms.Given as goal

abbrev pub invariant-loop-place : goal.invariant-loop-place
invariant-loop-place l = record {
  table : AreSimpler l.terms (length l.fn.terms) (simpler_in l.table);
  folded : AreFolded l.terms (simpler_in l.table) (take l.place-index l.needed);
  grows : Extends l.fn.terms l.terms;
}
