-- The words of the places so far.
use Rattle.std.proofs.Common.{take}
use Rattle.std.specs.Prelude.{nat_eq}
use Rattle.std.specs.HashMap.{get}
use Rattle.kn_blast.specs.Spelling.{Grows}
use Rattle.kn_blast.specs.Tables.{AreWords, AreWordsOf}
use Rattle.kn_blast.proofs.circuit.words_of.Given as goal

abbrev pub invariant-loop-place : goal.invariant-loop-place
invariant-loop-place l = record {
  words : AreWords l.aig (get nat_eq l.table);
  values : AreWordsOf l.aig l.inputs l.terms (get nat_eq l.table) (take l.place-index l.needed);
  grows : Grows l.fn.aig l.aig;
}
