-- The words of the roots so far.
use Rattle.std.proofs.Common.{◌≡◌, ℕ, List, length, Some}
use Rattle.std.specs.Prelude.{nat_eq, slice_get}
use Rattle.std.specs.HashMap.{get}
use Rattle.kn_aig.specs.declared.gates.Edge.{Edge}
use Rattle.kn_blast.specs.Spelling.{AllStand}
use Rattle.kn_blast.specs.Tables.{AreReadAt}
use Rattle.kn_blast.proofs.circuit.words_at.Given as goal

abbrev pub invariant-loop-root : goal.invariant-loop-root
invariant-loop-root l = record {
  many : length l.words.items ≡ l.root-index;
  stand : (place : ℕ) (word : List Edge) → slice_get l.words.items place ≡ Some word → AllStand l.aig word;
  read : AreReadAt (get nat_eq l.table) l.roots l.words.items;
}
