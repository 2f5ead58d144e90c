-- The lines so far have no fault, and their labels and instructions are known.
use Rattle.std.proofs.Common.{◌≡◌, ◌≤◌, ◌+◌, ℕ, List, take, drop}
use Rattle.indexmap.specs.IndexMap.{get_by_text}
use Rattle.kn_asm.specs.Assembling.{instrs_in, place_of, first_fault_from, first_fault_lem}
use Rattle.kn_asm.proofs.assembling.first_fault.Given as goal

abbrev pub invariant-loop-index : goal.invariant-loop-index
invariant-loop-index l = record {
  fault : first_fault_from l.lines (take l.index l.lines) (drop l.index l.lines) ≡ first_fault_lem l.lines;
  known : (q : List ℕ) → get_by_text l.seen q ≡ place_of (take l.index l.lines) q;
  few : l.before ≤ l.index;
  here : l.before ≡ instrs_in (take l.index l.lines);
  left : l.before + instrs_in (drop l.index l.lines) ≡ l.total;
}
