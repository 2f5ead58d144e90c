-- The labels so far, and those of the lines that are left.
use Rattle.std.proofs.Common.{◌≡◌, ◌≤◌, ℕ, List, drop}
use Rattle.indexmap.specs.IndexMap.{get_by_text}
use Rattle.kn_asm.specs.Assembling.{place_from}
use Rattle.kn_asm.specs.Tables.{first_place}
use Rattle.kn_asm.proofs.labels.collect.Given as goal

abbrev pub invariant-loop-line : goal.invariant-loop-line
invariant-loop-line l = record {
  few : l.index ≤ l.line-index;
  found : (q : List ℕ) → first_place (get_by_text l.labels q) (place_from q l.index (drop l.line-index l.lines)) ≡ place_from q 0 l.lines;
}
