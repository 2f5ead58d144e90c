-- The entries so far are not the input's.
use Rattle.std.proofs.Common.{◌≡◌, List, Bool, drop}
use Rattle.kn_term.specs.Terms.{listed}
use Rattle.kn_blast.specs.Inputs.{width_of, given_by}
use Rattle.kn_blast.proofs.inputs.entry_of.Given as goal

abbrev pub invariant-loop-entry : goal.invariant-loop-entry
invariant-loop-entry l = record {
  width : width_of l.entries l.node l.index ≡ width_of (drop l.entry-index l.entries) l.node l.index;
  given : (bits : List Bool) → listed (given_by bits l.entries) l.node l.index ≡ listed (given_by bits (drop l.entry-index l.entries)) l.node l.index;
}
