use Rattle.std.proofs.Common.{drop}
use Rattle.kn_dstate.proofs.Growing.{Extending}
use Rattle.kn_dstate.proofs.table.extend.Given as goal

abbrev pub invariant-loop-entry : goal.invariant-loop-entry
invariant-loop-entry l = Extending l.fn.rows.items l.rows.items l.node l.before l.last (drop l.entry-index l.entries) l.entries
