use Rattle.std.proofs.Common.{ap, arith, length, List}
use Rattle.kn_built.proofs.BuiltLaws.{length-built}
use Rattle.kn_dstate.specs.declared.row.Row.{Row}
use Rattle.kn_dstate.specs.Histories.{told_by}
use Rattle.kn_dstate.specs.Graphs.{GraphView}
use Rattle.kn_dstate.proofs.graph.Graph.cmp_history.Goals as goal

pub cmp_rows-requires-clause-a : goal.cmp_rows-requires-clause-a
cmp_rows-requires-clause-a c = omega (arith, c.requires.a, ap (λ (g : GraphView). length g.histories) c.self.view_is, length-built told_by c.self.inside.rows.items, ap (λ (l : List Row). length l) c.deref.ensures.value)

pub cmp_rows-requires-clause-b : goal.cmp_rows-requires-clause-b
cmp_rows-requires-clause-b c = omega (arith, c.requires.b, ap (λ (g : GraphView). length g.histories) c.self.view_is, length-built told_by c.self.inside.rows.items, ap (λ (l : List Row). length l) c.deref.ensures.value)
