use Rattle.std.proofs.Common.{◌∙◌, sym, ap}
use Rattle.std.specs.Ordering.{is_ne}
use Rattle.kn_model.specs.Reports.{trace_cmp}
use Rattle.kn_cob.specs.Runs.{name_in}
use Rattle.kn_cob.proofs.Sorting.{tied, tied_more, first_decides}
use Rattle.kn_cob.proofs.ordering.cmp_names.Goals as goal

pub returns-then-is_ne : goal.returns-then-is_ne
returns-then-is_ne c =
    let other = sym (ap is_ne c.cmp_at-order.ensures) ∙ (sym c.is_ne.ensures ∙ c.if-is_ne.true) in
    c.cmp_at-order.ensures ∙ sym (first_decides trace_cmp c.args.nodes c.loop-node.node (name_in c.args.a.now) (name_in c.args.b.now) c.loop-node-test.true c.loop-node.invariant other)

pub loop-node-preserved : goal.loop-node-preserved
loop-node-preserved c =
    tied_more trace_cmp c.loop-node.node (name_in c.args.a.now) (name_in c.args.b.now) c.loop-node.invariant (sym c.cmp_at-order.ensures ∙ tied c.cmp_at-order.result (sym c.is_ne.ensures ∙ c.if-is_ne.false))
