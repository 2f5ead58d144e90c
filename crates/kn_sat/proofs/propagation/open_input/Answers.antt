-- An input more is assigned.
use Rattle.kn_sat.specs.Trails.{latest}
use Rattle.kn_sat.proofs.Inputs.{assigned_more}
use Rattle.kn_sat.proofs.propagation.open_input.Goals as goal

pub loop-var-preserved : goal.loop-var-preserved
loop-var-preserved c = assigned_more c.loop-var.var (latest (c.args.trail.now).entries) c.value.result c.is_none.result c.value.ensures c.is_none.ensures c.if-is_none.false c.loop-var.invariant
