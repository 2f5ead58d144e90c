-- A value more.
use Rattle.kn_sat.specs.Trails.{latest}
use Rattle.kn_sat.proofs.Inputs.{bits_push}
use Rattle.kn_sat.proofs.searching.bits_of.Goals as goal

pub loop-var-preserved : goal.loop-var-preserved
loop-var-preserved c = bits_push (latest (c.args.trail.now).entries) c.loop-var.var c.loop-var.bits.items c.push.new.self.items c.value.result c.unwrap_or.result c.loop-var.invariant c.value.ensures c.unwrap_or.ensures c.in_ok-push.ensures.items
