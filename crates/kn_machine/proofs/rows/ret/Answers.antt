use Rattle.std.proofs.Common.{refl}
use Rattle.kn_code.specs.declared.program.Instr.TheVariants as instrs
use Rattle.kn_machine.proofs.Stepping.{still_self, stop_step}
use Rattle.kn_machine.proofs.rows.ret.Goals as goal

pub returns : goal.returns
returns c net = stop_step net c.args.spot.now instrs.Ret c.args.way.now c.args.way.now (still_self c.args.way.now) refl
