use Rattle.std.proofs.Common.{refl}
use Rattle.kn_code.specs.declared.program.Instr.TheVariants as instrs
use Rattle.kn_machine.proofs.Stepping.{range_row}
use Rattle.kn_machine.proofs.rows.ldx.Goals as goal

pub returns : goal.returns
returns c net = range_row net c.args.spot.now (instrs.Ldx c.args.a c.args.b c.args.m c.args.n) c.args.b c.args.n c.args.way.now c.in_range.new.way c.in_range.result tt refl c.in_range.ensures.step c.in_range.ensures.grown
