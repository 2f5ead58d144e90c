use Rattle.std.proofs.Common.{refl, ap, sym}
use Rattle.kn_code.specs.declared.program.Instr.TheVariants as instrs
use Rattle.kn_model.specs.Rows.{Goes}
use Rattle.kn_machine.specs.declared.rows.Step.TheVariants as steps
use Rattle.kn_machine.proofs.Stepping.{still_step}
use Rattle.kn_machine.proofs.rows.jmp.Goals as goal

pub returns : goal.returns
returns c net = still_step net c.args.spot.now (instrs.Jmp c.args.to) c.args.way.now c.jump.new.self steps.Goes refl c.jump.ensures.still (ap (λ z. Goes z) (sym c.jump.ensures.way))
