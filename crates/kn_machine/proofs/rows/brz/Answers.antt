use Rattle.std.proofs.Common.{refl, true}
use Rattle.kn_code.specs.declared.program.Instr.TheVariants as instrs
use Rattle.kn_model.specs.Terms.{terms}
use Rattle.kn_model.specs.Rows.{not_zero, register}
use Rattle.kn_machine.specs.Ways.{way_of}
use Rattle.kn_machine.proofs.Stepping.{decide_step, grown_self, equal_alike}
use Rattle.kn_machine.proofs.rows.brz.Goals as goal

pub returns : goal.returns
returns c net =
    let v = c.args.way.now in
    let m = not_zero terms (register terms (way_of v) c.args.a) in
    decide_step net c.args.spot.now (instrs.Brz c.args.a c.args.to) v v (record { term = c.register-term.result; truth = true }) m tt refl (grown_self v) c.register-term.ensures.stands (equal_alike _ _ c.register-term.ensures.term) refl
