use Rattle.std.proofs.Common.{refl}
use Rattle.kn_code.specs.declared.program.Instr.TheVariants as instrs
use Rattle.kn_term.specs.Nodes.{term_at}
use Rattle.kn_model.specs.Terms.{terms}
use Rattle.kn_model.specs.Rows.{register}
use Rattle.kn_machine.specs.Ways.{way_of}
use Rattle.kn_machine.proofs.Stepping.{set_step, grown_self, equal_alike}
use Rattle.kn_machine.proofs.rows.mov.Goals as goal

pub returns : goal.returns
returns c net =
    let v = c.args.way.now in
    set_step net c.args.spot.now (instrs.Mov c.args.a c.args.b) v v c.set.new.way c.set.result c.args.a (term_at v.terms c.register-r.result.index) (register terms (way_of v) c.args.b) refl (grown_self v) (equal_alike _ _ c.register-r.ensures.term) c.set.ensures.way c.set.ensures.still c.set.ensures.goes
