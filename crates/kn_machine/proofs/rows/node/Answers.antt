use Rattle.std.proofs.Common.{refl}
use Rattle.kn_code.specs.declared.program.Instr.TheVariants as instrs
use Rattle.kn_term.specs.Terms.{Word}
use Rattle.kn_term.specs.Nodes.{term_at}
use Rattle.kn_machine.proofs.Stepping.{set_step}
use Rattle.kn_machine.proofs.rows.node.Goals as goal

pub returns : goal.returns
returns c net =
    let v = c.args.way.now in
    set_step net c.args.spot.now (instrs.Node c.args.a) v c.konst.new.self c.set.new.way c.set.result c.args.a (term_at c.konst.new.self.terms c.in_ok-r.r.index) (Word c.args.spot.now.node) refl c.in_ok-r.ensures.grows c.in_ok-r.ensures.term c.set.ensures.way c.set.ensures.still c.set.ensures.goes
