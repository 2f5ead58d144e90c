use Rattle.std.proofs.Common.{refl}
use Rattle.kn_code.specs.declared.program.Instr.TheVariants as instrs
use Rattle.kn_word.specs.declared.Op.TheVariants as ops
use Rattle.kn_term.specs.Terms.{Word, Apply}
use Rattle.kn_term.specs.Nodes.{term_at}
use Rattle.kn_model.specs.Terms.{terms}
use Rattle.kn_model.specs.Rows.{register}
use Rattle.kn_machine.specs.Ways.{way_of}
use Rattle.kn_machine.proofs.Stepping.{set_step, applied, grown_through}
use Rattle.kn_machine.proofs.rows.not.Goals as goal

pub returns : goal.returns
returns c net =
    let v = c.args.way.now in
    let u = c.konst.new.self in
    let w = c.apply.new.self in
    let x = term_at u.terms c.register-x.result.index in
    let ones = term_at u.terms c.in_ok-ones.ones.index in
    let made = term_at w.terms c.in_ok-r.r.index in
    let alike = applied v u ops.Xor c.args.b x ones (Word 65535) made c.in_ok-ones.ensures.grows c.register-x.ensures.term c.in_ok-ones.ensures.term c.in_ok-r.ensures.term in
    set_step net c.args.spot.now (instrs.Not c.args.a c.args.b) v w c.set.new.way c.set.result c.args.a made (Apply ops.Xor (register terms (way_of v) c.args.b) (Word 65535)) refl (grown_through v u w c.in_ok-ones.ensures.grows c.in_ok-r.ensures.grows) alike
    c.set.ensures.way c.set.ensures.still c.set.ensures.goes
