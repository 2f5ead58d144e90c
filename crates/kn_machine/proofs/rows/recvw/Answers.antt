use Rattle.std.proofs.Common.{refl}
use Rattle.std.specs.Prelude.{slice_index_or}
use Rattle.kn_code.specs.declared.program.Instr.TheVariants as instrs
use Rattle.kn_term.specs.Terms.{Word}
use Rattle.kn_term.specs.Nodes.{term_at}
use Rattle.kn_model.specs.Rows.{payload_of}
use Rattle.kn_machine.specs.Effects.{mail_of}
use Rattle.kn_machine.proofs.Stepping.{set_step}
use Rattle.kn_machine.proofs.rows.recvw.Goals as goal

pub returns : goal.returns
returns c net =
    let v = c.args.way.now in
    set_step net c.args.spot.now (instrs.Recvw c.args.a c.args.k) v c.word_of.new.way c.set.new.way c.set.result c.args.a (term_at c.word_of.new.way.terms c.in_ok-r.r.index) (slice_index_or (payload_of (mail_of c.args.spot.now.mail)) c.args.k (Word 0)) refl c.in_ok-r.ensures.grown c.in_ok-r.ensures.term c.set.ensures.way c.set.ensures.still c.set.ensures.goes
