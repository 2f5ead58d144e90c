use Rattle.std.proofs.Common.{refl}
use Rattle.std.specs.Prelude.{slice_index_or}
use Rattle.kn_code.specs.declared.program.Instr.TheVariants as instrs
use Rattle.kn_term.specs.Terms.{Word}
use Rattle.kn_term.specs.Nodes.{term_at}
use Rattle.kn_machine.specs.Ways.{way_of}
use Rattle.kn_machine.proofs.Stepping.{set_step, grown_self, equal_alike}
use Rattle.kn_machine.proofs.rows.ld.Goals as goal

pub returns : goal.returns
returns c net =
    let v = c.args.way.now in
    set_step net c.args.spot.now (instrs.Ld c.args.a c.args.m) v v c.set.new.way c.set.result c.args.a (term_at v.terms c.word-r.result.index) (slice_index_or (way_of v).state.memory c.args.m (Word 0)) refl (grown_self v) (equal_alike _ _ c.word-r.ensures.term) c.set.ensures.way c.set.ensures.still c.set.ensures.goes
