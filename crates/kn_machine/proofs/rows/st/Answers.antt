use Rattle.std.proofs.Common.{refl, ap, ◌∙◌}
use Rattle.std.specs.Prelude.{slice_set}
use Rattle.kn_code.specs.declared.program.Instr.TheVariants as instrs
use Rattle.kn_model.specs.Terms.{terms}
use Rattle.kn_model.specs.Rows.{register, with_memory}
use Rattle.kn_machine.specs.Ways.{way_of}
use Rattle.kn_machine.proofs.Stepping.{next_step}
use Rattle.kn_machine.proofs.rows.st.Goals as goal

pub returns : goal.returns
returns c net =
    let v = c.args.way.now in
    let spot = c.args.spot.now in
    let z = with_memory terms (way_of v) (slice_set (way_of v).state.memory c.args.m (register terms (way_of v) c.args.a)) in
    next_step net spot (instrs.St c.args.m c.args.a) v c.set_word.new.self c.advance.new.self z refl
    (c.set_word.ensures.way ∙ ap (λ t. with_memory terms (way_of v) (slice_set (way_of v).state.memory c.args.m t)) c.register-r.ensures.term) c.advance.ensures.way c.set_word.ensures.still c.advance.ensures.still
