-- The lines are the text's.
use Rattle.std.proofs.Common.{◌<◌, length, subst, sym, ◌∙◌, Err}
use Rattle.kn_asm.specs.Lines.{AreSound}
use Rattle.kn_asm.proofs.Sound.{lines_sound}
use Rattle.kn_asm.proofs.Whole.{some_line, assembled_ok, gives_text}
use Rattle.kn_asm.proofs.assembling.assemble.Goals as goal

pub program_of-requires-clause-some : goal.program_of-requires-clause-some
program_of-requires-clause-some c = subst (λ ls. 0 < length ls) (sym (c.deref.ensures.value ∙ c.in-Ok.ensures)) (some_line c.args.text.now)

pub program_of-requires-clause-sound : goal.program_of-requires-clause-sound
program_of-requires-clause-sound c = subst AreSound (sym (c.deref.ensures.value ∙ c.in-Ok.ensures)) (lines_sound c.args.text.now)

pub returns-in-Ok-program_of-clause-found : goal.returns-in-Ok-program_of-clause-found
returns-in-Ok-program_of-clause-found c =
    (c.validity.ensures, assembled_ok c.args.text.now _ c.in-Ok-program_of.program (c.deref.ensures.value ∙ c.in-Ok.ensures) c.in-Ok-program_of.ensures)

pub returns-in-Ok-program_of-clause-exact : goal.returns-in-Ok-program_of-clause-exact
returns-in-Ok-program_of-clause-exact c = assembled_ok c.args.text.now _ c.in-Ok-program_of.program (c.deref.ensures.value ∙ c.in-Ok.ensures) c.in-Ok-program_of.ensures

pub returns-clause-exact : goal.returns-clause-exact
returns-clause-exact c = gives_text c.args.text.now c.deref.result.now (Err c.in-Err-program_of.fault) (c.deref.ensures.value ∙ c.in-Ok.ensures) c.in-Err-program_of.ensures
