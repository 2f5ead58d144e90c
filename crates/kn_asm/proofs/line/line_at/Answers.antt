-- A label, and what follows it.
use Rattle.std.proofs.Common.{◌∙◌, ap}
use Rattle.kn_asm.specs.Lines.{content_in_lem}
use Rattle.kn_asm.proofs.Readings.{labelled_line}
use Rattle.kn_asm.proofs.line.line_at.Goals as goal

pub returns-in-Ok : goal.returns-in-Ok
returns-in-Ok c = labelled_line c.args.text.now _ _ c.in-Some.after.now _ c.in-Ok.line c.split_word.ensures.first c.split_word.ensures.rest c.in-Some.ensures c.if-not-is_name.ensures (c.in_ok-body.ensures ∙ ap content_in_lem c.skip.ensures) c.in-Ok.ensures
