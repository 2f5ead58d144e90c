-- The map was opened for the term.
use Rattle.std.proofs.Common.{zero, refl}
use Rattle.kn_blast.proofs.tests.opened.Goals as goal

pub blast-requires-clause-covers : goal.blast-requires-clause-covers
blast-requires-clause-covers c = c.in_ok-inputs.ensures.covers zero c.args.r refl
