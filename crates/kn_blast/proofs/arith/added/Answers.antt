-- What is carried is left out.
use Rattle.std.proofs.Common.{◌+◌, ap, arith}
use Rattle.kn_word.specs.Words.{one_if}
use Rattle.kn_blast.specs.Spelling.{number}
use Rattle.kn_blast.proofs.Arithmetic.{spells_cut}
use Rattle.kn_blast.proofs.arith.added.Goals as goal

pub returns-clause-word : goal.returns-clause-word
returns-clause-word c = spells_cut _ _ _ _ _ (λ bits. number bits c.args.aig.now c.args.xs.now + number bits c.args.aig.now c.args.ys.now) c.requires.many c.in_ok-word.ensures.word (λ bits. omega (arith, ap one_if (c.constant-zero.ensures.value bits)))
