-- What is carried is left out.
use Rattle.std.proofs.Common.{◌+◌, ◌-◌, ◌^◌, ap, ℕ}
use Rattle.kn_blast.specs.Spelling.{number}
use Rattle.kn_blast.proofs.Arithmetic.{spells_cut}
use Rattle.kn_blast.proofs.arith.subtracted.Goals as goal

pub returns-clause-word : goal.returns-clause-word
returns-clause-word c = spells_cut _ _ _ _ _ (λ bits. number bits c.args.aig.now c.args.xs.now + 65536 - number bits c.args.aig.now c.args.ys.now) c.requires.many c.in_ok-word.ensures.word (λ bits. ap (λ (k : ℕ). number bits c.args.aig.now c.args.xs.now + 2 ^ k - number bits c.args.aig.now c.args.ys.now) c.requires.many)
