-- 0 comes in.
use Rattle.std.proofs.Common.{ap, Bool}
use Rattle.std.specs.Prelude.{min}
use Rattle.kn_blast.specs.Spelling.{number}
use Rattle.kn_blast.specs.declared.shifts.Way.TheVariants as ways
use Rattle.kn_blast.specs.Shifting.{moved_word}
use Rattle.kn_blast.proofs.Growing.{if_each}
use Rattle.kn_blast.proofs.Numbers.{spells_is}
use Rattle.kn_blast.proofs.operators.shifted_right.Goals as goal

pub returns-clause-word : goal.returns-clause-word
returns-clause-word c = if_each c.shifted.result _ _ (λ v made. spells_is _ _ _ _ _ made (λ bits. ap (λ (b : Bool). moved_word ways.Right b (min (number bits c.args.aig.now c.args.ys.now) 16) (number bits c.args.aig.now c.args.xs.now)) (c.constant-zero.ensures.value bits))) c.shifted.ensures.word
