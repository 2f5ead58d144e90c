-- The circuit of each operator.
use Rattle.std.proofs.Common.{ℕ, List, Bool}
use Rattle.kn_word.specs.Words.{by_digits}
use Rattle.kn_blast.specs.Spelling.{number, digit}
use Rattle.kn_blast.specs.declared.gates.Gate.TheVariants as gates
use Rattle.kn_blast.proofs.Growing.{if_each}
use Rattle.kn_blast.proofs.Arithmetic.{spells_wide}
use Rattle.kn_blast.proofs.operators.operate.Goals as goal

pub returns-in-Add-clause-word : goal.returns-in-Add-clause-word
returns-in-Add-clause-word c = rw c.in-Add.is c.added.ensures.word

pub returns-in-Sub-clause-word : goal.returns-in-Sub-clause-word
returns-in-Sub-clause-word c = rw c.in-Sub.is c.subtracted.ensures.word

pub returns-in-Mul-clause-word : goal.returns-in-Mul-clause-word
returns-in-Mul-clause-word c = rw c.in-Mul.is c.product.ensures.word

pub returns-in-Shl-clause-word : goal.returns-in-Shl-clause-word
returns-in-Shl-clause-word c = rw c.in-Shl.is c.shifted_left.ensures.word

pub returns-in-Shr-clause-word : goal.returns-in-Shr-clause-word
returns-in-Shr-clause-word c = rw c.in-Shr.is c.shifted_right.ensures.word

pub returns-in-Sar-clause-word : goal.returns-in-Sar-clause-word
returns-in-Sar-clause-word c = rw c.in-Sar.is c.shifted_signed.ensures.word

pub returns-in-Udiv-clause-word : goal.returns-in-Udiv-clause-word
returns-in-Udiv-clause-word c = rw c.in-Udiv.is c.quotient.ensures.word

pub returns-in-Urem-clause-word : goal.returns-in-Urem-clause-word
returns-in-Urem-clause-word c = rw c.in-Urem.is c.remainder.ensures.word

pub returns-in-Eq-clause-word : goal.returns-in-Eq-clause-word
returns-in-Eq-clause-word c = rw c.in-Eq.is c.equal.ensures.word

pub returns-in-Ult-clause-word : goal.returns-in-Ult-clause-word
returns-in-Ult-clause-word c = rw c.in-Ult.is c.below.ensures.word

pub returns-in-Slt-clause-word : goal.returns-in-Slt-clause-word
returns-in-Slt-clause-word c = rw c.in-Slt.is c.below_signed.ensures.word

pub returns-in-And-clause-word : goal.returns-in-And-clause-word
returns-in-And-clause-word c = rw c.in-And.is (if_each c.bit_by_bit.result _ _ (λ v made. spells_wide _ _ _ (λ (k : ℕ) (bits : List Bool). by_digits (digit gates.And) k (number bits c.args.aig.now c.args.xs.now) (number bits c.args.aig.now c.args.ys.now)) c.requires.many made) c.bit_by_bit.ensures.word)

pub returns-in-Or-clause-word : goal.returns-in-Or-clause-word
returns-in-Or-clause-word c = rw c.in-Or.is (if_each c.bit_by_bit-in-Or.result _ _ (λ v made. spells_wide _ _ _ (λ (k : ℕ) (bits : List Bool). by_digits (digit gates.Or) k (number bits c.args.aig.now c.args.xs.now) (number bits c.args.aig.now c.args.ys.now)) c.requires.many made) c.bit_by_bit-in-Or.ensures.word)

pub returns-in-Xor-clause-word : goal.returns-in-Xor-clause-word
returns-in-Xor-clause-word c = rw c.in-Xor.is (if_each c.bit_by_bit-in-Xor.result _ _ (λ v made. spells_wide _ _ _ (λ (k : ℕ) (bits : List Bool). by_digits (digit gates.Xor) k (number bits c.args.aig.now c.args.xs.now) (number bits c.args.aig.now c.args.ys.now)) c.requires.many made) c.bit_by_bit-in-Xor.ensures.word)
