-- Values as digits.
use Rattle.std.proofs.Common.{◌∙◌, ap}
use Rattle.kn_word.specs.Words.{one_if}
use Rattle.kn_blast.proofs.Growing.{if_each, and_digit, or_digit}
use Rattle.kn_blast.proofs.gates.edge_of_gate.Goals as goal

pub returns-in-And-clause-digit : goal.returns-in-And-clause-digit
returns-in-And-clause-digit c =
    rw c.in-And.is (if_each c.and.result _ _ (λ e v bits. ap one_if (v bits) ∙ and_digit _ _) c.and.ensures.value)

pub returns-in-Or-clause-digit : goal.returns-in-Or-clause-digit
returns-in-Or-clause-digit c =
    rw c.in-Or.is (if_each c.either.result _ _ (λ e v bits. ap one_if (v.value bits) ∙ or_digit _ _) c.either.ensures.edge)
