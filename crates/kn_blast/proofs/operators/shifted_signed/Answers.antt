-- The highest bit comes in.
use Rattle.std.proofs.Common.{ap, sym, Bool, ◌∙◌, ◌-◌, ◌/◌, ◌^◌}
use Rattle.std.specs.Prelude.{min, if◌then◌else◌}
use Rattle.kn_blast.specs.Spelling.{number}
use Rattle.kn_blast.proofs.Growing.{if_each}
use Rattle.kn_blast.proofs.Numbers.{spells_is}
use Rattle.kn_blast.proofs.Arithmetic.{top_test, other_side}
use Rattle.kn_blast.proofs.operators.shifted_signed.Goals as goal

pub returns-clause-word : goal.returns-clause-word
returns-clause-word c =
    if_each c.shifted.result _ _ (λ v made. spells_is _ _ _ _ _ made (λ bits.
    let x = number bits c.args.aig.now c.args.xs.now in
    let p = min (number bits c.args.aig.now c.args.ys.now) 16 in
    sym (ap (λ (b : Bool). if b then x / 2 ^ p else 65535 - (65535 - x) / 2 ^ p) (top_test bits c.args.aig.now c.args.xs.now _ c.requires.many) ∙ other_side _ (x / 2 ^ p) (65535 - (65535 - x) / 2 ^ p)))) c.shifted.ensures.word
