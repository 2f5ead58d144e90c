-- Chosen by whether a word is 0.
use Rattle.std.proofs.Common.{ap, not, Bool, ◌∙◌, ℕ}
use Rattle.std.specs.Prelude.{nat_eq, if◌then◌else◌}
use Rattle.kn_blast.specs.Spelling.{number}
use Rattle.kn_blast.proofs.Growing.{if_each}
use Rattle.kn_blast.proofs.Numbers.{spells_is, number-kept}
use Rattle.kn_blast.proofs.Arithmetic.{chosen_is, spells_wide}
use Rattle.kn_blast.proofs.nodes.chosen.Goals as goal

pub returns-clause-word : goal.returns-clause-word
returns-clause-word c =
    let a = c.args.aig.now in
    let d = c.is_not_zero.new.aig in
    let g = c.in_ok-some.ensures.grows in
    if_each c.choice.result _ _ (λ v made. spells_is _ _ _ _ _ (spells_wide _ _ _ (λ k bits. if not (nat_eq (number bits a c.args.cs.now) 0) then number bits a c.args.xs.now else number bits a c.args.ys.now) c.requires.many
    (spells_is _ _ _ _ _ made (λ bits. ap (λ (b : Bool). if b then number bits d c.args.xs.now else number bits d c.args.ys.now) (c.in_ok-some.ensures.edge.value bits)
    ∙ (ap (λ (x : ℕ). if not (nat_eq (number bits a c.args.cs.now) 0) then x else number bits d c.args.ys.now) (number-kept bits a d c.args.xs.now g c.requires.x)
    ∙ ap (λ (y : ℕ). if not (nat_eq (number bits a c.args.cs.now) 0) then number bits a c.args.xs.now else y) (number-kept bits a d c.args.ys.now g c.requires.y)))))
    (λ bits. chosen_is (number bits a c.args.cs.now) (number bits a c.args.xs.now) (number bits a c.args.ys.now))) c.choice.ensures.word
