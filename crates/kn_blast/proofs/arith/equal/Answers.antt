-- No digit differs.
use Rattle.std.proofs.Common.{◌≡◌, ◌∙◌, ap, not, List, Bool, ℕ}
use Rattle.std.specs.Prelude.{nat_eq}
use Rattle.kn_word.specs.Words.{one_if, one_of, by_digits}
use Rattle.kn_aig.specs.Circuits.{value_of}
use Rattle.kn_blast.specs.Spelling.{number}
use Rattle.kn_blast.proofs.Growing.{if_each, turned_value}
use Rattle.kn_blast.proofs.Numbers.{spells_is}
use Rattle.kn_blast.proofs.Arithmetic.{xor_test, word-lt}
use Rattle.kn_blast.proofs.arith.equal.Goals as goal

pub returns-clause-word : goal.returns-clause-word
returns-clause-word c =
    let a = c.args.aig.now in
    let b = c.bit_by_bit.new.aig in
    let d = c.is_not_zero.new.aig in
    let xs = c.args.xs.now in
    let ys = c.args.ys.now in
    let digits : (bits : List Bool) → number bits b c.deref.result.now ≡ by_digits one_of 16 (number bits a xs) (number bits a ys) =
    λ bits. ap (number bits b) c.deref.ensures.value ∙ (c.in_ok-differing.ensures.word.value bits ∙ ap (λ (k : ℕ). by_digits one_of k (number bits a xs) (number bits a ys)) c.requires.many) in
    let test : (bits : List Bool) → value_of bits d c.negated.result ≡ nat_eq (number bits a xs) (number bits a ys) =
    λ bits. turned_value bits d c.in_ok-differ.differ c.negated.result c.negated.ensures
    ∙ (ap not (c.in_ok-differ.ensures.edge.value bits ∙ ap (λ (k : ℕ). not (nat_eq k 0)) (digits bits)) ∙ xor_test 16 (number bits a xs) (number bits a ys) (word-lt bits a xs c.requires.many) (word-lt bits a ys c.requires.same)) in
    if_each c.flag.result _ _ (λ v made. spells_is d v.items 16 _ _ made (λ bits. ap one_if (test bits))) c.flag.ensures
