-- Where something is borrowed, the first is below the second.
use Rattle.std.proofs.Common.{◌≡◌, ◌∙◌, ◌+◌, ◌-◌, ◌^◌, ap, sym, List, Bool, ℕ}
use Rattle.std.specs.Prelude.{nat_lt}
use Rattle.kn_word.specs.Words.{one_if}
use Rattle.kn_aig.specs.Circuits.{value_of}
use Rattle.kn_blast.specs.Spelling.{number, weight}
use Rattle.kn_blast.proofs.Growing.{if_each, turned_value}
use Rattle.kn_blast.proofs.Numbers.{spells_is}
use Rattle.kn_blast.proofs.Arithmetic.{borrow_test, word-lt}
use Rattle.kn_blast.proofs.arith.below.Goals as goal

pub returns-clause-word : goal.returns-clause-word
returns-clause-word c =
    let a = c.args.aig.now in
    let d = c.difference.new.aig in
    let xs = c.args.xs.now in
    let ys = c.args.ys.now in
    let word = c.in_ok-reaches.field-0-0.items in
    let made = c.in_ok-reaches.ensures.word in
    let whole : (bits : List Bool) → number bits d word + weight (value_of bits d c.in_ok-reaches.reaches) 16 ≡ number bits a xs + 65536 - number bits a ys =
    λ bits. ap (λ (k : ℕ). number bits d word + weight (value_of bits d c.in_ok-reaches.reaches) k) (sym c.requires.many) ∙ (made.value bits ∙ ap (λ (k : ℕ). number bits a xs + 2 ^ k - number bits a ys) c.requires.many) in
    let test : (bits : List Bool) → value_of bits d c.negated.result ≡ nat_lt (number bits a xs) (number bits a ys) =
    λ bits. turned_value bits d c.in_ok-reaches.reaches c.negated.result c.negated.ensures
    ∙ borrow_test (number bits d word) (number bits a xs) (number bits a ys) (value_of bits d c.in_ok-reaches.reaches) (word-lt bits d word (made.many ∙ c.requires.many)) (word-lt bits a xs c.requires.many) (word-lt bits a ys c.requires.same) (whole bits) in
    if_each c.flag.result _ _ (λ v is. spells_is d v.items 16 _ _ is (λ bits. ap one_if (test bits))) c.flag.ensures
