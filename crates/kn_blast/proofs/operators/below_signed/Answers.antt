-- The order of the raised words.
use Rattle.std.proofs.Common.{ap, sym, subst, ◌∙◌, ◌≡◌, length, ℕ}
use Rattle.std.specs.Prelude.{nat_lt}
use Rattle.kn_word.specs.Words.{one_if, raised}
use Rattle.kn_blast.specs.Spelling.{number, AllStand}
use Rattle.kn_blast.proofs.Growing.{if_each}
use Rattle.kn_blast.proofs.Numbers.{spells_is}
use Rattle.kn_blast.proofs.operators.below_signed.Goals as goal

pub below-requires : goal.below-requires
below-requires c = record {
  x = subst (AllStand c.args.aig.now) (sym c.deref.ensures.value) c.in_ok-first.ensures.stand;
  y = subst (AllStand c.args.aig.now) (sym c.deref-2.ensures.value) c.in_ok-second.ensures.stand;
  many = ap length c.deref.ensures.value ∙ c.in_ok-first.ensures.many;
  same = ap length c.deref-2.ensures.value ∙ c.in_ok-second.ensures.many;
}

pub returns-clause-word : goal.returns-clause-word
returns-clause-word c =
    if_each c.below.result _ _ (λ v made. spells_is _ _ _ _ _ made (λ bits.
    let a = c.args.aig.now in
    let x : number bits a c.deref.result.now ≡ raised (number bits a c.args.xs.now) = ap (number bits a) c.deref.ensures.value ∙ c.in_ok-first.ensures.value bits in
    let y : number bits a c.deref-2.result.now ≡ raised (number bits a c.args.ys.now) = ap (number bits a) c.deref-2.ensures.value ∙ c.in_ok-second.ensures.value bits in
    ap (λ (k : ℕ). one_if (nat_lt k (number bits a c.deref-2.result.now))) x ∙ ap (λ (k : ℕ). one_if (nat_lt (raised (number bits a c.args.xs.now)) k)) y)) c.below.ensures.word
