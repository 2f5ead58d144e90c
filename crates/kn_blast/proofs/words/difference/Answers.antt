-- The sum with the complement and 1.
use Rattle.std.proofs.Common.{sym, ap, subst, ◌≡◌, ◌∙◌, ◌+◌, ◌^◌, List, Bool, length}
use Rattle.kn_aig.specs.declared.gates.Edge.{Edge}
use Rattle.kn_blast.specs.Spelling.{AllStand, number}
use Rattle.kn_blast.proofs.Growing.{if_each}
use Rattle.kn_blast.proofs.Steps.{borrows}
use Rattle.kn_blast.proofs.words.difference.Goals as goal

pub sum-requires : goal.sum-requires
sum-requires c =
    let e = c.deref.ensures.value in
    record {
      x = c.requires.x;
      y = subst (AllStand c.args.aig.now) (sym e) (c.in_ok-turned.ensures.stand c.args.aig.now c.requires.y);
      same = ap length e ∙ (c.in_ok-turned.ensures.many ∙ c.requires.same);
      first = c.constant-one.ensures.stands;
    }

pub returns-clause-word : goal.returns-clause-word
returns-clause-word c =
    let whole : (bits : List Bool) → number bits c.args.aig.now c.deref.result.now + number bits c.args.aig.now c.args.ys.now + 1 ≡ 2 ^ length c.args.ys.now =
    λ bits. ap (λ (es : List Edge). number bits c.args.aig.now es + number bits c.args.aig.now c.args.ys.now + 1) c.deref.ensures.value ∙ c.in_ok-turned.ensures.value bits c.args.aig.now in
    if_each c.sum.result _ _ (λ p made. borrows c.sum.new.aig p.0.items p.1 c.constant-one.result (length c.args.xs.now) c.args.xs.now c.args.ys.now c.deref.result.now c.args.aig.now c.requires.same whole c.constant-one.ensures made) c.sum.ensures.word
