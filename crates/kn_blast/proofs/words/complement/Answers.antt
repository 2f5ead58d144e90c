-- One more bit.
use Rattle.std.proofs.Common.{◌≡◌, sym, subst, List, ◌+◌, ◌^◌, take, length, length-append, []}
use Rattle.std.proofs.Common.{ap, arith, ◌∷◌}
use Rattle.kn_aig.specs.declared.gates.Edge.{Edge}
use Rattle.kn_blast.specs.Spelling.{AllStand, number}
use Rattle.kn_blast.proofs.Growing.{turned_stands}
use Rattle.kn_blast.proofs.Numbers.{AllStand-push, AllStand-at}
use Rattle.kn_blast.proofs.Steps.{turned_more}
use Rattle.kn_blast.proofs.words.complement.Goals as goal

pub loop-i-preserved : goal.loop-i-preserved
loop-i-preserved c =
    let items = c.in_ok-push.ensures.items in
    let e = c.negated.result in
    record {
      stand = λ ns all. subst (AllStand ns) (sym items) (AllStand-push ns c.loop-i.word.items e (c.loop-i.invariant.stand ns all) (turned_stands ns _ e c.negated.ensures (AllStand-at ns c.args.xs.now c.loop-i.i _ all c.loop-i-test.true)));
      many = omega (arith, ap length items, length-append c.loop-i.word.items (e ∷ []), c.loop-i.invariant.many);
      value = λ bits ns. subst (λ (es : List Edge). number bits ns es + number bits ns (take (c.loop-i.i + 1) c.args.xs.now) + 1 ≡ 2 ^ (c.loop-i.i + 1)) (sym items)
          (turned_more bits ns c.args.xs.now c.loop-i.word.items c.loop-i.i _ e c.loop-i-test.true c.loop-i.invariant.many c.negated.ensures (c.loop-i.invariant.value bits ns));
    }
