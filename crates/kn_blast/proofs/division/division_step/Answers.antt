-- The difference tells whether the divisor is reached.
use Rattle.std.proofs.Common.{◌≡◌, ◌∙◌, ap, sym, subst, arith, length, take, List}
use Rattle.std.proofs.lemmas.List.{length-take-le}
use Rattle.kn_aig.specs.declared.gates.Edge.{Edge}
use Rattle.kn_blast.specs.Spelling.{AllStand}
use Rattle.kn_blast.proofs.Numbers.{AllStand-first, AllStand-kept}
use Rattle.kn_blast.proofs.Moving.{AllStand-take}
use Rattle.kn_blast.proofs.Dividing.{long_wide, long_less, step_reaches, step_left}
use Rattle.kn_blast.proofs.division.division_step.Goals as goal

low : (es seen : List Edge) → seen ≡ es → length es ≡ 17 → length (take 16 seen) ≡ 16
low es seen is long = ap (λ (l : List Edge). length (take 16 l)) is ∙ length-take-le 16 es (omega (arith, long))

pub choice-requires-clause-x : goal.choice-requires-clause-x
choice-requires-clause-x c = AllStand-take c.difference.new.aig c.deref-3.result.now 16 (subst (AllStand c.difference.new.aig) (sym c.deref-3.ensures.value) c.in_ok-less.ensures.word.stand)

pub choice-requires-clause-y : goal.choice-requires-clause-y
choice-requires-clause-y c =
    let all : AllStand c.args.aig.now c.in_ok-wide.wide.items = subst (AllStand c.args.aig.now) (sym c.in_ok-wide.ensures) (AllStand-first c.args.aig.now c.args.bit c.args.rest.now c.requires.bit c.requires.rest) in
    AllStand-take c.difference.new.aig c.deref-4.result.now 16 (subst (AllStand c.difference.new.aig) (sym c.deref-4.ensures.value) (AllStand-kept c.args.aig.now c.difference.new.aig c.in_ok-wide.wide.items c.in_ok-less.ensures.grows all))

pub choice-requires-clause-same : goal.choice-requires-clause-same
choice-requires-clause-same c =
    let long = long_wide c.args.aig.now c.difference.new.aig c.args.bit c.constant-zero.result c.in_ok-less.reaches c.args.rest.now c.args.ys.now c.in_ok-wide.wide.items c.in_ok-divisor.divisor.items c.deref.result.now c.deref-2.result.now c.in_ok-less.less.items c.requires.many c.requires.same c.in_ok-wide.ensures c.in_ok-divisor.ensures c.deref.ensures.value c.deref-2.ensures.value c.constant-zero.ensures c.in_ok-less.ensures.word in
    let short = long_less c.args.aig.now c.difference.new.aig c.args.bit c.constant-zero.result c.in_ok-less.reaches c.args.rest.now c.args.ys.now c.in_ok-wide.wide.items c.in_ok-divisor.divisor.items c.deref.result.now c.deref-2.result.now c.in_ok-less.less.items c.requires.many c.requires.same c.in_ok-wide.ensures c.in_ok-divisor.ensures c.deref.ensures.value c.deref-2.ensures.value c.constant-zero.ensures c.in_ok-less.ensures.word in
    low c.in_ok-wide.wide.items c.deref-4.result.now c.deref-4.ensures.value long ∙ sym (low c.in_ok-less.less.items c.deref-3.result.now c.deref-3.ensures.value short)

pub returns-clause-reaches : goal.returns-clause-reaches
returns-clause-reaches c = step_reaches c.args.aig.now c.difference.new.aig c.args.bit c.constant-zero.result c.in_ok-less.reaches c.args.rest.now c.args.ys.now c.in_ok-wide.wide.items c.in_ok-divisor.divisor.items c.deref.result.now c.deref-2.result.now c.in_ok-less.less.items c.requires.many c.requires.same c.in_ok-wide.ensures c.in_ok-divisor.ensures c.deref.ensures.value c.deref-2.ensures.value c.constant-zero.ensures c.in_ok-less.ensures.word c.choice.new.aig c.in_ok-next.ensures.grows

pub returns-clause-left : goal.returns-clause-left
returns-clause-left c =
    let all : AllStand c.args.aig.now c.in_ok-wide.wide.items = subst (AllStand c.args.aig.now) (sym c.in_ok-wide.ensures) (AllStand-first c.args.aig.now c.args.bit c.args.rest.now c.requires.bit c.requires.rest) in
    let short = long_less c.args.aig.now c.difference.new.aig c.args.bit c.constant-zero.result c.in_ok-less.reaches c.args.rest.now c.args.ys.now c.in_ok-wide.wide.items c.in_ok-divisor.divisor.items c.deref.result.now c.deref-2.result.now c.in_ok-less.less.items c.requires.many c.requires.same c.in_ok-wide.ensures c.in_ok-divisor.ensures c.deref.ensures.value c.deref-2.ensures.value c.constant-zero.ensures c.in_ok-less.ensures.word in
    step_left c.args.aig.now c.difference.new.aig c.args.bit c.constant-zero.result c.in_ok-less.reaches c.args.rest.now c.args.ys.now c.in_ok-wide.wide.items c.in_ok-divisor.divisor.items c.deref.result.now c.deref-2.result.now c.in_ok-less.less.items c.requires.many c.requires.same c.in_ok-wide.ensures c.in_ok-divisor.ensures c.deref.ensures.value c.deref-2.ensures.value c.constant-zero.ensures c.in_ok-less.ensures.word
    c.choice.new.aig c.in_ok-next.next.items c.deref-3.result.now c.deref-4.result.now _ c.in_ok-less.ensures.grows all c.deref-3.ensures.value c.deref-4.ensures.value (low c.in_ok-less.less.items c.deref-3.result.now c.deref-3.ensures.value short) c.in_ok-next.ensures.word
