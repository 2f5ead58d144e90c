-- Neither is anything due in the next one.
use Rattle.std.proofs.Common.{◌<◌, ◌++◌, [], ◌∷◌, take, arith, ap, sym, subst, ◌∙◌}
use Rattle.std.specs.List.{AllByRecursion}
use Rattle.std.proofs.lemmas.List.{take_more, take_all}
use Rattle.kn_model.proofs.Lists.{all-append}
use Rattle.kn_cob.specs.Ticks.{IsIdle}
use Rattle.kn_cob.proofs.exploring.quiet_until.Goals as goal

pub loop-copy-preserved : goal.loop-copy-preserved
loop-copy-preserved c = λ tick after less.
    let list = c.args.list.now in
    let i = c.loop-copy.copy-index in
    let x = c.copy-item.result in
    let so_far : tick < c.loop-copy.until = omega (arith, less, c.min-until.ensures) in
    let here : tick < c.quiet_until.result = omega (arith, less, c.min-until.ensures) in
    subst (AllByRecursion (IsIdle tick)) (sym (take_more list i x c.loop-copy-test.true ∙ ap (λ y. take i list ++ y ∷ []) (sym c.copy-item.is)))
    (all-append (IsIdle tick) (take i list) (x ∷ []) (c.loop-copy.invariant tick after so_far) (c.quiet_until.ensures tick after here, tt))

pub returns : goal.returns
returns c = λ tick after less.
    subst (AllByRecursion (IsIdle tick)) (take_all c.loop-copy.copy-index c.args.list.now c.loop-copy-test.false) (c.loop-copy.invariant tick after less)
