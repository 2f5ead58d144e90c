-- Neither is anything due of the next one.
use Rattle.std.proofs.Common.{◌≡◌, ◌<◌, ◌++◌, [], ◌∷◌, None, map, take, arith, ap, sym, subst, ◌∙◌}
use Rattle.std.specs.Arc.{arc_value}
use Rattle.std.proofs.lemmas.List.{take_more, take_all, map-append}
use Rattle.kn_node.specs.Due as kept
use Rattle.kn_node.specs.Views.{ConfigView}
use Rattle.kn_model.proofs.Lists.{all-append}
use Rattle.kn_cob.specs.Nodes.{NodeView}
use Rattle.kn_cob.specs.Ticks.{IsIdle}
use Rattle.kn_cob.proofs.copies.NetworkCopy.quiet_until.Goals as goal

pub loop-now-preserved : goal.loop-now-preserved
loop-now-preserved c = λ tick after less.
    let items = c.deref-now-items.result.now in
    let i = c.loop-now.now-index in
    let x = c.now-item.result in
    let so_far : tick < c.loop-now.until = omega (arith, less, c.min-until.ensures) in
    let here : tick < c.quiet_until.result = omega (arith, less, c.min-until.ensures) in
    let behind : c.deref-in-loop-now.result.now ≡ (arc_value x).config = c.deref-in-loop-now.ensures ∙ ap (λ (y : NodeView). y.config) (c.behind-now.view_is ∙ c.deref.ensures) in
    let none : kept.due tick (arc_value x).config.machine ≡ None = subst (λ (d : ConfigView). kept.due tick d.machine ≡ None) behind (c.quiet_until.ensures tick after here) in
    subst (λ l. IsIdle tick (map arc_value l)) (sym (take_more items i x c.loop-now-test.true ∙ ap (λ y. take i items ++ y ∷ []) (sym c.now-item.is)))
    (rw (map-append) (all-append (λ (y : NodeView). kept.due tick y.config.machine ≡ None) (map arc_value (take i items)) (arc_value x ∷ []) (c.loop-now.invariant tick after so_far) (none, tt)))

pub returns : goal.returns
returns c = λ tick after less.
    let items = c.deref-now-items.result.now in
    let all = take_all c.loop-now.now-index items c.loop-now-test.false in
    subst (IsIdle tick) (ap (map arc_value) (all ∙ c.deref-now-items.ensures.value) ∙ c.self.view_is) (c.loop-now.invariant tick after less)
