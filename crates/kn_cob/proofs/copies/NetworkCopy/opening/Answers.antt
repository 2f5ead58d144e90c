use Rattle.std.proofs.Common.{◌≡◌, ◌+◌, [], ◌∷◌, length, map, sym, ap, subst, ◌∙◌, arith, ℕ}
use Rattle.std.specs.Arc.{arc_value}
use Rattle.std.proofs.lemmas.List.{map-append, length-map, length-append}
use Rattle.kn_cob.specs.Closing.{IsStart}
use Rattle.kn_cob.proofs.Opening.{one_more}
use Rattle.kn_cob.proofs.copies.NetworkCopy.opening.Goals as goal

pub loop-node-preserved : goal.loop-node-preserved
loop-node-preserved c =
    let net = c.args.net.now.network in
    let before = map arc_value c.loop-node.nodes.items in
    let x = arc_value c.in_ok-new.field-0 in
    let long : length before ≡ c.loop-node.node = length-map c.loop-node.nodes.items arc_value ∙ c.loop-node.invariant.count in
    let count : c.loop-node.node ≡ 0 + length before = omega (arith, long) in
    let start : IsStart net c.loop-node.node x = subst (IsStart net c.loop-node.node) (sym c.in_ok-new.ensures.ok) (record { opened = c.in_ok-opening.ensures.opened; nothing = c.in_ok-opening.ensures.empty }) in
    record {
      count = ap length c.in_ok-push.ensures.items ∙ (length-append c.loop-node.nodes.items (c.in_ok-new.field-0 ∷ []) ∙ ap (λ (n : ℕ). n + 1) c.loop-node.invariant.count);
      starts = rw (c.in_ok-push.ensures.items, map-append) (one_more net 0 before x c.loop-node.invariant.starts (subst (λ (n : ℕ). IsStart net n x) count start));
    }
