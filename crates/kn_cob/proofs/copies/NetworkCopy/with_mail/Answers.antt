use Rattle.std.proofs.Common.{◌≡◌, ◌++◌, ◌+◌, [], ◌∷◌, List, length, map, get_or, drop, ap, sym, ◌∙◌, ◌<◌}
use Rattle.std.proofs.lemmas.List.{map-append, length-map, drop_all, append-nil}
use Rattle.std.specs.Arc.{arc_value}
use Rattle.kn_model.proofs.Under.{get_or_map}
use Rattle.kn_cob.specs.Nodes.{NodeView}
use Rattle.kn_cob.specs.Copies.{mailed, sent_to}
use Rattle.kn_cob.proofs.Mailing.{mailed_more}
use Rattle.kn_cob.proofs.copies.NetworkCopy.with_mail.Goals as goal

pub loop-node-preserved : goal.loop-node-preserved
loop-node-preserved c =
    let xs = c.args.self.now in
    let items = c.self.inside.nodes.items in
    let inside : c.loop-node.node < length xs = rw (← c.self.view_is, length-map) (rw c.deref-now-items.ensures.value at c.loop-node-test.true) in
    let this : arc_value c.now-item.result ≡ get_or xs c.loop-node.node (arc_value c.now-item.result) =
    ap arc_value (c.now-item.is ∙ ap (λ l. get_or l c.loop-node.node c.now-item.result) c.deref-now-items.ensures.value)
    ∙ sym (get_or_map arc_value items c.loop-node.node c.now-item.result)
    ∙ ap (λ (l : List NodeView). get_or l c.loop-node.node (arc_value c.now-item.result)) c.self.view_is in
    let is : arc_value c.in_ok-mailed_node.field-0 ≡ sent_to c.loop-node.node c.args.sends.now (get_or xs c.loop-node.node (arc_value c.now-item.result)) = c.in_ok-mailed_node.ensures ∙ ap (sent_to c.loop-node.node c.args.sends.now) this in
    let pushed : map arc_value c.push.new.self.items ≡ map arc_value c.loop-node.nodes.items ++ arc_value c.in_ok-mailed_node.field-0 ∷ [] = ap (map arc_value) c.in_ok-push.ensures.items ∙ map-append arc_value c.loop-node.nodes.items (c.in_ok-mailed_node.field-0 ∷ []) in
    ap (λ (l : List NodeView). l ++ mailed (c.loop-node.node + 1) c.args.sends.now (drop (c.loop-node.node + 1) xs)) pushed
    ∙ mailed_more c.args.sends.now xs (map arc_value c.loop-node.nodes.items) _ c.loop-node.node (arc_value c.now-item.result) (arc_value c.in_ok-mailed_node.field-0) inside is c.loop-node.invariant

pub returns : goal.returns
returns c =
    let past = drop_all c.loop-node.node c.args.self.now (rw (← c.self.view_is, length-map) (rw c.deref-now-items.ensures.value at c.loop-node-test.false)) in
    sym (append-nil (map arc_value c.loop-node.nodes.items)) ∙ sym (ap (λ (l : List NodeView). map arc_value c.loop-node.nodes.items ++ mailed c.loop-node.node c.args.sends.now l) past) ∙ c.loop-node.invariant
