-- One more node is found or put.
use Rattle.std.proofs.Common.{◌≡◌, ◌++◌, ℕ, length, take, get_or, Some, sym, subst}
use Rattle.std.specs.Prelude.{slice_get}
use Rattle.std.proofs.lemmas.List.{take_more, take_all}
use Rattle.std.proofs.lemmas.Option.{slice_get-get_or}
use Rattle.kn_term.specs.Nodes.{IsNodeAt}
use Rattle.kn_term.specs.Reached.{IsAmong, IsOperand}
use Rattle.kn_term.specs.Blocks.{front, new_place, Has, HasAt, AreBrought}
use Rattle.kn_term.proofs.Bringing.{fits_renamed, Step, stepped, AreBrought-kept, AreBrought-more}
use Rattle.kn_term.proofs.Reaching.{among_at}
use Rattle.kn_term.proofs.bring.bring_all.Goals as goal

here : (c : goal.After-put-arg-1) → slice_get c.args.reached.now c.loop-place.place-index ≡ Some (get_or c.args.reached.now c.loop-place.place-index 0)
here c = slice_get-get_or c.args.reached.now c.loop-place.place-index 0 c.loop-place-test.true

ready : (c : goal.After-put-arg-1) → (k : ℕ) → IsOperand c.node.result k → HasAt (front c.args.blocks.now ++ c.loop-place.tail) c.args.other.now (new_place c.loop-place.places k) k
ready c k op = c.loop-place.invariant.brought k ((c.requires.order c.loop-place.place-index _ (here c)).1 c.node.result c.node.ensures.is k op)

pub put-requires-clause-node : goal.put-requires-clause-node
put-requires-clause-node c =
    subst (IsNodeAt (length (front c.args.blocks.now ++ c.loop-place.tail))) (sym c.renamed_node-node.ensures)
    (fits_renamed c.args.other.now (front c.args.blocks.now ++ c.loop-place.tail) (new_place c.loop-place.places) _ c.node.result (ready c) c.node.ensures.stands)

pub loop-place-preserved : goal.loop-place-preserved
loop-place-preserved c =
    let blocks = front c.args.blocks.now in
    let other = c.args.other.now in
    let place = get_or c.args.reached.now c.loop-place.place-index 0 in
    let each = (k : ℕ) → IsAmong c.args.reached.now k → Has (blocks ++ c.args.tail.now) other k in
    let at_place = slice_get-get_or c.args.reached.now c.loop-place.place-index 0 c.loop-place-test.true in
    let ready = λ (k : ℕ) (op : IsOperand c.node.result k). c.loop-place.invariant.brought k ((c.requires.order c.loop-place.place-index place at_place).1 c.node.result c.node.ensures.is k op) in
    let step : Step other blocks c.args.tail.now c.loop-place.tail c.put.new.tail c.args.before place c.in_ok-at.at each = stepped other blocks c.args.tail.now c.loop-place.tail c.put.new.tail c.args.before place c.in_ok-at.at each (new_place c.loop-place.places) c.node.result c.renamed_node-node.result ready (λ all. all place (among_at c.args.reached.now c.loop-place.place-index place at_place))
    c.node.ensures.stands c.node.ensures.is c.renamed_node-node.ensures c.loop-place.invariant.stands c.put.ensures.stands c.loop-place.invariant.grows c.loop-place.invariant.known c.put.ensures.known c.put.ensures.grows c.in_ok-at.ensures.place in
    record {
      stands = c.put.ensures.stands;
      grows = step.grows;
      known = step.known;
      brought = AreBrought-more other (blocks ++ c.put.new.tail) c.loop-place.places c.insert.new.self (take c.loop-place.place-index c.args.reached.now) _ place c.in_ok-at.at
          (AreBrought-kept other (blocks ++ c.loop-place.tail) (blocks ++ c.put.new.tail) (new_place c.loop-place.places) (take c.loop-place.place-index c.args.reached.now) step.more c.loop-place.invariant.brought)
          (take_more c.args.reached.now c.loop-place.place-index 0 c.loop-place-test.true) c.in_ok-insert.ensures.updates.0 step.here;
    }

pub returns-clause-brought : goal.returns-clause-brought
returns-clause-brought c = subst (AreBrought c.args.other.now (front c.args.blocks.now ++ c.loop-place.tail) (new_place c.loop-place.places)) (take_all c.loop-place.place-index c.args.reached.now c.loop-place-test.false) c.loop-place.invariant.brought
