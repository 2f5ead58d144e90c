-- The scenario of the nodes so far, and what is due of it.
use Rattle.std.proofs.Common.{◌≡◌, Some, None, sym, subst, ◌∙◌, arith}
use Rattle.kn_replay.proofs.Posting.{in_network, many_nodes}
use Rattle.kn_replay.proofs.Turning.{IsTurning, one_turn, turn_falls, all_turned}
use Rattle.kn_replay.proofs.replaying.settle.Goals as goal

pub next_event-requires : goal.next_event-requires
next_event-requires c =
    let h = c.loop-event.invariant c.requires.nodes.scenario c.requires.nodes.of in
    let long = many_nodes c.args.net.now.network c.loop-event.nodes h.scenario h.nodes in
    omega (arith, long, c.requires.node)

pub turn-requires-clause-inside : goal.turn-requires-clause-inside
turn-requires-clause-inside c =
    let h = c.loop-event.invariant c.requires.nodes.scenario c.requires.nodes.of in
    let long = many_nodes c.args.net.now.network c.loop-event.nodes h.scenario h.nodes in
    omega (arith, long, c.requires.node)

pub turn-requires-clause-few : goal.turn-requires-clause-few
turn-requires-clause-few c =
    let h = c.loop-event.invariant c.requires.nodes.scenario c.requires.nodes.of in
    let long = many_nodes c.args.net.now.network c.loop-event.nodes h.scenario h.nodes in
    omega (arith, long, c.requires.few)

pub turn-requires-clause-node : goal.turn-requires-clause-node
turn-requires-clause-node c =
    let h = c.loop-event.invariant c.requires.nodes.scenario c.requires.nodes.of in
    let same = (in_network c.args.inputs.now c.args.net.now.network c.args.place.node c.loop-event.nodes h.scenario c.requires.node h.nodes).of_node in
    omega (arith, same, c.requires.node)

pub turn-requires-clause-due : goal.turn-requires-clause-due
turn-requires-clause-due c none =
    let wrong : Some c.in-Some.event ≡ None = sym c.in-Some.is ∙ (c.next_event.ensures ∙ none) in
    absurd cc

pub loop-event-smaller : goal.loop-event-smaller
loop-event-smaller c =
    let h = c.loop-event.invariant c.requires.nodes.scenario c.requires.nodes.of in
    turn_falls c.args.net.now.network c.args.inputs.now c.args.place.tick c.args.place.node c.requires.sound c.requires.node c.loop-event.nodes c.turn.new.nodes h.scenario c.in-Some.event c.in_ok-bits.bits h.nodes (sym c.next_event.ensures ∙ c.in-Some.is) c.in_ok-bits.ensures

pub loop-event-preserved : goal.loop-event-preserved
loop-event-preserved c s is =
    let net = c.args.net.now.network in
    let a = c.args.inputs.now in
    let t = c.args.place.tick in
    let n = c.args.place.node in
    let before = c.args.events.now.items in
    subst (IsTurning net a t n s c.turn.new.nodes before) (sym c.in_ok-push.ensures.items)
    (one_turn net a t n c.requires.sound c.requires.node s c.loop-event.nodes c.turn.new.nodes before c.loop-event.events.items c.in-Some.event c.in_ok-bits.bits (c.loop-event.invariant s is) (sym c.next_event.ensures ∙ c.in-Some.is) c.in_ok-bits.ensures)

pub returns : goal.returns
returns c s is =
    all_turned c.args.net.now.network c.args.inputs.now c.args.place.tick c.args.place.node c.requires.sound c.requires.node s c.loop-event.nodes c.args.events.now.items c.loop-event.events.items (c.loop-event.invariant s is) (sym c.next_event.ensures ∙ c.in_default.is)
