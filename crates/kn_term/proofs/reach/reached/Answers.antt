-- The greatest place ahead is found.
use Rattle.std.proofs.Common.{◌≡◌, ◌<◌, ◌∷◌, ◌∙◌, ◌↔◌, [], List, ℕ, length, reverse, ap, sym, subst}
use Rattle.std.proofs.lemmas.List.{reverse-append}
use Rattle.kn_term.specs.Reached.{AreRising, AreInOrder, IsAmong, IsReached}
use Rattle.kn_term.proofs.Reaching.{Reaching, lowest, begun, taken, reached_within, Reaching-more, all_reached, none_left, in_order}
use Rattle.kn_term.proofs.reach.reached.Goals as goal

pub node-requires : goal.node-requires
node-requires c = reached_within c.args.terms.now c.args.roots.now c.in-Some.place c.order.ensures.order c.requires (c.loop-place.invariant.coming c.in-Some.place c.in-Some.ensures.member)

pub loop-place-init : goal.loop-place-init
loop-place-init c = subst (λ (l : List ℕ). Reaching c.args.terms.now c.args.roots.now (reverse l) c.in_ok-ahead.ahead) (sym c.new-places.ensures.items) (begun c.args.terms.now c.args.roots.now c.in_ok-ahead.ahead c.requires c.in_ok-ahead.ensures)

front : (c : goal.In_ok-push) → reverse c.push.new.self.items ≡ c.in-Some.place ∷ reverse c.loop-place.places.items
front c = ap reverse c.in_ok-push.ensures.items ∙ reverse-append c.loop-place.places.items (c.in-Some.place ∷ [])

pub loop-place-smaller : goal.loop-place-smaller
loop-place-smaller c =
    subst (λ (l : List ℕ). lowest (length c.args.terms.now) l < lowest (length c.args.terms.now) (reverse c.loop-place.places.items)) (sym (front c)) (c.loop-place.invariant.below c.in-Some.place c.in-Some.ensures.member)

pub loop-place-preserved : goal.loop-place-preserved
loop-place-preserved c =
    let place = c.in-Some.place in
    let gone = taken c.loop-place.ahead c.pop_last.new.self place c.in-Some.ensures.member c.in-Some.ensures.greatest c.in-Some.ensures.updates in
    Reaching-more c.args.terms.now c.args.roots.now (reverse c.loop-place.places.items) _ c.loop-place.ahead c.pop_last.new.self _ place c.node.result c.loop-place.invariant gone c.in_ok-put_operands.ensures c.node.ensures.is c.node.ensures.stands (front c)

pub returns-clause-exact : goal.returns-clause-exact
returns-clause-exact c = λ place.
    subst (λ (l : List ℕ). IsAmong l place ↔ IsReached c.args.terms.now c.args.roots.now place) (sym c.reverse.ensures.items)
    (all_reached c.args.terms.now c.args.roots.now (reverse c.loop-place.places.items) c.loop-place.ahead c.loop-place.invariant (none_left c.loop-place.ahead c.in_default.ensures.variant.1) place)

pub returns-clause-rising : goal.returns-clause-rising
returns-clause-rising c = subst AreRising (sym c.reverse.ensures.items) c.loop-place.invariant.rising

pub returns-clause-order : goal.returns-clause-order
returns-clause-order c =
    let found = reverse c.loop-place.places.items in
    subst (AreInOrder c.args.terms.now) (sym c.reverse.ensures.items)
    (in_order c.args.terms.now c.args.roots.now found c.order.ensures.order c.requires c.loop-place.invariant.rising
    (all_reached c.args.terms.now c.args.roots.now found c.loop-place.ahead c.loop-place.invariant (none_left c.loop-place.ahead c.in_default.ensures.variant.1)))
