-- The Ref's own node is among those that it reaches, and where its term stands, all their terms stand.
use Rattle.std.proofs.Common.{◌++◌, List, ℕ, refl, ap, sym, subst}
use Rattle.kn_term.specs.declared.node.Ref.{Ref}
use Rattle.kn_term.specs.Reached.{Root, IsAmong}
use Rattle.kn_term.specs.Blocks.{front, HasAt}
use Rattle.kn_term.proofs.Bringing.{has_reached}
use Rattle.kn_term.proofs.bring.bring.Goals as goal

own : (c : goal.After-drop-reached-2) → HasAt (front c.args.blocks.now ++ c.bring_all.new.tail) c.args.other.now c.place_in.result.index c.args.r.index
own c =
    let r = c.args.r.index in
    let among : IsAmong c.deref.result.now r = subst (λ (l : List ℕ). IsAmong l r) (sym c.deref.ensures.value) ((c.in_ok-reached.ensures.exact r).1 (Root r (0, refl))) in
    subst (λ (q : ℕ). HasAt (front c.args.blocks.now ++ c.bring_all.new.tail) c.args.other.now q r) (sym (ap (λ (s : Ref). s.index) c.place_in.ensures)) (c.in_ok-places.ensures.brought r among)

pub returns-clause-term : goal.returns-clause-term
returns-clause-term c = (own c).1

pub returns-clause-within : goal.returns-clause-within
returns-clause-within c = (own c).0

pub returns-clause-known : goal.returns-clause-known
returns-clause-known c = λ has. c.in_ok-places.ensures.known (λ k among.
    has_reached (front c.args.blocks.now ++ c.args.tail.now) c.args.other.now c.args.r k c.requires.stands.ordered c.order.ensures.order has ((c.in_ok-reached.ensures.exact k).0 (subst (λ (l : List ℕ). IsAmong l k) c.deref.ensures.value among)))
