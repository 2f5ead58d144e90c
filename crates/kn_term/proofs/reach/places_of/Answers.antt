-- One more root.
use Rattle.std.proofs.Common.{◌↔◌, List, take, get_or, subst}
use Rattle.std.proofs.lemmas.List.{take_more, take_all}
use Rattle.kn_term.specs.declared.node.Ref.{Ref}
use Rattle.kn_term.specs.Reached.{IsRootAt, IsIn}
use Rattle.kn_term.proofs.Reaching.{root_more, no_roots}
use Rattle.kn_term.proofs.reach.places_of.Goals as goal

pub loop-root-init : goal.loop-root-init
loop-root-init c = no_roots c.new-places.result c.new-places.ensures.empty

pub loop-root-preserved : goal.loop-root-preserved
loop-root-preserved c =
    let d : Ref = record { index = 0 } in
    root_more c.loop-root.places _ (take c.loop-root.root-index c.args.roots.now) _ (get_or c.args.roots.now c.loop-root.root-index d) c.loop-root.invariant c.in_ok-put_place.ensures (take_more c.args.roots.now c.loop-root.root-index d c.loop-root-test.true)

pub returns : goal.returns
returns c = λ k. subst (λ (rs : List Ref). IsIn c.loop-root.places k ↔ IsRootAt rs k) (take_all c.loop-root.root-index c.args.roots.now c.loop-root-test.false) (c.loop-root.invariant k)
