use Rattle.std.proofs.Common.{◌+◌, ◌++◌, ◌∷◌, [], List, sym, subst}
use Rattle.std.specs.List.{AllByRecursion}
use Rattle.kn_model.specs.Scenarios.{close}
use Rattle.kn_model.proofs.Lists.{all-append}
use Rattle.kn_cob.specs.Nodes.{NodeView}
use Rattle.kn_cob.specs.Copies.{AreCopies}
use Rattle.kn_cob.specs.Closing.{AreShut, OnShut}
use Rattle.kn_cob.proofs.Idle.{same_closed}
use Rattle.kn_cob.proofs.Turning.{put_closed, put_lost, shut_nodes}
use Rattle.kn_cob.proofs.exploring.put_shut.Goals as goal

pub returns-clause-given : goal.returns-clause-given
returns-clause-given c t s before is so_far =
    let net = c.args.net.now.network in
    let closed = subst (OnShut net c.args.copy) c.in-Some.is c.in_ok-shut.ensures in
    subst (λ (l : List (List NodeView)). AreCopies net (t + 1) l (before ++ close s ∷ [])) (sym c.in_ok-push-2.ensures.items) (put_closed net t c.args.copy c.in-Some.shut s c.args.out.now.items before closed is so_far)

pub returns-clause-shut : goal.returns-clause-shut
returns-clause-shut c shut =
    let net = c.args.net.now.network in
    let closed = subst (OnShut net c.args.copy) c.in-Some.is c.in_ok-shut.ensures in
    subst (AllByRecursion AreShut) (sym c.in_ok-push-2.ensures.items) (all-append AreShut c.args.out.now.items (c.in-Some.shut ∷ []) shut (shut_nodes net c.args.copy c.in-Some.shut closed, tt))

pub returns-in_default-clause-given : goal.returns-in_default-clause-given
returns-in_default-clause-given c t s before is so_far =
    let net = c.args.net.now.network in
    put_lost net t c.args.copy s c.args.out.now.items before (subst (OnShut net c.args.copy) c.in_default.is c.in_ok-shut.ensures) is so_far

pub returns-then-is_shut-clause-given : goal.returns-then-is_shut-clause-given
returns-then-is_shut-clause-given c t s before is so_far =
    let net = c.args.net.now.network in
    let shut = c.is_shut.ensures c.if-is_shut.true in
    subst (λ (l : List (List NodeView)). AreCopies net (t + 1) l (before ++ close s ∷ [])) (sym c.in_ok-push.ensures.items) (put_closed net t c.args.copy c.args.copy s c.args.out.now.items before (same_closed net c.args.copy shut) is so_far)

pub returns-then-is_shut-clause-shut : goal.returns-then-is_shut-clause-shut
returns-then-is_shut-clause-shut c are =
    let shut = c.is_shut.ensures c.if-is_shut.true in
    subst (AllByRecursion AreShut) (sym c.in_ok-push.ensures.items) (all-append AreShut c.args.out.now.items (c.args.copy ∷ []) are (shut, tt))
