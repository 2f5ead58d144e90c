use Rattle.std.proofs.Common.{◌++◌, List, sym, subst, ◌∙◌}
use Rattle.kn_model.specs.Terms.{terms}
use Rattle.kn_model.specs.Scenarios.{settled}
use Rattle.kn_cob.specs.Nodes.{NodeView}
use Rattle.kn_cob.specs.Copies.{AreCopies}
use Rattle.kn_cob.proofs.Given.{copies_append}
use Rattle.kn_cob.proofs.Turning.{node_inside, idle, idle_settled, kept_idle}
use Rattle.kn_cob.proofs.exploring.settle.Goals as goal

pub is_due-requires : goal.is_due-requires
is_due-requires g c = node_inside c.args.net.now.network c.args.place.tick c.args.place.node c.args.copy c.requires.settling.scenario c.requires.node c.requires.settling.of

pub returns-then-not-is_due-clause-given : goal.returns-then-not-is_due-clause-given
returns-then-not-is_due-clause-given g c s before is so_far =
    let net = c.args.net.now.network in
    let t = c.args.place.tick in
    let n = c.args.place.node in
    let none = idle net t n c.args.copy s c.requires.tick c.requires.node is (sym c.is_due.ensures ∙ c.if-not-is_due.true) in
    subst (λ (l : List (List NodeView)). AreCopies net t l (before ++ settled terms net t n s)) (sym c.in_ok-push.ensures) (kept_idle net t n c.args.copy s c.args.out.now.items before (settled terms net t n s) (idle_settled net t n s none) is so_far)

pub returns-clause-given : goal.returns-clause-given
returns-clause-given g c s before is so_far =
    let net = c.args.net.now.network in
    let t = c.args.place.tick in
    let n = c.args.place.node in
    subst (λ (l : List (List NodeView)). AreCopies net t l (before ++ settled terms net t n s)) (sym c.in_ok-append.ensures.items)
    (copies_append net t c.args.out.now.items c.in_ok-settled.settled.items before (settled terms net t n s) so_far (c.in_ok-settled.ensures.given s is))
