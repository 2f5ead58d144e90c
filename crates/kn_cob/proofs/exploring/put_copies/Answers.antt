use Rattle.std.proofs.Common.{◌++◌, List, sym, subst, ◌∙◌, arith, rules}
use Rattle.std.specs.Prelude.{IfErr}
use Rattle.kn_model.specs.Terms.{terms}
use Rattle.kn_model.specs.Scenarios.{copies}
use Rattle.kn_cob.specs.Nodes.{NodeView}
use Rattle.kn_cob.specs.Copies.{AreCopies, node_in}
use Rattle.kn_cob.specs.Ticks.{StopsIn, StopsAt}
use Rattle.kn_cob.proofs.Paths.{ready}
use Rattle.kn_cob.proofs.Turning.{many_nodes, node_inside, err_weaker, idle, idle_copies, kept_idle, busy, stops_over, kept_along}
use Rattle.kn_cob.proofs.exploring.put_copies.Goals as goal

pub is_due-requires : goal.is_due-requires
is_due-requires g c = node_inside c.args.net.now.network c.args.place.tick c.args.place.node c.args.copy c.requires.met.scenario c.requires.node c.requires.met.of

pub returns-then-not-is_due-clause-given : goal.returns-then-not-is_due-clause-given
returns-then-not-is_due-clause-given g c s before is so_far =
    let net = c.args.net.now.network in
    let t = c.args.place.tick in
    let n = c.args.place.node in
    let none = idle net t n c.args.copy s c.requires.tick c.requires.node is (sym c.is_due.ensures ∙ c.if-not-is_due.true) in
    subst (λ (l : List (List NodeView)). AreCopies net t l (before ++ copies terms net n t s)) (sym c.in_ok-push.ensures) (kept_idle net t n c.args.copy s c.args.out.now.items before (copies terms net n t s) (idle_copies net t n s none) is so_far)

pub paths_of-requires-clause-inside : goal.paths_of-requires-clause-inside
paths_of-requires-clause-inside g c = node_inside c.args.net.now.network c.args.place.tick c.args.place.node c.args.copy c.requires.met.scenario c.requires.node c.requires.met.of

pub paths_of-requires-clause-ready : goal.paths_of-requires-clause-ready
paths_of-requires-clause-ready g c = ready c.args.net.now.network c.args.place.tick c.args.place.node c.args.copy c.requires.met.scenario c.requires.tick c.requires.node c.requires.met.of

pub paths_of-requires-clause-due : goal.paths_of-requires-clause-due
paths_of-requires-clause-due g c = busy c.args.net.now.network c.args.place.tick c.args.place.node c.args.copy c.requires.tick (sym c.is_due.ensures ∙ c.if-not-is_due.false)

pub returns-in_err-paths-clause-stop : goal.returns-in_err-paths-clause-stop
returns-in_err-paths-clause-stop g c =
    let net = c.args.net.now.network in
    let t = c.args.place.tick in
    let n = c.args.place.node in
    let so : IfErr c.paths_of.result (StopsAt net t) =
    err_weaker c.paths_of.result (StopsIn net t (node_in c.args.copy n).config) (StopsAt net t) (stops_over net t n c.args.copy c.requires.sound c.requires.met) c.paths_of.ensures.stop in
    search rules

pub put_along-requires-clause-node : goal.put_along-requires-clause-node
put_along-requires-clause-node g c = node_inside c.args.net.now.network c.args.place.tick c.args.place.node c.args.copy c.requires.met.scenario c.requires.node c.requires.met.of

pub put_along-requires-clause-few : goal.put_along-requires-clause-few
put_along-requires-clause-few g c =
    let long = many_nodes c.args.net.now.network c.args.place.tick c.args.copy c.requires.met.scenario c.requires.met.of in
    let few = c.bounds.ensures.network.nodes in
    omega (arith, long, few)

pub returns-clause-given : goal.returns-clause-given
returns-clause-given g c s before is so_far =
    let net = c.args.net.now.network in
    let t = c.args.place.tick in
    let n = c.args.place.node in
    subst (λ (l : List (List NodeView)). AreCopies net t l (before ++ copies terms net n t s)) (sym c.in_ok-put_along.ensures)
    (kept_along net t n c.args.copy s c.in_ok-paths.paths.items c.args.out.now.items before c.requires.sound c.requires.node is c.in_ok-paths.ensures.run so_far)
