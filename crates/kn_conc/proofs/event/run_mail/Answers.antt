-- A packet comes: it is lost, or it arrives.
use Rattle.std.proofs.Common.{ap, ◌∙◌, arith}
use Rattle.std.proofs.lemmas.Result.{on_ok_weaker}
use Rattle.kn_model.specs.Terms.{words}
use Rattle.kn_model.specs.Paths.{comes}
use Rattle.kn_conc.specs.Ways.{here_of, way_of}
use Rattle.kn_conc.specs.Runs.{paths_of}
use Rattle.kn_conc.specs.declared.way.Way.{Way}
use Rattle.kn_conc.proofs.Choosing.{comes_lost, comes_on}
use Rattle.kn_conc.proofs.event.run_mail.Goals as goal

pub returns-then-branch-clause-way : goal.returns-then-branch-clause-way
returns-then-branch-clause-way c =
    let a = c.args.inputs.now in
    let net = c.args.net.now.network in
    let here = here_of net c.args.spot.now in
    let w = way_of c.args.way.now in
    ap (λ o. paths_of a (comes (words a) here o w)) c.in-Some.is
    ∙ comes_lost a here c.in-Some.mail w (way_of c.choose.new.way) (way_of c.lose.new.way) c.in_ok-choose.field-0 (λ e. omega (arith, ap (λ (y : Way). y.node.state.losses) c.way.view_is, c.if-way-eq0.false, e))
    (c.in_ok-choose.ensures.taken net) (c.in_ok-choose.ensures.way net) c.if-branch.true c.lose.ensures.way

pub returns-clause-way : goal.returns-clause-way
returns-clause-way c =
    let a = c.args.inputs.now in
    let net = c.args.net.now.network in
    let here = here_of net c.args.spot.now in
    let w = way_of c.args.way.now in
    on_ok_weaker c.run_arrival-2.result
    (λ run. ap (λ o. paths_of a (comes (words a) here o w)) c.in-Some.is
    ∙ (comes_on a here c.in-Some.mail w (way_of c.choose.new.way) c.in_ok-choose.field-0 (λ e. omega (arith, ap (λ (y : Way). y.node.state.losses) c.way.view_is, c.if-way-eq0.false, e))
    (c.in_ok-choose.ensures.taken net) (c.in_ok-choose.ensures.way net) c.if-branch.false ∙ run))
    c.run_arrival-2.ensures.way
