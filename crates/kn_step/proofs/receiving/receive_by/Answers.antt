-- What a copy of the state learns.
use Rattle.std.proofs.Common.{◌≤◌, sym, subst}
use Rattle.std.specs.Prelude.{IfOk}
use Rattle.kn_cond.specs.Conditions.{that, StandsFor}
use Rattle.kn_node.specs.Views.{ConfigView}
use Rattle.kn_plan.specs.Files.{File}
use Rattle.kn_machine.specs.Views.{own_of}
use Rattle.kn_step.specs.Answers.{OnReceived}
use Rattle.kn_step.proofs.receiving.receive_by.Goals as goal

pub receive_own-requires-clause-budget : goal.receive_own-requires-clause-budget
receive_own-requires-clause-budget g c = subst (λ (f : File). 1 ≤ f.network.limits.conflicts) (sym c.net.view_is) c.bounds.ensures.network.limits.some_conflicts

pub receive_own-requires-clause-standing : goal.receive_own-requires-clause-standing
receive_own-requires-clause-standing g c =
    let q = c.in_ok-config.config in
    subst (λ (f : File). StandsFor f.network.limits.conflicts (that (own_of q)) q.standing) (sym c.net.view_is)
    (subst (λ (u : ConfigView). StandsFor c.args.net.now.network.limits.conflicts (that (own_of u)) u.standing) (sym c.in_ok-config.ensures) c.requires.standing)

pub returns : goal.returns
returns g c =
    subst (λ (u : ConfigView). IfOk c.receive_own.result (OnReceived c.args.net.now.network.limits.conflicts u c.args.inbox.now)) c.in_ok-config.ensures
    (subst (λ (f : File). IfOk c.receive_own.result (OnReceived f.network.limits.conflicts c.in_ok-config.config c.args.inbox.now)) c.net.view_is c.receive_own.ensures)
