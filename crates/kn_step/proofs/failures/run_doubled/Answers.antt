-- A packet that is doubled.
use Rattle.std.proofs.Common.{subst}
use Rattle.kn_term.specs.Terms.{Term}
use Rattle.kn_model.specs.Terms.{terms}
use Rattle.kn_model.specs.Rows.{Way}
use Rattle.kn_model.specs.Paths.{runs}
use Rattle.kn_machine.specs.Effects.{here_of}
use Rattle.kn_step.specs.Choices.{CameBehind, paths_by}
use Rattle.kn_step.proofs.failures.run_doubled.Goals as goal

pub returns-in-Ok : goal.returns-in-Ok
returns-in-Ok g c =
    let net = c.args.net.now.network in
    let spot = c.args.spot.now in
    subst (λ (w : Way Term). CameBehind net spot c.args.out.now.items c.run_handler.new.out.items (paths_by (runs terms (here_of net spot) 1) w) c.run_handler.result) (c.in-Ok.ensures.way net) c.run_handler.ensures
