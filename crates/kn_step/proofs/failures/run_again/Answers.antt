-- A node that reboots.
use Rattle.kn_model.specs.Terms.{terms}
use Rattle.kn_model.specs.Paths.{cleared, runs}
use Rattle.kn_machine.specs.Ways.{way_of}
use Rattle.kn_machine.specs.Effects.{here_of}
use Rattle.kn_step.specs.Choices.{paths_by}
use Rattle.kn_step.proofs.Onward.{leads_alike}
use Rattle.kn_step.proofs.GoingOn.{goes_runs, paths_alike}
use Rattle.kn_step.proofs.Behind.{came_led}
use Rattle.kn_step.proofs.failures.run_again.Goals as goal

pub returns-in-Ok : goal.returns-in-Ok
returns-in-Ok g c =
    let net = c.args.net.now.network in
    let spot = c.args.spot.now in
    let go = runs terms (here_of net spot) 0 in
    let w = way_of c.clear.new.way in
    let v = cleared terms (way_of c.args.way) in
    came_led net spot c.args.out.now.items c.run_handler.new.out.items (paths_by go w) (paths_by go v) c.run_handler.result (leads_alike _ _ (paths_alike go (goes_runs net spot c.requires.place 0) w v c.in-Ok.ensures.way)) c.run_handler.ensures
