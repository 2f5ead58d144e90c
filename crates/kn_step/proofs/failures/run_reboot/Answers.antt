-- Whether a node reboots.
use Rattle.std.proofs.Common.{[], ◌∷◌, refl, subst}
use Rattle.std.specs.Prelude.{Result}
use Rattle.kn_packet.specs.declared.packet.Event.TheVariants as events
use Rattle.kn_model.specs.Terms.{terms}
use Rattle.kn_model.specs.Paths.{cleared, event_ways, runs}
use Rattle.kn_machine.specs.Ways.{way_of}
use Rattle.kn_machine.specs.Effects.{here_of}
use Rattle.kn_step.specs.Choices.{Onward, IsChoice, paths_by}
use Rattle.kn_step.proofs.GoingOn.{goes_one, goes_again}
use Rattle.kn_step.proofs.Behind.{chose_stays, chose_takes, chose_both, came_both, came_first}
use Rattle.kn_step.proofs.failures.run_reboot.Goals as goal

pub returns-in-Ok-Stays : goal.returns-in-Ok-Stays
returns-in-Ok-Stays g c =
    let net = c.args.net.now.network in
    let spot = c.args.spot.now in
    let here = here_of net spot in
    let stays : Onward = λ w. w ∷ [] in
    let takes : Onward = λ w. runs terms here 0 (cleared terms w) in
    let s = goes_one in
    let t = goes_again net spot c.requires.place in
    let v = c.args.way in
    let w = c.choose.new.way in
    let old = c.args.out.now.items in
    let qs = paths_by (event_ways terms here events.Reboot) (way_of v) in
    let is = refl in
    chose_stays net spot stays takes s t v w qs old c.give.new.out.items c.give.result (subst (IsChoice net spot v w) c.in-Ok-Stays.field-0-is c.in-Ok-Stays.ensures) is c.give.ensures

pub returns-in-Ok-Takes : goal.returns-in-Ok-Takes
returns-in-Ok-Takes g c =
    let net = c.args.net.now.network in
    let spot = c.args.spot.now in
    let here = here_of net spot in
    let stays : Onward = λ w. w ∷ [] in
    let takes : Onward = λ w. runs terms here 0 (cleared terms w) in
    let s = goes_one in
    let t = goes_again net spot c.requires.place in
    let v = c.args.way in
    let w = c.choose.new.way in
    let old = c.args.out.now.items in
    let qs = paths_by (event_ways terms here events.Reboot) (way_of v) in
    let is = refl in
    chose_takes net spot stays takes s t v w qs old c.run_again.new.out.items c.run_again.result (subst (IsChoice net spot v w) c.in-Ok-Takes.field-0-is c.in-Ok-Takes.ensures) is c.run_again.ensures

pub returns-in-Ok : goal.returns-in-Ok
returns-in-Ok g c =
    let net = c.args.net.now.network in
    let spot = c.args.spot.now in
    let here = here_of net spot in
    let stays : Onward = λ w. w ∷ [] in
    let takes : Onward = λ w. runs terms here 0 (cleared terms w) in
    let s = goes_one in
    let t = goes_again net spot c.requires.place in
    let v = c.args.way in
    let w = c.choose.new.way in
    let old = c.args.out.now.items in
    let qs = paths_by (event_ways terms here events.Reboot) (way_of v) in
    let is = refl in
    let u = c.in-Ok-Both.kept in
    chose_both net spot stays takes s t v w qs old c.run_again-in-Ok.new.out.items c.run_again-in-Ok.result u (subst (IsChoice net spot v w) c.in-Ok-Both.field-0-is c.in-Ok-Both.ensures) is
    (came_both net spot old c.give-in-Ok-Both.new.out.items c.run_again-in-Ok.new.out.items (paths_by stays (way_of u)) (paths_by takes (way_of w)) tt c.run_again-in-Ok.result c.in-Ok.ensures c.run_again-in-Ok.ensures)

pub returns-in-Err-give : goal.returns-in-Err-give
returns-in-Err-give g c =
    let net = c.args.net.now.network in
    let spot = c.args.spot.now in
    let here = here_of net spot in
    let stays : Onward = λ w. w ∷ [] in
    let takes : Onward = λ w. runs terms here 0 (cleared terms w) in
    let s = goes_one in
    let t = goes_again net spot c.requires.place in
    let v = c.args.way in
    let w = c.choose.new.way in
    let old = c.args.out.now.items in
    let qs = paths_by (event_ways terms here events.Reboot) (way_of v) in
    let is = refl in
    let u = c.in-Ok-Both.kept in
    let stop = c.in-Err-give.stop in
    chose_both net spot stays takes s t v w qs old c.give-in-Ok-Both.new.out.items (Result.Err stop) u (subst (IsChoice net spot v w) c.in-Ok-Both.field-0-is c.in-Ok-Both.ensures) is
    (came_first net spot old c.give-in-Ok-Both.new.out.items (paths_by stays (way_of u)) (paths_by takes (way_of w)) stop c.in-Err-give.ensures)
