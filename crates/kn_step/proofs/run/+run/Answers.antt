-- The paths of a way, behind others.
use Rattle.std.proofs.Common.{[], ◌∷◌, ◌++◌, false, true}
use Rattle.std.specs.Prelude.{Result}
use Rattle.kn_model.specs.Terms.{terms}
use Rattle.kn_model.specs.Paths.{path_of}
use Rattle.kn_machine.specs.Ways.{way_of}
use Rattle.kn_machine.specs.Effects.{here_of}
use Rattle.kn_step.specs.Given.{onward}
use Rattle.kn_step.specs.Turns.{sided}
use Rattle.kn_step.specs.declared.run.Stretch.TheVariants as stretches
use Rattle.kn_step.proofs.Onward.{leads_alike, onward_alike}
use Rattle.kn_step.proofs.Giving.{stretch_is}
use Rattle.kn_step.proofs.Behind.{came_led, came_both, came_first}
use Rattle.kn_step.proofs.run.+run.Goals as goal

pub returns-in-Ok-Ends : goal.returns-in-Ok-Ends
returns-in-Ok-Ends g t c =
    let net = c.args.net.now.network in
    let spot = c.args.spot.now in
    let way = c.run_stretch.new.way in
    let made = stretch_is net spot c.args.fuel c.args.way way c.in-Ok-Ends.field-0 stretches.Ends c.in-Ok-Ends.field-0-is c.in-Ok-Ends.ensures in
    came_led net spot c.args.out.now.items c.give.new.out.items (path_of terms (way_of way) ∷ []) (onward (here_of net spot) c.args.fuel (way_of c.args.way)) c.give.result made.leads c.give.ensures

pub returns-in-Ok-run : goal.returns-in-Ok-run
returns-in-Ok-run g t c =
    let net = c.args.net.now.network in
    let spot = c.args.spot.now in
    let here = here_of net spot in
    let left = c.in-Ok-Splits.left in
    let split = c.in-Ok-Splits.split in
    let way = c.run_stretch.new.way in
    let made = stretch_is net spot c.args.fuel c.args.way way c.in-Ok-Splits.field-0 (stretches.Splits split left) c.in-Ok-Splits.field-0-is c.in-Ok-Splits.ensures in
    let first = sided here split.instr false split.literal way in
    let second = sided here split.instr true split.literal way in
    let old = c.args.out.now.items in
    let mid = c.run.new.out.items in
    let new = c.run-in-Ok-run.new.out.items in
    came_led net spot old new (onward here left first ++ onward here left second) (onward here c.args.fuel (way_of c.args.way)) c.run-in-Ok-run.result made.leads
    (came_both net spot old mid new (onward here left first) (onward here left second) tt c.run-in-Ok-run.result
    (came_led net spot old mid (onward here left (way_of c.in-Ok.first)) (onward here left first) (Result.Ok tt) (leads_alike _ _ (onward_alike net spot left (way_of c.in-Ok.first) first c.in-Ok.ensures.first)) c.in-Ok-run.ensures)
    (came_led net spot mid new (onward here left (way_of c.in-Ok.second)) (onward here left second) c.run-in-Ok-run.result (leads_alike _ _ (onward_alike net spot left (way_of c.in-Ok.second) second c.in-Ok.ensures.second)) c.run-in-Ok-run.ensures))

pub returns-in-Err-run : goal.returns-in-Err-run
returns-in-Err-run g t c =
    let net = c.args.net.now.network in
    let spot = c.args.spot.now in
    let here = here_of net spot in
    let left = c.in-Ok-Splits.left in
    let split = c.in-Ok-Splits.split in
    let way = c.run_stretch.new.way in
    let made = stretch_is net spot c.args.fuel c.args.way way c.in-Ok-Splits.field-0 (stretches.Splits split left) c.in-Ok-Splits.field-0-is c.in-Ok-Splits.ensures in
    let first = sided here split.instr false split.literal way in
    let second = sided here split.instr true split.literal way in
    let old = c.args.out.now.items in
    let mid = c.run.new.out.items in
    let stop = c.in-Err-run.stop in
    came_led net spot old mid (onward here left first ++ onward here left second) (onward here c.args.fuel (way_of c.args.way)) (Result.Err stop) made.leads
    (came_first net spot old mid (onward here left first) (onward here left second) stop
    (came_led net spot old mid (onward here left (way_of c.in-Ok.first)) (onward here left first) (Result.Err stop) (leads_alike _ _ (onward_alike net spot left (way_of c.in-Ok.first) first c.in-Ok.ensures.first)) c.in-Err-run.ensures))
