-- Whether a packet is lost.
use Rattle.std.proofs.Common.{[], ◌∷◌, ap, arith, subst}
use Rattle.std.specs.Prelude.{Result}
use Rattle.kn_model.specs.Terms.{terms}
use Rattle.kn_model.specs.Paths.{arrives, comes, with_loss}
use Rattle.kn_machine.specs.Views.{packet_of}
use Rattle.kn_machine.specs.Ways.{WayView, way_of}
use Rattle.kn_machine.specs.Effects.{here_of, mail_of}
use Rattle.kn_step.specs.Choices.{Onward, IsChoice, paths_by}
use Rattle.kn_step.proofs.GoingOn.{goes_arrives, goes_lost}
use Rattle.kn_step.proofs.Behind.{comes_chooses, chose_stays, chose_takes, chose_both, came_both, came_first}
use Rattle.kn_step.proofs.failures.run_mail.Goals as goal

pub returns-in-Ok-Stays : goal.returns-in-Ok-Stays
returns-in-Ok-Stays g c =
    let net = c.args.net.now.network in
    let spot = c.args.spot.now in
    let here = here_of net spot in
    let p = packet_of c.in-Some.mail in
    let stays : Onward = arrives terms here p in
    let takes : Onward = λ w. with_loss terms w ∷ [] in
    let s = goes_arrives net spot c.requires.place p in
    let t = goes_lost in
    let v = c.args.way in
    let w = c.choose.new.way in
    let old = c.args.out.now.items in
    let qs = paths_by (comes terms here (mail_of spot.mail)) (way_of v) in
    let is = comes_chooses here p (mail_of spot.mail) (way_of v) (ap mail_of c.in-Some.is) (λ e. omega (arith, ap (λ i. i.machine.losses) c.way-inside.view_is, ap (λ (x : WayView). x.machine.losses) c.way.view_is, c.if-way-eq0.false, e)) in
    chose_stays net spot stays takes s t v w qs old c.run_arrival-in-Ok-Stays.new.out.items c.run_arrival-in-Ok-Stays.result (subst (IsChoice net spot v w) c.in-Ok-Stays.field-0-is c.in-Ok-Stays.ensures) is c.run_arrival-in-Ok-Stays.ensures

pub returns-in-Ok-Takes : goal.returns-in-Ok-Takes
returns-in-Ok-Takes g c =
    let net = c.args.net.now.network in
    let spot = c.args.spot.now in
    let here = here_of net spot in
    let p = packet_of c.in-Some.mail in
    let stays : Onward = arrives terms here p in
    let takes : Onward = λ w. with_loss terms w ∷ [] in
    let s = goes_arrives net spot c.requires.place p in
    let t = goes_lost in
    let v = c.args.way in
    let w = c.choose.new.way in
    let old = c.args.out.now.items in
    let qs = paths_by (comes terms here (mail_of spot.mail)) (way_of v) in
    let is = comes_chooses here p (mail_of spot.mail) (way_of v) (ap mail_of c.in-Some.is) (λ e. omega (arith, ap (λ i. i.machine.losses) c.way-inside.view_is, ap (λ (x : WayView). x.machine.losses) c.way.view_is, c.if-way-eq0.false, e)) in
    chose_takes net spot stays takes s t v w qs old c.run_lost.new.out.items c.run_lost.result (subst (IsChoice net spot v w) c.in-Ok-Takes.field-0-is c.in-Ok-Takes.ensures) is c.run_lost.ensures

pub returns-in-Ok : goal.returns-in-Ok
returns-in-Ok g c =
    let net = c.args.net.now.network in
    let spot = c.args.spot.now in
    let here = here_of net spot in
    let p = packet_of c.in-Some.mail in
    let stays : Onward = arrives terms here p in
    let takes : Onward = λ w. with_loss terms w ∷ [] in
    let s = goes_arrives net spot c.requires.place p in
    let t = goes_lost in
    let v = c.args.way in
    let w = c.choose.new.way in
    let old = c.args.out.now.items in
    let qs = paths_by (comes terms here (mail_of spot.mail)) (way_of v) in
    let is = comes_chooses here p (mail_of spot.mail) (way_of v) (ap mail_of c.in-Some.is) (λ e. omega (arith, ap (λ i. i.machine.losses) c.way-inside.view_is, ap (λ (x : WayView). x.machine.losses) c.way.view_is, c.if-way-eq0.false, e)) in
    let u = c.in-Ok-Both.kept in
    chose_both net spot stays takes s t v w qs old c.run_lost-in-Ok.new.out.items c.run_lost-in-Ok.result u (subst (IsChoice net spot v w) c.in-Ok-Both.field-0-is c.in-Ok-Both.ensures) is
    (came_both net spot old c.run_arrival-in-Ok-Both.new.out.items c.run_lost-in-Ok.new.out.items (paths_by stays (way_of u)) (paths_by takes (way_of w)) tt c.run_lost-in-Ok.result c.in-Ok.ensures c.run_lost-in-Ok.ensures)

pub returns-in-Err-run_arrival : goal.returns-in-Err-run_arrival
returns-in-Err-run_arrival g c =
    let net = c.args.net.now.network in
    let spot = c.args.spot.now in
    let here = here_of net spot in
    let p = packet_of c.in-Some.mail in
    let stays : Onward = arrives terms here p in
    let takes : Onward = λ w. with_loss terms w ∷ [] in
    let s = goes_arrives net spot c.requires.place p in
    let t = goes_lost in
    let v = c.args.way in
    let w = c.choose.new.way in
    let old = c.args.out.now.items in
    let qs = paths_by (comes terms here (mail_of spot.mail)) (way_of v) in
    let is = comes_chooses here p (mail_of spot.mail) (way_of v) (ap mail_of c.in-Some.is) (λ e. omega (arith, ap (λ i. i.machine.losses) c.way-inside.view_is, ap (λ (x : WayView). x.machine.losses) c.way.view_is, c.if-way-eq0.false, e)) in
    let u = c.in-Ok-Both.kept in
    let stop = c.in-Err-run_arrival.stop in
    chose_both net spot stays takes s t v w qs old c.run_arrival-in-Ok-Both.new.out.items (Result.Err stop) u (subst (IsChoice net spot v w) c.in-Ok-Both.field-0-is c.in-Ok-Both.ensures) is
    (came_first net spot old c.run_arrival-in-Ok-Both.new.out.items (paths_by stays (way_of u)) (paths_by takes (way_of w)) stop c.in-Err-run_arrival.ensures)
