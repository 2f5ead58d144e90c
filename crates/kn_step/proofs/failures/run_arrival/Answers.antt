-- Whether a packet is doubled.
use Rattle.std.proofs.Common.{ap, arith, subst}
use Rattle.std.specs.Prelude.{Result}
use Rattle.kn_packet.specs.Packets.{PacketView}
use Rattle.kn_model.specs.Terms.{terms}
use Rattle.kn_model.specs.Paths.{arrives, doubled, runs}
use Rattle.kn_machine.specs.Views.{packet_of}
use Rattle.kn_machine.specs.Ways.{WayView, way_of}
use Rattle.kn_machine.specs.Effects.{here_of}
use Rattle.kn_step.specs.Choices.{Onward, IsChoice, paths_by}
use Rattle.kn_step.proofs.GoingOn.{goes_runs, goes_doubled}
use Rattle.kn_step.proofs.Behind.{arrives_chooses, chose_stays, chose_takes, chose_both, came_both, came_first}
use Rattle.kn_step.proofs.failures.run_arrival.Goals as goal

pub returns-in-Ok-Stays : goal.returns-in-Ok-Stays
returns-in-Ok-Stays g c =
    let net = c.args.net.now.network in
    let spot = c.args.spot.now in
    let here = here_of net spot in
    let p = packet_of c.args.mail.now in
    let stays : Onward = runs terms here 1 in
    let takes : Onward = λ w. runs terms here 1 (doubled terms here p w) in
    let s = goes_runs net spot c.requires.place 1 in
    let t = goes_doubled net spot c.requires.place p in
    let v = c.args.way in
    let w = c.choose.new.way in
    let old = c.args.out.now.items in
    let qs = paths_by (arrives terms here p) (way_of v) in
    let is = arrives_chooses here p (way_of v) (omega (arith, ap (λ (q : PacketView). q.copy) c.mail.view_is, c.if-mail-ne0.false)) (λ e. omega (arith, ap (λ i. i.machine.duplications) c.way-inside.view_is, ap (λ (x : WayView). x.machine.duplications) c.way.view_is, c.if-way-eq0.false, e)) in
    chose_stays net spot stays takes s t v w qs old c.run_handler-in-Ok-Stays.new.out.items c.run_handler-in-Ok-Stays.result (subst (IsChoice net spot v w) c.in-Ok-Stays.field-0-is c.in-Ok-Stays.ensures) is c.run_handler-in-Ok-Stays.ensures

pub returns-in-Ok-Takes : goal.returns-in-Ok-Takes
returns-in-Ok-Takes g c =
    let net = c.args.net.now.network in
    let spot = c.args.spot.now in
    let here = here_of net spot in
    let p = packet_of c.args.mail.now in
    let stays : Onward = runs terms here 1 in
    let takes : Onward = λ w. runs terms here 1 (doubled terms here p w) in
    let s = goes_runs net spot c.requires.place 1 in
    let t = goes_doubled net spot c.requires.place p in
    let v = c.args.way in
    let w = c.choose.new.way in
    let old = c.args.out.now.items in
    let qs = paths_by (arrives terms here p) (way_of v) in
    let is = arrives_chooses here p (way_of v) (omega (arith, ap (λ (q : PacketView). q.copy) c.mail.view_is, c.if-mail-ne0.false)) (λ e. omega (arith, ap (λ i. i.machine.duplications) c.way-inside.view_is, ap (λ (x : WayView). x.machine.duplications) c.way.view_is, c.if-way-eq0.false, e)) in
    chose_takes net spot stays takes s t v w qs old c.run_doubled.new.out.items c.run_doubled.result (subst (IsChoice net spot v w) c.in-Ok-Takes.field-0-is c.in-Ok-Takes.ensures) is c.run_doubled.ensures

pub returns-in-Ok : goal.returns-in-Ok
returns-in-Ok g c =
    let net = c.args.net.now.network in
    let spot = c.args.spot.now in
    let here = here_of net spot in
    let p = packet_of c.args.mail.now in
    let stays : Onward = runs terms here 1 in
    let takes : Onward = λ w. runs terms here 1 (doubled terms here p w) in
    let s = goes_runs net spot c.requires.place 1 in
    let t = goes_doubled net spot c.requires.place p in
    let v = c.args.way in
    let w = c.choose.new.way in
    let old = c.args.out.now.items in
    let qs = paths_by (arrives terms here p) (way_of v) in
    let is = arrives_chooses here p (way_of v) (omega (arith, ap (λ (q : PacketView). q.copy) c.mail.view_is, c.if-mail-ne0.false)) (λ e. omega (arith, ap (λ i. i.machine.duplications) c.way-inside.view_is, ap (λ (x : WayView). x.machine.duplications) c.way.view_is, c.if-way-eq0.false, e)) in
    let u = c.in-Ok-Both.kept in
    chose_both net spot stays takes s t v w qs old c.run_doubled-in-Ok.new.out.items c.run_doubled-in-Ok.result u (subst (IsChoice net spot v w) c.in-Ok-Both.field-0-is c.in-Ok-Both.ensures) is
    (came_both net spot old c.run_handler-in-Ok-Both.new.out.items c.run_doubled-in-Ok.new.out.items (paths_by stays (way_of u)) (paths_by takes (way_of w)) tt c.run_doubled-in-Ok.result c.in-Ok.ensures c.run_doubled-in-Ok.ensures)

pub returns-in-Err-run_handler : goal.returns-in-Err-run_handler
returns-in-Err-run_handler g c =
    let net = c.args.net.now.network in
    let spot = c.args.spot.now in
    let here = here_of net spot in
    let p = packet_of c.args.mail.now in
    let stays : Onward = runs terms here 1 in
    let takes : Onward = λ w. runs terms here 1 (doubled terms here p w) in
    let s = goes_runs net spot c.requires.place 1 in
    let t = goes_doubled net spot c.requires.place p in
    let v = c.args.way in
    let w = c.choose.new.way in
    let old = c.args.out.now.items in
    let qs = paths_by (arrives terms here p) (way_of v) in
    let is = arrives_chooses here p (way_of v) (omega (arith, ap (λ (q : PacketView). q.copy) c.mail.view_is, c.if-mail-ne0.false)) (λ e. omega (arith, ap (λ i. i.machine.duplications) c.way-inside.view_is, ap (λ (x : WayView). x.machine.duplications) c.way.view_is, c.if-way-eq0.false, e)) in
    let u = c.in-Ok-Both.kept in
    let stop = c.in-Err-run_handler.stop in
    chose_both net spot stays takes s t v w qs old c.run_handler-in-Ok-Both.new.out.items (Result.Err stop) u (subst (IsChoice net spot v w) c.in-Ok-Both.field-0-is c.in-Ok-Both.ensures) is
    (came_first net spot old c.run_handler-in-Ok-Both.new.out.items (paths_by stays (way_of u)) (paths_by takes (way_of w)) stop c.in-Err-run_handler.ensures)
