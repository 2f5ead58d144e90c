-- Sends over each link in turn, or none where they would be too many.
use Rattle.std.proofs.Common.{ap, ◌∙◌, refl}
use Rattle.kn_machine.specs.contracts.way.Way.{the_view}
use Rattle.kn_machine.proofs.Sends.{sent_first, sent_more, send_stops, send_goes}
use Rattle.kn_machine.proofs.sending.send_over.Goals as goal

pub returns-then-way-links-gt65535 : goal.returns-then-way-links-gt65535
returns-then-way-links-gt65535 c net =
    send_stops net c.args.spot.now c.args.b c.args.n c.args.links.now c.args.way.now c.fail.new.way _ (ap the_view c.way-inside.view_is ∙ c.way.view_is) c.if-way-links-gt65535.true c.fail.ensures.way c.fail.ensures.still

pub loop-link-init : goal.loop-link-init
loop-link-init c = sent_first c.args.spot.now c.args.b c.args.n c.args.links.now c.args.way.now c.freeze.new.self c.freeze.ensures

pub loop-link-preserved : goal.loop-link-preserved
loop-link-preserved c =
    sent_more c.args.spot.now c.args.b c.args.n c.args.links.now c.loop-link.link-index _ _ c.args.way.now c.loop-link.way c.send.new.way c.loop-link.invariant c.loop-link-test.true
    c.in_ok-send.ensures.way refl c.in_ok-send.ensures.row c.in_ok-send.ensures.terms c.in_ok-send.ensures.same c.in_ok-send.ensures.sent c.in_ok-send.ensures.place

pub returns : goal.returns
returns c net =
    send_goes net c.args.spot.now c.args.b c.args.n c.loop-link.link-index c.args.links.now c.args.way.now c.loop-link.way c.advance.new.self _ (ap the_view c.way-inside.view_is ∙ c.way.view_is) c.if-way-links-gt65535.false
    c.loop-link.invariant c.loop-link-test.false c.advance.ensures.way c.advance.ensures.still
