-- Sends over each link in turn, or none where they would be too many.
use Rattle.std.proofs.Common.{ap, refl, ◌∙◌, arith}
use Rattle.kn_model.specs.Nets.{Network}
use Rattle.kn_conc.specs.Ways.{here_of, way_of}
use Rattle.kn_conc.specs.declared.way.Way.{Way}
use Rattle.kn_conc.proofs.Sends.{sent_first, sent_more, sends_stop, sends_go}
use Rattle.kn_conc.proofs.sending.send_over.Goals as goal

pub send-requires-clause-sent : goal.send-requires-clause-sent
send-requires-clause-sent c = omega (arith, ap (λ (w : Way). w.node.state.sent) c.way.view_is, c.if-way-links-gt65535.false, c.loop-link.invariant.sent.sent, c.loop-link-test.true)

pub loop-link-init : goal.loop-link-init
loop-link-init c = record { sent = sent_first (λ (net : Network). here_of net c.args.spot.now) c.args.b c.args.n c.args.links.now (way_of c.args.way.now); node = refl; trace = refl }

pub loop-link-preserved : goal.loop-link-preserved
loop-link-preserved c = record {
  sent = sent_more (λ (net : Network). here_of net c.args.spot.now) c.args.b c.args.n c.args.links.now c.loop-link.link-index _ _ (way_of c.args.way.now) (way_of c.loop-link.way) (way_of c.send.new.way)
      c.loop-link.invariant.sent c.loop-link-test.true refl c.in_ok-send.ensures.way c.in_ok-send.ensures.registers c.in_ok-send.ensures.sent c.in_ok-send.ensures.place;
  node = c.in_ok-send.ensures.node ∙ c.loop-link.invariant.node;
  trace = c.in_ok-send.ensures.trace ∙ c.loop-link.invariant.trace;
}

pub advance-requires : goal.advance-requires
advance-requires c = omega (arith, c.requires.place, c.loop-link.invariant.sent.place)

pub returns-clause-step : goal.returns-clause-step
returns-clause-step c net =
    sends_go (λ (net : Network). here_of net c.args.spot.now) net c.args.b c.args.n c.loop-link.link-index c.args.links.now (way_of c.args.way.now) (way_of c.loop-link.way) (way_of c.advance.new.self)
    (omega (arith, ap (λ (w : Way). w.node.state.sent) c.way.view_is, c.if-way-links-gt65535.false)) c.loop-link.invariant.sent c.loop-link-test.false c.advance.ensures.way

pub returns-then-way-links-gt65535-clause-step : goal.returns-then-way-links-gt65535-clause-step
returns-then-way-links-gt65535-clause-step c net =
    sends_stop (here_of net c.args.spot.now) c.args.b c.args.n c.args.links.now (way_of c.args.way.now) (way_of c.fail.new.self) (omega (arith, ap (λ (w : Way). w.node.state.sent) c.way.view_is, c.if-way-links-gt65535.true)) c.fail.ensures.way
