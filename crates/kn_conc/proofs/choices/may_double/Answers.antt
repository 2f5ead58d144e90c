-- A packet that arrives is doubled, or it is not.
use Rattle.std.proofs.Common.{ap, arith}
use Rattle.kn_model.specs.Packets.{Packet}
use Rattle.kn_conc.specs.Ways.{here_of, way_of}
use Rattle.kn_conc.specs.declared.way.Way.{Way}
use Rattle.kn_conc.proofs.Choosing.{is_doubled, is_kept}
use Rattle.kn_conc.proofs.choices.may_double.Goals as goal

pub double-requires-clause-some : goal.double-requires-clause-some
double-requires-clause-some c = omega (arith, ap (λ (w : Way). w.node.state.duplications) c.way.view_is, c.if-way-eq0.false, c.in_ok-choose.ensures.duplications)

pub returns-in_ok-double-clause-way : goal.returns-in_ok-double-clause-way
returns-in_ok-double-clause-way c net =
    is_doubled c.args.inputs.now (here_of net c.args.spot.now) c.args.mail.now (way_of c.args.way.now) (way_of c.choose.new.way) (way_of c.double.new.way) c.in_ok-choose.field-0
    (omega (arith, ap (λ (p : Packet _). p.copy) c.mail.view_is, c.if-mail-ne0.false)) (λ e. omega (arith, ap (λ (w : Way). w.node.state.duplications) c.way.view_is, c.if-way-eq0.false, e))
    (c.in_ok-choose.ensures.taken net) c.if-branch.true (c.in_ok-choose.ensures.way net) (c.in_ok-double.ensures.way net)

pub returns-else-branch-clause-way : goal.returns-else-branch-clause-way
returns-else-branch-clause-way c net =
    is_kept c.args.inputs.now (here_of net c.args.spot.now) c.args.mail.now (way_of c.args.way.now) (way_of c.choose.new.way) c.in_ok-choose.field-0
    (omega (arith, ap (λ (p : Packet _). p.copy) c.mail.view_is, c.if-mail-ne0.false)) (λ e. omega (arith, ap (λ (w : Way). w.node.state.duplications) c.way.view_is, c.if-way-eq0.false, e))
    (c.in_ok-choose.ensures.taken net) c.if-branch.false (c.in_ok-choose.ensures.way net)
