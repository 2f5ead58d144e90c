use Rattle.std.proofs.Common.{Bool, sym, subst, length}
use Rattle.std.specs.Prelude.{OnOk}
use Rattle.std.proofs.lemmas.Result.{IfOk-weaker}
use Rattle.kn_model.specs.Nets.{code_of}
use Rattle.kn_machine.specs.Ways.{way_of, AlikeWay}
use Rattle.kn_machine.specs.Effects.{here_of, side_at}
use Rattle.kn_machine.proofs.Stepping.{grown_self, changed_of, changed_row}
use Rattle.kn_machine.proofs.rows.take_side.Goals as goal

pub returns-then-bit-clause-way : goal.returns-then-bit-clause-way
returns-then-bit-clause-way c =
    let net = c.args.net.now.network in
    subst (λ (b : Bool). AlikeWay (way_of c.take_second.new.way) (side_at (here_of net c.args.spot.now) c.args.instr b (way_of c.args.way.now))) (sym c.if-bit.true) (c.take_second.ensures.way net)

pub returns-then-bit-clause-row : goal.returns-then-bit-clause-row
returns-then-bit-clause-row c =
    let v = c.args.way.now in
    let w = c.take_second.new.way in
    changed_row c.args.spot.now.node c.args.spot.now.history v w (changed_of v v w (grown_self v) c.take_second.ensures.still)

pub returns-then-bit-clause-grows : goal.returns-then-bit-clause-grows
returns-then-bit-clause-grows c =
    let v = c.args.way.now in
    (changed_of v v c.take_second.new.way (grown_self v) c.take_second.ensures.still).terms

pub take_first-requires-clause-valid : goal.take_first-requires-clause-valid
take_first-requires-clause-valid c = (length (code_of c.args.net.now.network c.args.spot.now.node).instrs, c.requires.valid)

pub returns-clause-way : goal.returns-clause-way
returns-clause-way c =
    let net = c.args.net.now.network in
    subst (λ (b : Bool). OnOk c.take_first.result (AlikeWay (way_of c.take_first.new.way) (side_at (here_of net c.args.spot.now) c.args.instr b (way_of c.args.way.now)))) (sym c.if-bit.false) (c.take_first.ensures.way net c.args.spot.now)

pub returns-clause-row : goal.returns-clause-row
returns-clause-row c = IfOk-weaker c.take_first.result _ _ (λ r h. changed_row c.args.spot.now.node c.args.spot.now.history c.args.way.now c.take_first.new.way h) c.take_first.ensures.changed

pub returns-clause-grows : goal.returns-clause-grows
returns-clause-grows c = IfOk-weaker c.take_first.result _ _ (λ r h. h.terms) c.take_first.ensures.changed
