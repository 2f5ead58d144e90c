use Rattle.std.proofs.Common.{false, ◌∙◌}
use Rattle.kn_term.specs.Nodes.{term_at}
use Rattle.kn_machine.specs.Ways.{way_of}
use Rattle.kn_machine.specs.Effects.{here_of}
use Rattle.kn_machine.proofs.Stepping.{grown_self, changed_of, changed_then}
use Rattle.kn_machine.proofs.Sides.{side_is, plain_first, read_side, written_side}
use Rattle.kn_machine.proofs.rows.take_first.Goals as goal

pub returns-in_ok-r-in-Ldx-clause-way : goal.returns-in_ok-r-in-Ldx-clause-way
returns-in_ok-r-in-Ldx-clause-way c = λ net spot.
    let v = c.args.way.now in
    read_side net spot c.args.instr c.in-Ldx.a c.in-Ldx.b c.in-Ldx.m c.in-Ldx.n v c.load.new.way c.set.new.way (term_at c.load.new.way.terms c.in_ok-r-in-Ldx.r.index) c.in-Ldx.is c.in_ok-r-in-Ldx.ensures.grown c.in_ok-r-in-Ldx.ensures.term c.set.ensures.way

pub returns-in_ok-r-in-Ldx-clause-changed : goal.returns-in_ok-r-in-Ldx-clause-changed
returns-in_ok-r-in-Ldx-clause-changed c = changed_of c.args.way.now c.load.new.way c.set.new.way c.in_ok-r-in-Ldx.ensures.grown c.set.ensures.still

pub returns-in_ok-store-in-Stx-clause-way : goal.returns-in_ok-store-in-Stx-clause-way
returns-in_ok-store-in-Stx-clause-way c = λ net spot.
    written_side net spot c.args.instr c.in-Stx.a c.in-Stx.b c.in-Stx.m c.in-Stx.n (way_of c.args.way.now) (way_of c.store.new.way) (way_of c.advance.new.self) c.in-Stx.is c.in_ok-store-in-Stx.ensures.way c.advance.ensures.way

pub returns-in_ok-store-in-Stx-clause-changed : goal.returns-in_ok-store-in-Stx-clause-changed
returns-in_ok-store-in-Stx-clause-changed c = changed_then c.args.way.now c.store.new.way c.advance.new.self c.in_ok-store-in-Stx.ensures.changed c.advance.ensures.still

pub returns-in_default : goal.returns-in_default
returns-in_default c =
    let v = c.args.way.now in
    let w = c.advance-in_default.new.self in
    record {
      way = λ net spot. side_is (here_of net spot) c.args.instr false (way_of v) (way_of w) (c.advance-in_default.ensures.way ∙ plain_first (here_of net spot) c.args.instr (way_of v) c.requires.decides c.in_default.not-Ldx c.in_default.not-Stx);
      changed = changed_of v v w (grown_self v) c.advance-in_default.ensures.still;
    }
