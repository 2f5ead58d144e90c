-- What has a mark goes into the part, until nothing has.
use Rattle.std.proofs.Common.{◌++◌, sym, subst}
use Rattle.kn_term.specs.declared.node.Literal.{Literal as Listed}
use Rattle.kn_cond.specs.Meanings.{StandIn}
use Rattle.kn_cond.proofs.Kept.{StandIn-append}
use Rattle.kn_solve.specs.Parts.{IsSplit}
use Rattle.kn_solve.proofs.Sharing.{stand_among, divided_first, divided_more, divided_last, fewer_left, left_read}
use Rattle.std.proofs.Common.{List}
use Rattle.kn_solve.proofs.dividing.divide.Goals as goal

pub grow-init : goal.grow-init
grow-init c = record {
  split = divided_first c.args.earlier.now c.args.later.now _ _ c.in_ok-part.ensures c.in_ok-rest.ensures;
  part = subst (StandIn c.args.terms.now) (sym c.in_ok-part.ensures) c.requires.later;
  rest = subst (StandIn c.args.terms.now) (sym c.in_ok-rest.ensures) c.requires.earlier;
}

pub returns-then-literals-clause-split : goal.returns-then-literals-clause-split
returns-then-literals-clause-split c =
    subst (λ (y : List Listed). IsSplit (c.args.earlier.now ++ c.args.later.now) c.args.earlier.now c.grow.part y)
    (sym (divided_last c.grow.rest c.in_ok-left.left _ _ _ _ c.literals-in-grow-2.ensures c.in_ok-left.ensures c.literals-in-grow-3.ensures c.literals-in-grow-4.ensures c.if-literals.true)) c.grow.invariant.split

pub returns-then-literals-clause-rest : goal.returns-then-literals-clause-rest
returns-then-literals-clause-rest c =
    left_read c.args.terms.now c.in_ok-inputs.inputs _ c.grow.rest c.in_ok-left.left _ _ _ c.deref.ensures.value c.inputs-in-grow.ensures.list c.literals-in-grow-2.ensures c.in_ok-left.ensures c.in_ok-marks.ensures

pub grow-smaller : goal.grow-smaller
grow-smaller c =
    fewer_left c.grow.rest c.in_ok-left.left _ _ _ _ c.literals-in-grow-2.ensures c.in_ok-left.ensures c.literals-in-grow-3.ensures c.literals-in-grow-4.ensures c.if-literals.false

pub grow-preserved : goal.grow-preserved
grow-preserved c =
    let whole = c.args.earlier.now ++ c.args.later.now in
    let split = divided_more whole c.args.earlier.now c.grow.part c.grow.rest c.join.new.self c.in_ok-left.left _ _ _ _ _ _ c.deref.ensures.value c.deref-in-grow.ensures.value c.literals-in-grow-2.ensures c.literals-in-grow-5.ensures c.in_ok-left.ensures c.in_ok-near.ensures c.in_ok-join.ensures.ok c.grow.invariant.split in
    record {
      split = split;
      part = stand_among c.args.terms.now c.join.new.self whole split.part_in (StandIn-append c.args.terms.now c.args.earlier.now c.args.later.now c.requires.earlier c.requires.later);
      rest = stand_among c.args.terms.now c.in_ok-left.left c.args.earlier.now split.rest_in c.requires.earlier;
    }
