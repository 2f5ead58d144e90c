-- A machine that is cleared.
use Rattle.std.proofs.Common.{length, refl, sym, subst, ◌<◌}
use Rattle.kn_machine.specs.Ways.{WayView, IsGrown}
use Rattle.kn_step.proofs.Clearing.{cleared_way, ok_then, still_way}
use Rattle.kn_step.proofs.choices.clear.Goals as goal

pub invariant_of-way : goal.invariant_of-way
invariant_of-way c =
    let i = c.way-2.inside in
    let u : WayView = record { machine = i.machine; terms = i.terms; cond = i.cond; standing = i.standing; own = i.own; trace = i.trace; pc = i.pc; bits = i.bits; literals = i.literals; sends = i.sends.items } in
    still_way c.clear_machine.result u c.in_ok-zero.zero c.clear_machine.new.machine (subst (λ (w : WayView). c.in_ok-zero.zero.index < length w.terms) (sym c.way-2.view_is) c.in_ok-zero.ensures.stands) c.clear_machine.ensures.ok c.clear_machine.ensures.err c.way-2.invariant

pub returns-clause-way : goal.returns-clause-way
returns-clause-way c =
    let i = c.way-2.inside in
    let u : WayView = record { machine = i.machine; terms = i.terms; cond = i.cond; standing = i.standing; own = i.own; trace = i.trace; pc = i.pc; bits = i.bits; literals = i.literals; sends = i.sends.items } in
    ok_then c.clear_machine.result
    (λ e. cleared_way c.args.way.now u (record u { machine = c.clear_machine.new.machine }) c.in_ok-zero.zero c.clear_machine.new.machine (subst (IsGrown c.args.way.now) (sym c.way-2.view_is) c.in_ok-zero.ensures.grows)
    (rw (sym c.way-2.view_is) at c.in_ok-zero.ensures.term) e refl) c.clear_machine.ensures.ok
