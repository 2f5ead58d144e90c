-- The clauses' variables are the trail's, and what is assigned stays so.
use Rattle.std.proofs.Common.{map, subst, sym, ◌∙◌}
use Rattle.kn_cnf.specs.Formulas.{items_of, AreBelow}
use Rattle.kn_sat.proofs.Counts.{assigned_grown}
use Rattle.kn_sat.proofs.propagation.settle.Goals as goal

pub open_input-requires : goal.open_input-requires
open_input-requires c =
    let cs = map items_of c.args.clauses.now in
    let old = (c.args.trail.now).entries in
    let mid = (c.settle.trail).entries in
    let new = (c.follow.new.trail).entries in
    let all = assigned_grown c.args.next (c.args.trail.now).vars cs old mid c.settle.invariant.grown c.requires.next in
    assigned_grown c.args.next (c.settle.trail).vars cs mid new c.in_ok-number.ensures.grown all

pub visit_all-requires : goal.visit_all-requires
visit_all-requires c = record { below = subst (λ n. AreBelow n (map items_of c.args.clauses.now)) (sym (c.follow.ensures.vars ∙ c.settle.invariant.vars)) c.requires.below }

pub returns-in-Calm-clause-settled : goal.returns-in-Calm-clause-settled
returns-in-Calm-clause-settled c =
    let cs = map items_of c.args.clauses.now in
    let mid = (c.follow.new.trail).entries in
    let new = (c.visit_all.new.trail).entries in
    (assigned_grown c.args.inputs (c.follow.new.trail).vars cs mid new c.in_ok-number-2.ensures.grown c.in_default-open_input.ensures, rw c.in-Calm.is at c.in_ok-number-2.ensures.scanned)
