-- What a conflict closes, what a decision adds, and what is found.
use Rattle.std.proofs.Common.{◌≡◌, ◌+◌, ◌<◌, ◌≤◌, ◌∙◌, subst, map, length, arith}
use Rattle.kn_cnf.specs.Formulas.{items_of}
use Rattle.kn_sat.specs.Trails.{latest, bit, count_open}
use Rattle.kn_sat.specs.Order.{spelled}
use Rattle.kn_sat.proofs.Numbers.{rank-below}
use Rattle.kn_sat.proofs.Closes.{lines_of}
use Rattle.kn_sat.proofs.Counts.{count_open-le}
use Rattle.kn_sat.proofs.Refuted.{refuted, refuted_lower, model, stands_grown, spelled_grown, stands_decided, spelled_decided, assigned_decided, count_decided, conflict_later, spent_less}
use Rattle.kn_sat.proofs.searching.run.Goals as goal

pub returns-in_default : goal.returns-in_default
returns-in_default c =
    let cs = map items_of c.args.clauses.now in
    let n = c.args.inputs in
    let old = (c.search.trail).entries in
    let mid = (c.settle.new.trail).entries in
    let grown = c.in_ok-number.ensures.grown in
    let stands = stands_grown n (c.search.trail).vars cs c.search.lines.items old mid c.search.invariant.stands grown in
    let conflict = conflict_later cs (lines_of c.search.lines.items) mid c.in-Conflict.number (rw c.in-Conflict.is at c.in_ok-number.ensures.settled) in
    rw c.in_default.is at (c.in_ok-var-in-Conflict.ensures.closed n stands conflict)

pub returns-then-leaves-budget : goal.returns-then-leaves-budget
returns-then-leaves-budget c =
    let cs = map items_of c.args.clauses.now in
    let n = c.args.inputs in
    let old = (c.search.trail).entries in
    let mid = (c.settle.new.trail).entries in
    let grown = c.in_ok-number.ensures.grown in
    let stands = stands_grown n (c.search.trail).vars cs c.search.lines.items old mid c.search.invariant.stands grown in
    let conflict = conflict_later cs (lines_of c.search.lines.items) mid c.in-Conflict.number (rw c.in-Conflict.is at c.in_ok-number.ensures.settled) in
    let closed = rw c.in-Some.is at (c.in_ok-var-in-Conflict.ensures.closed n stands conflict) in
    let new = (c.close.new.trail).entries in
    let later = spelled_grown n (c.search.trail).vars cs old mid grown in
    let enough : c.args.budget ≤ spelled n (latest new) = omega (arith, c.search.invariant.counted, later, closed.later, c.if-leaves-budget.true) in
    (c.if-leaves-budget.true, omega (arith, enough, rank-below (bit (latest new)) 0 n), refuted_lower n cs c.args.budget (spelled n (latest new)) enough (refuted n cs c.close.new.lines.items new closed.stands))

pub search-smaller-in-Conflict : goal.search-smaller-in-Conflict
search-smaller-in-Conflict c =
    let new = (c.close.new.trail).entries in
    let old = (c.search.trail).entries in
    spent_less c.args.budget c.search.leaves c.args.vars (count_open c.args.vars (latest new)) (count_open c.args.vars (latest old)) c.search.invariant.left (count_open-le c.args.vars (latest new))

pub search-preserved-in-Conflict : goal.search-preserved-in-Conflict
search-preserved-in-Conflict c =
    let cs = map items_of c.args.clauses.now in
    let n = c.args.inputs in
    let old = (c.search.trail).entries in
    let mid = (c.settle.new.trail).entries in
    let grown = c.in_ok-number.ensures.grown in
    let stands = stands_grown n (c.search.trail).vars cs c.search.lines.items old mid c.search.invariant.stands grown in
    let conflict = conflict_later cs (lines_of c.search.lines.items) mid c.in-Conflict.number (rw c.in-Conflict.is at c.in_ok-number.ensures.settled) in
    let closed = rw c.in-Some.is at (c.in_ok-var-in-Conflict.ensures.closed n stands conflict) in
    let new = (c.close.new.trail).entries in
    let later = spelled_grown n (c.search.trail).vars cs old mid grown in
    record {
      vars = c.close.ensures.vars ∙ (c.settle.ensures.vars ∙ c.search.invariant.vars);
      stands = closed.stands;
      counted = omega (arith, c.search.invariant.counted, later, closed.later);
      next = closed.before;
      left = omega (arith, c.search.invariant.left, c.if-leaves-budget.false);
    }

pub search-smaller : goal.search-smaller
search-smaller c =
    let cs = map items_of c.args.clauses.now in
    let n = c.args.inputs in
    let old = (c.search.trail).entries in
    let mid = (c.settle.new.trail).entries in
    let grown = c.in_ok-number.ensures.grown in
    let at = rw c.in-Open.is at c.in_ok-number.ensures.settled in
    let q = c.in-Open.var in
    let new = (c.assign.new.self).entries in
    let inside : q < c.args.vars = omega (arith, at.input, c.requires.inputs) in
    let is = c.in_ok-assign-in-Open.ensures.entries in
    let fewer = count_decided n c.args.vars cs c.search.lines.items mid new q at.input inside at.opens at.before is in
    let count = subst (λ k. count_open k (latest mid) + length mid ≡ count_open k (latest old) + length old) c.search.invariant.vars grown.count in
    omega (arith, fewer, count, grown.longer)

pub search-preserved : goal.search-preserved
search-preserved c =
    let cs = map items_of c.args.clauses.now in
    let n = c.args.inputs in
    let old = (c.search.trail).entries in
    let mid = (c.settle.new.trail).entries in
    let grown = c.in_ok-number.ensures.grown in
    let stands = stands_grown n (c.search.trail).vars cs c.search.lines.items old mid c.search.invariant.stands grown in
    let at = rw c.in-Open.is at c.in_ok-number.ensures.settled in
    let q = c.in-Open.var in
    let new = (c.assign.new.self).entries in
    let inside : q < c.args.vars = omega (arith, at.input, c.requires.inputs) in
    let is = c.in_ok-assign-in-Open.ensures.entries in
    let later = spelled_grown n (c.search.trail).vars cs old mid grown in
    record {
      vars = c.assign.ensures.vars ∙ (c.settle.ensures.vars ∙ c.search.invariant.vars);
      stands = stands_decided n c.args.vars cs c.search.lines.items mid new q at.input inside at.opens at.before is stands;
      counted = omega (arith, c.search.invariant.counted, later, spelled_decided n c.args.vars cs c.search.lines.items mid new q at.input inside at.opens at.before is);
      next = assigned_decided n c.args.vars cs c.search.lines.items mid new q at.input inside at.opens at.before is;
      left = c.search.invariant.left;
    }

pub returns-in-Calm : goal.returns-in-Calm
returns-in-Calm c =
    let cs = map items_of c.args.clauses.now in
    let n = c.args.inputs in
    let old = (c.search.trail).entries in
    let mid = (c.settle.new.trail).entries in
    let grown = c.in_ok-number.ensures.grown in
    let stands = stands_grown n (c.search.trail).vars cs c.search.lines.items old mid c.search.invariant.stands grown in
    let settled = rw c.in-Calm.is at c.in_ok-number.ensures.settled in
    model n c.args.vars cs c.search.lines.items mid c.in_ok-bits_of-in-Calm.field-0.items c.requires.below c.requires.decided stands settled.1 settled.0 c.in_ok-bits_of-in-Calm.ensures
