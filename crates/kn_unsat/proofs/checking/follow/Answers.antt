-- What each hint does.
use Rattle.std.proofs.Common.{◌∷◌, not, refl}
use Rattle.std.specs.Prelude.{nat_eq}
use Rattle.std.specs.HashMap.{get}
use Rattle.kn_cnf.specs.Good.{before}
use Rattle.kn_unsat.proofs.Falsified.{valued_more}
use Rattle.kn_unsat.proofs.Hints.{follow_none, follow_other, follow_false, follow_unit}
use Rattle.kn_unsat.proofs.checking.follow.Goals as goal

pub returns-in_default : goal.returns-in_default
returns-in_default c = λ ls assigned.
    let so_far = c.loop-place.invariant ls assigned in
    follow_none (before c.args.clauses.now c.args.earlier.now) ls so_far.0 c.args.hints.now c.loop-place.place c.loop-place-test.true (so_far.2, so_far.3) c.in_default.ensures

pub returns-in-False : goal.returns-in-False
returns-in-False c = λ ls assigned.
    let so_far = c.loop-place.invariant ls assigned in
    follow_false (before c.args.clauses.now c.args.earlier.now) ls so_far.0 c.args.hints.now c.loop-place.place c.loop-place-test.true (so_far.2, so_far.3) c.in-Some.clause.now c.in-Some.ensures (c.in-False.ensures so_far.0 so_far.1)

pub returns-in-Other : goal.returns-in-Other
returns-in-Other c = λ ls assigned.
    let so_far = c.loop-place.invariant ls assigned in
    follow_other (before c.args.clauses.now c.args.earlier.now) ls so_far.0 c.args.hints.now c.loop-place.place c.loop-place-test.true (so_far.2, so_far.3) c.in-Some.clause.now c.in-Some.ensures (c.in-Other.ensures so_far.0 so_far.1)

pub loop-place-preserved : goal.loop-place-preserved
loop-place-preserved c = λ ls assigned.
    let so_far = c.loop-place.invariant ls assigned in
    let step = follow_unit (before c.args.clauses.now c.args.earlier.now) ls so_far.0 c.args.hints.now c.loop-place.place c.loop-place-test.true (so_far.2, so_far.3) c.in-Some.clause.now c.in-Unit.l c.in-Some.ensures (c.in-Unit.ensures so_far.0 so_far.1) in
    let more = valued_more (get nat_eq c.loop-place.assigned) (get nat_eq c.insert.new.self) so_far.0 c.in-Unit.l (not (c.in-Unit.l).neg) so_far.1 refl c.in_ok-insert-in-Unit.ensures.updates.0 in
    (c.in-Unit.l ∷ so_far.0, more, step.0, step.1)
