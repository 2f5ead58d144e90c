-- A literal more, or one that is true by then.
use Rattle.std.proofs.Common.{[], ◌+◌, List, false, take, get_or, sym, subst}
use Rattle.std.specs.Prelude.{nat_eq}
use Rattle.std.specs.HashMap.{get}
use Rattle.std.proofs.lemmas.List.{take_more}
use Rattle.kn_cnf.specs.declared.clauses.Lit.{Lit}
use Rattle.kn_cnf.specs.Units.{negated}
use Rattle.kn_unsat.specs.Assigned.{Assigns}
use Rattle.kn_cnf.specs.Good.{falsified, HasBoth}
use Rattle.kn_unsat.proofs.Falsified.{both_here, none_here, both_whole, valued_more, falsified_more}
use Rattle.kn_cnf.proofs.Literals.{not_not}
use Rattle.kn_unsat.proofs.checking.falsify.Goals as goal

pub returns-then-is_true : goal.returns-then-is_true
returns-then-is_true c =
    let d : Lit = record { var = 0; neg = false } in
    let xs = take c.loop-l.l-index c.args.clause.now in
    let y = get_or c.args.clause.now c.loop-l.l-index d in
    let here = both_here xs y (c.if-is_true.ensures (falsified [] xs) c.loop-l.invariant.assigned) in
    both_whole (c.loop-l.l-index + 1) c.args.clause.now (subst HasBoth (sym (take_more c.args.clause.now c.loop-l.l-index d c.loop-l-test.true)) here)

pub loop-l-preserved : goal.loop-l-preserved
loop-l-preserved c =
    let d : Lit = record { var = 0; neg = false } in
    let xs = take c.loop-l.l-index c.args.clause.now in
    let y = get_or c.args.clause.now c.loop-l.l-index d in
    let more = take_more c.args.clause.now c.loop-l.l-index d c.loop-l-test.true in
    let assigned = valued_more (get nat_eq c.loop-l.assigned) (get nat_eq c.insert.new.self) (falsified [] xs) (negated y) y.neg c.loop-l.invariant.assigned (sym (not_not y.neg)) c.in_ok-insert.ensures.updates.0 in
    record {
      apart = subst (λ (front : List Lit). HasBoth front → ⊥) (sym more) (none_here xs y c.loop-l.invariant.apart (c.if-is_true.ensures (falsified [] xs) c.loop-l.invariant.assigned));
      assigned = subst (λ (front : List Lit). Assigns c.insert.new.self (falsified [] front)) (sym more) (subst (Assigns c.insert.new.self) (sym (falsified_more [] xs y)) assigned);
    }
