-- What the line closes.
use Rattle.std.proofs.Common.{rules, arith, map, ◌≡◌, ◌+◌, length}
use Rattle.std.proofs.lemmas.List.{length-map}
use Rattle.std.proofs.lemmas.Result.{IfOk-weaker}
use Rattle.kn_cnf.specs.Formulas.{items_of}
use Rattle.kn_sat.proofs.Closes.{close, all_closed}
use Rattle.kn_sat.proofs.closing.close.Goals as goal

pub returns-in-Some-latest-clause-closed : goal.returns-in-Some-latest-clause-closed
returns-in-Some-latest-clause-closed c = λ n stands conflict.
    let sum : c.in-Some.number ≡ length c.args.clauses.now + length c.args.lines.now.items = search rules in
    let number : c.in-Some.number ≡ length (map items_of c.args.clauses.now) + length c.args.lines.now.items = omega (arith, sum, length-map c.args.clauses.now items_of) in
    let rest = (rw (c.entries.ensures, c.deref.ensures.value) at c.in_ok-line.ensures) n stands.trail conflict in
    IfOk-weaker c.flip.result _ _ (λ o m. close n (map items_of c.args.clauses.now) c.args.lines.now.items c.push.new.self.items c.in_ok-line.line c.args.trail.now.entries c.flip.new.trail.entries c.args.conflict c.in-Some.number c.in_ok-line.latest
    stands rest c.in_ok-push.ensures.items number c.in-Some-latest.place c.in-Some-latest.is o m) c.flip.ensures.turned

pub returns-in-None-clause-closed : goal.returns-in-None-clause-closed
returns-in-None-clause-closed c = λ n stands conflict.
    let sum : c.in-Some.number ≡ length c.args.clauses.now + length c.args.lines.now.items = search rules in
    let number : c.in-Some.number ≡ length (map items_of c.args.clauses.now) + length c.args.lines.now.items = omega (arith, sum, length-map c.args.clauses.now items_of) in
    let rest = (rw (c.entries.ensures, c.deref.ensures.value) at c.in_ok-line.ensures) n stands.trail conflict in
    all_closed n (map items_of c.args.clauses.now) c.args.lines.now.items c.push.new.self.items c.in_ok-line.line c.args.trail.now.entries c.args.trail.now.entries c.args.conflict c.in-Some.number c.in_ok-line.latest stands rest c.in_ok-push.ensures.items number c.in-None.is
