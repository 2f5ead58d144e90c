-- A clause that is unit, and one that is not.
use Rattle.std.proofs.Common.{List, map, subst, refl}
use Rattle.kn_cnf.specs.declared.clauses.Lit.{Lit}
use Rattle.kn_cnf.specs.Formulas.{items_of}
use Rattle.kn_cnf.specs.Units.{IsUnit}
use Rattle.kn_sat.specs.Trails.{latest}
use Rattle.kn_cnf.specs.States.{IsState}
use Rattle.kn_sat.proofs.Clauses.{clause_at, literal_below, visited_still}
use Rattle.kn_sat.proofs.Counts.{grown_same, grown_unit}
use Rattle.kn_sat.proofs.propagation.visit.Goals as goal

pub assign-requires-clause-var : goal.assign-requires-clause-var
assign-requires-clause-var c =
    let cs = map items_of c.args.clauses.now in
    let v = c.index-clauses-number.result in
    let at = clause_at c.args.clauses.now c.args.number v c.requires.number c.index-clauses-number.is in
    let unit = subst (λ (d : List Lit). IsUnit (latest (c.args.trail.now).entries) d c.in-Unit.l) c.deref.ensures.value c.in-Unit.ensures in
    literal_below (c.args.trail.now).vars cs c.args.number v.items c.in-Unit.l c.requires.below at unit.has

pub returns-in_ok-assign-clause-grown : goal.returns-in_ok-assign-clause-grown
returns-in_ok-assign-clause-grown c =
    let cs = map items_of c.args.clauses.now in
    let v = c.index-clauses-number.result in
    let at = clause_at c.args.clauses.now c.args.number v c.requires.number c.index-clauses-number.is in
    let unit = subst (λ (d : List Lit). IsUnit (latest (c.args.trail.now).entries) d c.in-Unit.l) c.deref.ensures.value c.in-Unit.ensures in
    grown_unit cs (c.args.trail.now).vars (c.args.trail.now).entries (c.assign.new.self).entries v.items c.in-Unit.l c.args.number at unit (literal_below (c.args.trail.now).vars cs c.args.number v.items c.in-Unit.l c.requires.below at unit.has) c.in_ok-assign.ensures.entries

pub returns-in_default : goal.returns-in_default
returns-in_default c =
    let cs = map items_of c.args.clauses.now in
    let v = c.index-clauses-number.result in
    let at = clause_at c.args.clauses.now c.args.number v c.requires.number c.index-clauses-number.is in
    let stood = subst (λ (d : List Lit). IsState (latest (c.args.trail.now).entries) d c.state_of-state.result) c.deref.ensures.value c.state_of-state.ensures in
    record {
      vars = refl;
      grown = grown_same cs (c.args.trail.now).vars (c.args.trail.now).entries;
      visited = visited_still cs c.args.number (c.args.trail.now).entries v.items c.state_of-state.result at stood c.in_default.not-Unit;
    }
