-- A clause that was found calm before its end.
use Rattle.std.proofs.Common.{◌+◌, false, take, sym, subst}
use Rattle.std.proofs.lemmas.List.{take_more}
use Rattle.kn_cnf.specs.declared.clauses.Lit.{Lit}
use Rattle.kn_sat.specs.Trails.{latest}
use Rattle.kn_cnf.specs.States.{IsCalm}
use Rattle.kn_cnf.proofs.Literals.{calm_whole}
use Rattle.kn_sat.proofs.propagation.state_of.Goals as goal

pub returns-in-Other : goal.returns-in-Other
returns-in-Other c =
    let d : Lit = record { var = 0; neg = false } in
    let ls = latest (c.args.trail.now).entries in
    let front = take c.loop-l.l-index c.args.clause.now in
    let next = c.in-Other.ensures ls front c.value.ensures c.loop-l.invariant in
    calm_whole ls c.args.clause.now (c.loop-l.l-index + 1) (subst (IsCalm ls) (sym (take_more c.args.clause.now c.loop-l.l-index d c.loop-l-test.true)) next)
