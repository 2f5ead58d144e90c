-- There is still a column.
use Rattle.std.proofs.Common.{◌≡◌, ◌+◌, ◌<◌, List, [], ◌∷◌, length, sym, subst, arith}
use Rattle.kn_cond.specs.Conditions.{Condition}
use Rattle.kn_solve.specs.Formulas.{Asked, to_last}
use Rattle.kn_solve.proofs.Stating.{on_ok}
use Rattle.kn_solve.proofs.tests.add_alternative.Goals as goal

last_some : (d : Condition) (css : List (List Condition)) → 0 < length css → 0 < length (to_last d css)
last_some d [] h = h
last_some d (cs ∷ []) h = omega arith
last_some d (cs ∷ ds ∷ css) h = omega arith

still_open : (d : Condition) (before after : Asked) → 0 < length before.columns → after ≡ record before { columns = to_last d before.columns } → 0 < length after.columns
still_open d before after h is = subst (λ (f : Asked). 0 < length f.columns) (sym is) (last_some d before.columns h)

pub returns : goal.returns
returns c = on_ok c.add_alternative.result _ _ (still_open _ c.args.f.now c.add_alternative.new.self c.requires) c.add_alternative.ensures.ok
