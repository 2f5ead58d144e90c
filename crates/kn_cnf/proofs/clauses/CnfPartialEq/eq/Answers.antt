-- Two formulas are equal exactly where `==` says so.
use Rattle.std.proofs.Common.{Bool, ◌&&◌, eqb, ap, ◌∙◌}
use Rattle.std.proofs.lemmas.Bool.Decides.{Decides-eqb}
use Rattle.kn_cnf.proofs.Equal.{pointwise_items, formula_decides}
use Rattle.kn_cnf.proofs.clauses.CnfPartialEq.eq.Goals as goal

pub returns-clause-eq : goal.returns-clause-eq
returns-clause-eq c =
    rw (← c.self.view_is, ← c.other.view_is) (c.both.ensures ∙ ap (λ (b : Bool). eqb c.self.inside.vars c.other.inside.vars && b) (c.eq.ensures ∙ pointwise_items c.self.inside.clauses.items c.other.inside.clauses.items))

pub returns-clause-same : goal.returns-clause-same
returns-clause-same c =
    rw (← c.self.view_is, ← c.other.view_is) (formula_decides _ _ _ c.eq.result c.both.result (Decides-eqb c.self.inside.vars c.other.inside.vars) (c.eq.ensures ∙ pointwise_items c.self.inside.clauses.items c.other.inside.clauses.items) c.both.ensures)
