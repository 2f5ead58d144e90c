-- What is known of the two sides of a decision.
use Rattle.std.specs.Prelude.{◌≡◌, ℕ, true, [], ◌∷◌, ◌++◌, Option, Some, None}
use Rattle.kn_term.specs.Terms.{Term, Valuation}
use Rattle.kn_cond.specs.Literals.{Literal, negated}
use Rattle.kn_cond.specs.Conditions.{Condition, holds, literal_holds, that, StandsFor}
use Rattle.kn_cond.specs.declared.standing.Standing.{Standing}
use Rattle.kn_step.specs.declared.deciding.Sides.{Sides}
use Rattle.kn_step.specs.declared.deciding.Sides.TheVariants as sides

-- a literal says nothing that a condition does not say
abbrev pub Implies : Condition → Literal Term → Type 0
Implies c l = (a : Valuation) → holds a c ≡ true → literal_holds a l ≡ true

-- a condition implies a literal, or the literal says more, and so much is known of both together
abbrev pub IsFurther : ℕ → Condition → Literal Term → Option Standing → Type 0
IsFurther conflicts c l None = Implies c l
IsFurther conflicts c l (Some s) = StandsFor conflicts (that (c ++ l ∷ [])) s

-- a condition implies a literal, or its negation, or so much is known of it with either
abbrev pub AreSides : ℕ → Condition → Literal Term → Sides → Type 0
AreSides conflicts c l sides.First = Implies c l
AreSides conflicts c l sides.Second = Implies c (negated l)
AreSides conflicts c l (sides.Both s t) = StandsFor conflicts (that (c ++ l ∷ [])) s × StandsFor conflicts (that (c ++ negated l ∷ [])) t
