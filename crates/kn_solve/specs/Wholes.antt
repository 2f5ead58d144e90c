-- A formula as one term: 1 where the inputs meet it, else 0.
use Rattle.std.specs.Prelude.{if◌then◌else◌, List, [], ◌∷◌}
use Rattle.kn_term.specs.Terms.{Term, Word, Choice}
use Rattle.kn_cond.specs.Literals.{Literal}
use Rattle.kn_cond.specs.Conditions.{Condition}
use Rattle.kn_solve.specs.Formulas.{Asked}

-- a list that is taken into a term, element by element
abbrev pub taken_in : {X : Type 0} → (X → Term → Term) → List X → Term → Term
taken_in f [] t = t
taken_in f (x ∷ xs) t = taken_in f xs (f x t)

-- a term where a literal holds, else 0
abbrev pub with_literal : Literal Term → Term → Term
with_literal l t = if l.truth then Choice l.value t (Word 0) else Choice l.value (Word 0) t

-- a term where a condition holds, else 0
abbrev pub with_condition : Condition → Term → Term
with_condition c t = taken_in with_literal c t

-- 1 where an alternative holds, else a term
abbrev pub with_alternative : Condition → Term → Term
with_alternative c t = Choice (with_condition c (Word 1)) (Word 1) t

-- 1 where some alternative of a column holds, else 0
abbrev pub some_alternative : List Condition → Term
some_alternative cs = taken_in with_alternative cs (Word 0)

-- a term where some alternative of a column holds, else 0
abbrev pub with_column : List Condition → Term → Term
with_column cs t = Choice (some_alternative cs) t (Word 0)

-- a term where each column has an alternative that holds, else 0
abbrev pub with_columns : List (List Condition) → Term → Term
with_columns css t = taken_in with_column css t

-- the term of a formula
abbrev pub whole : Asked → Term
whole f = with_columns f.columns (with_condition f.condition (Word 1))
