-- The term of a formula reads what the formula reads.
use Rattle.std.proofs.Common.{◌≡◌, ℕ, Bool, true, false, List, [], ◌∷◌, ◌++◌, flat_map, max, ap, ◌∙◌, arith}
use Rattle.std.specs.Prelude.{if◌then◌else◌}
use Rattle.kn_term.specs.Terms.{Term, Word, Choice}
use Rattle.kn_cond.specs.Literals.{Literal}
use Rattle.kn_cond.specs.Conditions.{Condition, Read, reads_in, reads_of}
use Rattle.kn_solve.specs.Formulas.{Asked}
use Rattle.kn_solve.specs.Wholes.{taken_in, with_literal, with_condition, with_alternative, some_alternative, with_column, whole}
use Rattle.kn_solve.proofs.Widest.{greatest, greatest_append}

-- the greatest width with which a term reads an input
abbrev widest_in : Term → ℕ → ℕ → ℕ
widest_in t n k = greatest (reads_in t) n k

choice_widest : (c x y : Term) (n k : ℕ) → widest_in (Choice c x y) n k ≡ max (widest_in c n k) (max (widest_in x n k) (widest_in y n k))
choice_widest c x y n k = greatest_append (reads_in c) (reads_in x ++ reads_in y) n k ∙ ap (max (widest_in c n k)) (greatest_append (reads_in x) (reads_in y) n k)

-- what is taken in reads what the elements read, and the term
taken_widest : {X : Type 0} → (f : X → Term → Term) (h : X → List Read) (n k : ℕ) → ((x : X) (t : Term) → widest_in (f x t) n k ≡ max (greatest (h x) n k) (widest_in t n k)) → (xs : List X) (t : Term) → widest_in (taken_in f xs t) n k ≡ max (greatest (flat_map h xs) n k) (widest_in t n k)
taken_widest f h n k step [] t = omega arith
taken_widest f h n k step (x ∷ xs) t = omega (arith, taken_widest f h n k step xs (f x t), step x t, greatest_append (h x) (flat_map h xs) n k)

literal_widest : (n k : ℕ) (l : Literal Term) (t : Term) → widest_in (with_literal l t) n k ≡ max (greatest (reads_in l.value) n k) (widest_in t n k)
literal_widest n k l t = go l.truth where
  go : (truth : Bool) → widest_in (if truth then Choice l.value t (Word 0) else Choice l.value (Word 0) t) n k ≡ max (greatest (reads_in l.value) n k) (widest_in t n k)
  go true = omega (arith, choice_widest l.value t (Word 0) n k)
  go false = omega (arith, choice_widest l.value (Word 0) t n k)

condition_widest : (n k : ℕ) (c : Condition) (t : Term) → widest_in (with_condition c t) n k ≡ max (greatest (reads_of c) n k) (widest_in t n k)
condition_widest n k c t = taken_widest with_literal (λ (l : Literal Term). reads_in l.value) n k (literal_widest n k) c t

alternative_widest : (n k : ℕ) (c : Condition) (t : Term) → widest_in (with_alternative c t) n k ≡ max (greatest (reads_of c) n k) (widest_in t n k)
alternative_widest n k c t = omega (arith, choice_widest (with_condition c (Word 1)) (Word 1) t n k, condition_widest n k c (Word 1))

column_widest : (n k : ℕ) (cs : List Condition) (t : Term) → widest_in (with_column cs t) n k ≡ max (greatest (flat_map reads_of cs) n k) (widest_in t n k)
column_widest n k cs t = omega (arith, choice_widest (some_alternative cs) t (Word 0) n k, taken_widest with_alternative reads_of n k (alternative_widest n k) cs (Word 0))

-- all that a formula reads
abbrev pub all_reads : Asked → List Read
all_reads f = reads_of f.condition ++ flat_map (λ cs. flat_map reads_of cs) f.columns

pub whole_widest : (f : Asked) (n k : ℕ) → greatest (reads_in (whole f)) n k ≡ greatest (all_reads f) n k
whole_widest f n k =
    omega (arith, taken_widest with_column (λ cs. flat_map reads_of cs) n k (column_widest n k) f.columns (with_condition f.condition (Word 1)), condition_widest n k f.condition (Word 1), greatest_append (reads_of f.condition) (flat_map (λ cs. flat_map reads_of cs) f.columns) n k)
