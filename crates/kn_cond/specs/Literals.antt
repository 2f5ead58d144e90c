-- Literals: that a value is not 0, or that it is. A value is a word, or a term over inputs that are not known yet.
use Rattle.std.specs.Prelude.{ℕ, Bool, not, nat_eq, if◌then◌else◌}

-- a value, and whether it is not 0
pub record Literal (V : Type 0) : Type 0 where
  pub value : V
  pub truth : Bool

-- the other answer
abbrev pub negated : {V : Type 0} → Literal V → Literal V
negated l = record l { truth = not l.truth }

-- both are true, or both are false
abbrev pub same_bit : Bool → Bool → Bool
same_bit b c = if b then c else not c

-- a literal over words holds where the word is not 0 exactly where the truth is true
abbrev pub word_holds : Literal ℕ → Bool
word_holds l = same_bit (not (nat_eq l.value 0)) l.truth
