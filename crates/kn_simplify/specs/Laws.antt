-- What an operator gives where something is known of its operands.
use Rattle.std.specs.Prelude.{◌≡◌, ◌⊎◌, ℕ, Bool, true, false, Option, Some, None}
use Rattle.kn_word.specs.declared.Op.{Op}
use Rattle.kn_simplify.specs.Folded.{is_idle, is_idle_twice}
use Rattle.kn_simplify.specs.declared.laws.Outcome.{Outcome}
use Rattle.kn_simplify.specs.declared.laws.Outcome.TheVariants as outcomes

-- the word of an outcome with these words on both sides
abbrev pub outcome_word : Outcome → ℕ → ℕ → ℕ
outcome_word (outcomes.Word w) x y = w
outcome_word outcomes.Left x y = x
outcome_word outcomes.Right x y = y

-- an operand that may be known has a word
abbrev pub IsWordOf : Option ℕ → ℕ → Type 0
IsWordOf None x = Unit {0}
IsWordOf (Some w) x = x ≡ w

-- an operand is not known to be a word
abbrev pub IsUnknown : Option ℕ → Type 0
IsUnknown None = Unit {0}
IsUnknown (Some w) = ⊥

-- An operator is needed as far as is known of its operands: not both are words, with neither is it idle, and it is not
-- idle with the same on both sides.
pub record MayBeNeeded (op : Op) (x y : Option ℕ) (same : Bool) : Type 0 where
  pub words : IsUnknown x ⊎ IsUnknown y
  pub left : (w : ℕ) → x ≡ Some w → is_idle op w ≡ false
  pub right : (w : ℕ) → y ≡ Some w → is_idle op w ≡ false
  pub twice : same ≡ true → IsUnknown x → IsUnknown y → is_idle_twice op ≡ false
