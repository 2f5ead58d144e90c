-- Terms in which no constant is left to fold.
use Rattle.std.specs.Prelude.{ℕ, ◌≡◌, ◌⊎◌, Bool, true, false, List, nat_eq}
use Rattle.kn_word.specs.declared.Op.{Op}
use Rattle.kn_word.specs.declared.Op.TheVariants as ops
use Rattle.kn_term.specs.declared.node.Node.{Node}
use Rattle.kn_term.specs.declared.node.Ref.{Ref}
use Rattle.kn_term.specs.Terms.{Term, Word, Input, Apply, Choice}
use Rattle.kn_term.specs.Nodes.{term_at}
use Rattle.kn_term.specs.Reached.{IsOperand, IsAmong}

-- a term is a word
abbrev pub IsWord : Term → Type 0
IsWord (Word w) = Unit {0}
IsWord (Input n k width) = ⊥
IsWord (Apply op x y) = ⊥
IsWord (Choice c x y) = ⊥

-- a term is a word, or this other term
abbrev pub IsWordOr : Term → Term → Type 0
IsWordOr other t = IsWord t ⊎ (t ≡ other)

-- with this word on one side an operator, which does not mind the order, always gives the other operand or this word
abbrev pub is_idle : Op → ℕ → Bool
is_idle ops.Add w = nat_eq w 0
is_idle ops.Mul w = nat_eq w 1
is_idle ops.And w = nat_eq w 0
is_idle ops.Or w = nat_eq w 0
is_idle op w = false

-- with one operand on both sides an operator always gives this operand or one word
abbrev pub is_idle_twice : Op → Bool
is_idle_twice ops.Sub = true
is_idle_twice ops.And = true
is_idle_twice ops.Or = true
is_idle_twice ops.Xor = true
is_idle_twice ops.Urem = true
is_idle_twice ops.Eq = true
is_idle_twice ops.Ult = true
is_idle_twice ops.Slt = true
is_idle_twice op = false

-- an operator on two terms is needed: they are not both words, and with neither is it idle
pub record IsNeeded (op : Op) (x y : Term) : Type 0 where
  pub words : IsWord x → IsWord y → ⊥
  pub left : (w : ℕ) → x ≡ Word w → is_idle op w ≡ false
  pub right : (w : ℕ) → y ≡ Word w → is_idle op w ≡ false

-- at its top there is no operator that is not needed, and no choice by a word
abbrev pub IsFoldedTop : Term → Type 0
IsFoldedTop (Word w) = Unit {0}
IsFoldedTop (Input n k width) = Unit {0}
IsFoldedTop (Apply op x y) = IsNeeded op x y
IsFoldedTop (Choice c x y) = IsWord c → ⊥

-- nowhere in it is there an operator that is not needed, or a choice by a word
abbrev pub IsFolded : Term → Type 0
IsFolded (Word w) = Unit {0}
IsFolded (Input n k width) = Unit {0}
IsFolded (Apply op x y) = IsNeeded op x y × IsFolded x × IsFolded y
IsFolded (Choice c x y) = (IsWord c → ⊥) × IsFolded c × IsFolded x × IsFolded y

-- its operands are folded, if it has any
abbrev pub HasFoldedOperands : Term → Type 0
HasFoldedOperands (Word w) = Unit {0}
HasFoldedOperands (Input n k width) = Unit {0}
HasFoldedOperands (Apply op x y) = IsFolded x × IsFolded y
HasFoldedOperands (Choice c x y) = IsFolded c × IsFolded x × IsFolded y

-- what stands for a place is folded
abbrev pub IsFoldedFor : List Node → (ℕ → Ref) → ℕ → Type 0
IsFoldedFor ns to place = IsFolded (term_at ns (to place).index)

-- what stands for a node's operands is folded
abbrev pub HasFoldedFor : List Node → (ℕ → Ref) → Node → Type 0
HasFoldedFor ns to n = (place : ℕ) → IsOperand n place → IsFoldedFor ns to place

-- what stands for these places is folded
abbrev pub AreFolded : List Node → (ℕ → Ref) → List ℕ → Type 0
AreFolded ns to places = (place : ℕ) → IsAmong places place → IsFoldedFor ns to place
