-- Words that are added one after the other, as one addition.
use Rattle.std.specs.Prelude.{◌≡◌, ℕ, ◌<◌, List, length}
use Rattle.kn_word.specs.declared.Op.{Op}
use Rattle.kn_word.specs.declared.Op.TheVariants as ops
use Rattle.kn_word.specs.Words.{val}
use Rattle.kn_term.specs.declared.node.Node.{Node}
use Rattle.kn_term.specs.Terms.{Term, Word, Apply}
use Rattle.kn_term.specs.Nodes.{term_at}
use Rattle.kn_simplify.specs.Folded.{IsFolded, HasFoldedOperands}
use Rattle.kn_simplify.specs.Simpler.{StandsFor}
use Rattle.kn_simplify.specs.declared.sums.Sum.{Sum}

-- an operator with a term on its right, which is a word, adds this word to what is on its left
pub record IsAdded (op : Op) (t : Term) (k : ℕ) : Type 0 where
  pub word : ℕ
  pub is : t ≡ Word word
  pub bound : k < 65536
  pub value : (x : ℕ) → x < 65536 → val ops.Add x k ≡ val op x word

-- a term of the list with a word added to it
abbrev pub sum_term : List Node → Sum → Term
sum_term ns s = Apply ops.Add (term_at ns s.base.index) (Word s.word)

-- this may stand for a term, and is over what is folded where the term's operands are
pub record IsSumOf (ns : List Node) (t : Term) (s : Sum) : Type 0 where
  pub stands : s.base.index < length ns
  pub term : StandsFor (sum_term ns s) t
  pub folded : HasFoldedOperands t → IsFolded (term_at ns s.base.index)
