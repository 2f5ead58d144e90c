-- The laws of command lines, as statements. Each is proved where a function of this crate has it as its contract.
use Rattle.std.specs.Prelude.{◌≡◌, ◌<◌, ℕ, List}
use Rattle.kn_words.specs.Lines.{IsLine}
use Rattle.kn_words.specs.declared.line.Line.{Line}
use Rattle.kn_words.specs.declared.line.Line.TheVariants as lines

-- words ask for one thing
abbrev pub OneLine : Type 0
OneLine = (a b : Line) (words : List (List ℕ)) → IsLine a words → IsLine b words → a ≡ b

-- the number of a line is one of which the generator makes a network
abbrev pub MadeInRange : Type 0
MadeInRange = (number : ℕ) (words : List (List ℕ)) → (IsLine (lines.Make number) words → number < 36) × (IsLine (lines.ExploreMade number) words → number < 36)
