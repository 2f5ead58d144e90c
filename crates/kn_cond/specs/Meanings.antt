-- What literals over a list of terms mean: literals over the terms that they name.
use Rattle.std.specs.Prelude.{◌≡◌, ℕ, ◌<◌, List, map, length, slice_get, Some}
use Rattle.kn_term.specs.declared.node.Node.{Node}
use Rattle.kn_term.specs.declared.node.Literal.{Literal as Listed}
use Rattle.kn_term.specs.Terms.{Term}
use Rattle.kn_term.specs.Nodes.{term_at}
use Rattle.kn_cond.specs.Literals.{Literal}
use Rattle.kn_cond.specs.Conditions.{Condition}

-- a literal's term in a list of terms, with its truth
abbrev pub literal_of : List Node → Listed → Literal Term
literal_of ns l = record { value = term_at ns l.term.index; truth = l.truth }

-- the condition of literals over a list of terms
abbrev pub condition_of : List Node → List Listed → Condition
condition_of ns ls = map (literal_of ns) ls

-- each literal's term stands in the list of terms
abbrev pub StandIn : List Node → List Listed → Type 0
StandIn ns ls = (place : ℕ) (l : Listed) → slice_get ls place ≡ Some l → l.term.index < length ns
