-- What an exploration gives: the scenarios at the last tick as they are kept.
use Rattle.std.specs.Prelude.{◌≡◌, ◌⊎◌, ℕ, ◌+◌, ◌≤◌, Bool, List, [], ◌∷◌, length, map, Contains}
use Rattle.std.specs.List.{AllByRecursion}
use Rattle.std.specs.Cmp.Lexicographic.{slice_cmp}
use Rattle.kn_term.specs.Terms.{Term}
use Rattle.kn_cond.specs.Conditions.{that, StandsFor}
use Rattle.kn_node.specs.Views.{ConfigView}
use Rattle.kn_model.specs.Nodes.{Node}
use Rattle.kn_model.specs.Nets.{Network}
use Rattle.kn_model.specs.Scenarios.{Scenario, name_of}
use Rattle.kn_model.specs.Alikes.{Alike}
use Rattle.kn_model.specs.Cores.{HasImpossible}
use Rattle.kn_model.specs.Shapes.{IsLost}
use Rattle.kn_model.specs.Reports.{ends, Rises, trace_cmp}
use Rattle.kn_machine.specs.Views.{own_of, state_of}

-- what is kept of node n, and the definition's node: alike, and what is known of its own condition is right
pub record IsEnd (net : Network) (n : ℕ) (c : ConfigView) (y : Node Term) : Type 0 where
  pub of_node : c.node ≡ n
  pub alike : Alike (state_of c) y.state
  pub standing : StandsFor net.limits.conflicts (that (own_of c)) c.standing

-- the nodes from n on, one by one
abbrev pub AreEnds : Network → ℕ → List ConfigView → List (Node Term) → Type 0
AreEnds net n [] [] = Unit {0}
AreEnds net n [] (y ∷ ys) = ⊥
AreEnds net n (c ∷ cs) [] = ⊥
AreEnds net n (c ∷ cs) (y ∷ ys) = IsEnd net n c y × AreEnds net (n + 1) cs ys

-- These are of some of the scenarios, in their order; one that is left out has a node whose own condition no inputs meet.
abbrev pub EndsGiven : Network → List (List ConfigView) → List (Scenario Term) → Type 0
EndsGiven net [] [] = Unit {0}
EndsGiven net (c ∷ cs) [] = ⊥
EndsGiven net [] (s ∷ ss) = IsLost net s × EndsGiven net [] ss
EndsGiven net (c ∷ cs) (s ∷ ss) = (AreEnds net 0 c s.nodes × EndsGiven net cs ss) ⊎ (IsLost net s × EndsGiven net (c ∷ cs) ss)

-- a scenario at the last tick as it is kept is one of the definition's
pub record IsMember (net : Network) (cs : List ConfigView) : Type 0 where
  pub scenario : Scenario Term
  pub member : Contains (ends net) scenario
  pub nodes : AreEnds net 0 cs scenario.nodes

-- the traces of nodes as they are kept
abbrev pub name_in : List ConfigView → List (List Bool)
name_in cs = map (λ (c : ConfigView). c.trace) cs

-- The scenarios at the last tick, each once, in the order of their names: one that is left out has a node whose own condition
-- no inputs meet.
pub record AreScenarios (net : Network) (list : List (List ConfigView)) : Type 0 where
  pub members : AllByRecursion (IsMember net) list
  pub in_order : Rises (slice_cmp trace_cmp) (map name_in list)
  pub others : (s : Scenario Term) → Contains (ends net) s → (Contains (map name_in list) (name_of s) → ⊥) → HasImpossible s
  pub few : length list ≤ net.limits.dstates
