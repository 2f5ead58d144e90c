-- Copies at their start, and when a tick is closed.
use Rattle.std.specs.Prelude.{◌≡◌, ◌⊎◌, ℕ, ◌+◌, ◌<◌, List, [], ◌∷◌, length, map, Option, Some, None}
use Rattle.std.specs.List.{AllByRecursion}
use Rattle.kn_cond.specs.Conditions.{that, StandsFor}
use Rattle.kn_node.specs.Views.{ConfigView}
use Rattle.kn_node.specs.Opening.{IsOpened}
use Rattle.kn_plan.specs.Nets.{Network, plan_of}
use Rattle.kn_machine.specs.Views.{own_of}
use Rattle.kn_step.specs.Answers.{IsReceived, IsRefused}
use Rattle.kn_model.specs.Alikes.{OneByOne}
use Rattle.kn_cob.specs.Nodes.{NodeView}
use Rattle.kn_cob.specs.Copies.{node_in}

-- what is known of a node's own condition is right
abbrev pub IsStanding : Network → NodeView → Type 0
IsStanding net x = StandsFor net.limits.conflicts (that (own_of x.config)) x.config.standing

-- node n at its start: it was sent nothing
pub record IsStart (net : Network) (n : ℕ) (x : NodeView) : Type 0 where
  pub opened : IsOpened (plan_of net n) n x.config
  pub nothing : x.inbox ≡ []

-- the nodes from n on, one by one
abbrev pub AreStarts : Network → ℕ → List NodeView → Type 0
AreStarts net n [] = Unit {0}
AreStarts net n (x ∷ xs) = IsStart net n x × AreStarts net (n + 1) xs

-- a copy at its start
pub record AreOpened (net : Network) (xs : List NodeView) : Type 0 where
  pub whole : length xs ≡ length net.nodes
  pub starts : AreStarts net 0 xs

-- a node received what it was sent in the tick, or was sent nothing and stays
abbrev pub IsClosed : Network → NodeView → NodeView → Type 0
IsClosed net x z = (IsReceived net.limits.conflicts x.config x.inbox z.config × (z.inbox ≡ [])) ⊎ ((x.inbox ≡ []) × (z ≡ x))

-- no inputs meet what it asks with what it was sent
abbrev pub IsShutOut : NodeView → Type 0
IsShutOut x = IsRefused x.config x.inbox

-- some node is so
pub record HasShutOut (xs : List NodeView) : Type 0 where
  pub number : ℕ
  pub inside : number < length xs
  pub out : IsShutOut (node_in xs number)

abbrev pub OnClosed : Network → NodeView → Option NodeView → Type 0
OnClosed net x None = IsShutOut x
OnClosed net x (Some z) = IsClosed net x z

-- a copy after the tick, or one that no inputs lead to
abbrev pub OnShut : Network → List NodeView → Option (List NodeView) → Type 0
OnShut net xs None = HasShutOut xs
OnShut net xs (Some zs) = OneByOne (IsClosed net) xs zs

-- the states of nodes
abbrev pub configs_in : List NodeView → List ConfigView
configs_in xs = map (λ (x : NodeView). x.config) xs

-- no node has an inbox that waits
abbrev pub AreShut : List NodeView → Type 0
AreShut xs = AllByRecursion (λ (x : NodeView). x.inbox ≡ []) xs
