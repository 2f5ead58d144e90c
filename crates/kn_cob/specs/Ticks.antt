-- Where an exploration stands in a tick, and why it stops.
use Rattle.std.specs.Prelude.{◌≡◌, ⊤, ℕ, ◌<◌, Bool, false, ◌||◌, List, [], ◌∷◌, flat_map, length, is_some, None, Contains}
use Rattle.std.specs.List.{AllByRecursion}
use Rattle.kn_term.specs.Terms.{Term}
use Rattle.kn_model.specs.Terms.{terms}
use Rattle.kn_model.specs.Nets.{Network}
use Rattle.kn_model.specs.Due.{left}
use Rattle.kn_model.specs.Limits.{Limit, States as states, Dstates as dstates, IsOverCopied}
use Rattle.kn_model.specs.Scenarios.{Scenario, node_at, turns, settled_from, cob}
use Rattle.kn_packet.specs.declared.packet.Event.{Event}
use Rattle.kn_node.specs.Due as kept
use Rattle.kn_node.specs.Views.{ConfigView}
use Rattle.kn_model.specs.Alikes.{MetAt}
use Rattle.kn_step.specs.Answers.{AreRun, AreTooMany}
use Rattle.kn_machine.specs.Paths.{PathView}
use Rattle.kn_step.specs.declared.path.LimitKind.{LimitKind}
use Rattle.kn_step.specs.declared.path.LimitKind.TheVariants as kinds
use Rattle.kn_cob.specs.Nodes.{NodeView}
use Rattle.kn_cob.specs.Copies.{IsCopy, AreCopies, node_in}
use Rattle.kn_cob.specs.declared.stop.Stop.{Stop}
use Rattle.kn_cob.specs.declared.stop.Stop.TheVariants as stops

-- the scenarios of tick t in which the events of the nodes before n have run
abbrev pub so_far : Network → (t n : ℕ) → List (Scenario Term)
so_far net t n = flat_map (settled_from terms net t 0 n) (cob terms net t)

-- one of them, of which node n has run fewer events than are left for it
pub record IsTurning (net : Network) (t n count : ℕ) (s : Scenario Term) : Type 0 where
  pub inside : n < length net.nodes
  pub from : Contains (so_far net t n) s
  pub more : count < left net.limits.ticks t (node_at terms s n).state

abbrev pub limit_of : LimitKind → Limit
limit_of kinds.States = states
limit_of kinds.Dstates = dstates

-- an event of node n is due in some copy in tick t
abbrev pub some_due : (t n : ℕ) → List (List NodeView) → Bool
some_due t n [] = false
some_due t n (xs ∷ list) = is_some (kept.due t (node_in xs n).config.machine) || some_due t n list

-- nothing is due of any node of a copy in tick t
abbrev pub IsIdle : ℕ → List NodeView → Type 0
IsIdle t xs = AllByRecursion (λ (x : NodeView). kept.due t x.config.machine ≡ None) xs

-- after tick 0 nothing is due in these copies before this tick
abbrev pub AreIdleUntil : ℕ → List (List NodeView) → Type 0
AreIdleUntil until list = (t : ℕ) → 0 < t → t < until → AllByRecursion (IsIdle t) list

-- a copy that is met in tick t: the nodes before n have run, and node n some of its events
pub record IsMetCopy (net : Network) (t n : ℕ) (xs : List NodeView) : Type 0 where
  pub scenario : Scenario Term
  pub of : IsCopy net t xs scenario
  pub met : MetAt terms net t n scenario

-- these copies are of a scenario after so many events of node n
pub record AreTurned (net : Network) (t n : ℕ) (list : List (List NodeView)) : Type 0 where
  pub start : Scenario Term
  pub count : ℕ
  pub turning : IsTurning net t n count start
  pub are : AreCopies net t list (turns terms net n t count start)

-- a copy in which the nodes before n have run
pub record IsSettling (net : Network) (t n : ℕ) (xs : List NodeView) : Type 0 where
  pub scenario : Scenario Term
  pub from : Contains (so_far net t n) scenario
  pub of : IsCopy net t xs scenario

-- these are the paths of the due event
abbrev pub IsRun : Network → ℕ → ConfigView → List PathView → Type 0
IsRun net t c ps = (e : Event) × AreRun net t c e ps

-- an event has too many paths from a state
pub record HasTooMany (net : Network) (t : ℕ) (c : ConfigView) : Type 0 where
  pub event : Event
  pub prefixes : List PathView
  pub are : AreTooMany net t c event prefixes

-- what stopped a node's event in tick t
abbrev pub StopsIn : Network → ℕ → ConfigView → Stop → Type 0
StopsIn net t c (stops.Memory e) = ⊤
StopsIn net t c (stops.Limit at) = (at.kind ≡ kinds.States) × (at.tick ≡ t) × HasTooMany net t c

-- A limit that stopped an exploration in tick t was passed there; want of memory says nothing.
abbrev pub StopsAt : Network → ℕ → Stop → Type 0
StopsAt net t (stops.Memory e) = ⊤
StopsAt net t (stops.Limit at) = (at.tick ≡ t) × IsOverCopied net t (limit_of at.kind)

-- A limit that stopped an exploration was passed in one of the network's ticks.
abbrev pub IsPassed : Network → Stop → Type 0
IsPassed net (stops.Memory e) = ⊤
IsPassed net (stops.Limit at) = (at.tick < net.limits.ticks) × IsOverCopied net at.tick (limit_of at.kind)
