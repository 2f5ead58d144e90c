-- What a report of scenarios is under copy on branch.
use Rattle.std.specs.Prelude.{◌≡◌, ℕ, zero, suc, ◌+◌, ◌*◌, ◌<◌, Bool, true, false, if◌then◌else◌, List, [], ◌∷◌, length, map, flat_map, Some, slice_get}
use Rattle.std.specs.List.{AllByRecursion}
use Rattle.kn_cond.specs.Conditions.{Condition, that, IsLeast, IsImpossible, IsFar}
use Rattle.kn_node.specs.Views.{ConfigView}
use Rattle.kn_model.specs.Nodes.{Outcome, Running, Halted, Failed}
use Rattle.kn_model.specs.Nets.{Network}
use Rattle.kn_model.specs.Reports.{Report, StateLine, FailureLine, Reach, At, Undecided, Nowhere, Cob, singles}
use Rattle.kn_solve.specs.declared.judge.Judged.{Judged}
use Rattle.kn_solve.specs.declared.judge.Judged.TheVariants as judged
use Rattle.kn_machine.specs.Views.{own_of, outcome_of}

-- the line of node n's state, with what is known of its own condition
abbrev pub line_of : ℕ → ConfigView → StateLine
line_of n c = record { node = n; trace = c.trace; outcome = outcome_of c.machine.outcome; standing = c.standing }

-- the lines of the nodes from n on
abbrev pub lines_from : ℕ → List ConfigView → List StateLine
lines_from n [] = []
lines_from n (c ∷ cs) = line_of n c ∷ lines_from (n + 1) cs

-- so many numbers, from i on
abbrev pub numbers : ℕ → ℕ → List ℕ
numbers zero i = []
numbers (suc more) i = i ∷ numbers more (i + 1)

-- one dstate for each scenario, whose states have the numbers from i on
abbrev pub dstates_from : ℕ → ℕ → List (List ConfigView) → List (List (List ℕ))
dstates_from nodes i [] = []
dstates_from nodes i (cs ∷ list) = singles nodes i ∷ dstates_from nodes (i + nodes) list

abbrev pub is_failed : Outcome → Bool
is_failed Running = false
is_failed Halted = false
is_failed (Failed kind pc tick) = true

-- the numbers of the failed states among lines, which have the numbers from i on
abbrev pub failed_from : ℕ → List StateLine → List ℕ
failed_from i [] = []
failed_from i (line ∷ lines) = if is_failed line.outcome then i ∷ failed_from (i + 1) lines else failed_from (i + 1) lines

-- the own conditions of a scenario's nodes, joined
abbrev pub joint_of : List ConfigView → Condition
joint_of cs = flat_map own_of cs

-- Where the failed states of a scenario are reached, of which this is the joint condition: by its one pick on the least
-- inputs that meet it, nowhere where none do, or not decided where it is far.
abbrev pub IsJoint : ℕ → Condition → (dstate : ℕ) → (pick : List ℕ) → Reach → Type 0
IsJoint conflicts c d p (At e q a) = (e ≡ d) × (q ≡ p) × IsLeast (that c) a
IsJoint conflicts c d p Undecided = IsFar conflicts (that c)
IsJoint conflicts c d p Nowhere = IsImpossible (that c)

-- a failure line that is right: its state is that of a node of scenario d, and so it is reached where this scenario is
pub record IsOfScenario (net : Network) (list : List (List ConfigView)) (w : FailureLine) : Type 0 where
  pub dstate : ℕ
  pub configs : List ConfigView
  pub there : slice_get list dstate ≡ Some configs
  pub node : ℕ
  pub inside : node < length net.nodes
  pub state : w.state ≡ dstate * length net.nodes + node
  pub joint : IsJoint net.limits.conflicts (joint_of configs) dstate (numbers (length net.nodes) (dstate * length net.nodes)) w.reach

-- A report of these scenarios, in their order. State d * N + n is that of node n of scenario d, where N is the number of
-- nodes; dstate d has these N states; and each failed state has one failure line, in the order of numbers.
pub record IsReportOf (net : Network) (list : List (List ConfigView)) (r : Report) : Type 0 where
  pub mapping : r.mapping ≡ Cob
  pub ticks : r.ticks ≡ net.limits.ticks
  pub nodes : r.nodes ≡ length net.nodes
  pub states : r.states ≡ flat_map (lines_from 0) list
  pub dstates : r.dstates ≡ dstates_from (length net.nodes) 0 list
  pub failures : map (λ (w : FailureLine). w.state) r.failures ≡ failed_from 0 r.states
  pub reaches : AllByRecursion (IsOfScenario net list) r.failures

-- each scenario has so many nodes
abbrev pub AreLong : ℕ → List (List ConfigView) → Type 0
AreLong nodes list = AllByRecursion (λ (cs : List ConfigView). length cs ≡ nodes) list

-- where the failed states of a scenario are reached, by the answer to what its nodes ask together
abbrev pub reach_by : (dstate : ℕ) → (pick : List ℕ) → Judged → Reach
reach_by d p (judged.Met a) = At d p a
reach_by d p judged.Never = Nowhere
reach_by d p (judged.Undecided leaves) = Undecided

-- a failure line for a number
abbrev pub reached_at : Reach → ℕ → FailureLine
reached_at x i = record { state = i; reach = x }

-- the failure lines of scenario d, whose states have the numbers from i on
pub record AreFailuresOf (conflicts d i : ℕ) (cs : List ConfigView) (ws : List FailureLine) : Type 0 where
  pub states : map (λ (w : FailureLine). w.state) ws ≡ failed_from i (lines_from 0 cs)
  pub reaches : AllByRecursion (λ (w : FailureLine). IsJoint conflicts (joint_of cs) d (numbers (length cs) i) w.reach) ws
