-- What a report's numbers, columns, picks and failure lines have to be.
use Rattle.std.specs.Prelude.{◌≡◌, ℕ, ◌+◌, ◌<◌, ◌^◌, Bool, true, false, ◌&&◌, nat_eq, nat_lt, nat_le, if◌then◌else◌, List, [], ◌∷◌, ◌++◌, length, map, Option, Some, None, slice_get, ⊤}
use Rattle.std.specs.List.{AllByRecursion, list_any}
use Rattle.kn_term.specs.Valuations.{AreEntries}
use Rattle.kn_model.specs.Terms.{Given, Valuation}
use Rattle.kn_model.specs.Nodes.{Outcome, Running, Halted, Failed}
use Rattle.kn_cond.specs.declared.standing.Standing.{Standing}
use Rattle.kn_cond.specs.declared.standing.Standing.TheVariants.{Inputs, Open}
use Rattle.kn_model.specs.Reports.{Report, StateLine, FailureLine, Reach, At, Undecided, Nowhere}

-- numbers that rise from a lowest one on, each below a count
abbrev pub rises_from : ℕ → ℕ → List ℕ → Bool
rises_from low count [] = true
rises_from low count (i ∷ is) = nat_le low i && (nat_lt i count && rises_from (i + 1) count is)

-- a column: numbers of states, rising, and not none
abbrev pub is_column : ℕ → List ℕ → Bool
is_column states column = nat_lt 0 (length column) && rises_from 0 states column

abbrev pub all_columns : ℕ → List (List ℕ) → Bool
all_columns states [] = true
all_columns states (c ∷ cs) = is_column states c && all_columns states cs

-- the columns of a dstate: one for each node
abbrev pub are_columns : ℕ → ℕ → List (List ℕ) → Bool
are_columns states nodes columns = nat_eq (length columns) nodes && all_columns states columns

-- one state of each column, in order of columns
abbrev pub takes : List (List ℕ) → List ℕ → Bool
takes [] [] = true
takes [] (i ∷ is) = false
takes (c ∷ cs) [] = false
takes (c ∷ cs) (i ∷ is) = list_any (λ (j : ℕ). nat_eq j i) c && takes cs is

-- the same of a dstate, where there is one
abbrev pub takes_of : Option (List (List ℕ)) → List ℕ → Bool
takes_of None pick = false
takes_of (Some columns) pick = takes columns pick

-- a pick is one of the dstate that is named
abbrev pub is_reach : List (List (List ℕ)) → Reach → Bool
is_reach dstates (At d pick a) = takes_of (slice_get dstates d) pick
is_reach dstates Undecided = true
is_reach dstates Nowhere = true

abbrev pub is_failed : Outcome → Bool
is_failed Running = false
is_failed Halted = false
is_failed (Failed kind pc tick) = true

-- the numbers of the failed states, counted from k on
abbrev pub failed_from : ℕ → List StateLine → List ℕ
failed_from k [] = []
failed_from k (line ∷ lines) = if is_failed line.outcome then k ∷ failed_from (k + 1) lines else failed_from (k + 1) lines

-- dstates have their columns, and picks are of their dstates
pub record AreLines (r : Report) : Type 0 where
  pub dstates : AllByRecursion (λ (columns : List (List ℕ)). are_columns (length r.states) r.nodes columns ≡ true) r.dstates
  pub reaches : AllByRecursion (λ (f : FailureLine). is_reach r.dstates f.reach ≡ true) r.failures

-- A report: the failure lines are those of the failed states, in order of their numbers.
pub record IsReport (r : Report) : Type 0 where
  pub lines : AreLines r
  pub failures : map (λ (f : FailureLine). f.state) r.failures ≡ failed_from 0 r.states

-- an entry of these parts
abbrev pub given : ℕ → ℕ → ℕ → Given
given n k w = record { node = n; index = k; word = w }

-- how large the numbers are that a report can hold
pub record GivenFits (g : Given) : Type 0 where
  pub node : g.node < 2 ^ 32
  pub index : g.index < 2 ^ 32
  pub word : g.word < 2 ^ 16

-- listed inputs: in order of node and index, each once, and none 0
pub record InputsFit (a : Valuation) : Type 0 where
  pub entries : AreEntries a
  pub numbers : AllByRecursion GivenFits a

abbrev pub StandingFits : Standing → Type 0
StandingFits (Inputs a) = InputsFit a
StandingFits (Open leaves) = leaves < 2 ^ 64

abbrev pub OutcomeFits : Outcome → Type 0
OutcomeFits Running = ⊤
OutcomeFits Halted = ⊤
OutcomeFits (Failed kind pc tick) = (pc < 2 ^ 16) × (tick < 2 ^ 32)

pub record StateFits (line : StateLine) : Type 0 where
  pub node : line.node < 2 ^ 32
  pub outcome : OutcomeFits line.outcome
  pub standing : StandingFits line.standing

abbrev pub ReachFits : Reach → Type 0
ReachFits (At d pick a) = (d < 2 ^ 64) × AllByRecursion (λ (i : ℕ). i < 2 ^ 64) pick × InputsFit a
ReachFits Undecided = ⊤
ReachFits Nowhere = ⊤

pub record FailureFits (f : FailureLine) : Type 0 where
  pub state : f.state < 2 ^ 64
  pub reach : ReachFits f.reach

abbrev pub ColumnsFit : List (List ℕ) → Type 0
ColumnsFit columns = AllByRecursion (AllByRecursion (λ (i : ℕ). i < 2 ^ 64)) columns

pub record Fits (r : Report) : Type 0 where
  pub ticks : r.ticks < 2 ^ 32
  pub nodes : r.nodes < 2 ^ 32
  pub states : AllByRecursion StateFits r.states
  pub dstates : AllByRecursion ColumnsFit r.dstates
  pub failures : AllByRecursion FailureFits r.failures

-- the states of failure lines are the first failed states, and these are left
abbrev pub Names : List ℕ → List FailureLine → List ℕ → Type 0
Names failed failures left = failed ≡ map (λ (f : FailureLine). f.state) failures ++ left
