-- What comes of a way: of one instruction, and of all up to its end or to a decision both of whose sides go on.
use Rattle.std.specs.Prelude.{⊤, ℕ, suc, ◌<◌, Bool, true, false, List, [], ◌∷◌, ◌++◌, length, Result}
use Rattle.kn_code.specs.declared.program.Instr.{Instr}
use Rattle.kn_code.specs.Code.{IsInstr}
use Rattle.kn_term.specs.declared.node.Literal.{Literal}
use Rattle.kn_term.specs.Terms.{Term}
use Rattle.kn_cond.specs.Conditions.{that, StandsFor}
use Rattle.kn_cond.specs.Meanings.{literal_of}
use Rattle.kn_model.specs.Values.{negated}
use Rattle.kn_model.specs.Terms.{terms}
use Rattle.kn_model.specs.Nets.{Network, code_of}
use Rattle.kn_model.specs.Rows.{Here, Way}
use Rattle.kn_model.specs.Paths.{Path, path_of, decided}
use Rattle.kn_machine.specs.Ways.{WayView, way_of, known_of, AreStamped}
use Rattle.kn_machine.specs.Effects.{here_of, side_at, IsDecision}
use Rattle.kn_step.specs.Given.{onward, Leads}
use Rattle.kn_machine.specs.declared.spot.Spot.{Spot}
use Rattle.kn_step.specs.declared.run.Split.{Split}
use Rattle.kn_step.specs.declared.run.Turn.{Turn}
use Rattle.kn_step.specs.declared.run.Turn.TheVariants as turns
use Rattle.kn_step.specs.declared.run.Stretch.{Stretch}
use Rattle.kn_step.specs.declared.run.Stretch.TheVariants as stretches
use Rattle.kn_step.specs.declared.run.RunStop.{RunStop}
use Rattle.kn_step.specs.declared.run.RunStop.TheVariants as stops

-- a way under one side of a decision by a literal
abbrev pub sided : Here Term → Instr → Bool → Literal → WayView → Way Term
sided here i false l w = decided terms false (literal_of w.terms l) (side_at here i false (way_of w))
sided here i true l w = decided terms true (negated (literal_of w.terms l)) (side_at here i true (way_of w))

-- the paths under both sides, with so many instructions left
abbrev pub split_paths : Here Term → ℕ → Instr → Literal → WayView → List (Path Term)
split_paths here fuel i l w = onward here fuel (sided here i false l w) ++ onward here fuel (sided here i true l w)

-- the paths of what comes of one instruction, with so many left behind it
abbrev pub turned : Here Term → ℕ → Turn → WayView → List (Path Term)
turned here fuel turns.Goes w = onward here fuel (way_of w)
turned here fuel turns.Ends w = path_of terms (way_of w) ∷ []
turned here fuel (turns.Splits s) w = split_paths here fuel s.instr s.literal w

-- the paths of what comes of a way
abbrev pub stretched : Here Term → Stretch → WayView → List (Path Term)
stretched here stretches.Ends w = path_of terms (way_of w) ∷ []
stretched here (stretches.Splits s left) w = split_paths here left s.instr s.literal w

-- what is known of a way is right
abbrev pub IsSound : ℕ → WayView → Type 0
IsSound conflicts w = StandsFor conflicts (that (known_of w)) w.standing

-- an instruction that decides at a way, by a literal that stands
pub record IsAtDecision (net : Network) (spot : Spot) (i : Instr) (l : Literal) (w : WayView) : Type 0 where
  pub place : w.pc < 4096
  pub valid : IsInstr (length (code_of net spot.node).instrs) i
  pub decides : IsDecision i
  pub stands : l.term.index < length w.terms

-- some inputs may meet either side of a decision, and so much is known of them
pub record IsSplit (net : Network) (spot : Spot) (w : WayView) (s : Split) : Type 0 where
  pub at : IsAtDecision net spot s.instr s.literal w
  pub first : StandsFor net.limits.conflicts (that (known_of w ++ literal_of w.terms s.literal ∷ [])) s.first
  pub second : StandsFor net.limits.conflicts (that (known_of w ++ negated (literal_of w.terms s.literal) ∷ [])) s.second

abbrev pub TurnSplits : Network → Spot → WayView → Turn → Type 0
TurnSplits net spot w turns.Goes = ⊤
TurnSplits net spot w turns.Ends = ⊤
TurnSplits net spot w (turns.Splits s) = IsSplit net spot w s

-- with fewer instructions left
abbrev pub StretchSplits : Network → Spot → ℕ → WayView → Stretch → Type 0
StretchSplits net spot fuel w stretches.Ends = ⊤
StretchSplits net spot fuel w (stretches.Splits s left) = IsSplit net spot w s × (left < fuel)

-- what is known stays right, and what is sent is stamped
pub record IsOn (net : Network) (spot : Spot) (v w : WayView) : Type 0 where
  pub sound : IsSound net.limits.conflicts w
  pub stamps : AreStamped spot.node spot.history v.sends → AreStamped spot.node spot.history w.sends

-- what comes of one instruction
pub record IsTurn (net : Network) (spot : Spot) (v w : WayView) (t : Turn) : Type 0 where
  pub leads : (fuel : ℕ) → Leads (turned (here_of net spot) fuel t w) (onward (here_of net spot) (suc fuel) (way_of v))
  pub on : IsOn net spot v w
  pub splits : TurnSplits net spot w t

-- what comes of a way with so many instructions left
pub record IsStretch (net : Network) (spot : Spot) (fuel : ℕ) (v w : WayView) (s : Stretch) : Type 0 where
  pub leads : Leads (stretched (here_of net spot) s w) (onward (here_of net spot) fuel (way_of v))
  pub on : IsOn net spot v w
  pub splits : StretchSplits net spot fuel w s

-- what holds where there are too many paths, and what holds unless memory is wanting
abbrev pub OnTooMany : Result ⊤ RunStop → Type 0 → Type 0
OnTooMany (Result.Ok x) P = ⊤
OnTooMany (Result.Err stops.TooMany) P = P
OnTooMany (Result.Err (stops.Memory e)) P = ⊤

abbrev pub UnlessMemory : Result ⊤ RunStop → Type 0 → Type 0
UnlessMemory (Result.Ok x) P = P
UnlessMemory (Result.Err stops.TooMany) P = P
UnlessMemory (Result.Err (stops.Memory e)) P = ⊤
