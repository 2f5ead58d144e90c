-- Failure choices, and what is given of ways behind other paths.
use Rattle.std.specs.Prelude.{◌≡◌, ⊤, ◌≤◌, ◌<◌, true, false, List, [], ◌++◌, length, map, Result, OnOk}
use Rattle.kn_term.specs.declared.node.Literal.{Literal}
use Rattle.kn_term.specs.Terms.{Term}
use Rattle.kn_cond.specs.Conditions.{that, IsImpossible}
use Rattle.kn_cond.specs.Meanings.{literal_of}
use Rattle.kn_model.specs.Values.{negated}
use Rattle.kn_model.specs.Terms.{terms}
use Rattle.kn_model.specs.Nets.{Network}
use Rattle.kn_model.specs.Rows.{Way}
use Rattle.kn_model.specs.Paths.{Path, chooses, decided, path_of}
use Rattle.kn_model.specs.Alikes.{OneByOne, AreGiven}
use Rattle.kn_machine.specs.Ways.{WayView, way_of, AlikeWay}
use Rattle.kn_machine.specs.Effects.{here_of}
use Rattle.kn_machine.specs.Paths.{PathView, path_seen}
use Rattle.kn_step.specs.Given.{Leads, AreGivenSoFar, AreKept}
use Rattle.kn_step.specs.Turns.{IsOn, OnTooMany, UnlessMemory}
use Rattle.kn_machine.specs.declared.spot.Spot.{Spot}
use Rattle.kn_step.specs.declared.run.RunStop.{RunStop}
use Rattle.kn_step.specs.declared.choices.Choice.{Choice}
use Rattle.kn_step.specs.declared.choices.Choice.TheVariants as choices

-- ways on from a way
abbrev pub Onward : Type 0
Onward = Way Term → List (Way Term)

-- the paths of ways on
abbrev pub paths_by : Onward → Way Term → List (Path Term)
paths_by go w = map (path_of terms) (go w)

-- From alike ways they are alike, one by one, and from a way whose condition no inputs meet no path has to be given.
pub record GoesOn (go : Onward) : Type 0 where
  pub alike : (w v : Way Term) → AlikeWay w v → OneByOne AlikeWay (go w) (go v)
  pub shut : (w : Way Term) → IsImpossible (that (w.state.own ++ w.literals)) → AreGiven [] (paths_by go w)

-- the paths of what comes of a choice, where the way is this one now
abbrev pub chosen : (stays takes : Onward) → Choice → WayView → List (Path Term)
chosen stays takes choices.Stays w = paths_by stays (way_of w)
chosen stays takes choices.Takes w = paths_by takes (way_of w)
chosen stays takes (choices.Both v) w = paths_by stays (way_of v) ++ paths_by takes (way_of w)

-- the paths where a literal holds, and where it does not
abbrev pub answered : (stays takes : Onward) → Literal → WayView → List (Path Term)
answered stays takes l w = paths_by stays (decided terms false (literal_of w.terms l) (way_of w)) ++ paths_by takes (decided terms true (negated (literal_of w.terms l)) (way_of w))

-- what is known of a way on which nothing fails stays right as well
abbrev pub StaysOn : Network → Spot → WayView → Choice → Type 0
StaysOn net spot v choices.Stays = ⊤
StaysOn net spot v choices.Takes = ⊤
StaysOn net spot v (choices.Both w) = IsOn net spot v w

-- losses and duplications are left as they were
pub record HasLeft (v w : WayView) : Type 0 where
  pub losses : w.machine.losses ≡ v.machine.losses
  pub duplications : w.machine.duplications ≡ v.machine.duplications

-- what comes of a choice by a literal: whatever follows it, its paths lead to those of both answers
pub record IsAnswer (net : Network) (spot : Spot) (l : Literal) (v w : WayView) (c : Choice) : Type 0 where
  pub leads : (stays takes : Onward) → GoesOn stays → GoesOn takes → Leads (chosen stays takes c w) (answered stays takes l v)
  pub on : IsOn net spot v w
  pub both : StaysOn net spot v c
  pub left : HasLeft v w

-- what comes of a failure choice of a way
pub record IsChoice (net : Network) (spot : Spot) (v w : WayView) (c : Choice) : Type 0 where
  pub leads : (stays takes : Onward) → GoesOn stays → GoesOn takes → Leads (chosen stays takes c w) (paths_by (chooses terms (here_of net spot) stays takes) (way_of v))
  pub on : IsOn net spot v w
  pub both : StaysOn net spot v c
  pub left : HasLeft v w

-- These paths came behind others, all that are given of some; or there were too many, and some of them came.
pub record CameBehind (net : Network) (spot : Spot) (old new : List PathView) (qs : List (Path Term)) (r : Result ⊤ RunStop) : Type 0 where
  pub given : (before : List (Path Term)) → AreGiven (map path_seen old) before → OnOk r (AreGiven (map path_seen new) (before ++ qs))
  pub so_far : (before : List (Path Term)) → AreGiven (map path_seen old) before → OnTooMany r (AreGivenSoFar (map path_seen new) (before ++ qs))
  pub kept : AreKept net.limits.conflicts spot.node spot.history old → UnlessMemory r (AreKept net.limits.conflicts spot.node spot.history new)
  pub few : OnOk r (length new ≤ net.limits.states)
  pub many : OnTooMany r (net.limits.states < length new)
