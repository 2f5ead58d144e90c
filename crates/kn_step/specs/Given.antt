-- The paths that ways lead to, and those of them that are given.
use Rattle.std.specs.Prelude.{◌≡◌, ℕ, List, ◌++◌, map}
use Rattle.std.specs.List.{AllByRecursion}
use Rattle.kn_term.specs.Terms.{Term}
use Rattle.kn_cond.specs.Conditions.{that, StandsFor}
use Rattle.kn_model.specs.Terms.{terms}
use Rattle.kn_model.specs.Rows.{Here, Way}
use Rattle.kn_model.specs.Paths.{Path, ways, path_of}
use Rattle.kn_model.specs.Alikes.{AreGiven}
use Rattle.kn_machine.specs.Paths.{PathView}
use Rattle.kn_machine.specs.Ways.{AreStamped}
use Rattle.kn_machine.specs.Views.{own_of}

-- the paths of a way, with so many instructions left
abbrev pub onward : Here Term → ℕ → Way Term → List (Path Term)
onward here fuel w = map (path_of terms) (ways terms here fuel w)

-- what is given of some paths is given of others
abbrev pub Leads : List (Path Term) → List (Path Term) → Type 0
Leads qs rs = (ps : List (Path Term)) → AreGiven ps qs → AreGiven ps rs

-- with some more behind them, these paths are given
abbrev pub AreGivenSoFar : List (Path Term) → List (Path Term) → Type 0
AreGivenSoFar ps qs = (more : List (Path Term)) × AreGiven (ps ++ more) qs

-- what is kept with a path: it is of this node and history, as are the stamps of what it sent; and what is known of the
-- inputs that meet its own condition is right
pub record IsKept (conflicts node history : ℕ) (p : PathView) : Type 0 where
  pub of_node : p.config.node ≡ node
  pub of_history : p.config.history ≡ history
  pub standing : StandsFor conflicts (that (own_of p.config)) p.config.standing
  pub stamps : AreStamped node history p.sends

abbrev pub AreKept : (conflicts node history : ℕ) → List PathView → Type 0
AreKept conflicts node history ps = AllByRecursion (IsKept conflicts node history) ps
