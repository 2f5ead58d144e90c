-- Lists of numbers of clauses.
use Rattle.std.specs.Prelude.{◌<◌, ℕ, List, Vec}
use Rattle.std.specs.declared.alloc.Global.{Global}
use Rattle.std.specs.List.{AllByRecursion}

-- an index into so many clauses
pub record Index : Type 0 where
  pub clauses : ℕ

-- each number is a lower one
abbrev pub AreLower : ℕ → List ℕ → Type 0
AreLower n hs = AllByRecursion (λ (h : ℕ). h < n) hs

-- each number in each list is a lower one
abbrev pub AreWithin : ℕ → List (Vec ℕ Global) → Type 0
AreWithin n lists = AllByRecursion (λ (v : Vec ℕ Global). AreLower n v.items) lists
