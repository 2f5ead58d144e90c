-- What a file gives: the network that is explored, the names of its programs, and the inputs with which it is replayed.
use Rattle.std.specs.Prelude.{◌≡◌, ◌≢◌, ◌⊎◌, ℕ, ◌<◌, ◌≤◌, List, [], ◌∷◌, length}
use Rattle.std.specs.List.{AllByRecursion}
use Rattle.kn_term.specs.Terms.{Given, Valuation}
use Rattle.kn_term.specs.Valuations.{AreEntries}
use Rattle.kn_plan.specs.Nets.{Network}
use Rattle.kn_plan.specs.Valid.{IsNet}

-- a network, the name of each of its programs as bytes, and words for some inputs of its nodes; all other inputs are 0
pub record File : Type 0 where
  pub network : Network
  pub names : List (List ℕ)
  pub inputs : Valuation

-- an ASCII letter, an ASCII digit, `_` or `-`
abbrev pub IsNameByte : ℕ → Type 0
IsNameByte c = ((97 ≤ c) × (c ≤ 122)) ⊎ (((65 ≤ c) × (c ≤ 90)) ⊎ (((48 ≤ c) × (c ≤ 57)) ⊎ ((c ≡ 95) ⊎ (c ≡ 45))))

-- 1 to 32 of them
pub record IsName (name : List ℕ) : Type 0 where
  pub some : 1 ≤ length name
  pub most : length name ≤ 32
  pub bytes : AllByRecursion IsNameByte name

-- no two are the same
abbrev pub AreDifferent : List (List ℕ) → Type 0
AreDifferent [] = Unit {0}
AreDifferent (x ∷ xs) = AllByRecursion (λ y. x ≢ y) xs × AreDifferent xs

-- an input of one of so many nodes; a node's inputs are counted from 0, and a word that is 0 is not listed
pub record IsInput (nodes : ℕ) (g : Given) : Type 0 where
  pub node : g.node < nodes
  pub index : g.index ≤ 65535
  pub some : 1 ≤ g.word
  pub word : g.word ≤ 65535

-- a network in range, a name for each program, no two the same, and at most 65,536 inputs of its nodes, in order
pub record IsFile (file : File) : Type 0 where
  pub network : IsNet file.network
  pub each : length file.names ≡ length file.network.programs
  pub names : AllByRecursion IsName file.names
  pub different : AreDifferent file.names
  pub few : length file.inputs ≤ 65536
  pub inputs : AllByRecursion (IsInput (length file.network.nodes)) file.inputs
  pub order : AreEntries file.inputs
