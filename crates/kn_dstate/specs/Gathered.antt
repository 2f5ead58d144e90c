-- Numbers that are gathered from lists, each once.
use Rattle.std.specs.Prelude.{ℕ, if◌then◌else◌, List, [], ◌∷◌, ◌++◌, Option, None, Some}
use Rattle.kn_dstate.specs.Places.{PlaceView, column, is_in}
use Rattle.kn_dstate.specs.Graphs.{at}

-- a list with a number, unless it is there already
abbrev pub with_number : ℕ → List ℕ → List ℕ
with_number x c = if is_in x c then c else c ++ x ∷ []

-- a list with some numbers
abbrev pub with_all : List ℕ → List ℕ → List ℕ
with_all [] c = c
with_all (x ∷ xs) c = with_all xs (with_number x c)

-- the states of a node in the dstate of a slot, if there is one
abbrev pub column_in : Option PlaceView → ℕ → List ℕ
column_in None n = []
column_in (Some p) n = column p n

-- a list with the states of a node in the dstates of some numbers
abbrev pub gathered : List (Option PlaceView) → ℕ → List ℕ → List ℕ → List ℕ
gathered ds n [] c = c
gathered ds n (d ∷ keys) c = gathered ds n keys (with_all (column_in (at ds d) n) c)
