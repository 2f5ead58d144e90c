-- Dstates over numbers.
use Rattle.std.specs.Prelude.{◌≡◌, ℕ, ◌+◌, ◌*◌, ◌<◌, Bool, true, false, not, ◌||◌, if◌then◌else◌, nat_eq, List, [], ◌∷◌, filter, length, slice_index_or}

-- a dstate: for each node its states, and the packets that it was sent in this tick
pub record PlaceView : Type 0 where
  pub columns : List (List ℕ)
  pub inboxes : List (List ℕ)

-- node n's states
abbrev pub column : PlaceView → ℕ → List ℕ
column d n = slice_index_or d.columns n []

-- the packets that node n was sent
abbrev pub inbox : PlaceView → ℕ → List ℕ
inbox d n = slice_index_or d.inboxes n []

-- how often a number stands in a list
abbrev pub times : ℕ → List ℕ → ℕ
times s [] = 0
times s (x ∷ c) = (if nat_eq x s then 1 else 0) + times s c

-- it stands in a list
abbrev pub is_in : ℕ → List ℕ → Bool
is_in s [] = false
is_in s (x ∷ c) = nat_eq x s || is_in s c

-- it is one of node n's states
abbrev pub holds : ℕ → ℕ → PlaceView → Bool
holds n s d = is_in s (column d n)

-- a list without a number
abbrev pub others : ℕ → List ℕ → List ℕ
others s c = filter (λ x. not (nat_eq x s)) c

-- no number stands twice
abbrev pub AreDistinct : List ℕ → Type 0
AreDistinct xs = (x : ℕ) → times x xs < 2

-- each number is greater than the one before
abbrev pub AreRising : List ℕ → Type 0
AreRising [] = Unit {0}
AreRising (x ∷ xs) = ((y : ℕ) → is_in y xs ≡ true → x < y) × AreRising xs

-- the product of how many states the columns have
abbrev pub choices : List (List ℕ) → ℕ
choices [] = 1
choices (c ∷ cs) = length c * choices cs
