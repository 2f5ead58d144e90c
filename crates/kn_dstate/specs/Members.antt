-- How states take note of the dstates that come and go.
use Rattle.std.specs.Prelude.{◌≡◌, ℕ, ◌+◌, ◌-◌, ◌≤◌, ◌<◌, Bool, true, false, not, ◌||◌, ◌&&◌, if◌then◌else◌, nat_eq, List, [], ◌∷◌, ◌++◌, length, map, option_map, slice_get, Option, None, Some, ◌⊎◌}
use Rattle.kn_dstate.specs.Places.{PlaceView, is_in, others}
use Rattle.kn_dstate.specs.Graphs.{at, Held}

-- the last number of a list is d
abbrev pub is_found : ℕ → Option ℕ → Bool
is_found d None = false
is_found d (Some x) = nat_eq x d

abbrev pub ends_with : ℕ → List ℕ → Bool
ends_with d xs = is_found d (slice_get xs (length xs - 1))

-- a state that is in dstate d, as it was last told
abbrev pub noted : ℕ → Held → Held
noted d x = if ends_with d x.dstates then x else record x { dstates = x.dstates ++ d ∷ [] }

-- a state that is not in dstate d any more
abbrev pub forgot : ℕ → Held → Held
forgot d x = record x { dstates = others d x.dstates }

-- the list has no number
abbrev pub is_nothing : List ℕ → Bool
is_nothing [] = true
is_nothing (x ∷ xs) = false

-- no dstate has it, and its number is not kept
abbrev pub is_idle : Held → Bool
is_idle x = is_nothing x.dstates && not x.known.pinned

-- a state, unless it is idle
abbrev pub unless_idle : Held → Option Held
unless_idle x = if is_idle x then None else Some x

-- what comes of a state's slot where dstate d takes it, and where dstate d, if it had it, gives it up
abbrev pub noted_slot : ℕ → Option Held → Option Held
noted_slot d x = option_map (noted d) x

abbrev pub left_slot : ℕ → Option Held → Option Held
left_slot d None = None
left_slot d (Some x) = if is_in d x.dstates then unless_idle (forgot d x) else Some x

-- it stands in some of the lists
abbrev pub is_among : ℕ → List (List ℕ) → Bool
is_among s [] = false
is_among s (c ∷ cs) = is_in s c || is_among s cs

-- it is a state of some of the dstates
abbrev pub is_of_some : ℕ → List PlaceView → Bool
is_of_some s [] = false
is_of_some s (p ∷ ps) = is_among s p.columns || is_of_some s ps

-- the columns of the dstate in a slot, if there is one
abbrev pub columns_of : Option PlaceView → List (List ℕ)
columns_of None = []
columns_of (Some p) = p.columns

-- each slot that passes a test became what f makes of it, and the others stayed
abbrev pub Became : {A : Type 0} → (Option A → Option A) → (ℕ → Bool) → List (Option A) → List (Option A) → Type 0
Became f test old new = (k : ℕ) → at new k ≡ (if test k then f (at old k) else at old k)

-- so many more numbers of dstates fit
abbrev pub HasRoom : ℕ → Option Held → Type 0
HasRoom more None = Unit {0}
HasRoom more (Some x) = length x.dstates + more ≤ x.capacity

-- a slot with room for one more, or with a state that was told of d
abbrev pub IsReadyFor : ℕ → Option Held → Type 0
IsReadyFor d None = Unit {0}
IsReadyFor d (Some x) = ends_with d x.dstates ≡ false → length x.dstates < x.capacity

-- the state of a slot as it is but for its room
abbrev pub bare : Held → Held
bare x = record x { capacity = 0 }

abbrev pub all_bare : List (Option Held) → List (Option Held)
all_bare xs = map (option_map bare) xs

-- room only grew
abbrev pub HasMore : Option Held → Option Held → Type 0
HasMore x y = (more : ℕ) → HasRoom more x → HasRoom more y

-- a state of which nothing was asked but to leave some dstates: it is as it was, or it left some and stays, or it left all
-- and went
pub record IsThinner (x y : Held) : Type 0 where
  pub known : y.known ≡ x.known
  pub stays : is_idle y ≡ false
  pub was_in : 0 < length x.dstates

pub record HasGone (x : Held) : Type 0 where
  pub free : x.known.pinned ≡ false
  pub was_in : 0 < length x.dstates

abbrev pub HasLeft : Option Held → Option Held → Type 0
HasLeft None y = y ≡ None
HasLeft (Some x) None = HasGone x
HasLeft (Some x) (Some y) = (y ≡ x) ⊎ IsThinner x y

-- nothing is in a slot any more
abbrev pub emptied : Option PlaceView → Option PlaceView
emptied x = None
