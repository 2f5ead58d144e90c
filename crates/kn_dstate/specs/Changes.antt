-- Dstates that come and go, and the states that this leaves in none.
use Rattle.std.specs.Prelude.{◌≡◌, ℕ, ◌+◌, true, false, List, [], ◌∷◌, ◌++◌, map, Option, None, Some}
use Rattle.kn_built.specs.Picks.{SameItems}
use Rattle.kn_dstate.specs.Places.{PlaceView, is_in}
use Rattle.kn_dstate.specs.Graphs.{KnownView, GraphView, HasDstate, at, dstate, IsHeld}

-- the dstates, by rising number
abbrev pub somes : List (Option PlaceView) → List PlaceView
somes [] = []
somes (None ∷ rest) = somes rest
somes (Some d ∷ rest) = d ∷ somes rest

-- what the dstate in a slot weighs, and what those in all slots weigh
abbrev pub slot_weigh : (PlaceView → ℕ) → Option PlaceView → ℕ
slot_weigh f None = 0
slot_weigh f (Some d) = f d

abbrev pub slots_weigh : (PlaceView → ℕ) → List (Option PlaceView) → ℕ
slots_weigh f [] = 0
slots_weigh f (o ∷ rest) = slot_weigh f o + slots_weigh f rest

-- some dstate has a state of node n
abbrev pub IsSomewhere : List (Option PlaceView) → ℕ → ℕ → Type 0
IsSomewhere ds n s = (d : ℕ) × IsHeld ds n s d

-- state k stays, unless this leaves it in no dstate and its number is not kept
pub record IsSettled (old new : GraphView) (k : ℕ) : Type 0 where
  pub none : at old.states k ≡ None → at new.states k ≡ None
  pub placed : (x : KnownView) → at old.states k ≡ Some x → IsSomewhere new.dstates x.node k → at new.states k ≡ Some x
  pub pinned : (x : KnownView) → at old.states k ≡ Some x → x.pinned ≡ true → at new.states k ≡ Some x
  pub apart : (x : KnownView) → at old.states k ≡ Some x → (IsSomewhere old.dstates x.node k → ⊥) → at new.states k ≡ Some x
  pub gone : (x : KnownView) → at old.states k ≡ Some x → x.pinned ≡ false → IsSomewhere old.dstates x.node k → (IsSomewhere new.dstates x.node k → ⊥) → at new.states k ≡ None

-- the dstates of these numbers went, and these came
pub record IsReplaced (old new : GraphView) (went : List ℕ) (came : List PlaceView) : Type 0 where
  pub dstates : SameItems (somes new.dstates ++ map (dstate old) went) (somes old.dstates ++ came)
  pub stay : (d : ℕ) → HasDstate old d → is_in d went ≡ false → at new.dstates d ≡ at old.dstates d
  pub states : (k : ℕ) → IsSettled old new k
  pub rest : new ≡ record old { dstates = new.dstates; states = new.states }
