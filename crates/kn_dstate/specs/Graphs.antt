-- A graph: dstates, states, histories and packets, each under its number.
use Rattle.std.specs.Prelude.{◌≡◌, ◌≢◌, ℕ, ◌<◌, ◌≤◌, Bool, true, false, List, [], ◌∷◌, map, length, Option, None, Some, IsSome, option_map, unwrap_or, slice_get, slice_set, slice_index_or}
use Rattle.kn_built.specs.Built.{Extends}
use Rattle.kn_packet.specs.Histories.{Done, followed}
use Rattle.kn_dstate.specs.declared.row.Entry.{Entry}
use Rattle.kn_dstate.specs.declared.row.Row.{Row}
use Rattle.kn_dstate.specs.Histories.{Told, told, history_in, entries_history, IsHistoryOf, IsTable}
use Rattle.kn_dstate.specs.Places.{PlaceView, holds, is_in, AreDistinct, AreRising}

-- a state: its node, the number of its history, and whether its number is kept where no dstate has it
pub record KnownView : Type 0 where
  pub node : ℕ
  pub history : ℕ
  pub pinned : Bool

-- a graph of so many nodes; packets by where they go
pub record GraphView : Type 0 where
  pub nodes : ℕ
  pub dstates : List (Option PlaceView)
  pub states : List (Option KnownView)
  pub histories : List Told
  pub packets : List ℕ

-- what stands under a number, if anything does
abbrev pub at : {A : Type 0} → List (Option A) → ℕ → Option A
at slots k = slice_index_or slots k None

-- there is a state, or a dstate, of this number
abbrev pub HasState : GraphView → ℕ → Type 0
HasState g s = IsSome (at g.states s)

abbrev pub HasDstate : GraphView → ℕ → Type 0
HasDstate g d = IsSome (at g.dstates d)

-- the state, or the dstate, of a number
abbrev pub state : GraphView → ℕ → KnownView
state g s = unwrap_or (at g.states s) (record { node = 0; history = 0; pinned = false })

abbrev pub dstate : GraphView → ℕ → PlaceView
dstate g d = unwrap_or (at g.dstates d) (record { columns = []; inboxes = [] })

-- the graph with this under the number of a state
abbrev pub with_state : GraphView → ℕ → Option KnownView → GraphView
with_state g s x = record g { states = slice_set g.states s x }

-- a dstate has a state of node n
abbrev pub IsHeld : List (Option PlaceView) → ℕ → ℕ → ℕ → Type 0
IsHeld ds n s d = (p : PlaceView) × (at ds d ≡ Some p) × (holds n s p ≡ true)

-- some dstate has a state
abbrev pub IsPlaced : GraphView → ℕ → Type 0
IsPlaced g s = (d : ℕ) × IsHeld g.dstates (state g s).node s d

-- x is a state of node n in a dstate of s
abbrev pub IsTarget : GraphView → ℕ → ℕ → ℕ → Type 0
IsTarget g s n x = (d : ℕ) × IsHeld g.dstates (state g s).node s d × IsHeld g.dstates n x d

-- it is the lowest number from `least` on under which something stands
pub record IsLowest {A : Type 0} (slots : List (Option A)) (least k : ℕ) : Type 0 where
  pub within : least ≤ k
  pub there : IsSome (at slots k)
  pub first : (j : ℕ) → least ≤ j → j < k → at slots j ≡ None

-- nothing stands under any number from `least` on
abbrev pub NoneFrom : {A : Type 0} → List (Option A) → ℕ → Type 0
NoneFrom slots least = (j : ℕ) → least ≤ j → at slots j ≡ None

-- a graph that is new: one dstate, in which state n is node n's, with an empty history
pub record IsOpened (nodes : ℕ) (g : GraphView) : Type 0 where
  pub nodes_are : g.nodes ≡ nodes
  pub columns : (n : ℕ) → n < nodes → slice_get (dstate g 0).columns n ≡ Some (n ∷ [])
  pub inboxes : (n : ℕ) → n < nodes → slice_get (dstate g 0).inboxes n ≡ Some []
  pub columns_many : length (dstate g 0).columns ≡ nodes
  pub inboxes_many : length (dstate g 0).inboxes ≡ nodes
  pub one : HasDstate g 0
  pub only : (d : ℕ) → 0 < d → at g.dstates d ≡ None
  pub states : (n : ℕ) → n < nodes → at g.states n ≡ Some (record { node = n; history = n; pinned = false })
  pub none_else : (n : ℕ) → nodes ≤ n → at g.states n ≡ None
  pub histories : (n : ℕ) → n < nodes → slice_get g.histories n ≡ Some (record { node = n; history = Done })
  pub histories_many : length g.histories ≡ nodes
  pub packets : g.packets ≡ []

-- the same graph, but that its table may have more histories
pub record Keeps (old new : GraphView) : Type 0 where
  pub grows : Extends old.histories new.histories
  pub rest : new ≡ record old { histories = new.histories }

-- one state more, in no dstate: its history is an earlier one and then these entries
pub record HasNew (old new : GraphView) (s node before : ℕ) (entries : List Entry) : Type 0 where
  pub was_free : at old.states s ≡ None
  pub history : ℕ
  pub there : at new.states s ≡ Some (record { node = node; history = history; pinned = false })
  pub tells : slice_get new.histories history ≡ Some (record { node = node; history = followed (history_in old.histories before) (entries_history old.histories entries) })
  pub others : (k : ℕ) → k ≢ s → at new.states k ≡ at old.states k
  pub grows : Extends old.histories new.histories
  pub rest : new ≡ record old { states = new.states; histories = new.histories }

-- a state as a graph keeps it: what is seen of it, the numbers of the dstates that have it, and how many such numbers
-- fit with no further memory
pub record Held : Type 0 where
  pub known : KnownView
  pub dstates : List ℕ
  pub capacity : ℕ

-- node n's state in a new graph, which is in dstate 0
abbrev pub first_state : ℕ → ℕ → Held
first_state n capacity = record { known = record { node = n; history = n; pinned = false }; dstates = 0 ∷ []; capacity = capacity }

-- what is seen of a state
abbrev pub known_of : Held → KnownView
known_of x = x.known

-- a state with another pin
abbrev pub with_pin : Bool → Held → Held
with_pin b x = record x { known = record x.known { pinned = b } }

-- what is seen of all states
abbrev pub shown : List (Option Held) → List (Option KnownView)
shown xs = map (option_map known_of) xs

-- there is a state s, of node n
abbrev pub IsStateOf : List (Option KnownView) → ℕ → ℕ → Type 0
IsStateOf states n s = (x : KnownView) × (at states s ≡ Some x) × (x.node ≡ n)

-- a column of node n: some states of it, none twice
pub record IsColumn (states : List (Option KnownView)) (n : ℕ) (c : List ℕ) : Type 0 where
  pub some : 0 < length c
  pub once : AreDistinct c
  pub known : (s : ℕ) → is_in s c ≡ true → IsStateOf states n s

-- an inbox of node n: packets to it, rising
pub record IsInbox (packets : List ℕ) (n : ℕ) (b : List ℕ) : Type 0 where
  pub rise : AreRising b
  pub sent : (k : ℕ) → is_in k b ≡ true → slice_get packets k ≡ Some n

-- a dstate has a column and an inbox for each node
pub record IsPlace (nodes : ℕ) (states : List (Option KnownView)) (packets : List ℕ) (p : PlaceView) : Type 0 where
  pub columns_many : length p.columns ≡ nodes
  pub inboxes_many : length p.inboxes ≡ nodes
  pub columns : (n : ℕ) (c : List ℕ) → slice_get p.columns n ≡ Some c → IsColumn states n c
  pub inboxes : (n : ℕ) (b : List ℕ) → slice_get p.inboxes n ≡ Some b → IsInbox packets n b

-- a state has a history of its node, and knows its dstates
pub record IsKnown (nodes : ℕ) (dstates : List (Option PlaceView)) (ts : List Told) (s : ℕ) (x : Held) : Type 0 where
  pub node : x.known.node < nodes
  pub history : IsHistoryOf ts x.known.node x.known.history
  pub once : AreDistinct x.dstates
  pub has : (d : ℕ) → is_in d x.dstates ≡ true → IsHeld dstates x.known.node s d
  pub knows : (d : ℕ) → IsHeld dstates x.known.node s d → is_in d x.dstates ≡ true

-- what holds of each graph
pub record IsGraph (nodes : ℕ) (dstates : List (Option PlaceView)) (states : List (Option Held)) (rows : List Row) (packets : List ℕ) : Type 0 where
  pub places : (d : ℕ) (p : PlaceView) → at dstates d ≡ Some p → IsPlace nodes (shown states) packets p
  pub known : (s : ℕ) (x : Held) → at states s ≡ Some x → IsKnown nodes dstates (told rows) s x
  pub table : IsTable rows
