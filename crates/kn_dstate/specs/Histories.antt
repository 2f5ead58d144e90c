-- A table of histories: each row is an earlier one with one more entry.
use Rattle.std.specs.Prelude.{◌≡◌, ℕ, suc, ◌<◌, ◌≤◌, List, [], ◌∷◌, Some, slice_get, slice_index_or}
use Rattle.std.specs.declared.cmp.Ordering.{Ordering}
use Rattle.kn_built.specs.Built.{built}
use Rattle.kn_packet.specs.Histories.{History, Done, AndRan, AndGot, followed, history_cmp}
use Rattle.kn_dstate.specs.declared.row.Entry.{Entry}
use Rattle.kn_dstate.specs.declared.row.Entry.TheVariants.{Ran, Got}
use Rattle.kn_dstate.specs.declared.row.Past.{Past}
use Rattle.kn_dstate.specs.declared.row.Past.TheVariants.{Nothing, After}
use Rattle.kn_dstate.specs.declared.row.Row.{Row}

-- a node, and a history of it
pub record Told : Type 0 where
  pub node : ℕ
  pub history : History

-- the history at a place of a table
abbrev pub history_in : List Told → ℕ → History
history_in ts k = (slice_index_or ts k (record { node = 0; history = Done })).history

-- the table has a history of a node at a place
abbrev pub IsHistoryOf : List Told → ℕ → ℕ → Type 0
IsHistoryOf ts n k = (h : History) × (slice_get ts k ≡ Some (record { node = n; history = h }))

-- the history of an entry alone, whose stamp names a history of the table
abbrev pub entry_history : List Told → Entry → History
entry_history ts (Ran event bits) = AndRan event bits Done
entry_history ts (Got stamp copy) = AndGot stamp.node (history_in ts stamp.history) stamp.bits stamp.seq copy Done

-- the history of some entries
abbrev pub entries_history : List Told → List Entry → History
entries_history ts [] = Done
entries_history ts (x ∷ xs) = followed (entry_history ts x) (entries_history ts xs)

-- the stamp of an entry names a history below a place
abbrev pub NamesBelow : ℕ → Entry → Type 0
NamesBelow place (Ran event bits) = Unit {0}
NamesBelow place (Got stamp copy) = stamp.history < place

-- so do those of some entries
abbrev pub AllNameBelow : ℕ → List Entry → Type 0
AllNameBelow place [] = Unit {0}
AllNameBelow place (x ∷ xs) = NamesBelow place x × AllNameBelow place xs

-- how many entries a history has
abbrev pub entry_count : History → ℕ
entry_count Done = 0
entry_count (AndRan event bits rest) = suc (entry_count rest)
entry_count (AndGot node sent bits seq copy rest) = suc (entry_count rest)

-- what a row's past tells
abbrev pub past_history : List Told → Past → History
past_history ts Nothing = Done
past_history ts (After before entry) = followed (history_in ts before) (entry_history ts entry)

-- what a row tells
abbrev pub told_by : List Told → Row → Told
told_by ts row = record { node = row.node; history = past_history ts row.past }

-- what all rows tell
abbrev pub told : List Row → List Told
told rows = built told_by rows

-- a row's past names lower rows, the one that it goes on from of the same node
abbrev pub IsPast : List Row → ℕ → ℕ → Past → Type 0
IsPast rows n place Nothing = Unit {0}
IsPast rows n place (After before entry) = (before < place) × NamesBelow place entry × IsHistoryOf (told rows) n before

-- each row names lower rows, and knows how many entries it tells
pub record IsTable (rows : List Row) : Type 0 where
  pub past : (place : ℕ) (row : Row) → slice_get rows place ≡ Some row → IsPast rows row.node place row.past
  pub count : (place : ℕ) (row : Row) → slice_get rows place ≡ Some row → row.count ≡ entry_count (history_in (told rows) place)
  pub few : (place : ℕ) (row : Row) → slice_get rows place ≡ Some row → row.count ≤ place

-- the order of two entries
abbrev pub entry_cmp : List Told → Entry → Entry → Ordering
entry_cmp ts x y = history_cmp (entry_history ts x) (entry_history ts y)
