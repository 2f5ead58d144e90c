-- What stands at a key of a table, and what is wrong with it.
use Rattle.std.specs.Prelude.{ℕ, ℤ, pos, negsuc, Bool, true, false, not, ◌&&◌, ◌||◌, nat_lt, nat_le, if◌then◌else◌, List, [], ◌∷◌, length, Option, Some, None, bytes_eq}
use Rattle.toml.specs.Data.{Data, Items, no_items, item, Members, no_members, member, as_integer, as_str, as_array, as_table}
use Rattle.kn_netfile.specs.declared.keys.NumberAt.{NumberAt}
use Rattle.kn_netfile.specs.declared.keys.NumberAt.TheVariants.{NoNumber, OtherKind, Outside, Number}
use Rattle.kn_netfile.specs.Faults.{Fault, fault, fault_if, unknown_key, missing_key, wrong_kind, out_of_range}

-- ---- the keys of a table

abbrev pub is_listed : List (List ℕ) → List ℕ → Bool
is_listed [] k = false
is_listed (key ∷ keys) k = bytes_eq key k || is_listed keys k

abbrev pub all_listed : List (List ℕ) → Members → Bool
all_listed keys no_members = true
all_listed keys (member k d ms) = is_listed keys k && all_listed keys ms

-- a table has no keys but those that are listed
abbrev pub unknown_fault : List (List ℕ) → List ℕ → Members → Option Fault
unknown_fault keys place ms = fault_if (not (all_listed keys ms)) unknown_key place

-- ---- numbers

abbrev pub number_within : ℕ → ℕ → Option ℤ → NumberAt
number_within low high None = OtherKind
number_within low high (Some (negsuc n)) = Outside
number_within low high (Some (pos n)) = if nat_le low n && nat_le n high then Number n else Outside

-- what stands where a number from one to another is wanted
abbrev pub number_at : ℕ → ℕ → Option Data → NumberAt
number_at low high None = NoNumber
number_at low high (Some d) = number_within low high (as_integer d)

-- what is wrong with it: it is absent and needed, of another kind, or out of its range, which has its own number
abbrev pub number_fault : Bool → ℕ → List ℕ → NumberAt → Option Fault
number_fault needed number place NoNumber = fault_if needed missing_key place
number_fault needed number place OtherKind = fault wrong_kind place
number_fault needed number place Outside = fault number place
number_fault needed number place (Number n) = None

-- the number, or its default
abbrev pub number_or : ℕ → NumberAt → ℕ
number_or default (Number n) = n
number_or default other = default

-- ---- texts

-- what is wrong where a text is wanted that meets a test, which has its own number
abbrev pub text_within : (List ℕ → Bool) → ℕ → List ℕ → Option (List ℕ) → Option Fault
text_within meets number place None = fault wrong_kind place
text_within meets number place (Some s) = fault_if (not (meets s)) number place

abbrev pub text_fault : (List ℕ → Bool) → ℕ → List ℕ → Option Data → Option Fault
text_fault meets number place None = fault missing_key place
text_fault meets number place (Some d) = text_within meets number place (as_str d)

abbrev pub text_or_none : Option (List ℕ) → List ℕ
text_or_none None = []
text_or_none (Some s) = s

-- the text, empty where there is none
abbrev pub text_at : Option Data → List ℕ
text_at None = []
text_at (Some d) = text_or_none (as_str d)

-- ---- arrays of tables

abbrev pub with_table : Option Members → Option (List Members) → Option (List Members)
with_table (Some ms) (Some rest) = Some (ms ∷ rest)
with_table other rest = None

-- the tables of an array, where each of its elements is one
abbrev pub all_tables : Items → Option (List Members)
all_tables no_items = Some []
all_tables (item d ds) = with_table (as_table d) (all_tables ds)

abbrev pub tables_in : Option Items → Option (List Members)
tables_in None = None
tables_in (Some ds) = all_tables ds

-- there are as many tables as are allowed
abbrev pub count_fault : ℕ → ℕ → List ℕ → Option (List Members) → Option Fault
count_fault least most place None = fault wrong_kind place
count_fault least most place (Some tables) = fault_if (nat_lt (length tables) least || nat_lt most (length tables)) out_of_range place

-- what is wrong where an array of so many tables is wanted; it is needed where it must have some
abbrev pub tables_fault : ℕ → ℕ → List ℕ → Option Data → Option Fault
tables_fault least most place None = fault_if (nat_lt 0 least) missing_key place
tables_fault least most place (Some d) = count_fault least most place (tables_in (as_array d))

abbrev pub tables_or_none : Option (List Members) → List Members
tables_or_none None = []
tables_or_none (Some tables) = tables

-- the tables, none where there is no array of tables
abbrev pub tables_at : Option Data → List Members
tables_at None = []
tables_at (Some d) = tables_or_none (tables_in (as_array d))

-- ---- ticks

abbrev pub with_number : Option ℤ → Option (List ℤ) → Option (List ℤ)
with_number (Some n) (Some rest) = Some (n ∷ rest)
with_number other rest = None

-- the numbers of an array, where each of its elements is one
abbrev pub all_numbers : Items → Option (List ℤ)
all_numbers no_items = Some []
all_numbers (item d ds) = with_number (as_integer d) (all_numbers ds)

abbrev pub numbers_in : Option Items → Option (List ℤ)
numbers_in None = None
numbers_in (Some ds) = all_numbers ds

abbrev pub is_tick : ℤ → Bool
is_tick (pos n) = nat_le n 4095
is_tick (negsuc n) = false

abbrev pub tick_of : ℤ → ℕ
tick_of (pos n) = n
tick_of (negsuc n) = 0

-- each is below the one behind it
abbrev pub is_rising : List ℕ → Bool
is_rising [] = true
is_rising (t ∷ []) = true
is_rising (t ∷ u ∷ ts) = nat_lt t u && is_rising (u ∷ ts)
