-- The faults of a file: their numbers, their places, and which one is given.
use Rattle.std.specs.Prelude.{ℕ, nat_lt, if◌then◌else◌, Bool, List, [], ◌∷◌, ◌++◌, codes, decimal, Option, Some, None}

-- a number, 1 to 12, and where
pub record Fault : Type 0 where
  pub number : ℕ
  pub place : List ℕ

-- ---- the numbers

-- the file is too long
abbrev pub too_long : ℕ
too_long = 1

-- the bytes are no TOML document
abbrev pub no_document : ℕ
no_document = 2

-- a table has a key that is not listed
abbrev pub unknown_key : ℕ
unknown_key = 3

-- a table lacks a key
abbrev pub missing_key : ℕ
missing_key = 4

-- what stands at a key is of another kind
abbrev pub wrong_kind : ℕ
wrong_kind = 5

-- the version is not 1
abbrev pub wrong_version : ℕ
wrong_version = 6

-- a limit or a count is out of its range
abbrev pub out_of_range : ℕ
out_of_range = 7

-- a program's name, code or text is refused
abbrev pub wrong_program : ℕ
wrong_program = 8

-- no program has the name
abbrev pub no_program : ℕ
no_program = 9

-- a link is refused
abbrev pub wrong_link : ℕ
wrong_link = 10

-- what a node loses, is given twice, or when it reboots is refused
abbrev pub wrong_plan : ℕ
wrong_plan = 11

-- an input is refused
abbrev pub wrong_input : ℕ
wrong_input = 12

-- ---- places

-- the file as a whole
abbrev pub everywhere : List ℕ
everywhere = codes "-"

-- the outermost table
abbrev pub top : List ℕ
top = codes "top"

-- an element of an array of tables
abbrev pub item_place : List ℕ → ℕ → List ℕ
item_place key index = key ++ 91 ∷ (decimal index ++ 93 ∷ [])

-- a key of a table that is such an element
abbrev pub key_place : List ℕ → List ℕ → List ℕ
key_place place key = place ++ 46 ∷ key

-- ---- which one is given

abbrev pub fault : ℕ → List ℕ → Option Fault
fault number place = Some (record { number = number; place = place })

-- a fault where something is wrong
abbrev pub fault_if : Bool → ℕ → List ℕ → Option Fault
fault_if wrong number place = if wrong then fault number place else None

-- the one of the lower number, and of two of one number the first
abbrev pub lower : Option Fault → Option Fault → Option Fault
lower None b = b
lower (Some a) None = Some a
lower (Some a) (Some b) = if nat_lt b.number a.number then Some b else Some a

-- a fault at a place, where there is the number of one
abbrev pub located : List ℕ → Option ℕ → Option Fault
located place None = None
located place (Some number) = fault number place
