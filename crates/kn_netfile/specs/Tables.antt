-- The tables of a file: what is wrong with each, and what it gives. A default is given where something is wrong, since then
-- the file is refused.
use Rattle.std.specs.Prelude.{ℕ, suc, ℤ, Bool, true, false, not, ◌-◌, ◌&&◌, ◌||◌, nat_lt, nat_le, nat_eq, max, List, [], ◌∷◌, ◌++◌, length, map, filter, filter_map, position, if◌then◌else◌, codes, Option, Some, None, is_some, unwrap_or, bytes_eq, Result, Ok, Err}
use Rattle.std.specs.Result.{result_ok}
use Rattle.std.specs.List.{list_all}
use Rattle.std.specs.Char.{is_ascii_alphanumeric}
use Rattle.hex.specs.declared.error.FromHexError.{FromHexError}
use Rattle.hex.specs.Hex.{decode_of}
use Rattle.toml.specs.Data.{Data, Members, get_member, as_str, as_array}
use Rattle.kn_code.specs.Code.{Code}
use Rattle.kn_code.specs.Decoding.{code_at}
use Rattle.kn_asm.specs.Assembling.{assembled}
use Rattle.kn_term.specs.Terms.{Given, Valuation}
use Rattle.kn_term.specs.Valuations.{precedes}
use Rattle.kn_plan.specs.Nets.{Plan, Link, Limits}
use Rattle.kn_plan.specs.Files.{File}
use Rattle.kn_netfile.specs.declared.keys.NumberAt.{NumberAt}
use Rattle.kn_netfile.specs.Faults.{Fault, fault, fault_if, lower, top, item_place, key_place, missing_key, wrong_kind, wrong_version, out_of_range, wrong_program, no_program, wrong_link, wrong_plan, wrong_input}
use Rattle.kn_netfile.specs.Keys.{unknown_fault, number_at, number_fault, number_or, text_within, text_fault, text_or_none, text_at, tables_fault, tables_at, numbers_in, is_tick, tick_of, is_rising}

-- what stands at a key
abbrev pub at_key : List ℕ → Members → Option Data
at_key key ms = get_member key ms

-- a number at a key of a table that is an element of an array
abbrev pub needs : ℕ → List ℕ → List ℕ → ℕ → ℕ → Members → Option Fault
needs number place key low high ms = number_fault true number (key_place place key) (number_at low high (at_key key ms))

abbrev pub may_have : ℕ → List ℕ → List ℕ → ℕ → ℕ → Members → Option Fault
may_have number place key low high ms = number_fault false number (key_place place key) (number_at low high (at_key key ms))

abbrev pub number_of : List ℕ → ℕ → ℕ → ℕ → Members → ℕ
number_of key low high default ms = number_or default (number_at low high (at_key key ms))

-- ---- programs

abbrev pub program_keys : List (List ℕ)
program_keys = codes "name" ∷ codes "code" ∷ codes "asm" ∷ []

-- an ASCII letter, an ASCII digit, `_` or `-`
abbrev pub is_name_byte : ℕ → Bool
is_name_byte c = is_ascii_alphanumeric c || (nat_eq c 95 || nat_eq c 45)

-- 1 to 32 of them
abbrev pub is_name : List ℕ → Bool
is_name s = (nat_le 1 (length s) && nat_le (length s) 32) && list_all is_name_byte s

-- the place of a name among the names
abbrev pub place_of : List (List ℕ) → List ℕ → Option ℕ
place_of names s = position (λ name. bytes_eq name s) names

-- a name that a program may have, after programs of these names
abbrev pub is_new_name : List (List ℕ) → List ℕ → Bool
is_new_name names s = is_name s && not (is_some (place_of names s))

abbrev pub name_at : Members → List ℕ
name_at ms = text_at (at_key (codes "name") ms)

abbrev pub code_within : Result (List ℕ) FromHexError → Option Code
code_within (Ok bytes) = result_ok (code_at bytes)
code_within (Err e) = None

-- the program whose bytecode a text is, in hexadecimal digits
abbrev pub program_of_code : List ℕ → Option Code
program_of_code s = code_within (decode_of s)

-- the program of an assembler text
abbrev pub program_of_asm : List ℕ → Option Code
program_of_asm s = result_ok (assembled s)

-- what is wrong with the code, where there may be an assembler text: there is neither, or both, or no such program
abbrev pub code_fault : List ℕ → Option Data → Option Data → Option Fault
code_fault place None asm = fault_if (not (is_some asm)) missing_key place
code_fault place (Some d) asm = text_within (λ s. not (is_some asm) && is_some (program_of_code s)) wrong_program place (as_str d)

-- what is wrong with the assembler text, where there may be code, which then is refused itself
abbrev pub asm_fault : List ℕ → Option Data → Option Data → Option Fault
asm_fault place code None = None
asm_fault place code (Some d) = text_within (λ s. is_some code || is_some (program_of_asm s)) wrong_program place (as_str d)

abbrev pub program_of_texts : Option Data → Option Data → Option Code
program_of_texts (Some d) asm = program_of_code (text_or_none (as_str d))
program_of_texts None None = None
program_of_texts None (Some d) = program_of_asm (text_or_none (as_str d))

-- what is wrong with a program, after programs of these names
abbrev pub program_fault : List ℕ → List (List ℕ) → Members → Option Fault
program_fault place names ms =
    lower (unknown_fault program_keys place ms)
    (lower (text_fault (is_new_name names) wrong_program (key_place place (codes "name")) (at_key (codes "name") ms))
    (lower (code_fault (key_place place (codes "code")) (at_key (codes "code") ms) (at_key (codes "asm") ms))
    (asm_fault (key_place place (codes "asm")) (at_key (codes "code") ms) (at_key (codes "asm") ms))))

abbrev pub programs_fault : ℕ → List (List ℕ) → List Members → Option Fault
programs_fault index names [] = None
programs_fault index names (ms ∷ rest) = lower (program_fault (item_place (codes "program") index) names ms) (programs_fault (suc index) (names ++ name_at ms ∷ []) rest)

abbrev pub program_at : Members → Option Code
program_at ms = program_of_texts (at_key (codes "code") ms) (at_key (codes "asm") ms)

-- the programs of those tables that give one
abbrev pub programs_of : List Members → List Code
programs_of tables = filter_map program_at tables

abbrev pub names_of : List Members → List (List ℕ)
names_of tables = map name_at tables

-- ---- nodes

abbrev pub node_keys : List (List ℕ)
node_keys = codes "program" ∷ codes "loss" ∷ codes "duplicate" ∷ codes "reboot" ∷ []

-- at most 16 ticks, each behind the one before
abbrev pub are_reboots : List ℤ → Bool
are_reboots ns = nat_le (length ns) 16 && (list_all is_tick ns && is_rising (map tick_of ns))

abbrev pub reboots_within : List ℕ → Option (List ℤ) → Option Fault
reboots_within place None = fault wrong_kind place
reboots_within place (Some ns) = fault_if (not (are_reboots ns)) wrong_plan place

abbrev pub reboot_fault : List ℕ → Option Data → Option Fault
reboot_fault place None = None
reboot_fault place (Some d) = reboots_within place (numbers_in (as_array d))

abbrev pub ticks_or_none : Option (List ℤ) → List ℕ
ticks_or_none None = []
ticks_or_none (Some ns) = map tick_of ns

abbrev pub reboots_at : Option Data → List ℕ
reboots_at None = []
reboots_at (Some d) = ticks_or_none (numbers_in (as_array d))

-- what is wrong with a node, where the programs have these names
abbrev pub node_fault : List (List ℕ) → List ℕ → Members → Option Fault
node_fault names place ms =
    lower (unknown_fault node_keys place ms)
    (lower (text_fault (λ s. is_some (place_of names s)) no_program (key_place place (codes "program")) (at_key (codes "program") ms))
    (lower (may_have wrong_plan place (codes "loss") 0 15 ms)
    (lower (may_have wrong_plan place (codes "duplicate") 0 15 ms)
    (reboot_fault (key_place place (codes "reboot")) (at_key (codes "reboot") ms)))))

abbrev pub nodes_fault : List (List ℕ) → ℕ → List Members → Option Fault
nodes_fault names index [] = None
nodes_fault names index (ms ∷ rest) = lower (node_fault names (item_place (codes "node") index) ms) (nodes_fault names (suc index) rest)

abbrev pub plan_at : List (List ℕ) → Members → Plan
plan_at names ms = record {
  program = unwrap_or (place_of names (text_at (at_key (codes "program") ms))) 0;
  loss = number_of (codes "loss") 0 15 0 ms;
  duplicate = number_of (codes "duplicate") 0 15 0 ms;
  reboot = reboots_at (at_key (codes "reboot") ms);
}

abbrev pub plans_of : List (List ℕ) → List Members → List Plan
plans_of names tables = map (plan_at names) tables

-- ---- links

abbrev pub link_keys : List (List ℕ)
link_keys = codes "from" ∷ codes "to" ∷ codes "delay" ∷ []

-- what stands where one of so many nodes is wanted
abbrev pub node_number : ℕ → List ℕ → Members → NumberAt
node_number nodes key ms = number_at 0 (nodes - 1) (at_key key ms)

abbrev pub link_at : ℕ → Members → Link
link_at nodes ms = record {
  from = number_or 0 (node_number nodes (codes "from") ms);
  to = number_or 0 (node_number nodes (codes "to") ms);
  delay = number_of (codes "delay") 1 65535 1 ms;
}

-- there are 16 links from its node before it
abbrev pub is_past_fan : List Link → Link → Bool
is_past_fan before l = nat_le 16 (length (filter (λ (m : Link). nat_eq m.from l.from) before))

-- what is wrong with a link between some of so many nodes, after these links
abbrev pub link_fault : ℕ → List Link → List ℕ → Members → Option Fault
link_fault nodes before place ms =
    lower (unknown_fault link_keys place ms)
    (lower (number_fault true wrong_link (key_place place (codes "from")) (node_number nodes (codes "from") ms))
    (lower (fault_if (is_past_fan before (link_at nodes ms)) wrong_link (key_place place (codes "from")))
    (lower (number_fault true wrong_link (key_place place (codes "to")) (node_number nodes (codes "to") ms))
    (lower (fault_if (nat_eq (link_at nodes ms).from (link_at nodes ms).to) wrong_link (key_place place (codes "to")))
    (needs wrong_link place (codes "delay") 1 65535 ms)))))

abbrev pub links_fault : ℕ → ℕ → List Link → List Members → Option Fault
links_fault nodes index before [] = None
links_fault nodes index before (ms ∷ rest) =
    lower (link_fault nodes before (item_place (codes "link") index) ms) (links_fault nodes (suc index) (before ++ link_at nodes ms ∷ []) rest)

abbrev pub links_of : ℕ → List Members → List Link
links_of nodes tables = map (link_at nodes) tables

-- ---- inputs

abbrev pub input_keys : List (List ℕ)
input_keys = codes "node" ∷ codes "index" ∷ codes "value" ∷ []

abbrev pub input_at : ℕ → Members → Given
input_at nodes ms = record {
  node = number_or 0 (node_number nodes (codes "node") ms);
  index = number_of (codes "index") 0 65535 0 ms;
  word = number_of (codes "value") 0 65535 0 ms;
}

-- it does not come behind the one before, in order of node and index
abbrev pub is_not_behind : Option Given → Given → Bool
is_not_behind None g = false
is_not_behind (Some before) g = not (precedes before.node before.index g.node g.index)

-- what is wrong with an input of one of so many nodes, after the one before
abbrev pub input_fault : ℕ → Option Given → List ℕ → Members → Option Fault
input_fault nodes before place ms =
    lower (unknown_fault input_keys place ms)
    (lower (number_fault true wrong_input (key_place place (codes "node")) (node_number nodes (codes "node") ms))
    (lower (needs wrong_input place (codes "index") 0 65535 ms)
    (lower (fault_if (is_not_behind before (input_at nodes ms)) wrong_input (key_place place (codes "index")))
    (needs wrong_input place (codes "value") 0 65535 ms))))

abbrev pub inputs_fault : ℕ → ℕ → Option Given → List Members → Option Fault
inputs_fault nodes index before [] = None
inputs_fault nodes index before (ms ∷ rest) =
    lower (input_fault nodes before (item_place (codes "input") index) ms) (inputs_fault nodes (suc index) (Some (input_at nodes ms)) rest)

-- the inputs whose word is not 0
abbrev pub inputs_of : ℕ → List Members → Valuation
inputs_of nodes tables = filter (λ (g : Given). nat_lt 0 g.word) (map (input_at nodes) tables)

-- ---- the outermost table

abbrev pub top_keys : List (List ℕ)
top_keys =
    codes "version" ∷ codes "ticks" ∷ codes "fuel" ∷ codes "conflicts" ∷ codes "states" ∷ codes "dstates" ∷ codes "program" ∷ codes "node" ∷ codes "link" ∷ codes "input" ∷ []

-- the tables of the array at a key
abbrev pub elements : List ℕ → Members → List Members
elements key ms = tables_at (at_key key ms)

abbrev pub node_count : Members → ℕ
node_count ms = length (elements (codes "node") ms)

-- a number at a key
abbrev pub limit_fault : Bool → List ℕ → ℕ → ℕ → Members → Option Fault
limit_fault needed key low high ms = number_fault needed out_of_range key (number_at low high (at_key key ms))

abbrev pub array_fault : List ℕ → ℕ → ℕ → Members → Option Fault
array_fault key least most ms = tables_fault least most key (at_key key ms)

-- what is wrong at the keys of the outermost table
abbrev pub top_fault : Members → Option Fault
top_fault ms =
    lower (unknown_fault top_keys top ms)
    (lower (number_fault true wrong_version (codes "version") (number_at 1 1 (at_key (codes "version") ms)))
    (lower (limit_fault true (codes "ticks") 0 4096 ms)
    (lower (limit_fault false (codes "fuel") 1 4096 ms)
    (lower (limit_fault false (codes "conflicts") 1 1048576 ms)
    (lower (limit_fault false (codes "states") (max 1 (node_count ms)) 16384 ms)
    (lower (limit_fault false (codes "dstates") 1 16384 ms)
    (lower (array_fault (codes "program") 1 64 ms)
    (lower (array_fault (codes "node") 1 64 ms)
    (lower (array_fault (codes "link") 0 1024 ms)
    (array_fault (codes "input") 0 65536 ms))))))))))

-- the outermost table, and then the elements of its arrays
abbrev pub file_fault : Members → Option Fault
file_fault ms =
    lower (top_fault ms)
    (lower (programs_fault 0 [] (elements (codes "program") ms))
    (lower (nodes_fault (names_of (elements (codes "program") ms)) 0 (elements (codes "node") ms))
    (lower (links_fault (node_count ms) 0 [] (elements (codes "link") ms))
    (inputs_fault (node_count ms) 0 None (elements (codes "input") ms)))))

abbrev pub limits_at : Members → Limits
limits_at ms = record {
  ticks = number_of (codes "ticks") 0 4096 0 ms;
  fuel = number_of (codes "fuel") 1 4096 512 ms;
  conflicts = number_of (codes "conflicts") 1 1048576 65536 ms;
  states = number_of (codes "states") (max 1 (node_count ms)) 16384 4096 ms;
  dstates = number_of (codes "dstates") 1 16384 4096 ms;
}

-- what the tables give where nothing is wrong with them
abbrev pub file_at : Members → File
file_at ms = record {
  network = record {
    programs = programs_of (elements (codes "program") ms);
    nodes = plans_of (names_of (elements (codes "program") ms)) (elements (codes "node") ms);
    links = links_of (node_count ms) (elements (codes "link") ms);
    limits = limits_at ms;
  };
  names = names_of (elements (codes "program") ms);
  inputs = inputs_of (node_count ms) (elements (codes "input") ms);
}

-- ---- look-ups of names

-- the place of a text if it is this name
abbrev pub place_at : List ℕ → List ℕ → ℕ → Option ℕ
place_at name s index = if bytes_eq name s then Some index else None

abbrev pub first_place : Option ℕ → Option ℕ → Option ℕ
first_place None other = other
first_place (Some place) other = Some place

-- what is wrong with the limits of so many nodes
abbrev pub limits_fault : ℕ → Members → Option Fault
limits_fault nodes ms =
    lower (limit_fault true (codes "ticks") 0 4096 ms)
    (lower (limit_fault false (codes "fuel") 1 4096 ms)
    (lower (limit_fault false (codes "conflicts") 1 1048576 ms)
    (lower (limit_fault false (codes "states") (max 1 nodes) 16384 ms)
    (limit_fault false (codes "dstates") 1 16384 ms))))
