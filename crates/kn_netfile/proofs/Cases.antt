-- The cases of a file.
use Rattle.std.proofs.Common.{◌≡◌, ℕ, ◌<◌, ◌≤◌, true, false, ltb, List, [], length, codes, Option, Some, None, Ok, Err, refl, ◌∙◌, inl, inr, arith}
use Rattle.std.proofs.lemmas.Bool.{cases_Bool}
use Rattle.std.proofs.lemmas.Bool.Decides.{nat_tests}
use Rattle.std.proofs.lemmas.Str.{is_utf8-from_IsUtf8, IsUtf8-from_is_utf8}
use Rattle.std.specs.Str.{IsUtf8, is_utf8}
use Rattle.toml.specs.Data.{Members}
use Rattle.toml.specs.Parse.{parse_document}
use Rattle.kn_netfile.specs.Faults.{Fault, lower, everywhere}
use Rattle.kn_netfile.specs.Tables.{elements, names_of, programs_fault, nodes_fault, links_fault, inputs_fault, top_fault, file_fault, file_at}
use Rattle.kn_netfile.specs.Reading.{most_bytes, file_of_tables, file_of}

pub is_too_long : (bytes : List ℕ) → most_bytes < length bytes → file_of bytes ≡ Err (record { number = 1; place = everywhere })
unfolding file_of
is_too_long bytes h = let long : ltb 1048576 (length bytes) ≡ true = grind (arith, nat_tests) in rw long

pub is_no_document : (bytes : List ℕ) → length bytes ≤ most_bytes → (IsUtf8 bytes → parse_document bytes ≡ None) → file_of bytes ≡ Err (record { number = 2; place = everywhere })
unfolding file_of
is_no_document bytes h none =
    let short : ltb 1048576 (length bytes) ≡ false = grind (arith, nat_tests) in
    elim (cases_Bool (is_utf8 bytes)) [
      | inl text ↦ rw (short, text, none (IsUtf8-from_is_utf8 bytes text))
      | inr other ↦ rw (short, other)
    ]

pub is_document : (bytes : List ℕ) (ms : Members) → length bytes ≤ most_bytes → IsUtf8 bytes → parse_document bytes ≡ Some ms → file_of bytes ≡ file_of_tables ms
unfolding file_of
is_document bytes ms h text is =
    let short : ltb 1048576 (length bytes) ≡ false = grind (arith, nat_tests) in
    rw (short, is_utf8-from_IsUtf8 bytes text, is)

pub has_fault : (ms : Members) (f : Fault) → file_fault ms ≡ Some f → file_of_tables ms ≡ Err f
unfolding file_of_tables
has_fault ms f e = rw e

pub has_none : (ms : Members) → file_fault ms ≡ None → file_of_tables ms ≡ Ok (file_at ms)
unfolding file_of_tables
has_none ms e = rw e

-- the faults of a file, by its arrays
pub fault_of_arrays : (ms : Members) (programs nodes links inputs : List Members) (names : List (List ℕ)) (count : ℕ) (outermost fault below both all : Option Fault) → nodes ≡ elements (codes "node") ms → links ≡ elements (codes "link") ms → inputs ≡ elements (codes "input") ms
    → names ≡ names_of programs → outermost ≡ top_fault ms → fault ≡ programs_fault 0 [] programs → below ≡ lower (nodes_fault names 0 nodes) (lower (links_fault count 0 [] links) (inputs_fault count 0 None inputs)) → both ≡ lower fault below → all ≡ lower outermost both
    → programs ≡ elements (codes "program") ms → count ≡ length nodes → all ≡ file_fault ms
fault_of_arrays ms programs nodes links inputs names count outermost fault below both all is_nodes is_links is_inputs is_names is_outermost is_fault is_below is_both is_all is_programs is_count =
    is_all ∙ rw (is_outermost, is_both, is_fault, is_below, is_names, is_count, is_programs, is_nodes, is_links, is_inputs) refl
