-- The printed lines as toml's expressions.
use Rattle.std.proofs.Common.{◌≡◌, ℕ, zero, inl, inr, eqb-true, pos, suc, ◌^◌, ◌<◌, ◌/◌, ◌%◌, Bool, true, false, ◌&&◌, ◌==◌, List, [], ◌∷◌, ◌++◌, codes, slice_index, refl, sym, ap, arith}
use Rattle.std.proofs.lemmas.Bool.{and_parts, cases_Bool}
use Rattle.std.proofs.lemmas.Bool.Decides.{nat_tests}
use Rattle.std.specs.Fmt.{decimal}
use Rattle.std.specs.List.{list_all, list_any}
use Rattle.hex.specs.Hex.{encode_with, encode_lower, lower_digits}
use Rattle.toml_writer.specs.Text.{string_text, key_text, encoding_of, escaped, needs_escape, quotes_after, is_control, has}
use Rattle.toml.specs.Data.{Data, string, integer, array}
use Rattle.toml.specs.Tables.{Expression, key_value, array_table}
use Rattle.toml.specs.Text.{IsLinesText, IsValueText, IsItemsText}
use Rattle.toml.specs.Data.{Items, no_items, item}
use Rattle.kn_netfile.specs.Tables.{is_name_byte}
use Rattle.kn_netfile.specs.Printing.{more_numbers, numbers_text, quoted}

-- ---- a value with its text: what stands on the right of `=`

pub record Pair : Type 0 where
  pub key : List ℕ
  pub shown : Data
  pub text : List ℕ

abbrev pub pair_text : Pair → List ℕ
pair_text p = key_text p.key ++ (codes " = " ++ (p.text ++ 10 ∷ []))

abbrev pub pair_line : Pair → Expression
pair_line p = (([], p.key), key_value p.shown)

abbrev pub Writes : Pair → Type 0
Writes p = IsValueText false p.shown p.text

-- the lines of some pairs
abbrev pub pairs_text : List Pair → List ℕ
pairs_text [] = []
pairs_text (p ∷ ps) = pair_text p ++ pairs_text ps

abbrev pub pair_lines : List Pair → List Expression
pair_lines [] = []
pair_lines (p ∷ ps) = pair_line p ∷ pair_lines ps

abbrev pub AllWrite : List Pair → Type 0
AllWrite [] = Unit {0}
AllWrite (p ∷ ps) = Writes p × AllWrite ps

pub pairs_are : (ps : List Pair) → AllWrite ps → IsLinesText false true (pair_lines ps) (pairs_text ps)
pairs_are [] h = refl
pairs_are (p ∷ ps) h = (pair_text p, pairs_text ps, refl, (p.text, refl, h.0), pairs_are ps h.1)

-- an element of an array of tables: its header and its pairs
abbrev pub element_text : List ℕ → List Pair → List ℕ
element_text key ps = (codes "\n[[" ++ (key_text key ++ codes "]]\n")) ++ pairs_text ps

abbrev pub element_lines : List ℕ → List Pair → List Expression
element_lines key ps = (([], key), array_table) ∷ pair_lines ps

pub element_is : (key : List ℕ) (ps : List Pair) → AllWrite ps → IsLinesText false true (element_lines key ps) (element_text key ps)
element_is key ps h = (codes "\n[[" ++ (key_text key ++ codes "]]\n"), pairs_text ps, refl, refl, pairs_are ps h)

-- ---- values

abbrev pub number : List ℕ → ℕ → Pair
number key n = record { key = key; shown = integer (pos n); text = decimal n }

abbrev pub text_at : List ℕ → List ℕ → Pair
text_at key s = record { key = key; shown = string s; text = quoted s }

abbrev pub numbers : List ℕ → Items
numbers [] = no_items
numbers (n ∷ ns) = item (integer (pos n)) (numbers ns)

abbrev pub list_at : List ℕ → List ℕ → Pair
list_at key ns = record { key = key; shown = array (numbers ns); text = numbers_text ns }

abbrev pub AllFit : List ℕ → Type 0
AllFit [] = Unit {0}
AllFit (n ∷ ns) = (n < 2 ^ 63) × AllFit ns

more_are : (ns : List ℕ) → AllFit ns → IsItemsText false false false (numbers ns) (more_numbers ns)
more_are [] h = refl
more_are (n ∷ ns) h = let lt : n < 2 ^ 63 = h.0 in (decimal n, more_numbers ns, refl, (refl, omega arith), more_are ns h.1)

pub list_is : (ns : List ℕ) → AllFit ns → IsValueText false (array (numbers ns)) (numbers_text ns)
list_is [] h = (codes "]", refl, refl)
list_is (n ∷ []) h = let lt : n < 2 ^ 63 = h.0 in (decimal n ++ codes "]", refl, (decimal n, codes "]", refl, (refl, omega arith), refl))
list_is (n ∷ m ∷ ns) h = let lt : n < 2 ^ 63 = h.0 in (decimal n ++ more_numbers (m ∷ ns), refl, (decimal n, more_numbers (m ∷ ns), refl, (refl, omega arith), more_are (m ∷ ns) h.1))

-- a text that needs no escape
plain_name : (s : List ℕ) → list_all is_name_byte s ≡ true → ((list_any is_control s ≡ false) × (has 92 s ≡ false)) × ((has 34 s ≡ false) × (has 10 s ≡ false))
plain_name [] h = ((refl, refl), (refl, refl))
plain_name (c ∷ cs) h =
    let (here, more) = and_parts (is_name_byte c) (list_all is_name_byte cs) h in
    let rest = plain_name cs more in
    let a : is_control c ≡ false = grind (arith, nat_tests) in
    let b : (c == 92) ≡ false = grind (arith, nat_tests) in
    let d : (c == 34) ≡ false = grind (arith, nat_tests) in
    let e : (c == 10) ≡ false = grind (arith, nat_tests) in
    ((rw (a, rest.0.0), rw (b, rest.0.1)), (rw (d, rest.1.0), rw (e, rest.1.1)))

no_escape : (s : List ℕ) → list_all is_name_byte s ≡ true → escaped false 0 s ≡ s
unfolding escaped needs_escape quotes_after
no_escape [] h = refl
no_escape (c ∷ cs) h =
    let (here, more) = and_parts (is_name_byte c) (list_all is_name_byte cs) h in
    let a : needs_escape false 0 c ≡ false = grind (arith, nat_tests) in
    let d : (c == 34) ≡ false = grind (arith, nat_tests) in
    rw (a, d) (ap (λ (l : List ℕ). c ∷ l) (no_escape cs more))

pub text_is : (s : List ℕ) → list_all is_name_byte s ≡ true → IsValueText false (string s) (34 ∷ s ++ 34 ∷ [])
unfolding string_text encoding_of
text_is s h =
    let facts = plain_name s h in
    sym (rw (facts.0.0, facts.0.1, facts.1.0, facts.1.1) (ap (λ (l : List ℕ). 34 ∷ l ++ 34 ∷ []) (no_escape s h)))

-- hexadecimal text needs no escape
abbrev first_plain : ℕ → Bool
first_plain zero = true
first_plain (suc n) = is_name_byte (slice_index lower_digits n) && first_plain n

by_digit : (n d : ℕ) → first_plain n ≡ true → d < n → is_name_byte (slice_index lower_digits d) ≡ true
by_digit zero d all h = absurd (omega arith)
by_digit (suc n) d all h =
    let (here, more) = and_parts (is_name_byte (slice_index lower_digits n)) (first_plain n) all in
    elim (cases_Bool (d == n)) [
      | inl same ↦ rw (eqb-true d n same) here
      | inr differs ↦ by_digit n d more (grind (arith, nat_tests))
    ]

digit_plain : (d : ℕ) → d < 16 → is_name_byte (slice_index lower_digits d) ≡ true
digit_plain d h = by_digit 16 d refl h

pub hex_plain : (xs : List ℕ) → ((i : ℕ) → slice_index xs i < 256) → list_all is_name_byte (encode_lower xs) ≡ true
unfolding encode_with
hex_plain [] h = refl
hex_plain (x ∷ xs) h =
    let byte : x < 256 = h 0 in
    let a = digit_plain (x / 16) (omega arith) in
    let b = digit_plain (x % 16) (omega arith) in
    rw (a, b, hex_plain xs (λ i. h (suc i)))
