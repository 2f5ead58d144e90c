-- Where the tables of programs have no fault, each gives a program, and their names are names, no two the same.
use Rattle.std.proofs.Common.{◌≡◌, ◌≢◌, ℕ, suc, ◌<◌, ◌≤◌, ◌+◌, Bool, true, false, not, leb, eqb, ◌&&◌, ◌||◌, cond, List, [], ◌∷◌, ◌++◌, length, codes, Option, Some, None, refl, ap, inl, inr, ◌∙◌, arith}
use Rattle.std.specs.List.{AllByRecursion, cons_option, list_all, position_or_len}
use Rattle.std.specs.Option.{is_some}
use Rattle.std.specs.Prelude.{bytes_eq}
use Rattle.std.specs.Char.{is_ascii_alphanumeric}
use Rattle.std.specs.Int.{is_in_range}
use Rattle.std.proofs.lemmas.Bool.{and_parts, or_cases, leb-true, eqb-true, lt-ltb}
use Rattle.std.proofs.lemmas.List.{append_assoc}
use Rattle.std.proofs.lemmas.Slice.Eq.{bytes_eq-Decides}
use Rattle.toml.specs.Data.{Data, Members, as_str}
use Rattle.kn_plan.specs.Files.{IsNameByte, IsName, AreDifferent}
use Rattle.kn_netfile.specs.Faults.{item_place, key_place, wrong_program}
use Rattle.kn_netfile.specs.Keys.{unknown_fault, text_fault}
use Rattle.kn_netfile.specs.Tables.{at_key, program_keys, is_name_byte, is_name, place_of, is_new_name, name_at, program_of_code, program_of_asm, code_fault, asm_fault, program_of_texts, program_fault, programs_fault, program_at, programs_of, names_of}
use Rattle.kn_netfile.proofs.ValidKeys.{both_none, within_meets, text_meets}

-- ---- names

name_byte : (c : ℕ) → is_name_byte c ≡ true → IsNameByte c
name_byte c e = elim (or_cases (is_ascii_alphanumeric c) (eqb c 95 || eqb c 45) e) [
  | inl a ↦ elim (or_cases (is_in_range 48 57 c || is_in_range 65 90 c) (is_in_range 97 122 c) a) [
    | inl b ↦ elim (or_cases (is_in_range 48 57 c) (is_in_range 65 90 c) b) [ inl d ↦ inr (inr (inl (within 48 57 d))) | inr u ↦ inr (inl (within 65 90 u)) ]
    | inr l ↦ inl (within 97 122 l)
  ]
  | inr o ↦ elim (or_cases (eqb c 95) (eqb c 45) o) [ inl u ↦ inr (inr (inr (inl (eqb-true c 95 u)))) | inr h ↦ inr (inr (inr (inr (eqb-true c 45 h)))) ]
]
  where
    within : (low high : ℕ) → is_in_range low high c ≡ true → (low ≤ c) × (c ≤ high)
    within low high h = let (a, b) = and_parts (leb low c) (leb c high) h in (leb-true low c a, leb-true c high b)

name_bytes : (s : List ℕ) → list_all is_name_byte s ≡ true → AllByRecursion IsNameByte s
name_bytes [] e = tt
name_bytes (c ∷ s) e = let (a, b) = and_parts (is_name_byte c) (list_all is_name_byte s) e in (name_byte c a, name_bytes s b)

is_a_name : (s : List ℕ) → is_name s ≡ true → IsName s
is_a_name s e =
    let (a, b) = and_parts (leb 1 (length s) && leb (length s) 32) (list_all is_name_byte s) e in
    let (c, d) = and_parts (leb 1 (length s)) (leb (length s) 32) a in
    record { some = leb-true 1 (length s) c; most = leb-true (length s) 32 d; bytes = name_bytes s b }

-- an element that passes is found
finds : {A : Type 0} (p : A → Bool) (before : List A) (x : A) (after : List A) → p x ≡ true → position_or_len p (before ++ x ∷ after) < length (before ++ x ∷ after)
finds p [] x after e = rw e (omega arith)
finds p (y ∷ before) x after e = go (p y) (finds p before x after e)
  where
    go : (b : Bool) → position_or_len p (before ++ x ∷ after) < length (before ++ x ∷ after)
        → cond (not b) (1 + position_or_len p (before ++ x ∷ after)) 0 < suc (length (before ++ x ∷ after))
    go true h = omega arith
    go false h = omega arith

-- a new name is none of those before it
new_differs : (before : List (List ℕ)) (x : List ℕ) (after : List (List ℕ)) (s : List ℕ) → not (is_some (place_of (before ++ x ∷ after) s)) ≡ true → x ≢ s
new_differs before x after s e same =
    let found = lt-ltb _ _ (finds (λ (name : List ℕ). bytes_eq name s) before x after ((bytes_eq-Decides x s).1 same)) in
    let h = rw found at e in cc

-- ---- programs

gives_program : (at at' : List ℕ) (code asm : Option Data) → code_fault at code asm ≡ None → asm_fault at' code asm ≡ None → is_some (program_of_texts code asm) ≡ true
gives_program at at' None None e f = absurd cc
gives_program at at' None (Some d) e f = within_meets (λ s. false || is_some (program_of_asm s)) wrong_program at' (as_str d) f
gives_program at at' (Some d) asm e f = (and_parts (not (is_some asm)) _ (within_meets (λ s. not (is_some asm) && is_some (program_of_code s)) wrong_program at (as_str d) e)).1

-- what holds of a program's table that has no fault
record IsProgram (names : List (List ℕ)) (ms : Members) : Type 0 where
  is_new : is_new_name names (name_at ms) ≡ true
  gives : is_some (program_at ms) ≡ true

program_valid : (place : List ℕ) (names : List (List ℕ)) (ms : Members) → program_fault place names ms ≡ None → IsProgram names ms
program_valid place names ms e =
    let (a, one) = both_none (unknown_fault program_keys place ms) _ e in
    let (b, two) = both_none (text_fault (is_new_name names) wrong_program (key_place place (codes "name")) (at_key (codes "name") ms)) _ one in
    let (c, d) = both_none (code_fault (key_place place (codes "code")) (at_key (codes "code") ms) (at_key (codes "asm") ms)) _ two in
    record {
      is_new = text_meets (is_new_name names) wrong_program (key_place place (codes "name")) (at_key (codes "name") ms) b;
      gives = gives_program (key_place place (codes "code")) (key_place place (codes "asm")) (at_key (codes "code") ms) (at_key (codes "asm") ms) c d;
    }

-- a table and those behind it
programs_split : (index : ℕ) (names : List (List ℕ)) (ms : Members) (rest : List Members) → programs_fault index names (ms ∷ rest) ≡ None
    → IsProgram names ms × (programs_fault (suc index) (names ++ name_at ms ∷ []) rest ≡ None)
programs_split index names ms rest e =
    let (a, b) = both_none (program_fault (item_place (codes "program") index) names ms) _ e in (program_valid (item_place (codes "program") index) names ms a, b)

one_more : {A : Type 0} (o : Option A) (xs : List A) → is_some o ≡ true → length (cons_option o xs) ≡ suc (length xs)
one_more None xs e = absurd cc
one_more (Some x) xs e = refl

pub programs_count : (index : ℕ) (names : List (List ℕ)) (tables : List Members) → programs_fault index names tables ≡ None → length (programs_of tables) ≡ length tables
programs_count index names [] e = refl
programs_count index names (ms ∷ rest) e =
    let (a, b) = programs_split index names ms rest e in
    one_more (program_at ms) (programs_of rest) a.gives ∙ ap suc (programs_count (suc index) (names ++ name_at ms ∷ []) rest b)

pub names_valid : (index : ℕ) (names : List (List ℕ)) (tables : List Members) → programs_fault index names tables ≡ None → AllByRecursion IsName (names_of tables)
names_valid index names [] e = tt
names_valid index names (ms ∷ rest) e =
    let (a, b) = programs_split index names ms rest e in
    (is_a_name (name_at ms) (and_parts (is_name (name_at ms)) _ a.is_new).0, names_valid (suc index) (names ++ name_at ms ∷ []) rest b)

-- a name before the tables is none of theirs
differs : (before : List (List ℕ)) (x : List ℕ) (after : List (List ℕ)) (index : ℕ) (tables : List Members) → programs_fault index (before ++ x ∷ after) tables ≡ None
    → AllByRecursion (λ y. x ≢ y) (names_of tables)
differs before x after index [] e = tt
differs before x after index (ms ∷ rest) e =
    let (a, b) = programs_split index (before ++ x ∷ after) ms rest e in (
      new_differs before x after (name_at ms) (and_parts (is_name (name_at ms)) _ a.is_new).1,
      differs before x (after ++ name_at ms ∷ []) (suc index) rest (rw append_assoc at b),
    )

pub names_differ : (index : ℕ) (names : List (List ℕ)) (tables : List Members) → programs_fault index names tables ≡ None → AreDifferent (names_of tables)
names_differ index names [] e = tt
names_differ index names (ms ∷ rest) e =
    let (a, b) = programs_split index names ms rest e in
    (differs names (name_at ms) [] (suc index) rest b, names_differ (suc index) (names ++ name_at ms ∷ []) rest b)
