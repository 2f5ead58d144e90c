-- From a table of labels to the program of the lines, and from the lines to the text.
use Rattle.std.proofs.Common.{◌≡◌, ℕ, ◌+◌, ◌^◌, ◌<◌, List, [], ◌∷◌, ◌++◌, length, map, Option, Some, None, Result, Ok, refl, sym, ap, subst, ◌∙◌, arith, IfSome}
use Rattle.std.specs.List.{flat_map, slice_split, count_by}
use Rattle.std.proofs.lemmas.List.{length-map}
use Rattle.std.proofs.lemmas.List.Splits.{length-slice_split}
use Rattle.kn_code.specs.declared.program.Instr.{Instr}
use Rattle.kn_code.specs.Code.{Code, IsValid}
use Rattle.kn_asm.specs.declared.fault.AsmFault.{AsmFault}
use Rattle.kn_asm.specs.Meaning.{Content, nothing, wrong, does}
use Rattle.kn_asm.specs.Lines.{Line, lines_of_lem, line_of_lem, is_feed, AreSound}
use Rattle.kn_asm.specs.Assembling.{place_of, target_place, settled_lem, handler_names, code_of_lines, first_fault_lem, decided, program_of_lem, assembled, Gives}
use Rattle.kn_asm.proofs.Valid.{valid, few_places}

map_same : {A B : Type 0} (f g : A → B) → ((x : A) → f x ≡ g x) → (xs : List A) → map f xs ≡ map g xs
map_same f g same [] = refl
map_same f g same (x ∷ xs) = ap (λ y. y ∷ map f xs) (same x) ∙ ap (λ l. g x ∷ l) (map_same f g same xs)

target_same : (f g : List ℕ → Option ℕ) → ((q : List ℕ) → f q ≡ g q) → (o : Option (List ℕ)) → target_place f o ≡ target_place g o
target_same f g same None = refl
target_same f g same (Some q) = rw (same q) refl

settled_same : (f g : List ℕ → Option ℕ) → ((q : List ℕ) → f q ≡ g q) → (c : Content) → settled_lem f c ≡ settled_lem g c
settled_same f g same nothing = refl
settled_same f g same (wrong cause) = refl
settled_same f g same (does i target) = rw (target_same f g same target) refl

instrs_same : (f g : List ℕ → Option ℕ) → ((q : List ℕ) → f q ≡ g q) → (ls : List Line) → flat_map (λ (l : Line). settled_lem f l.content) ls ≡ flat_map (λ (l : Line). settled_lem g l.content) ls
instrs_same f g same [] = refl
instrs_same f g same (l ∷ ls) =
    ap (λ (is : List Instr). is ++ flat_map (λ (x : Line). settled_lem f x.content) ls) (settled_same f g same l.content)
    ∙ ap (λ (is : List Instr). settled_lem g l.content ++ is) (instrs_same f g same ls)

-- the labels that a table holds are the lines'
module _ (ls : List Line) (places : List ℕ → Option ℕ) (same : (q : List ℕ) → places q ≡ place_of ls q) where
  pub few_labels : first_fault_lem ls ≡ None → (q : List ℕ) → IfSome (places q) (λ p. p < 2 ^ 16)
  few_labels none q = subst (λ (o : Option ℕ). IfSome o (λ p. p < 2 ^ 16)) (sym (same q)) (few_places ls none q)

  pub code_is : (is : List Instr) (hs : List (Option ℕ)) → is ≡ flat_map (λ (l : Line). settled_lem places l.content) ls → hs ≡ map places handler_names
      → record { instrs = is; handlers = hs } ≡ code_of_lines ls
  code_is is hs is_instrs is_handlers =
      let a : is ≡ (code_of_lines ls).instrs = is_instrs ∙ instrs_same places (place_of ls) same ls in
      let b : hs ≡ (code_of_lines ls).handlers = is_handlers ∙ map_same places (place_of ls) same handler_names in
      ap (λ (l : List Instr). record { instrs = l; handlers = hs }) a ∙ ap (λ (l : List (Option ℕ)). record { instrs = (code_of_lines ls).instrs; handlers = l }) b

pub valid_code : (ls : List Line) (code : Code) → 0 < length ls → AreSound ls → first_fault_lem ls ≡ None → code ≡ code_of_lines ls → IsValid code
valid_code ls code some sound none e = subst IsValid (sym e) (valid ls some sound none)

pub decided_ok : (ls : List Line) (code : Code) → first_fault_lem ls ≡ None → code ≡ code_of_lines ls → program_of_lem ls ≡ Ok code
decided_ok ls code none e = ap (λ (f : Option AsmFault). decided f (code_of_lines ls)) none ∙ ap (λ (c : Code). Ok c) (sym e)

pub some_line : (text : List ℕ) → 0 < length (lines_of_lem text)
some_line text =
    let a : length (lines_of_lem text) ≡ length (slice_split is_feed text) = length-map (slice_split is_feed text) line_of_lem in
    let b : length (slice_split is_feed text) ≡ count_by is_feed text + 1 = length-slice_split is_feed text in
    omega (arith, a, b)

pub assembled_ok : (text : List ℕ) (ls : List Line) (code : Code) → ls ≡ lines_of_lem text → program_of_lem ls ≡ Ok code → assembled text ≡ Ok code
unfolding assembled
assembled_ok text ls code e is = ap program_of_lem (sym e) ∙ is

pub gives_text : (text : List ℕ) (ls : List Line) (r : Result Code AsmFault) → ls ≡ lines_of_lem text → Gives r (program_of_lem ls) → Gives r (assembled text)
unfolding assembled
gives_text text ls r e h = subst (λ (l : List Line). Gives r (program_of_lem l)) e h
