-- The text of a valid program is assembled to that program.
use Rattle.std.proofs.Common.{◌≡◌, ◌≢◌, ℕ, suc, ◌+◌, ◌*◌, ◌<◌, ◌≤◌, Bool, true, false, not, List, [], ◌∷◌, ◌++◌, length, map, get_or, Option, Some, None, Ok, refl, sym, ap, subst, ◌∙◌, inl, inr, arith, IfSome}
use Rattle.std.specs.Prelude.{◌==◌, ◌&&◌, is_some}
use Rattle.std.specs.List.{list_any, flat_map}
use Rattle.std.proofs.lemmas.Bool.{cases_Bool, cases_eq, eq-eqb, ne_eqb, and_left, and_right, or_from}
use Rattle.kn_code.specs.declared.program.Instr.{Instr}
use Rattle.kn_code.specs.declared.program.Instr.TheVariants.{Jmp, Brz, Ret, Halt}
use Rattle.kn_code.specs.Code.{Code, IsInstr, IsValid, AllWithLeft, Stands, Ends}
use Rattle.kn_code.proofs.Valid.{handler_names as entry_below}
use Rattle.kn_asm.specs.declared.fault.AsmCause.{AsmCause}
use Rattle.kn_asm.specs.Meaning.{nothing, does}
use Rattle.kn_asm.specs.Lines.{Line, lines_of_lem}
use Rattle.kn_asm.specs.Assembling.{instrs_in, place_of, wrong_in, is_lost, is_miscounted, ends_lem, is_open, fault_given_lem, fault_of, refused, first_fault_from, first_fault_lem, settled_lem, handler_names, code_of_lines, assembled}
use Rattle.kn_asm.specs.Printing.{label_text, goes_to, is_at, disassembled}
use Rattle.kn_asm.proofs.PrintedLines.{plain, aim, instr_entry}
use Rattle.kn_asm.proofs.Entries.{label_of, label_when, handler_name, handler_entries, entries, entries_read}
use Rattle.kn_asm.proofs.Ranks.{rank, label_rank, OnLabel, AllLabels, nowhere, Along, along_all, along_next, rank_here, label_found, handler_found}
use Rattle.kn_asm.proofs.Faults.{instrs_more}
use Rattle.kn_asm.proofs.Whole.{decided_ok, assembled_ok}

-- ---- how many instructions there are

when_count : (b : Bool) (w : List ℕ) (ls : List Line) → instrs_in (label_when b w ls) ≡ instrs_in ls
when_count false w ls = refl
when_count true w ls = omega arith

handlers_count : (index number : ℕ) (es : List (Option ℕ)) (ls : List Line) → instrs_in (handler_entries index number es ls) ≡ instrs_in ls
handlers_count index number [] ls = refl
handlers_count index number (e ∷ es) ls = when_count (is_at index e) (handler_name number) (handler_entries index (number + 1) es ls) ∙ handlers_count index (number + 1) es ls

entries_count : (all : List Instr) (handlers : List (Option ℕ)) (index : ℕ) (is : List Instr) → instrs_in (entries all handlers index is) ≡ length is
entries_count all handlers index [] = refl
entries_count all handlers index (i ∷ is) =
    let more : instrs_in (entries all handlers (index + 1) is) ≡ length is = entries_count all handlers (index + 1) is in
    handlers_count index 0 handlers (label_when (list_any (goes_to index) all) (label_text index) (instr_entry i ∷ entries all handlers (index + 1) is))
    ∙ when_count (list_any (goes_to index) all) (label_text index) (instr_entry i ∷ entries all handlers (index + 1) is) ∙ omega (arith, more)

some_lines : (ls : List Line) → 0 < instrs_in ls → 0 < length ls
some_lines [] h = absurd (omega (arith, h))
some_lines (l ∷ ls) h = omega arith

-- ---- lines without a fault

passes : (l : Line) (twice lost : Bool) (before after : ℕ) (last : Bool) → wrong_in l.content ≡ None → twice ≡ false → lost ≡ false → is_miscounted l.content before last ≡ false
    → ((after == 0) && is_open l.label l.content) ≡ false → fault_given_lem l twice lost before after last ≡ None
passes l twice lost before after last a b c d e = rw (a, b, c, d, e) refl

not_zero : (n : ℕ) → 0 < n → (n == 0) ≡ false
not_zero n lt = ne_eqb n 0 (λ e. omega (arith, e, lt))

label_passes : (all before : List Line) (w : List ℕ) (after : List Line) → place_of before w ≡ None → 0 < instrs_in after → fault_of all before (label_of w) after ≡ None
label_passes all before w after new some =
    let lines : 0 < length after = some_lines after some in
    passes (label_of w) (is_some (place_of before w)) false (instrs_in before) (instrs_in after) (length after == 0) refl (ap is_some new) refl
    (and_left (length after == 0) (instrs_in before + 0 == 0) (not_zero (length after) lines))
    (and_left (instrs_in after == 0) true (not_zero (instrs_in after) some))

instr_passes : (all before : List Line) (i : Instr) (after : List Line) → is_lost (place_of all) (aim i) ≡ false → instrs_in before < 4096 → ((instrs_in after == 0) && not (ends_lem (plain i))) ≡ false
    → fault_of all before (instr_entry i) after ≡ None
instr_passes all before i after found few ends =
    passes (instr_entry i) false (is_lost (place_of all) (aim i)) (instrs_in before) (instrs_in after) (length after == 0) refl refl found
    (or_from (instrs_in before == 4096) ((length after == 0) && (instrs_in before + 1 == 0)) (ne_eqb (instrs_in before) 4096 (λ e. omega (arith, e, few)))
    (and_right (length after == 0) (instrs_in before + 1 == 0) (not_zero (instrs_in before + 1) (omega arith))))
    ends

end_passes : (all before : List Line) → 0 < instrs_in before → fault_of all before (record { label = None; content = nothing }) [] ≡ None
end_passes all before some =
    passes (record { label = None; content = nothing }) false false (instrs_in before) 0 true refl refl refl (not_zero (instrs_in before + 0) (omega (arith, some))) refl

line_passes : (all before : List Line) (l : Line) (after : List Line) → fault_of all before l after ≡ None → first_fault_from all (before ++ l ∷ []) after ≡ None → first_fault_from all before (l ∷ after) ≡ None
line_passes all before l after a b = ap (λ (c : Option AsmCause). refused (length before + 1) c (first_fault_from all (before ++ l ∷ []) after)) a ∙ b

-- ---- the lines before a line

-- their labels rank lower, and they hold so many instructions
record IsBefore (handlers : List (Option ℕ)) (r index : ℕ) (before : List Line) : Type 0 where
  lower : AllLabels (λ w. rank handlers w < r) before
  count : instrs_in before ≡ index

on_label : (f : List ℕ → ℕ) (r s : ℕ) (o : Option (List ℕ)) → r ≤ s → OnLabel (λ w. f w < r) o → OnLabel (λ w. f w < s) o
on_label f r s None le h = tt
on_label f r s (Some w) le h = omega (arith, h, le)

lower_still : (f : List ℕ → ℕ) (r s : ℕ) (ls : List Line) → r ≤ s → AllLabels (λ w. f w < r) ls → AllLabels (λ w. f w < s) ls
lower_still f r s [] le h = tt
lower_still f r s (l ∷ ls) le h = (on_label f r s l.label le h.0, lower_still f r s ls le h.1)

lower_more : (f : List ℕ → ℕ) (r : ℕ) (ls : List Line) (l : Line) → AllLabels (λ w. f w < r) ls → OnLabel (λ w. f w < r) l.label → AllLabels (λ w. f w < r) (ls ++ l ∷ [])
lower_more f r [] l h here = (here, tt)
lower_more f r (x ∷ ls) l h here = (h.0, lower_more f r ls l h.1 here)

on_apart : (f : List ℕ → ℕ) (r : ℕ) (q : List ℕ) (o : Option (List ℕ)) → r ≤ f q → OnLabel (λ w. f w < r) o → OnLabel (λ w. f w ≢ f q) o
on_apart f r q None le h = tt
on_apart f r q (Some w) le h = λ e. omega (arith, e, h, le)

apart : (f : List ℕ → ℕ) (r : ℕ) (q : List ℕ) (ls : List Line) → r ≤ f q → AllLabels (λ w. f w < r) ls → AllLabels (λ w. f w ≢ f q) ls
apart f r q [] le h = tt
apart f r q (l ∷ ls) le h = (on_apart f r q l.label le h.0, apart f r q ls le h.1)

before_still : (handlers : List (Option ℕ)) (r s index : ℕ) (before : List Line) → r ≤ s → IsBefore handlers r index before → IsBefore handlers s index before
before_still handlers r s index before le h = record { lower = lower_still (rank handlers) r s before le h.lower; count = h.count }

before_label : (handlers : List (Option ℕ)) (r s index : ℕ) (before : List Line) (w : List ℕ) → r ≤ s → rank handlers w < s → IsBefore handlers r index before → IsBefore handlers s index (before ++ label_of w ∷ [])
before_label handlers r s index before w le lt h =
    let n = instrs_more before (label_of w) in
    let c : instrs_in before ≡ index = h.count in
    record { lower = lower_more (rank handlers) s before (label_of w) (lower_still (rank handlers) r s before le h.lower) lt; count = omega (arith, n, c) }

before_instr : (handlers : List (Option ℕ)) (r index : ℕ) (before : List Line) (i : Instr) → IsBefore handlers r index before → IsBefore handlers r (index + 1) (before ++ instr_entry i ∷ [])
before_instr handlers r index before i h =
    let n = instrs_more before (instr_entry i) in
    let c : instrs_in before ≡ index = h.count in
    record { lower = lower_more (rank handlers) r before (instr_entry i) h.lower tt; count = omega (arith, n, c) }

-- lines that have no fault behind any lines of lower rank
abbrev Passes : List Line → List (Option ℕ) → ℕ → ℕ → List Line → Type 0
Passes all handlers r index ls = (before : List Line) → IsBefore handlers r index before → first_fault_from all before ls ≡ None

when_passes : (all : List Line) (handlers : List (Option ℕ)) (b : Bool) (w : List ℕ) (r s index : ℕ) (ls : List Line) → r ≤ s → (b ≡ true → (r ≤ rank handlers w) × (rank handlers w < s)) → 0 < instrs_in ls
    → Passes all handlers s index ls → Passes all handlers r index (label_when b w ls)
when_passes all handlers false w r s index ls le h some more before at = more before (before_still handlers r s index before le at)
when_passes all handlers true w r s index ls le h some more before at =
    line_passes all before (label_of w) ls (label_passes all before w ls (nowhere (rank handlers) w 0 before (apart (rank handlers) r w before (h refl).0 at.lower)) some)
    (more (before ++ label_of w ∷ []) (before_label handlers r s index before w le (h refl).1 at))

handlers_pass : (all : List Line) (handlers : List (Option ℕ)) (index number : ℕ) (es : List (Option ℕ)) (ls : List Line) → Along handlers number es → 0 < instrs_in ls
    → Passes all handlers (11 * suc index + 10) index ls → Passes all handlers (11 * suc index + number) index (handler_entries index number es ls)
handlers_pass all handlers index number [] ls h some more before at =
    let t : number + 0 ≡ 10 = h.ten in
    more before (before_still handlers (11 * suc index + number) (11 * suc index + 10) index before (omega (arith, t)) at)
handlers_pass all handlers index number (e ∷ es) ls h some more before at =
    let n : instrs_in (handler_entries index (number + 1) es ls) ≡ instrs_in ls = handlers_count index (number + 1) es ls in
    when_passes all handlers (is_at index e) (handler_name number) (11 * suc index + number) (11 * suc index + (number + 1)) index (handler_entries index (number + 1) es ls) (omega arith)
    (λ y. let k : rank handlers (handler_name number) ≡ 11 * suc index + number = rank_here handlers index number e es h y in (omega (arith, k), omega (arith, k)))
    (omega (arith, n, some)) (handlers_pass all handlers index (number + 1) es ls (along_next handlers number e es h) some more) before at

-- ---- the targets

abbrev Found : (List ℕ → Option ℕ) → Instr → Type 0
Found places (Jmp to) = places (label_text to) ≡ Some to
Found places (Brz a to) = places (label_text to) ≡ Some to
Found places other = Unit {0}

abbrev AllFound : (List ℕ → Option ℕ) → List Instr → Type 0
AllFound places [] = Unit {0}
AllFound places (i ∷ is) = Found places i × AllFound places is

not_lost : (places : List ℕ → Option ℕ) (i : Instr) → Found places i → is_lost places (aim i) ≡ false
not_lost places (Jmp to) h = rw h refl
not_lost places (Brz a to) h = rw h refl
not_lost places other h = refl

found_one : (count : ℕ) (places : List ℕ → Option ℕ) (i : Instr) → IsInstr count i → ((k : ℕ) → goes_to k i ≡ true → k < count → places (label_text k) ≡ Some k) → Found places i
found_one count places (Jmp to) h at = at to (eq-eqb to to refl) h
found_one count places (Brz a to) h at = at to (eq-eqb to to refl) h.1
found_one count places other h at = tt

found_all : (count : ℕ) (places : List ℕ → Option ℕ) (is : List Instr) → AllWithLeft (Stands count) is → ((k : ℕ) → list_any (goes_to k) is ≡ true → k < count → places (label_text k) ≡ Some k) → AllFound places is
found_all count places [] h at = tt
found_all count places (i ∷ is) h at =
    (found_one count places i h.0.0 (λ k y lt. at k (rw y refl) lt), found_all count places is h.1 (λ k y lt. at k (elim (cases_Bool (goes_to k i)) [ inl here ↦ rw here refl | inr n ↦ rw n y ]) lt))

plain_ends : (i : Instr) → Ends i → ends_lem (plain i) ≡ true
plain_ends (Jmp to) h = refl
plain_ends Ret h = refl
plain_ends Halt h = refl
plain_ends other h = absurd h

goes_on : (left : ℕ) (i : Instr) → (left ≡ 0 → Ends i) → ((left == 0) && not (ends_lem (plain i))) ≡ false
goes_on left i h =
    elim (cases_eq left 0) [
      | inl none ↦ and_right (left == 0) (not (ends_lem (plain i))) (ap not (plain_ends i (h none)))
      | inr some ↦ and_left (left == 0) (not (ends_lem (plain i))) (ne_eqb left 0 some)
    ]

-- ---- all lines

entries_pass : (all : List Line) (instrs : List Instr) (handlers : List (Option ℕ)) (count index : ℕ) (is : List Instr) → length handlers ≡ 10 → index + length is ≤ 4096 → 0 < index + length is
    → AllFound (place_of all) is → AllWithLeft (Stands count) is → Passes all handlers (11 * suc index) index (entries instrs handlers index is)
entries_pass all instrs handlers count index [] ten few some found h before at =
    let c : instrs_in before ≡ index = at.count in
    line_passes all before (record { label = None; content = nothing }) [] (end_passes all before (omega (arith, c, some))) refl
entries_pass all instrs handlers count index (i ∷ is) ten few some found h before at =
    let ls : List Line = entries instrs handlers (index + 1) is in
    let b : Bool = list_any (goes_to index) instrs in
    let n : instrs_in ls ≡ length is = entries_count instrs handlers (index + 1) is in
    let m : instrs_in (label_when b (label_text index) (instr_entry i ∷ ls)) ≡ instrs_in (instr_entry i ∷ ls) = when_count b (label_text index) (instr_entry i ∷ ls) in
    let r : rank handlers (label_text index) ≡ 11 * suc index + 10 = label_rank handlers index (omega (arith, few)) in
    let ends : ((instrs_in ls == 0) && not (ends_lem (plain i))) ≡ false = goes_on (instrs_in ls) i (λ none. h.0.1 (sym n ∙ none)) in
    let more : Passes all handlers (11 * suc (index + 1)) (index + 1) ls = entries_pass all instrs handlers count (index + 1) is ten (omega (arith, few)) (omega arith) found.1 h.1 in
    let one : Passes all handlers (11 * suc (index + 1)) index (instr_entry i ∷ ls) =
    λ front here. let c : instrs_in front ≡ index = here.count in
    line_passes all front (instr_entry i) ls (instr_passes all front i ls (not_lost (place_of all) i found.0) (omega (arith, c, few)) ends)
    (more (front ++ instr_entry i ∷ []) (before_instr handlers (11 * suc (index + 1)) index front i here)) in
    let two : Passes all handlers (11 * suc index + 10) index (label_when b (label_text index) (instr_entry i ∷ ls)) =
    when_passes all handlers b (label_text index) (11 * suc index + 10) (11 * suc (index + 1)) index (instr_entry i ∷ ls) (omega arith) (λ y. (omega (arith, r), omega (arith, r))) (omega arith) one in
    handlers_pass all handlers index 0 handlers (label_when b (label_text index) (instr_entry i ∷ ls)) (along_all handlers ten) (omega (arith, m)) two before
    (before_still handlers (11 * suc index) (11 * suc index + 0) index before (omega arith) at)

-- ---- the program

when_settled : (places : List ℕ → Option ℕ) (b : Bool) (w : List ℕ) (ls : List Line) → flat_map (λ (l : Line). settled_lem places l.content) (label_when b w ls) ≡ flat_map (λ (l : Line). settled_lem places l.content) ls
when_settled places false w ls = refl
when_settled places true w ls = refl

handlers_settled : (places : List ℕ → Option ℕ) (index number : ℕ) (es : List (Option ℕ)) (ls : List Line)
    → flat_map (λ (l : Line). settled_lem places l.content) (handler_entries index number es ls) ≡ flat_map (λ (l : Line). settled_lem places l.content) ls
handlers_settled places index number [] ls = refl
handlers_settled places index number (e ∷ es) ls =
    when_settled places (is_at index e) (handler_name number) (handler_entries index (number + 1) es ls) ∙ handlers_settled places index (number + 1) es ls

instr_settled : (places : List ℕ → Option ℕ) (i : Instr) → Found places i → settled_lem places (does (plain i) (aim i)) ≡ i ∷ []
instr_settled places (Jmp to) h = rw h refl
instr_settled places (Brz a to) h = rw h refl
instr_settled places other h = refl

entries_settled : (places : List ℕ → Option ℕ) (all : List Instr) (handlers : List (Option ℕ)) (index : ℕ) (is : List Instr) → AllFound places is
    → flat_map (λ (l : Line). settled_lem places l.content) (entries all handlers index is) ≡ is
entries_settled places all handlers index [] found = refl
entries_settled places all handlers index (i ∷ is) found =
    let ls : List Line = entries all handlers (index + 1) is in
    handlers_settled places index 0 handlers (label_when (list_any (goes_to index) all) (label_text index) (instr_entry i ∷ ls))
    ∙ when_settled places (list_any (goes_to index) all) (label_text index) (instr_entry i ∷ ls)
    ∙ ap (λ (x : List Instr). x ++ flat_map (λ (l : Line). settled_lem places l.content) ls) (instr_settled places i found.0)
    ∙ ap (λ (x : List Instr). i ∷ x) (entries_settled places all handlers (index + 1) is found.1)

map_at : (f : List ℕ → Option ℕ) (ws : List (List ℕ)) (hs : List (Option ℕ)) → length ws ≡ length hs → ((n : ℕ) → n < length ws → f (get_or ws n []) ≡ get_or hs n None) → hs ≡ map f ws
map_at f [] [] e h = refl
map_at f [] (o ∷ os) e h = absurd (omega (arith, e))
map_at f (w ∷ ws) [] e h = absurd (omega (arith, e))
map_at f (w ∷ ws) (o ∷ os) e h =
    let here : f w ≡ o = h 0 (omega arith) in
    ap (λ (x : Option ℕ). x ∷ os) (sym here) ∙ ap (λ (l : List (Option ℕ)). f w ∷ l) (map_at f ws os (omega (arith, e)) (λ n lt. h (suc n) (omega (arith, lt))))

some_below : (o : Option ℕ) (count : ℕ) → IfSome o (λ e. e < count) → (e : ℕ) → o ≡ Some e → e < count
some_below o count h e is = subst (λ (x : Option ℕ). IfSome x (λ p. p < count)) is h

pub assembled_again : (code : Code) → IsValid code → assembled (disassembled code) ≡ Ok code
unfolding disassembled
assembled_again code valid =
    let is : List Instr = code.instrs in
    let hs : List (Option ℕ) = code.handlers in
    let ls : List Line = entries is hs 0 is in
    let few : length is ≤ 4096 = valid.fits in
    let some : 1 ≤ length is = valid.some in
    let read : lines_of_lem (disassembled code) ≡ ls = entries_read is hs 0 (length is) is valid.ten few (omega (arith, few)) valid.instrs in
    let found : AllFound (place_of ls) is = found_all (length is) (place_of ls) is valid.instrs (λ k y lt. label_found is hs k is valid.ten few lt y) in
    let none : first_fault_lem ls ≡ None =
    entries_pass ls is hs (length is) 0 is valid.ten (omega (arith, few)) (omega (arith, some)) found valid.instrs [] (record { lower = tt; count = refl }) in
    let instrs_are : is ≡ flat_map (λ (l : Line). settled_lem (place_of ls) l.content) ls = sym (entries_settled (place_of ls) is hs 0 is found) in
    let handlers_are : hs ≡ map (place_of ls) handler_names =
    map_at (place_of ls) handler_names hs (sym valid.ten)
    (λ n lt. handler_found is hs n is (get_or hs n None) valid.ten few lt refl (some_below (get_or hs n None) (length is) (entry_below hs (length is) n valid.handlers))) in
    let same : code ≡ code_of_lines ls =
    ap (λ (l : List Instr). record { instrs = l; handlers = hs }) instrs_are ∙ ap (λ (l : List (Option ℕ)). record { instrs = (code_of_lines ls).instrs; handlers = l }) handlers_are in
    assembled_ok (disassembled code) ls code (sym read) (decided_ok ls code none same)
