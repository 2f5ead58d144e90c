-- Printed operands are read as they were.
use Rattle.std.proofs.Common.{◌≡◌, ℕ, suc, ◌+◌, ◌<◌, ◌≤◌, Bool, true, false, not, List, [], ◌∷◌, ◌++◌, length, map, take, drop, codes, decimal, Option, Some, None, refl, sym, ap, subst, ◌∙◌, inl, inr, arith, append-nil, take_at, drop_at, length-append}
use Rattle.std.specs.Prelude.{◌&&◌, ◌==◌, nat_le, slice_index, if◌then◌else◌}
use Rattle.std.specs.List.{list_all, prefix_len, slice_split, onto_first, flat_map}
use Rattle.std.specs.Char.{is_digit, digit_value}
use Rattle.std.specs.Str.Parse.{AllDigits, IsNumeral, digits_value}
use Rattle.std.proofs.lemmas.Bool.{cases_lt, lt-ltb, le-leb, ne_eqb, and_from, and_left, and_right, and_parts}
use Rattle.std.proofs.lemmas.Bool.Decides.{nat_tests}
use Rattle.std.proofs.lemmas.Fmt.{decimal_is_IsNumeral, decimal_digit, first_decimal, length-decimal-le}
use Rattle.std.proofs.lemmas.List.Splits.{slice_split-cons_yes, slice_split-cons_no}
use Rattle.kn_code.specs.declared.row.Row.{Row}
use Rattle.kn_asm.specs.declared.meaning.Slot.{Slot}
use Rattle.kn_asm.specs.declared.meaning.Slot.TheVariants.{RegisterA, RegisterB, RegisterC, ByteA, WordP, WordQ, TargetP}
use Rattle.kn_asm.specs.Words.{is_word, is_blank, is_code, skip, word, after_word, uncommented, is_name, numeral_of_lem, decimal_of_lem, number_of_lem}
use Rattle.kn_asm.specs.Operands.{Operand, register, number, named, below_16, register_of_lem, number_operand, register_operand, operand_of_lem, operand_in_lem, is_comma, put_first, operands_of_lem, operands_after_lem}
use Rattle.kn_asm.specs.Lines.{is_feed}
use Rattle.kn_asm.specs.Printing.{register_text, label_text, slot_text, operands_text}

-- ---- numbers

all_of_digits : (w : List ℕ) → AllDigits 10 w → list_all (λ c. is_digit c 10) w ≡ true
all_of_digits [] h = refl
all_of_digits (c ∷ cs) h = and_from (is_digit c 10) (list_all (λ x. is_digit x 10) cs) (lt-ltb (digit_value c) 10 h.0) (all_of_digits cs h.1)

numeral_read : (n : ℕ) → n < 65536 → numeral_of_lem 10 (decimal n) ≡ Some n
numeral_read n lt =
    let h : IsNumeral 10 (decimal n) × (digits_value 10 (decimal n) ≡ n) = decimal_is_IsNumeral n (omega arith) in
    let some : (length (decimal n) == 0) ≡ false = ne_eqb (length (decimal n)) 0 (λ e. omega (arith, e, h.0.0)) in
    let few : nat_le (digits_value 10 (decimal n)) 65535 ≡ true = le-leb (digits_value 10 (decimal n)) 65535 (omega (arith, h.1, lt)) in
    rw (some, all_of_digits (decimal n) h.0.1, few) (ap (λ (k : ℕ). Some k) h.1)

no_zero_front : (n : ℕ) → n < 65536 → ((slice_index (decimal n) 0 == 48) && not (length (decimal n) == 1)) ≡ false
no_zero_front n lt =
    elim (cases_lt n 10) [
      | inl small ↦ and_right (slice_index (decimal n) 0 == 48) (not (length (decimal n) == 1)) (ap (λ (w : List ℕ). not (length w == 1)) (decimal_digit n small))
      | inr big ↦ let f : 48 < slice_index (decimal n) 0 = first_decimal n (omega arith) (omega arith) in
          and_left (slice_index (decimal n) 0 == 48) (not (length (decimal n) == 1)) (ne_eqb (slice_index (decimal n) 0) 48 (λ e. omega (arith, e, f)))
    ]

pub decimal_read : (n : ℕ) → n < 65536 → decimal_of_lem (decimal n) ≡ Some n
decimal_read n lt = rw (no_zero_front n lt) (numeral_read n lt)

-- a number is no hexadecimal one: a digit follows a 0 nowhere
no_hex_front : (n : ℕ) → n < 65536 → ((slice_index (decimal n) 0 == 48) && (slice_index (decimal n) 1 == 120)) ≡ false
no_hex_front n lt =
    elim (cases_lt n 10) [
      | inl small ↦ and_right (slice_index (decimal n) 0 == 48) (slice_index (decimal n) 1 == 120) (ap (λ (w : List ℕ). slice_index w 1 == 120) (decimal_digit n small))
      | inr big ↦ let f : 48 < slice_index (decimal n) 0 = first_decimal n (omega arith) (omega arith) in
          and_left (slice_index (decimal n) 0 == 48) (slice_index (decimal n) 1 == 120) (ne_eqb (slice_index (decimal n) 0) 48 (λ e. omega (arith, e, f)))
    ]

number_read : (n : ℕ) → n < 65536 → number_of_lem (decimal n) ≡ Some n
number_read n lt = rw (no_hex_front n lt) (decimal_read n lt)

register_read : (n : ℕ) → n < 16 → register_of_lem (codes "r" ++ decimal n) ≡ Some n
register_read n lt = ap below_16 (decimal_read n (omega arith)) ∙ rw (lt-ltb n 16 lt) refl

pub register_operand_read : (n : ℕ) → n < 16 → operand_of_lem (codes "r" ++ decimal n) ≡ Some (register n)
register_operand_read n lt = rw (register_read n lt) refl

-- ---- words that are operands

some_front : (ds : List ℕ) → (length (76 ∷ ds) == 0) ≡ false
some_front ds = ne_eqb (suc (length ds)) 0 (λ e. omega (arith, e))

label_front : (ds : List ℕ) → length ds ≤ 5 → is_name (76 ∷ ds) ≡ true
label_front ds short = rw (some_front ds, le-leb (suc (length ds)) 32 (omega (arith, short))) refl

no_number : (ds : List ℕ) → number_of_lem (76 ∷ ds) ≡ None
no_number ds = rw (some_front ds) refl

pub label_name : (n : ℕ) → n < 65536 → is_name (codes "L" ++ decimal n) ≡ true
label_name n lt = label_front (decimal n) (length-decimal-le 5 n (omega arith) (omega arith) (omega arith))

name_read : (ds : List ℕ) → is_name (76 ∷ ds) ≡ true → operand_of_lem (76 ∷ ds) ≡ Some (named (76 ∷ ds))
name_read ds h = ap (λ (o : Option ℕ). number_operand o (76 ∷ ds)) (no_number ds) ∙ ap (λ (b : Bool). if b then Some (named (76 ∷ ds)) else None) h

pub label_operand_read : (n : ℕ) → n < 65536 → operand_of_lem (codes "L" ++ decimal n) ≡ Some (named (codes "L" ++ decimal n))
label_operand_read n lt = name_read (decimal n) (label_name n lt)

pub number_operand_read : (n : ℕ) → n < 65536 → operand_of_lem (decimal n) ≡ Some (number n)
number_operand_read n lt =
    let h : IsNumeral 10 (decimal n) × (digits_value 10 (decimal n) ≡ n) = decimal_is_IsNumeral n (omega arith) in
    ap (λ (o : Option ℕ). register_operand o (decimal n)) (no_register (decimal n) h.0.1) ∙ ap (λ (o : Option ℕ). number_operand o (decimal n)) (number_read n lt)
  where
    no_register : (w : List ℕ) → AllDigits 10 w → register_of_lem w ≡ None
    no_register [] h = refl
    no_register (c ∷ cs) h = let other : (c == 114) ≡ false = ne_eqb c 114 (λ e. absurd (big c e h.0)) in rw other refl
      where
        big : (c : ℕ) → c ≡ 114 → digit_value c < 10 → ⊥
        big c e lt = let k : digit_value c ≡ 27 = ap digit_value e in omega (arith, k, lt)

-- ---- words

digits_word : (ds : List ℕ) → AllDigits 10 ds → list_all is_word ds ≡ true
digits_word [] h = refl
digits_word (d ∷ ds) h = let here : is_word d ≡ true = grind (arith, nat_tests) in rw here (digits_word ds h.1)

pub decimal_word : (n : ℕ) → n < 65536 → list_all is_word (decimal n) ≡ true
decimal_word n lt = digits_word (decimal n) (decimal_is_IsNumeral n (omega arith)).0.1

prefix_run : (w rest : List ℕ) → list_all is_word w ≡ true → is_word (slice_index rest 0) ≡ false → prefix_len is_word (w ++ rest) ≡ length w
prefix_run [] [] all stops = refl
prefix_run [] (c ∷ cs) all stops = rw stops refl
prefix_run (c ∷ cs) rest all stops =
    let (here, more) = and_parts (is_word c) (list_all is_word cs) all in
    rw (here, prefix_run cs rest more stops) (omega arith)

pub word_run : (w rest : List ℕ) → list_all is_word w ≡ true → is_word (slice_index rest 0) ≡ false → word (w ++ rest) ≡ w
unfolding word
word_run w rest all stops = take_at w rest _ (sym (prefix_run w rest all stops))

pub rest_run : (w rest : List ℕ) → list_all is_word w ≡ true → is_word (slice_index rest 0) ≡ false → after_word (w ++ rest) ≡ rest
unfolding after_word
rest_run w rest all stops = drop_at w rest _ (sym (prefix_run w rest all stops))

pub skip_none : (w : List ℕ) → is_blank (slice_index w 0) ≡ false → skip w ≡ w
unfolding skip
skip_none [] h = refl
skip_none (c ∷ cs) h = rw h refl

one_more : (n : ℕ) → 1 + n ≡ suc n
one_more n = omega arith

pub skip_blank : (w : List ℕ) → skip (32 ∷ w) ≡ skip w
unfolding skip
skip_blank w = ap (λ (n : ℕ). drop n (32 ∷ w)) (one_more (prefix_len is_blank w))

pub all_code : (w : List ℕ) → list_all is_code w ≡ true → uncommented w ≡ w
unfolding uncommented
all_code [] h = refl
all_code (c ∷ cs) h =
    let (here, more) = and_parts (is_code c) (list_all is_code cs) h in
    rw here (ap (λ (n : ℕ). take n (c ∷ cs)) (one_more (prefix_len is_code cs)) ∙ ap (λ (l : List ℕ). c ∷ l) (all_code cs more))

pub words_pass : (p : ℕ → Bool) → ((c : ℕ) → is_word c ≡ true → p c ≡ true) → (w : List ℕ) → list_all is_word w ≡ true → list_all p w ≡ true
words_pass p pass [] all = refl
words_pass p pass (c ∷ cs) all =
    let (here, more) = and_parts (is_word c) (list_all is_word cs) all in
    and_from (p c) (list_all p cs) (pass c here) (words_pass p pass cs more)

pub no_blank : (c : ℕ) → is_word c ≡ true → is_blank c ≡ false
no_blank c h = grind (arith, nat_tests)

pub no_comma : (c : ℕ) → is_word c ≡ true → not (is_comma c) ≡ true
no_comma c h = grind (arith, nat_tests)

pub no_feed : (c : ℕ) → is_word c ≡ true → not (is_feed c) ≡ true
no_feed c h = grind (arith, nat_tests)

pub no_comment : (c : ℕ) → is_word c ≡ true → is_code c ≡ true
no_comment c h = grind (arith, nat_tests)

pub no_blank_front : (w rest : List ℕ) → list_all is_word w ≡ true → 0 < length w → is_blank (slice_index (w ++ rest) 0) ≡ false
no_blank_front [] rest all some = absurd (omega (arith, some))
no_blank_front (c ∷ cs) rest all some = no_blank c (and_parts (is_word c) (list_all is_word cs) all).0

-- ---- operands that are printed

-- a word that reads as an operand
pub record IsOperand (w : List ℕ) (o : Operand) : Type 0 where
  pub words : list_all is_word w ≡ true
  pub some : 0 < length w
  pub reads : operand_of_lem w ≡ Some o

skip_nothing : skip [] ≡ []
unfolding skip
skip_nothing = refl

pub operand_in_read : (w : List ℕ) (o : Operand) → IsOperand w o → operand_in_lem (32 ∷ w) ≡ Some o
operand_in_read w o h =
    let front : is_blank (slice_index w 0) ≡ false = subst (λ (l : List ℕ). is_blank (slice_index l 0) ≡ false) (append-nil w) (no_blank_front w [] h.words h.some) in
    let a : skip (32 ∷ w) ≡ w = skip_blank w ∙ skip_none w front in
    let b : word w ≡ w = rw append-nil at (word_run w [] h.words refl) in
    let c : after_word w ≡ [] = rw append-nil at (rest_run w [] h.words refl) in
    rw (a, b, c, skip_nothing) h.reads

-- the operand of a field
abbrev pub operand_at : Row → Slot → Operand
operand_at r RegisterA = register r.a
operand_at r RegisterB = register r.b
operand_at r RegisterC = register r.c
operand_at r ByteA = number r.a
operand_at r WordP = number r.p
operand_at r WordQ = number r.q
operand_at r TargetP = named (label_text r.p)

abbrev pub SlotFits : Row → Slot → Type 0
SlotFits r RegisterA = r.a < 16
SlotFits r RegisterB = r.b < 16
SlotFits r RegisterC = r.c < 16
SlotFits r ByteA = r.a < 256
SlotFits r WordP = r.p < 65536
SlotFits r WordQ = r.q < 65536
SlotFits r TargetP = r.p < 65536

abbrev pub AllFit : Row → List Slot → Type 0
AllFit r [] = Unit {0}
AllFit r (s ∷ ss) = SlotFits r s × AllFit r ss

decimal_some : (n : ℕ) → n < 65536 → 0 < length (decimal n)
decimal_some n lt = (decimal_is_IsNumeral n (omega arith)).0.0

register_slot : (n : ℕ) → n < 16 → IsOperand (register_text n) (register n)
register_slot n lt = record { words = decimal_word n (omega arith); some = omega arith; reads = register_operand_read n lt }

number_slot : (n : ℕ) → n < 65536 → IsOperand (decimal n) (number n)
number_slot n lt = record { words = decimal_word n lt; some = decimal_some n lt; reads = number_operand_read n lt }

pub slot_read : (r : Row) (s : Slot) → SlotFits r s → IsOperand (slot_text s r) (operand_at r s)
slot_read r RegisterA lt = register_slot r.a lt
slot_read r RegisterB lt = register_slot r.b lt
slot_read r RegisterC lt = register_slot r.c lt
slot_read r ByteA lt = number_slot r.a (omega (arith, lt))
slot_read r WordP lt = number_slot r.p lt
slot_read r WordQ lt = number_slot r.q lt
slot_read r TargetP lt = record { words = decimal_word r.p lt; some = omega arith; reads = label_operand_read r.p lt }

-- ---- lists that are cut

false_of_not : (b : Bool) → not b ≡ true → b ≡ false
false_of_not true h = absurd cc
false_of_not false h = refl

pub split_at : (p : ℕ → Bool) (w : List ℕ) (y : ℕ) (rest : List ℕ) → list_all (λ c. not (p c)) w ≡ true → p y ≡ true → slice_split p (w ++ y ∷ rest) ≡ w ∷ slice_split p rest
split_at p [] y rest all e = slice_split-cons_yes p y rest e
split_at p (c ∷ cs) y rest all e =
    let (here, more) = and_parts (not (p c)) (list_all (λ x. not (p x)) cs) all in
    slice_split-cons_no p c (cs ++ y ∷ rest) (false_of_not (p c) here) ∙ ap (onto_first c) (split_at p cs y rest more e)

pub split_end : (p : ℕ → Bool) (w : List ℕ) → list_all (λ c. not (p c)) w ≡ true → slice_split p w ≡ w ∷ []
split_end p [] all = refl
split_end p (c ∷ cs) all =
    let (here, more) = and_parts (not (p c)) (list_all (λ x. not (p x)) cs) all in
    slice_split-cons_no p c cs (false_of_not (p c) here) ∙ ap (onto_first c) (split_end p cs more)

abbrev others_text : Row → List Slot → List ℕ
others_text r ss = flat_map (λ (x : Slot). codes ", " ++ slot_text x r) ss

slot_clean : (r : Row) (s : Slot) → SlotFits r s → list_all (λ c. not (is_comma c)) (32 ∷ slot_text s r) ≡ true
slot_clean r s fit = words_pass (λ c. not (is_comma c)) no_comma (slot_text s r) (slot_read r s fit).words

pub split_operands : (r : Row) (w : List ℕ) (ss : List Slot) → list_all (λ c. not (is_comma c)) w ≡ true → AllFit r ss
    → slice_split is_comma (w ++ others_text r ss) ≡ w ∷ map (λ (x : Slot). 32 ∷ slot_text x r) ss
split_operands r w [] all fit = ap (slice_split is_comma) (append-nil w) ∙ split_end is_comma w all
split_operands r w (s ∷ ss) all fit =
    split_at is_comma w 44 ((32 ∷ slot_text s r) ++ others_text r ss) all refl
    ∙ ap (λ (l : List (List ℕ)). w ∷ l) (split_operands r (32 ∷ slot_text s r) ss (slot_clean r s fit.0) fit.1)

operands_read : (r : Row) (ss : List Slot) → AllFit r ss → operands_of_lem (map (λ (x : Slot). 32 ∷ slot_text x r) ss) ≡ Some (map (operand_at r) ss)
unfolding operands_of_lem
operands_read r [] fit = refl
operands_read r (s ∷ ss) fit =
    ap (λ (o : Option Operand). put_first o (operands_of_lem (map (λ (x : Slot). 32 ∷ slot_text x r) ss))) (operand_in_read (slot_text s r) (operand_at r s) (slot_read r s fit.0))
    ∙ ap (put_first (Some (operand_at r s))) (operands_read r ss fit.1)

-- the operands behind a mnemonic are read back
pub operands_back : (r : Row) (ss : List Slot) → AllFit r ss → operands_after_lem (operands_text ss r) ≡ Some (map (operand_at r) ss)
operands_back r [] fit = rw skip_nothing refl
operands_back r (s ∷ ss) fit =
    let h = slot_read r s fit.0 in
    let text : List ℕ = slot_text s r ++ others_text r ss in
    let a : skip (32 ∷ text) ≡ text = skip_blank text ∙ skip_none text (no_blank_front (slot_text s r) (others_text r ss) h.words h.some) in
    let n : length text ≡ length (slot_text s r) + length (others_text r ss) = length-append (slot_text s r) (others_text r ss) in
    let some : (length (skip (32 ∷ text)) == 0) ≡ false = ne_eqb (length (skip (32 ∷ text))) 0 (λ e. let l : length (skip (32 ∷ text)) ≡ length text = ap length a in let k : 0 < length (slot_text s r) = h.some in omega (arith, e, n, k, l)) in
    rw some (ap operands_of_lem (split_operands r (32 ∷ slot_text s r) ss (slot_clean r s fit.0) fit.1) ∙ operands_read r (s ∷ ss) fit)
