-- Printed lines are read as what they were printed from.
use Rattle.std.proofs.Common.{◌≡◌, ℕ, ◌<◌, ◌≤◌, Bool, true, false, not, List, [], ◌∷◌, ◌++◌, length, map, codes, Option, Some, None, refl, sym, ap, ◌∙◌, arith, append_assoc}
use Rattle.std.specs.Prelude.{◌&&◌, ◌==◌, nat_eq, slice_index, find, bytes_eq}
use Rattle.std.specs.List.{list_all, slice_split, flat_map}
use Rattle.std.proofs.lemmas.Bool.{lt-ltb, ne_eqb, and_from}
use Rattle.std.proofs.lemmas.List.Folds.{list_all-append}
use Rattle.kn_ops.specs.declared.table.Shape.{Shape}
use Rattle.kn_ops.specs.declared.table.Shape.TheVariants as shapes
use Rattle.kn_ops.specs.Table.{Entry, entry, instructions}
use Rattle.kn_code.specs.declared.program.Instr.{Instr}
use Rattle.kn_code.specs.declared.program.Instr.TheVariants.{Const, Mov, Not, Ld, St, Ldx, Stx, Jmp, Brz, Input, Timer, Cancel, Send, Bcast, Recvw, Add, Sub, Mul, And, Or, Xor, Shl, Shr, Sar, Udiv, Urem, Eq, Ult, Slt, Rlen, Rfrom, Assert, Node, Now, Ret, Halt}
use Rattle.kn_code.specs.declared.row.Row.{Row}
use Rattle.kn_code.specs.Code.{IsInstr}
use Rattle.kn_code.specs.Rows.{the_row, row_of_lem}
use Rattle.kn_code.proofs.Fields.{instr_again}
use Rattle.kn_asm.specs.declared.meaning.Slot.{Slot}
use Rattle.kn_asm.specs.Words.{is_word, is_code, skip, word, after_word, uncommented, is_name}
use Rattle.kn_asm.specs.Operands.{Operand, operands_after_lem}
use Rattle.kn_asm.specs.Meaning.{Content, nothing, does, slots_lem, filled_lem, in_range, instr_of_fields, instr_with_lem, target_in_lem, does_or_wrong, meaning_at, meaning_lem}
use Rattle.kn_asm.specs.Lines.{Line, behind_mnemonic, content_in_lem, unlabelled, line_at_lem, line_of_lem, lines_of_lem, is_feed}
use Rattle.kn_asm.specs.Assembling.{aimed_lem}
use Rattle.kn_asm.specs.Printing.{label_text, slot_text, operands_text, row_text, instr_text}
use Rattle.kn_asm.proofs.Printed.{words_pass, no_feed, no_comment, no_blank_front, skip_none, skip_blank, all_code, word_run, rest_run, operand_at, AllFit, slot_read, split_at, operands_back}

-- ---- a line alone

-- a text that is one line, and reads as given
pub record IsLine (text : List ℕ) (l : Line) : Type 0 where
  pub body : List ℕ
  pub is : text ≡ body ++ 10 ∷ []
  pub clean : list_all (λ c. not (is_feed c)) body ≡ true
  pub reads : line_of_lem body ≡ l

-- a line in front of others
pub line_more : (text rest : List ℕ) (l : Line) (ls : List Line) → IsLine text l → lines_of_lem rest ≡ ls → lines_of_lem (text ++ rest) ≡ l ∷ ls
line_more text rest l ls h more =
    ap (λ (t : List ℕ). lines_of_lem (t ++ rest)) h.is ∙ ap lines_of_lem (append_assoc h.body (10 ∷ []) rest)
    ∙ ap (map line_of_lem) (split_at is_feed h.body 10 rest h.clean refl) ∙ ap (λ (x : Line). x ∷ map line_of_lem (slice_split is_feed rest)) h.reads
    ∙ ap (λ (xs : List Line). l ∷ xs) more

pub line_end : lines_of_lem [] ≡ record { label = None; content = nothing } ∷ []
unfolding line_of_lem skip word after_word uncommented
line_end = refl

-- what is behind a ':'
nothing_behind : content_in_lem (skip []) ≡ nothing
unfolding skip
nothing_behind = refl

name_some : (w : List ℕ) → is_name w ≡ true → 0 < length w
name_some [] h = absurd cc
name_some (c ∷ cs) h = omega arith

label_at : (w text : List ℕ) → is_name w ≡ true → word text ≡ w → after_word text ≡ 58 ∷ [] → line_at_lem text ≡ record { label = Some w; content = nothing }
label_at w text named a b = rw (b, a, named, nothing_behind) refl

pub label_line_read : (w : List ℕ) → list_all is_word w ≡ true → is_name w ≡ true → line_of_lem (w ++ 58 ∷ []) ≡ record { label = Some w; content = nothing }
unfolding line_of_lem
label_line_read w all named =
    let code : list_all is_code (w ++ 58 ∷ []) ≡ true = list_all-append is_code w (58 ∷ []) ∙ and_from (list_all is_code w) true (words_pass is_code no_comment w all) refl in
    ap (λ (t : List ℕ). line_at_lem (skip t)) (all_code (w ++ 58 ∷ []) code)
    ∙ ap line_at_lem (skip_none (w ++ 58 ∷ []) (no_blank_front w (58 ∷ []) all (name_some w named)))
    ∙ label_at w (w ++ 58 ∷ []) named (word_run w (58 ∷ []) all refl) (rest_run w (58 ∷ []) all refl)

pub label_line_is : (w : List ℕ) → list_all is_word w ≡ true → is_name w ≡ true → IsLine (w ++ codes ":\n") (record { label = Some w; content = nothing })
label_line_is w all named = record {
  body = w ++ 58 ∷ [];
  is = sym (append_assoc w (58 ∷ []) (10 ∷ []));
  clean = list_all-append (λ c. not (is_feed c)) w (58 ∷ []) ∙ and_from (list_all (λ c. not (is_feed c)) w) true (words_pass (λ c. not (is_feed c)) no_feed w all) refl;
  reads = label_line_read w all named;
}

-- ---- the line of a row

others_pass : (p : ℕ → Bool) (r : Row) → ((c : ℕ) → is_word c ≡ true → p c ≡ true) → p 32 ≡ true → p 44 ≡ true → (ss : List Slot) → AllFit r ss
    → list_all p (flat_map (λ (x : Slot). codes ", " ++ slot_text x r) ss) ≡ true
others_pass p r pass blank comma [] fit = refl
others_pass p r pass blank comma (s ∷ ss) fit =
    let others : List ℕ = flat_map (λ (x : Slot). codes ", " ++ slot_text x r) ss in
    let h : list_all p (slot_text s r ++ others) ≡ true =
    list_all-append p (slot_text s r) others ∙ and_from (list_all p (slot_text s r)) (list_all p others) (words_pass p pass (slot_text s r) (slot_read r s fit.0).words) (others_pass p r pass blank comma ss fit.1) in
    and_from (p 44) (p 32 && list_all p (slot_text s r ++ others)) comma (and_from (p 32) (list_all p (slot_text s r ++ others)) blank h)

operands_pass : (p : ℕ → Bool) (r : Row) → ((c : ℕ) → is_word c ≡ true → p c ≡ true) → p 32 ≡ true → p 44 ≡ true → (ss : List Slot) → AllFit r ss → list_all p (operands_text ss r) ≡ true
operands_pass p r pass blank comma [] fit = refl
operands_pass p r pass blank comma (s ∷ ss) fit =
    let others : List ℕ = flat_map (λ (x : Slot). codes ", " ++ slot_text x r) ss in
    and_from (p 32) (list_all p (slot_text s r ++ others)) blank
    (list_all-append p (slot_text s r) others ∙ and_from (list_all p (slot_text s r)) (list_all p others) (words_pass p pass (slot_text s r) (slot_read r s fit.0).words) (others_pass p r pass blank comma ss fit.1))

row_pass : (p : ℕ → Bool) (r : Row) (name : List ℕ) → ((c : ℕ) → is_word c ≡ true → p c ≡ true) → p 32 ≡ true → p 44 ≡ true → (ss : List Slot) → list_all is_word name ≡ true → AllFit r ss
    → list_all p (32 ∷ 32 ∷ (name ++ operands_text ss r)) ≡ true
row_pass p r name pass blank comma ss words fit =
    let ops : List ℕ = operands_text ss r in
    let h : list_all p (name ++ ops) ≡ true = list_all-append p name ops ∙ and_from (list_all p name) (list_all p ops) (words_pass p pass name words) (operands_pass p r pass blank comma ss fit) in
    and_from (p 32) (p 32 && list_all p (name ++ ops)) blank (and_from (p 32) (list_all p (name ++ ops)) blank h)

ops_stop : (r : Row) (ss : List Slot) → is_word (slice_index (operands_text ss r) 0) ≡ false
ops_stop r [] = refl
ops_stop r (s ∷ ss) = refl

ops_no_label : (r : Row) (ss : List Slot) → (slice_index (operands_text ss r) 0 == 58) ≡ false
ops_no_label r [] = refl
ops_no_label r (s ∷ ss) = refl

content_at : (name text rest : List ℕ) (os : List Operand) → 0 < length text → is_name name ≡ true → word text ≡ name → after_word text ≡ rest → operands_after_lem rest ≡ Some os → content_in_lem text ≡ meaning_lem name os
content_at name text rest os some named a b c =
    let n : (length text == 0) ≡ false = ne_eqb (length text) 0 (λ e. omega (arith, e, some)) in
    rw (n, a, named) (ap (λ (t : List ℕ). behind_mnemonic name (operands_after_lem t)) b ∙ ap (behind_mnemonic name) c)

unlabelled_at : (text rest : List ℕ) (content : Content) → after_word text ≡ rest → (slice_index rest 0 == 58) ≡ false → content_in_lem text ≡ content → line_at_lem text ≡ unlabelled content
unlabelled_at text rest content a b c =
    let other : (slice_index (after_word text) 0 == 58) ≡ false = ap (λ (t : List ℕ). slice_index t 0 == 58) a ∙ b in
    rw other (ap unlabelled c)

text_some : (name rest : List ℕ) → 0 < length name → 0 < length (name ++ rest)
text_some [] rest h = absurd (omega (arith, h))
text_some (c ∷ cs) rest h = omega arith

row_read : (r : Row) (name : List ℕ) (ss : List Slot) → list_all is_word name ≡ true → is_name name ≡ true → AllFit r ss
    → line_of_lem (32 ∷ 32 ∷ (name ++ operands_text ss r)) ≡ unlabelled (meaning_lem name (map (operand_at r) ss))
unfolding line_of_lem
row_read r name ss words named fit =
    let ops : List ℕ = operands_text ss r in
    let some : 0 < length name = name_some name named in
    let a : skip (32 ∷ 32 ∷ (name ++ ops)) ≡ name ++ ops = skip_blank (32 ∷ (name ++ ops)) ∙ skip_blank (name ++ ops) ∙ skip_none (name ++ ops) (no_blank_front name ops words some) in
    let after : after_word (name ++ ops) ≡ ops = rest_run name ops words (ops_stop r ss) in
    ap (λ (t : List ℕ). line_at_lem (skip t)) (all_code (32 ∷ 32 ∷ (name ++ ops)) (row_pass is_code r name no_comment refl refl ss words fit)) ∙ ap line_at_lem a
    ∙ unlabelled_at (name ++ ops) ops _ after (ops_no_label r ss)
    (content_at name (name ++ ops) ops _ (text_some name ops some) named (word_run name ops words (ops_stop r ss)) after (operands_back r ss fit))

-- ---- the fields of a row

-- the fields of a shape, but for its target
abbrev kept : Shape → Row → Row
kept shapes.RegWord r = the_row r.code r.a 0 0 r.p 0
kept shapes.RegReg r = the_row r.code r.a r.b 0 0 0
kept shapes.RegMem r = the_row r.code r.a 0 0 r.p 0
kept shapes.MemReg r = the_row r.code r.a 0 0 r.p 0
kept shapes.RegRegSpan r = the_row r.code r.a r.b 0 r.p r.q
kept shapes.Target r = the_row r.code 0 0 0 0 0
kept shapes.RegTarget r = the_row r.code r.a 0 0 0 0
kept shapes.RegWidth r = the_row r.code r.a 0 0 r.p 0
kept shapes.TimerDelay r = the_row r.code r.a 0 0 r.p 0
kept shapes.TimerOnly r = the_row r.code r.a 0 0 0 0
kept shapes.LinkRegCount r = the_row r.code r.a r.b 0 r.p 0
kept shapes.RegCount r = the_row r.code r.a r.b 0 0 0
kept shapes.RegIndex r = the_row r.code r.a 0 0 r.p 0
kept shapes.RegRegReg r = the_row r.code r.a r.b r.c 0 0
kept shapes.Reg r = the_row r.code r.a 0 0 0 0
kept shapes.Bare r = the_row r.code 0 0 0 0 0

fields_kept : (s : Shape) (r : Row) → AllFit r (slots_lem s) → filled_lem (slots_lem s) (map (operand_at r) (slots_lem s)) (the_row r.code 0 0 0 0 0) ≡ Some (kept s r)
fields_kept shapes.RegWord r h = rw (lt-ltb r.p 65536 h.1.0) refl
fields_kept shapes.RegReg r h = refl
fields_kept shapes.RegMem r h = rw (lt-ltb r.p 65536 h.1.0) refl
fields_kept shapes.MemReg r h = rw (lt-ltb r.p 65536 h.0) refl
fields_kept shapes.RegRegSpan r h = rw (lt-ltb r.p 65536 h.1.1.0, lt-ltb r.q 65536 h.1.1.1.0) refl
fields_kept shapes.Target r h = refl
fields_kept shapes.RegTarget r h = refl
fields_kept shapes.RegWidth r h = rw (lt-ltb r.p 65536 h.1.0) refl
fields_kept shapes.TimerDelay r h = rw (lt-ltb r.a 256 h.0, lt-ltb r.p 65536 h.1.0) refl
fields_kept shapes.TimerOnly r h = rw (lt-ltb r.a 256 h.0) refl
fields_kept shapes.LinkRegCount r h = rw (lt-ltb r.p 65536 h.0, lt-ltb r.a 256 h.1.1.0) refl
fields_kept shapes.RegCount r h = rw (lt-ltb r.a 256 h.1.0) refl
fields_kept shapes.RegIndex r h = rw (lt-ltb r.p 65536 h.1.0) refl
fields_kept shapes.RegRegReg r h = refl
fields_kept shapes.Reg r h = refl
fields_kept shapes.Bare r h = refl

-- ---- the rows of the instructions

-- an instruction with 0 as its target
abbrev pub plain : Instr → Instr
plain i = aimed_lem i 0

-- the label that it goes to
abbrev pub aim : Instr → Option (List ℕ)
aim (Jmp to) = Some (label_text to)
aim (Brz a to) = Some (label_text to)
aim other = None

record HasEntry (i : Instr) : Type 0 where
  at : Entry
  by_code : find (λ (e : Entry). nat_eq e.code (row_of_lem i).code) instructions ≡ Some at
  by_name : find (λ (e : Entry). bytes_eq e.name at.name) instructions ≡ Some at
  code : at.code ≡ (row_of_lem i).code
  words : list_all is_word at.name ≡ true
  named : is_name at.name ≡ true
  fit : AllFit (row_of_lem i) (slots_lem at.shape)
  same : kept at.shape (row_of_lem i) ≡ row_of_lem (plain i)
  goes : target_in_lem (map (operand_at (row_of_lem i)) (slots_lem at.shape)) ≡ aim i

row_entry : (i : Instr) (e : Entry) → AllFit (row_of_lem i) (slots_lem e.shape) → find (λ (x : Entry). nat_eq x.code (row_of_lem i).code) instructions ≡ Some e
    → find (λ (x : Entry). bytes_eq x.name e.name) instructions ≡ Some e → e.code ≡ (row_of_lem i).code → list_all is_word e.name ≡ true → is_name e.name ≡ true
    → kept e.shape (row_of_lem i) ≡ row_of_lem (plain i) → target_in_lem (map (operand_at (row_of_lem i)) (slots_lem e.shape)) ≡ aim i → HasEntry i
row_entry i e fit a b c d f g h = record { at = e; by_code = a; by_name = b; code = c; words = d; named = f; fit = fit; same = g; goes = h }

has_entry : (count : ℕ) (i : Instr) → count ≤ 4096 → IsInstr count i → HasEntry i
has_entry count (Const a n) few h = row_entry (Const a n) (entry 1 (codes "const") shapes.RegWord) (h.0, (h.1, tt)) refl refl refl refl refl refl refl
has_entry count (Mov a b) few h = row_entry (Mov a b) (entry 2 (codes "mov") shapes.RegReg) (h.0, (h.1, tt)) refl refl refl refl refl refl refl
has_entry count (Not a b) few h = row_entry (Not a b) (entry 3 (codes "not") shapes.RegReg) (h.0, (h.1, tt)) refl refl refl refl refl refl refl
has_entry count (Ld a m) few h = row_entry (Ld a m) (entry 4 (codes "ld") shapes.RegMem) (h.0, (omega (arith, h.1), tt)) refl refl refl refl refl refl refl
has_entry count (St m a) few h = row_entry (St m a) (entry 5 (codes "st") shapes.MemReg) (omega (arith, h.0), (h.1, tt)) refl refl refl refl refl refl refl
has_entry count (Ldx a b m n) few h = row_entry (Ldx a b m n) (entry 6 (codes "ldx") shapes.RegRegSpan) (h.0, (h.1, (omega (arith, h.2.some, h.2.within), (omega (arith, h.2.few), tt)))) refl refl refl refl refl refl refl
has_entry count (Stx a b m n) few h = row_entry (Stx a b m n) (entry 7 (codes "stx") shapes.RegRegSpan) (h.0, (h.1, (omega (arith, h.2.some, h.2.within), (omega (arith, h.2.few), tt)))) refl refl refl refl refl refl refl
has_entry count (Jmp to) few h = row_entry (Jmp to) (entry 8 (codes "jmp") shapes.Target) (omega (arith, few, h), tt) refl refl refl refl refl refl refl
has_entry count (Brz a to) few h = row_entry (Brz a to) (entry 9 (codes "brz") shapes.RegTarget) (h.0, (omega (arith, few, h.1), tt)) refl refl refl refl refl refl refl
has_entry count (Input a w) few h = row_entry (Input a w) (entry 10 (codes "input") shapes.RegWidth) (h.0, (omega (arith, h.2), tt)) refl refl refl refl refl refl refl
has_entry count (Timer k d) few h = row_entry (Timer k d) (entry 11 (codes "timer") shapes.TimerDelay) (omega (arith, h.0), (h.1.1, tt)) refl refl refl refl refl refl refl
has_entry count (Cancel k) few h = row_entry (Cancel k) (entry 12 (codes "cancel") shapes.TimerOnly) (omega (arith, h), tt) refl refl refl refl refl refl refl
has_entry count (Send l b n) few h = row_entry (Send l b n) (entry 13 (codes "send") shapes.LinkRegCount) (h.0, (h.1.2, (omega (arith, h.1.0), tt))) refl refl refl refl refl refl refl
has_entry count (Bcast b n) few h = row_entry (Bcast b n) (entry 14 (codes "bcast") shapes.RegCount) (h.2, (omega (arith, h.0), tt)) refl refl refl refl refl refl refl
has_entry count (Recvw a k) few h = row_entry (Recvw a k) (entry 15 (codes "recvw") shapes.RegIndex) (h.0, (omega (arith, h.1), tt)) refl refl refl refl refl refl refl
has_entry count (Add a b c) few h = row_entry (Add a b c) (entry 16 (codes "add") shapes.RegRegReg) (h.0, (h.1, (h.2, tt))) refl refl refl refl refl refl refl
has_entry count (Sub a b c) few h = row_entry (Sub a b c) (entry 17 (codes "sub") shapes.RegRegReg) (h.0, (h.1, (h.2, tt))) refl refl refl refl refl refl refl
has_entry count (Mul a b c) few h = row_entry (Mul a b c) (entry 18 (codes "mul") shapes.RegRegReg) (h.0, (h.1, (h.2, tt))) refl refl refl refl refl refl refl
has_entry count (And a b c) few h = row_entry (And a b c) (entry 19 (codes "and") shapes.RegRegReg) (h.0, (h.1, (h.2, tt))) refl refl refl refl refl refl refl
has_entry count (Or a b c) few h = row_entry (Or a b c) (entry 20 (codes "or") shapes.RegRegReg) (h.0, (h.1, (h.2, tt))) refl refl refl refl refl refl refl
has_entry count (Xor a b c) few h = row_entry (Xor a b c) (entry 21 (codes "xor") shapes.RegRegReg) (h.0, (h.1, (h.2, tt))) refl refl refl refl refl refl refl
has_entry count (Shl a b c) few h = row_entry (Shl a b c) (entry 22 (codes "shl") shapes.RegRegReg) (h.0, (h.1, (h.2, tt))) refl refl refl refl refl refl refl
has_entry count (Shr a b c) few h = row_entry (Shr a b c) (entry 23 (codes "shr") shapes.RegRegReg) (h.0, (h.1, (h.2, tt))) refl refl refl refl refl refl refl
has_entry count (Sar a b c) few h = row_entry (Sar a b c) (entry 24 (codes "sar") shapes.RegRegReg) (h.0, (h.1, (h.2, tt))) refl refl refl refl refl refl refl
has_entry count (Udiv a b c) few h = row_entry (Udiv a b c) (entry 25 (codes "udiv") shapes.RegRegReg) (h.0, (h.1, (h.2, tt))) refl refl refl refl refl refl refl
has_entry count (Urem a b c) few h = row_entry (Urem a b c) (entry 26 (codes "urem") shapes.RegRegReg) (h.0, (h.1, (h.2, tt))) refl refl refl refl refl refl refl
has_entry count (Eq a b c) few h = row_entry (Eq a b c) (entry 27 (codes "eq") shapes.RegRegReg) (h.0, (h.1, (h.2, tt))) refl refl refl refl refl refl refl
has_entry count (Ult a b c) few h = row_entry (Ult a b c) (entry 28 (codes "ult") shapes.RegRegReg) (h.0, (h.1, (h.2, tt))) refl refl refl refl refl refl refl
has_entry count (Slt a b c) few h = row_entry (Slt a b c) (entry 29 (codes "slt") shapes.RegRegReg) (h.0, (h.1, (h.2, tt))) refl refl refl refl refl refl refl
has_entry count (Rlen a) few h = row_entry (Rlen a) (entry 30 (codes "rlen") shapes.Reg) (h, tt) refl refl refl refl refl refl refl
has_entry count (Rfrom a) few h = row_entry (Rfrom a) (entry 31 (codes "rfrom") shapes.Reg) (h, tt) refl refl refl refl refl refl refl
has_entry count (Assert a) few h = row_entry (Assert a) (entry 32 (codes "assert") shapes.Reg) (h, tt) refl refl refl refl refl refl refl
has_entry count (Node a) few h = row_entry (Node a) (entry 33 (codes "node") shapes.Reg) (h, tt) refl refl refl refl refl refl refl
has_entry count (Now a) few h = row_entry (Now a) (entry 34 (codes "now") shapes.Reg) (h, tt) refl refl refl refl refl refl refl
has_entry count Ret few h = row_entry Ret (entry 35 (codes "ret") shapes.Bare) tt refl refl refl refl refl refl refl
has_entry count Halt few h = row_entry Halt (entry 36 (codes "halt") shapes.Bare) tt refl refl refl refl refl refl refl

pub plain_in_range : (count : ℕ) (i : Instr) → IsInstr count i → IsInstr 1 (plain i)
plain_in_range count (Jmp to) h = omega arith
plain_in_range count (Brz a to) h = (h.0, omega arith)
plain_in_range count other h = h

meaning_of : (count : ℕ) (i : Instr) (e : HasEntry i) → IsInstr count i → meaning_lem e.at.name (map (operand_at (row_of_lem i)) (slots_lem e.at.shape)) ≡ does (plain i) (aim i)
meaning_of count i e h =
    let os : List Operand = map (operand_at (row_of_lem i)) (slots_lem e.at.shape) in
    let a : filled_lem (slots_lem e.at.shape) os (the_row e.at.code 0 0 0 0 0) ≡ Some (row_of_lem (plain i)) =
    ap (λ (n : ℕ). filled_lem (slots_lem e.at.shape) os (the_row n 0 0 0 0 0)) e.code ∙ fields_kept e.at.shape (row_of_lem i) e.fit ∙ ap (λ (r : Row). Some r) e.same in
    let b : instr_with_lem e.at os ≡ Some (plain i) = ap instr_of_fields a ∙ ap in_range (instr_again 1 false (plain i) (plain_in_range count i h) (λ f. absurd cc)) in
    ap (λ (x : Option Entry). meaning_at x os) e.by_name ∙ ap (λ (x : Option Instr). does_or_wrong x (target_in_lem os)) b ∙ ap (does (plain i)) e.goes

-- the line of an instruction
abbrev pub instr_entry : Instr → Line
instr_entry i = unlabelled (does (plain i) (aim i))

pub instr_line_is : (count : ℕ) (i : Instr) → count ≤ 4096 → IsInstr count i → IsLine (instr_text i) (instr_entry i)
unfolding instr_text
instr_line_is count i few h =
    let e : HasEntry i = has_entry count i few h in
    let r : Row = row_of_lem i in
    let ss : List Slot = slots_lem e.at.shape in
    let same : (32 ∷ 32 ∷ (e.at.name ++ (operands_text ss r ++ 10 ∷ []))) ≡ (32 ∷ 32 ∷ (e.at.name ++ operands_text ss r)) ++ 10 ∷ [] = ap (λ (t : List ℕ). 32 ∷ 32 ∷ t) (sym (append_assoc e.at.name (operands_text ss r) (10 ∷ []))) in
    record {
      body = 32 ∷ 32 ∷ (e.at.name ++ operands_text ss r);
      is = ap (λ (x : Option Entry). row_text x r) e.by_code ∙ same;
      clean = row_pass (λ c. not (is_feed c)) r e.at.name no_feed refl refl ss e.words e.fit;
      reads = row_read r e.at.name ss e.words e.named e.fit ∙ ap unlabelled (meaning_of count i e h);
    }
