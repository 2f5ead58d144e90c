-- The instructions that are read are in range.
use Rattle.std.proofs.Common.{◌≡◌, ℕ, ◌^◌, ◌<◌, Bool, true, false, List, [], ◌∷◌, map, drop, Option, Some, None, Result, Ok, Err, refl, ap, subst, arith}
use Rattle.std.specs.Prelude.{◌==◌, nat_lt, if◌then◌else◌, length, find, bytes_eq, slice_index}
use Rattle.std.proofs.lemmas.Bool.{ltb-true}
use Rattle.std.specs.List.{slice_split}
use Rattle.kn_ops.specs.Table.{Entry, instructions}
use Rattle.kn_code.specs.declared.program.Instr.{Instr}
use Rattle.kn_code.specs.declared.row.Row.{Row}
use Rattle.kn_code.specs.declared.row.RowFault.{RowFault}
use Rattle.kn_code.specs.Code.{IsInstr}
use Rattle.kn_code.specs.Rows.{the_row}
use Rattle.kn_code.specs.Decoding.{instr_of_lem}
use Rattle.kn_code.proofs.Fields.{instr_read}
use Rattle.kn_asm.specs.declared.fault.AsmCause.TheVariants as causes
use Rattle.kn_asm.specs.declared.meaning.Slot.{Slot}
use Rattle.kn_asm.specs.declared.meaning.Slot.TheVariants.{RegisterA, RegisterB, RegisterC, ByteA, WordP, WordQ, TargetP}
use Rattle.kn_asm.specs.Words.{skip, word, after_word, uncommented, is_name}
use Rattle.kn_asm.specs.Operands.{Operand, register, number, named, operands_after_lem}
use Rattle.kn_asm.specs.Meaning.{Content, nothing, wrong, does, slots_lem, put_lem, and_then, filled_lem, in_range, instr_of_fields, instr_with_lem, target_in_lem, does_or_wrong, meaning_at, IsSound}
use Rattle.kn_asm.specs.Lines.{Line, behind_mnemonic, content_in_lem, unlabelled, labelled_lem, line_at_lem, line_of_lem, lines_of_lem, is_feed, AreSound}

some_is : {A : Type 0} (x y : A) → Some x ≡ Some y → x ≡ y
some_is x y e = cc

-- ---- the word of a row fits

kept : (q r : Row) → Some q ≡ Some r → q.p < 2 ^ 16 → r.p < 2 ^ 16
kept q r e h = subst (λ (x : Row). x.p < 2 ^ 16) (some_is q r e) h

kept_if : (b : Bool) (q r : Row) → (if b then Some q else None) ≡ Some r → (b ≡ true → q.p < 2 ^ 16) → r.p < 2 ^ 16
kept_if true q r e h = kept q r e (h refl)
kept_if false q r e h = absurd cc

put_small : (s : Slot) (o : Operand) (r new : Row) → put_lem s o r ≡ Some new → r.p < 2 ^ 16 → new.p < 2 ^ 16
put_small RegisterA (register n) r new e h = kept (the_row r.code n r.b r.c r.p r.q) new e h
put_small RegisterB (register n) r new e h = kept (the_row r.code r.a n r.c r.p r.q) new e h
put_small RegisterC (register n) r new e h = kept (the_row r.code r.a r.b n r.p r.q) new e h
put_small ByteA (number n) r new e h = kept_if (nat_lt n 256) (the_row r.code n r.b r.c r.p r.q) new e (λ b. h)
put_small WordP (number n) r new e h = kept_if (nat_lt n 65536) (the_row r.code r.a r.b r.c n r.q) new e (λ b. ltb-true n 65536 b)
put_small WordQ (number n) r new e h = kept_if (nat_lt n 65536) (the_row r.code r.a r.b r.c r.p n) new e (λ b. h)
put_small TargetP (named name) r new e h = kept r new e h
put_small slot other r new e h = absurd cc

filled_small : (ss : List Slot) (os : List Operand) (r new : Row) → filled_lem ss os r ≡ Some new → r.p < 2 ^ 16 → new.p < 2 ^ 16
filled_small [] [] r new e h = kept r new e h
filled_small [] (o ∷ os) r new e h = absurd cc
filled_small (s ∷ ss) [] r new e h = absurd cc
filled_small (s ∷ ss) (o ∷ os) r new e h = go (put_lem s o r) (λ q. put_small s o r q) (λ q. filled_small ss os q new) e h
  where
    go : (p : Option Row) → ((q : Row) → p ≡ Some q → r.p < 2 ^ 16 → q.p < 2 ^ 16) → ((q : Row) → filled_lem ss os q ≡ Some new → q.p < 2 ^ 16 → new.p < 2 ^ 16)
        → and_then p (filled_lem ss os) ≡ Some new → r.p < 2 ^ 16 → new.p < 2 ^ 16
    go None one more e h = absurd cc
    go (Some q) one more e h = more q e (one q refl h)

-- ---- an instruction with its operands

in_range_is : (r : Result Instr RowFault) (i : Instr) → in_range r ≡ Some i → r ≡ Ok i
in_range_is (Ok j) i e = ap (λ (x : Instr). Ok x) (some_is j i e)
in_range_is (Err f) i e = absurd cc

fields_sound : (o : Option Row) (i : Instr) → ((r : Row) → o ≡ Some r → r.p < 2 ^ 16) → instr_of_fields o ≡ Some i → IsInstr 1 i
fields_sound None i small e = absurd cc
fields_sound (Some r) i small e = (instr_read 1 false r i (in_range_is (instr_of_lem 1 false r) i e)).1 (small r refl)

instr_sound : (e : Entry) (os : List Operand) (i : Instr) → instr_with_lem e os ≡ Some i → IsInstr 1 i
instr_sound e os i h = fields_sound (filled_lem (slots_lem e.shape) os (the_row e.code 0 0 0 0 0)) i (λ r is. filled_small (slots_lem e.shape) os (the_row e.code 0 0 0 0 0) r is (omega arith)) h

does_sound : (o : Option Instr) (target : Option (List ℕ)) → ((i : Instr) → o ≡ Some i → IsInstr 1 i) → IsSound (does_or_wrong o target)
does_sound None target h = tt
does_sound (Some i) target h = h i refl

meaning_sound_at : (e : Option Entry) (os : List Operand) → IsSound (meaning_at e os)
meaning_sound_at None os = tt
meaning_sound_at (Some e) os = does_sound (instr_with_lem e os) (target_in_lem os) (instr_sound e os)

behind_sound : (name : List ℕ) (o : Option (List Operand)) → IsSound (behind_mnemonic name o)
behind_sound name None = tt
behind_sound name (Some os) = meaning_sound_at (find (λ (e : Entry). bytes_eq e.name name) instructions) os

-- ---- a line

if_sound : (b : Bool) (x y : Content) → IsSound x → IsSound y → IsSound (if b then x else y)
if_sound true x y a b = a
if_sound false x y a b = b

content_sound : (text : List ℕ) → IsSound (content_in_lem text)
content_sound text =
    if_sound (length text == 0) nothing (if is_name (word text) then behind_mnemonic (word text) (operands_after_lem (after_word text)) else wrong causes.Syntax) tt
    (if_sound (is_name (word text)) (behind_mnemonic (word text) (operands_after_lem (after_word text))) (wrong causes.Syntax) (behind_sound (word text) (operands_after_lem (after_word text))) tt)

if_line : (b : Bool) (x y : Line) → IsSound x.content → IsSound y.content → IsSound (if b then x else y).content
if_line true x y a b = a
if_line false x y a b = b

labelled_sound : (name : List ℕ) (c : Content) → IsSound c → IsSound (labelled_lem name c).content
labelled_sound name (wrong causes.Syntax) h = tt
labelled_sound name (wrong other) h = tt
labelled_sound name nothing h = tt
labelled_sound name (does i target) h = h

line_sound_at : (text : List ℕ) → IsSound (line_at_lem text).content
line_sound_at text =
    let behind : Content = content_in_lem (skip (drop 1 (after_word text))) in
    if_line (slice_index (after_word text) 0 == 58) (if is_name (word text) then labelled_lem (word text) behind else unlabelled (wrong causes.Syntax)) (unlabelled (content_in_lem text))
    (if_line (is_name (word text)) (labelled_lem (word text) behind) (unlabelled (wrong causes.Syntax)) (labelled_sound (word text) behind (content_sound (skip (drop 1 (after_word text))))) tt)
    (content_sound text)

line_sound : (text : List ℕ) → IsSound (line_of_lem text).content
unfolding line_of_lem
line_sound text = line_sound_at (skip (uncommented text))

parts_sound : (parts : List (List ℕ)) → AreSound (map line_of_lem parts)
parts_sound [] = tt
parts_sound (p ∷ ps) = (line_sound p, parts_sound ps)

pub lines_sound : (text : List ℕ) → AreSound (lines_of_lem text)
lines_sound text = parts_sound (slice_split is_feed text)
