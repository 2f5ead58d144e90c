-- What holds of each instruction and of its own row, instruction by instruction.
use Rattle.std.proofs.Common.{◌≡◌, ℕ, suc, ◌+◌, ◌^◌, ◌<◌, ◌≤◌, Bool, true, false, cond, eqb, leb, ltb, not, Option, Some, None, refl, sym, arith}
use Rattle.std.specs.Prelude.{◌&&◌}
use Rattle.std.proofs.lemmas.Bool.{eqb-true, ltb-true, lt-ltb, leb-true, le-leb, and_parts, and_from}
use Rattle.kn_code.specs.declared.program.Instr.{Instr}
use Rattle.kn_code.specs.declared.program.Instr.TheVariants.{Const, Mov, Not, Ld, St, Ldx, Stx, Jmp, Brz, Input, Timer, Cancel, Send, Bcast, Recvw, Add, Sub, Mul, And, Or, Xor, Shl, Shr, Sar, Udiv, Urem, Eq, Ult, Slt, Rlen, Rfrom, Assert, Node, Now, Ret, Halt}
use Rattle.kn_code.specs.declared.row.Row.{Row}
use Rattle.kn_code.specs.Code.{IsMemorySpan, IsInstr, Ends}
use Rattle.kn_code.specs.Rows.{the_row, row_of_lem}
use Rattle.kn_code.specs.Decoding.{by_opcode_lem, is_span_lem, is_memory_span_lem, is_in_range_lem, may_stand_lem}

pub never : {P : Type 0} → false ≡ true → P
never e = absurd cc

-- ---- its row
-- the opcode makes it of the fields
pub by_opcode_again : (i : Instr) → by_opcode_lem (row_of_lem i) ≡ Some i
by_opcode_again (Const a n) = refl
by_opcode_again (Mov a b) = refl
by_opcode_again (Not a b) = refl
by_opcode_again (Ld a m) = refl
by_opcode_again (St m a) = refl
by_opcode_again (Ldx a b m n) = refl
by_opcode_again (Stx a b m n) = refl
by_opcode_again (Jmp to) = refl
by_opcode_again (Brz a to) = refl
by_opcode_again (Input a w) = refl
by_opcode_again (Timer k d) = refl
by_opcode_again (Cancel k) = refl
by_opcode_again (Send l b n) = refl
by_opcode_again (Bcast b n) = refl
by_opcode_again (Recvw a k) = refl
by_opcode_again (Add a b c) = refl
by_opcode_again (Sub a b c) = refl
by_opcode_again (Mul a b c) = refl
by_opcode_again (And a b c) = refl
by_opcode_again (Or a b c) = refl
by_opcode_again (Xor a b c) = refl
by_opcode_again (Shl a b c) = refl
by_opcode_again (Shr a b c) = refl
by_opcode_again (Sar a b c) = refl
by_opcode_again (Udiv a b c) = refl
by_opcode_again (Urem a b c) = refl
by_opcode_again (Eq a b c) = refl
by_opcode_again (Ult a b c) = refl
by_opcode_again (Slt a b c) = refl
by_opcode_again (Rlen a) = refl
by_opcode_again (Rfrom a) = refl
by_opcode_again (Assert a) = refl
by_opcode_again (Node a) = refl
by_opcode_again (Now a) = refl
by_opcode_again Ret = refl
by_opcode_again Halt = refl

-- both words fit
pub words_fit : (count : ℕ) (i : Instr) → count ≤ 4096 → IsInstr count i → ((row_of_lem i).p < 2 ^ 16) × ((row_of_lem i).q < 2 ^ 16)
words_fit count (Const a n) small h = (h.1, omega arith)
words_fit count (Mov a b) small h = (omega arith, omega arith)
words_fit count (Not a b) small h = (omega arith, omega arith)
words_fit count (Ld a m) small h = (omega (arith, h.1), omega arith)
words_fit count (St m a) small h = (omega (arith, h.0), omega arith)
words_fit count (Ldx a b m n) small h = (omega (arith, h.2.some, h.2.within), omega (arith, h.2.few))
words_fit count (Stx a b m n) small h = (omega (arith, h.2.some, h.2.within), omega (arith, h.2.few))
words_fit count (Jmp to) small h = (omega (arith, small, h), omega arith)
words_fit count (Brz a to) small h = (omega (arith, small, h.1), omega arith)
words_fit count (Input a w) small h = (omega (arith, h.2), omega arith)
words_fit count (Timer k d) small h = (h.1.1, omega arith)
words_fit count (Cancel k) small h = (omega arith, omega arith)
words_fit count (Send l b n) small h = (h.0, omega arith)
words_fit count (Bcast b n) small h = (omega arith, omega arith)
words_fit count (Recvw a k) small h = (omega (arith, h.1), omega arith)
words_fit count (Add a b c) small h = (omega arith, omega arith)
words_fit count (Sub a b c) small h = (omega arith, omega arith)
words_fit count (Mul a b c) small h = (omega arith, omega arith)
words_fit count (And a b c) small h = (omega arith, omega arith)
words_fit count (Or a b c) small h = (omega arith, omega arith)
words_fit count (Xor a b c) small h = (omega arith, omega arith)
words_fit count (Shl a b c) small h = (omega arith, omega arith)
words_fit count (Shr a b c) small h = (omega arith, omega arith)
words_fit count (Sar a b c) small h = (omega arith, omega arith)
words_fit count (Udiv a b c) small h = (omega arith, omega arith)
words_fit count (Urem a b c) small h = (omega arith, omega arith)
words_fit count (Eq a b c) small h = (omega arith, omega arith)
words_fit count (Ult a b c) small h = (omega arith, omega arith)
words_fit count (Slt a b c) small h = (omega arith, omega arith)
words_fit count (Rlen a) small h = (omega arith, omega arith)
words_fit count (Rfrom a) small h = (omega arith, omega arith)
words_fit count (Assert a) small h = (omega arith, omega arith)
words_fit count (Node a) small h = (omega arith, omega arith)
words_fit count (Now a) small h = (omega arith, omega arith)
words_fit count Ret small h = (omega arith, omega arith)
words_fit count Halt small h = (omega arith, omega arith)

-- ---- its ranges
-- the registers that are sent
span_from : (b n : ℕ) → (n ≤ 8) × (b + n ≤ 16) × (b < 16) → is_span_lem b n ≡ true
span_from b n h = and_from (ltb b 16 && leb n 8) (leb (b + n) 16) (and_from (ltb b 16) (leb n 8) (lt-ltb b 16 h.2) (le-leb n 8 h.0)) (le-leb (b + n) 16 h.1)

span_of : (b n : ℕ) → is_span_lem b n ≡ true → (n ≤ 8) × (b + n ≤ 16) × (b < 16)
span_of b n e =
    let h = and_parts (ltb b 16 && leb n 8) (leb (b + n) 16) e in
    let k = and_parts (ltb b 16) (leb n 8) h.0 in
    (leb-true n 8 k.1, leb-true (b + n) 16 h.1, ltb-true b 16 k.0)

memory_from : (m n : ℕ) → IsMemorySpan m n → is_memory_span_lem m n ≡ true
memory_from m n h =
    let low : m < 64 = omega (arith, h.some, h.within) in
    and_from (ltb m 64) (leb 1 n && (leb n 16 && leb (m + n) 64)) (lt-ltb m 64 low) (and_from (leb 1 n) (leb n 16 && leb (m + n) 64) (le-leb 1 n h.some) (and_from (leb n 16) (leb (m + n) 64) (le-leb n 16 h.few) (le-leb (m + n) 64 h.within)))

memory_of : (m n : ℕ) → is_memory_span_lem m n ≡ true → IsMemorySpan m n
memory_of m n e =
    let h = and_parts (ltb m 64) (leb 1 n && (leb n 16 && leb (m + n) 64)) e in
    let k = and_parts (leb 1 n) (leb n 16 && leb (m + n) 64) h.1 in
    let l = and_parts (leb n 16) (leb (m + n) 64) k.1 in
    record { some = leb-true 1 n k.0; few = leb-true n 16 l.0; within = leb-true (m + n) 64 l.1 }

-- two registers, and what else there is to test
pair_from : (a b : ℕ) (rest : Bool) → a < 16 → b < 16 → rest ≡ true → (ltb a 16 && (ltb b 16 && rest)) ≡ true
pair_from a b rest p q r = and_from (ltb a 16) (ltb b 16 && rest) (lt-ltb a 16 p) (and_from (ltb b 16) rest (lt-ltb b 16 q) r)

pair_of : (a b : ℕ) (rest : Bool) → (ltb a 16 && (ltb b 16 && rest)) ≡ true → (a < 16) × (b < 16) × (rest ≡ true)
pair_of a b rest e =
    let h = and_parts (ltb a 16) (ltb b 16 && rest) e in
    let k = and_parts (ltb b 16) rest h.1 in
    (ltb-true a 16 h.0, ltb-true b 16 k.0, k.1)

-- its fields are in range
pub in_range : (count : ℕ) (i : Instr) → IsInstr count i → is_in_range_lem i ≡ true
in_range count (Const a n) h = lt-ltb a 16 h.0
in_range count (Mov a b) h = and_from (ltb a 16) (ltb b 16) (lt-ltb a 16 h.0) (lt-ltb b 16 h.1)
in_range count (Not a b) h = and_from (ltb a 16) (ltb b 16) (lt-ltb a 16 h.0) (lt-ltb b 16 h.1)
in_range count (Ld a m) h = and_from (ltb a 16) (ltb m 64) (lt-ltb a 16 h.0) (lt-ltb m 64 h.1)
in_range count (St m a) h = and_from (ltb m 64) (ltb a 16) (lt-ltb m 64 h.0) (lt-ltb a 16 h.1)
in_range count (Ldx a b m n) h = pair_from a b (is_memory_span_lem m n) h.0 h.1 (memory_from m n h.2)
in_range count (Stx a b m n) h = pair_from a b (is_memory_span_lem m n) h.0 h.1 (memory_from m n h.2)
in_range count (Jmp to) h = refl
in_range count (Brz a to) h = lt-ltb a 16 h.0
in_range count (Input a w) h = and_from (ltb a 16) (leb 1 w && leb w 16) (lt-ltb a 16 h.0) (and_from (leb 1 w) (leb w 16) (le-leb 1 w h.1) (le-leb w 16 h.2))
in_range count (Timer k d) h = and_from (ltb k 8) (leb 1 d) (lt-ltb k 8 h.0) (le-leb 1 d h.1.0)
in_range count (Cancel k) h = lt-ltb k 8 h
in_range count (Send l b n) h = span_from b n h.1
in_range count (Bcast b n) h = span_from b n h
in_range count (Recvw a k) h = and_from (ltb a 16) (ltb k 8) (lt-ltb a 16 h.0) (lt-ltb k 8 h.1)
in_range count (Add a b c) h = pair_from a b (ltb c 16) h.0 h.1 (lt-ltb c 16 h.2)
in_range count (Sub a b c) h = pair_from a b (ltb c 16) h.0 h.1 (lt-ltb c 16 h.2)
in_range count (Mul a b c) h = pair_from a b (ltb c 16) h.0 h.1 (lt-ltb c 16 h.2)
in_range count (And a b c) h = pair_from a b (ltb c 16) h.0 h.1 (lt-ltb c 16 h.2)
in_range count (Or a b c) h = pair_from a b (ltb c 16) h.0 h.1 (lt-ltb c 16 h.2)
in_range count (Xor a b c) h = pair_from a b (ltb c 16) h.0 h.1 (lt-ltb c 16 h.2)
in_range count (Shl a b c) h = pair_from a b (ltb c 16) h.0 h.1 (lt-ltb c 16 h.2)
in_range count (Shr a b c) h = pair_from a b (ltb c 16) h.0 h.1 (lt-ltb c 16 h.2)
in_range count (Sar a b c) h = pair_from a b (ltb c 16) h.0 h.1 (lt-ltb c 16 h.2)
in_range count (Udiv a b c) h = pair_from a b (ltb c 16) h.0 h.1 (lt-ltb c 16 h.2)
in_range count (Urem a b c) h = pair_from a b (ltb c 16) h.0 h.1 (lt-ltb c 16 h.2)
in_range count (Eq a b c) h = pair_from a b (ltb c 16) h.0 h.1 (lt-ltb c 16 h.2)
in_range count (Ult a b c) h = pair_from a b (ltb c 16) h.0 h.1 (lt-ltb c 16 h.2)
in_range count (Slt a b c) h = pair_from a b (ltb c 16) h.0 h.1 (lt-ltb c 16 h.2)
in_range count (Rlen a) h = lt-ltb a 16 h
in_range count (Rfrom a) h = lt-ltb a 16 h
in_range count (Assert a) h = lt-ltb a 16 h
in_range count (Node a) h = lt-ltb a 16 h
in_range count (Now a) h = lt-ltb a 16 h
in_range count Ret h = refl
in_range count Halt h = refl

-- where its fields are in range, it is an instruction among those that it may stand among
pub is_instr : (count : ℕ) (last : Bool) (i : Instr) → (row_of_lem i).p < 2 ^ 16 → is_in_range_lem i ≡ true → may_stand_lem count last i ≡ true → IsInstr count i
is_instr count last (Const a n) fits e s = (ltb-true a 16 e, fits)
is_instr count last (Mov a b) fits e s =
    let h = and_parts (ltb a 16) (ltb b 16) e in
    (ltb-true a 16 h.0, ltb-true b 16 h.1)
is_instr count last (Not a b) fits e s =
    let h = and_parts (ltb a 16) (ltb b 16) e in
    (ltb-true a 16 h.0, ltb-true b 16 h.1)
is_instr count last (Ld a m) fits e s =
    let h = and_parts (ltb a 16) (ltb m 64) e in
    (ltb-true a 16 h.0, ltb-true m 64 h.1)
is_instr count last (St m a) fits e s =
    let h = and_parts (ltb m 64) (ltb a 16) e in
    (ltb-true m 64 h.0, ltb-true a 16 h.1)
is_instr count last (Ldx a b m n) fits e s =
    let h = pair_of a b (is_memory_span_lem m n) e in
    (h.0, h.1, memory_of m n h.2)
is_instr count last (Stx a b m n) fits e s =
    let h = pair_of a b (is_memory_span_lem m n) e in
    (h.0, h.1, memory_of m n h.2)
is_instr count last (Jmp to) fits e s = ltb-true to count s
is_instr count last (Brz a to) fits e s = (ltb-true a 16 e, ltb-true to count (and_parts (ltb to count) (not last) s).0)
is_instr count last (Input a w) fits e s =
    let h = and_parts (ltb a 16) (leb 1 w && leb w 16) e in
    let k = and_parts (leb 1 w) (leb w 16) h.1 in
    (ltb-true a 16 h.0, leb-true 1 w k.0, leb-true w 16 k.1)
is_instr count last (Timer k d) fits e s =
    let h = and_parts (ltb k 8) (leb 1 d) e in
    (ltb-true k 8 h.0, (leb-true 1 d h.1, fits))
is_instr count last (Cancel k) fits e s = ltb-true k 8 e
is_instr count last (Send l b n) fits e s = (fits, span_of b n e)
is_instr count last (Bcast b n) fits e s = span_of b n e
is_instr count last (Recvw a k) fits e s =
    let h = and_parts (ltb a 16) (ltb k 8) e in
    (ltb-true a 16 h.0, ltb-true k 8 h.1)
is_instr count last (Add a b c) fits e s =
    let h = pair_of a b (ltb c 16) e in
    (h.0, h.1, ltb-true c 16 h.2)
is_instr count last (Sub a b c) fits e s =
    let h = pair_of a b (ltb c 16) e in
    (h.0, h.1, ltb-true c 16 h.2)
is_instr count last (Mul a b c) fits e s =
    let h = pair_of a b (ltb c 16) e in
    (h.0, h.1, ltb-true c 16 h.2)
is_instr count last (And a b c) fits e s =
    let h = pair_of a b (ltb c 16) e in
    (h.0, h.1, ltb-true c 16 h.2)
is_instr count last (Or a b c) fits e s =
    let h = pair_of a b (ltb c 16) e in
    (h.0, h.1, ltb-true c 16 h.2)
is_instr count last (Xor a b c) fits e s =
    let h = pair_of a b (ltb c 16) e in
    (h.0, h.1, ltb-true c 16 h.2)
is_instr count last (Shl a b c) fits e s =
    let h = pair_of a b (ltb c 16) e in
    (h.0, h.1, ltb-true c 16 h.2)
is_instr count last (Shr a b c) fits e s =
    let h = pair_of a b (ltb c 16) e in
    (h.0, h.1, ltb-true c 16 h.2)
is_instr count last (Sar a b c) fits e s =
    let h = pair_of a b (ltb c 16) e in
    (h.0, h.1, ltb-true c 16 h.2)
is_instr count last (Udiv a b c) fits e s =
    let h = pair_of a b (ltb c 16) e in
    (h.0, h.1, ltb-true c 16 h.2)
is_instr count last (Urem a b c) fits e s =
    let h = pair_of a b (ltb c 16) e in
    (h.0, h.1, ltb-true c 16 h.2)
is_instr count last (Eq a b c) fits e s =
    let h = pair_of a b (ltb c 16) e in
    (h.0, h.1, ltb-true c 16 h.2)
is_instr count last (Ult a b c) fits e s =
    let h = pair_of a b (ltb c 16) e in
    (h.0, h.1, ltb-true c 16 h.2)
is_instr count last (Slt a b c) fits e s =
    let h = pair_of a b (ltb c 16) e in
    (h.0, h.1, ltb-true c 16 h.2)
is_instr count last (Rlen a) fits e s = ltb-true a 16 e
is_instr count last (Rfrom a) fits e s = ltb-true a 16 e
is_instr count last (Assert a) fits e s = ltb-true a 16 e
is_instr count last (Node a) fits e s = ltb-true a 16 e
is_instr count last (Now a) fits e s = ltb-true a 16 e
is_instr count last Ret fits e s = tt
is_instr count last Halt fits e s = tt

-- ---- where it stands
pub may_stand : (count : ℕ) (last : Bool) (i : Instr) → IsInstr count i → (last ≡ true → Ends i) → may_stand_lem count last i ≡ true
may_stand count last (Jmp to) h ends = lt-ltb to count h
may_stand count last Ret h ends = refl
may_stand count last Halt h ends = refl
may_stand count true other h ends = absurd (ends refl)
may_stand count false (Brz a to) h ends = and_from (ltb to count) true (lt-ltb to count h.1) refl
may_stand count false other h ends = refl

never_last : {P : Type 0} (last : Bool) → not last ≡ true → last ≡ true → P
never_last true e h = never e
never_last false e h = never h

pub ends : (count : ℕ) (last : Bool) (i : Instr) → may_stand_lem count last i ≡ true → last ≡ true → Ends i
ends count last (Jmp to) e h = tt
ends count last Ret e h = tt
ends count last Halt e h = tt
ends count last (Brz a to) e h = never_last last (and_parts (ltb to count) (not last) e).1 h
ends count last other e h = never_last last e h

-- it may stand where there are more instructions than its target, and others follow
pub stands_elsewhere : (i : Instr) → may_stand_lem (suc (row_of_lem i).p) false i ≡ true
stands_elsewhere (Jmp to) = lt-ltb to (suc to) (omega arith)
stands_elsewhere (Brz a to) = and_from (ltb to (suc to)) true (lt-ltb to (suc to) (omega arith)) refl
stands_elsewhere other = refl

-- ---- opcodes
-- one opcode that is not this one, in two chains
skip : (code other : ℕ) (mine yours : Instr) {others others' : Option Instr} → (others ≡ None → others' ≡ None) → cond (eqb code other) (Some mine) others ≡ None → cond (eqb code other) (Some yours) others' ≡ None
skip code other mine yours {others = others} {others' = others'} next e = go (eqb code other) e
  where
    go : (b : Bool) → cond b (Some mine) others ≡ None → cond b (Some yours) others' ≡ None
    go true h = absurd cc
    go false h = next h

-- the opcode alone decides that it is unknown
pub unknown_again : (code a b c p q a' b' c' p' q' : ℕ) → by_opcode_lem (the_row code a b c p q) ≡ None → by_opcode_lem (the_row code a' b' c' p' q') ≡ None
unknown_again code a b c p q a' b' c' p' q' =
    skip code 0x01 _ _
    (skip code 0x02 _ _
    (skip code 0x03 _ _
    (skip code 0x04 _ _
    (skip code 0x05 _ _
    (skip code 0x06 _ _
    (skip code 0x07 _ _
    (skip code 0x08 _ _
    (skip code 0x09 _ _
    (skip code 0x0a _ _
    (skip code 0x0b _ _
    (skip code 0x0c _ _
    (skip code 0x0d _ _
    (skip code 0x0e _ _
    (skip code 0x0f _ _
    (skip code 0x10 _ _
    (skip code 0x11 _ _
    (skip code 0x12 _ _
    (skip code 0x13 _ _
    (skip code 0x14 _ _
    (skip code 0x15 _ _
    (skip code 0x16 _ _
    (skip code 0x17 _ _
    (skip code 0x18 _ _
    (skip code 0x19 _ _
    (skip code 0x1a _ _
    (skip code 0x1b _ _
    (skip code 0x1c _ _
    (skip code 0x1d _ _
    (skip code 0x1e _ _
    (skip code 0x1f _ _
    (skip code 0x20 _ _
    (skip code 0x21 _ _
    (skip code 0x22 _ _
    (skip code 0x23 _ _
    (skip code 0x24 _ _
    (λ e. e))))))))))))))))))))))))))))))))))))

-- one opcode of the chain: its own row, or the rows that follow
or_row : {P : Type 0} {is_mine : Bool} {here others answer : Option Instr} → (is_mine ≡ true → here ≡ answer → P) → (others ≡ answer → P) → cond is_mine here others ≡ answer → P
or_row {is_mine = true} mine theirs e = mine refl e
or_row {is_mine = false} mine theirs e = theirs e

-- an instruction has the opcode
pub record HasOpcode (code : ℕ) : Type 0 where
  pub instr : Instr
  pub count : ℕ
  pub fits : IsInstr count instr
  pub opcode : (row_of_lem instr).code ≡ code

has : {code : ℕ} (i : Instr) → IsInstr 1 i → eqb code (row_of_lem i).code ≡ true → HasOpcode code
has {code = code} i fits is = record { instr = i; count = 1; fits = fits; opcode = sym (eqb-true code (row_of_lem i).code is) }

no_row : {P : Type 0} (i : Instr) → None ≡ Some i → P
no_row i e = absurd cc

pub known : (r : Row) (i : Instr) → by_opcode_lem r ≡ Some i → HasOpcode r.code
known r i =
    or_row (λ mine e. has (Const 0 0) (omega arith, omega arith) mine)
    (or_row (λ mine e. has (Mov 0 0) (omega arith, omega arith) mine)
    (or_row (λ mine e. has (Not 0 0) (omega arith, omega arith) mine)
    (or_row (λ mine e. has (Ld 0 0) (omega arith, omega arith) mine)
    (or_row (λ mine e. has (St 0 0) (omega arith, omega arith) mine)
    (or_row (λ mine e. has (Ldx 0 0 0 1) (omega arith, omega arith, record { some = omega arith; few = omega arith; within = omega arith }) mine)
    (or_row (λ mine e. has (Stx 0 0 0 1) (omega arith, omega arith, record { some = omega arith; few = omega arith; within = omega arith }) mine)
    (or_row (λ mine e. has (Jmp 0) (omega arith) mine)
    (or_row (λ mine e. has (Brz 0 0) (omega arith, omega arith) mine)
    (or_row (λ mine e. has (Input 0 1) (omega arith, omega arith, omega arith) mine)
    (or_row (λ mine e. has (Timer 0 1) (omega arith, (omega arith, omega arith)) mine)
    (or_row (λ mine e. has (Cancel 0) (omega arith) mine)
    (or_row (λ mine e. has (Send 0 0 0) (omega arith, (omega arith, omega arith, omega arith)) mine)
    (or_row (λ mine e. has (Bcast 0 0) (omega arith, omega arith, omega arith) mine)
    (or_row (λ mine e. has (Recvw 0 0) (omega arith, omega arith) mine)
    (or_row (λ mine e. has (Add 0 0 0) (omega arith, omega arith, omega arith) mine)
    (or_row (λ mine e. has (Sub 0 0 0) (omega arith, omega arith, omega arith) mine)
    (or_row (λ mine e. has (Mul 0 0 0) (omega arith, omega arith, omega arith) mine)
    (or_row (λ mine e. has (And 0 0 0) (omega arith, omega arith, omega arith) mine)
    (or_row (λ mine e. has (Or 0 0 0) (omega arith, omega arith, omega arith) mine)
    (or_row (λ mine e. has (Xor 0 0 0) (omega arith, omega arith, omega arith) mine)
    (or_row (λ mine e. has (Shl 0 0 0) (omega arith, omega arith, omega arith) mine)
    (or_row (λ mine e. has (Shr 0 0 0) (omega arith, omega arith, omega arith) mine)
    (or_row (λ mine e. has (Sar 0 0 0) (omega arith, omega arith, omega arith) mine)
    (or_row (λ mine e. has (Udiv 0 0 0) (omega arith, omega arith, omega arith) mine)
    (or_row (λ mine e. has (Urem 0 0 0) (omega arith, omega arith, omega arith) mine)
    (or_row (λ mine e. has (Eq 0 0 0) (omega arith, omega arith, omega arith) mine)
    (or_row (λ mine e. has (Ult 0 0 0) (omega arith, omega arith, omega arith) mine)
    (or_row (λ mine e. has (Slt 0 0 0) (omega arith, omega arith, omega arith) mine)
    (or_row (λ mine e. has (Rlen 0) (omega arith) mine)
    (or_row (λ mine e. has (Rfrom 0) (omega arith) mine)
    (or_row (λ mine e. has (Assert 0) (omega arith) mine)
    (or_row (λ mine e. has (Node 0) (omega arith) mine)
    (or_row (λ mine e. has (Now 0) (omega arith) mine)
    (or_row (λ mine e. has Ret tt mine)
    (or_row (λ mine e. has Halt tt mine)
    (no_row i))))))))))))))))))))))))))))))))))))
