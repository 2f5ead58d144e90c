-- The spelling of a valid program is bytes, so its hexadecimal text gives the program.
use Rattle.std.proofs.Common.{◌≡◌, ℕ, zero, suc, ◌<◌, List, [], ◌∷◌, ◌++◌, length, Option, Some, arith, unwrap_or}
use Rattle.std.specs.List.{flat_map, AllByRecursion}
use Rattle.std.specs.Int.{w16, to_be_bytes}
use Rattle.hex.specs.Hex.{IsBytes, encode_lower}
use Rattle.hex.proofs.HexLemmas.{decode_of-encode_lower}
use Rattle.kn_code.specs.declared.program.Instr.{Instr}
use Rattle.kn_code.specs.declared.program.Instr.TheVariants.{Const, Mov, Not, Ld, St, Ldx, Stx, Jmp, Brz, Input, Timer, Cancel, Send, Bcast, Recvw, Add, Sub, Mul, And, Or, Xor, Shl, Shr, Sar, Udiv, Urem, Eq, Ult, Slt, Rlen, Rfrom, Assert, Node, Now, Ret, Halt}
use Rattle.kn_code.specs.Code.{Code, IsInstr, IsValid, AllWithLeft, Stands}
use Rattle.kn_code.specs.Rows.{row_of_lem, entry_bytes, instr_bytes, spelling}
use Rattle.kn_code.proofs.Whole.{code_again}
use Rattle.kn_netfile.specs.Tables.{program_of_code}

abbrev AreSmall : List ℕ → Type 0
AreSmall xs = AllByRecursion (λ x. x < 256) xs

small_append : (xs ys : List ℕ) → AreSmall xs → AreSmall ys → AreSmall (xs ++ ys)
small_append [] ys h k = k
small_append (x ∷ xs) ys h k = (h.0, small_append xs ys h.1 k)

small_bytes : (xs : List ℕ) → AreSmall xs → IsBytes xs
small_bytes [] h i = omega arith
small_bytes (x ∷ xs) h zero = h.0
small_bytes (x ∷ xs) h (suc i) = small_bytes xs h.1 i

small_word : (n : ℕ) → AreSmall (to_be_bytes w16 n)
small_word n = (omega arith, (omega arith, tt))

row_small : (count : ℕ) (i : Instr) → IsInstr count i → AreSmall ((row_of_lem i).code ∷ (row_of_lem i).a ∷ (row_of_lem i).b ∷ (row_of_lem i).c ∷ [])
row_small count (Const a n) h = (omega arith, (omega (arith, h.0), (omega arith, (omega arith, tt))))
row_small count (Mov a b) h = (omega arith, (omega (arith, h.0), (omega (arith, h.1), (omega arith, tt))))
row_small count (Not a b) h = (omega arith, (omega (arith, h.0), (omega (arith, h.1), (omega arith, tt))))
row_small count (Ld a m) h = (omega arith, (omega (arith, h.0), (omega arith, (omega arith, tt))))
row_small count (St m a) h = (omega arith, (omega (arith, h.1), (omega arith, (omega arith, tt))))
row_small count (Ldx a b m n) h = (omega arith, (omega (arith, h.0), (omega (arith, h.1), (omega arith, tt))))
row_small count (Stx a b m n) h = (omega arith, (omega (arith, h.0), (omega (arith, h.1), (omega arith, tt))))
row_small count (Jmp to) h = (omega arith, (omega arith, (omega arith, (omega arith, tt))))
row_small count (Brz a to) h = (omega arith, (omega (arith, h.0), (omega arith, (omega arith, tt))))
row_small count (Input a w) h = (omega arith, (omega (arith, h.0), (omega arith, (omega arith, tt))))
row_small count (Timer k d) h = (omega arith, (omega (arith, h.0), (omega arith, (omega arith, tt))))
row_small count (Cancel k) h = (omega arith, (omega (arith, h), (omega arith, (omega arith, tt))))
row_small count (Send l b n) h = (omega arith, (omega (arith, h.1.0), (omega (arith, h.1.2), (omega arith, tt))))
row_small count (Bcast b n) h = (omega arith, (omega (arith, h.0), (omega (arith, h.2), (omega arith, tt))))
row_small count (Recvw a k) h = (omega arith, (omega (arith, h.0), (omega arith, (omega arith, tt))))
row_small count (Add a b c) h = (omega arith, (omega (arith, h.0), (omega (arith, h.1), (omega (arith, h.2), tt))))
row_small count (Sub a b c) h = (omega arith, (omega (arith, h.0), (omega (arith, h.1), (omega (arith, h.2), tt))))
row_small count (Mul a b c) h = (omega arith, (omega (arith, h.0), (omega (arith, h.1), (omega (arith, h.2), tt))))
row_small count (And a b c) h = (omega arith, (omega (arith, h.0), (omega (arith, h.1), (omega (arith, h.2), tt))))
row_small count (Or a b c) h = (omega arith, (omega (arith, h.0), (omega (arith, h.1), (omega (arith, h.2), tt))))
row_small count (Xor a b c) h = (omega arith, (omega (arith, h.0), (omega (arith, h.1), (omega (arith, h.2), tt))))
row_small count (Shl a b c) h = (omega arith, (omega (arith, h.0), (omega (arith, h.1), (omega (arith, h.2), tt))))
row_small count (Shr a b c) h = (omega arith, (omega (arith, h.0), (omega (arith, h.1), (omega (arith, h.2), tt))))
row_small count (Sar a b c) h = (omega arith, (omega (arith, h.0), (omega (arith, h.1), (omega (arith, h.2), tt))))
row_small count (Udiv a b c) h = (omega arith, (omega (arith, h.0), (omega (arith, h.1), (omega (arith, h.2), tt))))
row_small count (Urem a b c) h = (omega arith, (omega (arith, h.0), (omega (arith, h.1), (omega (arith, h.2), tt))))
row_small count (Eq a b c) h = (omega arith, (omega (arith, h.0), (omega (arith, h.1), (omega (arith, h.2), tt))))
row_small count (Ult a b c) h = (omega arith, (omega (arith, h.0), (omega (arith, h.1), (omega (arith, h.2), tt))))
row_small count (Slt a b c) h = (omega arith, (omega (arith, h.0), (omega (arith, h.1), (omega (arith, h.2), tt))))
row_small count (Rlen a) h = (omega arith, (omega (arith, h), (omega arith, (omega arith, tt))))
row_small count (Rfrom a) h = (omega arith, (omega (arith, h), (omega arith, (omega arith, tt))))
row_small count (Assert a) h = (omega arith, (omega (arith, h), (omega arith, (omega arith, tt))))
row_small count (Node a) h = (omega arith, (omega (arith, h), (omega arith, (omega arith, tt))))
row_small count (Now a) h = (omega arith, (omega (arith, h), (omega arith, (omega arith, tt))))
row_small count Ret h = (omega arith, (omega arith, (omega arith, (omega arith, tt))))
row_small count Halt h = (omega arith, (omega arith, (omega arith, (omega arith, tt))))

instr_small : (count : ℕ) (i : Instr) → IsInstr count i → AreSmall (instr_bytes i)
instr_small count i h =
    small_append ((row_of_lem i).code ∷ (row_of_lem i).a ∷ (row_of_lem i).b ∷ (row_of_lem i).c ∷ []) (to_be_bytes w16 (row_of_lem i).p ++ to_be_bytes w16 (row_of_lem i).q) (row_small count i h)
    (small_append (to_be_bytes w16 (row_of_lem i).p) (to_be_bytes w16 (row_of_lem i).q) (small_word (row_of_lem i).p) (small_word (row_of_lem i).q))

instrs_small : (count : ℕ) (is : List Instr) → AllWithLeft (Stands count) is → AreSmall (flat_map instr_bytes is)
instrs_small count [] h = tt
instrs_small count (i ∷ is) h = small_append (instr_bytes i) (flat_map instr_bytes is) (instr_small count i h.0.0) (instrs_small count is h.1)

entries_small : (entries : List (Option ℕ)) → AreSmall (flat_map entry_bytes entries)
entries_small [] = tt
entries_small (e ∷ es) = small_append (entry_bytes e) (flat_map entry_bytes es) (small_word (unwrap_or e 65535)) (entries_small es)

pub spelled_bytes : (code : Code) → IsValid code → IsBytes (spelling code)
spelled_bytes code v =
    small_bytes (spelling code)
    (small_append (to_be_bytes w16 (length code.instrs)) (flat_map entry_bytes code.handlers ++ flat_map instr_bytes code.instrs) (small_word (length code.instrs))
    (small_append (flat_map entry_bytes code.handlers) (flat_map instr_bytes code.instrs) (entries_small code.handlers) (instrs_small (length code.instrs) code.instrs v.instrs)))

pub code_back : (code : Code) → IsValid code → program_of_code (encode_lower (spelling code)) ≡ Some code
code_back code v = rw (decode_of-encode_lower (spelling code) (spelled_bytes code v), code_again code v)
