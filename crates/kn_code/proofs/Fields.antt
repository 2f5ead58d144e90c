-- The two kinds of items: a handler's entry and an instruction.
use Rattle.std.proofs.Common.{◌≡◌, ◌⊎◌, ℕ, zero, suc, ◌^◌, ◌<◌, ◌≤◌, Bool, true, false, cond, eqb, ltb, List, [], ◌∷◌, ◌++◌, length, get_or, drop, Option, Some, None, Result, Ok, Err, refl, sym, ap, subst, ◌∙◌, arith, inl, inr}
use Rattle.std.specs.Prelude.{◌&&◌, unwrap_or}
use Rattle.std.specs.Int.{w16, to_be_bytes, from_be_bytes}
use Rattle.std.proofs.lemmas.Bool.{eqb-true, eq-eqb, ltb-true, lt-ltb, ne_eqb}
use Rattle.std.proofs.lemmas.Nat.{be_bytes_2, from_be_bytes-to_be_bytes_2}
use Rattle.kn_code.specs.declared.program.Instr.{Instr}
use Rattle.kn_code.specs.declared.row.Row.{Row}
use Rattle.kn_code.specs.declared.row.RowFault.{RowFault}
use Rattle.kn_code.specs.Code.{IsInstr, Ends, Stands, Names}
use Rattle.kn_code.specs.Rows.{the_row, row_of_lem, row_bytes, entry_bytes, instr_bytes}
use Rattle.kn_code.specs.Decoding.{by_opcode_lem, is_in_range_lem, may_stand_lem, is_same_row, checked_lem, tested, instr_of_lem, row_at_lem, entry_at_lem, names, handled, handler_at, instr_placed, instr_at}
use Rattle.kn_code.proofs.Readings.{IsBytes, ReadsOne}
use Rattle.kn_code.proofs.Instrs.{by_opcode_again, words_fit, in_range, is_instr, may_stand, ends}

pub chosen : {A : Type 0} (b : Bool) (x y z : A) → cond b x y ≡ z → ((b ≡ true) × (x ≡ z)) ⊎ ((b ≡ false) × (y ≡ z))
chosen true x y z e = inl (refl, e)
chosen false x y z e = inr (refl, e)

pub both_true : (a b : Bool) → (a && b) ≡ true → (a ≡ true) × (b ≡ true)
both_true true b e = (refl, e)
both_true false b e = absurd cc

pub cells_two : (bytes : List ℕ) → 2 ≤ length bytes → bytes ≡ get_or bytes 0 0 ∷ get_or bytes 1 0 ∷ drop 2 bytes
cells_two [] h = absurd (omega (arith, h))
cells_two (x ∷ []) h = absurd (omega (arith, h))
cells_two (x ∷ y ∷ bytes) h = refl

two_bytes : (b c : ℕ) → b < 256 → c < 256 → IsBytes (b ∷ c ∷ [])
two_bytes b c p q zero = p
two_bytes b c p q (suc zero) = q
two_bytes b c p q (suc (suc i)) = omega arith

pub word_again : (b c : ℕ) → b < 256 → c < 256 → to_be_bytes w16 (from_be_bytes w16 (b ∷ c ∷ [])) ≡ b ∷ c ∷ []
word_again b c p q = be_bytes_2 (b ∷ c ∷ []) _ refl (two_bytes b c p q) refl

entry_back : (word : ℕ) → unwrap_or (cond (eqb word 65535) None (Some word)) 65535 ≡ word
entry_back word = go (eqb word 65535) refl
  where
    go : (b : Bool) → eqb word 65535 ≡ b → unwrap_or (cond b None (Some word)) 65535 ≡ word
    go true e = sym (eqb-true word 65535 e)
    go false e = refl

entry_spelled : (bytes : List ℕ) → IsBytes bytes → 2 ≤ length bytes → bytes ≡ entry_bytes (entry_at_lem bytes) ++ drop 2 bytes
entry_spelled bytes fits room =
    let word = from_be_bytes w16 (get_or bytes 0 0 ∷ get_or bytes 1 0 ∷ []) in
    let same : entry_bytes (entry_at_lem bytes) ≡ get_or bytes 0 0 ∷ get_or bytes 1 0 ∷ [] = ap (to_be_bytes w16) (entry_back word) ∙ word_again (get_or bytes 0 0) (get_or bytes 1 0) (fits 0) (fits 1) in
    cells_two bytes room ∙ ap (λ (l : List ℕ). l ++ drop 2 bytes) (sym same)

ok_inj : {A E : Type 0} (x y : A) (r : Result A E) → r ≡ Ok x → r ≡ Ok y → x ≡ y
ok_inj x y r p q = let e : Ok x ≡ Ok y = sym p ∙ q in cc

handled_ok : (place : ℕ) (r : Result (Option ℕ) ℕ) (x : Option ℕ) → handled place r ≡ Ok x → r ≡ Ok x
handled_ok place (Ok y) x e = ap (λ (o : Option ℕ). Ok o) (ok_inj y x (Ok y) refl e)
handled_ok place (Err n) x e = absurd cc

named : (count left : ℕ) (o x : Option ℕ) → names count o ≡ Ok x → (o ≡ x) × Names count left x
named count left None x e = let same : None ≡ x = ok_inj None x (Ok None) refl e in (same, subst (λ (y : Option ℕ). Names count left y) same tt)
named count left (Some n) x e =
    elim (chosen (ltb n count) (Ok (Some n)) (Err n) (Ok x) e) [
      | inl h ↦ let same : Some n ≡ x = ok_inj (Some n) x (Ok (Some n)) refl h.1 in (same, subst (λ (y : Option ℕ). Names count left y) same (ltb-true n count h.0))
      | inr h ↦ absurd (let wrong : Err n ≡ Ok x = h.1 in cc)
    ]

named_again : (count left : ℕ) (x : Option ℕ) → Names count left x → names count x ≡ Ok x
named_again count left None h = refl
named_again count left (Some n) h = rw (lt-ltb n count h) refl

entry_again : (count left : ℕ) (x : Option ℕ) (rest : List ℕ) → count ≤ 4096 → Names count left x → entry_at_lem (entry_bytes x ++ rest) ≡ x
entry_again count left None rest small h = refl
entry_again count left (Some n) rest small h =
    let back : from_be_bytes w16 (to_be_bytes w16 n) ≡ n = from_be_bytes-to_be_bytes_2 n (omega (arith, small, h)) in
    let other : eqb n 65535 ≡ false = ne_eqb n 65535 (λ e. omega (arith, small, h, e)) in
    ap (λ (w : ℕ). cond (eqb w 65535) None (Some w)) back ∙ rw other refl

pub handler_reads : (count : ℕ) → count ≤ 4096 → ReadsOne (handler_at count) 2 entry_bytes (Names count)
unfolding handler_at
handler_reads count small = record {
  reads = λ left place bytes x fits room e.
      let h = named count left (entry_at_lem bytes) x (handled_ok place (names count (entry_at_lem bytes)) x e) in
      (subst (λ (o : Option ℕ). bytes ≡ entry_bytes o ++ drop 2 bytes) h.0 (entry_spelled bytes fits room), h.1);
  again = λ left place x rest h. rw (entry_again count left x rest small h, named_again count left x h) refl;
  wide = λ x. refl;
}

-- ---- instructions

checked_ok : (fields target : Bool) (i j : Instr) → checked_lem fields target i ≡ Ok j → (fields ≡ true) × (target ≡ true) × (i ≡ j)
checked_ok true true i j e = (refl, refl, ok_inj i j (Ok i) refl e)
checked_ok true false i j e = absurd cc
checked_ok false target i j e = absurd cc

same_row : (r s : Row) → is_same_row r s ≡ true → r ≡ s
same_row r s e =
    let a = both_true (eqb r.code s.code) (eqb r.a s.a && (eqb r.b s.b && (eqb r.c s.c && (eqb r.p s.p && eqb r.q s.q)))) e in
    let b = both_true (eqb r.a s.a) (eqb r.b s.b && (eqb r.c s.c && (eqb r.p s.p && eqb r.q s.q))) a.1 in
    let c = both_true (eqb r.b s.b) (eqb r.c s.c && (eqb r.p s.p && eqb r.q s.q)) b.1 in
    let d = both_true (eqb r.c s.c) (eqb r.p s.p && eqb r.q s.q) c.1 in
    let f = both_true (eqb r.p s.p) (eqb r.q s.q) d.1 in
    ap (λ (x : ℕ). the_row x r.a r.b r.c r.p r.q) (eqb-true r.code s.code a.0)
    ∙ ap (λ (x : ℕ). the_row s.code x r.b r.c r.p r.q) (eqb-true r.a s.a b.0)
    ∙ ap (λ (x : ℕ). the_row s.code s.a x r.c r.p r.q) (eqb-true r.b s.b c.0)
    ∙ ap (λ (x : ℕ). the_row s.code s.a s.b x r.p r.q) (eqb-true r.c s.c d.0)
    ∙ ap (λ (x : ℕ). the_row s.code s.a s.b s.c x r.q) (eqb-true r.p s.p f.0)
    ∙ ap (λ (x : ℕ). the_row s.code s.a s.b s.c s.p x) (eqb-true r.q s.q f.1)

like_itself : (r : Row) → is_same_row r r ≡ true
like_itself r = rw (eq-eqb r.code r.code refl, eq-eqb r.a r.a refl, eq-eqb r.b r.b refl, eq-eqb r.c r.c refl, eq-eqb r.p r.p refl, eq-eqb r.q r.q refl) refl

abbrev IsReadAs : ℕ → Bool → Row → Instr → Type 0
IsReadAs count last r i = (r ≡ row_of_lem i) × (r.p < 2 ^ 16 → IsInstr count i) × (last ≡ true → Ends i)

-- the tests that an instruction has passed
pub fields_passed : (r : Row) (i : Instr) → (is_same_row (row_of_lem i) r && is_in_range_lem i) ≡ true → (row_of_lem i ≡ r) × (is_in_range_lem i ≡ true)
fields_passed r i e =
    let h = both_true (is_same_row (row_of_lem i) r) (is_in_range_lem i) e in
    (same_row (row_of_lem i) r h.0, h.1)

tested_ok : (count : ℕ) (last : Bool) (r : Row) (o : Option Instr) (i : Instr) → tested count last r o ≡ Ok i → IsReadAs count last r i
tested_ok count last r None i e = absurd cc
tested_ok count last r (Some j) i e =
    let c = checked_ok (is_same_row (row_of_lem j) r && is_in_range_lem j) (may_stand_lem count last j) j i e in
    let f = fields_passed r j c.0 in
    let here : IsReadAs count last r j = (sym f.0, λ fits. is_instr count last j (subst (λ (s : Row). s.p < 2 ^ 16) (sym f.0) fits) f.1 c.1, ends count last j c.1) in
    subst (IsReadAs count last r) c.2 here

pub instr_read : (count : ℕ) (last : Bool) (r : Row) (i : Instr) → instr_of_lem count last r ≡ Ok i → IsReadAs count last r i
instr_read count last r i = tested_ok count last r (by_opcode_lem r) i

pub instr_again : (count : ℕ) (last : Bool) (i : Instr) → IsInstr count i → (last ≡ true → Ends i) → instr_of_lem count last (row_of_lem i) ≡ Ok i
instr_again count last i h end =
    ap (tested count last (row_of_lem i)) (by_opcode_again i)
    ∙ rw (like_itself (row_of_lem i), in_range count i h, may_stand count last i h end) refl

cells_eight : (bytes : List ℕ) → 8 ≤ length bytes → bytes ≡ get_or bytes 0 0 ∷ get_or bytes 1 0 ∷ get_or bytes 2 0 ∷ get_or bytes 3 0 ∷ get_or bytes 4 0 ∷ get_or bytes 5 0 ∷ get_or bytes 6 0 ∷ get_or bytes 7 0 ∷ drop 8 bytes
cells_eight (x0 ∷ x1 ∷ x2 ∷ x3 ∷ x4 ∷ x5 ∷ x6 ∷ x7 ∷ bytes) h = refl
cells_eight [] h = absurd (omega (arith, h))
cells_eight (x0 ∷ []) h = absurd (omega (arith, h))
cells_eight (x0 ∷ x1 ∷ []) h = absurd (omega (arith, h))
cells_eight (x0 ∷ x1 ∷ x2 ∷ []) h = absurd (omega (arith, h))
cells_eight (x0 ∷ x1 ∷ x2 ∷ x3 ∷ []) h = absurd (omega (arith, h))
cells_eight (x0 ∷ x1 ∷ x2 ∷ x3 ∷ x4 ∷ []) h = absurd (omega (arith, h))
cells_eight (x0 ∷ x1 ∷ x2 ∷ x3 ∷ x4 ∷ x5 ∷ []) h = absurd (omega (arith, h))
cells_eight (x0 ∷ x1 ∷ x2 ∷ x3 ∷ x4 ∷ x5 ∷ x6 ∷ []) h = absurd (omega (arith, h))

row_spelled : (bytes : List ℕ) → IsBytes bytes → 8 ≤ length bytes → bytes ≡ row_bytes (row_at_lem bytes 0) ++ drop 8 bytes
row_spelled bytes fits room =
    let front : List ℕ → List ℕ = λ l. (get_or bytes 0 0 ∷ get_or bytes 1 0 ∷ get_or bytes 2 0 ∷ get_or bytes 3 0 ∷ l) ++ drop 8 bytes in
    let q = from_be_bytes w16 (get_or bytes 6 0 ∷ get_or bytes 7 0 ∷ []) in
    cells_eight bytes room
    ∙ sym (ap (λ (l : List ℕ). front (l ++ to_be_bytes w16 q)) (word_again (get_or bytes 4 0) (get_or bytes 5 0) (fits 4) (fits 5))
    ∙ ap (λ (l : List ℕ). front ((get_or bytes 4 0 ∷ get_or bytes 5 0 ∷ []) ++ l)) (word_again (get_or bytes 6 0) (get_or bytes 7 0) (fits 6) (fits 7)))

word_fits : (b c : ℕ) → b < 256 → c < 256 → from_be_bytes w16 (b ∷ c ∷ []) < 2 ^ 16
word_fits b c p q = omega (arith, p, q)

row_back : (r : Row) (rest : List ℕ) → r.p < 2 ^ 16 → r.q < 2 ^ 16 → row_at_lem (row_bytes r ++ rest) 0 ≡ r
row_back r rest p q =
    ap (λ (w : ℕ). record { code = r.code; a = r.a; b = r.b; c = r.c; p = w; q = from_be_bytes w16 (to_be_bytes w16 r.q) }) (from_be_bytes-to_be_bytes_2 r.p p)
    ∙ ap (λ (w : ℕ). record { code = r.code; a = r.a; b = r.b; c = r.c; p = r.p; q = w }) (from_be_bytes-to_be_bytes_2 r.q q)

pub placed_ok : (place : ℕ) (r : Result Instr RowFault) (x : Instr) → instr_placed place r ≡ Ok x → r ≡ Ok x
placed_ok place (Ok y) x e = ap (λ (o : Instr). Ok o) (ok_inj y x (Ok y) refl e)
placed_ok place (Err n) x e = absurd cc

pub instr_reads : (count : ℕ) → count ≤ 4096 → ReadsOne (instr_at count) 8 instr_bytes (Stands count)
unfolding instr_at
instr_reads count small = record {
  reads = λ left place bytes x fits room e.
      let h = instr_read count (eqb left 0) (row_at_lem bytes 0) x (placed_ok place (instr_of_lem count (eqb left 0) (row_at_lem bytes 0)) x e) in (
        row_spelled bytes fits room ∙ ap (λ (r : Row). row_bytes r ++ drop 8 bytes) h.0,
        (h.1 (word_fits (get_or bytes 4 0) (get_or bytes 5 0) (fits 4) (fits 5)), λ none. h.2 (eq-eqb left 0 none)),
      );
  again = λ left place x rest h.
      let pq = words_fit count x small h.0 in
      ap (λ (r : Row). instr_placed place (instr_of_lem count (eqb left 0) r)) (row_back (row_of_lem x) rest pq.0 pq.1) ∙ ap (instr_placed place) (instr_again count (eqb left 0) x h.0 (λ t. h.1 (eqb-true left 0 t)));
  wide = λ x. refl;
}
