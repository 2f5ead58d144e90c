-- What is wrong where the reading of a handler's entry or of a row stops.
use Rattle.std.proofs.Common.{◌≡◌, ◌≢◌, ℕ, suc, ◌+◌, ◌^◌, ◌<◌, Bool, true, false, cond, eqb, ltb, List, [], ◌∷◌, get_or, drop, Option, Some, None, Result, Ok, Err, refl, sym, ap, subst, ◌∙◌, arith}
use Rattle.std.specs.Int.{w16, from_be_bytes}
use Rattle.std.proofs.lemmas.Bool.{eqb-true, eq-eqb, ltb-true, ltb-false}
use Rattle.std.proofs.lemmas.List.{get_or-drop}
use Rattle.kn_code.specs.declared.program.Instr.{Instr}
use Rattle.kn_code.specs.declared.row.Row.{Row}
use Rattle.kn_code.specs.declared.row.RowFault.{RowFault}
use Rattle.kn_code.specs.declared.row.RowFault.TheVariants as RowFaults
use Rattle.kn_code.specs.declared.decoding.CodeFault.{CodeFault}
use Rattle.kn_code.specs.declared.decoding.CodeFault.TheVariants as faults
use Rattle.kn_code.specs.Rows.{the_row, row_of_lem}
use Rattle.kn_code.specs.Decoding.{by_opcode_lem, is_in_range_lem, checked_lem, tested, instr_of_lem, row_at_lem, names, handled, handler_at, instr_placed, instr_at}
use Rattle.kn_code.specs.Faults.{word_at, row_here, IsWrongEntry, HasWrongOpcode, HasWrongField, HasWrongTarget, HasInstr}
use Rattle.kn_code.proofs.Readings.{IsBytes}
use Rattle.kn_code.proofs.Instrs.{never, by_opcode_again, is_instr, stands_elsewhere, unknown_again, known}
use Rattle.kn_code.proofs.Fields.{placed_ok, fields_passed, instr_read, instr_again}

pub differ : (a b : ℕ) → eqb a b ≡ false → a ≢ b
differ a b e = λ same. never (sym e ∙ eq-eqb a b same)

-- ---- where it is said of the bytes
word_dropped : (bytes : List ℕ) (at : ℕ) → from_be_bytes w16 (get_or (drop at bytes) 0 0 ∷ get_or (drop at bytes) 1 0 ∷ []) ≡ word_at bytes at
word_dropped bytes at =
    let here : at + 0 ≡ at = omega arith in
    rw (get_or-drop at bytes 0 0, get_or-drop at bytes 1 0, here) refl

pub row_dropped : (bytes : List ℕ) (at : ℕ) → row_at_lem (drop at bytes) 0 ≡ row_here bytes at
row_dropped bytes at =
    let here : at + 0 ≡ at = omega arith in
    let five : at + 5 ≡ at + 4 + 1 = omega arith in
    let seven : at + 7 ≡ at + 6 + 1 = omega arith in
    rw (get_or-drop at bytes 0 0, get_or-drop at bytes 1 0, get_or-drop at bytes 2 0, get_or-drop at bytes 3 0, get_or-drop at bytes 4 0, get_or-drop at bytes 5 0, get_or-drop at bytes 6 0, get_or-drop at bytes 7 0, here, five, seven) refl

pub err_is : {X : Type 0} (g h : CodeFault) → ◌≡◌ {A = Result X CodeFault} (Err g) (Err h) → g ≡ h
err_is g h e = cc

-- ---- a handler's entry
entry_right : (count place word : ℕ) (x : Option ℕ) → handled place (names count (cond (eqb word 65535) None (Some word))) ≡ Ok x → IsWrongEntry count word → ⊥
entry_right count place word x e wrong = go (eqb word 65535) (ltb word count) refl refl e
  where
    go : (b l : Bool) → eqb word 65535 ≡ b → ltb word count ≡ l → handled place (names count (cond b None (Some word))) ≡ Ok x → ⊥
    go true l is low h = wrong.0 (eqb-true word 65535 is)
    go false true is low h = omega (arith, ltb-true word count low, wrong.1)
    go false false is low h = let bad : handled place (cond false (Ok (Some word)) (Err word)) ≡ Ok x = ap (λ (c : Bool). handled place (cond c (Ok (Some word)) (Err word))) (sym low) ∙ h in absurd (let wrong_one : Err (faults.Handler place) ≡ Ok x = bad in cc)

entry_wrong : (count place word : ℕ) (f : CodeFault) → handled place (names count (cond (eqb word 65535) None (Some word))) ≡ Err f → (faults.Handler place ≡ f) × IsWrongEntry count word
entry_wrong count place word f e = go (eqb word 65535) (ltb word count) refl refl e
  where
    go : (b l : Bool) → eqb word 65535 ≡ b → ltb word count ≡ l → handled place (names count (cond b None (Some word))) ≡ Err f → (faults.Handler place ≡ f) × IsWrongEntry count word
    go true l is low h = absurd cc
    go false true is low h = let bad : handled place (cond true (Ok (Some word)) (Err word)) ≡ Err f = ap (λ (c : Bool). handled place (cond c (Ok (Some word)) (Err word))) (sym low) ∙ h in absurd (let wrong_one : Ok (Some word) ≡ Err f = bad in cc)
    go false false is low h =
        let bad : handled place (cond false (Ok (Some word)) (Err word)) ≡ Err f = ap (λ (c : Bool). handled place (cond c (Ok (Some word)) (Err word))) (sym low) ∙ h in
        (err_is (faults.Handler place) f bad, (differ word 65535 is, ltb-false word count low))

-- ---- a row
-- an opcode that is known is not refused for it
known_one : (fields target : Bool) (i : Instr) → checked_lem fields target i ≡ Err RowFaults.Opcode → ⊥
known_one true true i e = absurd cc
known_one true false i e = absurd (let wrong : Err RowFaults.Target ≡ Err RowFaults.Opcode = e in cc)
known_one false target i e = absurd (let wrong : Err RowFaults.Field ≡ Err RowFaults.Opcode = e in cc)

unknown : (count : ℕ) (last : Bool) (r : Row) (o : Option Instr) → tested count last r o ≡ Err RowFaults.Opcode → o ≡ None
unknown count last r None e = refl
unknown count last r (Some i) e = absurd (known_one _ _ i e)

opcode_kept : (r s : Row) → s.code ≡ r.code → by_opcode_lem r ≡ None → by_opcode_lem s ≡ None
opcode_kept r s same e =
    let here = unknown_again r.code r.a r.b r.c r.p r.q s.a s.b s.c s.p s.q e in
    subst (λ (code : ℕ). by_opcode_lem (the_row code s.a s.b s.c s.p s.q) ≡ None) (sym same) here

pub wrong_opcode : (count : ℕ) (last : Bool) (r : Row) → instr_of_lem count last r ≡ Err RowFaults.Opcode → HasWrongOpcode r
wrong_opcode count last r e i n fits same =
    let none = opcode_kept r (row_of_lem i) same (unknown count last r (by_opcode_lem r) e) in
    absurd (let wrong : None ≡ Some i = sym none ∙ by_opcode_again i in cc)

-- the fields alone decide that they are wrong
field_again : (fields target target' : Bool) (i : Instr) → checked_lem fields target i ≡ Err RowFaults.Field → checked_lem fields target' i ≡ Err RowFaults.Field
field_again true true target' i e = absurd cc
field_again true false target' i e = absurd (let wrong : Err RowFaults.Target ≡ Err RowFaults.Field = e in cc)
field_again false target target' i e = refl

-- an opcode that is known, and the same fault wherever the row stands
field_kept : (count : ℕ) (last : Bool) (r : Row) (o : Option Instr) → tested count last r o ≡ Err RowFaults.Field → ((i : Instr) × (o ≡ Some i)) × ((n : ℕ) → tested n false r o ≡ Err RowFaults.Field)
field_kept count last r None e = absurd (let wrong : Err RowFaults.Opcode ≡ Err RowFaults.Field = e in cc)
field_kept count last r (Some i) e = ((i, refl), λ n. field_again _ _ _ i e)

pub wrong_field : (count : ℕ) (last : Bool) (r : Row) → instr_of_lem count last r ≡ Err RowFaults.Field → HasWrongField r
wrong_field count last r e =
    let kept = field_kept count last r (by_opcode_lem r) e in
    let h = known r kept.0.0 kept.0.1 in
    record {
      instr = h.instr;
      count = h.count;
      fits = h.fits;
      opcode = h.opcode;
      none = λ i n fits same. absurd (let wrong : Err RowFaults.Field ≡ Ok i = sym (kept.1 n) ∙ ap (instr_of_lem n false) same ∙ instr_again n false i fits (λ h. never h) in cc);
    }

-- where the target is wrong, the fields are right
target_alone : (fields target : Bool) (i : Instr) → checked_lem fields target i ≡ Err RowFaults.Target → fields ≡ true
target_alone true target i e = refl
target_alone false target i e = absurd (let wrong : Err RowFaults.Field ≡ Err RowFaults.Target = e in cc)

fields_right : (count : ℕ) (last : Bool) (r : Row) (o : Option Instr) → tested count last r o ≡ Err RowFaults.Target → (i : Instr) × (row_of_lem i ≡ r) × (is_in_range_lem i ≡ true)
fields_right count last r None e = absurd (let wrong : Err RowFaults.Opcode ≡ Err RowFaults.Target = e in cc)
fields_right count last r (Some i) e =
    let h = fields_passed r i (target_alone _ _ i e) in
    (i, h.0, h.1)

pub wrong_target : (count left : ℕ) (r : Row) → r.p < 2 ^ 16 → instr_of_lem count (eqb left 0) r ≡ Err RowFaults.Target → HasWrongTarget count left r
wrong_target count left r fits e =
    let h = fields_right count (eqb left 0) r (by_opcode_lem r) e in
    let among = suc (row_of_lem h.0).p in
    record {
      instr = h.0;
      among = among;
      fits = is_instr among false h.0 (subst (λ (s : Row). s.p < 2 ^ 16) (sym h.1) fits) h.2 (stands_elsewhere h.0);
      fields = sym h.1;
      stray = λ i is stands. absurd (let wrong : Err RowFaults.Target ≡ Ok i = sym e ∙ ap (instr_of_lem count (eqb left 0)) is ∙ instr_again count (eqb left 0) i stands.0 (λ t. stands.1 (eqb-true left 0 t)) in cc);
    }

-- ---- at a place of the bytes
pub handler_wrong : (count left place : ℕ) (bytes : List ℕ) (at : ℕ) (f : CodeFault) → handler_at count left place (drop at bytes) ≡ Err f → (faults.Handler place ≡ f) × IsWrongEntry count (word_at bytes at)
unfolding handler_at
handler_wrong count left place bytes at f e =
    subst (λ (word : ℕ). (faults.Handler place ≡ f) × IsWrongEntry count word) (word_dropped bytes at) (entry_wrong count place _ f e)

pub handler_right : (count left place : ℕ) (bytes : List ℕ) (at : ℕ) (x : Option ℕ) → handler_at count left place (drop at bytes) ≡ Ok x → IsWrongEntry count (word_at bytes at) → ⊥
unfolding handler_at
handler_right count left place bytes at x e =
    subst (λ (word : ℕ). IsWrongEntry count word → ⊥) (word_dropped bytes at) (entry_right count place _ x e)

-- a fault of a row, and where
abbrev pub RowWrong : ℕ → ℕ → ℕ → Row → CodeFault → Type 0
RowWrong count left place r (faults.Opcode at) = (at ≡ place) × HasWrongOpcode r
RowWrong count left place r (faults.Field at) = (at ≡ place) × HasWrongField r
RowWrong count left place r (faults.Target at) = (at ≡ place) × HasWrongTarget count left r
RowWrong count left place r other = ⊥

row_wrong : (count left place : ℕ) (r : Row) (f : CodeFault) → r.p < 2 ^ 16 → instr_placed place (instr_of_lem count (eqb left 0) r) ≡ Err f → RowWrong count left place r f
row_wrong count left place r f fits e = go (instr_of_lem count (eqb left 0) r) refl e
  where
    go : (result : Result Instr RowFault) → instr_of_lem count (eqb left 0) r ≡ result → instr_placed place result ≡ Err f → RowWrong count left place r f
    go (Ok i) is h = absurd (let wrong : Ok i ≡ Err f = h in cc)
    go (Err RowFaults.Opcode) is h = subst (RowWrong count left place r) (err_is (faults.Opcode place) f h) (refl, wrong_opcode count (eqb left 0) r is)
    go (Err RowFaults.Field) is h = subst (RowWrong count left place r) (err_is (faults.Field place) f h) (refl, wrong_field count (eqb left 0) r is)
    go (Err RowFaults.Target) is h = subst (RowWrong count left place r) (err_is (faults.Target place) f h) (refl, wrong_target count left r fits is)

p_small : (bytes : List ℕ) (at : ℕ) → IsBytes bytes → (row_here bytes at).p < 2 ^ 16
p_small bytes at fits = omega (arith, fits (at + 4), fits (at + 4 + 1))

pub instr_wrong : (count left place : ℕ) (bytes : List ℕ) (at : ℕ) (f : CodeFault) → IsBytes bytes → instr_at count left place (drop at bytes) ≡ Err f → RowWrong count left place (row_here bytes at) f
unfolding instr_at
instr_wrong count left place bytes at f fits e =
    row_wrong count left place (row_here bytes at) f (p_small bytes at fits) (sym (ap (λ (r : Row). instr_placed place (instr_of_lem count (eqb left 0) r)) (row_dropped bytes at)) ∙ e)

pub instr_right : (count left place : ℕ) (bytes : List ℕ) (at : ℕ) (x : Instr) → IsBytes bytes → instr_at count left place (drop at bytes) ≡ Ok x → HasInstr count left (row_here bytes at)
unfolding instr_at
instr_right count left place bytes at x fits e =
    let read = instr_read count (eqb left 0) (row_here bytes at) x (placed_ok place (instr_of_lem count (eqb left 0) (row_here bytes at)) x (sym (ap (λ (r : Row). instr_placed place (instr_of_lem count (eqb left 0) r)) (row_dropped bytes at)) ∙ e)) in
    record { instr = x; fields = read.0; stands = (read.1 (p_small bytes at fits), λ none. read.2 (eq-eqb left 0 none)) }
