-- Where reading a program stops, its first fault is.
use Rattle.std.proofs.Common.{◌≡◌, ◌⊎◌, ℕ, ◌+◌, ◌*◌, ◌-◌, ◌<◌, Bool, true, false, eqb, ltb, not, List, length, drop, Result, Ok, Err, refl, sym, ap, subst, ◌∙◌, arith, inl, inr}
use Rattle.std.specs.Prelude.{◌&&◌}
use Rattle.std.proofs.lemmas.Bool.{eqb-true, ltb-true, cases_order}
use Rattle.std.proofs.lemmas.List.{drop-drop}
use Rattle.kn_code.specs.declared.row.Row.{Row}
use Rattle.kn_code.specs.declared.decoding.CodeFault.{CodeFault}
use Rattle.kn_code.specs.declared.decoding.CodeFault.TheVariants as faults
use Rattle.kn_code.specs.Code.{Code}
use Rattle.kn_code.specs.Decoding.{◌>>=◌, Fails, items_from, handler_at, instr_at, has_length, count_of, code_at}
use Rattle.kn_code.specs.Faults.{word_at, row_here, HasWrongLength, IsWrongEntry, HasWrongOpcode, HasWrongField, HasWrongTarget, HasInstr, IsAtHandler, IsAtInstr, IsFirstFault, UnlessMemory}
use Rattle.kn_code.proofs.Readings.{IsBytes, bind_ok}
use Rattle.kn_code.proofs.Fields.{chosen}
use Rattle.kn_code.proofs.Stops.{StopsAt, ReadsBefore, items_read, items_stop}
use Rattle.kn_code.proofs.Wrong.{differ, err_is, handler_wrong, handler_right, RowWrong, instr_wrong, instr_right}
use Rattle.kn_code.proofs.Whole.{HasLength, length_tested}

length_right : (bytes : List ℕ) → HasLength bytes → HasWrongLength bytes → ⊥
length_right bytes long (inl h) = omega (arith, long.head, h)
length_right bytes long (inr (inl h)) = omega (arith, long.some, h)
length_right bytes long (inr (inr (inl h))) = omega (arith, long.fits, h)
length_right bytes long (inr (inr (inr h))) = h long.whole

length_wrong : (bytes : List ℕ) → has_length bytes (length bytes) (count_of bytes) ≡ false → HasWrongLength bytes
length_wrong bytes e = go (ltb (length bytes) 22) (eqb (count_of bytes) 0) (ltb 4096 (count_of bytes)) (eqb (length bytes) (22 + 8 * count_of bytes)) refl refl refl refl e
  where
    go : (a b c d : Bool) → ltb (length bytes) 22 ≡ a → eqb (count_of bytes) 0 ≡ b → ltb 4096 (count_of bytes) ≡ c → eqb (length bytes) (22 + 8 * count_of bytes) ≡ d → (not a && not b && not c && d) ≡ false → HasWrongLength bytes
    go true b c d ea eb ec ed h = inl (ltb-true _ _ ea)
    go false true c d ea eb ec ed h = inr (inl (eqb-true _ _ eb))
    go false false true d ea eb ec ed h = inr (inr (inl (ltb-true _ _ ec)))
    go false false false false ea eb ec ed h = inr (inr (inr (differ _ _ ed)))
    go false false false true ea eb ec ed h = absurd cc

bind_err : {A B : Type 0} (r : Result A CodeFault) (f : A → Result B CodeFault) (g : CodeFault) → (r >>= f) ≡ Err g → (r ≡ Err g) ⊎ ((x : A) × (r ≡ Ok x) × (f x ≡ Err g))
bind_err {A = A} {B = B} (Err d) f g e = inl (ap (λ (h : CodeFault). Err h) (err_is {X = B} d g e))
bind_err (Ok x) f g e = inr (x, refl, e)

handlers_right : (bytes : List ℕ) (index : ℕ) → ReadsBefore (handler_at (count_of bytes)) 2 10 2 (drop 2 bytes) index → (k : ℕ) → k < index → IsWrongEntry (word_at bytes 0) (word_at bytes (2 + 2 * k)) → ⊥
handlers_right bytes index before k below =
    let h = before k below in
    handler_right (count_of bytes) (10 - 1 - k) (2 + 2 * k) bytes (2 + 2 * k) h.0 (ap (handler_at (count_of bytes) (10 - 1 - k) (2 + 2 * k)) (sym (drop-drop (2 * k) 2 bytes)) ∙ h.1)

at_handler : (bytes : List ℕ) (f : CodeFault) → HasLength bytes → items_from (handler_at (count_of bytes)) 2 10 2 (drop 2 bytes) ≡ Err f → IsFirstFault bytes f
at_handler bytes f long e =
    let n = count_of bytes in
    let s = items_stop (handler_at n) 2 10 2 (drop 2 bytes) f e in
    let place = 2 + 2 * s.index in
    let h = handler_wrong n (10 - 1 - s.index) place bytes place f (ap (handler_at n (10 - 1 - s.index) place) (sym (drop-drop (2 * s.index) 2 bytes)) ∙ s.here) in
    subst (IsFirstFault bytes) h.0 (record {
      length = length_right bytes long;
      index = s.index;
      below = s.below;
      here = refl;
      wrong = h.1;
      before = handlers_right bytes s.index s.before;
    })

instrs_right : (bytes : List ℕ) (index : ℕ) → IsBytes bytes → ReadsBefore (instr_at (count_of bytes)) 8 (count_of bytes) 22 (drop 22 bytes) index → (k : ℕ) → k < index → HasInstr (word_at bytes 0) (word_at bytes 0 - 1 - k) (row_here bytes (22 + 8 * k))
instrs_right bytes index fits before k below =
    let n = count_of bytes in
    let h = before k below in
    instr_right n (n - 1 - k) (22 + 8 * k) bytes (22 + 8 * k) h.0 fits (ap (instr_at n (n - 1 - k) (22 + 8 * k)) (sym (drop-drop (8 * k) 22 bytes)) ∙ h.1)

at_instr : (bytes : List ℕ) (f : CodeFault) → IsBytes bytes → HasLength bytes → ((k : ℕ) → k < 10 → IsWrongEntry (word_at bytes 0) (word_at bytes (2 + 2 * k)) → ⊥) → items_from (instr_at (count_of bytes)) 8 (count_of bytes) 22 (drop 22 bytes) ≡ Err f → IsFirstFault bytes f
at_instr bytes f fits long handlers e = go f (instr_wrong n left place bytes place f fits (ap (instr_at n left place) (sym (drop-drop (8 * s.index) 22 bytes)) ∙ s.here))
  where
    n : ℕ
    n = count_of bytes

    s : StopsAt (instr_at n) 8 n 22 (drop 22 bytes) f
    s = items_stop (instr_at n) 8 n 22 (drop 22 bytes) f e

    left : ℕ
    left = n - 1 - s.index

    place : ℕ
    place = 22 + 8 * s.index

    found : (Wrong : ℕ → ℕ → Row → Type 0) (at : ℕ) → at ≡ place → Wrong n left (row_here bytes place) → IsAtInstr bytes at Wrong
    found Wrong at same wrong = record {
      length = length_right bytes long;
      handlers = handlers;
      index = s.index;
      below = s.below;
      here = same;
      wrong = subst (λ (q : ℕ). Wrong n left (row_here bytes q)) (sym same) wrong;
      before = instrs_right bytes s.index fits s.before;
    }

    go : (g : CodeFault) → RowWrong n left place (row_here bytes place) g → IsFirstFault bytes g
    go (faults.Opcode at) h = found (λ count others r. HasWrongOpcode r) at h.0 h.1
    go (faults.Field at) h = found (λ count others r. HasWrongField r) at h.0 h.1
    go (faults.Target at) h = found (λ count others r. HasWrongTarget count others r) at h.0 h.1
    go (faults.Length at) h = absurd h
    go (faults.Handler at) h = absurd h
    go (faults.Memory m) h = absurd h

pub code_stops : (bytes : List ℕ) (f : CodeFault) → IsBytes bytes → code_at bytes ≡ Err f → IsFirstFault bytes f
unfolding code_at
code_stops bytes f fits e =
    let n = count_of bytes in
    elim (chosen (has_length bytes (length bytes) n) _ _ (Err f) e) [
      | inr h ↦ subst (IsFirstFault bytes) (err_is (faults.Length (length bytes)) f h.1) (length_wrong bytes h.0, refl)
      | inl h ↦
          let long = length_tested bytes h.0 in
          elim (bind_err (items_from (handler_at n) 2 10 2 (drop 2 bytes)) (λ handlers. items_from (instr_at n) 8 n 22 (drop 22 bytes) >>= λ instrs. Ok (record { instrs = instrs; handlers = handlers })) f h.1) [
            | inl a ↦ at_handler bytes f long a
            | inr a ↦ elim (bind_err (items_from (instr_at n) 8 n 22 (drop 22 bytes)) (λ instrs. Ok (record { instrs = instrs; handlers = a.0 })) f a.2) [
              | inl b ↦ at_instr bytes f fits long (handlers_right bytes 10 (items_read (handler_at n) 2 10 2 (drop 2 bytes) a.0 a.1)) b
              | inr b ↦ absurd (let wrong = b.2 in cc)
            ]
          ]
    ]

-- the fault that a reading ends with, unless memory ran out
pub fault_is_first : (bytes : List ℕ) (f : CodeFault) → IsBytes bytes → Fails f (code_at bytes) → UnlessMemory f (IsFirstFault bytes f)
fault_is_first bytes (faults.Length place) fits h = code_stops bytes (faults.Length place) fits h
fault_is_first bytes (faults.Handler place) fits h = code_stops bytes (faults.Handler place) fits h
fault_is_first bytes (faults.Opcode place) fits h = code_stops bytes (faults.Opcode place) fits h
fault_is_first bytes (faults.Field place) fits h = code_stops bytes (faults.Field place) fits h
fault_is_first bytes (faults.Target place) fits h = code_stops bytes (faults.Target place) fits h
fault_is_first bytes (faults.Memory m) fits h = tt

-- ---- there is one first fault at most
-- a fault at an instruction
record StopsThere (bytes : List ℕ) (f : CodeFault) : Type 0 where
  right_length : HasWrongLength bytes → ⊥
  handlers : (k : ℕ) → k < 10 → IsWrongEntry (word_at bytes 0) (word_at bytes (2 + 2 * k)) → ⊥
  index : ℕ
  below : index < word_at bytes 0
  wrong : RowWrong (word_at bytes 0) (word_at bytes 0 - 1 - index) (22 + 8 * index) (row_here bytes (22 + 8 * index)) f
  before : (k : ℕ) → k < index → HasInstr (word_at bytes 0) (word_at bytes 0 - 1 - k) (row_here bytes (22 + 8 * k))

-- the three places
abbrev Seen : List ℕ → CodeFault → Type 0
Seen bytes f = (HasWrongLength bytes × (f ≡ faults.Length (length bytes))) ⊎ (((place : ℕ) × (f ≡ faults.Handler place) × IsAtHandler bytes place) ⊎ StopsThere bytes f)

there : (bytes : List ℕ) (at : ℕ) (Wrong : ℕ → ℕ → Row → Type 0) (f : CodeFault) (s : IsAtInstr bytes at Wrong) → ((row : Row) → at ≡ 22 + 8 * s.index → Wrong (word_at bytes 0) (word_at bytes 0 - 1 - s.index) row → RowWrong (word_at bytes 0) (word_at bytes 0 - 1 - s.index) (22 + 8 * s.index) row f) → StopsThere bytes f
there bytes at Wrong f s same = record {
  right_length = s.length;
  handlers = s.handlers;
  index = s.index;
  below = s.below;
  wrong = same (row_here bytes (22 + 8 * s.index)) s.here (subst (λ (q : ℕ). Wrong (word_at bytes 0) (word_at bytes 0 - 1 - s.index) (row_here bytes q)) s.here s.wrong);
  before = s.before;
}

seen : (bytes : List ℕ) (f : CodeFault) → IsFirstFault bytes f → Seen bytes f
seen bytes (faults.Length place) h = inl (h.0, ap (λ (n : ℕ). faults.Length n) h.1)
seen bytes (faults.Handler place) h = inr (inl (place, refl, h))
seen bytes (faults.Opcode place) h = inr (inr (there bytes place (λ count left r. HasWrongOpcode r) (faults.Opcode place) h (λ row same wrong. (same, wrong))))
seen bytes (faults.Field place) h = inr (inr (there bytes place (λ count left r. HasWrongField r) (faults.Field place) h (λ row same wrong. (same, wrong))))
seen bytes (faults.Target place) h = inr (inr (there bytes place (λ count left r. HasWrongTarget count left r) (faults.Target place) h (λ row same wrong. (same, wrong))))
seen bytes (faults.Memory m) h = absurd h

row_clash : (count left place : ℕ) (r : Row) (f : CodeFault) → HasInstr count left r → RowWrong count left place r f → ⊥
row_clash count left place r (faults.Opcode at) x h = h.1 x.instr count x.stands.0 (sym (ap (λ (q : Row). q.code) x.fields))
row_clash count left place r (faults.Field at) x h = h.1.none x.instr count x.stands.0 x.fields
row_clash count left place r (faults.Target at) x h = h.1.stray x.instr x.fields x.stands
row_clash count left place r (faults.Length at) x h = h
row_clash count left place r (faults.Handler at) x h = h
row_clash count left place r (faults.Memory m) x h = h

row_same : (count left place : ℕ) (r : Row) (f g : CodeFault) → RowWrong count left place r f → RowWrong count left place r g → f ≡ g
row_same count left place r (faults.Opcode at) (faults.Opcode to) h k = ap (λ (n : ℕ). faults.Opcode n) (h.0 ∙ sym k.0)
row_same count left place r (faults.Field at) (faults.Field to) h k = ap (λ (n : ℕ). faults.Field n) (h.0 ∙ sym k.0)
row_same count left place r (faults.Target at) (faults.Target to) h k = ap (λ (n : ℕ). faults.Target n) (h.0 ∙ sym k.0)
row_same count left place r (faults.Opcode at) (faults.Field to) h k = absurd (h.1 k.1.instr k.1.count k.1.fits k.1.opcode)
row_same count left place r (faults.Field at) (faults.Opcode to) h k = absurd (k.1 h.1.instr h.1.count h.1.fits h.1.opcode)
row_same count left place r (faults.Opcode at) (faults.Target to) h k = absurd (h.1 k.1.instr k.1.among k.1.fits (sym (ap (λ (q : Row). q.code) k.1.fields)))
row_same count left place r (faults.Target at) (faults.Opcode to) h k = absurd (k.1 h.1.instr h.1.among h.1.fits (sym (ap (λ (q : Row). q.code) h.1.fields)))
row_same count left place r (faults.Field at) (faults.Target to) h k = absurd (h.1.none k.1.instr k.1.among k.1.fits k.1.fields)
row_same count left place r (faults.Target at) (faults.Field to) h k = absurd (k.1.none h.1.instr h.1.among h.1.fits h.1.fields)
row_same count left place r (faults.Length at) g h k = absurd h
row_same count left place r (faults.Handler at) g h k = absurd h
row_same count left place r (faults.Memory m) g h k = absurd h
row_same count left place r (faults.Opcode at) g h k = absurd k
row_same count left place r (faults.Field at) g h k = absurd k
row_same count left place r (faults.Target at) g h k = absurd k

one_instr : (bytes : List ℕ) (f g : CodeFault) → StopsThere bytes f → StopsThere bytes g → f ≡ g
one_instr bytes f g s t = elim (cases_order s.index t.index) [
  | inl same ↦ row_same (word_at bytes 0) (word_at bytes 0 - 1 - t.index) (22 + 8 * t.index) (row_here bytes (22 + 8 * t.index)) f g (subst (λ (k : ℕ). RowWrong (word_at bytes 0) (word_at bytes 0 - 1 - k) (22 + 8 * k) (row_here bytes (22 + 8 * k)) f) same s.wrong) t.wrong
  | inr (inl less) ↦ absurd (row_clash (word_at bytes 0) (word_at bytes 0 - 1 - s.index) (22 + 8 * s.index) (row_here bytes (22 + 8 * s.index)) f (t.before s.index less) s.wrong)
  | inr (inr more) ↦ absurd (row_clash (word_at bytes 0) (word_at bytes 0 - 1 - t.index) (22 + 8 * t.index) (row_here bytes (22 + 8 * t.index)) g (s.before t.index more) t.wrong)
]

entry_here : (bytes : List ℕ) (place : ℕ) (s : IsAtHandler bytes place) → IsWrongEntry (word_at bytes 0) (word_at bytes (2 + 2 * s.index))
entry_here bytes place s = subst (λ (q : ℕ). IsWrongEntry (word_at bytes 0) (word_at bytes q)) s.here s.wrong

one_handler : (bytes : List ℕ) (p q : ℕ) → IsAtHandler bytes p → IsAtHandler bytes q → p ≡ q
one_handler bytes p q s t = elim (cases_order s.index t.index) [
  | inl same ↦ s.here ∙ ap (λ (k : ℕ). 2 + 2 * k) same ∙ sym t.here
  | inr (inl less) ↦ absurd (t.before s.index less (entry_here bytes p s))
  | inr (inr more) ↦ absurd (s.before t.index more (entry_here bytes q t))
]

one_seen : (bytes : List ℕ) (f g : CodeFault) → Seen bytes f → Seen bytes g → f ≡ g
one_seen bytes f g (inl h) (inl k) = h.1 ∙ sym k.1
one_seen bytes f g (inl h) (inr (inl k)) = absurd (k.2.length h.0)
one_seen bytes f g (inl h) (inr (inr k)) = absurd (k.right_length h.0)
one_seen bytes f g (inr (inl h)) (inl k) = absurd (h.2.length k.0)
one_seen bytes f g (inr (inl h)) (inr (inl k)) = h.1 ∙ ap (λ (n : ℕ). faults.Handler n) (one_handler bytes h.0 k.0 h.2 k.2) ∙ sym k.1
one_seen bytes f g (inr (inl h)) (inr (inr k)) = absurd (k.handlers h.2.index h.2.below (entry_here bytes h.0 h.2))
one_seen bytes f g (inr (inr h)) (inl k) = absurd (h.right_length k.0)
one_seen bytes f g (inr (inr h)) (inr (inl k)) = absurd (h.handlers k.2.index k.2.below (entry_here bytes k.0 k.2))
one_seen bytes f g (inr (inr h)) (inr (inr k)) = one_instr bytes f g h k

-- ---- bytes that are read have none
-- all of them is right
record IsRight (bytes : List ℕ) : Type 0 where
  long : HasLength bytes
  handlers : (k : ℕ) → k < 10 → IsWrongEntry (word_at bytes 0) (word_at bytes (2 + 2 * k)) → ⊥
  instrs : (k : ℕ) → k < word_at bytes 0 → HasInstr (word_at bytes 0) (word_at bytes 0 - 1 - k) (row_here bytes (22 + 8 * k))

code_right : (bytes : List ℕ) (code : Code) → IsBytes bytes → code_at bytes ≡ Ok code → IsRight bytes
unfolding code_at
code_right bytes code fits e =
    let n = count_of bytes in
    elim (chosen (has_length bytes (length bytes) n) _ _ (Ok code) e) [
      | inl h ↦
          let a = bind_ok (items_from (handler_at n) 2 10 2 (drop 2 bytes)) (λ handlers. items_from (instr_at n) 8 n 22 (drop 22 bytes) >>= λ instrs. Ok (record { instrs = instrs; handlers = handlers })) code h.1 in
          let b = bind_ok (items_from (instr_at n) 8 n 22 (drop 22 bytes)) (λ instrs. Ok (record { instrs = instrs; handlers = a.0 })) code a.2 in
          record {
            long = length_tested bytes h.0;
            handlers = handlers_right bytes 10 (items_read (handler_at n) 2 10 2 (drop 2 bytes) a.0 a.1);
            instrs = instrs_right bytes n fits (items_read (instr_at n) 8 n 22 (drop 22 bytes) b.0 b.1);
          }
      | inr h ↦ absurd (let wrong = h.1 in cc)
    ]

none_seen : (bytes : List ℕ) (f : CodeFault) → IsRight bytes → Seen bytes f → ⊥
none_seen bytes f right (inl h) = length_right bytes right.long h.0
none_seen bytes f right (inr (inl h)) = right.handlers h.2.index h.2.below (entry_here bytes h.0 h.2)
none_seen bytes f right (inr (inr h)) = row_clash (word_at bytes 0) (word_at bytes 0 - 1 - h.index) (22 + 8 * h.index) (row_here bytes (22 + 8 * h.index)) f (right.instrs h.index h.below) h.wrong

-- the first fault is what a reading ends with
pub first_is_fault : (bytes : List ℕ) (f : CodeFault) → IsBytes bytes → IsFirstFault bytes f → code_at bytes ≡ Err f
first_is_fault bytes f fits h = go (code_at bytes) refl
  where
    go : (read : Result Code CodeFault) → code_at bytes ≡ read → read ≡ Err f
    go (Ok code) is = absurd (none_seen bytes f (code_right bytes code fits is) (seen bytes f h))
    go (Err g) is = ap (λ (x : CodeFault). Err x) (one_seen bytes g f (seen bytes g (code_stops bytes g fits is)) (seen bytes f h))
