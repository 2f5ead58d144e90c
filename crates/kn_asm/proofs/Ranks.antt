-- Where the labels of a printed program stand: they rise in rank, by index, then handlers before targets.
use Rattle.std.proofs.Common.{◌≡◌, ◌≢◌, ℕ, zero, suc, ◌+◌, ◌*◌, ◌<◌, ◌≤◌, Bool, true, false, List, [], ◌∷◌, length, get_or, drop, Option, Some, None, refl, sym, ap, subst, ◌∙◌, inl, inr, arith}
use Rattle.std.specs.Prelude.{◌==◌, slice_index, slice_index_or, if◌then◌else◌, bytes_eq}
use Rattle.std.specs.List.{list_any}
use Rattle.std.specs.Str.Parse.{digits_value}
use Rattle.std.proofs.lemmas.Bool.{cases_Bool, cases_eq, eq-eqb, eqb-true, false_from_ne_true}
use Rattle.std.proofs.lemmas.Fmt.{decimal_is_IsNumeral}
use Rattle.std.proofs.lemmas.Slice.Eq.{bytes_eq-Decides}
use Rattle.kn_code.specs.declared.program.Instr.{Instr}
use Rattle.kn_asm.specs.Lines.{Line, counted_lem}
use Rattle.kn_asm.specs.Assembling.{has_label, place_from, handler_names}
use Rattle.kn_asm.specs.Printing.{label_text, goes_to, is_at}
use Rattle.kn_asm.proofs.PrintedLines.{instr_entry}
use Rattle.kn_asm.proofs.Entries.{label_when, handler_name, handler_entries, entries, handler_named}

-- ---- ranks

-- the number of a handler's name
abbrev name_place : List ℕ → List (List ℕ) → ℕ
name_place q [] = 0
name_place q (w ∷ ws) = if bytes_eq q w then 0 else suc (name_place q ws)

number_again : (n : ℕ) → n < 10 → name_place (handler_name n) handler_names ≡ n
number_again zero lt = refl
number_again (suc zero) lt = refl
number_again (suc (suc zero)) lt = refl
number_again (suc (suc (suc zero))) lt = refl
number_again (suc (suc (suc (suc zero)))) lt = refl
number_again (suc (suc (suc (suc (suc zero))))) lt = refl
number_again (suc (suc (suc (suc (suc (suc zero)))))) lt = refl
number_again (suc (suc (suc (suc (suc (suc (suc zero))))))) lt = refl
number_again (suc (suc (suc (suc (suc (suc (suc (suc zero)))))))) lt = refl
number_again (suc (suc (suc (suc (suc (suc (suc (suc (suc zero))))))))) lt = refl
number_again (suc (suc (suc (suc (suc (suc (suc (suc (suc (suc n)))))))))) lt = absurd (omega (arith, lt))

abbrev after_entry : Option ℕ → ℕ
after_entry None = 0
after_entry (Some e) = suc e

abbrev handler_rank : List (Option ℕ) → ℕ → ℕ
handler_rank handlers n = 11 * after_entry (slice_index_or handlers n None) + n

abbrev pub rank : List (Option ℕ) → List ℕ → ℕ
rank handlers q = if slice_index q 0 == 76 then 11 * suc (digits_value 10 (drop 1 q)) + 10 else handler_rank handlers (name_place q handler_names)

pub label_rank : (handlers : List (Option ℕ)) (k : ℕ) → k < 65536 → rank handlers (label_text k) ≡ 11 * suc k + 10
label_rank handlers k lt = ap (λ (n : ℕ). 11 * suc n + 10) (decimal_is_IsNumeral k (omega arith)).1

pub name_rank : (handlers : List (Option ℕ)) (n : ℕ) → n < 10 → rank handlers (handler_name n) ≡ 11 * after_entry (slice_index_or handlers n None) + n
name_rank handlers n lt = rw (handler_named n lt).apart (ap (handler_rank handlers) (number_again n lt))

-- ---- the labels of lines

abbrev pub OnLabel : (List ℕ → Type 0) → Option (List ℕ) → Type 0
OnLabel P None = Unit {0}
OnLabel P (Some w) = P w

abbrev pub AllLabels : (List ℕ → Type 0) → List Line → Type 0
AllLabels P [] = Unit {0}
AllLabels P (l ∷ ls) = OnLabel P l.label × AllLabels P ls

no_label : (f : List ℕ → ℕ) (q : List ℕ) (o : Option (List ℕ)) → OnLabel (λ w. f w ≢ f q) o → has_label q o ≡ false
no_label f q None h = refl
no_label f q (Some w) h = false_from_ne_true _ (λ same. h (ap f (sym ((bytes_eq-Decides q w).0 same))))

-- a name that ranks otherwise than each label has no place
pub nowhere : (f : List ℕ → ℕ) (q : List ℕ) (index : ℕ) (ls : List Line) → AllLabels (λ w. f w ≢ f q) ls → place_from q index ls ≡ None
unfolding place_from
nowhere f q index [] h = refl
nowhere f q index (l ∷ ls) h = rw (no_label f q l.label h.0) (nowhere f q (index + counted_lem l.content) ls h.1)

-- ---- one label

same_index : (q : List ℕ) (index : ℕ) (ls : List Line) → place_from q (index + 0) ls ≡ place_from q index ls
same_index q index ls = ap (λ (n : ℕ). place_from q n ls) (zero_more index)
  where
    zero_more : (n : ℕ) → n + 0 ≡ n
    zero_more n = omega arith

place_other : (b : Bool) (q w : List ℕ) (index : ℕ) (ls : List Line) → (b ≡ true → bytes_eq q w ≡ false) → place_from q index (label_when b w ls) ≡ place_from q index ls
unfolding place_from
place_other false q w index ls h = refl
place_other true q w index ls h = rw (h refl) (same_index q index ls)

place_keeps : (b : Bool) (q w : List ℕ) (index : ℕ) (ls : List Line) → place_from q index ls ≡ Some index → place_from q index (label_when b w ls) ≡ Some index
unfolding place_from
place_keeps false q w index ls h = h
place_keeps true q w index ls h = elim (cases_Bool (bytes_eq q w)) [ inl y ↦ rw y refl | inr n ↦ rw n (same_index q index ls ∙ h) ]

place_hit : (b : Bool) (q : List ℕ) (index : ℕ) (ls : List Line) → b ≡ true → place_from q index (label_when b q ls) ≡ Some index
unfolding place_from
place_hit false q index ls h = absurd cc
place_hit true q index ls h = rw ((bytes_eq-Decides q q).1 refl) refl

differ : (f : List ℕ → ℕ) (q w : List ℕ) → f w ≢ f q → bytes_eq q w ≡ false
differ f q w h = false_from_ne_true _ (λ same. h (ap f (sym ((bytes_eq-Decides q w).0 same))))

-- ---- the handlers' labels

-- the handlers from one on
pub record Along (handlers : List (Option ℕ)) (number : ℕ) (es : List (Option ℕ)) : Type 0 where
  pub ten : number + length es ≡ 10
  pub at : (j : ℕ) → get_or es j None ≡ get_or handlers (number + j) None

pub along_all : (handlers : List (Option ℕ)) → length handlers ≡ 10 → Along handlers 0 handlers
along_all handlers ten = record { ten = omega (arith, ten); at = λ j. ap (λ (k : ℕ). get_or handlers k None) (from_zero j) }
  where
    from_zero : (j : ℕ) → j ≡ 0 + j
    from_zero j = omega arith

pub along_next : (handlers : List (Option ℕ)) (number : ℕ) (e : Option ℕ) (es : List (Option ℕ)) → Along handlers number (e ∷ es) → Along handlers (number + 1) es
along_next handlers number e es h = record { ten = let t = h.ten in omega (arith, t); at = λ j. h.at (suc j) ∙ ap (λ (k : ℕ). get_or handlers k None) (move j) }
  where
    move : (j : ℕ) → number + suc j ≡ number + 1 + j
    move j = omega arith

along_here : (handlers : List (Option ℕ)) (number : ℕ) (e : Option ℕ) (es : List (Option ℕ)) → Along handlers number (e ∷ es) → get_or handlers number None ≡ e
along_here handlers number e es h = ap (λ (k : ℕ). get_or handlers k None) (plus_zero number) ∙ sym (h.at 0)
  where
    plus_zero : (n : ℕ) → n ≡ n + 0
    plus_zero n = omega arith

below_ten : (number left : ℕ) → number + suc left ≡ 10 → number < 10
below_ten number left e = omega (arith, e)

at_index : (index : ℕ) (e : Option ℕ) → is_at index e ≡ true → e ≡ Some index
at_index index None h = absurd cc
at_index index (Some x) h = ap (λ (n : ℕ). Some n) (eqb-true x index h)

pub rank_here : (handlers : List (Option ℕ)) (index number : ℕ) (e : Option ℕ) (es : List (Option ℕ)) → Along handlers number (e ∷ es) → is_at index e ≡ true
    → rank handlers (handler_name number) ≡ 11 * suc index + number
rank_here handlers index number e es h is =
    name_rank handlers number (below_ten number (length es) h.ten) ∙ ap (λ (o : Option ℕ). 11 * after_entry o + number) (along_here handlers number e es h ∙ at_index index e is)

-- a rank that no label of an index has
abbrev Outside : ℕ → ℕ → Type 0
Outside r index = (n : ℕ) → n ≤ 10 → r ≢ 11 * suc index + n

skip_handlers : (handlers : List (Option ℕ)) (q : List ℕ) (index number : ℕ) (es : List (Option ℕ)) (ls : List Line) → Along handlers number es → Outside (rank handlers q) index
    → place_from q index (handler_entries index number es ls) ≡ place_from q index ls
skip_handlers handlers q index number [] ls h out = refl
skip_handlers handlers q index number (e ∷ es) ls h out =
    let lt : number < 10 = below_ten number (length es) h.ten in
    place_other (is_at index e) q (handler_name number) index (handler_entries index (number + 1) es ls)
    (λ y. differ (rank handlers) q (handler_name number) (λ same. out number (omega (arith, lt)) (sym same ∙ rank_here handlers index number e es h y)))
    ∙ skip_handlers handlers q index (number + 1) es ls (along_next handlers number e es h) out

skip_block : (all : List Instr) (handlers : List (Option ℕ)) (q : List ℕ) (index : ℕ) (i : Instr) (is : List Instr) → length handlers ≡ 10 → index < 65536 → Outside (rank handlers q) index
    → place_from q index (entries all handlers index (i ∷ is)) ≡ place_from q (index + 1) (entries all handlers (index + 1) is)
unfolding place_from
skip_block all handlers q index i is ten lt out =
    skip_handlers handlers q index 0 handlers _ (along_all handlers ten) out
    ∙ place_other (list_any (goes_to index) all) q (label_text index) index (instr_entry i ∷ entries all handlers (index + 1) is)
    (λ y. differ (rank handlers) q (label_text index) (λ same. out 10 (omega arith) (sym same ∙ label_rank handlers index lt)))

keep_handlers : (q : List ℕ) (index number : ℕ) (es : List (Option ℕ)) (ls : List Line) → place_from q index ls ≡ Some index → place_from q index (handler_entries index number es ls) ≡ Some index
keep_handlers q index number [] ls h = h
keep_handlers q index number (e ∷ es) ls h = place_keeps (is_at index e) q (handler_name number) index (handler_entries index (number + 1) es ls) (keep_handlers q index (number + 1) es ls h)

hit_handler : (handlers : List (Option ℕ)) (n index number : ℕ) (es : List (Option ℕ)) (ls : List Line) → number ≤ n → n < 10 → Along handlers number es → get_or handlers n None ≡ Some index
    → place_from (handler_name n) index (handler_entries index number es ls) ≡ Some index
hit_handler handlers n index number [] ls low lt h is = let t : number + 0 ≡ 10 = h.ten in absurd (omega (arith, t, low, lt))
hit_handler handlers n index number (e ∷ es) ls low lt h is =
    elim (cases_eq number n) [
      | inl same ↦
          let here : is_at index e ≡ true = ap (is_at index) (sym (along_here handlers number e es h) ∙ ap (λ (k : ℕ). get_or handlers k None) same ∙ is) ∙ eq-eqb index index refl in
          subst (λ (k : ℕ). place_from (handler_name k) index (label_when (is_at index e) (handler_name number) (handler_entries index (number + 1) es ls)) ≡ Some index) same
          (place_hit (is_at index e) (handler_name number) index (handler_entries index (number + 1) es ls) here)
      | inr differs ↦
          place_keeps (is_at index e) (handler_name n) (handler_name number) index (handler_entries index (number + 1) es ls)
          (hit_handler handlers n index (number + 1) es ls (omega (arith, low, differs)) lt (along_next handlers number e es h) is)
    ]

-- ---- the places

outside : (r rest k index : ℕ) → r ≡ 11 * suc k + rest → rest ≤ 10 → index < k → Outside r index
outside r rest k index is few lt n le same = omega (arith, is, few, lt, le, same)

found_at : (all : List Instr) (handlers : List (Option ℕ)) (q : List ℕ) (k rest index : ℕ) (is : List Instr) → length handlers ≡ 10 → rank handlers q ≡ 11 * suc k + rest → rest ≤ 10
    → ((ls : List Line) → place_from q k (handler_entries k 0 handlers (label_when (list_any (goes_to k) all) (label_text k) ls)) ≡ Some k)
    → index ≤ k → k < index + length is → index + length is ≤ 4096 → place_from q index (entries all handlers index is) ≡ Some k
found_at all handlers q k rest index [] ten is_rank few here low high room = absurd (omega (arith, low, high))
found_at all handlers q k rest index (i ∷ is) ten is_rank few here low high room =
    elim (cases_eq index k) [
      | inl same ↦
          subst (λ (n : ℕ). place_from q n (handler_entries n 0 handlers (label_when (list_any (goes_to n) all) (label_text n) (instr_entry i ∷ entries all handlers (index + 1) is))) ≡ Some k) (sym same)
          (here (instr_entry i ∷ entries all handlers (index + 1) is))
      | inr differs ↦
          skip_block all handlers q index i is ten (omega (arith, room)) (outside (rank handlers q) rest k index is_rank few (omega (arith, low, differs)))
          ∙ found_at all handlers q k rest (index + 1) is ten is_rank few here (omega (arith, low, differs)) (omega (arith, high)) (omega (arith, room))
    ]

found_none : (all : List Instr) (handlers : List (Option ℕ)) (q : List ℕ) (index : ℕ) (is : List Instr) → length handlers ≡ 10 → rank handlers q < 11 → index + length is ≤ 4096
    → place_from q index (entries all handlers index is) ≡ None
unfolding place_from
found_none all handlers q index [] ten low room = refl
found_none all handlers q index (i ∷ is) ten low room =
    skip_block all handlers q index i is ten (omega (arith, room)) (λ n le same. omega (arith, low, same))
    ∙ found_none all handlers q (index + 1) is ten low (omega (arith, room))

-- the label of a target stands at its index
pub label_found : (all : List Instr) (handlers : List (Option ℕ)) (k : ℕ) (is : List Instr) → length handlers ≡ 10 → length is ≤ 4096 → k < length is → list_any (goes_to k) all ≡ true
    → place_from (label_text k) 0 (entries all handlers 0 is) ≡ Some k
label_found all handlers k is ten room lt named =
    found_at all handlers (label_text k) k 10 0 is ten (label_rank handlers k (omega (arith, lt, room))) (omega arith)
    (λ ls. keep_handlers (label_text k) k 0 handlers _ (place_hit (list_any (goes_to k) all) (label_text k) k ls named))
    (omega arith) (omega (arith, lt)) (omega (arith, room))

-- a handler's label stands at its entry, if it has one
pub handler_found : (all : List Instr) (handlers : List (Option ℕ)) (n : ℕ) (is : List Instr) (o : Option ℕ) → length handlers ≡ 10 → length is ≤ 4096 → n < 10 → get_or handlers n None ≡ o
    → ((e : ℕ) → o ≡ Some e → e < length is) → place_from (handler_name n) 0 (entries all handlers 0 is) ≡ o
handler_found all handlers n is None ten room lt at below =
    let r : rank handlers (handler_name n) ≡ 11 * 0 + n = name_rank handlers n lt ∙ ap (λ (o : Option ℕ). 11 * after_entry o + n) at in
    found_none all handlers (handler_name n) 0 is ten (omega (arith, r, lt)) (omega (arith, room))
handler_found all handlers n is (Some k) ten room lt at below =
    let small : k < length is = below k refl in
    found_at all handlers (handler_name n) k n 0 is ten (name_rank handlers n lt ∙ ap (λ (o : Option ℕ). 11 * after_entry o + n) at) (omega (arith, lt))
    (λ ls. hit_handler handlers n k 0 handlers _ (omega arith) lt (along_all handlers ten) at)
    (omega arith) (omega (arith, small)) (omega (arith, room))
