-- The first line with a fault, line after line.
use Rattle.std.proofs.Common.{◌≡◌, ℕ, suc, ◌+◌, ◌-◌, ◌<◌, Bool, eqb, List, [], ◌∷◌, ◌++◌, length, get_or, take, drop, drop-cons, Option, Some, None, refl, sym, ap, ◌∙◌, inl, inr, arith, add-one, length-drop}
use Rattle.std.proofs.lemmas.Bool.{cases_eq, eq-eqb, ne_eqb}
use Rattle.std.proofs.lemmas.List.{take_more, length-take-le}
use Rattle.kn_asm.specs.declared.fault.AsmCause.{AsmCause}
use Rattle.kn_asm.specs.declared.fault.AsmFault.{AsmFault}
use Rattle.kn_asm.specs.declared.fault.AsmFault.TheVariants as faults
use Rattle.kn_asm.specs.Lines.{Line, counted_lem, target_of_lem}
use Rattle.kn_asm.specs.Assembling.{instrs_in, place_from, place_of, is_twice, is_lost, fault_given_lem, fault_of, refused, first_fault_from}
use Rattle.kn_asm.specs.Tables.{first_place, label_at}
use Rattle.kn_asm.proofs.Places.{place_first, first_none, first_assoc}

-- ---- the table of the lines so far

pub place_nothing : (q : List ℕ) → place_of [] q ≡ None
unfolding place_from
place_nothing q = refl

pub instrs_more : (ls : List Line) (l : Line) → instrs_in (ls ++ l ∷ []) ≡ instrs_in ls + counted_lem l.content
instrs_more [] l = omega arith
instrs_more (x ∷ ls) l = let h = instrs_more ls l in omega (arith, h)

place_more : (q : List ℕ) (index : ℕ) (ls : List Line) (l : Line) → place_from q index (ls ++ l ∷ []) ≡ first_place (place_from q index ls) (label_at q l.label (index + instrs_in ls))
unfolding place_from
place_more q index [] l =
    place_first q index l [] l.label refl ∙ first_none (label_at q l.label index) ∙ ap (label_at q l.label) (omega arith)
place_more q index (x ∷ ls) l =
    let n : index + counted_lem x.content + instrs_in ls ≡ index + (counted_lem x.content + instrs_in ls) = omega arith in
    place_first q index x (ls ++ l ∷ []) x.label refl
    ∙ ap (first_place (label_at q x.label index)) (place_more q (index + counted_lem x.content) ls l ∙ ap (λ (k : ℕ). first_place (place_from q (index + counted_lem x.content) ls) (label_at q l.label k)) n)
    ∙ sym (first_assoc (label_at q x.label index) (place_from q (index + counted_lem x.content) ls) (label_at q l.label (index + (counted_lem x.content + instrs_in ls))))
    ∙ ap (λ (o : Option ℕ). first_place o (label_at q l.label (index + (counted_lem x.content + instrs_in ls)))) (sym (place_first q index x ls x.label refl))

taken : (all : List Line) (i : ℕ) (l : Line) → i < length all → l ≡ get_or all i l → take (i + 1) all ≡ take i all ++ l ∷ []
taken all i l lt at = take_more all i l lt ∙ ap (λ (x : Line). take i all ++ x ∷ []) (sym at)

left : (all : List Line) (i : ℕ) (l : Line) → i < length all → l ≡ get_or all i l → drop i all ≡ l ∷ drop (i + 1) all
left all i l lt at = drop-cons all i l lt ∙ ap (λ (x : Line). x ∷ drop (suc i) all) (sym at) ∙ ap (λ (k : ℕ). l ∷ drop k all) (sym (add-one i))

pub known_more : (q : List ℕ) (all : List Line) (i before : ℕ) (l : Line) (old new : Option ℕ) → i < length all → l ≡ get_or all i l → before ≡ instrs_in (take i all)
    → old ≡ place_of (take i all) q → new ≡ first_place old (label_at q l.label before) → new ≡ place_of (take (i + 1) all) q
known_more q all i before l old new lt at here is_old is_new =
    let start : 0 + instrs_in (take i all) ≡ instrs_in (take i all) = omega arith in
    is_new ∙ ap (λ (o : Option ℕ). first_place o (label_at q l.label before)) is_old
    ∙ ap (λ (k : ℕ). first_place (place_of (take i all) q) (label_at q l.label k)) here
    ∙ sym (ap (λ (ls : List Line). place_of ls q) (taken all i l lt at) ∙ place_more q 0 (take i all) l ∙ ap (λ (k : ℕ). first_place (place_of (take i all) q) (label_at q l.label k)) start)

pub here_more : (all : List Line) (i before count : ℕ) (l : Line) → i < length all → l ≡ get_or all i l → before ≡ instrs_in (take i all) → count ≡ counted_lem l.content
    → before + count ≡ instrs_in (take (i + 1) all)
here_more all i before count l lt at here is_count =
    let e : instrs_in (take (i + 1) all) ≡ instrs_in (take i all) + counted_lem l.content = ap instrs_in (taken all i l lt at) ∙ instrs_more (take i all) l in
    omega (arith, e, here, is_count)

pub left_more : (all : List Line) (i before count total : ℕ) (l : Line) → i < length all → l ≡ get_or all i l → before + instrs_in (drop i all) ≡ total → count ≡ counted_lem l.content
    → before + count + instrs_in (drop (i + 1) all) ≡ total
left_more all i before count total l lt at is_total is_count =
    let e : instrs_in (drop i all) ≡ counted_lem l.content + instrs_in (drop (i + 1) all) = ap instrs_in (left all i l lt at) in
    omega (arith, e, is_total, is_count)

-- ---- the fault of the next line

twice_same : (f g : List ℕ → Option ℕ) (label : Option (List ℕ)) → ((q : List ℕ) → f q ≡ g q) → is_twice f label ≡ is_twice g label
twice_same f g None same = refl
twice_same f g (Some name) same = rw (same name) refl

lost_same : (f g : List ℕ → Option ℕ) (label : Option (List ℕ)) → ((q : List ℕ) → f q ≡ g q) → is_lost f label ≡ is_lost g label
lost_same f g None same = refl
lost_same f g (Some name) same = rw (same name) refl

last_is : (all : List Line) (i : ℕ) → i < length all → eqb (i + 1) (length all) ≡ eqb (length (drop (i + 1) all)) 0
last_is all i lt =
    let e : length (drop (i + 1) all) ≡ length all - (i + 1) = length-drop (i + 1) all in
    elim (cases_eq (i + 1) (length all)) [
      | inl same ↦ eq-eqb (i + 1) (length all) same ∙ sym (eq-eqb (length (drop (i + 1) all)) 0 (omega (arith, e, same)))
      | inr other ↦ ne_eqb (i + 1) (length all) other ∙ sym (ne_eqb (length (drop (i + 1) all)) 0 (λ none. other (omega (arith, e, none, lt))))
    ]

-- what is known where a loop comes to a line
pub record AtLine (all : List Line) (i : ℕ) (l : Line) (labels seen : List ℕ → Option ℕ) (before count total : ℕ) : Type 0 where
  pub below : i < length all
  pub here : l ≡ get_or all i l
  pub found : (q : List ℕ) → labels q ≡ place_of all q
  pub known : (q : List ℕ) → seen q ≡ place_of (take i all) q
  pub so_far : before ≡ instrs_in (take i all)
  pub counted : count ≡ counted_lem l.content
  pub left : before + instrs_in (drop i all) ≡ total

fault_is : (all : List Line) (i : ℕ) (l : Line) (labels seen : List ℕ → Option ℕ) (before count total : ℕ) (twice lost : Bool) → AtLine all i l labels seen before count total
    → twice ≡ is_twice seen l.label → lost ≡ is_lost labels (target_of_lem l.content)
    → fault_given_lem l twice lost before (total - before - count) (eqb (i + 1) (length all)) ≡ fault_of all (take i all) l (drop (i + 1) all)
fault_is all i l labels seen before count total twice lost at is_t is_l =
    let a : total - before - count ≡ instrs_in (drop (i + 1) all) =
    let e : before + count + instrs_in (drop (i + 1) all) ≡ total = left_more all i before count total l at.below at.here at.left at.counted in omega (arith, e) in
    ap (λ (b : Bool). fault_given_lem l b lost before (total - before - count) (eqb (i + 1) (length all))) (is_t ∙ twice_same seen (place_of (take i all)) l.label at.known)
    ∙ ap (λ (b : Bool). fault_given_lem l (is_twice (place_of (take i all)) l.label) b before (total - before - count) (eqb (i + 1) (length all))) (is_l ∙ lost_same labels (place_of all) (target_of_lem l.content) at.found)
    ∙ ap (λ (n : ℕ). fault_given_lem l (is_twice (place_of (take i all)) l.label) (is_lost (place_of all) (target_of_lem l.content)) n (total - before - count) (eqb (i + 1) (length all))) at.so_far
    ∙ ap (λ (n : ℕ). fault_given_lem l (is_twice (place_of (take i all)) l.label) (is_lost (place_of all) (target_of_lem l.content)) (instrs_in (take i all)) n (eqb (i + 1) (length all))) a
    ∙ ap (λ (b : Bool). fault_given_lem l (is_twice (place_of (take i all)) l.label) (is_lost (place_of all) (target_of_lem l.content)) (instrs_in (take i all)) (instrs_in (drop (i + 1) all)) b) (last_is all i at.below)

fault_step : (all : List Line) (i : ℕ) (l : Line) (fault : Option AsmCause) (total : Option AsmFault) → i < length all → l ≡ get_or all i l → fault ≡ fault_of all (take i all) l (drop (i + 1) all)
    → first_fault_from all (take i all) (drop i all) ≡ total → refused (i + 1) fault (first_fault_from all (take (i + 1) all) (drop (i + 1) all)) ≡ total
fault_step all i l fault total lt at is_fault before =
    let n : length (take i all) ≡ i = length-take-le i all (omega (arith, lt)) in
    ap (λ (f : Option AsmCause). refused (i + 1) f (first_fault_from all (take (i + 1) all) (drop (i + 1) all))) is_fault
    ∙ ap (λ (ls : List Line). refused (i + 1) (fault_of all (take i all) l (drop (i + 1) all)) (first_fault_from all ls (drop (i + 1) all))) (taken all i l lt at)
    ∙ sym (ap (first_fault_from all (take i all)) (left all i l lt at)
    ∙ ap (λ (k : ℕ). refused (k + 1) (fault_of all (take i all) l (drop (i + 1) all)) (first_fault_from all (take i all ++ l ∷ []) (drop (i + 1) all))) n)
    ∙ before

pub line_refused : (all : List Line) (i : ℕ) (l : Line) (labels seen : List ℕ → Option ℕ) (before count total : ℕ) (twice lost : Bool) (fault : Option AsmCause) (cause : AsmCause) (first : Option AsmFault)
    → AtLine all i l labels seen before count total → twice ≡ is_twice seen l.label → lost ≡ is_lost labels (target_of_lem l.content)
    → fault ≡ fault_given_lem l twice lost before (total - before - count) (eqb (i + 1) (length all)) → fault ≡ Some cause
    → first_fault_from all (take i all) (drop i all) ≡ first → Some (faults.Refused (i + 1) cause) ≡ first
line_refused all i l labels seen before count total twice lost fault cause first at is_t is_l is_fault some so_far =
    sym (ap (λ (f : Option AsmCause). refused (i + 1) f (first_fault_from all (take (i + 1) all) (drop (i + 1) all))) some)
    ∙ fault_step all i l fault first at.below at.here (is_fault ∙ fault_is all i l labels seen before count total twice lost at is_t is_l) so_far

pub line_passed : (all : List Line) (i : ℕ) (l : Line) (labels seen : List ℕ → Option ℕ) (before count total : ℕ) (twice lost : Bool) (fault : Option AsmCause) (first : Option AsmFault)
    → AtLine all i l labels seen before count total → twice ≡ is_twice seen l.label → lost ≡ is_lost labels (target_of_lem l.content)
    → fault ≡ fault_given_lem l twice lost before (total - before - count) (eqb (i + 1) (length all)) → fault ≡ None
    → first_fault_from all (take i all) (drop i all) ≡ first → first_fault_from all (take (i + 1) all) (drop (i + 1) all) ≡ first
line_passed all i l labels seen before count total twice lost fault first at is_t is_l is_fault none so_far =
    sym (ap (λ (f : Option AsmCause). refused (i + 1) f (first_fault_from all (take (i + 1) all) (drop (i + 1) all))) none)
    ∙ fault_step all i l fault first at.below at.here (is_fault ∙ fault_is all i l labels seen before count total twice lost at is_t is_l) so_far
