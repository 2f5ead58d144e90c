-- Words of memory, read and written at an index, place by place.
use Rattle.std.proofs.Common.{◌≡◌, ℕ, ◌+◌, ◌-◌, ◌<◌, ◌≤◌, List, [], ◌∷◌, ◌++◌, length, take, drop, set, ap, sym, subst, ◌∙◌, arith}
use Rattle.std.specs.Prelude.{slice_index_or, slice_set}
use Rattle.std.proofs.lemmas.List.{append-nil, append_assoc, length-map, length-take, length-take-le, length-drop, get_or-take, get_or-drop, take-append-drop, drop_more, drop_all, take_more_set, drop-set-lt, drop-take, drop-drop}
use Rattle.kn_word.specs.declared.Op.TheVariants as ops
use Rattle.kn_term.specs.declared.node.Node.{Node}
use Rattle.kn_term.specs.declared.node.Ref.{Ref}
use Rattle.kn_term.specs.Nodes.{term_at}
use Rattle.kn_term.specs.Terms.{Term, Word, Apply, Choice}
use Rattle.kn_model.specs.Terms.{terms}
use Rattle.kn_model.specs.Rows.{Way, element, with_element, with_memory, span}
use Rattle.kn_model.specs.Alikes.{OneByOne, TermAlike, ConditionAlike}
use Rattle.kn_model.proofs.OneByOne.{pairs-self, pairs-append}
use Rattle.kn_model.proofs.AlikeRows.{with_state, set_memory}
use Rattle.kn_model.proofs.AlikeTerms.{keeps_terms, term_self, term_through}
use Rattle.kn_machine.specs.Ways.{WayView, way_of, IsStill, IsGrown, AlikeWay}
use Rattle.kn_machine.proofs.Likeness.{way_self}
use Rattle.kn_machine.proofs.Stepping.{equal_alike, way_through, grown_through, kept_at}

-- there are 64 words of memory
pub words_fit : (w v : WayView) (m n : ℕ) → w ≡ v → length w.machine.memory ≡ 64 → m + n ≤ 64 → m + n ≤ length (way_of v).state.memory
words_fit w v m n same sized within =
    subst (λ (x : WayView). m + n ≤ length (way_of x).state.memory) same (omega (arith, length-map w.machine.memory (λ (r : Ref). term_at w.terms r.index), sized, within))

-- so many words are there
length_span : (ms : List Term) (m n : ℕ) → m + n ≤ length ms → length (span terms ms m n) ≡ n
length_span ms m n fits = length-take-le n (drop m ms) (omega (arith, length-drop m ms, fits))

-- the word at a place, and those behind it
pub span_more : (ms : List Term) (m n place : ℕ) → m + n ≤ length ms → place < n → drop place (span terms ms m n) ≡ slice_index_or ms (m + place) (Word 0) ∷ drop (place + 1) (span terms ms m n)
span_more ms m n place fits inside =
    drop_more (span terms ms m n) place (Word 0) (omega (arith, length_span ms m n fits, inside))
    ∙ ap (λ (x : Term). x ∷ drop (place + 1) (span terms ms m n)) (get_or-take n (drop m ms) place (Word 0) inside ∙ get_or-drop m ms place (Word 0))

pub span_end : (ms : List Term) (m n place : ℕ) → place ≡ n → drop place (span terms ms m n) ≡ []
span_end ms m n place e = drop_all place (span terms ms m n) (omega (arith, length-take n (drop m ms), e))

-- what is behind a place stays, when the word there is set
span_behind : (ms : List Term) (m n place : ℕ) → place ≤ n → drop place (span terms ms m n) ≡ take (n - place) (drop (m + place) ms)
span_behind ms m n place h =
    let on : n ≡ place + (n - place) = omega (arith, h) in
    ap (λ (k : ℕ). drop place (take k (drop m ms))) on ∙ (drop-take place (n - place) (drop m ms) ∙ ap (take (n - place)) (drop-drop place m ms))

span_set : (ms : List Term) (m n place : ℕ) (z : Term) → place < n → drop (place + 1) (span terms (set ms (m + place) z) m n) ≡ drop (place + 1) (span terms ms m n)
span_set ms m n place z inside =
    let within : place + 1 ≤ n = omega (arith, inside) in
    span_behind (set ms (m + place) z) m n (place + 1) within
    ∙ (ap (take (n - (place + 1))) (drop-set-lt (m + (place + 1)) ms (m + place) z (omega arith))
    ∙ sym (span_behind ms m n (place + 1) within))

front_set : (ms : List Term) (m place : ℕ) (z : Term) → m + place < length ms → take (m + (place + 1)) (set ms (m + place) z) ≡ take (m + place) ms ++ z ∷ []
front_set ms m place z inside =
    let on : m + (place + 1) ≡ m + place + 1 = omega arith in
    ap (λ (k : ℕ). take k (set ms (m + place) z)) on ∙ take_more_set ms (m + place) z inside

-- the element, from a place on
pub element_end : (ms : List Term) (m n place : ℕ) (index : Term) → place ≡ n → element terms index place (drop place (span terms ms m n)) ≡ Word 0
element_end ms m n place index e = ap (element terms index place) (span_end ms m n place e)

pub element_more : (ms : List Term) (m n place : ℕ) (index same word others r : Term) → m + n ≤ length ms → place < n → TermAlike r (Choice same word others)
    → TermAlike same (Apply ops.Eq index (Word place)) → word ≡ slice_index_or ms (m + place) (Word 0) → TermAlike others (element terms index (place + 1) (drop (place + 1) (span terms ms m n)))
    → TermAlike r (element terms index place (drop place (span terms ms m n)))
element_more ms m n place index same word others r fits inside made is_place is rest =
    let behind = element terms index (place + 1) (drop (place + 1) (span terms ms m n)) in
    let at = slice_index_or ms (m + place) (Word 0) in
    term_through r (Choice same word others) (element terms index place (drop place (span terms ms m n))) made
    (subst (λ (l : List Term). TermAlike (Choice same word others) (element terms index place l)) (sym (span_more ms m n place fits inside))
    (keeps_terms.choice same (Apply ops.Eq index (Word place)) word at others behind is_place (equal_alike word at is) rest))

-- a memory with this in front of what is behind a span
abbrev pub Written : Way Term → Way Term → (m n place : ℕ) → Term → Term → Type 0
Written w v m n place index value =
    AlikeWay w (with_memory terms v (take (m + place) v.state.memory ++ with_element terms index value place (drop place (span terms v.state.memory m n)) ++ drop (m + n) v.state.memory))

memory_alike : (v : Way Term) (xs ys : List Term) → OneByOne TermAlike xs ys → AlikeWay (with_memory terms v xs) (with_memory terms v ys)
memory_alike v xs ys h =
    with_state terms terms TermAlike ConditionAlike ConditionAlike keeps_terms v v (way_self v) (with_memory terms v xs).state (with_memory terms v ys).state
    (set_memory terms terms TermAlike ConditionAlike ConditionAlike keeps_terms v.state v.state (way_self v).state xs ys h)

-- at the end nothing is left to write
whole : (ms : List Term) (m n place : ℕ) (xs : List Term) → place ≡ n → xs ≡ [] → take (m + place) ms ++ xs ++ drop (m + n) ms ≡ ms
whole ms m n place xs e none =
    ap (λ (l : List Term). take (m + place) ms ++ l ++ drop (m + n) ms) none
    ∙ (ap (λ (l : List Term). l ++ drop (m + n) ms) (append-nil (take (m + place) ms))
    ∙ (ap (λ (k : ℕ). take (m + k) ms ++ drop (m + n) ms) e ∙ take-append-drop (m + n) ms))

pub written_end : (v : Way Term) (m n place : ℕ) (index value : Term) → place ≡ n → Written v v m n place index value
written_end v m n place index value e =
    let ms = v.state.memory in
    subst (λ (l : List Term). AlikeWay v (with_memory terms v l)) (sym (whole ms m n place (with_element terms index value place (drop place (span terms ms m n))) e (ap (with_element terms index value place) (span_end ms m n place e)))) (way_self v)

-- one word is written, and then those behind it
front_alike : (ms : List Term) (m n place : ℕ) (index value z : Term) → m + n ≤ length ms → place < n → TermAlike z (Choice (Apply ops.Eq index (Word place)) value (slice_index_or ms (m + place) (Word 0)))
    → OneByOne TermAlike (take (m + (place + 1)) (set ms (m + place) z) ++ with_element terms index value (place + 1) (drop (place + 1) (span terms (set ms (m + place) z) m n)) ++ drop (m + n) (set ms (m + place) z))
    (take (m + place) ms ++ with_element terms index value place (drop place (span terms ms m n)) ++ drop (m + n) ms)
front_alike ms m n place index value z fits inside made =
    let front = take (m + place) ms in
    let last = drop (m + n) ms in
    let rest = with_element terms index value (place + 1) (drop (place + 1) (span terms ms m n)) in
    let at = Choice (Apply ops.Eq index (Word place)) value (slice_index_or ms (m + place) (Word 0)) in
    let there : take (m + (place + 1)) (set ms (m + place) z) ++ with_element terms index value (place + 1) (drop (place + 1) (span terms (set ms (m + place) z) m n)) ++ drop (m + n) (set ms (m + place) z) ≡ front ++ (z ∷ rest) ++ last =
    ap (λ (l : List Term). l ++ with_element terms index value (place + 1) (drop (place + 1) (span terms (set ms (m + place) z) m n)) ++ drop (m + n) (set ms (m + place) z)) (front_set ms m place z (omega (arith, fits, inside)))
    ∙ (ap (λ (l : List Term). (front ++ z ∷ []) ++ with_element terms index value (place + 1) l ++ drop (m + n) (set ms (m + place) z)) (span_set ms m n place z inside)
    ∙ (ap (λ (l : List Term). (front ++ z ∷ []) ++ rest ++ l) (drop-set-lt (m + n) ms (m + place) z (omega (arith, inside)))
    ∙ ap (λ (l : List Term). l ++ last) (append_assoc front (z ∷ []) rest))) in
    let here : front ++ with_element terms index value place (drop place (span terms ms m n)) ++ last ≡ front ++ (at ∷ rest) ++ last =
    ap (λ (l : List Term). front ++ with_element terms index value place l ++ last) (span_more ms m n place fits inside) in
    let both : OneByOne TermAlike (front ++ (z ∷ rest) ++ last) (front ++ (at ∷ rest) ++ last) =
    pairs-append TermAlike (front ++ (z ∷ rest)) (front ++ (at ∷ rest)) last last
    (pairs-append TermAlike front front (z ∷ rest) (at ∷ rest) (pairs-self TermAlike term_self front) (made, pairs-self TermAlike term_self rest))
    (pairs-self TermAlike term_self last) in
    subst (λ (l : List Term). OneByOne TermAlike l (front ++ with_element terms index value place (drop place (span terms ms m n)) ++ last)) (sym there)
    (subst (λ (l : List Term). OneByOne TermAlike (front ++ (z ∷ rest) ++ last) l) (sym here) both)

-- what is chosen at a place
pub chosen_alike : (index value same kept word z at : Term) (place : ℕ) → TermAlike z (Choice same kept word) → TermAlike same (Apply ops.Eq index (Word place)) → kept ≡ value → word ≡ at
    → TermAlike z (Choice (Apply ops.Eq index (Word place)) value at)
chosen_alike index value same kept word z at place made is_place e f =
    term_through z (Choice same kept word) (Choice (Apply ops.Eq index (Word place)) value at) made
    (keeps_terms.choice same (Apply ops.Eq index (Word place)) kept value word at is_place (equal_alike kept value e) (equal_alike word at f))

pub written_more : (v u w : Way Term) (m n place : ℕ) (index value z : Term) → m + n ≤ length v.state.memory → place < n → u ≡ with_memory terms v (slice_set v.state.memory (m + place) z)
    → TermAlike z (Choice (Apply ops.Eq index (Word place)) value (slice_index_or v.state.memory (m + place) (Word 0))) → Written w u m n (place + 1) index value → Written w v m n place index value
written_more v u w m n place index value z fits inside is made behind =
    let ms = v.state.memory in
    let new = set ms (m + place) z in
    let before = take (m + (place + 1)) new ++ with_element terms index value (place + 1) (drop (place + 1) (span terms new m n)) ++ drop (m + n) new in
    let after = take (m + place) ms ++ with_element terms index value place (drop place (span terms ms m n)) ++ drop (m + n) ms in
    way_through w (with_memory terms v before) (with_memory terms v after)
    (subst (λ (x : Way Term). Written w x m n (place + 1) index value) is behind)
    (memory_alike v before after (front_alike ms m n place index value z fits inside made))

-- and at the end of them all
pub written_all : (w v : Way Term) (m n : ℕ) (index value x y : Term) → index ≡ x → value ≡ y → Written w v m n 0 index value
    → AlikeWay w (with_memory terms v (take m v.state.memory ++ with_element terms x y 0 (span terms v.state.memory m n) ++ drop (m + n) v.state.memory))
written_all w v m n index value x y e f h =
    let ms = v.state.memory in
    let on : m + 0 ≡ m = omega arith in
    subst (λ (k : ℕ). AlikeWay w (with_memory terms v (take k ms ++ with_element terms x y 0 (span terms ms m n) ++ drop (m + n) ms))) on
    (subst (λ (t : Term). Written w v m n 0 x t) f (subst (λ (t : Term). Written w v m n 0 t value) e h))

-- a step of reading: what is behind, whether the index is this place, the word here, and the choice
pub read_more : (v u s w : WayView) (m n place index same word others r : ℕ) → m + n ≤ length (way_of v).state.memory → place < n → index < length v.terms
    → IsGrown v u → TermAlike (term_at u.terms others) (element terms (term_at v.terms index) (place + 1) (drop (place + 1) (span terms (way_of v).state.memory m n))) → others < length u.terms
    → IsGrown u s → TermAlike (term_at s.terms same) (Apply ops.Eq (term_at u.terms index) (Word place)) → term_at s.terms word ≡ slice_index_or (way_of s).state.memory (m + place) (Word 0)
    → TermAlike (term_at w.terms r) (Choice (term_at s.terms same) (term_at s.terms word) (term_at s.terms others))
    → TermAlike (term_at w.terms r) (element terms (term_at v.terms index) place (drop place (span terms (way_of v).state.memory m n)))
read_more v u s w m n place index same word others r fits inside stands grown rest rest_stands more is_place is made =
    let t = term_at v.terms index in
    element_more (way_of v).state.memory m n place t (term_at s.terms same) (term_at s.terms word) (term_at s.terms others) (term_at w.terms r) fits inside made
    (subst (λ (x : Term). TermAlike (term_at s.terms same) (Apply ops.Eq x (Word place))) (kept_at v u index grown stands) is_place)
    (is ∙ ap (λ (z : Way Term). slice_index_or z.state.memory (m + place) (Word 0)) (more.way ∙ grown.way))
    (subst (λ (x : Term). TermAlike x (element terms t (place + 1) (drop (place + 1) (span terms (way_of v).state.memory m n)))) (sym (kept_at u s others more rest_stands)) rest)

-- a step of writing: whether the index is this place, the word here, the choice, and that it is written
pub put_more : (v u s w : WayView) (x : Way Term) (m n place index value same word chosen : ℕ) → m + n ≤ length (way_of v).state.memory → place < n → index < length v.terms → value < length v.terms
    → IsGrown v u → TermAlike (term_at u.terms same) (Apply ops.Eq (term_at v.terms index) (Word place)) → term_at u.terms word ≡ slice_index_or (way_of u).state.memory (m + place) (Word 0)
    → IsGrown u s → TermAlike (term_at s.terms chosen) (Choice (term_at u.terms same) (term_at u.terms value) (term_at u.terms word))
    → way_of w ≡ with_memory terms (way_of s) (slice_set (way_of s).state.memory (m + place) (term_at s.terms chosen)) → IsStill s w
    → Written x (way_of w) m n (place + 1) (term_at w.terms index) (term_at w.terms value) → Written x (way_of v) m n place (term_at v.terms index) (term_at v.terms value)
put_more v u s w x m n place index value same word chosen fits inside stands value_stands grown is_place is more made set_to still behind =
    let both = grown_through v u s grown more in
    let kept : (p : ℕ) → p < length v.terms → term_at w.terms p ≡ term_at v.terms p = λ p within. ap (λ (ns : List Node). term_at ns p) still.terms ∙ kept_at v s p both within in
    let z = term_at s.terms chosen in
    let at = slice_index_or (way_of v).state.memory (m + place) (Word 0) in
    written_more (way_of v) (way_of w) x m n place (term_at v.terms index) (term_at v.terms value) z fits inside
    (set_to ∙ ap (λ (y : Way Term). with_memory terms y (slice_set y.state.memory (m + place) z)) both.way)
    (chosen_alike (term_at v.terms index) (term_at v.terms value) (term_at u.terms same) (term_at u.terms value) (term_at u.terms word) z at place made is_place (kept_at v u value grown value_stands)
    (is ∙ ap (λ (y : Way Term). slice_index_or y.state.memory (m + place) (Word 0)) grown.way))
    (subst (λ (t : Term). Written x (way_of w) m n (place + 1) (term_at v.terms index) t) (kept value value_stands)
    (subst (λ (t : Term). Written x (way_of w) m n (place + 1) t (term_at w.terms value)) (kept index stands) behind))
