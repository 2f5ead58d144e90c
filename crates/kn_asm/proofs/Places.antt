-- Tables of labels against the lines.
use Rattle.std.proofs.Common.{◌≡◌, ℕ, suc, ◌+◌, ◌<◌, ◌≤◌, List, ◌∷◌, length, get_or, drop, drop-cons, Option, Some, None, refl, sym, ap, ◌∙◌, inl, inr, add-one}
use Rattle.std.specs.Prelude.{bytes_eq}
use Rattle.std.proofs.lemmas.Bool.{cases_Bool}
use Rattle.std.proofs.lemmas.List.{drop_all}
use Rattle.kn_asm.specs.Lines.{Line, counted_lem}
use Rattle.kn_asm.specs.Assembling.{place_from}
use Rattle.kn_asm.specs.Tables.{first_place, label_at}

pub first_none : (o : Option ℕ) → first_place o None ≡ o
first_none None = refl
first_none (Some x) = refl

pub first_assoc : (a b c : Option ℕ) → first_place (first_place a b) c ≡ first_place a (first_place b c)
first_assoc None b c = refl
first_assoc (Some x) b c = refl

pub place_first : (q : List ℕ) (index : ℕ) (l : Line) (ls : List Line) (label : Option (List ℕ)) → label ≡ l.label
    → place_from q index (l ∷ ls) ≡ first_place (label_at q label index) (place_from q (index + counted_lem l.content) ls)
unfolding place_from
place_first q index l ls None e = rw (← e) refl
place_first q index l ls (Some name) e = elim (cases_Bool (bytes_eq q name)) [ inl y ↦ rw (← e, y) refl | inr n ↦ rw (← e, n) refl ]

next_line : (ls : List Line) (i : ℕ) (l : Line) → i < length ls → l ≡ get_or ls i l → drop i ls ≡ l ∷ drop (i + 1) ls
next_line ls i l lt at = drop-cons ls i l lt ∙ ap (λ (x : Line). x ∷ drop (suc i) ls) (sym at) ∙ ap (λ (k : ℕ). l ∷ drop k ls) (sym (add-one i))

pub table_turn : (q : List ℕ) (old new all : Option ℕ) (index next i : ℕ) (l : Line) (ls : List Line) → i < length ls → l ≡ get_or ls i l → next ≡ index + counted_lem l.content → new ≡ first_place old (label_at q l.label index)
    → first_place old (place_from q index (drop i ls)) ≡ all → first_place new (place_from q next (drop (i + 1) ls)) ≡ all
table_turn q old new all index next i l ls lt at is_next is_new before =
    let rest : Option ℕ = place_from q (index + counted_lem l.content) (drop (i + 1) ls) in
    ap (λ (n : ℕ). first_place new (place_from q n (drop (i + 1) ls))) is_next ∙ ap (λ (o : Option ℕ). first_place o rest) is_new ∙ first_assoc old (label_at q l.label index) rest
    ∙ sym (ap (first_place old) (ap (place_from q index) (next_line ls i l lt at) ∙ place_first q index l (drop (i + 1) ls) l.label refl)) ∙ before

pub table_end : (q : List ℕ) (old all : Option ℕ) (index i : ℕ) (ls : List Line) → length ls ≤ i → first_place old (place_from q index (drop i ls)) ≡ all → old ≡ all
unfolding place_from
table_end q old all index i ls le before = sym (ap (λ (l : List Line). first_place old (place_from q index l)) (drop_all i ls le) ∙ first_none old) ∙ before
