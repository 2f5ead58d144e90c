-- Literals that hang together by the inputs that they read.
use Rattle.std.proofs.Common.{◌≡◌, ℕ, zero, suc, ◌<◌, ◌≤◌, Bool, true, false, not, List, [], ◌∷◌, ◌++◌, length, map, get_or, Some, refl, sym, ap, subst, ◌∙◌, inl, inr, arith}
use Rattle.std.specs.Prelude.{◌&&◌, ◌||◌, ◌⊎◌, nat_eq, cond, if◌then◌else◌, slice_get, slice_index_or}
use Rattle.std.specs.List.{AllByRecursion, filter}
use Rattle.std.proofs.lemmas.Bool.{cases_eq}
use Rattle.kn_term.specs.declared.node.Node.{Node}
use Rattle.kn_term.specs.declared.node.Ref.{Ref}
use Rattle.kn_term.specs.declared.node.Literal.{Literal as Listed}
use Rattle.kn_word.specs.declared.Op.{Op}
use Rattle.kn_term.specs.Terms.{Term, Word, Input, Apply, Choice, Reads}
use Rattle.kn_term.specs.Nodes.{term_at, term_in, terms_of, AreNodes}
use Rattle.kn_term.specs.Reached.{RootsStand}
use Rattle.kn_cond.specs.Conditions.{reads_in}
use Rattle.kn_cond.specs.Literals.{Literal}
use Rattle.kn_cond.specs.Meanings.{literal_of, condition_of, StandIn}
use Rattle.kn_cond.proofs.Kept.{StandIn-rest}
use Rattle.kn_blast.specs.declared.inputs.InputBits.{InputBits}
use Rattle.kn_blast.specs.Inputs.{width_of, Covers}
use Rattle.kn_solve.specs.Parts.{AreAmong, IsSplit, ReadsOnly, AllRead, is_among, LiteralsRead, marked, AreMarked}
use Rattle.kn_solve.proofs.Members.{all_among, all_mapped, split_first, split_more}
use Rattle.kn_solve.proofs.Opening.{term_positive}
use Rattle.kn_solve.proofs.Widest.{ArePositive}

-- ---- literals that stand

abbrev AllStand : List Node → List Listed → Type 0
AllStand ns ls = AllByRecursion (λ (l : Listed). l.term.index < length ns) ls

each_stands : (ns : List Node) (ls : List Listed) → StandIn ns ls → AllStand ns ls
each_stands ns [] stand = tt
each_stands ns (l ∷ ls) stand = (stand 0 l refl, each_stands ns ls (StandIn-rest ns l ls stand))

none_at : (place : ℕ) (l : Listed) → slice_get [] place ≡ Some l → ⊥
none_at zero l e = cc
none_at (suc place) l e = cc

all_stand : (ns : List Node) (ls : List Listed) → AllStand ns ls → StandIn ns ls
all_stand ns [] all place m e = absurd (none_at place m e)
all_stand ns (l ∷ ls) all zero m e = let same : l ≡ m = cc in subst (λ (x : Listed). x.term.index < length ns) same all.0
all_stand ns (l ∷ ls) all (suc place) m e = all_stand ns ls all.1 place m e

pub stand_among : (ns : List Node) (xs ys : List Listed) → AreAmong xs ys → StandIn ns ys → StandIn ns xs
stand_among ns xs ys among stand = all_stand ns xs (all_among (λ (l : Listed). l.term.index < length ns) xs ys among (each_stands ns ys stand))

-- ---- what literals read

abbrev named : List Listed → List Ref
named ls = map (λ (l : Listed). l.term) ls

no_name : (place : ℕ) (r : Ref) → slice_get [] place ≡ Some r → ⊥
no_name zero r e = cc
no_name (suc place) r e = cc

pub names_stand : (ns : List Node) (ls : List Listed) (rs : List Ref) → rs ≡ named ls → StandIn ns ls → RootsStand (length ns) rs
names_stand ns ls rs same stand = subst (RootsStand (length ns)) (sym same) (go ls stand) where
  go : (ls : List Listed) → StandIn ns ls → RootsStand (length ns) (named ls)
  go [] stand i r e = absurd (no_name i r e)
  go (l ∷ ls) stand zero r e = let same : l.term ≡ r = cc in subst (λ (x : Ref). x.index < length ns) same (stand 0 l refl)
  go (l ∷ ls) stand (suc i) r e = go ls (StandIn-rest ns l ls stand) i r e

wide_among : (es : List InputBits) (n k : ℕ) → 0 < width_of es n k → is_among es n k ≡ true
wide_among [] n k h = absurd (omega (arith, h))
wide_among (e ∷ es) n k h = go (nat_eq e.node n && nat_eq e.index k) (wide_among es n k) h where
  go : (b : Bool) → (0 < width_of es n k → is_among es n k ≡ true) → 0 < (if b then e.width else width_of es n k) → (if b then true else is_among es n k) ≡ true
  go true more h = refl
  go false more h = more h

all_left : {A : Type 0} (P : A → Type 0) (xs ys : List A) → AllByRecursion P (xs ++ ys) → AllByRecursion P xs
all_left P [] ys all = tt
all_left P (x ∷ xs) ys all = (all.0, all_left P xs ys all.1)

all_right : {A : Type 0} (P : A → Type 0) (xs ys : List A) → AllByRecursion P (xs ++ ys) → AllByRecursion P ys
all_right P [] ys all = all
all_right P (x ∷ xs) ys all = all_right P xs ys all.1

-- an input is read with a bit at least
read_positive : (t : Term) (n k width : ℕ) → ArePositive (reads_in t) → Reads n k width t → 0 < width
read_positive (Word w) n k width all h = absurd h
read_positive (Input m j bits) n k width all h = omega (arith, all.0, h.2)
read_positive (Apply op x y) n k width all (inl h) = read_positive x n k width (all_left _ (reads_in x) (reads_in y) all) h
read_positive (Apply op x y) n k width all (inr h) = read_positive y n k width (all_right _ (reads_in x) (reads_in y) all) h
read_positive (Choice c x y) n k width all (inl h) = read_positive c n k width (all_left _ (reads_in c) (reads_in x ++ reads_in y) all) h
read_positive (Choice c x y) n k width all (inr (inl h)) = read_positive x n k width (all_left _ (reads_in x) (reads_in y) (all_right _ (reads_in c) (reads_in x ++ reads_in y) all)) h
read_positive (Choice c x y) n k width all (inr (inr h)) = read_positive y n k width (all_right _ (reads_in x) (reads_in y) (all_right _ (reads_in c) (reads_in x ++ reads_in y) all)) h

covered_reads : (ns : List Node) (es : List InputBits) (place : ℕ) → AreNodes ns → place < length ns → Covers es (term_at ns place) → ReadsOnly (is_among es) true (term_at ns place)
covered_reads ns es place are within covers n k width reads =
    wide_among es n k (omega (arith, covers n k width reads, read_positive (term_at ns place) n k width (term_positive ns place are within) reads))

-- the inputs that were opened for literals are those that they read
pub names_read : (ns : List Node) (ls : List Listed) (rs : List Ref) (es : List InputBits) → rs ≡ named ls → AreNodes ns → StandIn ns ls → ((place : ℕ) (r : Ref) → slice_get rs place ≡ Some r → Covers es (term_at ns r.index)) → LiteralsRead ns es true ls
names_read ns ls rs es same are stand covers = go ls stand (subst (λ (xs : List Ref). (place : ℕ) (r : Ref) → slice_get xs place ≡ Some r → Covers es (term_at ns r.index)) same covers) where
  go : (ls : List Listed) → StandIn ns ls → ((place : ℕ) (r : Ref) → slice_get (named ls) place ≡ Some r → Covers es (term_at ns r.index)) → LiteralsRead ns es true ls
  go [] stand covers = tt
  go (l ∷ ls) stand covers = (covered_reads ns es l.term.index are (stand 0 l refl) (covers 0 l.term refl), go ls (StandIn-rest ns l ls stand) (λ place r e. covers (suc place) r e))

-- ---- marks

push_mark : (P : ℕ → Type 0) (bs : List Bool) (x : Bool) → ((i : ℕ) → slice_index_or bs i true ≡ false → P i) → (x ≡ false → P (length bs)) → (i : ℕ) → slice_index_or (bs ++ x ∷ []) i true ≡ false → P i
push_mark P [] x f g zero e = g e
push_mark P [] x f g (suc i) e = absurd cc
push_mark P (b ∷ bs) x f g zero e = f zero e
push_mark P (b ∷ bs) x f g (suc i) e = push_mark (λ j. P (suc j)) bs x (λ j h. f (suc j) h) g i e

-- one more mark
pub marked_more : (ns : List Node) (es : List InputBits) (bs after : List Bool) (x : Bool) (place : ℕ) (t : Term) → after ≡ bs ++ x ∷ [] → length bs ≡ place → term_at ns place ≡ t → AreMarked (terms_of ns) es bs → (x ≡ false → ReadsOnly (is_among es) false t) → AreMarked (terms_of ns) es after
marked_more ns es bs after x place t is many same marks own r e =
    push_mark (λ i. ReadsOnly (is_among es) false (term_at ns i)) bs x (λ i h. marks (record { index = i }) h)
    (λ h. subst (λ i. ReadsOnly (is_among es) false (term_at ns i)) (sym many) (subst (ReadsOnly (is_among es) false) (sym same) (own h)))
    r.index (ap (λ (xs : List Bool). slice_index_or xs r.index true) (sym is) ∙ e)

-- another value for what is not there
other_default : (bs : List Bool) (i : ℕ) (d : Bool) → i < length bs → get_or bs i d ≡ false → slice_index_or bs i true ≡ false
other_default [] i d h e = absurd (omega (arith, h))
other_default (b ∷ bs) zero d h e = e
other_default (b ∷ bs) (suc i) d h e = other_default bs i d (omega (arith, h)) e

either_false : (x y : Bool) → (x || y) ≡ false → (x ≡ false) × (y ≡ false)
either_false false y e = (refl, e)
either_false true y e = absurd cc

pub unmarked_input : (es : List InputBits) (n k width : ℕ) → is_among es n k ≡ false → ReadsOnly (is_among es) false (Input n k width)
unmarked_input es n k width e m j w (a, b, c) = ap (λ (i : ℕ). is_among es i j) a ∙ (ap (λ (i : ℕ). is_among es n i) b ∙ e)

pub unmarked_both : (es : List InputBits) (ts : List Term) (bs : List Bool) (op : Op) (x y : Ref) (p q : Bool) → AreMarked ts es bs → x.index < length bs → y.index < length bs → (get_or bs x.index p || get_or bs y.index q) ≡ false → ReadsOnly (is_among es) false (Apply op (term_in ts x) (term_in ts y))
unmarked_both es ts bs op x y p q marks h g none n k width reads = go reads where
  parts : (get_or bs x.index p ≡ false) × (get_or bs y.index q ≡ false)
  parts = either_false (get_or bs x.index p) (get_or bs y.index q) none

  go : Reads n k width (term_in ts x) ⊎ Reads n k width (term_in ts y) → is_among es n k ≡ false
  go (inl one) = marks x (other_default bs x.index p h parts.0) n k width one
  go (inr one) = marks y (other_default bs y.index q g parts.1) n k width one

pub unmarked_choice : (es : List InputBits) (ts : List Term) (bs : List Bool) (c x y : Ref) (o p q two : Bool) → AreMarked ts es bs → c.index < length bs → x.index < length bs → y.index < length bs → (get_or bs c.index o || two) ≡ false → two ≡ (get_or bs x.index p || get_or bs y.index q) → ReadsOnly (is_among es) false (Choice (term_in ts c) (term_in ts x) (term_in ts y))
unmarked_choice es ts bs c x y o p q two marks h g i none is n k width reads = go reads where
  front : (get_or bs c.index o ≡ false) × (two ≡ false)
  front = either_false (get_or bs c.index o) two none

  parts : (get_or bs x.index p ≡ false) × (get_or bs y.index q ≡ false)
  parts = either_false (get_or bs x.index p) (get_or bs y.index q) (sym is ∙ front.1)

  go : Reads n k width (term_in ts c) ⊎ (Reads n k width (term_in ts x) ⊎ Reads n k width (term_in ts y)) → is_among es n k ≡ false
  go (inl one) = marks c (other_default bs c.index o h front.0) n k width one
  go (inr (inl one)) = marks x (other_default bs x.index p g parts.0) n k width one
  go (inr (inr one)) = marks y (other_default bs y.index q i parts.1) n k width one

-- literals without a mark read none of the inputs
pub unmarked_read : (ns : List Node) (es : List InputBits) (bs : List Bool) (ls : List Listed) → AreMarked (terms_of ns) es bs → LiteralsRead ns es false (filter (λ (l : Listed). not (marked bs l)) ls)
unmarked_read ns es bs [] marks = tt
unmarked_read ns es bs (l ∷ ls) marks = go (marked bs l) refl (unmarked_read ns es bs ls marks) where
  kept : List Listed
  kept = filter (λ (x : Listed). not (marked bs x)) ls

  go : (b : Bool) → marked bs l ≡ b → LiteralsRead ns es false kept → LiteralsRead ns es false (cond (not b) (l ∷ kept) kept)
  go true e more = more
  go false e more = (marks l.term e, more)

pub filter_few : {A : Type 0} (p : A → Bool) (xs : List A) → length (filter p xs) ≤ length xs
filter_few p [] = omega arith
filter_few {A} p (x ∷ xs) = go (p x) (filter_few p xs) where
  go : (b : Bool) → length (filter p xs) ≤ length xs → length (cond b (x ∷ filter p xs) (filter p xs)) ≤ suc (length xs)
  go true h = omega (arith, h)
  go false h = omega (arith, h)

-- where as many are left, all are
pub filter_whole : {A : Type 0} (p : A → Bool) (xs : List A) → length (filter p xs) ≡ length xs → filter p xs ≡ xs
filter_whole p [] h = refl
filter_whole {A} p (x ∷ xs) h = go (filter_whole p xs) (p x) h where
  go : (length (filter p xs) ≡ length xs → filter p xs ≡ xs) → (b : Bool) → length (cond b (x ∷ filter p xs) (filter p xs)) ≡ suc (length xs) → cond b (x ∷ filter p xs) (filter p xs) ≡ x ∷ xs
  go more true h = ap (λ (ys : List A). x ∷ ys) (more (omega (arith, h)))
  go more false h = absurd (omega (arith, h, filter_few p xs))

-- ---- rounds

-- what has no mark, of the literals that were left
abbrev unmarked : List Bool → List Listed → List Listed
unmarked bs ls = filter (λ (l : Listed). not (marked bs l)) ls

pub divided_first : (earlier more part rest : List Listed) → part ≡ more → rest ≡ earlier → IsSplit (earlier ++ more) earlier part rest
divided_first earlier more part rest e s =
    subst (λ (x : List Listed). IsSplit (earlier ++ more) earlier x rest) (sym e) (subst (λ (y : List Listed). IsSplit (earlier ++ more) earlier more y) (sym s) (split_first earlier more))

left_is : (rest left shown : List Listed) (bs first : List Bool) → first ≡ bs → shown ≡ rest → left ≡ unmarked first shown → left ≡ unmarked bs rest
left_is rest left shown bs first f s e = e ∙ (ap (λ (m : List Bool). unmarked m shown) f ∙ ap (unmarked bs) s)

pub divided_more : (whole earlier part rest joined left near shown other : List Listed) (bs first second : List Bool) → first ≡ bs → second ≡ bs → shown ≡ rest → other ≡ rest → left ≡ unmarked first shown → near ≡ filter (marked second) other → joined ≡ part ++ near → IsSplit whole earlier part rest → IsSplit whole earlier joined left
divided_more whole earlier part rest joined left near shown other bs first second f g s o e n j split =
    let front : joined ≡ part ++ filter (marked bs) rest = j ∙ ap (λ (x : List Listed). part ++ x) (n ∙ (ap (λ (m : List Bool). filter (marked m) other) g ∙ ap (filter (marked bs)) o)) in
    subst (λ (x : List Listed). IsSplit whole earlier x left) (sym front)
    (subst (λ (y : List Listed). IsSplit whole earlier (part ++ filter (marked bs) rest) y) (sym (left_is rest left shown bs first f s e)) (split_more whole earlier part rest (marked bs) (λ (l : Listed). not (marked bs l)) (λ l. refl) split))

-- where as many are left, nothing has a mark
pub divided_last : (rest left shown third fourth : List Listed) (first : List Bool) → shown ≡ rest → left ≡ unmarked first shown → third ≡ left → fourth ≡ rest → length third ≡ length fourth → left ≡ rest
divided_last rest left shown third fourth first s e t f long =
    let is : left ≡ unmarked first rest = left_is rest left shown first first refl s e in
    is ∙ filter_whole (λ (l : Listed). not (marked first l)) rest (ap length (sym is) ∙ (ap length (sym t) ∙ (long ∙ ap length f)))

pub fewer_left : (rest left shown third fourth : List Listed) (first : List Bool) → shown ≡ rest → left ≡ unmarked first shown → third ≡ left → fourth ≡ rest → (length third ≡ length fourth → ⊥) → length left < length rest
fewer_left rest left shown third fourth first s e t f apart =
    let is : length left ≡ length (unmarked first rest) = ap length (left_is rest left shown first first refl s e) in
    let few : length (unmarked first rest) ≤ length rest = filter_few (λ (l : Listed). not (marked first l)) rest in
    elim (cases_eq (length left) (length rest)) [
      | inl same ↦ absurd (apart (ap length t ∙ (same ∙ ap length (sym f))))
      | inr other ↦ omega (arith, is, few, other)
    ]

pub left_read : (ns : List Node) (es inputs : List InputBits) (rest left shown : List Listed) (bs first : List Bool) → first ≡ bs → inputs ≡ es → shown ≡ rest → left ≡ unmarked first shown → AreMarked (terms_of ns) inputs bs → LiteralsRead ns es false left
left_read ns es inputs rest left shown bs first f i s e marks =
    subst (LiteralsRead ns es false) (sym (left_is rest left shown bs first f s e)) (unmarked_read ns es bs rest (subst (λ (xs : List InputBits). AreMarked (terms_of ns) xs bs) i marks))

-- ---- conditions

pub condition_read : (ns : List Node) (es : List InputBits) (b : Bool) (ls : List Listed) → LiteralsRead ns es b ls → AllRead (is_among es) b (condition_of ns ls)
condition_read ns es b ls all = all_mapped (λ (l : Literal Term). ReadsOnly (is_among es) b l.value) (literal_of ns) ls all
