-- The least inputs that meet a part of what is asked stay the least where they meet all of it.
use Rattle.std.proofs.Common.{◌≡◌, ℕ, ◌^◌, ◌%◌, ◌<◌, ◌≤◌, Bool, true, false, List, [], ◌∷◌, ◌++◌, flat_map, max, refl, sym, ap, subst, ◌∙◌, inl, inr, arith}
use Rattle.std.specs.Prelude.{◌&&◌, nat_eq, not, if◌then◌else◌}
use Rattle.std.specs.List.{AllByRecursion}
use Rattle.std.specs.declared.cmp.Ordering.TheVariants.{Less, Greater}
use Rattle.std.proofs.lemmas.Bool.{cases_lt, eqb-true, eq-eqb}
use Rattle.std.proofs.lemmas.List.{append-nil}
use Rattle.std.proofs.Math.Nat.{mod-le, mod-mod, mod-eq_of_lt}
use Rattle.std.proofs.Math.Path.{fun_ext}
use Rattle.std.proofs.Math.Pow.{pow_mono}
use Rattle.kn_built.proofs.Deciding.{both_true}
use Rattle.kn_term.specs.Terms.{Term, Valuation, listed, ev, WordsByInputs}
use Rattle.kn_term.specs.Valuations.{precedes, AreEntries, OneList}
use Rattle.kn_term.proofs.Entries.{precedes-trans}
use Rattle.kn_cond.specs.Conditions.{Condition, Read, Query, reads_in, reads_of, widest, holds, some_holds, columns_hold, AreWords, valuation_of, ComesBefore, IsLeast}
use Rattle.kn_cond.specs.declared.standing.Standing.TheVariants.{Inputs, Open}
use Rattle.kn_cond.proofs.Kept.{holds-append}
use Rattle.kn_solve.specs.Formulas.{Asked, query_of}
use Rattle.kn_solve.specs.Wholes.{whole}
use Rattle.kn_solve.specs.Orders.{rank, word_at}
use Rattle.kn_solve.specs.Asking.{RisesBehind, AreRising, width_at}
use Rattle.kn_solve.specs.Laws.{WithoutColumns, LeastStays, NeverStays, StandingIsLive, LeastIsOne, with_more}
use Rattle.kn_solve.proofs.Ranks.{less_first, same_first, more_first, three, lower_before, one_rank}
use Rattle.kn_solve.proofs.Splitting.{words_by, listed_word, valuation_entries, cut_words, cut_are_words, cut_word_at}
use Rattle.kn_solve.proofs.Widest.{greatest, greatest_append, widest_greatest, widest_rising, rising_width}
use Rattle.kn_solve.proofs.Wholly.{all_reads, whole_widest}
use Rattle.kn_solve.proofs.Meeting.{meets_whole}
use Rattle.kn_solve.proofs.Opening.{read_widest, cut_shorter}

-- ---- words by inputs in order

pub irreflexive : (n k : ℕ) → precedes n k n k ≡ true → ⊥
irreflexive n k h = grind arith

-- an input that comes before another is not that one
pub apart : (n k m j : ℕ) → precedes n k m j ≡ true → (nat_eq n m && nat_eq k j) ≡ false
apart n k m j h = grind arith

apart_after : (n k m j : ℕ) → precedes m j n k ≡ true → (nat_eq n m && nat_eq k j) ≡ false
apart_after n k m j h = grind arith

pub itself : (n k : ℕ) → (nat_eq n n && nat_eq k k) ≡ true
itself n k = rw (eq-eqb n n refl, eq-eqb k k refl) refl

either_same : (v w x y : ℕ) (b : Bool) → v ≡ w → x ≡ y → (if b then v else x) ≡ (if b then w else y)
either_same v w x y true e s = e
either_same v w x y false e s = s

-- an input whose word is not 0 is one of those that are read
pub behind_word : (n k m j : ℕ) (rs : List Read) (ws : List ℕ) → AllByRecursion (RisesBehind n k) rs → 0 < word_at rs ws m j → precedes n k m j ≡ true
behind_word n k m j [] ws all h = absurd (omega (arith, h))
behind_word n k m j (r ∷ rs) [] all h = absurd (omega (arith, h))
behind_word n k m j (r ∷ rs) (w ∷ ws) all h = go (behind_word n k m j rs ws all.1) (nat_eq r.node m && nat_eq r.index j) refl h where
  go : (0 < word_at rs ws m j → precedes n k m j ≡ true) → (b : Bool) → (nat_eq r.node m && nat_eq r.index j) ≡ b → 0 < (if b then w else word_at rs ws m j) → precedes n k m j ≡ true
  go more true e p = let s = both_true (nat_eq r.node m) (nat_eq r.index j) e in rw (← eqb-true r.node m s.0, ← eqb-true r.index j s.1) all.0
  go more false e p = more p

-- no other has a word
pub absent_word : (n k m j : ℕ) (rs : List Read) (ws : List ℕ) → AllByRecursion (RisesBehind n k) rs → (precedes n k m j ≡ true → ⊥) → word_at rs ws m j ≡ 0
absent_word n k m j rs ws all not = elim (cases_lt 0 (word_at rs ws m j)) [
  | inl h ↦ absurd (not (behind_word n k m j rs ws all h))
  | inr h ↦ omega (arith, h)
]

pub other_word : (r : Read) (rs : List Read) (w : ℕ) (ws : List ℕ) (m j : ℕ) → (nat_eq r.node m && nat_eq r.index j) ≡ false → word_at (r ∷ rs) (w ∷ ws) m j ≡ word_at rs ws m j
other_word r rs w ws m j e = ap (λ (b : Bool). if b then w else word_at rs ws m j) e

pub own_word : (r : Read) (rs : List Read) (w : ℕ) (ws : List ℕ) (m j : ℕ) → (nat_eq r.node m && nat_eq r.index j) ≡ true → word_at (r ∷ rs) (w ∷ ws) m j ≡ w
own_word r rs w ws m j e = ap (λ (b : Bool). if b then w else word_at rs ws m j) e

pub fits_at : (rs : List Read) (ws : List ℕ) (n k : ℕ) → AreWords rs ws → 0 < word_at rs ws n k → word_at rs ws n k < 2 ^ width_at rs n k
fits_at [] ws n k are h = absurd (omega (arith, h))
fits_at (r ∷ rs) [] n k are h = absurd are
fits_at (r ∷ rs) (w ∷ ws) n k are h = go (fits_at rs ws n k are.1) (nat_eq r.node n && nat_eq r.index k) h where
  go : (0 < word_at rs ws n k → word_at rs ws n k < 2 ^ width_at rs n k) → (b : Bool) → 0 < (if b then w else word_at rs ws n k) → (if b then w else word_at rs ws n k) < 2 ^ (if b then r.width else width_at rs n k)
  go more true p = are.0
  go more false p = more p

-- the first input at which words differ
pub record Differ (rs : List Read) (vs ws : List ℕ) : Type 0 where
  pub node : ℕ
  pub index : ℕ
  pub lower : word_at rs vs node index < word_at rs ws node index
  pub same : (m j : ℕ) → precedes m j node index ≡ true → word_at rs vs m j ≡ word_at rs ws m j

-- words that come before others are lower at the first input at which they differ
pub differ : (rs : List Read) (vs ws : List ℕ) → AreRising rs → AreWords rs vs → AreWords rs ws → ComesBefore vs ws → Differ rs vs ws
differ [] [] [] rising p q h = absurd cc
differ [] [] (w ∷ ws) rising p q h = absurd q
differ [] (v ∷ vs) ws rising p q h = absurd p
differ (r ∷ rs) [] ws rising p q h = absurd p
differ (r ∷ rs) (v ∷ vs) [] rising p q h = absurd q
differ (r ∷ rs) (v ∷ vs) (w ∷ ws) rising p q h = elim (three v w) [
  | inl less ↦ here less
  | inr rest ↦ elim rest [
    | inl e ↦ later e (differ rs vs ws rising.1 p.1 q.1 (sym (same_first v w vs ws e) ∙ h))
    | inr more ↦ let wrong : Greater ≡ Less = sym (more_first v w vs ws more) ∙ h in absurd cc
  ]
]
  where
    is : (nat_eq r.node r.node && nat_eq r.index r.index) ≡ true
    is = itself r.node r.index

    here : v < w → Differ (r ∷ rs) (v ∷ vs) (w ∷ ws)
    here less = record {
      node = r.node;
      index = r.index;
      lower = omega (arith, less, own_word r rs v vs r.node r.index is, own_word r rs w ws r.node r.index is);
      same = λ m j before.
          let own : (nat_eq r.node m && nat_eq r.index j) ≡ false = apart_after r.node r.index m j before in
          let not : precedes r.node r.index m j ≡ true → ⊥ = λ after. irreflexive m j (precedes-trans m j r.node r.index m j before after) in
          omega (arith, other_word r rs v vs m j own, other_word r rs w ws m j own, absent_word r.node r.index m j rs vs rising.0 not, absent_word r.node r.index m j rs ws rising.0 not);
    }

    later : v ≡ w → Differ rs vs ws → Differ (r ∷ rs) (v ∷ vs) (w ∷ ws)
    later e d =
        let lower = d.lower in
        let after : precedes r.node r.index d.node d.index ≡ true = behind_word r.node r.index d.node d.index rs ws rising.0 (omega (arith, lower)) in
        let own : (nat_eq r.node d.node && nat_eq r.index d.index) ≡ false = apart r.node r.index d.node d.index after in
        record {
          node = d.node;
          index = d.index;
          lower = omega (arith, lower, other_word r rs v vs d.node d.index own, other_word r rs w ws d.node d.index own);
          same = λ m j before. either_same v w (word_at rs vs m j) (word_at rs ws m j) (nat_eq r.node m && nat_eq r.index j) e (d.same m j before);
        }

-- an input is one of those that are read
abbrev pub is_read : List Read → ℕ → ℕ → Bool
is_read [] m j = false
is_read (r ∷ rs) m j = if nat_eq r.node m && nat_eq r.index j then true else is_read rs m j

pub read_behind : (n k m j : ℕ) (rs : List Read) → AllByRecursion (RisesBehind n k) rs → is_read rs m j ≡ true → precedes n k m j ≡ true
read_behind n k m j [] all h = absurd cc
read_behind n k m j (r ∷ rs) all h = go (read_behind n k m j rs all.1) (nat_eq r.node m && nat_eq r.index j) refl h where
  go : (is_read rs m j ≡ true → precedes n k m j ≡ true) → (b : Bool) → (nat_eq r.node m && nat_eq r.index j) ≡ b → (if b then true else is_read rs m j) ≡ true → precedes n k m j ≡ true
  go more true e p = let s = both_true (nat_eq r.node m) (nat_eq r.index j) e in rw (← eqb-true r.node m s.0, ← eqb-true r.index j s.1) all.0
  go more false e p = more p

-- words that are lower at the first input at which they differ come before
pub before_by : (f : ℕ → ℕ → ℕ) (n k : ℕ) (rs : List Read) (ws : List ℕ) → AreRising rs → AreWords rs ws → f n k < word_at rs ws n k
    → ((m j : ℕ) → is_read rs m j ≡ true → precedes m j n k ≡ true → f m j ≡ word_at rs ws m j) → ComesBefore (words_by f rs) ws
before_by f n k [] ws rising are lower same = absurd (omega (arith, lower))
before_by f n k (r ∷ rs) [] rising are lower same = absurd are
before_by f n k (r ∷ rs) (w ∷ ws) rising are lower same = go (before_by f n k rs ws rising.1 are.1) (nat_eq r.node n && nat_eq r.index k) refl where
  is : (nat_eq r.node r.node && nat_eq r.index r.index) ≡ true
  is = itself r.node r.index

  go : (f n k < word_at rs ws n k → ((m j : ℕ) → is_read rs m j ≡ true → precedes m j n k ≡ true → f m j ≡ word_at rs ws m j) → ComesBefore (words_by f rs) ws)
      → (own : Bool) → (nat_eq r.node n && nat_eq r.index k) ≡ own → ComesBefore (words_by f (r ∷ rs)) (w ∷ ws)
  go more true e =
      let s = both_true (nat_eq r.node n) (nat_eq r.index k) e in
      let here : f r.node r.index ≡ f n k = ap (λ (m : ℕ). f m r.index) (eqb-true r.node n s.0) ∙ ap (λ (j : ℕ). f n j) (eqb-true r.index k s.1) in
      less_first (f r.node r.index % 2 ^ r.width) w (words_by f rs) ws (omega (arith, mod-le (f r.node r.index) (2 ^ r.width), here, lower, own_word r rs w ws n k e))
  go more false e =
      let rest : word_at (r ∷ rs) (w ∷ ws) n k ≡ word_at rs ws n k = other_word r rs w ws n k e in
      let after : precedes r.node r.index n k ≡ true = behind_word r.node r.index n k rs ws rising.0 (omega (arith, lower, rest)) in
      let read : is_read (r ∷ rs) r.node r.index ≡ true = ap (λ (x : Bool). if x then true else is_read rs r.node r.index) is in
      let first : f r.node r.index ≡ w = same r.node r.index read after ∙ own_word r rs w ws r.node r.index is in
      same_first (f r.node r.index % 2 ^ r.width) w (words_by f rs) ws (ap (λ (x : ℕ). x % 2 ^ r.width) first ∙ mod-eq_of_lt are.0)
      ∙ more (omega (arith, lower, rest)) (λ m j one before.
      let own : (nat_eq r.node m && nat_eq r.index j) ≡ false = apart r.node r.index m j (read_behind r.node r.index m j rs rising.0 one) in
      same m j (ap (λ (x : Bool). if x then true else is_read rs m j) own ∙ one) before ∙ other_word r rs w ws m j own)

-- ---- what asks more

-- what is asked rests on the inputs that it reads alone
abbrev pub Rests : Query → Type 0
Rests q = (a b : Valuation) → ((n k : ℕ) → listed a n k % 2 ^ width_at q.reads n k ≡ listed b n k % 2 ^ width_at q.reads n k) → q.meets a ≡ q.meets b

-- inputs that meet the second meet the first, and it reads them at least as wide
pub record AsksMore (q p : Query) : Type 0 where
  pub meets : (a : Valuation) → p.meets a ≡ true → q.meets a ≡ true
  pub wider : (n k : ℕ) → width_at q.reads n k ≤ width_at p.reads n k

module _ (law : OneList) (q p : Query) (rising : AreRising q.reads) (wide : AreRising p.reads) (rests : Rests q) (more : AsksMore q p) (a : Valuation) (least : IsLeast q a) (meets : p.meets a ≡ true) where
  abbrev words : List ℕ
  words = least.given_words

  given : (n k : ℕ) → listed a n k ≡ word_at q.reads words n k
  given n k = ap (λ (v : Valuation). listed v n k) least.is ∙ listed_word q.reads words n k rising

  kept : (n k : ℕ) → word_at p.reads (cut_words a p.reads) n k ≡ listed a n k
  kept n k =
      let whole_word : listed a n k % 2 ^ width_at p.reads n k ≡ listed a n k = elim (cases_lt 0 (word_at q.reads words n k)) [
        | inl h ↦
            let fits : listed a n k < 2 ^ width_at q.reads n k = subst (λ (x : ℕ). x < 2 ^ width_at q.reads n k) (sym (given n k)) (fits_at q.reads words n k least.meet.0 h) in
            let power : 2 ^ width_at q.reads n k ≤ 2 ^ width_at p.reads n k = pow_mono (more.wider n k) in
            mod-eq_of_lt (omega (arith, fits, power))
        | inr h ↦
            let none : listed a n k ≡ 0 = omega (arith, given n k, h) in
            omega (arith, none, mod-le (listed a n k) (2 ^ width_at p.reads n k))
      ] in
      cut_word_at a p.reads n k ∙ whole_word

  stays : IsLeast p a
  stays =
      let is : a ≡ valuation_of p.reads (cut_words a p.reads) =
      law a (valuation_of p.reads (cut_words a p.reads)) (subst AreEntries (sym least.is) (valuation_entries q.reads words rising)) (valuation_entries p.reads (cut_words a p.reads) wide) (λ n k.
      sym (listed_word p.reads (cut_words a p.reads) n k wide ∙ kept n k)) in
      record {
        given_words = cut_words a p.reads;
        is = is;
        meet = (cut_are_words a p.reads, ap p.meets (sym is) ∙ meets);
        least = λ vs met before.
            let d = differ p.reads vs (cut_words a p.reads) wide met.0 (cut_are_words a p.reads) before in
            let b = valuation_of p.reads vs in
            let spelled : (n k : ℕ) → listed b n k ≡ word_at p.reads vs n k = λ n k. listed_word p.reads vs n k wide in
            let cut : q.meets (valuation_of q.reads (cut_words b q.reads)) ≡ q.meets b = rests (valuation_of q.reads (cut_words b q.reads)) b (λ n k.
            ap (λ (w : ℕ). w % 2 ^ width_at q.reads n k) (listed_word q.reads (cut_words b q.reads) n k rising ∙ cut_word_at b q.reads n k) ∙ mod-mod (listed b n k) (2 ^ width_at q.reads n k)) in
            least.least (cut_words b q.reads) (cut_are_words b q.reads, cut ∙ more.meets b met.1)
            (before_by (listed b) d.node d.index q.reads words rising least.meet.0 (omega (arith, d.lower, spelled d.node d.index, kept d.node d.index, given d.node d.index)) (λ m j one earlier.
            spelled m j ∙ (d.same m j earlier ∙ (kept m j ∙ given m j))));
      }

-- ---- formulas

term_rests : WordsByInputs → (t : Term) (widths : ℕ → ℕ → ℕ) → ((n k : ℕ) → greatest (reads_in t) n k ≤ widths n k) → (a b : Valuation) → ((n k : ℕ) → listed a n k % 2 ^ widths n k ≡ listed b n k % 2 ^ widths n k) → ev a t ≡ ev b t
term_rests words t widths wide a b same = words t a b (λ n k width reads.
    let within : width ≤ widths n k = omega (arith, read_widest t n k width reads, wide n k) in
    sym (cut_shorter (listed a n k) width (widths n k) within) ∙ (ap (λ (w : ℕ). w % 2 ^ width) (same n k) ∙ cut_shorter (listed b n k) width (widths n k) within))

formula_width : (f : Asked) (n k : ℕ) → width_at (query_of f).reads n k ≡ greatest (all_reads f) n k
formula_width f n k = rising_width (widest (all_reads f)) n k (widest_rising (all_reads f)) ∙ widest_greatest (all_reads f) n k

pub formula_rests : WordsByInputs → (f : Asked) → Rests (query_of f)
formula_rests words f a b same =
    meets_whole f a
    ∙ (ap (λ (w : ℕ). not (nat_eq w 0)) (term_rests words (whole f) (λ n k. width_at (query_of f).reads n k) (λ n k. omega (arith, whole_widest f n k, formula_width f n k)) a b same)
    ∙ sym (meets_whole f b))

and_left : (x y : Bool) → (x && y) ≡ true → x ≡ true
and_left x y h = (both_true x y h).0

columns_append : (a : Valuation) (css more : List (List Condition)) → columns_hold a (css ++ more) ≡ true → columns_hold a css ≡ true
columns_append a [] more h = refl
columns_append a (cs ∷ css) more h =
    let s = both_true (some_holds a cs) (columns_hold a (css ++ more)) h in
    rw (s.0, columns_append a css more s.1) refl

more_meets : (f : Asked) (c : Condition) (columns : List (List Condition)) (a : Valuation) → (query_of (with_more f c columns)).meets a ≡ true → (query_of f).meets a ≡ true
more_meets f c columns a h =
    let s = both_true (holds a (f.condition ++ c)) (columns_hold a (f.columns ++ columns)) h in
    let first : holds a f.condition ≡ true = and_left (holds a f.condition) (holds a c) (sym (holds-append a f.condition c) ∙ s.0) in
    rw (first, columns_append a f.columns columns s.1) refl

reads_append : (c d : Condition) (n k : ℕ) → greatest (reads_of (c ++ d)) n k ≡ max (greatest (reads_of c) n k) (greatest (reads_of d) n k)
reads_append [] d n k = omega arith
reads_append (l ∷ c) d n k = omega (arith, greatest_append (reads_in l.value) (reads_of (c ++ d)) n k, greatest_append (reads_in l.value) (reads_of c) n k, reads_append c d n k)

columns_reads_append : (css ds : List (List Condition)) (n k : ℕ) → greatest (flat_map (λ cs. flat_map reads_of cs) (css ++ ds)) n k ≡ max (greatest (flat_map (λ cs. flat_map reads_of cs) css) n k) (greatest (flat_map (λ cs. flat_map reads_of cs) ds) n k)
columns_reads_append [] ds n k = omega arith
columns_reads_append (cs ∷ css) ds n k =
    omega (arith, greatest_append (flat_map reads_of cs) (flat_map (λ es. flat_map reads_of es) (css ++ ds)) n k, greatest_append (flat_map reads_of cs) (flat_map (λ es. flat_map reads_of es) css) n k, columns_reads_append css ds n k)

more_wider : (f : Asked) (c : Condition) (columns : List (List Condition)) (n k : ℕ) → width_at (query_of f).reads n k ≤ width_at (query_of (with_more f c columns)).reads n k
more_wider f c columns n k =
    omega (
      arith,
      formula_width f n k,
      formula_width (with_more f c columns) n k,
      greatest_append (reads_of f.condition) (flat_map (λ cs. flat_map reads_of cs) f.columns) n k,
      greatest_append (reads_of (f.condition ++ c)) (flat_map (λ cs. flat_map reads_of cs) (f.columns ++ columns)) n k,
      reads_append f.condition c n k,
      columns_reads_append f.columns columns n k,
    )

pub least_stays : OneList → WordsByInputs → LeastStays
least_stays law words f c columns a least meets =
    stays law (query_of f) (query_of (with_more f c columns)) (widest_rising (all_reads f)) (widest_rising (all_reads (with_more f c columns))) (formula_rests words f)
    (record { meets = more_meets f c columns; wider = more_wider f c columns }) a least meets

pub never_stays : NeverStays
never_stays f c columns never a = go ((query_of (with_more f c columns)).meets a) refl where
  go : (b : Bool) → (query_of (with_more f c columns)).meets a ≡ b → b ≡ false
  go false e = refl
  go true e = let wrong : true ≡ false = sym (more_meets f c columns a e) ∙ never a in absurd cc

and_true : (x : Bool) → (x && true) ≡ x
and_true true = refl
and_true false = refl

pub without_columns : WithoutColumns
without_columns c =
    let asked : Query = query_of (record { condition = c; columns = [] }) in
    ap (λ (rs : List Read). record asked { reads = widest rs }) (append-nil (reads_of c))
    ∙ ap (λ (m : Valuation → Bool). record { reads = widest (reads_of c); meets = m }) (fun_ext (λ (a : Valuation). and_true (holds a c)))

pub least_is_one : LeastIsOne
least_is_one f a b p q =
    let rs = (query_of f).reads in
    let vs = p.given_words in
    let ws = q.given_words in
    let same : vs ≡ ws = elim (three (rank rs vs) (rank rs ws)) [
      | inl less ↦ absurd (q.least vs p.meet (lower_before rs vs ws p.meet.0 q.meet.0 less))
      | inr rest ↦ elim rest [
        | inl e ↦ one_rank rs vs ws p.meet.0 q.meet.0 e
        | inr more ↦ absurd (p.least ws q.meet (lower_before rs ws vs q.meet.0 p.meet.0 more))
      ]
    ] in
    p.is ∙ (ap (valuation_of rs) same ∙ sym q.is)

pub standing_is_live : StandingIsLive
standing_is_live budget q (Inputs a) least never small =
    let wrong : true ≡ false = sym (ap q.meets least.is ∙ least.meet.1) ∙ never a in
    absurd cc
standing_is_live budget q (Open leaves) far never small = far.1.large small
