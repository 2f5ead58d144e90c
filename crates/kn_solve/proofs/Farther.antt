-- What is far stays far where more is asked.
use Rattle.std.proofs.Common.{◌≡◌, ℕ, zero, suc, ◌+◌, ◌^◌, ◌%◌, ◌<◌, ◌≤◌, Bool, true, false, List, [], ◌∷◌, length, map, refl, sym, ap, ◌∙◌, inl, inr, arith}
use Rattle.std.specs.Prelude.{◌&&◌, Contains, nat_eq, if◌then◌else◌}
use Rattle.std.specs.List.{AllByRecursion}
use Rattle.std.proofs.lemmas.List.Sums.{sum_by-cons}
use Rattle.std.proofs.Math.Nat.{mod-le, mod-mod, mod-eq_of_lt}
use Rattle.std.proofs.Math.Pow.{pow_mono}
use Rattle.kn_built.proofs.Sorted.{All-each}
use Rattle.kn_built.proofs.Deciding.{both_true}
use Rattle.std.proofs.lemmas.Bool.{eqb-true}
use Rattle.kn_term.specs.Terms.{listed, WordsByInputs}
use Rattle.kn_term.specs.Valuations.{precedes}
use Rattle.kn_cond.specs.Conditions.{Read, Query, reads_of, AreWords, valuation_of, ComesBefore, MeetsWith, AreDistinct, IsFar, that}
use Rattle.kn_solve.specs.Orders.{width_of, rank, word_at}
use Rattle.kn_solve.specs.Asking.{RisesBehind, AreRising, width_at}
use Rattle.kn_solve.specs.Parts.{PartFar}
use Rattle.kn_solve.proofs.Ranks.{less_first, same_first, three, lower_before, one_rank}
use Rattle.kn_solve.proofs.Splitting.{listed_word, cut_words, cut_are_words, cut_word_at}
use Rattle.kn_solve.proofs.Widest.{own_width, greatest, widest_rising, rising_width}
use Rattle.kn_solve.proofs.Staying.{irreflexive, absent_word, itself, behind_word, apart, own_word, other_word, fits_at, differ, Rests, AsksMore}
use Rattle.kn_solve.proofs.Joining.{part_more, condition_rests}

-- ---- how many bits are read

-- the sum of a table over inputs
abbrev total : (ℕ → ℕ → ℕ) → List Read → ℕ
total f [] = 0
total f (r ∷ rs) = f r.node r.index + total f rs

total_least : (f g : ℕ → ℕ → ℕ) → ((n k : ℕ) → f n k ≤ g n k) → (rs : List Read) → total f rs ≤ total g rs
total_least f g h [] = omega arith
total_least f g h (r ∷ rs) = omega (arith, h r.node r.index, total_least f g h rs)

total_plus : (f g : ℕ → ℕ → ℕ) (rs : List Read) → total (λ n k. f n k + g n k) rs ≡ total f rs + total g rs
total_plus f g [] = refl
total_plus f g (r ∷ rs) = omega (arith, total_plus f g rs)

total_none : (rs : List Read) → total (λ n k. 0) rs ≡ 0
total_none [] = refl
total_none (r ∷ rs) = omega (arith, total_none rs)

-- an input is not among those behind it
own_behind : (s : Read) (rs : List Read) (r : Read) → nat_eq s.node r.node && nat_eq s.index r.index ≡ true → AllByRecursion (RisesBehind r.node r.index) rs → total (own_width s) rs ≡ 0
own_behind s [] r e all = refl
own_behind s (x ∷ xs) r e all =
    let both = both_true (nat_eq s.node r.node) (nat_eq s.index r.index) e in
    let before : precedes s.node s.index x.node x.index ≡ true = rw (eqb-true s.node r.node both.0, eqb-true s.index r.index both.1) all.0 in
    let none : own_width s x.node x.index ≡ 0 = ap (λ (b : Bool). if b then s.width else 0) (apart s.node s.index x.node x.index before) in
    omega (arith, none, own_behind s xs r e all.1)

total_own : (s : Read) (rs : List Read) → AreRising rs → total (own_width s) rs ≤ s.width
total_own s [] rising = omega arith
total_own s (r ∷ rs) rising = go (nat_eq s.node r.node && nat_eq s.index r.index) refl (total_own s rs rising.1) where
  go : (b : Bool) → (nat_eq s.node r.node && nat_eq s.index r.index) ≡ b → total (own_width s) rs ≤ s.width → (if b then s.width else 0) + total (own_width s) rs ≤ s.width
  go true e more = omega (arith, own_behind s rs r e rising.0)
  go false e more = omega (arith, more)

width_first : (s : Read) (ss : List Read) (n k : ℕ) → width_at (s ∷ ss) n k ≤ own_width s n k + width_at ss n k
width_first s ss n k = go (nat_eq s.node n && nat_eq s.index k) where
  go : (b : Bool) → (if b then s.width else width_at ss n k) ≤ (if b then s.width else 0) + width_at ss n k
  go true = omega arith
  go false = omega arith

total_widths : (rs ss : List Read) → AreRising rs → total (width_at ss) rs ≤ width_of ss
total_widths rs [] rising = omega (arith, total_none rs)
total_widths rs (s ∷ ss) rising =
    omega (arith, total_least (width_at (s ∷ ss)) (λ n k. own_width s n k + width_at ss n k) (width_first s ss) rs, total_plus (own_width s) (width_at ss) rs, total_own s rs rising, total_widths rs ss rising, sum_by-cons (λ (x : Read). x.width) s ss)

-- each read is no wider than the greatest of its input
own_greatest : (rs all : List Read) → ((n k : ℕ) → greatest rs n k ≤ greatest all n k) → AllByRecursion (λ (r : Read). r.width ≤ greatest all r.node r.index) rs
own_greatest [] all h = tt
own_greatest (r ∷ rs) all h =
    let own : own_width r r.node r.index ≡ r.width = ap (λ (b : Bool). if b then r.width else 0) (itself r.node r.index) in
    (omega (arith, own, h r.node r.index), own_greatest rs all (λ n k. omega (arith, h n k)))

total_covers : (f : ℕ → ℕ → ℕ) (rs : List Read) → AllByRecursion (λ (r : Read). r.width ≤ f r.node r.index) rs → width_of rs ≤ total f rs
total_covers f [] all = omega arith
total_covers f (r ∷ rs) all = omega (arith, sum_by-cons (λ (x : Read). x.width) r rs, all.0, total_covers f rs all.1)

-- where inputs are read at least as wide, at least as many bits are read
wider_more : (rs ss : List Read) → AreRising rs → ((n k : ℕ) → width_at rs n k ≤ width_at ss n k) → width_of rs ≤ width_of ss
wider_more rs ss rising wider =
    let each = All-each (λ (r : Read). r.width ≤ greatest rs r.node r.index) (λ (r : Read). r.width ≤ width_at ss r.node r.index) (λ r h. omega (arith, h, rising_width rs r.node r.index rising, wider r.node r.index)) rs (own_greatest rs rs (λ n k. omega arith)) in
    omega (arith, total_covers (width_at ss) rs each, total_widths rs ss rising)

-- ---- the words that come before

-- an input has no word among those behind it
absent_own : (r : Read) (rs : List Read) (us : List ℕ) → AllByRecursion (RisesBehind r.node r.index) rs → word_at rs us r.node r.index ≡ 0
absent_own r rs us all = absent_word r.node r.index r.node r.index rs us all (λ h. irreflexive r.node r.index h)

-- words that are no higher behind the same first word
behind_first : (r : Read) (rs : List Read) (w v : ℕ) (ws vs : List ℕ) (m j : ℕ) → AllByRecursion (RisesBehind r.node r.index) rs → w ≡ v → word_at (r ∷ rs) (w ∷ ws) m j ≤ word_at (r ∷ rs) (v ∷ vs) m j → word_at rs ws m j ≤ word_at rs vs m j
behind_first r rs w v ws vs m j all same h = go (nat_eq r.node m && nat_eq r.index j) refl h where
  go : (x : Bool) → (nat_eq r.node m && nat_eq r.index j) ≡ x → (if x then w else word_at rs ws m j) ≤ (if x then v else word_at rs vs m j) → word_at rs ws m j ≤ word_at rs vs m j
  go false own h = h
  go true own h =
      let s = both_true (nat_eq r.node m) (nat_eq r.index j) own in
      let none : word_at rs ws m j ≡ 0 = rw (← eqb-true r.node m s.0, ← eqb-true r.index j s.1) (absent_own r rs ws all) in
      omega (arith, none)

-- words that are nowhere higher up to an input, and lower there, come before
lower_at : (n k : ℕ) (rs : List Read) (ws vs : List ℕ) → AreRising rs → AreWords rs ws → AreWords rs vs → word_at rs ws n k < word_at rs vs n k
    → ((m j : ℕ) → precedes m j n k ≡ true → word_at rs ws m j ≤ word_at rs vs m j) → ComesBefore ws vs
lower_at n k [] ws vs rising p q lower no_higher = absurd (omega (arith, lower))
lower_at n k (r ∷ rs) [] vs rising p q lower no_higher = absurd p
lower_at n k (r ∷ rs) (w ∷ ws) [] rising p q lower no_higher = absurd q
lower_at n k (r ∷ rs) (w ∷ ws) (v ∷ vs) rising p q lower no_higher = go (lower_at n k rs ws vs rising.1 p.1 q.1) (nat_eq r.node n && nat_eq r.index k) refl where
  go : (word_at rs ws n k < word_at rs vs n k → ((m j : ℕ) → precedes m j n k ≡ true → word_at rs ws m j ≤ word_at rs vs m j) → ComesBefore ws vs) → (own : Bool) → (nat_eq r.node n && nat_eq r.index k) ≡ own → ComesBefore (w ∷ ws) (v ∷ vs)
  go rest_lower true e = less_first w v ws vs (omega (arith, lower, own_word r rs w ws n k e, own_word r rs v vs n k e))
  go rest_lower false e =
      let first = other_word r rs w ws n k e in
      let second = other_word r rs v vs n k e in
      let after : precedes r.node r.index n k ≡ true = behind_word r.node r.index n k rs vs rising.0 (omega (arith, lower, second)) in
      let is = itself r.node r.index in
      let here : w ≤ v = omega (arith, no_higher r.node r.index after, own_word r rs w ws r.node r.index is, own_word r rs v vs r.node r.index is) in
      elim (three w v) [
        | inl less ↦ less_first w v ws vs less
        | inr rest ↦ elim rest [
          | inl same ↦ same_first w v ws vs same ∙ rest_lower (omega (arith, lower, first, second)) (λ m j earlier. behind_first r rs w v ws vs m j rising.0 same (no_higher m j earlier))
          | inr more ↦ absurd (omega (arith, more, here))
        ]
      ]

-- words that are the same at each input are the same
same_words : (rs : List Read) (ws vs : List ℕ) → AreRising rs → AreWords rs ws → AreWords rs vs → ((n k : ℕ) → word_at rs ws n k ≡ word_at rs vs n k) → ws ≡ vs
same_words rs ws vs rising p q same = elim (three (rank rs ws) (rank rs vs)) [
  | inl less ↦ absurd (apart_words ws vs p q same less)
  | inr rest ↦ elim rest [
    | inl e ↦ one_rank rs ws vs p q e
    | inr more ↦ absurd (apart_words vs ws q p (λ n k. sym (same n k)) more)
  ]
]
  where
    apart_words : (xs ys : List ℕ) → AreWords rs xs → AreWords rs ys → ((n k : ℕ) → word_at rs xs n k ≡ word_at rs ys n k) → rank rs xs < rank rs ys → ⊥
    apart_words xs ys p q same less =
        let d = differ rs xs ys rising p q (lower_before rs xs ys p q less) in
        omega (arith, d.lower, same d.node d.index)

-- ---- what was tried

abbrev Both : {A : Type 0} → (A → Type 0) → (A → Type 0) → A → Type 0
Both P Q x = P x × Q x

all_both : {A : Type 0} (P Q : A → Type 0) (xs : List A) → AllByRecursion P xs → AllByRecursion Q xs → AllByRecursion (Both P Q) xs
all_both P Q [] one other = tt
all_both P Q (x ∷ xs) one other = ((one.0, other.0), all_both P Q xs one.1 other.1)

all_made : {A B : Type 0} (P : B → Type 0) (f : A → B) → ((x : A) → P (f x)) → (xs : List A) → AllByRecursion P (map f xs)
all_made P f each [] = tt
all_made P f each (x ∷ xs) = (each x, all_made P f each xs)

all_made_of : {A B : Type 0} (P : B → Type 0) (Q : A → Type 0) (f : A → B) → ((x : A) → Q x → P (f x)) → (xs : List A) → AllByRecursion Q xs → AllByRecursion P (map f xs)
all_made_of P Q f each [] all = tt
all_made_of P Q f each (x ∷ xs) all = (each x all.0, all_made_of P Q f each xs all.1)

count_made : {A B : Type 0} (f : A → B) (xs : List A) → length (map f xs) ≡ length xs
count_made f [] = refl
count_made f (x ∷ xs) = ap (λ (n : ℕ). suc n) (count_made f xs)

made_back : {A B : Type 0} (P : A → Type 0) (f : A → B) → ((x y : A) → P x → P y → f x ≡ f y → x ≡ y) → (x : A) → P x → (xs : List A) → AllByRecursion P xs → Contains (map f xs) (f x) → Contains xs x
made_back P f one x own [] all (k, h, e) = absurd (omega (arith, h))
made_back P f one x own (y ∷ ys) all (zero, h, e) = (0, omega arith, one y x all.0 own e)
made_back P f one x own (y ∷ ys) all (suc k, h, e) = let found = made_back P f one x own ys all.1 (k, omega (arith, h), e) in (suc found.0, omega (arith, found.1), found.2)

distinct_made : {A B : Type 0} (P : A → Type 0) (f : A → B) → ((x y : A) → P x → P y → f x ≡ f y → x ≡ y) → (xs : List A) → AllByRecursion P xs → AreDistinct xs → AreDistinct (map f xs)
distinct_made P f one [] all h = tt
distinct_made P f one (x ∷ xs) all h = (λ c. h.0 (made_back P f one x all.0 xs all.1 c), distinct_made P f one xs all.1 h.1)

module _ (q p : Query) (rising : AreRising q.reads) (wide : AreRising p.reads) (rests : Rests q) (more : AsksMore q p) where
  -- the same words for the inputs that were read, and 0 for the others
  abbrev with_zeros : List ℕ → List ℕ
  with_zeros ws = cut_words (valuation_of q.reads ws) p.reads

  word_cut : (ws : List ℕ) (n k : ℕ) → word_at p.reads (with_zeros ws) n k ≡ word_at q.reads ws n k % 2 ^ width_at p.reads n k
  word_cut ws n k = cut_word_at (valuation_of q.reads ws) p.reads n k ∙ ap (λ (x : ℕ). x % 2 ^ width_at p.reads n k) (listed_word q.reads ws n k rising)

  word_kept : (ws : List ℕ) (n k : ℕ) → AreWords q.reads ws → word_at p.reads (with_zeros ws) n k ≡ word_at q.reads ws n k
  word_kept ws n k are = word_cut ws n k ∙ go (word_at q.reads ws n k) refl where
    go : (x : ℕ) → word_at q.reads ws n k ≡ x → word_at q.reads ws n k % 2 ^ width_at p.reads n k ≡ word_at q.reads ws n k
    go zero e = ap (λ (x : ℕ). x % 2 ^ width_at p.reads n k) e ∙ (zero_mod (2 ^ width_at p.reads n k) ∙ sym e) where
      zero_mod : (m : ℕ) → 0 % m ≡ 0
      zero_mod m = omega arith
    go (suc x) e =
        let fits : word_at q.reads ws n k < 2 ^ width_at q.reads n k = fits_at q.reads ws n k are (omega (arith, e)) in
        let power : 2 ^ width_at q.reads n k ≤ 2 ^ width_at p.reads n k = pow_mono (more.wider n k) in
        mod-eq_of_lt (omega (arith, fits, power))

  one_made : (ws vs : List ℕ) → AreWords q.reads ws → AreWords q.reads vs → with_zeros ws ≡ with_zeros vs → ws ≡ vs
  one_made ws vs p_are q_are same =
      same_words q.reads ws vs rising p_are q_are (λ n k. sym (word_kept ws n k p_are) ∙ (ap (λ (xs : List ℕ). word_at p.reads xs n k) same ∙ word_kept vs n k q_are))

  zeros_before : (ws : List ℕ) → Both (AreWords q.reads) (λ ws. (vs : List ℕ) → MeetsWith q vs → ComesBefore ws vs) ws → (vs : List ℕ) → MeetsWith p vs → ComesBefore (with_zeros ws) vs
  zeros_before ws (are, before) vs meets =
      let u = valuation_of p.reads vs in
      let cut_at : (n k : ℕ) → word_at q.reads (cut_words u q.reads) n k ≤ word_at p.reads vs n k = λ n k. omega (arith, cut_word_at u q.reads n k, listed_word p.reads vs n k wide, mod-le (listed u n k) (2 ^ width_at q.reads n k)) in
      let cut : q.meets (valuation_of q.reads (cut_words u q.reads)) ≡ q.meets u = rests (valuation_of q.reads (cut_words u q.reads)) u (λ n k.
      ap (λ (w : ℕ). w % 2 ^ width_at q.reads n k) (listed_word q.reads (cut_words u q.reads) n k rising ∙ cut_word_at u q.reads n k) ∙ mod-mod (listed u n k) (2 ^ width_at q.reads n k)) in
      let d = differ q.reads ws (cut_words u q.reads) rising are (cut_are_words u q.reads) (before (cut_words u q.reads) (cut_are_words u q.reads, cut ∙ more.meets u meets.1)) in
      let no_more : (n k : ℕ) → word_at p.reads (with_zeros ws) n k ≤ word_at q.reads ws n k = λ n k. omega (arith, word_cut ws n k, mod-le (word_at q.reads ws n k) (2 ^ width_at p.reads n k)) in
      lower_at d.node d.index p.reads (with_zeros ws) vs wide (cut_are_words (valuation_of q.reads ws) p.reads) meets.0
      (omega (arith, no_more d.node d.index, d.lower, cut_at d.node d.index)) (λ m j earlier. omega (arith, no_more m j, d.same m j earlier, cut_at m j))

  far_more : (budget : ℕ) → IsFar budget q → IsFar budget p
  far_more budget far =
      let bits : width_of q.reads ≤ width_of p.reads = wider_more q.reads p.reads rising more.wider in
      let power : 2 ^ width_of q.reads ≤ 2 ^ width_of p.reads = pow_mono bits in
      record {
        large = λ small. far.large (omega (arith, small, power));
        tried = map with_zeros far.tried;
        many = count_made with_zeros far.tried ∙ far.many;
        distinct = distinct_made (AreWords q.reads) with_zeros one_made far.tried far.each far.distinct;
        each = all_made (AreWords p.reads) with_zeros (λ ws. cut_are_words (valuation_of q.reads ws) p.reads) far.tried;
        before = all_made_of (λ (ws : List ℕ). (vs : List ℕ) → MeetsWith p vs → ComesBefore ws vs) (Both (AreWords q.reads) (λ ws. (vs : List ℕ) → MeetsWith q vs → ComesBefore ws vs)) with_zeros zeros_before far.tried
            (all_both (AreWords q.reads) (λ (ws : List ℕ). (vs : List ℕ) → MeetsWith q vs → ComesBefore ws vs) far.tried far.each far.before);
      }

pub part_far : WordsByInputs → PartFar
part_far words budget whole part among far = far_more (that part) (that whole) (widest_rising (reads_of part)) (widest_rising (reads_of whole)) (condition_rests words part) (part_more part whole among) budget far
