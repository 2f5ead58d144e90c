-- Words by their place in the order of least inputs.
use Rattle.std.proofs.Common.{◌≡◌, ℕ, ◌+◌, ◌-◌, ◌*◌, ◌/◌, ◌%◌, ◌^◌, ◌<◌, ◌≤◌, Bool, true, false, not, List, [], ◌∷◌, length, map, drop, get_or, refl, sym, ap, subst, ◌∙◌, inl, inr, arith}
use Rattle.std.specs.Prelude.{◌&&◌, nat_eq, if◌then◌else◌}
use Rattle.std.proofs.lemmas.Bool.{cases_eq, eqb-true, eq-eqb}
use Rattle.std.proofs.lemmas.List.Sums.{sum_by-cons}
use Rattle.std.proofs.lemmas.List.{drop_more}
use Rattle.std.proofs.lemmas.Nat.{pow_pos}
use Rattle.std.proofs.Math.Nat.{mod-lt, mod-eq_of_lt, div-add-mod, div-div-eq-div-mul}
use Rattle.std.proofs.Math.Arith.{mod-mul}
use Rattle.std.proofs.Math.Pow.{pow-add}
use Rattle.kn_built.proofs.Deciding.{both_true}
use Rattle.kn_term.specs.Terms.{Term, Valuation, listed, ev}
use Rattle.kn_term.specs.Valuations.{AreEntries, OneList}
use Rattle.kn_cond.specs.Conditions.{Read, Query, AreWords, valuation_of, IsLeast}
use Rattle.kn_blast.specs.declared.inputs.InputBits.{InputBits}
use Rattle.kn_blast.specs.Inputs.{bits_of, AreInputBits}
use Rattle.kn_solve.specs.Orders.{width_of, rank, word_at, words_for, NoneBelow}
use Rattle.kn_solve.specs.Asking.{AreRising, read_of, IsOfTerm}
use Rattle.kn_solve.proofs.Ranks.{before_lower, one_rank}
use Rattle.kn_solve.proofs.Splitting.{entries_width, listed_word, valuation_entries}
use Rattle.kn_solve.proofs.Answering.{entries_rising}

pub words_for_are : (rs : List Read) (i : ℕ) → AreWords rs (words_for rs i)
words_for_are [] i = tt
words_for_are (r ∷ rs) i = (mod-lt (i / 2 ^ width_of rs) (pow_pos r.width), words_for_are rs i)

mod_one : (i : ℕ) → 0 ≡ i % 2 ^ 0
mod_one i = omega (arith, mod-lt i (pow_pos 0))

pub rank_words_for : (rs : List Read) (i : ℕ) → rank rs (words_for rs i) ≡ i % 2 ^ width_of rs
rank_words_for [] i = mod_one i
rank_words_for (r ∷ rs) i =
    let power : 2 ^ width_of (r ∷ rs) ≡ 2 ^ r.width * 2 ^ width_of rs = ap (λ (n : ℕ). 2 ^ n) (sum_by-cons (λ (x : Read). x.width) r rs) ∙ pow-add 2 r.width (width_of rs) in
    ap (λ (n : ℕ). i / 2 ^ width_of rs % 2 ^ r.width * 2 ^ width_of rs + n) (rank_words_for rs i) ∙ (sym (mod-mul i (pow_pos r.width) (pow_pos (width_of rs))) ∙ ap (λ (n : ℕ). i % n) (sym power))

-- ---- the words of a place

both : (x y : Bool) → x ≡ true → y ≡ true → (x && y) ≡ true
both x y e s = rw (e, s) refl

-- one more input in front
pub word_more : (es : List InputBits) (e : InputBits) (i left : ℕ) (n k : ℕ) (old new : Valuation) → left ≡ i / 2 ^ bits_of es → ((n k : ℕ) → listed old n k ≡ word_at (map read_of es) (words_for (map read_of es) i) n k)
    → listed new e.node e.index ≡ left % 2 ^ e.width → ((n k : ℕ) → ((n ≡ e.node) × (k ≡ e.index) → ⊥) → listed new n k ≡ listed old n k)
    → listed new n k ≡ word_at (map read_of (e ∷ es)) (words_for (map read_of (e ∷ es)) i) n k
word_more es e i left n k old new is given own others = go (nat_eq e.node n && nat_eq e.index k) refl where
  wide : i / 2 ^ bits_of es ≡ i / 2 ^ width_of (map read_of es)
  wide = ap (λ (b : ℕ). i / 2 ^ b) (sym (entries_width es))

  go : (b : Bool) → (nat_eq e.node n && nat_eq e.index k) ≡ b → listed new n k ≡ (if b then i / 2 ^ width_of (map read_of es) % 2 ^ e.width else word_at (map read_of es) (words_for (map read_of es) i) n k)
  go true h =
      let s = both_true (nat_eq e.node n) (nat_eq e.index k) h in
      ap (λ (m : ℕ). listed new m k) (sym (eqb-true e.node n s.0)) ∙ (ap (λ (j : ℕ). listed new e.node j) (sym (eqb-true e.index k s.1)) ∙ (own ∙ ap (λ (x : ℕ). x % 2 ^ e.width) (is ∙ wide)))
  go false h = others n k (λ same. apart same) ∙ given n k where
    apart : (n ≡ e.node) × (k ≡ e.index) → ⊥
    apart same =
        let wrong : true ≡ false = sym (both (nat_eq e.node n) (nat_eq e.index k) (eq-eqb e.node n (sym same.0)) (eq-eqb e.index k (sym same.1))) ∙ h in
        absurd cc

pub left_more : (es : List InputBits) (e : InputBits) (i left : ℕ) → left ≡ i / 2 ^ bits_of es → left / 2 ^ e.width ≡ i / 2 ^ bits_of (e ∷ es)
left_more es e i left is =
    ap (λ (x : ℕ). x / 2 ^ e.width) is ∙ (div-div-eq-div-mul i (2 ^ bits_of es) (2 ^ e.width) ∙ ap (λ (x : ℕ). i / x) (sym (ap (λ (n : ℕ). 2 ^ n) (plus_swap e.width (bits_of es)) ∙ pow-add 2 (bits_of es) e.width)))
  where
    plus_swap : (a b : ℕ) → a + b ≡ b + a
    plus_swap a b = omega arith

-- the input before a place
pub place_more : (es : List InputBits) (d : InputBits) (place i left rest word : ℕ) (old new : Valuation) → 0 < place → place ≤ length es → left ≡ i / 2 ^ bits_of (drop place es) → rest ≡ left / 2 ^ (get_or es (place - 1) d).width → word ≡ left % 2 ^ (get_or es (place - 1) d).width
    → ((n k : ℕ) → listed old n k ≡ word_at (map read_of (drop place es)) (words_for (map read_of (drop place es)) i) n k) → listed new (get_or es (place - 1) d).node (get_or es (place - 1) d).index ≡ word
    → ((n k : ℕ) → ((n ≡ (get_or es (place - 1) d).node) × (k ≡ (get_or es (place - 1) d).index) → ⊥) → listed new n k ≡ listed old n k)
    → (rest ≡ i / 2 ^ bits_of (drop (place - 1) es)) × ((n k : ℕ) → listed new n k ≡ word_at (map read_of (drop (place - 1) es)) (words_for (map read_of (drop (place - 1) es)) i) n k)
place_more es d place i left rest word old new h within is of_rest of_word given own others =
    let e = get_or es (place - 1) d in
    let parts : drop (place - 1) es ≡ e ∷ drop place es = drop_more es (place - 1) d (omega (arith, h, within)) ∙ ap (λ (n : ℕ). e ∷ drop n es) (back place h) in (
      of_rest ∙ (left_more (drop place es) e i left is ∙ ap (λ (xs : List InputBits). i / 2 ^ bits_of xs) (sym parts)),
      λ n k. word_more (drop place es) e i left n k old new is given (own ∙ of_word) others ∙ ap (λ (xs : List InputBits). word_at (map read_of xs) (words_for (map read_of xs) i) n k) (sym parts),
    )
  where
    back : (p : ℕ) → 0 < p → p - 1 + 1 ≡ p
    back p h = omega (arith, h)

-- where nothing is left the number is low enough
zero_times : (p : ℕ) → p * 0 ≡ 0
zero_times p = omega arith

low_enough : (i p : ℕ) → 0 < p → i / p ≡ 0 → i < p
low_enough i p h e =
    let none : p * (i / p) ≡ 0 = ap (λ (x : ℕ). p * x) e ∙ zero_times p in
    omega (arith, mod-lt i h, div-add-mod i p, none)

pub not_zero : (w x : ℕ) → w ≡ x → (w ≡ 0 → ⊥) → not (nat_eq x 0) ≡ true
not_zero w x e h = go (nat_eq x 0) refl where
  go : (b : Bool) → nat_eq x 0 ≡ b → not b ≡ true
  go false own = refl
  go true own = absurd (h (e ∙ eqb-true x 0 own))

pub is_zero : (w x : ℕ) → w ≡ x → w ≡ 0 → not (nat_eq x 0) ≡ false
is_zero w x e h = ap not (eq-eqb x 0 (sym e ∙ h))

module _ (law : OneList) (q : Query) (t : Term) (es : List InputBits) (asked : IsOfTerm q t) (reads : q.reads ≡ map read_of es) (order : AreInputBits 0 es) (i : ℕ) (left : ℕ) (is : left ≡ i / 2 ^ bits_of es) (nothing : left ≡ 0)
    (a : Valuation) (given : (n k : ℕ) → listed a n k ≡ word_at (map read_of es) (words_for (map read_of es) i) n k) (entries : AreEntries a) (none : NoneBelow q i) where
  abbrev words : List ℕ
  words = words_for q.reads i

  rising : AreRising q.reads
  rising = subst AreRising (sym reads) (entries_rising 0 es order)

  place : rank q.reads words ≡ i
  place =
      let low : i < 2 ^ bits_of es = low_enough i (2 ^ bits_of es) (pow_pos (bits_of es)) (sym is ∙ nothing) in
      let wide : 2 ^ width_of q.reads ≡ 2 ^ bits_of es = ap (λ (rs : List Read). 2 ^ width_of rs) reads ∙ ap (λ (n : ℕ). 2 ^ n) (entries_width es) in
      rank_words_for q.reads i ∙ (ap (λ (n : ℕ). i % n) wide ∙ mod-eq_of_lt low)

  is_words : a ≡ valuation_of q.reads words
  is_words = law a (valuation_of q.reads words) entries (valuation_entries q.reads words rising) (λ n k.
      given n k ∙ (ap (λ (rs : List Read). word_at rs (words_for rs i) n k) (sym reads) ∙ sym (listed_word q.reads words n k rising)))

  -- the term is not 0
  pub early_least : not (nat_eq (ev a t) 0) ≡ true → IsLeast q a
  early_least h = record {
    given_words = words;
    is = is_words;
    meet = (words_for_are q.reads i, ap q.meets (sym is_words) ∙ (asked.meets a ∙ h));
    least = λ ws met before. none ws met (omega (arith, place, before_lower q.reads ws words met.0 (words_for_are q.reads i) before));
  }

  -- the term is 0
  pub none_more : not (nat_eq (ev a t) 0) ≡ false → NoneBelow q (i + 1)
  none_more h ws met below = elim (cases_eq (rank q.reads ws) i) [
    | inl e ↦
        let same : ws ≡ words = one_rank q.reads ws words met.0 (words_for_are q.reads i) (e ∙ sym place) in
        let wrong : true ≡ false = sym met.1 ∙ (ap (λ (vs : List ℕ). q.meets (valuation_of q.reads vs)) same ∙ (ap q.meets (sym is_words) ∙ (asked.meets a ∙ h))) in
        absurd cc
    | inr other ↦ none ws met (omega (arith, below, other))
  ]
