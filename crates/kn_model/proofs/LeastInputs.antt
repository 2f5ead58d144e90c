-- Of a plain condition that does not clash, the inputs that it forces to be 1 are the least that meet it.
use Rattle.std.proofs.Common.{◌≡◌, ◌⊎◌, inl, inr, ℕ, ◌^◌, ◌%◌, ◌<◌, Bool, true, false, cond, List, [], ◌∷◌, ◌++◌, map, refl, sym, ap, subst, ◌∙◌, arith}
use Rattle.std.specs.Prelude.{not, ◌&&◌, ◌||◌, nat_eq, nat_lt}
use Rattle.std.specs.List.{AllByRecursion}
use Rattle.std.specs.declared.cmp.Ordering.{Ordering}
use Rattle.std.specs.declared.cmp.Ordering.TheVariants.{Less, Equal, Greater}
use Rattle.std.specs.Ordering.{nat_cmp, ordering_then}
use Rattle.std.specs.Cmp.Lexicographic.{slice_cmp}
use Rattle.std.proofs.lemmas.Bool.{eqb-true, eqb-false, eq-eqb, ne_eqb, ltb-true, ltb-false, lt-ltb, le-ltb}
use Rattle.kn_word.specs.Words.{one_if}
use Rattle.kn_model.specs.Values.{Literal}
use Rattle.kn_model.specs.Terms.{Term, Word, Input, Apply, Choice, Given, Valuation, listed, same_bit, word_holds}
use Rattle.kn_model.specs.Conditions.{Condition, Query, Read, holds, literal_holds, read_cmp, put_before, put_read, widest, reads_in, reads_of, that, AreWords, listing, valuation_of, IsLeast, IsPossible, IsLive}
use Rattle.kn_model.specs.Deciding.{IsPlain, IsPlainTerm, is_false, is_false_on, opposes, opposes_on, some_opposes, clashes, put_one, forced_by, forced}
use Rattle.kn_model.proofs.Clashing.{and_false, both, either, neither, on}

-- the place of an input, node and index, is before that of another
abbrev pub Under : (n k m j : ℕ) → Type 0
Under n k m j = (n < m) ⊎ ((n ≡ m) × (k < j))

pub under_on : (n k m j p q : ℕ) → Under n k m j → Under m j p q → Under n k p q
under_on n k m j p q (inl h) (inl i) = inl (omega (arith, h, i))
under_on n k m j p q (inl h) (inr i) = let e = i.0 in inl (omega (arith, h, e))
under_on n k m j p q (inr h) (inl i) = let e = h.0 in inl (omega (arith, e, i))
under_on n k m j p q (inr h) (inr i) = let x = h.1 in let y = i.1 in inr (h.0 ∙ i.0, omega (arith, x, y))

pub before_true : (n k m j : ℕ) → Under n k m j → (nat_lt n m || nat_eq n m && nat_lt k j) ≡ true
before_true n k m j (inl h) = ap (λ (b : Bool). b || nat_eq n m && nat_lt k j) (lt-ltb n m h)
before_true n k m j (inr h) =
    let e = h.0 in
    rw (le-ltb n m (omega (arith, e)), eq-eqb n m h.0, lt-ltb k j h.1) refl

before_false : (n k m j : ℕ) → Under m j n k → (nat_lt n m || nat_eq n m && nat_lt k j) ≡ false
before_false n k m j (inl h) = rw (le-ltb n m (omega (arith, h)), ne_eqb n m (λ e. omega (arith, h, e))) refl
before_false n k m j (inr h) =
    let e = h.0 in
    let i = h.1 in
    rw (le-ltb n m (omega (arith, e)), eq-eqb n m (sym e), le-ltb k j (omega (arith, i))) refl

same_before : (n k m j : ℕ) → n ≡ m → k ≡ j → (nat_lt n m || nat_eq n m && nat_lt k j) ≡ false
same_before n k m j e i = rw (le-ltb n m (omega (arith, e)), eq-eqb n m e, le-ltb k j (omega (arith, i))) refl

place_differs : (n k m j : ℕ) → Under n k m j → (nat_eq n m && nat_eq k j) ≡ false
place_differs n k m j (inl h) = ap (λ (b : Bool). b && nat_eq k j) (ne_eqb n m (λ e. omega (arith, h, e)))
place_differs n k m j (inr h) = let i = h.1 in rw (eq-eqb n m h.0, ne_eqb k j (λ e. omega (arith, i, e))) refl

other_differs : (n k m j : ℕ) → Under m j n k → (nat_eq n m && nat_eq k j) ≡ false
other_differs n k m j (inl h) = ap (λ (b : Bool). b && nat_eq k j) (ne_eqb n m (λ e. omega (arith, h, e)))
other_differs n k m j (inr h) = let i = h.1 in rw (eq-eqb n m (sym h.0), ne_eqb k j (λ e. omega (arith, i, e))) refl

-- what an answer of a comparison says
abbrev Order : Ordering → ℕ → ℕ → Type 0
Order Less x y = x < y
Order Equal x y = x ≡ y
Order Greater x y = y < x

order : (x y : ℕ) → Order (nat_cmp x y) x y
order x y = go (nat_lt x y) refl (nat_eq x y) refl
  where
    go : (a : Bool) → nat_lt x y ≡ a → (b : Bool) → nat_eq x y ≡ b → Order (cond a Less (cond b Equal Greater)) x y
    go true h b i = ltb-true x y h
    go false h true i = eqb-true x y i
    go false h false i = let le = ltb-false x y h in let ne = eqb-false x y i in omega (arith, le, ne)

abbrev pub Place : Ordering → Read → Read → Type 0
Place Less r s = Under r.node r.index s.node s.index
Place Equal r s = (r.node ≡ s.node) × (r.index ≡ s.index)
Place Greater r s = Under s.node s.index r.node r.index

pub place : (r s : Read) → Place (read_cmp r s) r s
place r s = go (nat_cmp r.node s.node) (order r.node s.node) (nat_cmp r.index s.index) (order r.index s.index)
  where
    go : (o : Ordering) → Order o r.node s.node → (p : Ordering) → Order p r.index s.index → Place (ordering_then o p) r s
    go Less h p i = inl h
    go Greater h p i = inl h
    go Equal h Less i = inr (h, i)
    go Equal h Equal i = (h, i)
    go Equal h Greater i = inr (sym h, i)

-- reads in order of their places
abbrev pub Above : ℕ → ℕ → List Read → Type 0
Above n k rs = AllByRecursion (λ (s : Read). Under n k s.node s.index) rs

abbrev pub Sorted : List Read → Type 0
Sorted [] = Unit {0}
Sorted (r ∷ rs) = Above r.node r.index rs × Sorted rs

above_on : (n k m j : ℕ) → Under n k m j → (rs : List Read) → Above m j rs → Above n k rs
above_on n k m j h [] a = tt
above_on n k m j h (r ∷ rs) a = (under_on n k m j r.node r.index h a.0, above_on n k m j h rs a.1)

above_put : (n k : ℕ) (r : Read) (rs : List Read) → Under n k r.node r.index → Above n k rs → Above n k (put_read r rs)
above_put n k r [] h a = (h, tt)
above_put n k r (s ∷ ss) h a = go (read_cmp r s) (above_put n k r ss h a.1)
  where
    go : (o : Ordering) → Above n k (put_read r ss) → Above n k (put_before o r s ss (put_read r ss))
    go Less ih = (h, a)
    go Equal ih = a
    go Greater ih = (a.0, ih)

sorted_put : (r : Read) (rs : List Read) → Sorted rs → Sorted (put_read r rs)
sorted_put r [] a = (tt, tt)
sorted_put r (s ∷ ss) a = go (read_cmp r s) (place r s) (sorted_put r ss a.1)
  where
    go : (o : Ordering) → Place o r s → Sorted (put_read r ss) → Sorted (put_before o r s ss (put_read r ss))
    go Less h ih = ((h, above_on r.node r.index s.node s.index h ss a.0), a)
    go Equal h ih = a
    go Greater h ih = (above_put s.node s.index r ss h a.0, ih)

pub sorted_widest : (rs : List Read) → Sorted (widest rs)
sorted_widest [] = tt
sorted_widest (r ∷ rs) = sorted_put r (widest rs) (sorted_widest rs)

-- reads of one bit
abbrev AreBits : List Read → Type 0
AreBits rs = AllByRecursion (λ (r : Read). r.width ≡ 1) rs

bits_put : (r : Read) (rs : List Read) → r.width ≡ 1 → AreBits rs → AreBits (put_read r rs)
bits_put r [] h a = (h, tt)
bits_put r (s ∷ ss) h a = go (read_cmp r s) (bits_put r ss h a.1)
  where
    go : (o : Ordering) → AreBits (put_read r ss) → AreBits (put_before o r s ss (put_read r ss))
    go Less ih = (h, a)
    go Equal ih = (rw (h, a.0) refl, a.1)
    go Greater ih = (a.0, ih)

plain_bits : (c : Condition) → IsPlain c → AreBits (widest (reads_of c))
plain_bits [] p = tt
plain_bits (l ∷ c) p = go l.value p.0 (plain_bits c p.1)
  where
    go : (t : Term) → IsPlainTerm t → AreBits (widest (reads_of c)) → AreBits (widest (reads_in t ++ reads_of c))
    go (Word w) h ih = ih
    go (Input n k width) h ih = bits_put (record { node = n; index = k; width = width }) (widest (reads_of c)) h ih
    go (Apply op x y) h ih = absurd h
    go (Choice d x y) h ih = absurd h

-- 1 at these places, 0 at all others
abbrev Places : Type 0
Places = ℕ → ℕ → Bool

abbrev bits_at : Places → List Read → List ℕ
bits_at f rs = map (λ (r : Read). one_if (f r.node r.index)) rs

abbrev ones : Places → List Read → Valuation
ones f rs = valuation_of rs (bits_at f rs)

abbrev AboveAll : ℕ → ℕ → Valuation → Type 0
AboveAll n k a = AllByRecursion (λ (g : Given). Under n k g.node g.index) a

above_ones : (f : Places) (n k : ℕ) (rs : List Read) → Above n k rs → AboveAll n k (ones f rs)
above_ones f n k [] a = tt
above_ones f n k (r ∷ rs) a = go (f r.node r.index) (above_ones f n k rs a.1)
  where
    go : (b : Bool) → AboveAll n k (ones f rs) → AboveAll n k (listing r (one_if b) (ones f rs))
    go true ih = (a.0, ih)
    go false ih = ih

same_ones : (f g : Places) (rs : List Read) → AllByRecursion (λ (r : Read). f r.node r.index ≡ g r.node r.index) rs → ones f rs ≡ ones g rs
same_ones f g [] a = refl
same_ones f g (r ∷ rs) a = ap (λ (b : Bool). listing r (one_if b) (ones f rs)) a.0 ∙ ap (listing r (one_if (g r.node r.index))) (same_ones f g rs a.1)

put_first : (n k : ℕ) (a : Valuation) → AboveAll n k a → put_one n k a ≡ record { node = n; index = k; word = 1 } ∷ a
put_first n k [] h = refl
put_first n k (g ∷ a) h = rw (before_true n k g.node g.index h.0) refl

put_same : (n k : ℕ) (g : Given) (a : Valuation) → n ≡ g.node → k ≡ g.index → put_one n k (g ∷ a) ≡ g ∷ a
put_same n k g a e i = rw (same_before n k g.node g.index e i, eq-eqb n g.node e, eq-eqb k g.index i) refl

put_later : (n k : ℕ) (g : Given) (a : Valuation) → Under g.node g.index n k → put_one n k (g ∷ a) ≡ g ∷ put_one n k a
put_later n k g a h = rw (before_false n k g.node g.index h, other_differs n k g.node g.index h) refl

-- a read whose place is 0 lists nothing
put_zero : (f : Places) (r : Read) → f r.node r.index ≡ false → (rs : List Read) → ones f (put_read r rs) ≡ ones f rs
put_zero f r e [] = ap (λ (b : Bool). listing r (one_if b) []) e
put_zero f r e (s ∷ ss) = go (read_cmp r s) (put_zero f r e ss)
  where
    go : (o : Ordering) → ones f (put_read r ss) ≡ ones f ss → ones f (put_before o r s ss (put_read r ss)) ≡ ones f (s ∷ ss)
    go Less ih = ap (λ (b : Bool). listing r (one_if b) (ones f (s ∷ ss))) e
    go Equal ih = refl
    go Greater ih = ap (listing s (one_if (f s.node s.index))) ih

-- a place that becomes 1 is put into the list
module _ (f g : Places) (r : Read) (is : g r.node r.index ≡ true) (others : (m j : ℕ) → Under r.node r.index m j ⊎ Under m j r.node r.index → g m j ≡ f m j) where
  same_above : (rs : List Read) → Above r.node r.index rs → AllByRecursion (λ (s : Read). g s.node s.index ≡ f s.node s.index) rs
  same_above [] a = tt
  same_above (s ∷ ss) a = (others s.node s.index (inl a.0), same_above ss a.1)

  put_new : (rs : List Read) → Sorted rs → ones g (put_read r rs) ≡ put_one r.node r.index (ones f rs)
  put_new [] a = ap (λ (b : Bool). listing r (one_if b) []) is
  put_new (s ∷ ss) a = go (read_cmp r s) (place r s) (put_new ss a.1)
    where
      equal : (b : Bool) → r.node ≡ s.node → r.index ≡ s.index → listing s 1 (ones f ss) ≡ put_one s.node s.index (listing s (one_if b) (ones f ss))
      equal true e i = sym (put_same s.node s.index (record { node = s.node; index = s.index; word = 1 }) (ones f ss) refl refl)
      equal false e i = sym (put_first s.node s.index (ones f ss) (above_ones f s.node s.index ss a.0))

      greater : (b : Bool) → Under s.node s.index r.node r.index → listing s (one_if b) (put_one r.node r.index (ones f ss)) ≡ put_one r.node r.index (listing s (one_if b) (ones f ss))
      greater true h = sym (put_later r.node r.index (record { node = s.node; index = s.index; word = 1 }) (ones f ss) h)
      greater false h = refl

      go : (o : Ordering) → Place o r s → ones g (put_read r ss) ≡ put_one r.node r.index (ones f ss) → ones g (put_before o r s ss (put_read r ss)) ≡ put_one r.node r.index (ones f (s ∷ ss))
      go Less h ih =
          let above : Above r.node r.index (s ∷ ss) = (h, above_on r.node r.index s.node s.index h ss a.0) in
          ap (λ (b : Bool). listing r (one_if b) (ones g (s ∷ ss))) is
          ∙ (ap (λ (v : Valuation). record { node = r.node; index = r.index; word = 1 } ∷ v) (same_ones g f (s ∷ ss) (same_above (s ∷ ss) above))
          ∙ sym (put_first r.node r.index (ones f (s ∷ ss)) (above_ones f r.node r.index (s ∷ ss) above)))
      go Equal h ih =
          let is_s : g s.node s.index ≡ true = subst (λ (k : ℕ). g s.node k ≡ true) h.1 (subst (λ (n : ℕ). g n r.index ≡ true) h.0 is) in
          let above : Above r.node r.index ss = subst (λ (k : ℕ). Above r.node k ss) (sym h.1) (subst (λ (n : ℕ). Above n s.index ss) (sym h.0) a.0) in
          ap (λ (b : Bool). listing s (one_if b) (ones g ss)) is_s
          ∙ (ap (listing s 1) (same_ones g f ss (same_above ss above))
          ∙ (equal (f s.node s.index) h.0 h.1
          ∙ (ap (λ (n : ℕ). put_one n s.index (ones f (s ∷ ss))) (sym h.0) ∙ ap (λ (k : ℕ). put_one r.node k (ones f (s ∷ ss))) (sym h.1))))
      go Greater h ih =
          ap (λ (b : Bool). listing s (one_if b) (ones g (put_read r ss))) (others s.node s.index (inr h))
          ∙ (ap (listing s (one_if (f s.node s.index))) ih ∙ greater (f s.node s.index) h)

-- the places that a condition forces to be 1
abbrev one_of : Condition → Places
one_of c n k = some_opposes (on (Input n k 1) false) c

-- a literal forces its own place, if it is true
at_itself : (n k width : ℕ) → width ≡ 1 → opposes_on (Input n k 1) false (Input n k width) true ≡ true
at_itself n k width h = rw (eq-eqb width 1 h, eq-eqb n n refl, eq-eqb k k refl) refl

-- a false one forces none
none_by : (m j n k width : ℕ) → opposes_on (Input m j 1) false (Input n k width) false ≡ false
none_by m j n k width = rw (and_false (nat_eq j k), and_false (nat_eq m n), and_false (nat_eq width 1)) refl

-- and a true one no other
no_other : (m j n k width : ℕ) → (nat_eq m n && nat_eq j k) ≡ false → opposes_on (Input m j 1) false (Input n k width) true ≡ false
no_other m j n k width e = go (nat_eq width 1) (nat_eq m n) (nat_eq j k) e
  where
    go : (x y z : Bool) → (y && z) ≡ false → (true && (x && (y && (z && true)))) ≡ false
    go x true true h = absurd cc
    go true true false h = refl
    go false true false h = refl
    go true false z h = refl
    go false false z h = refl

abbrev IsListed : Condition → Type 0
IsListed c = forced c ≡ ones (one_of c) (widest (reads_of c))

all_same : (f g : Places) → ((n k : ℕ) → f n k ≡ g n k) → (rs : List Read) → AllByRecursion (λ (r : Read). f r.node r.index ≡ g r.node r.index) rs
all_same f g h [] = tt
all_same f g h (r ∷ rs) = (h r.node r.index, all_same f g h rs)

forced_step : (t : Term) (truth : Bool) (c : Condition) → IsPlainTerm t → some_opposes (on t truth) c ≡ false → IsListed c → IsListed (on t truth ∷ c)
forced_step (Word w) truth c p e ih = ih
forced_step (Input n k width) false c p e ih =
    let r : Read = record { node = n; index = k; width = width } in
    let more : Condition = on (Input n k width) false ∷ c in
    let is_zero : one_of c n k ≡ false = subst (λ (x : ℕ). some_opposes (on (Input n k x) false) c ≡ false) p e in
    ih ∙ (sym (put_zero (one_of c) r is_zero (widest (reads_of c)))
    ∙ sym (same_ones (one_of more) (one_of c) (put_read r (widest (reads_of c)))
    (all_same (one_of more) (one_of c) (λ m j. ap (λ (b : Bool). b || one_of c m j) (none_by m j n k width)) (put_read r (widest (reads_of c))))))
forced_step (Input n k width) true c p e ih =
    let r : Read = record { node = n; index = k; width = width } in
    let more : Condition = on (Input n k width) true ∷ c in
    ap (put_one n k) ih
    ∙ sym (put_new (one_of c) (one_of more) r (ap (λ (b : Bool). b || one_of c n k) (at_itself n k width p))
    (λ m j h. ap (λ (b : Bool). b || one_of c m j) (no_other m j n k width (elim h [ inl x ↦ other_differs m j n k x | inr x ↦ place_differs m j n k x ])))
    (widest (reads_of c)) (sorted_widest (reads_of c)))
forced_step (Apply op x y) truth c p e ih = absurd p
forced_step (Choice d x y) truth c p e ih = absurd p

-- what is forced lists the places of the condition's reads
pub forced_is : (c : Condition) → IsPlain c → clashes c ≡ false → IsListed c
forced_is [] p e = refl
forced_is (l ∷ c) p e =
    let x = neither (is_false l) (some_opposes l c || clashes c) e in
    let y = neither (some_opposes l c) (clashes c) x.1 in
    forced_step l.value l.truth c p.0 y.0 (forced_is c p.1 y.1)

-- what is forced meets the condition
abbrev AreOnes : Valuation → Type 0
AreOnes a = AllByRecursion (λ (g : Given). g.word ≡ 1) a

ones_put : (n k : ℕ) (a : Valuation) → AreOnes a → AreOnes (put_one n k a)
ones_put n k [] h = (refl, tt)
ones_put n k (g ∷ a) h = go (nat_lt n g.node || nat_eq n g.node && nat_lt k g.index) (nat_eq n g.node && nat_eq k g.index) (ones_put n k a h.1)
  where
    go : (x y : Bool) → AreOnes (put_one n k a) → AreOnes (cond x (record { node = n; index = k; word = 1 } ∷ (g ∷ a)) (cond y (g ∷ a) (g ∷ put_one n k a)))
    go true y ih = (refl, h)
    go false true ih = h
    go false false ih = (h.0, ih)

forced_ones : (c : Condition) → AreOnes (forced c)
forced_ones [] = tt
forced_ones (l ∷ c) = go l.value l.truth (forced_ones c)
  where
    go : (t : Term) (truth : Bool) → AreOnes (forced c) → AreOnes (forced_by t truth (forced c))
    go (Word w) truth ih = ih
    go (Input n k width) true ih = ones_put n k (forced c) ih
    go (Input n k width) false ih = ih
    go (Apply op x y) truth ih = ih
    go (Choice d x y) truth ih = ih

listed_put : (n k m j : ℕ) (a : Valuation) → AreOnes a → listed (put_one n k a) m j ≡ cond (nat_eq n m && nat_eq k j) 1 (listed a m j)
listed_put n k m j [] h = refl
listed_put n k m j (g ∷ a) h = go (nat_lt n g.node || nat_eq n g.node && nat_lt k g.index) (nat_eq n g.node && nat_eq k g.index) refl (listed_put n k m j a h.1)
  where
    twice : (b : Bool) (x y : ℕ) → x ≡ 1 → cond b x y ≡ cond b 1 (cond b x y)
    twice true x y e = e
    twice false x y e = refl

    swaps : (b d : Bool) (x y : ℕ) → x ≡ 1 → cond b x (cond d 1 y) ≡ cond d 1 (cond b x y)
    swaps true true x y e = e
    swaps true false x y e = refl
    swaps false true x y e = refl
    swaps false false x y e = refl

    at_same : (n ≡ g.node) → (k ≡ g.index) → listed (g ∷ a) m j ≡ cond (nat_eq n m && nat_eq k j) 1 (listed (g ∷ a) m j)
    at_same e i =
        twice (nat_eq g.node m && nat_eq g.index j) g.word (listed a m j) h.0
        ∙ (ap (λ (x : ℕ). cond (nat_eq x m && nat_eq g.index j) 1 (listed (g ∷ a) m j)) (sym e) ∙ ap (λ (x : ℕ). cond (nat_eq n m && nat_eq x j) 1 (listed (g ∷ a) m j)) (sym i))

    go : (x y : Bool) → (nat_eq n g.node && nat_eq k g.index) ≡ y → listed (put_one n k a) m j ≡ cond (nat_eq n m && nat_eq k j) 1 (listed a m j)
        → listed (cond x (record { node = n; index = k; word = 1 } ∷ (g ∷ a)) (cond y (g ∷ a) (g ∷ put_one n k a))) m j ≡ cond (nat_eq n m && nat_eq k j) 1 (listed (g ∷ a) m j)
    go true y e ih = refl
    go false true e ih = let z = both (nat_eq n g.node) (nat_eq k g.index) e in at_same (eqb-true n g.node z.0) (eqb-true k g.index z.1)
    go false false e ih =
        ap (λ (x : ℕ). cond (nat_eq g.node m && nat_eq g.index j) g.word x) ih ∙ swaps (nat_eq g.node m && nat_eq g.index j) (nat_eq n m && nat_eq k j) g.word (listed a m j) h.0

-- the input of a literal has the word that its truth asks for
abbrev MetOn : Valuation → Term → Bool → Type 0
MetOn a (Word w) truth = is_false_on (Word w) truth ≡ false
MetOn a (Input n k width) truth = (width ≡ 1) × (listed a n k ≡ one_if truth)
MetOn a (Apply op x y) truth = ⊥
MetOn a (Choice c x y) truth = ⊥

abbrev AllMet : Valuation → Condition → Type 0
AllMet a c = AllByRecursion (λ (l : Literal Term). MetOn a l.value l.truth) c

opposed_places : (n k m j width other : ℕ) → width ≡ 1 → other ≡ 1 → opposes_on (Input n k width) true (Input m j other) false ≡ false → (nat_eq n m && nat_eq k j) ≡ false
opposed_places n k m j width other h i e = go (nat_eq width 1) (nat_eq other 1) (nat_eq n m) (nat_eq k j) (eq-eqb width 1 h) (eq-eqb other 1 i) e
  where
    go : (x y z w : Bool) → x ≡ true → y ≡ true → (x && (y && (z && (w && true)))) ≡ false → (z && w) ≡ false
    go true true true true a b d = d
    go true true true false a b d = refl
    go true true false w a b d = refl
    go false y z w a b d = absurd cc
    go true false z w a b d = absurd cc

met_put : (n k width : ℕ) (a : Valuation) → width ≡ 1 → AreOnes a → (u : Term) (truth : Bool) → opposes_on (Input n k width) true u truth ≡ false → MetOn a u truth → MetOn (put_one n k a) u truth
met_put n k width a h ones_a (Word w) truth e met = met
met_put n k width a h ones_a (Input m j other) true e met =
    (met.0, listed_put n k m j a ones_a ∙ (ap (λ (x : ℕ). cond (nat_eq n m && nat_eq k j) 1 x) met.1 ∙ one_anyway (nat_eq n m && nat_eq k j)))
  where
    one : ℕ
    one = 1

    one_anyway : (b : Bool) → cond b one one ≡ one
    one_anyway true = refl
    one_anyway false = refl
met_put n k width a h ones_a (Input m j other) false e met =
    (met.0, listed_put n k m j a ones_a ∙ (ap (λ (b : Bool). cond b 1 (listed a m j)) (opposed_places n k m j width other h met.0 e) ∙ met.1))
met_put n k width a h ones_a (Apply op x y) truth e met = absurd met
met_put n k width a h ones_a (Choice d x y) truth e met = absurd met

all_met_put : (n k width : ℕ) (a : Valuation) → width ≡ 1 → AreOnes a → (c : Condition) → some_opposes (on (Input n k width) true) c ≡ false → AllMet a c → AllMet (put_one n k a) c
all_met_put n k width a h ones_a [] e met = tt
all_met_put n k width a h ones_a (l ∷ c) e met =
    let x = neither (opposes (on (Input n k width) true) l) (some_opposes (on (Input n k width) true) c) e in
    (met_put n k width a h ones_a l.value l.truth x.0 met.0, all_met_put n k width a h ones_a c x.1 met.1)

-- an input that no literal forces is not listed
unlisted : (n k : ℕ) (c : Condition) → IsPlain c → some_opposes (on (Input n k 1) false) c ≡ false → listed (forced c) n k ≡ 0
unlisted n k [] p e = refl
unlisted n k (l ∷ c) p e = let x = neither (opposes (on (Input n k 1) false) l) (some_opposes (on (Input n k 1) false) c) e in go l.value l.truth p.0 x.0 (unlisted n k c p.1 x.1)
  where
    other_way : (m j : ℕ) → (nat_eq n m && nat_eq k j) ≡ false → (nat_eq m n && nat_eq j k) ≡ false
    other_way m j h = turned (nat_eq m n) (nat_eq j k) refl refl
      where
        turned : (x y : Bool) → nat_eq m n ≡ x → nat_eq j k ≡ y → (x && y) ≡ false
        turned true true a b =
            let same : (nat_eq n m && nat_eq k j) ≡ true = rw (eq-eqb n m (sym (eqb-true m n a)), eq-eqb k j (sym (eqb-true j k b))) refl in
            sym same ∙ h
        turned true false a b = refl
        turned false y a b = refl

    go : (t : Term) (truth : Bool) → IsPlainTerm t → opposes_on (Input n k 1) false t truth ≡ false → listed (forced c) n k ≡ 0 → listed (forced_by t truth (forced c)) n k ≡ 0
    go (Word w) truth q f ih = ih
    go (Input m j width) true q f ih =
        listed_put m j n k (forced c) (forced_ones c)
        ∙ (ap (λ (b : Bool). cond b 1 (listed (forced c) n k)) (other_way m j (places (nat_eq width 1) (nat_eq n m) (nat_eq k j) (eq-eqb width 1 q) f)) ∙ ih)
      where
        places : (x y z : Bool) → x ≡ true → (true && (x && (y && (z && true)))) ≡ false → (y && z) ≡ false
        places true true true a d = d
        places true true false a d = refl
        places true false z a d = refl
        places false y z a d = absurd cc
    go (Input m j width) false q f ih = ih
    go (Apply op x y) truth q f ih = absurd q
    go (Choice d x y) truth q f ih = absurd q

met_step : (t : Term) (truth : Bool) (c : Condition) → IsPlainTerm t → IsPlain c → is_false_on t truth ≡ false → some_opposes (on t truth) c ≡ false → AllMet (forced c) c → AllMet (forced (on t truth ∷ c)) (on t truth ∷ c)
met_step (Word w) truth c p q f e ih = (f, ih)
met_step (Input n k width) true c p q f e ih =
    ((p, listed_put n k n k (forced c) (forced_ones c) ∙ rw (eq-eqb n n refl, eq-eqb k k refl) refl), all_met_put n k width (forced c) p (forced_ones c) c e ih)
met_step (Input n k width) false c p q f e ih = ((p, unlisted n k c q (subst (λ (x : ℕ). some_opposes (on (Input n k x) false) c ≡ false) p e)), ih)
met_step (Apply op x y) truth c p q f e ih = absurd p
met_step (Choice d x y) truth c p q f e ih = absurd p

forced_met : (c : Condition) → IsPlain c → clashes c ≡ false → AllMet (forced c) c
forced_met [] p e = tt
forced_met (l ∷ c) p e =
    let x = neither (is_false l) (some_opposes l c || clashes c) e in
    let y = neither (some_opposes l c) (clashes c) x.1 in
    met_step l.value l.truth c p.0 p.1 x.0 y.0 (forced_met c p.1 y.1)

met_holds : (a : Valuation) (t : Term) (truth : Bool) → MetOn a t truth → literal_holds a (on t truth) ≡ true
met_holds a (Word w) truth met = go (word_holds (record { value = w; truth = truth })) met
  where
    go : (b : Bool) → not b ≡ false → b ≡ true
    go true e = refl
    go false e = absurd cc
met_holds a (Input n k width) truth met =
    ap (λ (x : ℕ). same_bit (not (nat_eq (listed a n k % 2 ^ x) 0)) truth) met.0 ∙ (ap (λ (x : ℕ). same_bit (not (nat_eq (x % 2 ^ 1) 0)) truth) met.1 ∙ bit truth)
  where
    bit : (b : Bool) → same_bit (not (nat_eq (one_if b % 2 ^ 1) 0)) b ≡ true
    bit true = refl
    bit false = refl
met_holds a (Apply op x y) truth met = absurd met
met_holds a (Choice c x y) truth met = absurd met

all_hold : (a : Valuation) (c : Condition) → AllMet a c → holds a c ≡ true
all_hold a [] met = refl
all_hold a (l ∷ c) met = ap (λ (b : Bool). b && holds a c) (met_holds a l.value l.truth met.0) ∙ all_hold a c met.1

-- a plain condition that does not clash holds under what it forces
pub forced_holds : (c : Condition) → IsPlain c → clashes c ≡ false → holds (forced c) c ≡ true
forced_holds c p e = all_hold (forced c) c (forced_met c p e)

-- where a condition holds, the places that it forces are not 0
not_zero_at : (a : Valuation) (n k : ℕ) (t : Term) (truth : Bool) → opposes_on (Input n k 1) false t truth ≡ true → literal_holds a (on t truth) ≡ true → listed a n k ≡ 0 → ⊥
not_zero_at a n k (Input m j width) truth e h z =
    let w = both (nat_eq width 1) _ e in
    let n' = both (nat_eq n m) _ w.1 in
    let k' = both (nat_eq k j) truth n'.1 in
    let zero_there : listed a m j ≡ 0 = subst (λ (x : ℕ). listed a x j ≡ 0) (eqb-true n m n'.0) (subst (λ (x : ℕ). listed a n x ≡ 0) (eqb-true k j k'.0) z) in
    let plain : literal_holds a (on (Input m j 1) true) ≡ true = subst (λ (b : Bool). literal_holds a (on (Input m j 1) b) ≡ true) k'.1 (subst (λ (x : ℕ). literal_holds a (on (Input m j x) truth) ≡ true) (eqb-true width 1 w.0) h) in
    let wrong : false ≡ true = ap (λ (x : ℕ). same_bit (not (nat_eq (x % 2 ^ 1) 0)) true) (sym zero_there) ∙ plain in
    absurd cc
not_zero_at a n k (Word w) truth e h z = absurd cc
not_zero_at a n k (Apply op x y) truth e h z = absurd cc
not_zero_at a n k (Choice c x y) truth e h z = absurd cc

pub forced_not_zero : (a : Valuation) (n k : ℕ) (c : Condition) → one_of c n k ≡ true → holds a c ≡ true → listed a n k ≡ 0 → ⊥
forced_not_zero a n k [] e h z = absurd cc
forced_not_zero a n k (l ∷ c) e h z =
    let x = both (literal_holds a l) (holds a c) h in
    elim (either (opposes (on (Input n k 1) false) l) (one_of c n k) e) [
      | inl y ↦ not_zero_at a n k l.value l.truth y x.0 z
      | inr y ↦ forced_not_zero a n k c y x.1 z
    ]

-- words that are not 0 at these places do not come before those that are 1 there and 0 elsewhere
unlisted_below : (n k : ℕ) (rs : List Read) (ws : List ℕ) → Above n k rs → listed (valuation_of rs ws) n k ≡ 0
unlisted_below n k [] ws a = refl
unlisted_below n k (r ∷ rs) [] a = refl
unlisted_below n k (r ∷ rs) (w ∷ ws) a = go (nat_eq w 0) (unlisted_below n k rs ws a.1)
  where
    go : (b : Bool) → listed (valuation_of rs ws) n k ≡ 0 → listed (cond b (valuation_of rs ws) (record { node = r.node; index = r.index; word = w } ∷ valuation_of rs ws)) n k ≡ 0
    go true ih = ih
    go false ih = ap (λ (b : Bool). cond b w (listed (valuation_of rs ws) n k)) (other_differs r.node r.index n k a.0) ∙ ih

not_before : (f : Places) (rs : List Read) (ws : List ℕ) → Sorted rs → AreWords rs ws
    → AllByRecursion (λ (r : Read). f r.node r.index ≡ true → listed (valuation_of rs ws) r.node r.index ≡ 0 → ⊥) rs
    → slice_cmp nat_cmp ws (bits_at f rs) ≡ Less → ⊥
not_before f [] [] s w h e = cc
not_before f [] (w ∷ ws) s x h e = absurd x
not_before f (r ∷ rs) [] s x h e = absurd x
not_before f (r ∷ rs) (w ∷ ws) s x h e = go (nat_cmp w (one_if (f r.node r.index))) (order w (one_if (f r.node r.index))) e (λ i. not_before f rs ws s.1 x.1 (rest rs s.0 h.1) i)
  where
    skipped : (n k : ℕ) → Under r.node r.index n k → listed (valuation_of (r ∷ rs) (w ∷ ws)) n k ≡ listed (valuation_of rs ws) n k
    skipped n k u = by_word (nat_eq w 0)
      where
        by_word : (b : Bool) → listed (cond b (valuation_of rs ws) (record { node = r.node; index = r.index; word = w } ∷ valuation_of rs ws)) n k ≡ listed (valuation_of rs ws) n k
        by_word true = refl
        by_word false = ap (λ (b : Bool). cond b w (listed (valuation_of rs ws) n k)) (place_differs r.node r.index n k u)

    rest : (ss : List Read) → Above r.node r.index ss → AllByRecursion (λ (q : Read). f q.node q.index ≡ true → listed (valuation_of (r ∷ rs) (w ∷ ws)) q.node q.index ≡ 0 → ⊥) ss
        → AllByRecursion (λ (q : Read). f q.node q.index ≡ true → listed (valuation_of rs ws) q.node q.index ≡ 0 → ⊥) ss
    rest [] a p = tt
    rest (q ∷ ss) a p = (λ y z. p.0 y (skipped q.node q.index a.0 ∙ z), rest ss a.1 p.1)

    -- where the place is 1, the word is not 0
    not_zero : f r.node r.index ≡ true → w ≡ 0 → ⊥
    not_zero y z =
        h.0 y (ap (λ (b : Bool). listed (cond b (valuation_of rs ws) (record { node = r.node; index = r.index; word = w } ∷ valuation_of rs ws)) r.node r.index) (eq-eqb w 0 z)
        ∙ unlisted_below r.node r.index rs ws s.0)

    less : (b : Bool) → f r.node r.index ≡ b → w < one_if b → ⊥
    less true y i = not_zero y (omega (arith, i))
    less false y i = omega (arith, i)

    go : (o : Ordering) → Order o w (one_if (f r.node r.index)) → ordering_then o (slice_cmp nat_cmp ws (bits_at f rs)) ≡ Less → (slice_cmp nat_cmp ws (bits_at f rs) ≡ Less → ⊥) → ⊥
    go Less i j ih = less (f r.node r.index) refl i
    go Equal i j ih = ih j
    go Greater i j ih = cc

are_words : (f : Places) (rs : List Read) → AreBits rs → AreWords rs (bits_at f rs)
are_words f [] h = tt
are_words f (r ∷ rs) h = (subst (λ (x : ℕ). one_if (f r.node r.index) < 2 ^ x) (sym h.0) (small (f r.node r.index)), are_words f rs h.1)
  where
    small : (b : Bool) → one_if b < 2 ^ 1
    small true = omega arith
    small false = omega arith

all_places : (P : ℕ → ℕ → Type 0) → ((n k : ℕ) → P n k) → (rs : List Read) → AllByRecursion (λ (r : Read). P r.node r.index) rs
all_places P h [] = tt
all_places P h (r ∷ rs) = (h r.node r.index, all_places P h rs)

-- of a plain condition that does not clash, what it forces are the least inputs
pub forced_is_least : (c : Condition) → IsPlain c → clashes c ≡ false → IsLeast (that c) (forced c)
forced_is_least c p e =
    let rs = widest (reads_of c) in
    record {
      given_words = bits_at (one_of c) rs;
      is = forced_is c p e;
      meet = (are_words (one_of c) rs (plain_bits c p), subst (λ (a : Valuation). holds a c ≡ true) (forced_is c p e) (forced_holds c p e));
      least = λ ws met i. not_before (one_of c) rs ws (sorted_widest (reads_of c)) met.0
          (all_places (λ n k. one_of c n k ≡ true → listed (valuation_of rs ws) n k ≡ 0 → ⊥) (λ n k x z. forced_not_zero (valuation_of rs ws) n k c x met.1 z) rs) i;
    }

-- and so a plain condition is met by some inputs exactly where it does not clash
pub possible_by : (c : Condition) → IsPlain c → clashes c ≡ false → IsPossible (that c)
possible_by c p e = (forced c, forced_holds c p e)

-- what some inputs meet is live
pub live_by : (most : ℕ) (q : Query) (a : Valuation) → q.meets a ≡ true → IsLive most q
live_by most q a h never small = let wrong : true ≡ false = sym h ∙ never a in cc
