-- The inputs that are read, in order, with their greatest widths.
use Rattle.std.proofs.Common.{◌≡◌, ℕ, ◌<◌, Bool, true, false, List, [], ◌∷◌, ◌++◌, map, max, refl, sym, ap, ◌∙◌, arith}
use Rattle.std.specs.Prelude.{◌&&◌, nat_eq, if◌then◌else◌}
use Rattle.std.specs.List.{AllByRecursion}
use Rattle.std.specs.declared.cmp.Ordering.{Ordering}
use Rattle.std.specs.declared.cmp.Ordering.TheVariants.{Less, Equal, Greater}
use Rattle.std.proofs.lemmas.Bool.{eqb-true}
use Rattle.kn_built.proofs.Deciding.{both_true}
use Rattle.kn_built.proofs.Sorted.{All-each}
use Rattle.kn_term.specs.Terms.{Given, listed}
use Rattle.kn_term.specs.Valuations.{precedes, AreEntries, OneList}
use Rattle.kn_term.proofs.Entries.{precedes-trans, absent}
use Rattle.kn_cond.specs.Conditions.{Read, read_cmp, put_before, put_read, widest}
use Rattle.kn_solve.specs.Asking.{RisesBehind, AreRising, width_at}

-- the width of one read of an input, or 0
abbrev pub own_width : Read → ℕ → ℕ → ℕ
own_width r n k = if nat_eq r.node n && nat_eq r.index k then r.width else 0

-- the greatest width with which an input is read
abbrev pub greatest : List Read → ℕ → ℕ → ℕ
greatest [] n k = 0
greatest (r ∷ rs) n k = max (own_width r n k) (greatest rs n k)

max_swap : (a b c : ℕ) → max a (max b c) ≡ max b (max a c)
max_swap a b c = omega arith

max_both : (a b c : ℕ) → max a (max b c) ≡ max (max a b) c
max_both a b c = omega arith

own_max : (b : Bool) (x y : ℕ) → (if b then max x y else 0) ≡ max (if b then x else 0) (if b then y else 0)
own_max true x y = refl
own_max false x y = refl

-- two reads of one input
same_input : (r s : Read) → read_cmp r s ≡ Equal → (r.node ≡ s.node) × (r.index ≡ s.index)
same_input r s e = grind arith

put_greatest : (r : Read) (rs : List Read) (n k : ℕ) → greatest (put_read r rs) n k ≡ max (own_width r n k) (greatest rs n k)
put_greatest r [] n k = refl
put_greatest r (s ∷ ss) n k = go (put_greatest r ss n k) (read_cmp r s) refl where
  go : greatest (put_read r ss) n k ≡ max (own_width r n k) (greatest ss n k) → (o : Ordering) → read_cmp r s ≡ o → greatest (put_before o r s ss (put_read r ss)) n k ≡ max (own_width r n k) (max (own_width s n k) (greatest ss n k))
  go more Less e = refl
  go more Equal e =
      let same = same_input r s e in
      let own : own_width r n k ≡ (if nat_eq s.node n && nat_eq s.index k then r.width else 0) = ap (λ (m : ℕ). if nat_eq m n && nat_eq r.index k then r.width else 0) same.0 ∙ ap (λ (j : ℕ). if nat_eq s.node n && nat_eq j k then r.width else 0) same.1 in
      ap (λ (w : ℕ). max w (greatest ss n k)) (own_max (nat_eq s.node n && nat_eq s.index k) r.width s.width ∙ ap (λ (w : ℕ). max w (own_width s n k)) (sym own)) ∙ sym (max_both (own_width r n k) (own_width s n k) (greatest ss n k))
  go more Greater e = ap (max (own_width s n k)) more ∙ max_swap (own_width s n k) (own_width r n k) (greatest ss n k)

pub widest_greatest : (rs : List Read) (n k : ℕ) → greatest (widest rs) n k ≡ greatest rs n k
widest_greatest [] n k = refl
widest_greatest (r ∷ rs) n k = put_greatest r (widest rs) n k ∙ ap (max (own_width r n k)) (widest_greatest rs n k)

pub greatest_append : (rs ss : List Read) (n k : ℕ) → greatest (rs ++ ss) n k ≡ max (greatest rs n k) (greatest ss n k)
greatest_append [] ss n k = omega arith
greatest_append (r ∷ rs) ss n k = ap (max (own_width r n k)) (greatest_append rs ss n k) ∙ max_both (own_width r n k) (greatest rs n k) (greatest ss n k)

cmp_less : (r s : Read) → read_cmp r s ≡ Less → precedes r.node r.index s.node s.index ≡ true
cmp_less r s e = grind arith

cmp_greater : (r s : Read) → read_cmp r s ≡ Greater → precedes s.node s.index r.node r.index ≡ true
cmp_greater r s e = grind arith

-- what comes behind an input stays behind it
put_behind : (n k : ℕ) (r : Read) (rs : List Read) → precedes n k r.node r.index ≡ true → AllByRecursion (RisesBehind n k) rs → AllByRecursion (RisesBehind n k) (put_read r rs)
put_behind n k r [] h all = (h, tt)
put_behind n k r (s ∷ ss) h all = go (put_behind n k r ss h all.1) (read_cmp r s) where
  go : AllByRecursion (RisesBehind n k) (put_read r ss) → (o : Ordering) → AllByRecursion (RisesBehind n k) (put_before o r s ss (put_read r ss))
  go more Less = (h, (all.0, all.1))
  go more Equal = (all.0, all.1)
  go more Greater = (all.0, more)

put_rising : (r : Read) (rs : List Read) → AreRising rs → AreRising (put_read r rs)
put_rising r [] h = (tt, tt)
put_rising r (s ∷ ss) h = go (put_rising r ss h.1) (read_cmp r s) refl where
  go : AreRising (put_read r ss) → (o : Ordering) → read_cmp r s ≡ o → AreRising (put_before o r s ss (put_read r ss))
  go more Less e =
      let first = cmp_less r s e in
      ((first, All-each (RisesBehind s.node s.index) (RisesBehind r.node r.index) (λ x p. precedes-trans r.node r.index s.node s.index x.node x.index first p) ss h.0), h)
  go more Equal e = (h.0, h.1)
  go more Greater e = (put_behind s.node s.index r ss (cmp_greater r s e) h.0, more)

pub widest_rising : (rs : List Read) → AreRising (widest rs)
widest_rising [] = tt
widest_rising (r ∷ rs) = put_rising r (widest rs) (widest_rising rs)

-- each read has a bit
abbrev pub ArePositive : List Read → Type 0
ArePositive rs = AllByRecursion (λ (r : Read). 0 < r.width) rs

put_positive : (r : Read) (rs : List Read) → 0 < r.width → ArePositive rs → ArePositive (put_read r rs)
put_positive r [] h all = (h, tt)
put_positive r (s ∷ ss) h all = go (put_positive r ss h all.1) (read_cmp r s) where
  go : ArePositive (put_read r ss) → (o : Ordering) → ArePositive (put_before o r s ss (put_read r ss))
  go more Less = (h, (all.0, all.1))
  go more Equal = (omega (arith, all.0), all.1)
  go more Greater = (all.0, more)

pub widest_positive : (rs : List Read) → ArePositive rs → ArePositive (widest rs)
widest_positive [] all = tt
widest_positive (r ∷ rs) all = put_positive r (widest rs) all.0 (widest_positive rs all.1)

-- reads as entries of a valuation
abbrev given_of : Read → Given
given_of r = record { node = r.node; index = r.index; word = r.width }

abbrev read_back : Given → Read
read_back g = record { node = g.node; index = g.index; width = g.word }

reads_back : (rs : List Read) → map read_back (map given_of rs) ≡ rs
reads_back [] = refl
reads_back (r ∷ rs) = ap (λ (xs : List Read). r ∷ xs) (reads_back rs)

listed_given : (rs : List Read) (n k : ℕ) → listed (map given_of rs) n k ≡ width_at rs n k
listed_given [] n k = refl
listed_given (r ∷ rs) n k = ap (λ (rest : ℕ). if nat_eq r.node n && nat_eq r.index k then r.width else rest) (listed_given rs n k)

behind_given : (n k : ℕ) (rs : List Read) → AllByRecursion (RisesBehind n k) rs → AllByRecursion (λ (g : Given). precedes n k g.node g.index ≡ true) (map given_of rs)
behind_given n k [] all = tt
behind_given n k (r ∷ rs) all = (all.0, behind_given n k rs all.1)

given_entries : (rs : List Read) → AreRising rs → ArePositive rs → AreEntries (map given_of rs)
given_entries [] h all = tt
given_entries (r ∷ rs) h all = (all.0, behind_given r.node r.index rs h.0, given_entries rs h.1 all.1)

absent_at : (r : Read) (rs : List Read) (n k : ℕ) → (nat_eq r.node n && nat_eq r.index k) ≡ true → AllByRecursion (RisesBehind r.node r.index) rs → width_at rs n k ≡ 0
absent_at r rs n k e all =
    let s = both_true (nat_eq r.node n) (nat_eq r.index k) e in
    let moved : (x : Read) → RisesBehind r.node r.index x → RisesBehind n k x = λ x p. rw (← eqb-true r.node n s.0, ← eqb-true r.index k s.1) p in
    sym (listed_given rs n k) ∙ absent n k (map given_of rs) (behind_given n k rs (All-each (RisesBehind r.node r.index) (RisesBehind n k) moved rs all))

-- in order an input is read once
pub rising_width : (rs : List Read) (n k : ℕ) → AreRising rs → width_at rs n k ≡ greatest rs n k
rising_width [] n k h = refl
rising_width (r ∷ rs) n k h = go (rising_width rs n k h.1) (nat_eq r.node n && nat_eq r.index k) refl where
  go : width_at rs n k ≡ greatest rs n k → (b : Bool) → (nat_eq r.node n && nat_eq r.index k) ≡ b → (if b then r.width else width_at rs n k) ≡ max (if b then r.width else 0) (greatest rs n k)
  go more true e =
      let none : width_at rs n k ≡ 0 = absent_at r rs n k e h.0 in
      omega (arith, none, more)
  go more false e = omega (arith, more)

-- lists of reads in order with the same widths are the same
pub same_reads : OneList → (rs ss : List Read) → AreRising rs → AreRising ss → ArePositive rs → ArePositive ss → ((n k : ℕ) → width_at rs n k ≡ width_at ss n k) → rs ≡ ss
same_reads law rs ss h g p q same =
    sym (reads_back rs)
    ∙ (ap (map read_back) (law (map given_of rs) (map given_of ss) (given_entries rs h p) (given_entries ss g q) (λ n k. listed_given rs n k ∙ (same n k ∙ sym (listed_given ss n k))))
    ∙ reads_back ss)
