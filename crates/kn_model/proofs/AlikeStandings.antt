-- A condition that reads less: it is smaller, and what is far of it is far of the other.
use Rattle.std.proofs.Common.{◌≡◌, ◌⊎◌, inl, inr, ℕ, zero, suc, ◌-◌, ◌^◌, ◌%◌, ◌<◌, ◌≤◌, max, Bool, true, false, cond, List, [], ◌∷◌, ◌++◌, length, map, get_or, sum_by, refl, sym, ap, subst, ◌∙◌, arith}
use Rattle.std.specs.Prelude.{Contains, ◌&&◌, nat_eq, nat_lt}
use Rattle.std.specs.List.{AllByRecursion}
use Rattle.std.specs.declared.cmp.Ordering.{Ordering}
use Rattle.std.specs.declared.cmp.Ordering.TheVariants.{Less, Equal, Greater}
use Rattle.std.specs.Ordering.{nat_cmp, ordering_then}
use Rattle.std.specs.Cmp.Lexicographic.{slice_cmp}
use Rattle.std.proofs.Math.Nat.{le-max_left, le-max_right, pow-le-pow_right, mod-lt, mod-le}
use Rattle.std.proofs.Math.Pow.{mod-mod-pow}
use Rattle.std.proofs.lemmas.Nat.{pow_pos}
use Rattle.std.proofs.lemmas.Bool.{eqb-true, eqb-false, eq-eqb, ne_eqb, ltb-true, ltb-false, lt-ltb, le-ltb}
use Rattle.std.proofs.lemmas.List.{length-map}
use Rattle.std.proofs.lemmas.List.Sums.{sum_by-cons}
use Rattle.kn_word.specs.Words.{val}
use Rattle.kn_model.specs.Terms.{Term, Word, Input, Apply, Choice, Valuation, listed, input_word, chosen_word, ev, word_holds}
use Rattle.kn_model.specs.Conditions.{Condition, Read, holds, literal_holds, reads_in, reads_of, read_cmp, put_before, put_read, widest, that, IsSmall, IsFar, IsLeast, StandsFor, AreWords, AreDistinct, listing, valuation_of, ComesBefore, MeetsWith}
use Rattle.kn_cond.specs.declared.standing.Standing.{Standing}
use Rattle.kn_cond.specs.declared.standing.Standing.TheVariants.{Inputs, Open}
use Rattle.kn_model.proofs.Implied.{all-contains}
use Rattle.kn_model.proofs.LeastInputs.{Under, under_on, Place, place, sorted_widest}
use Rattle.kn_model.specs.Alikes.{ConditionAlike}
use Rattle.kn_model.specs.Laws.{AlikeStandings}

-- the same input, and one of these reads has it with at least that width
abbrev Same : Read → Read → Type 0
Same r s = (r.node ≡ s.node) × (r.index ≡ s.index)

abbrev pub Covers : List Read → Read → Type 0
Covers [] r = ⊥
Covers (s ∷ ss) r = (Same r s × (r.width ≤ s.width)) ⊎ Covers ss r

cover_wider : (ss : List Read) (r q : Read) → Same q r → q.width ≤ r.width → Covers ss r → Covers ss q
cover_wider [] r q e h c = absurd c
cover_wider (s ∷ ss) r q e h (inl c) = let w = c.1 in inl ((e.0 ∙ c.0.0, e.1 ∙ c.0.1), omega (arith, h, w))
cover_wider (s ∷ ss) r q e h (inr c) = inr (cover_wider ss r q e h c)

-- the widest reads have each read
put_has : (r : Read) (ss : List Read) → Covers (put_read r ss) r
put_has r [] = inl ((refl, refl), omega arith)
put_has r (s ∷ ss) = go (read_cmp r s) (place r s) (put_has r ss)
  where
    go : (o : Ordering) → Place o r s → Covers (put_read r ss) r → Covers (put_before o r s ss (put_read r ss)) r
    go Less h ih = inl ((refl, refl), omega arith)
    go Equal h ih = inl ((h.0, h.1), le-max_left r.width s.width)
    go Greater h ih = inr ih

put_still : (r : Read) (ss : List Read) (q : Read) → Covers ss q → Covers (put_read r ss) q
put_still r [] q c = absurd c
put_still r (s ∷ ss) q c = go (read_cmp r s) c (λ d. put_still r ss q d)
  where
    go : (o : Ordering) → Covers (s ∷ ss) q → (Covers ss q → Covers (put_read r ss) q) → Covers (put_before o r s ss (put_read r ss)) q
    go Less c ih = inr c
    go Equal (inl c) ih = let w = c.1 in let m = le-max_right r.width s.width in inl ((c.0.0, c.0.1), omega (arith, w, m))
    go Equal (inr c) ih = inr c
    go Greater (inl c) ih = inl c
    go Greater (inr c) ih = inr (ih c)

all_still : (r : Read) (ss rs : List Read) → AllByRecursion (Covers ss) rs → AllByRecursion (Covers (put_read r ss)) rs
all_still r ss [] h = tt
all_still r ss (q ∷ rs) h = (put_still r ss q h.0, all_still r ss rs h.1)

pub widest_has : (rs : List Read) → AllByRecursion (Covers (widest rs)) rs
widest_has [] = tt
widest_has (r ∷ rs) = (put_has r (widest rs), all_still r (widest rs) rs (widest_has rs))

-- and no more than that
put_least : (ss : List Read) (r : Read) (rs : List Read) → Covers ss r → AllByRecursion (Covers ss) rs → AllByRecursion (Covers ss) (put_read r rs)
put_least ss r [] c h = (c, tt)
put_least ss r (s ∷ rs) c h = go (read_cmp r s) (place r s) (put_least ss r rs c h.1)
  where
    wide : Place Equal r s → (n : ℕ) → (n ≤ r.width) ⊎ (n ≤ s.width) → Covers ss (record s { width = n })
    wide e n (inl i) = cover_wider ss r (record s { width = n }) (sym e.0, sym e.1) i c
    wide e n (inr i) = cover_wider ss s (record s { width = n }) (refl, refl) i h.0

    greatest : (m n : ℕ) → (max m n ≤ m) ⊎ (max m n ≤ n)
    greatest zero n = inr (omega arith)
    greatest (suc m) n = side (nat_lt (suc m) n) refl
      where
        side : (b : Bool) → nat_lt (suc m) n ≡ b → (max (suc m) n ≤ suc m) ⊎ (max (suc m) n ≤ n)
        side true e = let l = ltb-true (suc m) n e in inr (omega (arith, l))
        side false e = let l = ltb-false (suc m) n e in inl (omega (arith, l))

    go : (o : Ordering) → Place o r s → AllByRecursion (Covers ss) (put_read r rs) → AllByRecursion (Covers ss) (put_before o r s rs (put_read r rs))
    go Less e ih = (c, h)
    go Equal e ih = (wide e (max r.width s.width) (greatest r.width s.width), h.1)
    go Greater e ih = (h.0, ih)

widest_least : (ss rs : List Read) → AllByRecursion (Covers ss) rs → AllByRecursion (Covers ss) (widest rs)
widest_least ss [] h = tt
widest_least ss (r ∷ rs) h = put_least ss r (widest rs) h.0 (widest_least ss rs h.1)

-- reads within reads
all_within : (P : Read → Type 0) (rs qs : List Read) → ((r : Read) → Contains rs r → Contains qs r) → AllByRecursion P qs → AllByRecursion P rs
all_within P [] qs w h = tt
all_within P (r ∷ rs) qs w h =
    (all-contains P qs r h (w r (0, omega arith, refl)), all_within P rs qs (λ q c. let i = c.1 in w q (suc c.0, omega (arith, i), c.2)) h)

-- In order of places: the first list is within the second, with no greater widths.
abbrev pub Above : Read → List Read → Type 0
Above r rs = AllByRecursion (λ (s : Read). Under r.node r.index s.node s.index) rs

abbrev Rising : List Read → Type 0
Rising [] = Unit {0}
Rising (r ∷ rs) = Above r rs × Rising rs

abbrev Narrow : List Read → List Read → Type 0
Narrow [] ss = Unit {0}
Narrow (r ∷ rs) [] = ⊥
Narrow (r ∷ rs) (s ∷ ss) = (Same r s × (r.width ≤ s.width) × Narrow rs ss) ⊎ (Above s (r ∷ rs) × Narrow (r ∷ rs) ss)

not_under : (n k m j : ℕ) → Under n k m j → n ≡ m → k ≡ j → ⊥
not_under n k m j (inl h) e i = omega (arith, h, e)
not_under n k m j (inr h) e i = let l = h.1 in omega (arith, l, i)

-- what is above a read is covered by those behind it, and by none where it is below them
cover_behind : (s : Read) (ss : List Read) (r : Read) → Under s.node s.index r.node r.index → Covers (s ∷ ss) r → Covers ss r
cover_behind s ss r u (inl c) = absurd (not_under s.node s.index r.node r.index u (sym c.0.0) (sym c.0.1))
cover_behind s ss r u (inr c) = c

all_behind : (s : Read) (ss rs : List Read) → Above s rs → AllByRecursion (Covers (s ∷ ss)) rs → AllByRecursion (Covers ss) rs
all_behind s ss [] a h = tt
all_behind s ss (r ∷ rs) a h = (cover_behind s ss r a.0 h.0, all_behind s ss rs a.1 h.1)

not_above : (r : Read) (ss : List Read) → Above r ss → Covers ss r → ⊥
not_above r [] a c = c
not_above r (s ∷ ss) a (inl c) = not_under r.node r.index s.node s.index a.0 c.0.0 c.0.1
not_above r (s ∷ ss) a (inr c) = not_above r ss a.1 c

above_on : (r s : Read) → Under r.node r.index s.node s.index → (ss : List Read) → Above s ss → Above r ss
above_on r s u [] a = tt
above_on r s u (q ∷ ss) a = (under_on r.node r.index s.node s.index q.node q.index u a.0, above_on r s u ss a.1)

above_same : (r s : Read) → Same r s → (ss : List Read) → Above s ss → Above r ss
above_same r s e [] a = tt
above_same r s e (q ∷ ss) a = (subst (λ n. Under n r.index q.node q.index) (sym e.0) (subst (λ i. Under s.node i q.node q.index) (sym e.1) a.0), above_same r s e ss a.1)

narrow : (rs ss : List Read) → Rising rs → Rising ss → AllByRecursion (Covers ss) rs → Narrow rs ss
narrow [] ss a b h = tt
narrow (r ∷ rs) [] a b h = h.0
narrow (r ∷ rs) (s ∷ ss) a b h =
    go (read_cmp s r) (place s r) (λ i. narrow rs ss a.1 b.1 i) (λ i. narrow (r ∷ rs) ss a b.1 i)
  where
    width_in : Same s r → Covers (s ∷ ss) r → r.width ≤ s.width
    width_in e (inl c) = c.1
    width_in e (inr c) = absurd (not_above r ss (above_same r s (sym e.0, sym e.1) ss b.0) c)

    out : Under r.node r.index s.node s.index → Covers (s ∷ ss) r → ⊥
    out u c = not_above r (s ∷ ss) (u, above_on r s u ss b.0) c

    go : (o : Ordering) → Place o s r → (AllByRecursion (Covers ss) rs → Narrow rs ss) → (AllByRecursion (Covers ss) (r ∷ rs) → Narrow (r ∷ rs) ss) → Narrow (r ∷ rs) (s ∷ ss)
    go Equal e both past = inl ((sym e.0, sym e.1), width_in e h.0, both (all_behind s ss rs (above_same s r (e.0, e.1) rs a.0) h.1))
    go Less u both past = let all : Above s (r ∷ rs) = (u, above_on s r u rs a.0) in inr (all, past (all_behind s ss (r ∷ rs) all h))
    go Greater u both past = absurd (out u h.0)

-- fewer bits
abbrev width : Read → ℕ
width r = r.width

fewer_bits : (rs ss : List Read) → Narrow rs ss → sum_by width rs ≤ sum_by width ss
fewer_bits [] ss h = omega arith
fewer_bits (r ∷ rs) [] h = absurd h
fewer_bits (r ∷ rs) (s ∷ ss) (inl h) = let w = h.1 in let rest = fewer_bits rs ss h.2 in omega (arith, w, rest, sum_by-cons width r rs, sum_by-cons width s ss)
fewer_bits (r ∷ rs) (s ∷ ss) (inr h) = let rest = fewer_bits (r ∷ rs) ss h.1 in omega (arith, rest, sum_by-cons width s ss)

more_words : (m n : ℕ) → m ≤ n → 2 ^ m ≤ 2 ^ n
more_words m n h = pow-le-pow_right {n = 2} (omega arith) h

-- the words of the first as words of the second, with 0 for all others; and the words of the second cut to those of the first
abbrev extended : (rs ss : List Read) → Narrow rs ss → List ℕ → List ℕ
extended rs [] h ws = []
extended [] (s ∷ ss) h ws = 0 ∷ extended [] ss tt ws
extended (r ∷ rs) (s ∷ ss) (inl h) [] = []
extended (r ∷ rs) (s ∷ ss) (inl h) (w ∷ ws) = w ∷ extended rs ss h.2 ws
extended (r ∷ rs) (s ∷ ss) (inr h) ws = 0 ∷ extended (r ∷ rs) ss h.1 ws

abbrev cut : (rs ss : List Read) → Narrow rs ss → List ℕ → List ℕ
cut [] ss h vs = []
cut (r ∷ rs) [] h vs = []
cut (r ∷ rs) (s ∷ ss) h [] = []
cut (r ∷ rs) (s ∷ ss) (inl h) (v ∷ vs) = v % 2 ^ r.width ∷ cut rs ss h.2 vs
cut (r ∷ rs) (s ∷ ss) (inr h) (v ∷ vs) = cut (r ∷ rs) ss h.1 vs

extended_fit : (rs ss : List Read) (h : Narrow rs ss) (ws : List ℕ) → AreWords rs ws → AreWords ss (extended rs ss h ws)
extended_fit [] [] h ws a = tt
extended_fit (r ∷ rs) [] h ws a = absurd h
extended_fit [] (s ∷ ss) h ws a = (pow_pos s.width, extended_fit [] ss tt ws a)
extended_fit (r ∷ rs) (s ∷ ss) (inl h) [] a = absurd a
extended_fit (r ∷ rs) (s ∷ ss) (inl h) (w ∷ ws) a = let lt = a.0 in let le = more_words r.width s.width h.1 in (omega (arith, lt, le), extended_fit rs ss h.2 ws a.1)
extended_fit (r ∷ rs) (s ∷ ss) (inr h) ws a = (pow_pos s.width, extended_fit (r ∷ rs) ss h.1 ws a)

cut_fit : (rs ss : List Read) (h : Narrow rs ss) (vs : List ℕ) → AreWords ss vs → AreWords rs (cut rs ss h vs)
cut_fit [] ss h vs a = tt
cut_fit (r ∷ rs) [] h vs a = absurd h
cut_fit (r ∷ rs) (s ∷ ss) h [] a = absurd a
cut_fit (r ∷ rs) (s ∷ ss) (inl h) (v ∷ vs) a = (mod-lt v (pow_pos r.width), cut_fit rs ss h.2 vs a.1)
cut_fit (r ∷ rs) (s ∷ ss) (inr h) (v ∷ vs) a = cut_fit (r ∷ rs) ss h.1 vs a.1

extended_same : (rs ss : List Read) (h : Narrow rs ss) (ws vs : List ℕ) → AreWords rs ws → AreWords rs vs → extended rs ss h ws ≡ extended rs ss h vs → ws ≡ vs
extended_same [] ss h [] [] a b e = refl
extended_same [] ss h [] (v ∷ vs) a b e = absurd b
extended_same [] ss h (w ∷ ws) vs a b e = absurd a
extended_same (r ∷ rs) [] h ws vs a b e = absurd h
extended_same (r ∷ rs) (s ∷ ss) (inl h) [] vs a b e = absurd a
extended_same (r ∷ rs) (s ∷ ss) (inl h) (w ∷ ws) [] a b e = absurd b
extended_same (r ∷ rs) (s ∷ ss) (inl h) (w ∷ ws) (v ∷ vs) a b e =
    let one : w ≡ v = cc in
    let rest : extended rs ss h.2 ws ≡ extended rs ss h.2 vs = cc in
    ap (λ (x : ℕ). x ∷ ws) one ∙ ap (λ (xs : List ℕ). v ∷ xs) (extended_same rs ss h.2 ws vs a.1 b.1 rest)
extended_same (r ∷ rs) (s ∷ ss) (inr h) ws vs a b e = let rest : extended (r ∷ rs) ss h.1 ws ≡ extended (r ∷ rs) ss h.1 vs = cc in extended_same (r ∷ rs) ss h.1 ws vs a b rest

-- in the same order
abbrev Decided : Ordering → ℕ → ℕ → Type 0
Decided Less w v = w < v
Decided Equal w v = w ≡ v
Decided Greater w v = v < w

decided : (w v : ℕ) → Decided (nat_cmp w v) w v
decided w v = go (nat_lt w v) refl (nat_eq w v) refl
  where
    go : (a : Bool) → nat_lt w v ≡ a → (b : Bool) → nat_eq w v ≡ b → Decided (cond a Less (cond b Equal Greater)) w v
    go true h b i = ltb-true w v h
    go false h true i = eqb-true w v i
    go false h false i = let le = ltb-false w v h in let ne = eqb-false w v i in omega (arith, le, ne)

pub first_less : (w v : ℕ) (ws vs : List ℕ) → w < v → ComesBefore (w ∷ ws) (v ∷ vs)
first_less w v ws vs h = rw (lt-ltb w v h) refl

pub first_same : (w v : ℕ) (ws vs : List ℕ) → w ≡ v → ComesBefore ws vs → ComesBefore (w ∷ ws) (v ∷ vs)
first_same w v ws vs e h = subst (λ (x : ℕ). ComesBefore (w ∷ ws) (x ∷ vs)) e (rw (le-ltb w w (omega arith), eq-eqb w w refl) h)

-- what the first word says
by_first : (w v : ℕ) (ws vs : List ℕ) → ComesBefore (w ∷ ws) (v ∷ vs) → (w < v) ⊎ ((w ≡ v) × ComesBefore ws vs)
by_first w v ws vs = go (nat_cmp w v) (decided w v)
  where
    go : (o : Ordering) → Decided o w v → ordering_then o (slice_cmp nat_cmp ws vs) ≡ Less → (w < v) ⊎ ((w ≡ v) × ComesBefore ws vs)
    go Less d h = inl d
    go Equal d h = inr (d, h)
    go Greater d h = absurd cc

before_or : (w v : ℕ) (ws vs : List ℕ) → w ≤ v → ComesBefore ws vs → ComesBefore (w ∷ ws) (v ∷ vs)
before_or w v ws vs le h = go (nat_cmp w v) refl (decided w v)
  where
    go : (o : Ordering) → nat_cmp w v ≡ o → Decided o w v → ComesBefore (w ∷ ws) (v ∷ vs)
    go Less e d = first_less w v ws vs d
    go Equal e d = first_same w v ws vs d h
    go Greater e d = absurd (omega (arith, le, d))

extended_before : (rs ss : List Read) (h : Narrow rs ss) (ws vs : List ℕ) → AreWords rs ws → AreWords ss vs → ComesBefore ws (cut rs ss h vs) → ComesBefore (extended rs ss h ws) vs
extended_before [] ss h [] vs a b c = absurd cc
extended_before [] ss h (w ∷ ws) vs a b c = absurd a
extended_before (r ∷ rs) [] h ws vs a b c = absurd h
extended_before (r ∷ rs) (s ∷ ss) h ws [] a b c = absurd b
extended_before (r ∷ rs) (s ∷ ss) (inl h) [] (v ∷ vs) a b c = absurd a
extended_before (r ∷ rs) (s ∷ ss) (inl h) (w ∷ ws) (v ∷ vs) a b c = go (by_first w (v % 2 ^ r.width) ws (cut rs ss h.2 vs) c) (extended_before rs ss h.2 ws vs a.1 b.1)
  where
    go : (w < v % 2 ^ r.width) ⊎ ((w ≡ v % 2 ^ r.width) × ComesBefore ws (cut rs ss h.2 vs)) → (ComesBefore ws (cut rs ss h.2 vs) → ComesBefore (extended rs ss h.2 ws) vs) → ComesBefore (w ∷ extended rs ss h.2 ws) (v ∷ vs)
    go (inl l) rest = let m = mod-le v (2 ^ r.width) in first_less w v (extended rs ss h.2 ws) vs (omega (arith, l, m))
    go (inr e) rest = let m = mod-le v (2 ^ r.width) in let i = e.0 in before_or w v (extended rs ss h.2 ws) vs (omega (arith, i, m)) (rest e.1)
extended_before (r ∷ rs) (s ∷ ss) (inr h) ws (v ∷ vs) a b c = before_or 0 v (extended (r ∷ rs) ss h.1 ws) vs (omega arith) (extended_before (r ∷ rs) ss h.1 ws vs a b.1 c)

-- and the other way
cut_before : (rs ss : List Read) (h : Narrow rs ss) (ws vs : List ℕ) → AreWords rs ws → AreWords ss vs → ComesBefore vs (extended rs ss h ws) → ComesBefore (cut rs ss h vs) ws
cut_before [] [] h ws [] a b c = absurd cc
cut_before [] [] h ws (v ∷ vs) a b c = absurd b
cut_before [] (s ∷ ss) h ws [] a b c = absurd b
cut_before [] (s ∷ ss) h ws (v ∷ vs) a b c = go (by_first v 0 vs (extended [] ss tt ws) c) (cut_before [] ss tt ws vs a b.1)
  where
    go : (v < 0) ⊎ ((v ≡ 0) × ComesBefore vs (extended [] ss tt ws)) → (ComesBefore vs (extended [] ss tt ws) → ComesBefore [] ws) → ComesBefore [] ws
    go (inl l) rest = absurd (omega (arith, l))
    go (inr e) rest = rest e.1
cut_before (r ∷ rs) [] h ws vs a b c = absurd h
cut_before (r ∷ rs) (s ∷ ss) h ws [] a b c = absurd b
cut_before (r ∷ rs) (s ∷ ss) (inl h) [] (v ∷ vs) a b c = absurd a
cut_before (r ∷ rs) (s ∷ ss) (inl h) (w ∷ ws) (v ∷ vs) a b c = go (by_first v w vs (extended rs ss h.2 ws) c) (cut_before rs ss h.2 ws vs a.1 b.1)
  where
    go : (v < w) ⊎ ((v ≡ w) × ComesBefore vs (extended rs ss h.2 ws)) → (ComesBefore vs (extended rs ss h.2 ws) → ComesBefore (cut rs ss h.2 vs) ws) → ComesBefore (v % 2 ^ r.width ∷ cut rs ss h.2 vs) (w ∷ ws)
    go (inl l) rest = let m = mod-le v (2 ^ r.width) in first_less (v % 2 ^ r.width) w (cut rs ss h.2 vs) ws (omega (arith, l, m))
    go (inr e) rest = let m = mod-le v (2 ^ r.width) in let i = e.0 in before_or (v % 2 ^ r.width) w (cut rs ss h.2 vs) ws (omega (arith, i, m)) (rest e.1)
cut_before (r ∷ rs) (s ∷ ss) (inr h) ws (v ∷ vs) a b c = go (by_first v 0 vs (extended (r ∷ rs) ss h.1 ws) c) (cut_before (r ∷ rs) ss h.1 ws vs a b.1)
  where
    go : (v < 0) ⊎ ((v ≡ 0) × ComesBefore vs (extended (r ∷ rs) ss h.1 ws)) → (ComesBefore vs (extended (r ∷ rs) ss h.1 ws) → ComesBefore (cut (r ∷ rs) ss h.1 vs) ws) → ComesBefore (cut (r ∷ rs) ss h.1 vs) ws
    go (inl l) rest = absurd (omega (arith, l))
    go (inr e) rest = rest e.1

-- words that are extended are the same valuation
extended_is : (rs ss : List Read) (h : Narrow rs ss) → Rising rs → (ws : List ℕ) → AreWords rs ws → valuation_of ss (extended rs ss h ws) ≡ valuation_of rs ws
extended_is [] [] h i ws a = refl
extended_is [] (s ∷ ss) h i ws a = extended_is [] ss tt tt ws a
extended_is (r ∷ rs) [] h i ws a = absurd h
extended_is (r ∷ rs) (s ∷ ss) (inl h) i [] a = absurd a
extended_is (r ∷ rs) (s ∷ ss) (inl h) i (w ∷ ws) a =
    ap (listing s w) (extended_is rs ss h.2 i.1 ws a.1) ∙ sym (rw (h.0.0, h.0.1) refl)
extended_is (r ∷ rs) (s ∷ ss) (inr h) i ws a = extended_is (r ∷ rs) ss h.1 i ws a

-- the word that is listed for an input: of its read, or that of the others
pub listed_same : (r : Read) (w : ℕ) (a : Valuation) (n k : ℕ) → r.node ≡ n → r.index ≡ k → listed a n k ≡ 0 → listed (listing r w a) n k ≡ w
listed_same r w a n k e i z = go (nat_eq w 0) refl
  where
    go : (b : Bool) → nat_eq w 0 ≡ b → listed (cond b a (record { node = r.node; index = r.index; word = w } ∷ a)) n k ≡ w
    go true f = z ∙ sym (eqb-true w 0 f)
    go false f = rw (eq-eqb r.node n e, eq-eqb r.index k i) refl

pub other_place : (r : Read) (n k : ℕ) → Under r.node r.index n k → (nat_eq r.node n && nat_eq r.index k) ≡ false
other_place r n k (inl h) = ap (λ (b : Bool). b && nat_eq r.index k) (ne_eqb r.node n (λ e. omega (arith, h, e)))
other_place r n k (inr h) = let i = h.1 in rw (eq-eqb r.node n h.0, ne_eqb r.index k (λ e. omega (arith, i, e))) refl

pub place_other : (r : Read) (n k : ℕ) → Under n k r.node r.index → (nat_eq r.node n && nat_eq r.index k) ≡ false
place_other r n k (inl h) = ap (λ (b : Bool). b && nat_eq r.index k) (ne_eqb r.node n (λ e. omega (arith, h, e)))
place_other r n k (inr h) = let i = h.1 in rw (eq-eqb r.node n (sym h.0), ne_eqb r.index k (λ e. omega (arith, i, e))) refl

pub listed_other : (r : Read) (w : ℕ) (a : Valuation) (n k : ℕ) → (nat_eq r.node n && nat_eq r.index k) ≡ false → listed (listing r w a) n k ≡ listed a n k
listed_other r w a n k f = go (nat_eq w 0)
  where
    go : (b : Bool) → listed (cond b a (record { node = r.node; index = r.index; word = w } ∷ a)) n k ≡ listed a n k
    go true = refl
    go false = rw f refl

pub listed_above : (r : Read) (ss : List Read) → Above r ss → (vs : List ℕ) → listed (valuation_of ss vs) r.node r.index ≡ 0
listed_above r [] a vs = refl
listed_above r (s ∷ ss) a [] = refl
listed_above r (s ∷ ss) a (v ∷ vs) = listed_other s v (valuation_of ss vs) r.node r.index (place_other s r.node r.index a.0) ∙ listed_above r ss a.1 vs

pub covered_above : (r : Read) (ss : List Read) → Above r ss → (q : Read) → Covers ss q → Under r.node r.index q.node q.index
covered_above r [] a q c = absurd c
covered_above r (s ∷ ss) a q (inl c) = subst (λ n. Under r.node r.index n q.index) (sym c.0.0) (subst (λ n. Under r.node r.index s.node n) (sym c.0.1) a.0)
covered_above r (s ∷ ss) a q (inr c) = covered_above r ss a.1 q c

pub cut_wider : (v i j : ℕ) → i ≤ j → v % 2 ^ j % 2 ^ i ≡ v % 2 ^ i
cut_wider v i j h = subst (λ (n : ℕ). v % 2 ^ n % 2 ^ i ≡ v % 2 ^ i) (omega (arith, h)) (mod-mod-pow v (j - i) i)

-- what is cut gives the same words to each input that the first list has
cut_listed : (rs ss : List Read) (h : Narrow rs ss) → Rising rs → Rising ss → (vs : List ℕ) → AreWords ss vs → (q : Read) → Covers rs q
    → input_word (valuation_of ss vs) q.node q.index q.width ≡ input_word (valuation_of rs (cut rs ss h vs)) q.node q.index q.width
cut_listed [] ss h i j vs b q c = absurd c
cut_listed (r ∷ rs) [] h i j vs b q c = absurd h
cut_listed (r ∷ rs) (s ∷ ss) h i j [] b q c = absurd b
cut_listed (r ∷ rs) (s ∷ ss) (inl h) i j (v ∷ vs) b q (inl c) =
    let low : listed (valuation_of rs (cut rs ss h.2 vs)) q.node q.index ≡ 0 = subst (λ n. listed (valuation_of rs (cut rs ss h.2 vs)) n q.index ≡ 0) (sym c.0.0) (subst (λ n. listed (valuation_of rs (cut rs ss h.2 vs)) r.node n ≡ 0) (sym c.0.1) (listed_above r rs i.0 (cut rs ss h.2 vs))) in
    let node : s.node ≡ q.node = sym (c.0.0 ∙ h.0.0) in
    let index : s.index ≡ q.index = sym (c.0.1 ∙ h.0.1) in
    let high : listed (valuation_of ss vs) q.node q.index ≡ 0 = subst (λ n. listed (valuation_of ss vs) n q.index ≡ 0) node (subst (λ n. listed (valuation_of ss vs) s.node n ≡ 0) index (listed_above s ss j.0 vs)) in
    ap (λ (w : ℕ). w % 2 ^ q.width) (listed_same s v (valuation_of ss vs) q.node q.index node index high)
    ∙ (sym (cut_wider v q.width r.width c.1)
    ∙ ap (λ (w : ℕ). w % 2 ^ q.width) (sym (listed_same r (v % 2 ^ r.width) (valuation_of rs (cut rs ss h.2 vs)) q.node q.index (sym c.0.0) (sym c.0.1) low)))
cut_listed (r ∷ rs) (s ∷ ss) (inl h) i j (v ∷ vs) b q (inr c) =
    let above = covered_above r rs i.0 q c in
    let other : Under s.node s.index q.node q.index = subst (λ n. Under n s.index q.node q.index) h.0.0 (subst (λ n. Under r.node n q.node q.index) h.0.1 above) in
    ap (λ (w : ℕ). w % 2 ^ q.width) (listed_other s v (valuation_of ss vs) q.node q.index (other_place s q.node q.index other))
    ∙ (cut_listed rs ss h.2 i.1 j.1 vs b.1 q c
    ∙ ap (λ (w : ℕ). w % 2 ^ q.width) (sym (listed_other r (v % 2 ^ r.width) (valuation_of rs (cut rs ss h.2 vs)) q.node q.index (other_place r q.node q.index above))))
cut_listed (r ∷ rs) (s ∷ ss) (inr h) i j (v ∷ vs) b q c =
    ap (λ (w : ℕ). w % 2 ^ q.width) (listed_other s v (valuation_of ss vs) q.node q.index (other_place s q.node q.index (covered_above s (r ∷ rs) h.0 q c)))
    ∙ cut_listed (r ∷ rs) ss h.1 i j.1 vs b.1 q c

-- conditions go by the inputs that they read
abbrev pub Agree : Valuation → Valuation → List Read → Type 0
Agree a b rs = AllByRecursion (λ (r : Read). input_word a r.node r.index r.width ≡ input_word b r.node r.index r.width) rs

agree_left : (a b : Valuation) (rs ss : List Read) → Agree a b (rs ++ ss) → Agree a b rs
agree_left a b [] ss h = tt
agree_left a b (r ∷ rs) ss h = (h.0, agree_left a b rs ss h.1)

agree_right : (a b : Valuation) (rs ss : List Read) → Agree a b (rs ++ ss) → Agree a b ss
agree_right a b [] ss h = h
agree_right a b (r ∷ rs) ss h = agree_right a b rs ss h.1

ev_agrees : (a b : Valuation) (t : Term) → Agree a b (reads_in t) → ev a t ≡ ev b t
ev_agrees a b (Word w) h = refl
ev_agrees a b (Input n k width) h = h.0
ev_agrees a b (Apply op x y) h =
    ap (λ (w : ℕ). val op w (ev a y)) (ev_agrees a b x (agree_left a b (reads_in x) (reads_in y) h)) ∙ ap (val op (ev b x)) (ev_agrees a b y (agree_right a b (reads_in x) (reads_in y) h))
ev_agrees a b (Choice c x y) h =
    let rest = agree_right a b (reads_in c) (reads_in x ++ reads_in y) h in
    ap (λ (w : ℕ). chosen_word w (ev a x) (ev a y)) (ev_agrees a b c (agree_left a b (reads_in c) (reads_in x ++ reads_in y) h))
    ∙ (ap (λ (w : ℕ). chosen_word (ev b c) w (ev a y)) (ev_agrees a b x (agree_left a b (reads_in x) (reads_in y) rest))
    ∙ ap (chosen_word (ev b c) (ev b x)) (ev_agrees a b y (agree_right a b (reads_in x) (reads_in y) rest)))

pub holds_agrees : (a b : Valuation) (c : Condition) → Agree a b (reads_of c) → holds a c ≡ holds b c
holds_agrees a b [] h = refl
holds_agrees a b (l ∷ c) h =
    ap (λ (w : ℕ). word_holds (record { value = w; truth = l.truth }) && holds a c) (ev_agrees a b l.value (agree_left a b (reads_in l.value) (reads_of c) h))
    ∙ ap (λ (x : Bool). literal_holds b l && x) (holds_agrees a b c (agree_right a b (reads_in l.value) (reads_of c) h))

-- lists of words, each extended
distinct_map : (f : List ℕ → List ℕ) (P : List ℕ → Type 0) → ((ws vs : List ℕ) → P ws → P vs → f ws ≡ f vs → ws ≡ vs) → (l : List (List ℕ)) → AllByRecursion P l → AreDistinct l → AreDistinct (map f l)
distinct_map f P one [] h d = tt
distinct_map f P one (ws ∷ l) h d = (λ c. d.0 (back l h.1 c.0 c.1 c.2), distinct_map f P one l h.1 d.1)
  where
    back : (m : List (List ℕ)) → AllByRecursion P m → (i : ℕ) → i < length (map f m) → get_or (map f m) i (f ws) ≡ f ws → Contains m ws
    back [] p i inside e = absurd (omega (arith, inside))
    back (vs ∷ m) p zero inside e = (0, omega arith, one vs ws p.0 h.0 e)
    back (vs ∷ m) p (suc i) inside e = let r = back m p.1 i (omega (arith, inside)) e in let k = r.1 in (suc r.0, omega (arith, k), r.2)

all_mapped : (P Q : List ℕ → Type 0) (f : List ℕ → List ℕ) → ((ws : List ℕ) → P ws → Q (f ws)) → (l : List (List ℕ)) → AllByRecursion P l → AllByRecursion Q (map f l)
all_mapped P Q f g [] h = tt
all_mapped P Q f g (ws ∷ l) h = (g ws h.0, all_mapped P Q f g l h.1)

all_both : (P Q : List ℕ → Type 0) (l : List (List ℕ)) → AllByRecursion P l → AllByRecursion Q l → AllByRecursion (λ ws. P ws × Q ws) l
all_both P Q [] h i = tt
all_both P Q (ws ∷ l) h i = ((h.0, i.0), all_both P Q l h.1 i.1)

module _ (c d : Condition) (alike : ConditionAlike c d) where
  abbrev rs : List Read
  rs = widest (reads_of c)

  abbrev ss : List Read
  ss = widest (reads_of d)

  within : Narrow rs ss
  within = narrow rs ss (sorted_widest (reads_of c)) (sorted_widest (reads_of d)) (widest_least ss (reads_of c) (all_within (Covers ss) (reads_of c) (reads_of d) alike.reads (widest_has (reads_of d))))

  -- what meets the second, cut, meets the first; what meets the first, extended, meets the second
  cut_meets : (vs : List ℕ) → MeetsWith (that d) vs → MeetsWith (that c) (cut rs ss within vs)
  cut_meets vs m =
      let same = holds_agrees (valuation_of ss vs) (valuation_of rs (cut rs ss within vs)) c (agrees (reads_of c) (widest_has (reads_of c))) in
      (cut_fit rs ss within vs m.0, sym same ∙ (alike.holds (valuation_of ss vs) ∙ m.1))
    where
      agrees : (qs : List Read) → AllByRecursion (Covers rs) qs → Agree (valuation_of ss vs) (valuation_of rs (cut rs ss within vs)) qs
      agrees [] h = tt
      agrees (q ∷ qs) h = (cut_listed rs ss within (sorted_widest (reads_of c)) (sorted_widest (reads_of d)) vs m.0 q h.0, agrees qs h.1)

  extended_meets : (ws : List ℕ) → MeetsWith (that c) ws → MeetsWith (that d) (extended rs ss within ws)
  extended_meets ws m = (
    extended_fit rs ss within ws m.0,
    ap (λ (a : Valuation). holds a d) (extended_is rs ss within (sorted_widest (reads_of c)) ws m.0) ∙ (sym (alike.holds (valuation_of rs ws)) ∙ m.1),
  )

  pub small : (conflicts : ℕ) → IsSmall conflicts (that d) → IsSmall conflicts (that c)
  small conflicts h = let le = more_words (sum_by width rs) (sum_by width ss) (fewer_bits rs ss within) in omega (arith, h, le)

  pub far : (conflicts : ℕ) → IsFar conflicts (that c) → IsFar conflicts (that d)
  far conflicts f = record {
    large = λ h. f.large (small conflicts h);
    tried = map (extended rs ss within) f.tried;
    many = length-map f.tried (extended rs ss within) ∙ f.many;
    distinct = distinct_map (extended rs ss within) (AreWords rs) (extended_same rs ss within) f.tried f.each f.distinct;
    each = all_mapped (AreWords rs) (AreWords ss) (extended rs ss within) (extended_fit rs ss within) f.tried f.each;
    before = all_mapped (λ ws. AreWords rs ws × ((vs : List ℕ) → MeetsWith (that c) vs → ComesBefore ws vs)) (λ ws. (vs : List ℕ) → MeetsWith (that d) vs → ComesBefore ws vs) (extended rs ss within)
        (λ ws h vs m. extended_before rs ss within ws vs h.0 m.0 (h.1 (cut rs ss within vs) (cut_meets vs m))) f.tried
        (all_both (AreWords rs) (λ ws. (vs : List ℕ) → MeetsWith (that c) vs → ComesBefore ws vs) f.tried f.each f.before);
  }

  pub least : (a : Valuation) → IsLeast (that c) a → IsLeast (that d) a
  least a l = record {
    given_words = extended rs ss within l.given_words;
    is = l.is ∙ sym (extended_is rs ss within (sorted_widest (reads_of c)) l.given_words l.meet.0);
    meet = extended_meets l.given_words l.meet;
    least = λ vs m b. l.least (cut rs ss within vs) (cut_meets vs m) (cut_before rs ss within l.given_words vs l.meet.0 m.0 b);
  }

pub alike_standings : AlikeStandings
alike_standings conflicts c d h = (small c d h conflicts, far c d h conflicts, stands)
  where
    stands : (x : Standing) → StandsFor conflicts (that c) x → StandsFor conflicts (that d) x
    stands (Inputs a) l = least c d h a l
    stands (Open leaves) l = (l.0, far c d h conflicts l.1)
