-- In which order conditions are joined makes no difference to what is asked of the inputs.
use Rattle.std.proofs.Common.{◌≡◌, inl, inr, ℕ, zero, suc, ◌+◌, ◌<◌, ◌≤◌, max, Bool, List, [], ◌∷◌, ◌++◌, length, map, get_or, take, drop, refl, sym, ap, subst, ◌∙◌, arith, append_assoc}
use Rattle.std.specs.Prelude.{◌&&◌, true, false}
use Rattle.std.specs.declared.cmp.Ordering.{Ordering}
use Rattle.std.specs.declared.cmp.Ordering.TheVariants.{Less, Equal, Greater}
use Rattle.std.proofs.lemmas.Bool.{eq-eqb, ne_eqb, lt-ltb, le-ltb}
use Rattle.std.proofs.lemmas.List.Concat.{flat_map-append}
use Rattle.std.proofs.Math.Nat.{le-max_left, le-max_right, max-le, max_comm}
use Rattle.std.proofs.Math.Path.{fun_ext}
use Rattle.kn_model.specs.Terms.{Term, Valuation}
use Rattle.kn_model.specs.Conditions.{Condition, Read, holds, read_cmp, put_before, put_read, widest, reads_of, that, that_with}
use Rattle.kn_model.specs.Nodes.{State}
use Rattle.kn_model.specs.Deciding.{joined}
use Rattle.kn_model.proofs.Under.{holds-append}
use Rattle.kn_model.proofs.LeastInputs.{Under, under_on, Place, place}
use Rattle.kn_model.proofs.JoinedQuery.{alone, all_of, reads_append, joined_query}

-- the answer of a comparison, from the places
cmp_less : (r s : Read) → Under r.node r.index s.node s.index → read_cmp r s ≡ Less
cmp_less r s (inl h) = rw (lt-ltb r.node s.node h) refl
cmp_less r s (inr h) = let e = h.0 in rw (le-ltb r.node s.node (omega (arith, e)), eq-eqb r.node s.node e, lt-ltb r.index s.index h.1) refl

cmp_equal : (r s : Read) → r.node ≡ s.node → r.index ≡ s.index → read_cmp r s ≡ Equal
cmp_equal r s e i = rw (le-ltb r.node s.node (omega (arith, e)), eq-eqb r.node s.node e, le-ltb r.index s.index (omega (arith, i)), eq-eqb r.index s.index i) refl

cmp_greater : (r s : Read) → Under s.node s.index r.node r.index → read_cmp r s ≡ Greater
cmp_greater r s (inl h) = rw (le-ltb r.node s.node (omega (arith, h)), ne_eqb r.node s.node (λ e. omega (arith, h, e))) refl
cmp_greater r s (inr h) =
    let e = h.0 in
    let i = h.1 in
    rw (le-ltb r.node s.node (omega (arith, e)), eq-eqb r.node s.node (sym e), le-ltb r.index s.index (omega (arith, i)), ne_eqb r.index s.index (λ j. omega (arith, i, j))) refl

-- two reads of one input, as one
abbrev merged : Read → Read → Read
merged r s = record s { width = max r.width s.width }

put_less : (r s : Read) (ss : List Read) → Under r.node r.index s.node s.index → put_read r (s ∷ ss) ≡ r ∷ s ∷ ss
put_less r s ss h = ap (λ (o : Ordering). put_before o r s ss (put_read r ss)) (cmp_less r s h)

put_equal : (r s : Read) (ss : List Read) → r.node ≡ s.node → r.index ≡ s.index → put_read r (s ∷ ss) ≡ merged r s ∷ ss
put_equal r s ss e i = ap (λ (o : Ordering). put_before o r s ss (put_read r ss)) (cmp_equal r s e i)

put_greater : (r s : Read) (ss : List Read) → Under s.node s.index r.node r.index → put_read r (s ∷ ss) ≡ s ∷ put_read r ss
put_greater r s ss h = ap (λ (o : Ordering). put_before o r s ss (put_read r ss)) (cmp_greater r s h)

max_swap : (a b c : ℕ) → max a (max b c) ≡ max b (max a c)
max_swap a b c = let x = below a b c in let y = below b a c in omega (arith, x, y)
  where
    below : (p q r : ℕ) → max p (max q r) ≤ max q (max p r)
    below p q r =
        let inner = le-max_right q (max p r) in
        let one = le-max_left p r in
        let two = le-max_right p r in
        max-le (omega (arith, inner, one)) (max-le (le-max_left q (max p r)) (omega (arith, inner, two)))

-- a place under one of two reads of one input is under the other
under_same : (n k : ℕ) (s x : Read) → s.node ≡ x.node → s.index ≡ x.index → Under n k x.node x.index → Under n k s.node s.index
under_same n k s x e i h = subst (λ (j : ℕ). Under n k s.node j) (sym i) (subst (λ (m : ℕ). Under n k m x.index) (sym e) h)

-- two reads that both go in front
pair : (r s : Read) (ys : List Read) → put_read r ys ≡ r ∷ ys → put_read s ys ≡ s ∷ ys → put_read r (s ∷ ys) ≡ put_read s (r ∷ ys)
pair r s ys hr hs = go (read_cmp r s) (place r s)
  where
    go : (o : Ordering) → Place o r s → put_read r (s ∷ ys) ≡ put_read s (r ∷ ys)
    go Less h = put_less r s ys h ∙ sym (put_greater s r ys h ∙ ap (λ (zs : List Read). r ∷ zs) hs)
    go Equal h =
        put_equal r s ys h.0 h.1
        ∙ (ap (λ (w : ℕ). record s { width = w } ∷ ys) (max_comm r.width s.width)
        ∙ (ap (λ (n : ℕ). record { node = n; index = s.index; width = max s.width r.width } ∷ ys) (sym h.0)
        ∙ (ap (λ (k : ℕ). record { node = r.node; index = k; width = max s.width r.width } ∷ ys) (sym h.1) ∙ sym (put_equal s r ys (sym h.0) (sym h.1)))))
    go Greater h = put_greater r s ys h ∙ (ap (λ (zs : List Read). s ∷ zs) hr ∙ sym (put_less s r ys h))

put_swap : (r s : Read) (xs : List Read) → put_read r (put_read s xs) ≡ put_read s (put_read r xs)
put_swap r s [] = pair r s [] refl refl
put_swap r s (x ∷ xs) = go (read_cmp r x) (place r x) (read_cmp s x) (place s x) (put_swap r s xs)
  where
    less_equal : (p q : Read) → Under p.node p.index x.node x.index → q.node ≡ x.node → q.index ≡ x.index → put_read p (put_read q (x ∷ xs)) ≡ put_read q (put_read p (x ∷ xs))
    less_equal p q h e i =
        ap (put_read p) (put_equal q x xs e i)
        ∙ (put_less p (merged q x) xs h
        ∙ sym (ap (put_read q) (put_less p x xs h) ∙ (put_greater q p (x ∷ xs) (under_same p.node p.index q x e i h) ∙ ap (λ (zs : List Read). p ∷ zs) (put_equal q x xs e i))))

    less_greater : (p q : Read) → Under p.node p.index x.node x.index → Under x.node x.index q.node q.index → put_read p (put_read q (x ∷ xs)) ≡ put_read q (put_read p (x ∷ xs))
    less_greater p q h i =
        ap (put_read p) (put_greater q x xs i)
        ∙ (put_less p x (put_read q xs) h
        ∙ sym (ap (put_read q) (put_less p x xs h) ∙ (put_greater q p (x ∷ xs) (under_on p.node p.index x.node x.index q.node q.index h i) ∙ ap (λ (zs : List Read). p ∷ zs) (put_greater q x xs i))))

    equal_greater : (p q : Read) → p.node ≡ x.node → p.index ≡ x.index → Under x.node x.index q.node q.index → put_read p (put_read q (x ∷ xs)) ≡ put_read q (put_read p (x ∷ xs))
    equal_greater p q e i h =
        ap (put_read p) (put_greater q x xs h)
        ∙ (put_equal p x (put_read q xs) e i ∙ sym (ap (put_read q) (put_equal p x xs e i) ∙ put_greater q (merged p x) xs h))

    go : (o : Ordering) → Place o r x → (p : Ordering) → Place p s x → put_read r (put_read s xs) ≡ put_read s (put_read r xs) → put_read r (put_read s (x ∷ xs)) ≡ put_read s (put_read r (x ∷ xs))
    go Less a Less b ih =
        ap (put_read r) (put_less s x xs b) ∙ (pair r s (x ∷ xs) (put_less r x xs a) (put_less s x xs b) ∙ sym (ap (put_read s) (put_less r x xs a)))
    go Less a Equal b ih = less_equal r s a b.0 b.1
    go Less a Greater b ih = less_greater r s a b
    go Equal a Less b ih = sym (less_equal s r b a.0 a.1)
    go Equal a Equal b ih =
        ap (put_read r) (put_equal s x xs b.0 b.1)
        ∙ (put_equal r (merged s x) xs a.0 a.1
        ∙ (ap (λ (w : ℕ). record x { width = w } ∷ xs) (max_swap r.width s.width x.width) ∙ sym (ap (put_read s) (put_equal r x xs a.0 a.1) ∙ put_equal s (merged r x) xs b.0 b.1)))
    go Equal a Greater b ih = equal_greater r s a.0 a.1 b
    go Greater a Less b ih = sym (less_greater s r b a)
    go Greater a Equal b ih = sym (equal_greater s r b.0 b.1 a)
    go Greater a Greater b ih =
        ap (put_read r) (put_greater s x xs b)
        ∙ (put_greater r x (put_read s xs) a
        ∙ (ap (λ (zs : List Read). x ∷ zs) ih ∙ sym (ap (put_read s) (put_greater r x xs a) ∙ put_greater s x (put_read r xs) b)))

put_through : (r : Read) (ss us : List Read) → put_read r (widest (ss ++ us)) ≡ widest (ss ++ (r ∷ us))
put_through r [] us = refl
put_through r (s ∷ ss) us = put_swap r s (widest (ss ++ us)) ∙ ap (put_read s) (put_through r ss us)

-- in which order inputs are read makes no difference
pub widest_swapped : (rs ss us : List Read) → widest (rs ++ (ss ++ us)) ≡ widest (ss ++ (rs ++ us))
widest_swapped [] ss us = refl
widest_swapped (r ∷ rs) ss us = ap (put_read r) (widest_swapped rs ss us) ∙ put_through r ss (rs ++ us)

and_turned : (x y z : Bool) → (x && (y && z)) ≡ (y && (x && z))
and_turned true y z = refl
and_turned false true z = refl
and_turned false false z = refl

three_hold : (a : Valuation) (b c d : Condition) → holds a (b ++ (c ++ d)) ≡ (holds a b && (holds a c && holds a d))
three_hold a b c d = holds-append a b (c ++ d) ∙ ap (λ (x : Bool). holds a b && x) (holds-append a c d)

three_read : (b c d : Condition) → reads_of (b ++ (c ++ d)) ≡ reads_of b ++ (reads_of c ++ reads_of d)
three_read b c d = reads_append b (c ++ d) ∙ ap (λ (rs : List Read). reads_of b ++ rs) (reads_append c d)

-- nor in which order conditions are joined
pub query_swapped : (b c d : Condition) → that (b ++ (c ++ d)) ≡ that (c ++ (b ++ d))
query_swapped b c d =
    ap (λ (rs : List Read). record { reads = rs; meets = λ (a : Valuation). holds a (b ++ (c ++ d)) })
    (ap widest (three_read b c d) ∙ (widest_swapped (reads_of b) (reads_of c) (reads_of d) ∙ sym (ap widest (three_read c b d))))
    ∙ ap (λ (m : Valuation → Bool). record { reads = widest (reads_of (c ++ (b ++ d))); meets = m })
    (fun_ext (λ (a : Valuation). three_hold a b c d ∙ (and_turned (holds a b) (holds a c) (holds a d) ∙ sym (three_hold a c b d))))

-- conditions, by one of them and the others
by_place : (cs : List Condition) (n : ℕ) → n < length cs → all_of cs ≡ all_of (take n cs) ++ (get_or cs n [] ++ all_of (drop (n + 1) cs))
by_place [] n h = absurd (omega arith)
by_place (c ∷ cs) zero h = refl
by_place (c ∷ cs) (suc n) h =
    let one_on : suc n + 1 ≡ suc (n + 1) = omega arith in
    ap (λ (d : Condition). c ++ d) (by_place cs n (omega arith))
    ∙ (sym (append_assoc c (all_of (take n cs)) (get_or cs n [] ++ all_of (drop (n + 1) cs)))
    ∙ ap (λ (m : ℕ). all_of (take (suc n) (c ∷ cs)) ++ (get_or cs n [] ++ all_of (drop m (c ∷ cs)))) (sym one_on))

-- What is asked with one of some conditions, and the others as columns of one alternative each: what they ask together.
pub one_and_others : (cs : List Condition) (n : ℕ) → n < length cs → that_with (get_or cs n []) (alone (take n cs ++ drop (n + 1) cs)) ≡ that (all_of cs)
one_and_others cs n h =
    let own = get_or cs n [] in
    joined_query own (take n cs ++ drop (n + 1) cs)
    ∙ (ap (λ (d : Condition). that (own ++ d)) (flat_map-append (λ (d : Condition). d) (take n cs) (drop (n + 1) cs))
    ∙ (query_swapped own (all_of (take n cs)) (all_of (drop (n + 1) cs)) ∙ ap that (sym (by_place cs n h))))

-- the own conditions of states, joined, with one of them in front or in its place
pub joined_append : (ss us : List (State Term)) → joined (ss ++ us) ≡ joined ss ++ joined us
joined_append [] us = refl
joined_append (s ∷ ss) us = ap (λ (c : Condition). s.own ++ c) (joined_append ss us) ∙ sym (append_assoc s.own (joined ss) (joined us))

pub joined_is_all_of : (ss : List (State Term)) → joined ss ≡ all_of (map (λ (s : State Term). s.own) ss)
joined_is_all_of [] = refl
joined_is_all_of (s ∷ ss) = ap (λ (c : Condition). s.own ++ c) (joined_is_all_of ss)

pub joined_query_moved : (s : State Term) (before after : List (State Term)) → that (s.own ++ joined (before ++ after)) ≡ that (joined (before ++ s ∷ after))
joined_query_moved s before after =
    ap (λ (c : Condition). that (s.own ++ c)) (joined_append before after) ∙ (query_swapped s.own (joined before) (joined after) ∙ ap that (sym (joined_append before (s ∷ after))))
