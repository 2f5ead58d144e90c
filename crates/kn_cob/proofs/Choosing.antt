-- Of a live own condition, some path of each event is live. Whether any inputs meet a condition is found by trying the words for
-- what it reads; and a condition that reads too much to be tried reads too much with more literals.
use Rattle.std.proofs.Common.{◌≡◌, ◌⊎◌, inl, inr, ℕ, zero, suc, ◌^◌, ◌<◌, ◌≤◌, Bool, true, false, List, [], ◌∷◌, ◌++◌, length, map, sum_by, get_or, refl, sym, ap, subst, ◌∙◌, arith}
use Rattle.std.specs.Prelude.{nat_eq, ◌&&◌, Contains}
use Rattle.std.proofs.lemmas.Bool.{eqb-true, eqb-false}
use Rattle.std.proofs.lemmas.List.{append-nil}
use Rattle.std.proofs.lemmas.Grind.{flat_map-append}
use Rattle.kn_cond.specs.declared.standing.Standing.{Standing}
use Rattle.kn_cond.specs.declared.standing.Standing.TheVariants.{Inputs, Open}
use Rattle.kn_model.specs.Values.{Literal}
use Rattle.kn_packet.specs.declared.packet.Event.{Event}
use Rattle.kn_model.specs.Terms.{Term, Word, Choice, Valuation, terms, ev}
use Rattle.kn_model.specs.Conditions.{Condition, Read, Query, holds, literal_holds, reads_in, reads_of, widest, that, AreWords, valuation_of, IsPossible, IsImpossible, IsSmall, IsLive, StandsFor}
use Rattle.kn_model.specs.Nodes.{State}
use Rattle.kn_model.specs.Nets.{Network}
use Rattle.kn_model.specs.Paths.{Path, event_paths}
use Rattle.kn_model.specs.Laws.{IsNet}
use Rattle.kn_model.specs.Alikes.{ConditionAlike}
use Rattle.kn_model.proofs.Under.{holds-append}
use Rattle.kn_model.proofs.Beginning.{paths_add, Adds}
use Rattle.kn_model.proofs.LeastInputs.{sorted_widest, live_by}
use Rattle.kn_model.proofs.AlikeStandings.{widest_has, holds_agrees, small}
use Rattle.kn_model.proofs.FirstInputs.{words_for, words_fit, all_same}
use Rattle.kn_model.proofs.Stamped.{In, all-in}
use Rattle.kn_model.proofs.NeverNone.{paths_some}
use Rattle.kn_model.proofs.GoesOn.{first_in, choose_by}

-- ---- trying words

-- below a number one of a kind is found, or all are of the other
found_below : {A B : ℕ → Type 0} → ((w : ℕ) → A w ⊎ B w) → (n : ℕ) → ((w : ℕ) × (w < n) × A w) ⊎ ((w : ℕ) → w < n → B w)
found_below each zero = inr (λ w h. absurd (omega (arith, h)))
found_below {A} {B} each (suc n) = with_last (each n) (found_below each n)
  where
    last : (w : ℕ) → w < suc n → B n → ((v : ℕ) → v < n → B v) → (b : Bool) → nat_eq w n ≡ b → B w
    last w h here others true e = subst B (sym (eqb-true w n e)) here
    last w h here others false e = let ne = eqb-false w n e in others w (omega (arith, h, ne))

    with_last : A n ⊎ B n → ((w : ℕ) × (w < n) × A w) ⊎ ((w : ℕ) → w < n → B w) → ((w : ℕ) × (w < suc n) × A w) ⊎ ((w : ℕ) → w < suc n → B w)
    with_last (inl a) rest = inl (n, omega arith, a)
    with_last (inr b) (inl r) = let h = r.1 in inl (r.0, omega (arith, h), r.2)
    with_last (inr b) (inr f) = inr (λ w h. last w h b f (nat_eq w n) refl)

-- words for these reads that pass a test, or that there are none
words_found : (rs : List Read) (test : List ℕ → Bool) → ((ws : List ℕ) × AreWords rs ws × (test ws ≡ true)) ⊎ ((ws : List ℕ) → AreWords rs ws → test ws ≡ false)
words_found [] test = go (test []) refl
  where
    none : test [] ≡ false → (ws : List ℕ) → AreWords [] ws → test ws ≡ false
    none e [] h = e
    none e (w ∷ ws) h = absurd h

    go : (b : Bool) → test [] ≡ b → ((ws : List ℕ) × AreWords [] ws × (test ws ≡ true)) ⊎ ((ws : List ℕ) → AreWords [] ws → test ws ≡ false)
    go true e = inl ([], tt, e)
    go false e = inr (none e)
words_found (r ∷ rs) test = go (found_below {A = Found} {B = Lacks} (λ w. words_found rs (λ ws. test (w ∷ ws))) (2 ^ r.width))
  where
    Found : ℕ → Type 0
    Found w = (ws : List ℕ) × AreWords rs ws × (test (w ∷ ws) ≡ true)

    Lacks : ℕ → Type 0
    Lacks w = (ws : List ℕ) → AreWords rs ws → test (w ∷ ws) ≡ false

    none : ((w : ℕ) → w < 2 ^ r.width → Lacks w) → (ws : List ℕ) → AreWords (r ∷ rs) ws → test ws ≡ false
    none f [] h = absurd h
    none f (w ∷ ws) h = f w h.0 ws h.1

    go : ((w : ℕ) × (w < 2 ^ r.width) × Found w) ⊎ ((w : ℕ) → w < 2 ^ r.width → Lacks w) → ((ws : List ℕ) × AreWords (r ∷ rs) ws × (test ws ≡ true)) ⊎ ((ws : List ℕ) → AreWords (r ∷ rs) ws → test ws ≡ false)
    go (inl x) = inl (x.0 ∷ x.2.0, (x.1, x.2.1), x.2.2)
    go (inr f) = inr (none f)

-- Some inputs meet a condition, or none do.
pub possible_or_not : (c : Condition) → IsPossible (that c) ⊎ IsImpossible (that c)
possible_or_not c = go (words_found rs (λ ws. holds (valuation_of rs ws) c))
  where
    rs : List Read
    rs = widest (reads_of c)

    go : ((ws : List ℕ) × AreWords rs ws × (holds (valuation_of rs ws) c ≡ true)) ⊎ ((ws : List ℕ) → AreWords rs ws → holds (valuation_of rs ws) c ≡ false) → IsPossible (that c) ⊎ IsImpossible (that c)
    go (inl x) = inl (valuation_of rs x.0, x.2)
    go (inr none) =
        inr (λ b. sym (holds_agrees (valuation_of rs (words_for b rs)) b c (all_same b rs (reads_of c) (sorted_widest (reads_of c)) (widest_has (reads_of c)))) ∙ none (words_for b rs) (words_fit b rs))

-- ---- more literals read more

-- a literal that holds, and reads what another reads
abbrev idle : Literal Term → Literal Term
idle l = record { value = Choice l.value (Word 1) (Word 1); truth = true }

idle_holds : (a : Valuation) (d : Condition) → holds a (map idle d) ≡ true
idle_holds a [] = refl
idle_holds a (l ∷ d) = rw (one (nat_eq (ev a l.value) 0) refl) (idle_holds a d)
  where
    one : (b : Bool) → nat_eq (ev a l.value) 0 ≡ b → literal_holds a (idle l) ≡ true
    one true e = rw e refl
    one false e = rw e refl

idle_reads : (d : Condition) → reads_of (map idle d) ≡ reads_of d
idle_reads [] = refl
idle_reads (l ∷ d) = ap (λ (rs : List Read). rs ++ reads_of (map idle d)) (append-nil (reads_in l.value)) ∙ ap (λ (rs : List Read). reads_in l.value ++ rs) (idle_reads d)

reads-append : (c d : Condition) → reads_of (c ++ d) ≡ reads_of c ++ reads_of d
reads-append c d = flat_map-append (λ (l : Literal Term). reads_in l.value) c d

in_front : {A : Type 0} (x : A) (xs ys : List A) → Contains xs x → Contains (xs ++ ys) x
in_front {A} x xs ys c = go xs c.0 c.1 c.2
  where
    go : (zs : List A) (k : ℕ) → k < length zs → get_or zs k x ≡ x → Contains (zs ++ ys) x
    go [] k inside e = absurd (omega (arith, inside))
    go (z ∷ zs) zero inside e = (0, omega arith, e)
    go (z ∷ zs) (suc k) inside e = let r = go zs k (omega (arith, inside)) e in let i = r.1 in (suc r.0, omega (arith, i), r.2)

-- What is small with more literals is small.
pub small_part : (conflicts : ℕ) (c d : Condition) → IsSmall conflicts (that (c ++ d)) → IsSmall conflicts (that c)
small_part conflicts c d few =
    let e = map idle d in
    let same : reads_of (c ++ e) ≡ reads_of (c ++ d) = reads-append c e ∙ (ap (λ (rs : List Read). reads_of c ++ rs) (idle_reads d) ∙ sym (reads-append c d)) in
    let alike : ConditionAlike c (c ++ e) = record {
      holds = λ a. sym (holds-append a c e ∙ (ap (λ (b : Bool). holds a c && b) (idle_holds a d) ∙ also (holds a c)));
      reads = λ r h. subst (λ (rs : List Read). Contains rs r) (sym (reads-append c e)) (in_front r (reads_of c) (reads_of e) h);
    } in
    small c (c ++ e) alike conflicts (subst (λ (rs : List Read). 2 ^ sum_by (λ (r : Read). r.width) (widest rs) ≤ conflicts) (sym same) few)
  where
    also : (b : Bool) → (b && true) ≡ b
    also true = refl
    also false = refl

-- ---- a path that stays live

-- some inputs meet the condition, or it is not small
abbrev pub HasWay : ℕ → Condition → Type 0
HasWay conflicts c = IsPossible (that c) ⊎ (IsSmall conflicts (that c) → ⊥)

pub way_of_live : (conflicts : ℕ) (c : Condition) → IsLive conflicts (that c) → HasWay conflicts c
way_of_live conflicts c live = elim (possible_or_not c) [
  | inl p ↦ inl p
  | inr none ↦ inr (λ few. live none few)
]

pub live_of_way : (conflicts : ℕ) (c : Condition) → HasWay conflicts c → IsLive conflicts (that c)
live_of_way conflicts c (inl p) = live_by conflicts (that c) p.0 p.1
live_of_way conflicts c (inr large) = λ none few. large few

-- what has a standing is live
pub live_of_standing : (conflicts : ℕ) (q : Query) (x : Standing) → StandsFor conflicts q x → IsLive conflicts q
live_of_standing conflicts q (Inputs a) h = live_by conflicts q (valuation_of q.reads h.given_words) h.meet.1
live_of_standing conflicts q (Open leaves) h = λ none few. h.1.large few

pub choose_live : (net : Network) (n t : ℕ) → IsNet net → (e : Event) (s : State Term) → HasWay net.limits.conflicts s.own → (p : Path Term) × In p (event_paths terms net n t e s) × HasWay net.limits.conflicts p.state.own
choose_live net n t good e s (inl met) = let p = choose_by met.0 net n t good e s met.1 in (p.0, p.1, inl (met.0, p.2))
choose_live net n t good e s (inr large) =
    let ps = event_paths terms net n t e s in
    let p = first_in ps (paths_some net n t e s) in
    let adds = all-in (Adds s.own) p.0 ps (paths_add terms net n t e s) p.1 in
    (p.0, p.1, inr (λ few. large (small_part net.limits.conflicts s.own p.0.literals (subst (λ (c : Condition). IsSmall net.limits.conflicts (that c)) adds few))))
