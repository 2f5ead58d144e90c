-- In a network of at most one tick the names come in their order.
use Rattle.std.proofs.Common.{◌≡◌, ◌⊎◌, inl, inr, ℕ, zero, suc, ◌+◌, ◌<◌, ◌≤◌, Bool, true, false, cond, List, [], ◌∷◌, ◌++◌, length, map, flat_map, get_or, Option, Some, None, refl, sym, ap, subst, ◌∙◌, arith, append_assoc}
use Rattle.std.specs.Prelude.{filter}
use Rattle.std.specs.List.{AllByRecursion}
use Rattle.std.specs.declared.cmp.Ordering.{Ordering}
use Rattle.std.specs.declared.cmp.Ordering.TheVariants.{Less, Equal}
use Rattle.std.specs.Ordering.{ordering_then}
use Rattle.std.specs.Cmp.Lexicographic.{slice_cmp}
use Rattle.std.proofs.lemmas.List.{append-nil}
use Rattle.kn_model.specs.Terms.{Term, terms}
use Rattle.kn_packet.specs.declared.packet.Event.{Event}
use Rattle.kn_model.specs.Nets.{Network}
use Rattle.kn_model.specs.Due.{due, left}
use Rattle.kn_model.specs.Paths.{Path, event_paths}
use Rattle.kn_model.specs.Scenarios.{Scenario, name_of, node_at, copied, copies, copies_of, turns, settled, settled_from, rest_of_tick, finish, close, opening, cob}
use Rattle.kn_model.specs.Conditions.{AreDistinct}
use Rattle.kn_model.specs.Reports.{Rises, trace_cmp, ends}
use Rattle.kn_model.specs.Laws.{IsNet, Before, AreBefore}
use Rattle.kn_model.proofs.Lists.{all-append, all-filter, all-flat, all-weaker}
use Rattle.kn_model.proofs.Parting.{paths_in_order}
use Rattle.kn_model.proofs.Naming.{Name, Starts, with_bits, length_names, path_trace, copy_name, copy_fits, Goes_on, close_names, opening_length}

-- bits that go on, and bits behind the same bits, are in the same order
before_longer : (x y r s : List Bool) → Before x y → Before (x ++ r) (y ++ s)
before_longer [] y r s h = absurd h
before_longer (b ∷ x) [] r s h = absurd h
before_longer (false ∷ x) (false ∷ y) r s h = before_longer x y r s h
before_longer (false ∷ x) (true ∷ y) r s h = tt
before_longer (true ∷ x) (false ∷ y) r s h = absurd h
before_longer (true ∷ x) (true ∷ y) r s h = before_longer x y r s h

before_behind : (p x y : List Bool) → Before x y → Before (p ++ x) (p ++ y)
before_behind [] x y h = h
before_behind (false ∷ p) x y h = before_behind p x y h
before_behind (true ∷ p) x y h = before_behind p x y h

-- the traces before node n are the same, and that of node n has gone on
abbrev GoesAt : ℕ → Name → Name → Type 0
GoesAt n [] [] = Unit {0}
GoesAt n [] (y ∷ ys) = ⊥
GoesAt n (x ∷ xs) [] = ⊥
GoesAt zero (x ∷ xs) (y ∷ ys) = Starts x y
GoesAt (suc n) (x ∷ xs) (y ∷ ys) = (x ≡ y) × GoesAt n xs ys

-- the traces before node n are the same, and those of node n are in order
abbrev BeforeAt : ℕ → Name → Name → Type 0
BeforeAt n [] ys = ⊥
BeforeAt n (x ∷ xs) [] = ⊥
BeforeAt zero (x ∷ xs) (y ∷ ys) = Before x y
BeforeAt (suc n) (x ∷ xs) (y ∷ ys) = (x ≡ y) × BeforeAt n xs ys

-- the traces before node n are the same
abbrev Upto : ℕ → Name → Name → Type 0
Upto zero xs ys = Unit {0}
Upto (suc n) [] [] = Unit {0}
Upto (suc n) [] (y ∷ ys) = ⊥
Upto (suc n) (x ∷ xs) [] = ⊥
Upto (suc n) (x ∷ xs) (y ∷ ys) = (x ≡ y) × Upto n xs ys

-- at the first node whose traces differ, they are in order
abbrev pub NameBefore : Name → Name → Type 0
NameBefore [] ys = ⊥
NameBefore (x ∷ xs) [] = ⊥
NameBefore (x ∷ xs) (y ∷ ys) = Before x y ⊎ ((x ≡ y) × NameBefore xs ys)

goes_same : (n : ℕ) (xs : Name) → GoesAt n xs xs
goes_same n [] = tt
goes_same zero (x ∷ xs) = ([], sym (append-nil x))
goes_same (suc n) (x ∷ xs) = (refl, goes_same n xs)

goes_on : (n : ℕ) (xs ys zs : Name) → GoesAt n xs ys → GoesAt n ys zs → GoesAt n xs zs
goes_on n [] [] zs g h = h
goes_on n [] (y ∷ ys) zs g h = absurd g
goes_on n (x ∷ xs) [] zs g h = absurd g
goes_on zero (x ∷ xs) (y ∷ ys) [] g h = absurd h
goes_on (suc n) (x ∷ xs) (y ∷ ys) [] g h = absurd h
goes_on zero (x ∷ xs) (y ∷ ys) (z ∷ zs) g h = (g.0 ++ h.0, h.1 ∙ (ap (λ (q : List Bool). q ++ h.0) g.1 ∙ append_assoc x g.0 h.0))
goes_on (suc n) (x ∷ xs) (y ∷ ys) (z ∷ zs) g h = (g.0 ∙ h.0, goes_on n xs ys zs g.1 h.1)

order_goes_on : (n : ℕ) (xs ys us vs : Name) → BeforeAt n xs ys → GoesAt n xs us → GoesAt n ys vs → BeforeAt n us vs
order_goes_on n [] ys us vs b g h = absurd b
order_goes_on n (x ∷ xs) [] us vs b g h = absurd b
order_goes_on zero (x ∷ xs) (y ∷ ys) [] vs b g h = absurd g
order_goes_on (suc n) (x ∷ xs) (y ∷ ys) [] vs b g h = absurd g
order_goes_on zero (x ∷ xs) (y ∷ ys) (u ∷ us) [] b g h = absurd h
order_goes_on (suc n) (x ∷ xs) (y ∷ ys) (u ∷ us) [] b g h = absurd h
order_goes_on zero (x ∷ xs) (y ∷ ys) (u ∷ us) (v ∷ vs) b g h =
    subst (λ (q : List Bool). Before q v) (sym g.1) (subst (λ (q : List Bool). Before (x ++ g.0) q) (sym h.1) (before_longer x y g.0 h.0 b))
order_goes_on (suc n) (x ∷ xs) (y ∷ ys) (u ∷ us) (v ∷ vs) b g h = (sym g.0 ∙ (b.0 ∙ h.0), order_goes_on n xs ys us vs b.1 g.1 h.1)

upto_same : (n : ℕ) (xs : Name) → Upto n xs xs
upto_same zero xs = tt
upto_same (suc n) [] = tt
upto_same (suc n) (x ∷ xs) = (refl, upto_same n xs)

upto_on : (n : ℕ) (xs ys zs : Name) → Upto n xs ys → Upto n ys zs → Upto n xs zs
upto_on zero xs ys zs g h = tt
upto_on (suc n) [] [] zs g h = h
upto_on (suc n) [] (y ∷ ys) zs g h = absurd g
upto_on (suc n) (x ∷ xs) [] zs g h = absurd g
upto_on (suc n) (x ∷ xs) (y ∷ ys) [] g h = absurd h
upto_on (suc n) (x ∷ xs) (y ∷ ys) (z ∷ zs) g h = (g.0 ∙ h.0, upto_on n xs ys zs g.1 h.1)

upto_less : (n : ℕ) (xs ys : Name) → Upto (suc n) xs ys → Upto n xs ys
upto_less zero xs ys h = tt
upto_less (suc n) [] [] h = tt
upto_less (suc n) [] (y ∷ ys) h = absurd h
upto_less (suc n) (x ∷ xs) [] h = absurd h
upto_less (suc n) (x ∷ xs) (y ∷ ys) h = (h.0, upto_less n xs ys h.1)

goes_upto : (n : ℕ) (xs ys : Name) → GoesAt n xs ys → Upto n xs ys
goes_upto zero xs ys h = tt
goes_upto (suc n) [] [] h = tt
goes_upto (suc n) [] (y ∷ ys) h = absurd h
goes_upto (suc n) (x ∷ xs) [] h = absurd h
goes_upto (suc n) (x ∷ xs) (y ∷ ys) h = (h.0, goes_upto n xs ys h.1)

upto_goes : (n : ℕ) (xs ys : Name) → Upto (suc n) xs ys → GoesAt n xs ys
upto_goes n [] [] h = tt
upto_goes n [] (y ∷ ys) h = absurd h
upto_goes n (x ∷ xs) [] h = absurd h
upto_goes zero (x ∷ xs) (y ∷ ys) h = ([], sym h.0 ∙ sym (append-nil x))
upto_goes (suc n) (x ∷ xs) (y ∷ ys) h = (h.0, upto_goes n xs ys h.1)

at_some_node : (n : ℕ) (xs ys : Name) → BeforeAt n xs ys → NameBefore xs ys
at_some_node n [] ys h = absurd h
at_some_node n (x ∷ xs) [] h = absurd h
at_some_node zero (x ∷ xs) (y ∷ ys) h = inl h
at_some_node (suc n) (x ∷ xs) (y ∷ ys) h = inr (h.0, at_some_node n xs ys h.1)

bits_go : (xs : Name) (n : ℕ) (bits : List Bool) → GoesAt n xs (with_bits xs n bits)
bits_go [] n bits = tt
bits_go (x ∷ xs) zero bits = (bits, refl)
bits_go (x ∷ xs) (suc n) bits = (refl, bits_go xs n bits)

bits_before : (xs : Name) (n : ℕ) (b c : List Bool) → n < length xs → Before b c → BeforeAt n (with_bits xs n b) (with_bits xs n c)
bits_before [] n b c h a = absurd (omega arith)
bits_before (x ∷ xs) zero b c h a = before_behind x b c a
bits_before (x ∷ xs) (suc n) b c h a = (refl, bits_before xs n b c (omega arith) a)

-- each item is in a relation to all that come behind it
abbrev Ordered : {A : Type 0} → (A → A → Type 0) → List A → Type 0
Ordered R [] = Unit {0}
Ordered R (x ∷ xs) = AllByRecursion (R x) xs × Ordered R xs

-- Where some items are in an order C, and what comes of each follows it by F and is in an order B itself, all that comes is in order B.
module _ {A : Type 0} (B C F : A → A → Type 0) (lift : (x y u v : A) → C x y → F x u → F y v → B u v) (go : A → List A) where
  abbrev Goes : A → Type 0
  Goes x = AllByRecursion (F x) (go x) × Ordered B (go x)

  one_by_one : (x y u : A) → C x y → F x u → (vs : List A) → AllByRecursion (F y) vs → AllByRecursion (B u) vs
  one_by_one x y u c f [] h = tt
  one_by_one x y u c f (v ∷ vs) h = (lift x y u v c f h.0, one_by_one x y u c f vs h.1)

  one_all : (x u : A) → F x u → (ys : List A) → AllByRecursion (C x) ys → AllByRecursion Goes ys → AllByRecursion (B u) (flat_map go ys)
  one_all x u f [] c h = tt
  one_all x u f (y ∷ ys) c h = all-append (B u) (go y) (flat_map go ys) (one_by_one x y u c.0 f (go y) h.0.0) (one_all x u f ys c.1 h.1)

  joined_order : (x : A) (us : List A) → AllByRecursion (F x) us → Ordered B us → (ys : List A) → AllByRecursion (C x) ys → AllByRecursion Goes ys → Ordered B (flat_map go ys) → Ordered B (us ++ flat_map go ys)
  joined_order x [] f b ys c h o = o
  joined_order x (u ∷ us) f b ys c h o = (all-append (B u) us (flat_map go ys) b.0 (one_all x u f.0 ys c h), joined_order x us f.1 b.1 ys c h o)

  flat_ordered : (xs : List A) → Ordered C xs → AllByRecursion Goes xs → Ordered B (flat_map go xs)
  flat_ordered [] c h = tt
  flat_ordered (x ∷ xs) c h = joined_order x (go x) h.0.0 h.0.1 xs c.0 h.1 (flat_ordered xs c.1 h.1)

module _ (net : Network) (t : ℕ) (good : IsNet net) where
  abbrev S : Type 0
  S = Scenario Term

  abbrev Fits : S → Type 0
  Fits s = length s.nodes ≡ length net.nodes

  -- it comes of events of node n
  abbrev ComesAt : ℕ → S → S → Type 0
  ComesAt n s u = Fits u × GoesAt n (name_of s) (name_of u)

  abbrev InOrderAt : ℕ → S → S → Type 0
  InOrderAt n s u = BeforeAt n (name_of s) (name_of u)

  record AtNode (n : ℕ) (go : S → List S) : Type 0 where
    follow : (s : S) → Fits s → AllByRecursion (ComesAt n s) (go s)
    order : (s : S) → Fits s → Ordered (InOrderAt n) (go s)

  one_at_node : (n : ℕ) → AtNode n (λ s. s ∷ [])
  one_at_node n = record { follow = λ s f. ((f, goes_same n (name_of s)), tt); order = λ s f. (tt, tt) }

  then_at : (n : ℕ) (f go : S → List S) → AtNode n f → AtNode n go → AtNode n (λ s. flat_map go (f s))
  then_at n f go h i = record {
    follow = λ s x. all-flat (ComesAt n s) go (f s) (all-weaker (ComesAt n s) (λ u. AllByRecursion (ComesAt n s) (go u)) (further s) (f s) (h.follow s x));
    order = λ s x. flat_ordered (InOrderAt n) (InOrderAt n) (ComesAt n)
        (λ x y u v c a b. order_goes_on n (name_of x) (name_of y) (name_of u) (name_of v) c a.1 b.1) go (f s) (h.order s x)
        (all-weaker (ComesAt n s) (Goes (InOrderAt n) (InOrderAt n) (ComesAt n) (λ x y u v c a b. order_goes_on n (name_of x) (name_of y) (name_of u) (name_of v) c a.1 b.1) go)
        (λ u a. (i.follow u a.0, i.order u a.0)) (f s) (h.follow s x));
  }
    where
      further : (s u : S) → ComesAt n s u → AllByRecursion (ComesAt n s) (go u)
      further s u a = all-weaker (ComesAt n u) (ComesAt n s) (λ z b. (b.0, goes_on n (name_of s) (name_of u) (name_of z) a.1 b.1)) (go u) (i.follow u a.0)

  -- the copies that an event of node n makes
  copies_follow : (s : S) (n : ℕ) (e : Event) → Fits s → (ps : List (Path Term)) → AllByRecursion (Goes_on net t good s n) ps → AllByRecursion (ComesAt n s) (map (copied terms s n e) ps)
  copies_follow s n e f [] h = tt
  copies_follow s n e f (p ∷ ps) h =
      ((copy_fits net t good s n e p f, subst (GoesAt n (name_of s)) (sym (copy_name net t good s n e p h.0)) (bits_go (name_of s) n p.bits)), copies_follow s n e f ps h.1)

  one_order : (s : S) (n : ℕ) (e : Event) → n < length (name_of s) → (p : Path Term) → Goes_on net t good s n p → (ps : List (Path Term)) → AllByRecursion (Goes_on net t good s n) ps → AllByRecursion (Before p.bits) (map (λ (q : Path Term). q.bits) ps)
      → AllByRecursion (InOrderAt n (copied terms s n e p)) (map (copied terms s n e) ps)
  one_order s n e inside p g [] h a = tt
  one_order s n e inside p g (q ∷ ps) h a = (
    subst (λ (x : Name). BeforeAt n x (name_of (copied terms s n e q))) (sym (copy_name net t good s n e p g))
        (subst (BeforeAt n (with_bits (name_of s) n p.bits)) (sym (copy_name net t good s n e q h.0)) (bits_before (name_of s) n p.bits q.bits inside a.0)),
    one_order s n e inside p g ps h.1 a.1,
  )

  copies_order : (s : S) (n : ℕ) (e : Event) → n < length (name_of s) → (ps : List (Path Term)) → AllByRecursion (Goes_on net t good s n) ps → AreBefore (map (λ (q : Path Term). q.bits) ps) → Ordered (InOrderAt n) (map (copied terms s n e) ps)
  copies_order s n e inside [] h a = tt
  copies_order s n e inside (p ∷ ps) h a = (one_order s n e inside p h.0 ps h.1 a.0, copies_order s n e inside ps h.1 a.1)

  copies_at : (n : ℕ) → n < length net.nodes → AtNode n (copies terms net n t)
  copies_at n inside = record { follow = λ s f. follow_by s f (due net.limits.ticks t (node_at terms s n).state); order = λ s f. order_by s f (due net.limits.ticks t (node_at terms s n).state) }
    where
      follow_by : (s : S) → Fits s → (o : Option Event) → AllByRecursion (ComesAt n s) (copies_of terms net n t s o)
      follow_by s f None = ((f, goes_same n (name_of s)), tt)
      follow_by s f (Some e) = copies_follow s n e f (event_paths terms net n t e (node_at terms s n).state) (path_trace net t good n e (node_at terms s n).state)

      order_by : (s : S) → Fits s → (o : Option Event) → Ordered (InOrderAt n) (copies_of terms net n t s o)
      order_by s f None = (tt, tt)
      order_by s f (Some e) =
          let long = length_names s.nodes in
          let within : n < length (name_of s) = omega (arith, inside, long, f) in
          copies_order s n e within (event_paths terms net n t e (node_at terms s n).state) (path_trace net t good n e (node_at terms s n).state) (paths_in_order net n t e (node_at terms s n).state good)

  turns_at : (n fuel : ℕ) → n < length net.nodes → AtNode n (turns terms net n t fuel)
  turns_at n zero h = one_at_node n
  turns_at n (suc fuel) h = then_at n (copies terms net n t) (turns terms net n t fuel) (copies_at n h) (turns_at n fuel h)

  settled_at : (n : ℕ) → n < length net.nodes → AtNode n (settled terms net t n)
  settled_at n h = record {
    follow = λ s f. (turns_at n (left net.limits.ticks t (node_at terms s n).state) h).follow s f;
    order = λ s f. (turns_at n (left net.limits.ticks t (node_at terms s n).state) h).order s f;
  }

  -- it comes of events of nodes from n on
  abbrev ComesFrom : ℕ → S → S → Type 0
  ComesFrom n s u = Fits u × Upto n (name_of s) (name_of u)

  abbrev InOrder : S → S → Type 0
  InOrder s u = NameBefore (name_of s) (name_of u)

  record FromNode (n : ℕ) (go : S → List S) : Type 0 where
    follow : (s : S) → Fits s → AllByRecursion (ComesFrom n s) (go s)
    order : (s : S) → Fits s → Ordered InOrder (go s)

  lift_from : (n : ℕ) (x y u v : S) → InOrderAt n x y → ComesFrom (suc n) x u → ComesFrom (suc n) y v → InOrder u v
  lift_from n x y u v c a b =
      at_some_node n (name_of u) (name_of v) (order_goes_on n (name_of x) (name_of y) (name_of u) (name_of v) c (upto_goes n (name_of x) (name_of u) a.1) (upto_goes n (name_of y) (name_of v) b.1))

  then_from : (n : ℕ) (f go : S → List S) → AtNode n f → FromNode (suc n) go → FromNode n (λ s. flat_map go (f s))
  then_from n f go h i = record {
    follow = λ s x. all-flat (ComesFrom n s) go (f s) (all-weaker (ComesAt n s) (λ u. AllByRecursion (ComesFrom n s) (go u)) (further s) (f s) (h.follow s x));
    order = λ s x. flat_ordered InOrder (InOrderAt n) (ComesFrom (suc n)) (lift_from n) go (f s) (h.order s x)
        (all-weaker (ComesAt n s) (Goes InOrder (InOrderAt n) (ComesFrom (suc n)) (lift_from n) go) (λ u a. (i.follow u a.0, i.order u a.0)) (f s) (h.follow s x));
  }
    where
      further : (s u : S) → ComesAt n s u → AllByRecursion (ComesFrom n s) (go u)
      further s u a =
          all-weaker (ComesFrom (suc n) u) (ComesFrom n s) (λ z b. (b.0, upto_on n (name_of s) (name_of u) (name_of z) (goes_upto n (name_of s) (name_of u) a.1) (upto_less n (name_of u) (name_of z) b.1))) (go u) (i.follow u a.0)

  from_node : (count n : ℕ) → n + count ≡ length net.nodes → FromNode n (settled_from terms net t n count)
  from_node zero n e = record { follow = λ s f. ((f, upto_same n (name_of s)), tt); order = λ s f. (tt, tt) }
  from_node (suc count) n e =
      let next_n : n + 1 ≡ suc n = omega arith in
      let rest : FromNode (suc n) (settled_from terms net t (n + 1) count) = subst (λ (m : ℕ). FromNode m (settled_from terms net t (n + 1) count)) next_n (from_node count (n + 1) (omega (arith, e))) in
      then_from n (settled terms net t n) (settled_from terms net t (n + 1) count) (settled_at n (omega (arith, e))) rest

  closed_one : (x : S) (xs : List S) → AllByRecursion (InOrder x) xs → AllByRecursion (InOrder (close x)) (map close xs)
  closed_one x [] h = tt
  closed_one x (y ∷ ys) h =
      (subst (λ (z : Name). NameBefore z (name_of (close y))) (sym (close_names net t good x.nodes)) (subst (NameBefore (name_of x)) (sym (close_names net t good y.nodes)) h.0), closed_one x ys h.1)

  closed_order : (xs : List S) → Ordered InOrder xs → Ordered InOrder (map close xs)
  closed_order [] h = tt
  closed_order (x ∷ xs) h = (closed_one x xs h.0, closed_order xs h.1)

  -- what a scenario becomes in one tick is in order
  tick_in_order : (s : S) → Fits s → Ordered InOrder (finish terms net t s)
  tick_in_order s f = closed_order (rest_of_tick terms net t s) ((from_node (length net.nodes) 0 (omega arith)).order s f)

-- the order, as the comparison of lists
trace_less : (x y : List Bool) → Before x y → trace_cmp x y ≡ Less
trace_less [] y h = absurd h
trace_less (b ∷ x) [] h = absurd h
trace_less (false ∷ x) (false ∷ y) h = trace_less x y h
trace_less (false ∷ x) (true ∷ y) h = refl
trace_less (true ∷ x) (false ∷ y) h = absurd h
trace_less (true ∷ x) (true ∷ y) h = trace_less x y h

trace_same : (x : List Bool) → trace_cmp x x ≡ Equal
trace_same [] = refl
trace_same (false ∷ x) = trace_same x
trace_same (true ∷ x) = trace_same x

name_less : (xs ys : Name) → NameBefore xs ys → slice_cmp trace_cmp xs ys ≡ Less
name_less [] ys h = absurd h
name_less (x ∷ xs) [] h = absurd h
name_less (x ∷ xs) (y ∷ ys) (inl h) = ap (λ (o : Ordering). ordering_then o (slice_cmp trace_cmp xs ys)) (trace_less x y h)
name_less (x ∷ xs) (y ∷ ys) (inr h) =
    ap (λ (z : List Bool). ordering_then (trace_cmp x z) (slice_cmp trace_cmp xs ys)) (sym h.0)
    ∙ (ap (λ (o : Ordering). ordering_then o (slice_cmp trace_cmp xs ys)) (trace_same x) ∙ name_less xs ys h.1)

name_same : (xs : Name) → slice_cmp trace_cmp xs xs ≡ Equal
name_same [] = refl
name_same (x ∷ xs) = ap (λ (o : Ordering). ordering_then o (slice_cmp trace_cmp xs xs)) (trace_same x) ∙ name_same xs

one_rises : (x : Scenario Term) (xs : List (Scenario Term)) → AllByRecursion (λ (y : Scenario Term). NameBefore (name_of x) (name_of y)) xs → AllByRecursion (λ (ys : Name). slice_cmp trace_cmp (name_of x) ys ≡ Less) (map name_of xs)
one_rises x [] h = tt
one_rises x (y ∷ ys) h = (name_less (name_of x) (name_of y) h.0, one_rises x ys h.1)

all_rise : (xs : List (Scenario Term)) → Ordered (λ (x y : Scenario Term). NameBefore (name_of x) (name_of y)) xs → Rises (slice_cmp trace_cmp) (map name_of xs)
all_rise [] h = tt
all_rise (x ∷ xs) h = (one_rises x xs h.0, all_rise xs h.1)

pub names_rise_at : (net : Network) (t : ℕ) → IsNet net → t ≤ 1 → Rises (slice_cmp trace_cmp) (map name_of (cob terms net t))
names_rise_at net zero good h = (tt, tt)
names_rise_at net (suc zero) good h =
    subst (λ (xs : List (Scenario Term)). Rises (slice_cmp trace_cmp) (map name_of xs)) (sym (append-nil (finish terms net 0 (opening terms net))))
    (all_rise (finish terms net 0 (opening terms net)) (tick_in_order net 0 good (opening terms net) (opening_length net.nodes)))
names_rise_at net (suc (suc t)) good h = absurd (omega (arith, h))

pub names_rise : (net : Network) → IsNet net → net.limits.ticks ≤ 1 → Rises (slice_cmp trace_cmp) (map name_of (ends net))
names_rise net good h = names_rise_at net net.limits.ticks good h

-- what is left of a list that rises rises
pub rises_filtered : {A : Type 0} (cmp : A → A → Ordering) (test : A → Bool) (xs : List A) → Rises cmp xs → Rises cmp (filter test xs)
rises_filtered cmp test [] h = tt
rises_filtered {A} cmp test (x ∷ xs) h = go (test x) (rises_filtered cmp test xs h.1)
  where
    go : (b : Bool) → Rises cmp (filter test xs) → Rises cmp (cond b (x ∷ filter test xs) (filter test xs))
    go true ih = (all-filter (λ (y : A). cmp x y ≡ Less) test xs h.0, ih)
    go false ih = ih

-- the same of what is made of a list's items
pub rises_of_filtered : {A B : Type 0} (cmp : B → B → Ordering) (f : A → B) (test : A → Bool) (xs : List A) → Rises cmp (map f xs) → Rises cmp (map f (filter test xs))
rises_of_filtered cmp f test [] h = tt
rises_of_filtered {A} {B} cmp f test (x ∷ xs) h = go (test x) (rises_of_filtered cmp f test xs h.1)
  where
    kept : (y : B) (zs : List A) → AllByRecursion (λ (z : B). cmp y z ≡ Less) (map f zs) → AllByRecursion (λ (z : B). cmp y z ≡ Less) (map f (filter test zs))
    kept y [] p = tt
    kept y (z ∷ zs) p = by_test (test z) (kept y zs p.1)
      where
        by_test : (b : Bool) → AllByRecursion (λ (z : B). cmp y z ≡ Less) (map f (filter test zs)) → AllByRecursion (λ (z : B). cmp y z ≡ Less) (map f (cond b (z ∷ filter test zs) (filter test zs)))
        by_test true ih = (p.0, ih)
        by_test false ih = ih

    go : (b : Bool) → Rises cmp (map f (filter test xs)) → Rises cmp (map f (cond b (x ∷ filter test xs) (filter test xs)))
    go true ih = (kept (f x) xs h.0, ih)
    go false ih = ih

-- what rises has no item twice
pub rises_distinct : {A : Type 0} (cmp : A → A → Ordering) → ((x : A) → cmp x x ≡ Less → ⊥) → (xs : List A) → Rises cmp xs → AreDistinct xs
rises_distinct cmp same [] h = tt
rises_distinct {A} cmp same (x ∷ xs) h = (λ c. absent xs h.0 c.0 c.1 c.2, rises_distinct cmp same xs h.1)
  where
    absent : (ys : List A) → AllByRecursion (λ (y : A). cmp x y ≡ Less) ys → (k : ℕ) → k < length ys → get_or ys k x ≡ x → ⊥
    absent [] p k inside e = omega arith
    absent (y ∷ ys) p zero inside e = same x (subst (λ (z : A). cmp x z ≡ Less) e p.0)
    absent (y ∷ ys) p (suc k) inside e = absent ys p.1 k (omega arith) e

pub names_distinct : (names : List Name) → Rises (slice_cmp trace_cmp) names → AreDistinct names
names_distinct names h = rises_distinct (slice_cmp trace_cmp) (λ x e. let wrong : Equal ≡ Less = sym (name_same x) ∙ e in cc) names h
