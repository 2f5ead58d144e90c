-- The report of four copies, of which two cannot be met, is given: one failure is nowhere, and one is reached.
use Rattle.std.proofs.Common.{◌≡◌, ◌⊎◌, inl, inr, ℕ, zero, suc, ◌+◌, ◌<◌, Bool, true, false, List, [], ◌∷◌, ◌++◌, length, map, Some, refl, sym, ap, subst, ◌∙◌, arith}
use Rattle.std.specs.Prelude.{Contains, slice_get, slice_index_or, nat_eq, not, ◌&&◌, take, drop}
use Rattle.kn_model.specs.Terms.{Term, Input, Valuation, terms, ev, same_bit}
use Rattle.kn_model.specs.Nodes.{Node}
use Rattle.kn_model.specs.Scenarios.{Scenario, name_of, node_at}
use Rattle.kn_model.specs.Conditions.{Condition, Query, StandsFor, that, that_with, holds, IsLeast, IsFar}
use Rattle.kn_model.specs.Concrete.{concrete}
use Rattle.kn_model.specs.Laws.{IsNet}
use Rattle.kn_built.specs.Picks.{picks}
use Rattle.kn_model.specs.Reports.{Report, StateLine, Reach, Undecided, Nowhere, ends, IsLine, Shows, Names, IsPick, all_picks, trace_at, pick_name, NodeIn, own_at, AllOwnsOf, IsQuery, MeetsPick, HasNoPick, pick_condition, IsReached, ReachIs, IsFailure, IsFailedState, Gives}
use Rattle.kn_worked.specs.Networks.{is, is_not, i, o}
use Rattle.kn_worked.specs.Reports.{crossing, copied_told, input, sender, passing, failing, NowhereGiven, NowhereNotOpen}
use Rattle.kn_model.proofs.LeastInputs.{forced_is_least}
use Rattle.kn_model.proofs.Named.{one_by_name}
use Rattle.kn_worked.proofs.OneHalf.{the_only}
use Rattle.kn_model.proofs.Lists.{of_map}
use Rattle.kn_worked.proofs.Pointing.{some_is}
use Rattle.kn_model.proofs.Rising.{names_distinct}

good : IsNet crossing
good = record { delays = (omega arith, tt); timers = ((tt, (tt, (tt, (tt, tt)))), ((tt, (tt, (tt, tt))), tt)) }

abbrev member : ℕ → Scenario Term
member k = slice_index_or (ends crossing) k (record { nodes = []; condition = [] })

abbrev node : ℕ → ℕ → Node Term
node k n = node_at terms (member k) n

-- an item at a place
get_index : {A : Type 0} (xs : List A) (k : ℕ) (x d : A) → slice_get xs k ≡ Some x → slice_index_or xs k d ≡ x
get_index [] k x d e = absurd cc
get_index (y ∷ xs) zero x d e = cc
get_index (y ∷ xs) (suc k) x d e = get_index xs k x d e

-- a pick has the names of the nodes that it shows
shows_name : (r : Report) (p : List ℕ) (ys : List (Node Term)) → Shows r p ys → pick_name r p ≡ map (λ (y : Node Term). y.state.trace) ys
shows_name r [] [] s = refl
shows_name r [] (y ∷ ys) s = absurd s
shows_name r (k ∷ p) [] s = absurd s
shows_name r (k ∷ p) (y ∷ ys) s = ap (λ (t : List Bool). t ∷ pick_name r p) (traced s.0.0 s.0.1 ∙ s.0.2) ∙ ap (λ (ts : List (List Bool)). y.state.trace ∷ ts) (shows_name r p ys s.1)
  where
    traced : (l : StateLine) → IsLine r k l → trace_at r k ≡ l.trace
    traced l e = rw e refl

module _ (second : Reach) where
  abbrev report : Report
  report = copied_told second

  abbrev line : ℕ → StateLine
  line k = slice_index_or report.states k passing

  line_is : (k : ℕ) (l : StateLine) → IsLine report k l → line k ≡ l
  line_is k l e = get_index report.states k l passing e

  abbrev pick : ℕ → List ℕ
  pick d = (d + d) ∷ suc (d + d) ∷ []

  abbrev columns : ℕ → List (List ℕ)
  columns d = ((d + d) ∷ []) ∷ (suc (d + d) ∷ []) ∷ []

  dstate_is : (d : ℕ) (cs : List (List ℕ)) → slice_get report.dstates d ≡ Some cs → (d < 4) × (columns d ≡ cs)
  dstate_is zero cs e = (omega arith, some_is _ cs e)
  dstate_is (suc zero) cs e = (omega arith, some_is _ cs e)
  dstate_is (suc (suc zero)) cs e = (omega arith, some_is _ cs e)
  dstate_is (suc (suc (suc zero))) cs e = (omega arith, some_is _ cs e)
  dstate_is (suc (suc (suc (suc d)))) cs e = absurd cc

  pick_is : (d : ℕ) (p : List ℕ) → IsPick report d p → (d < 4) × (pick d ≡ p)
  pick_is d p is = let k = dstate_is d is.0 is.1 in (k.0, the_only (pick d) p (subst (λ (cs : List (List ℕ)). Contains (picks cs) p) (sym k.1) is.2))

  named_is : (d : ℕ) → d < 4 → (Contains (ends crossing) (member d)) × (pick_name report (pick d) ≡ name_of (member d))
  named_is zero h = ((0, omega arith, refl), refl)
  named_is (suc zero) h = ((1, omega arith, refl), refl)
  named_is (suc (suc zero)) h = ((2, omega arith, refl), refl)
  named_is (suc (suc (suc zero))) h = ((3, omega arith, refl), refl)
  named_is (suc (suc (suc (suc d)))) h = absurd (omega (arith, h))

  -- a state line names one node of one member
  record Found (k : ℕ) (y : Node Term) : Type 0 where
    pub dstate : ℕ
    pub small : dstate < 4
    pub is : ((k ≡ dstate + dstate) × (node dstate 0 ≡ y)) ⊎ ((k ≡ suc (dstate + dstate)) × (node dstate 1 ≡ y))

  two_nodes : (d : ℕ) → d < 4 → (member d).nodes ≡ node d 0 ∷ node d 1 ∷ []
  two_nodes zero h = refl
  two_nodes (suc zero) h = refl
  two_nodes (suc (suc zero)) h = refl
  two_nodes (suc (suc (suc zero))) h = refl
  two_nodes (suc (suc (suc (suc d)))) h = absurd (omega (arith, h))

  found : (k : ℕ) (y : Node Term) → NodeIn crossing report k y → Found k y
  found k y there =
      let d = there.dstate in
      let p = pick_is d there.pick there.picked in
      let m = named_is d p.0 in
      let name : name_of (member d) ≡ name_of there.scenario = sym m.1 ∙ (ap (pick_name report) p.1 ∙ shows_name report there.pick there.scenario.nodes there.named.shows) in
      let same : member d ≡ there.scenario = one_by_name crossing 2 (member d) there.scenario good m.0 there.named.member name in
      let whole : node d 0 ∷ node d 1 ∷ [] ≡ there.scenario.nodes = sym (two_nodes d p.0) ∙ ap (λ (u : Scenario Term). u.nodes) same in
      record { dstate = d; small = p.0; is = at d there.line.node (subst (λ (q : List ℕ). slice_get q there.line.node ≡ Some k) (sym p.1) there.with) (subst (λ (ys : List (Node Term)). slice_get ys there.line.node ≡ Some y) (sym whole) there.there) }
    where
      at : (d n : ℕ) → slice_get (pick d) n ≡ Some k → slice_get (node d 0 ∷ node d 1 ∷ []) n ≡ Some y → ((k ≡ d + d) × (node d 0 ≡ y)) ⊎ ((k ≡ suc (d + d)) × (node d 1 ≡ y))
      at d zero e f = inl (sym (some_is (d + d) k e), some_is (node d 0) y f)
      at d (suc zero) e f = inr (sym (some_is (suc (d + d)) k e), some_is (node d 1) y f)
      at d (suc (suc n)) e f = absurd cc

  -- ---- what each line says

  abbrev one : Condition
  one = is (Input 0 0 1) ∷ []

  abbrev zero_there : Condition
  zero_there = is_not (Input 0 0 1) ∷ []

  least_one : IsLeast (that one) (input 1)
  least_one = forced_is_least one (refl, tt) refl

  least_zero : IsLeast (that zero_there) []
  least_zero = forced_is_least zero_there (refl, tt) refl

  stands : (d : ℕ) → d < 4 → StandsFor 65536 (that (node d 0).state.own) (line (d + d)).standing × StandsFor 65536 (that (node d 1).state.own) (line (suc (d + d))).standing
  stands zero h = (least_one, least_one)
  stands (suc zero) h = (least_one, least_zero)
  stands (suc (suc zero)) h = (least_zero, least_one)
  stands (suc (suc (suc zero))) h = (least_zero, least_zero)
  stands (suc (suc (suc (suc d)))) h = absurd (omega (arith, h))

  standing_is : (k : ℕ) (l : StateLine) (y : Node Term) → IsLine report k l → Found k y → StandsFor 65536 (that y.state.own) l.standing
  standing_is k l y e f = by f.is
    where
      right : (m : ℕ) (z : Node Term) → k ≡ m → z ≡ y → StandsFor 65536 (that z.state.own) (line m).standing → StandsFor 65536 (that y.state.own) l.standing
      right m z g h w =
          subst (λ (x : StateLine). StandsFor 65536 (that y.state.own) x.standing) (line_is k l e)
          (subst (λ (x : ℕ). StandsFor 65536 (that y.state.own) (line x).standing) (sym g) (subst (λ (x : Node Term). StandsFor 65536 (that x.state.own) (line m).standing) h w))

      by : (((k ≡ f.dstate + f.dstate) × (node f.dstate 0 ≡ y)) ⊎ ((k ≡ suc (f.dstate + f.dstate)) × (node f.dstate 1 ≡ y))) → StandsFor 65536 (that y.state.own) l.standing
      by (inl g) = right (f.dstate + f.dstate) (node f.dstate 0) g.0 g.1 (stands f.dstate f.small).0
      by (inr g) = right (suc (f.dstate + f.dstate)) (node f.dstate 1) g.0 g.1 (stands f.dstate f.small).1

  nodes_of : (d : ℕ) → d < 4 → ((line (d + d)).node ≡ 0) × ((line (suc (d + d))).node ≡ 1)
  nodes_of zero h = (refl, refl)
  nodes_of (suc zero) h = (refl, refl)
  nodes_of (suc (suc zero)) h = (refl, refl)
  nodes_of (suc (suc (suc zero))) h = (refl, refl)
  nodes_of (suc (suc (suc (suc d)))) h = absurd (omega (arith, h))

  of_node : (d n k : ℕ) (cs : List (List ℕ)) (column : List ℕ) (l : StateLine) → slice_get report.dstates d ≡ Some cs → slice_get cs n ≡ Some column → Contains column k → IsLine report k l → l.node ≡ n
  of_node d n k cs column l e f h g = let w = dstate_is d cs e in at n (subst (λ (x : List (List ℕ)). slice_get x n ≡ Some column) (sym w.1) f) (nodes_of d w.0)
    where
      right : (m n : ℕ) → slice_get (columns d) n ≡ Some (m ∷ []) → Contains (m ∷ []) k → (line m).node ≡ n → l.node ≡ n
      right m n x y z = sym (ap (λ (u : StateLine). u.node) (line_is k l g)) ∙ (ap (λ (u : ℕ). (line u).node) (sym (the_only m k y)) ∙ z)

      at : (n : ℕ) → slice_get (columns d) n ≡ Some column → ((line (d + d)).node ≡ 0) × ((line (suc (d + d))).node ≡ 1) → l.node ≡ n
      at zero x z = right (d + d) 0 refl (subst (λ (c : List ℕ). Contains c k) (sym (some_is _ column x)) h) z.0
      at (suc zero) x z = right (suc (d + d)) 1 refl (subst (λ (c : List ℕ). Contains c k) (sym (some_is _ column x)) h) z.1
      at (suc (suc n)) x z = absurd cc

  placed : (k : ℕ) → k < 8 → (d : ℕ) × ((cs : List (List ℕ)) × (slice_get report.dstates d ≡ Some cs) × ((column : List ℕ) × Contains cs column × Contains column k))
  placed zero h = (0, (_, refl, (_, (0, omega arith, refl), (0, omega arith, refl))))
  placed (suc zero) h = (0, (_, refl, (_, (1, omega arith, refl), (0, omega arith, refl))))
  placed (suc (suc zero)) h = (1, (_, refl, (_, (0, omega arith, refl), (0, omega arith, refl))))
  placed (suc (suc (suc zero))) h = (1, (_, refl, (_, (1, omega arith, refl), (0, omega arith, refl))))
  placed (suc (suc (suc (suc zero)))) h = (2, (_, refl, (_, (0, omega arith, refl), (0, omega arith, refl))))
  placed (suc (suc (suc (suc (suc zero))))) h = (2, (_, refl, (_, (1, omega arith, refl), (0, omega arith, refl))))
  placed (suc (suc (suc (suc (suc (suc zero)))))) h = (3, (_, refl, (_, (0, omega arith, refl), (0, omega arith, refl))))
  placed (suc (suc (suc (suc (suc (suc (suc zero))))))) h = (3, (_, refl, (_, (1, omega arith, refl), (0, omega arith, refl))))
  placed (suc (suc (suc (suc (suc (suc (suc (suc k)))))))) h = absurd (omega (arith, h))

  failed : (k : ℕ) (l : StateLine) → IsLine report k l → IsFailure l.outcome → Contains (3 ∷ 7 ∷ []) k
  failed k l e f = by k (subst (λ (x : StateLine). IsFailure x.outcome) (sym (line_is k l e)) f) (inside report.states k l e)
    where
      inside : (ls : List StateLine) (n : ℕ) (x : StateLine) → slice_get ls n ≡ Some x → n < length ls
      inside [] n x g = absurd cc
      inside (y ∷ ls) zero x g = omega arith
      inside (y ∷ ls) (suc n) x g = let r = inside ls n x g in omega (arith, r)

      by : (n : ℕ) → IsFailure (line n).outcome → n < 8 → Contains (3 ∷ 7 ∷ []) n
      by zero w h = absurd w
      by (suc zero) w h = absurd w
      by (suc (suc zero)) w h = absurd w
      by (suc (suc (suc zero))) w h = (0, omega arith, refl)
      by (suc (suc (suc (suc zero)))) w h = absurd w
      by (suc (suc (suc (suc (suc zero))))) w h = absurd w
      by (suc (suc (suc (suc (suc (suc zero)))))) w h = absurd w
      by (suc (suc (suc (suc (suc (suc (suc zero))))))) w h = (1, omega arith, refl)
      by (suc (suc (suc (suc (suc (suc (suc (suc n)))))))) w h = absurd (omega (arith, h))

  is_failed : (k : ℕ) → Contains (3 ∷ 7 ∷ []) k → IsFailedState report k
  is_failed k c = at c.0 c.1 c.2
    where
      at : (n : ℕ) → n < 2 → slice_index_or (3 ∷ 7 ∷ []) n k ≡ k → IsFailedState report k
      at zero h e = subst (IsFailedState report) e (failing, refl, tt)
      at (suc zero) h e = subst (IsFailedState report) e (failing, refl, tt)
      at (suc (suc n)) h e = absurd (omega (arith, h))

  names_at : (d : ℕ) → d < 4 → Names crossing report (pick d) (member d)
  names_at zero h = record { member = (0, omega arith, refl); shows = ((sender o (input 1), refl, refl, refl), ((passing, refl, refl, refl), tt)) }
  names_at (suc zero) h = record { member = (1, omega arith, refl); shows = ((sender o (input 1), refl, refl, refl), ((failing, refl, refl, refl), tt)) }
  names_at (suc (suc zero)) h = record { member = (2, omega arith, refl); shows = ((sender i [], refl, refl, refl), ((passing, refl, refl, refl), tt)) }
  names_at (suc (suc (suc zero))) h = record { member = (3, omega arith, refl); shows = ((sender i [], refl, refl, refl), ((failing, refl, refl, refl), tt)) }
  names_at (suc (suc (suc (suc d)))) h = absurd (omega (arith, h))

  named : (p : List ℕ) → Contains (all_picks report) p → (s : Scenario Term) × Names crossing report p s
  named p c = at c.0 c.1 c.2
    where
      pick_at : (d : ℕ) → d < 4 → slice_index_or (all_picks report) d p ≡ pick d
      pick_at zero h = refl
      pick_at (suc zero) h = refl
      pick_at (suc (suc zero)) h = refl
      pick_at (suc (suc (suc zero))) h = refl
      pick_at (suc (suc (suc (suc d)))) h = absurd (omega (arith, h))

      at : (d : ℕ) → d < 4 → slice_index_or (all_picks report) d p ≡ p → (s : Scenario Term) × Names crossing report p s
      at d h e = (member d, subst (λ (q : List ℕ). Names crossing report q (member d)) (sym (pick_at d h) ∙ e) (names_at d h))

  -- ---- queries

  -- what one state of a dstate asks, beside the other
  abbrev asked : Condition → Condition → Query
  asked own other = that_with own ((other ∷ []) ∷ [])

  -- the own condition of a receiver, and of a sender
  own_of_receiver : (d : ℕ) (c : Condition) → own_at c crossing report (suc (d + d)) → c ≡ (node d 1).state.own
  own_of_receiver d c own = by f.is
    where
      f : Found (suc (d + d)) own.0
      f = found (suc (d + d)) own.0 own.1

      by : (((suc (d + d) ≡ f.dstate + f.dstate) × (node f.dstate 0 ≡ own.0)) ⊎ ((suc (d + d) ≡ suc (f.dstate + f.dstate)) × (node f.dstate 1 ≡ own.0))) → c ≡ (node d 1).state.own
      by (inl g) = let e = g.0 in absurd (omega (arith, e))
      by (inr g) = let e = g.0 in let same : f.dstate ≡ d = omega (arith, e) in sym own.2 ∙ (sym (ap (λ (y : Node Term). y.state.own) g.1) ∙ ap (λ (m : ℕ). (node m 1).state.own) same)

  own_of_sender : (d : ℕ) (c : Condition) → own_at c crossing report (d + d) → c ≡ (node d 0).state.own
  own_of_sender d c own = by f.is
    where
      f : Found (d + d) own.0
      f = found (d + d) own.0 own.1

      by : (((d + d ≡ f.dstate + f.dstate) × (node f.dstate 0 ≡ own.0)) ⊎ ((d + d ≡ suc (f.dstate + f.dstate)) × (node f.dstate 1 ≡ own.0))) → c ≡ (node d 0).state.own
      by (inl g) = let e = g.0 in let same : f.dstate ≡ d = omega (arith, e) in sym own.2 ∙ (sym (ap (λ (y : Node Term). y.state.own) g.1) ∙ ap (λ (m : ℕ). (node m 0).state.own) same)
      by (inr g) = let e = g.0 in absurd (omega (arith, e))

  -- a receiver's query is that of its dstate
  query_is : (e d : ℕ) (q : Query) → d < 4 → IsQuery crossing report e (suc (d + d)) q → (e ≡ d) × (q ≡ asked (node d 1).state.own (node d 0).state.own)
  query_is e d q small is = (here, is.query ∙ (ap (λ (css : List (List Condition)). that_with is.own css) (alone is.others others) ∙ ap (λ (c : Condition). asked c (node d 0).state.own) (own_of_receiver d is.own is.own_is)))
    where
      w : (e < 4) × (columns e ≡ is.columns)
      w = dstate_is e is.columns is.dstate

      at_one : is.line.node ≡ 1
      at_one = sym (ap (λ (x : StateLine). x.node) (line_is (suc (d + d)) is.line is.is)) ∙ (nodes_of d small).1

      column : suc (e + e) ∷ [] ≡ is.column
      column = some_is _ is.column (ap (λ (cs : List (List ℕ)). slice_get cs 1) w.1 ∙ (ap (λ (n : ℕ). slice_get is.columns n) (sym at_one) ∙ is.of))

      here : e ≡ d
      here = let same = the_only (suc (e + e)) (suc (d + d)) (subst (λ (x : List ℕ). Contains x (suc (d + d))) (sym column) is.in_column) in omega (arith, same)

      others : AllOwnsOf crossing report (((d + d) ∷ []) ∷ []) is.others
      others = subst (λ (m : ℕ). AllOwnsOf crossing report (((m + m) ∷ []) ∷ []) is.others) here
          (subst (λ (n : ℕ). AllOwnsOf crossing report (take n (columns e) ++ drop (n + 1) (columns e)) is.others) at_one
          (subst (λ (cs : List (List ℕ)). AllOwnsOf crossing report (take is.line.node cs ++ drop (is.line.node + 1) cs) is.others) (sym w.1) is.others_are))

      alone : (css : List (List Condition)) → AllOwnsOf crossing report (((d + d) ∷ []) ∷ []) css → css ≡ ((node d 0).state.own ∷ []) ∷ []
      alone [] h = absurd h
      alone ([] ∷ css) h = absurd h.0
      alone ((c ∷ []) ∷ []) h = ap (λ (x : Condition). (x ∷ []) ∷ []) (own_of_sender d c h.0.0)
      alone ((c ∷ (c' ∷ cs)) ∷ css) h = absurd h.0.1
      alone ((c ∷ []) ∷ (cs ∷ css)) h = absurd h.1

  -- ---- what meets a pick

  -- the member of a pick with a state, and the condition of its nodes
  meets_in : (d k : ℕ) (a : Valuation) → MeetsPick crossing report d k a → ((k ≡ d + d) ⊎ (k ≡ suc (d + d))) × (holds a (pick_condition (member d).nodes) ≡ true)
  meets_in d k a m =
      let p = pick_is d m.pick m.picked in
      let n = named_is d p.0 in
      let name : name_of (member d) ≡ name_of m.scenario = sym n.1 ∙ (ap (pick_name report) p.1 ∙ shows_name report m.pick m.scenario.nodes m.named.shows) in
      let same : member d ≡ m.scenario = one_by_name crossing 2 (member d) m.scenario good n.0 m.named.member name in
      let c : Contains (pick d) k = subst (λ (q : List ℕ). Contains q k) (sym p.1) m.with in
      (at c.0 c.1 c.2, subst (λ (u : Scenario Term). holds a (pick_condition u.nodes) ≡ true) (sym same) m.meets)
    where
      at : (n : ℕ) → n < 2 → slice_index_or (pick d) n k ≡ k → (k ≡ d + d) ⊎ (k ≡ suc (d + d))
      at zero h e = inl (sym e)
      at (suc zero) h e = inr (sym e)
      at (suc (suc n)) h e = absurd (omega (arith, h))

  place_is : (d k : ℕ) → (suc (k + k) ≡ d + d) ⊎ (suc (k + k) ≡ suc (d + d)) → d ≡ k
  place_is d k (inl e) = absurd (omega (arith, e))
  place_is d k (inr e) = omega (arith, e)

  -- the word cannot be 0 and not 0
  pub cannot : (a : Valuation) → holds a (pick_condition (member 1).nodes) ≡ false
  cannot a = go (nat_eq (ev a (Input 0 0 1)) 0)
    where
      go : (b : Bool) → (same_bit (not b) true && (same_bit (not b) false && true)) ≡ false
      go true = refl
      go false = refl

  pub nowhere_met : (d : ℕ) → HasNoPick crossing report d 3
  nowhere_met d a m =
      let in_it = meets_in d 3 a m in
      let second_one : d ≡ 1 = place_is d 1 in_it.0 in
      let wrong : true ≡ false = sym (subst (λ (e : ℕ). holds a (pick_condition (member e).nodes) ≡ true) second_one in_it.1) ∙ cannot a in
      cc

  fourth_reached : IsReached crossing report 7 3 (6 ∷ 7 ∷ []) []
  fourth_reached = record {
    picked = (columns 3, refl, (0, omega arith, refl));
    with = (1, omega arith, refl);
    scenario = member 3;
    named = names_at 3 (omega arith);
    meets = refl;
    least = record {
      entries = tt;
      has = record { pick = pick 3; picked = (columns 3, refl, (0, omega arith, refl)); with = (1, omega arith, refl); scenario = member 3; named = names_at 3 (omega arith); meets = refl };
      first = λ b before m. let none = before.lower in omega (arith, none);
    };
    run = slice_index_or (concrete crossing [] 2) 0 (record { nodes = []; condition = [] });
    concrete_run = refl;
    shows = ((sender i [], refl, refl, refl), ((failing, refl, refl, refl), tt));
    earlier = λ e less. inl (λ b m. let same = place_is e 3 (meets_in e 7 b m).0 in omega (arith, less, same));
  }

  pub gives_copies : ReachIs crossing report 3 second → Gives report crossing
  gives_copies reached = record {
    ticks = refl;
    nodes = refl;
    numbered = ((refl, (refl, (refl, (refl, tt)))), ((refl, (refl, (refl, tt))), ((refl, (refl, tt)), ((refl, tt), (tt, tt)))));
    of_node = of_node;
    named = named;
    once = names_distinct (map (pick_name report) (all_picks report)) ((refl, (refl, (refl, tt))), ((refl, (refl, tt)), ((refl, tt), (tt, tt))));
    others = λ s h none. absurd (none (of_map name_of (ends crossing) s h));
    placed = placed;
    standings = λ k l y e there. standing_is k l y e (found k y there);
    failures = λ k. (is_failed k, λ f. failed k f.0 f.1 f.2);
    in_order = ((refl, tt), (tt, tt));
    reaches = (reached, (fourth_reached, tt));
  }

pub nowhere_given : NowhereGiven
nowhere_given = gives_copies Nowhere (nowhere_met Nowhere)

pub nowhere_not_open : NowhereNotOpen
nowhere_not_open gives =
    let far = gives.reaches.0.0 in
    let query = far.1.0 in
    go (subst (IsFar 65536) (query_is Undecided far.0 1 query.0 (omega arith) query.1).1 (far.1.1 query.0 query.1))
  where
    go : IsFar 65536 (asked Undecided (is_not (Input 0 0 1) ∷ []) (is (Input 0 0 1) ∷ [])) → ⊥
    go far = far.large (omega arith)
