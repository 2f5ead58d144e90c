-- The opening core of two nodes stands, and cores that differ from it in one thing do not.
use Rattle.std.proofs.Common.{◌≡◌, ℕ, zero, suc, ◌<◌, true, false, List, [], ◌∷◌, ◌++◌, length, map, Some, None, refl, sym, ap, subst, ◌∙◌, arith}
use Rattle.std.specs.Prelude.{Contains, slice_get, slice_index_or, flat_map}
use Rattle.std.specs.List.{AllByRecursion}
use Rattle.kn_model.specs.Terms.{Term, terms}
use Rattle.kn_model.specs.Histories.{gots, Done}
use Rattle.kn_model.specs.Packets.{Parcel, stamp_of}
use Rattle.kn_model.specs.Nodes.{Node}
use Rattle.kn_model.specs.Scenarios.{Scenario, name_of, opening, cob, node_at}
use Rattle.kn_model.specs.Conditions.{that, StandsFor, AreDistinct, holds}
use Rattle.kn_cond.specs.declared.standing.Standing.TheVariants.{Inputs}
use Rattle.kn_model.specs.Alikes.{Alike}
use Rattle.kn_model.specs.Replays.{record_of, SameSet, node_of, own_of}
use Rattle.kn_model.specs.Cores.{Held, StateView, DstateView, IsSame, AreSameNodes, finished, picked, state_at, IsPlaced, FitsColumns, boxes}
use Rattle.kn_worked.specs.Limits.{one_half}
use Rattle.kn_worked.specs.Cores.{net, opening_core, one_side, unsent, OpeningStands, Crossed, Unsent, Doubled, Unplaced, NotLeast, Marked, NotDrawn, StoppedEarly, StoppedElsewhere, LeftOut}
use Rattle.kn_model.proofs.AlikeTerms.{alike_self}
use Rattle.kn_worked.proofs.LeastReport.{least_inputs}
use Rattle.kn_model.proofs.Lists.{all-weaker, itself, of_map}
use Rattle.kn_worked.proofs.OneHalf.{the_only}
use Rattle.kn_worked.proofs.OverLimits.{records_kept}
use Rattle.kn_model.proofs.Rising.{names_distinct}

pub same_nodes : (ys : List (Node Term)) → AreSameNodes ys ys
same_nodes [] = tt
same_nodes (y ∷ ys) = (record { states = alike_self y.state; histories = refl; fresh = λ x. (λ c. c, λ c. c) }, same_nodes ys)

pub same_self : (s : Scenario Term) → IsSame s s
same_self s = record { nodes = same_nodes s.nodes; conditions = λ a. refl }

abbrev ended : List (Scenario Term)
ended = cob terms net 1

-- a state by its number
abbrev first : StateView
first = record { node = 0; history = Done; config = (node_at terms (opening terms net) 0).state; standing = Inputs []; held = None }

abbrev second : StateView
second = record { node = 1; history = Done; config = (node_at terms (opening terms net) 1).state; standing = Inputs []; held = None }

data Known (i : ℕ) (s : StateView) : Type 0 where
  Is_first : i ≡ 0 → first ≡ s → Known i s
  Is_second : i ≡ 1 → second ≡ s → Known i s

known : (i : ℕ) (s : StateView) → state_at opening_core i ≡ Some s → Known i s
known zero s e = Is_first refl cc
known (suc zero) s e = Is_second refl cc
known (suc (suc i)) s e = absurd cc

node_is : (i : ℕ) (s : StateView) → Known i s → i ≡ s.node
node_is i s (Is_first e f) = e ∙ ap (λ (x : StateView). x.node) f
node_is i s (Is_second e f) = e ∙ ap (λ (x : StateView). x.node) f

not_held : (i : ℕ) (s : StateView) → Known i s → s.held ≡ None
not_held i s (Is_first e f) = sym (ap (λ (x : StateView). x.held) f)
not_held i s (Is_second e f) = sym (ap (λ (x : StateView). x.held) f)

no_hold : (i : ℕ) (s : StateView) (h : Held) → state_at opening_core i ≡ Some s → s.held ≡ Some h → ⊥
no_hold i s h e f = let none = not_held i s (known i s e) in let wrong : None ≡ Some h = sym none ∙ f in cc

abbrev the_dstate : DstateView
the_dstate = record { columns = (0 ∷ []) ∷ (1 ∷ []) ∷ []; inboxes = [] ∷ [] ∷ [] }

abbrev the_pick : Scenario Term
the_pick = slice_index_or (picked opening_core the_dstate) 0 (opening terms net)

placed_at : (i : ℕ) (s : StateView) → Known i s → IsPlaced opening_core i
placed_at i s (Is_first e f) = subst (IsPlaced opening_core) (sym e) (record { dstate = the_dstate; there = (0, omega arith, refl); column = 0 ∷ []; of = (0, omega arith, refl); holds = (0, omega arith, refl) })
placed_at i s (Is_second e f) = subst (IsPlaced opening_core) (sym e) (record { dstate = the_dstate; there = (0, omega arith, refl); column = 1 ∷ []; of = (1, omega arith, refl); holds = (0, omega arith, refl) })

config_is : (i : ℕ) (s : StateView) → Known i s → Alike s.config (node_of terms net s.node s.history).state
config_is i s (Is_first e f) = subst (λ (x : StateView). Alike x.config (node_of terms net x.node x.history).state) f (alike_self first.config)
config_is i s (Is_second e f) = subst (λ (x : StateView). Alike x.config (node_of terms net x.node x.history).state) f (alike_self second.config)

standing_is : (i : ℕ) (s : StateView) → Known i s → StandsFor 65536 (that (own_of net s.node s.history)) s.standing
standing_is i s (Is_first e f) = subst (λ (x : StateView). StandsFor 65536 (that (own_of net x.node x.history)) x.standing) f least_inputs
standing_is i s (Is_second e f) = subst (λ (x : StateView). StandsFor 65536 (that (own_of net x.node x.history)) x.standing) f least_inputs

-- the column of a node is its number alone
column_is : (n : ℕ) (column : List ℕ) → slice_get the_dstate.columns n ≡ Some column → (n < 2) × (n ∷ [] ≡ column)
column_is zero column e = (omega arith, cc)
column_is (suc zero) column e = (omega arith, cc)
column_is (suc (suc n)) column e = absurd cc

box_is : (n : ℕ) (box : List (Parcel Term)) → slice_get the_dstate.inboxes n ≡ Some box → [] ≡ box
box_is zero box e = cc
box_is (suc zero) box e = cc
box_is (suc (suc n)) box e = absurd cc

state_of : (n : ℕ) → n < 2 → (s : StateView) × (state_at opening_core n ≡ Some s) × (s.node ≡ n)
state_of zero h = (first, refl, refl)
state_of (suc zero) h = (second, refl, refl)
state_of (suc (suc n)) h = absurd (omega (arith, h))

pub one_distinct : (n : ℕ) → AreDistinct (n ∷ [])
one_distinct n = (λ c. let none = c.1 in omega (arith, none), tt)

fits : FitsColumns opening_core the_dstate
fits = record {
  columns = refl;
  inboxes = refl;
  own_states = λ n i column e c.
      let k = column_is n column e in
      let same : n ≡ i = the_only n i (subst (λ (x : List ℕ). Contains x i) (sym k.1) c) in
      let s = state_of n k.0 in
      (s.0, subst (λ (j : ℕ). state_at opening_core j ≡ Some s.0) same s.1, s.2);
  distinct = λ n column e. subst AreDistinct (column_is n column e).1 (one_distinct n);
  full = λ n column e. subst (λ (x : List ℕ). 0 < length x) (column_is n column e).1 (omega arith);
  to_node = λ n box e. subst (AllByRecursion (λ (p : Parcel Term). p.packet.to ≡ n)) (box_is n box e) tt;
  all_sent = λ s c. subst (λ (u : Scenario Term). SameSet (record_of u.nodes) (flat_map (λ (y : Node Term). gots y.history) u.nodes ++ map stamp_of (boxes the_dstate))) (the_only the_pick s c) (λ x. (λ d. d, λ d. d));
  not_got = λ s c. tt;
}

at_zero : (i : ℕ) (d : DstateView) → slice_get opening_core.dstates i ≡ Some d → i ≡ 0
at_zero zero d e = refl
at_zero (suc i) d e = absurd cc

pub opening_stands : OpeningStands
opening_stands = record {
  gives = record {
    each = all-weaker (Contains ended) (λ (s : Scenario Term). (u : Scenario Term) × Contains ended u × IsSame s u) (λ s c. (s, c, same_self s)) ended (itself ended);
    once = names_distinct (map name_of ended) ((refl, (refl, (refl, tt))), ((refl, (refl, tt)), ((refl, tt), (tt, tt))));
    others = λ u c none. absurd (none (of_map name_of ended u c));
  };
  apart = λ i j s t e f p q n h. node_is i s (known i s e) ∙ (n ∙ sym (node_is j t (known j t f)));
  one_record = ((λ s t c d. subst (λ (u : Scenario Term). SameSet (record_of s.nodes) (record_of u.nodes)) (sym (the_only the_pick s c) ∙ the_only the_pick t d) (λ x. (λ k. k, λ k. k))), tt);
  records_differ = λ i j d e s t f g c h same. at_zero i d f ∙ sym (at_zero j e g);
  configs = λ i s e. config_is i s (known i s e);
  standings = λ i s e. standing_is i s (known i s e);
  columns = (fits, tt);
  placed = λ i s e h. placed_at i s (known i s e);
  serials = λ i s h e f. absurd (no_hold i s h e f);
  serials_differ = λ i j s t h k e f g m n. absurd (no_hold i s h e g);
  runs = λ i s h e f. absurd (no_hold i s h e f);
  over = tt;
  in_time = omega arith;
}

-- ---- cores that do not stand

pub crossed : Crossed
crossed core =
    let found = core.columns.0.own_states 0 1 (1 ∷ []) refl (0, omega arith, refl) in
    go found.0 found.1 found.2
  where
    go : (s : StateView) → Some second ≡ Some s → s.node ≡ 0 → ⊥
    go s e f = let g : second ≡ s = cc in let h : 1 ≡ 0 = ap (λ (x : StateView). x.node) g ∙ f in omega (arith, h)

pub unsent_fails : Unsent
unsent_fails core =
    let same = core.columns.0.all_sent _ (0, omega arith, refl) in
    let c = (same (stamp_of unsent)).1 (0, omega arith, refl) in
    let none = c.1 in
    omega (arith, none)

-- the first column holds a state at a place
pub doubled : Doubled
doubled core =
    let same = core.apart 0 2 first first refl refl
    (record { dstate = two; there = (0, omega arith, refl); column = 0 ∷ 2 ∷ []; of = (0, omega arith, refl); holds = (0, omega arith, refl) })
    (record { dstate = two; there = (0, omega arith, refl); column = 0 ∷ 2 ∷ []; of = (0, omega arith, refl); holds = (1, omega arith, refl) }) refl refl in
    omega (arith, same)
  where
    two : DstateView
    two = record { columns = (0 ∷ 2 ∷ []) ∷ (1 ∷ []) ∷ []; inboxes = [] ∷ [] ∷ [] }

pub unplaced : Unplaced
unplaced core =
    let p = core.placed 2 first refl refl in
    let d : the_dstate ≡ p.dstate = the_only the_dstate p.dstate p.there in
    go p.column (subst (λ (x : DstateView). Contains x.columns p.column) (sym d) p.of) p.holds
  where
    not_two : (n : ℕ) → n < 2 → Contains (n ∷ []) 2 → ⊥
    not_two n h c = let e = the_only n 2 c in omega (arith, h, e)

    at : (k : ℕ) (column : List ℕ) → k < 2 → slice_index_or the_dstate.columns k column ≡ column → Contains column 2 → ⊥
    at zero column h e c = not_two 0 (omega arith) (subst (λ (x : List ℕ). Contains x 2) (sym e) c)
    at (suc zero) column h e c = not_two 1 (omega arith) (subst (λ (x : List ℕ). Contains x 2) (sym e) c)
    at (suc (suc k)) column h e c = omega (arith, h)

    go : (column : List ℕ) → Contains the_dstate.columns column → Contains column 2 → ⊥
    go column c d = at c.0 column c.1 c.2 d

-- without reads no inputs are listed
pub not_least : NotLeast
not_least core = let least = core.standings 0 _ refl in let wrong = least.is in cc

pub marked : Marked
marked core = let far = (core.standings 0 _ refl).1 in far.large (omega arith)

pub not_drawn : NotDrawn
not_drawn core = let below = core.serials 0 _ _ refl refl in omega (arith, below)

pub stopped_early : StoppedEarly
stopped_early core = records_kept core.over.1

pub stopped_elsewhere : StoppedElsewhere
stopped_elsewhere core = let other : 1 ≡ 0 = core.over.0 in omega (arith, other)

pub left_out : LeftOut
left_out core =
    let lost = core.gives.others the_other (1, omega arith, refl) unnamed in
    let y : node_at terms the_other 0 ≡ lost.node = the_only (node_at terms the_other 0) lost.node lost.there in
    let never : true ≡ false = ap (λ (x : Node Term). holds [] x.state.own) y ∙ lost.impossible [] in
    cc
  where
    the_other : Scenario Term
    the_other = slice_index_or (cob terms (one_half 2) 2) 1 (opening terms net)

    unnamed : Contains (map name_of (finished one_side)) (name_of the_other) → ⊥
    unnamed c = let e = the_only _ _ c in cc
