-- The core in which a packet was sent on one side of a branch stands, and cores that differ from it in one thing do not.
use Rattle.std.proofs.Common.{◌≡◌, ◌⊎◌, inl, inr, ℕ, zero, suc, ◌<◌, List, [], ◌∷◌, ◌++◌, length, map, Some, None, Option, refl, sym, ap, subst, ◌∙◌, arith}
use Rattle.std.specs.Prelude.{Contains, slice_get, slice_index_or, flat_map}
use Rattle.std.specs.List.{AllByRecursion}
use Rattle.kn_model.specs.Terms.{Term, Input, terms}
use Rattle.kn_model.specs.Histories.{gots, Done}
use Rattle.kn_packet.specs.declared.packet.Event.{Event}
use Rattle.kn_packet.specs.declared.packet.Event.TheVariants.{Boot, Reboot}
use Rattle.kn_model.specs.Packets.{Parcel, stamp_of}
use Rattle.kn_model.specs.Nodes.{Node}
use Rattle.kn_model.specs.Due.{due}
use Rattle.kn_model.specs.Scenarios.{Scenario, name_of, opening, cob, node_at, turns, settled_from}
use Rattle.kn_model.specs.Conditions.{that, StandsFor, AreDistinct}
use Rattle.kn_cond.specs.declared.standing.Standing.TheVariants.{Inputs}
use Rattle.kn_model.specs.Alikes.{Alike, MetAt}
use Rattle.kn_model.specs.Replays.{record_of, SameSet, node_of, own_of}
use Rattle.kn_model.specs.Cores.{Held, StateView, DstateView, CoreView, IsSame, finished, picked, state_at, IsPlaced, FitsColumns, HaveOneRecord, boxes, RunsIn}
use Rattle.kn_worked.specs.Networks.{is, is_not, i, o}
use Rattle.kn_worked.specs.Cores.{sending, booted, packet, sent_core, with_sender, SentStands, OneForBoth, NotInInbox, OtherEvent}
use Rattle.kn_model.proofs.Implied.{all-contains}
use Rattle.kn_model.proofs.LeastInputs.{forced_is_least}
use Rattle.kn_worked.proofs.OneHalf.{the_only, stays}
use Rattle.kn_model.proofs.AlikeTerms.{alike_self}
use Rattle.kn_worked.proofs.OpeningCore.{same_self, one_distinct}

abbrev silent : DstateView
silent = with_sender (0 ∷ []) []

abbrev loud : DstateView
loud = with_sender (1 ∷ []) (packet ∷ [])

abbrev core : CoreView
core = sent_core Boot (silent ∷ loud ∷ [])

abbrev end : ℕ → Scenario Term
end k = slice_index_or (cob terms sending 1) k (opening terms sending)

-- what the picks become
abbrev made : ℕ → Scenario Term
made k = slice_index_or (finished core) k (opening terms sending)

-- the receiver, with its guard in two spellings
same_receiver : Alike (node_at terms (made 1) 1).state (node_at terms (end 0) 1).state
same_receiver =
    let same = alike_self (node_at terms (end 0) 1).state in
    record {
      trace = refl;
      outcome = refl;
      timers = refl;
      inputs = refl;
      sent = refl;
      losses = refl;
      duplications = refl;
      booted = refl;
      reboots = refl;
      registers = same.registers;
      memory = same.memory;
      queue = (record { key = refl; payload = same.queue.0.payload }, tt);
      own = record { holds = λ a. refl; reads = λ r c. c };
    }

same_loud : IsSame (made 1) (end 0)
same_loud = record {
  nodes = (
    record { states = alike_self (node_at terms (end 0) 0).state; histories = refl; fresh = λ x. (λ c. c, λ c. c) },
    (record { states = same_receiver; histories = refl; fresh = λ x. (λ c. c, λ c. c) }, tt),
  );
  conditions = λ a. refl;
}

-- the same record
reflexive : (s : Scenario Term) → SameSet (record_of s.nodes) (record_of s.nodes)
reflexive s x = (λ c. c, λ c. c)

-- ---- its states

abbrev view : ℕ → StateView
view n = of (state_at core n)
  where
    of : Option StateView → StateView
    of None = record { node = 0; history = Done; config = (node_at terms (end 0) 0).state; standing = Inputs []; held = None }
    of (Some s) = s

view_is : (n : ℕ) (s : StateView) → state_at core n ≡ Some s → (n < 3) × (view n ≡ s)
view_is zero s e = (omega arith, cc)
view_is (suc zero) s e = (omega arith, cc)
view_is (suc (suc zero)) s e = (omega arith, cc)
view_is (suc (suc (suc n))) s e = absurd cc

-- what holds of each of the three
by_number : (P : ℕ → StateView → Type 0) → P 0 (view 0) → P 1 (view 1) → P 2 (view 2) → (n : ℕ) (s : StateView) → state_at core n ≡ Some s → P n s
by_number P x y z n s e = let k = view_is n s e in subst (P n) k.1 (at n k.0)
  where
    at : (m : ℕ) → m < 3 → P m (view m)
    at zero h = x
    at (suc zero) h = y
    at (suc (suc zero)) h = z
    at (suc (suc (suc m))) h = absurd (omega (arith, h))

-- two of them with one node and history are one
abbrev IsOne : ℕ → StateView → Type 0
IsOne n s = (m : ℕ) (t : StateView) → state_at core m ≡ Some t → s.node ≡ t.node → s.history ≡ t.history → n ≡ m

differ : (n : ℕ) (s : StateView) → state_at core n ≡ Some s → IsOne n s
differ = by_number IsOne
    (by_number (λ m t. 0 ≡ t.node → booted i ≡ t.history → 0 ≡ m) (λ e f. refl) (λ e f. absurd cc) (λ e f. absurd (omega (arith, e))))
    (by_number (λ m t. 0 ≡ t.node → booted o ≡ t.history → 1 ≡ m) (λ e f. absurd cc) (λ e f. refl) (λ e f. absurd (omega (arith, e))))
    (by_number (λ m t. 1 ≡ t.node → Done ≡ t.history → 2 ≡ m) (λ e f. absurd (omega (arith, e))) (λ e f. absurd (omega (arith, e))) (λ e f. refl))

abbrev ConfigIs : ℕ → StateView → Type 0
ConfigIs n s = Alike s.config (node_of terms sending s.node s.history).state

abbrev StandingIs : ℕ → StateView → Type 0
StandingIs n s = StandsFor 65536 (that (own_of sending s.node s.history)) s.standing

in_silent : (n : ℕ) (column : List ℕ) → Contains silent.columns column → Contains column n → IsPlaced core n
in_silent n column c d = record { dstate = silent; there = (0, omega arith, refl); column = column; of = c; holds = d }

abbrev Held_at : ℕ → StateView → Type 0
Held_at n s = (h : Held) → s.held ≡ Some h → (n ≡ 2) × (h.serial ≡ 0)

held_at : (n : ℕ) (s : StateView) → state_at core n ≡ Some s → Held_at n s
held_at = by_number Held_at (λ h e. absurd cc) (λ h e. absurd cc) (λ h e. (refl, sym (ap serial_in e)))
  where
    serial_in : Option Held → ℕ
    serial_in None = 0
    serial_in (Some h) = h.serial

-- the receiver's boot runs where the sender has sent
boots : (h : Held) → (view 2).held ≡ Some h → RunsIn core (view 2) h
boots h e = record {
  scenario = here;
  met = record { inside = omega arith; start = opening terms sending; member = (0, omega arith, refl); before = here; reached = (0, omega arith, refl); count = 0; turned = (0, omega arith, refl) };
  node = node_at terms here 1;
  there = refl;
  with_history = refl;
  event = event_is (view 2).held e refl;
}
  where
    here : Scenario Term
    here = slice_index_or (settled_from terms sending 0 0 1 (opening terms sending)) 0 (opening terms sending)

    event_is : (x : Option Held) → x ≡ Some h → Some (record { serial = 0; event = Boot }) ≡ x → Some Boot ≡ Some h.event
    event_is x f g = ap (λ (y : Option Held). event_in y) (g ∙ f)
      where
        event_in : Option Held → Option Event
        event_in None = None
        event_in (Some k) = Some k.event

-- ---- its dstates

-- the states of the sender in a dstate, and its inbox
module _ (n : ℕ) (small : n < 2) (inbox : List (Parcel Term)) where
  abbrev the_dstate : DstateView
  the_dstate = with_sender (n ∷ []) inbox

  column_is : (m : ℕ) (column : List ℕ) → slice_get the_dstate.columns m ≡ Some column → ((m ≡ 0) × (n ∷ [] ≡ column)) ⊎ ((m ≡ 1) × (2 ∷ [] ≡ column))
  column_is zero column e = inl (refl, cc)
  column_is (suc zero) column e = inr (refl, cc)
  column_is (suc (suc m)) column e = absurd cc

  sender_at : (m : ℕ) → m < 2 → (s : StateView) × (state_at core m ≡ Some s) × (s.node ≡ 0)
  sender_at zero h = (view 0, refl, refl)
  sender_at (suc zero) h = (view 1, refl, refl)
  sender_at (suc (suc m)) h = absurd (omega (arith, h))

  own_states : (m k : ℕ) (column : List ℕ) → slice_get the_dstate.columns m ≡ Some column → Contains column k → (s : StateView) × (state_at core k ≡ Some s) × (s.node ≡ m)
  own_states m k column e c = by (column_is m column e)
    where
      by : (((m ≡ 0) × (n ∷ [] ≡ column)) ⊎ ((m ≡ 1) × (2 ∷ [] ≡ column))) → (s : StateView) × (state_at core k ≡ Some s) × (s.node ≡ m)
      by (inl f) =
          let same = the_only n k (subst (λ (x : List ℕ). Contains x k) (sym f.1) c) in
          let s = sender_at n small in
          (s.0, subst (λ (j : ℕ). state_at core j ≡ Some s.0) same s.1, s.2 ∙ sym f.0)
      by (inr f) =
          let same = the_only 2 k (subst (λ (x : List ℕ). Contains x k) (sym f.1) c) in
          (view 2, subst (λ (j : ℕ). state_at core j ≡ Some (view 2)) same refl, sym f.0)

  each_column : (P : List ℕ → Type 0) → ((m : ℕ) → P (m ∷ [])) → (m : ℕ) (column : List ℕ) → slice_get the_dstate.columns m ≡ Some column → P column
  each_column P p m column e = by (column_is m column e)
    where
      by : (((m ≡ 0) × (n ∷ [] ≡ column)) ⊎ ((m ≡ 1) × (2 ∷ [] ≡ column))) → P column
      by (inl f) = subst P f.1 (p n)
      by (inr f) = subst P f.1 (p 2)

  to_node : AllByRecursion (λ (p : Parcel Term). p.packet.to ≡ 1) inbox → (m : ℕ) (box : List (Parcel Term)) → slice_get the_dstate.inboxes m ≡ Some box → AllByRecursion (λ (p : Parcel Term). p.packet.to ≡ m) box
  to_node h zero box e = let f : [] ≡ box = cc in subst (AllByRecursion (λ (p : Parcel Term). p.packet.to ≡ 0)) f tt
  to_node h (suc zero) box e = let f : inbox ≡ box = cc in subst (AllByRecursion (λ (p : Parcel Term). p.packet.to ≡ 1)) f h
  to_node h (suc (suc m)) box e = absurd cc

abbrev picked_by : DstateView → Scenario Term
picked_by d = slice_index_or (picked core d) 0 (opening terms sending)

silent_fits : FitsColumns core silent
silent_fits = record {
  columns = refl;
  inboxes = refl;
  own_states = own_states 0 (omega arith) [];
  distinct = each_column 0 (omega arith) [] AreDistinct one_distinct;
  full = each_column 0 (omega arith) [] (λ column. 0 < length column) (λ m. omega arith);
  to_node = to_node 0 (omega arith) [] tt;
  all_sent = λ s c. subst (λ (u : Scenario Term). SameSet (record_of u.nodes) (flat_map (λ (y : Node Term). gots y.history) u.nodes ++ map stamp_of (boxes silent))) (the_only (picked_by silent) s c) (λ x. (λ k. k, λ k. k));
  not_got = λ s c. tt;
}

loud_fits : FitsColumns core loud
loud_fits = record {
  columns = refl;
  inboxes = refl;
  own_states = own_states 1 (omega arith) (packet ∷ []);
  distinct = each_column 1 (omega arith) (packet ∷ []) AreDistinct one_distinct;
  full = each_column 1 (omega arith) (packet ∷ []) (λ column. 0 < length column) (λ m. omega arith);
  to_node = to_node 1 (omega arith) (packet ∷ []) (refl, tt);
  all_sent = λ s c. subst (λ (u : Scenario Term). SameSet (record_of u.nodes) (flat_map (λ (y : Node Term). gots y.history) u.nodes ++ map stamp_of (boxes loud))) (the_only (picked_by loud) s c) (λ x. (λ k. k, λ k. k));
  not_got = λ s c. subst (λ (u : Scenario Term). AllByRecursion (λ (p : Parcel Term). Contains (flat_map (λ (y : Node Term). gots y.history) u.nodes) (stamp_of p) → ⊥) (boxes loud)) (the_only (picked_by loud) s c)
      ((λ k. let none = k.1 in omega (arith, none)), tt);
}

-- all scenarios of a list of one are one
one_record : (x : Scenario Term) → HaveOneRecord (x ∷ [])
one_record x s u c h = subst (λ (y : Scenario Term). SameSet (record_of s.nodes) (record_of y.nodes)) (sym (the_only x s c) ∙ the_only x u h) (reflexive s)

-- the packet tells the dstates apart
abbrev Side : ℕ → Scenario Term → Type 0
Side m s = ((m ≡ 0) × (picked_by silent ≡ s)) ⊎ ((m ≡ 1) × (picked_by loud ≡ s))

side : (m : ℕ) (d : DstateView) (s : Scenario Term) → slice_get core.dstates m ≡ Some d → Contains (picked core d) s → Side m s
side zero d s e c = let f : silent ≡ d = cc in inl (refl, the_only (picked_by silent) s (subst (λ (x : DstateView). Contains (picked core x) s) (sym f) c))
side (suc zero) d s e c = let f : loud ≡ d = cc in inr (refl, the_only (picked_by loud) s (subst (λ (x : DstateView). Contains (picked core x) s) (sym f) c))
side (suc (suc m)) d s e c = absurd cc

loud_differs : Contains (record_of (picked_by silent).nodes) (stamp_of packet) → ⊥
loud_differs c = let none = c.1 in omega (arith, none)

loud_has : Contains (record_of (picked_by loud).nodes) (stamp_of packet)
loud_has = (0, omega arith, refl)

records_differ : (m n : ℕ) (s u : Scenario Term) → Side m s → Side n u → SameSet (record_of s.nodes) (record_of u.nodes) → m ≡ n
records_differ m n s u (inl a) (inl b) same = a.0 ∙ sym b.0
records_differ m n s u (inr a) (inr b) same = a.0 ∙ sym b.0
records_differ m n s u (inl a) (inr b) same =
    absurd (loud_differs (subst (λ (x : Scenario Term). Contains (record_of x.nodes) (stamp_of packet)) (sym a.1) ((same (stamp_of packet)).1 (subst (λ (x : Scenario Term). Contains (record_of x.nodes) (stamp_of packet)) b.1 loud_has))))
records_differ m n s u (inr a) (inl b) same =
    absurd (loud_differs (subst (λ (x : Scenario Term). Contains (record_of x.nodes) (stamp_of packet)) (sym b.1) ((same (stamp_of packet)).0 (subst (λ (x : Scenario Term). Contains (record_of x.nodes) (stamp_of packet)) a.1 loud_has))))

-- ---- it stands

two_ends : (u : Scenario Term) → Contains (cob terms sending 1) u → Contains (map name_of (finished core)) (name_of u)
two_ends u c = all-contains (λ (x : Scenario Term). Contains (map name_of (finished core)) (name_of x)) (cob terms sending 1) u ((1, omega arith, refl), ((0, omega arith, refl), tt)) c

pub sent_stands : SentStands
sent_stands = record {
  gives = record {
    each = ((end 1, (1, omega arith, refl), same_self (end 1)), ((end 0, (0, omega arith, refl), same_loud), tt));
    once = ((λ c. let e = the_only _ _ c in absurd cc), ((λ c. let none = c.1 in omega (arith, none)), tt));
    others = λ u c none. absurd (none (two_ends u c));
  };
  apart = λ m n s t e f p q same h. differ m s e n t f same h;
  one_record = (one_record (picked_by silent), (one_record (picked_by loud), tt));
  records_differ = λ m n d e s u f g c h same. records_differ m n s u (side m d s f c) (side n e u g h) same;
  configs = by_number ConfigIs (alike_self (view 0).config) (alike_self (view 1).config) (alike_self (view 2).config);
  standings = by_number StandingIs (forced_is_least (is_not (Input 0 0 1) ∷ []) (refl, tt) refl) (forced_is_least (is (Input 0 0 1) ∷ []) (refl, tt) refl) (forced_is_least [] tt refl);
  columns = (silent_fits, (loud_fits, tt));
  placed = by_number (λ n s. s.held ≡ None → IsPlaced core n)
      (λ h. in_silent 0 (0 ∷ []) (0, omega arith, refl) (0, omega arith, refl))
      (λ h. record { dstate = loud; there = (1, omega arith, refl); column = 1 ∷ []; of = (0, omega arith, refl); holds = (0, omega arith, refl) })
      (λ h. in_silent 2 (2 ∷ []) (1, omega arith, refl) (0, omega arith, refl));
  serials = λ n s h e f. let k = (held_at n s e h f).1 in omega (arith, k);
  serials_differ = λ m n s t h k e f g w same. (held_at m s e h g).0 ∙ sym (held_at n t f k w).0;
  runs = λ n s h e f. by_number (λ m t. (k : Held) → t.held ≡ Some k → RunsIn core t k) (λ k g. absurd cc) (λ k g. absurd cc) boots n s e h f;
  over = tt;
  in_time = omega arith;
}

-- ---- cores that do not stand

-- one of the two picks sent the packet, and one did not
pub one_for_both : OneForBoth
one_for_both core =
    let same = core.one_record.0 _ _ (0, omega arith, refl) (1, omega arith, refl) in
    let c = (same (stamp_of packet)).1 (0, omega arith, refl) in
    let none = c.1 in
    omega (arith, none)

pub not_in_inbox : NotInInbox
not_in_inbox core =
    let same = core.columns.1.0.all_sent _ (0, omega arith, refl) in
    let c = (same (stamp_of packet)).0 (0, omega arith, refl) in
    let none = c.1 in
    omega (arith, none)

-- before its boot the receiver's next event is this, and after it there is none
abbrev Boots : Scenario Term → Type 0
Boots s = (due 1 0 (node_at terms s 1).state ≡ Some Boot) ⊎ (due 1 0 (node_at terms s 1).state ≡ None)

-- the receiver after its boot
abbrev booted_at : ℕ → Scenario Term
booted_at k = slice_index_or (settled_from terms sending 0 0 2 (opening terms sending)) k (opening terms sending)

all_boot : (count k : ℕ) → k < 2 → AllByRecursion Boots (turns terms sending 1 0 count (slice_index_or (settled_from terms sending 0 0 1 (opening terms sending)) k (opening terms sending)))
all_boot zero zero h = (inl refl, tt)
all_boot zero (suc zero) h = (inl refl, tt)
all_boot (suc count) zero h = subst (AllByRecursion Boots) (sym (ap (λ (ss : List (Scenario Term)). ss ++ []) (stays sending 1 0 count (booted_at 0) refl))) (inr refl, tt)
all_boot (suc count) (suc zero) h = subst (AllByRecursion Boots) (sym (ap (λ (ss : List (Scenario Term)). ss ++ []) (stays sending 1 0 count (booted_at 1) refl))) (inr refl, tt)
all_boot count (suc (suc k)) h = absurd (omega (arith, h))

met_boots : (s : Scenario Term) → MetAt terms sending 0 1 s → Boots s
met_boots s m =
    let e : opening terms sending ≡ m.start = the_only (opening terms sending) m.start m.member in
    let reached = subst (λ (u : Scenario Term). Contains (settled_from terms sending 0 0 1 u) m.before) (sym e) m.reached in
    at reached.0 reached.1 reached.2
  where
    at : (k : ℕ) → k < 2 → slice_index_or (settled_from terms sending 0 0 1 (opening terms sending)) k m.before ≡ m.before → Boots s
    at k h f =
        all-contains Boots (turns terms sending 1 0 m.count (slice_index_or (settled_from terms sending 0 0 1 (opening terms sending)) k (opening terms sending))) s (all_boot m.count k h)
        (subst (λ (u : Scenario Term). Contains (turns terms sending 1 0 m.count u) s) (sym f ∙ same k h) m.turned)
      where
        same : (k : ℕ) → k < 2 → slice_index_or (settled_from terms sending 0 0 1 (opening terms sending)) k m.before ≡ slice_index_or (settled_from terms sending 0 0 1 (opening terms sending)) k (opening terms sending)
        same zero h = refl
        same (suc zero) h = refl
        same (suc (suc k)) h = absurd (omega (arith, h))

pub other_event : OtherEvent
other_event core = let r = core.runs 2 _ _ refl refl in by r.scenario r.node (met_boots r.scenario r.met) r.there r.event
  where
    at : (ys : List (Node Term)) (y d : Node Term) → slice_get ys 1 ≡ Some y → slice_index_or ys 1 d ≡ y
    at [] y d e = absurd cc
    at (x ∷ []) y d e = absurd cc
    at (x ∷ (z ∷ ys)) y d e = cc

    by : (s : Scenario Term) (y : Node Term) → Boots s → slice_get s.nodes 1 ≡ Some y → due 1 0 y.state ≡ Some Reboot → ⊥
    by s y (inl f) there e = let wrong : Some Boot ≡ Some Reboot = sym f ∙ (ap (λ (x : Node Term). due 1 0 x.state) (at s.nodes y _ there) ∙ e) in cc
    by s y (inr f) there e = let wrong : None ≡ Some Reboot = sym f ∙ (ap (λ (x : Node Term). due 1 0 x.state) (at s.nodes y _ there) ∙ e) in cc
