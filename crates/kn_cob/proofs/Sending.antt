-- What a node sent, as it is kept, goes into the inboxes as the definition's parcels go to the nodes.
use Rattle.std.proofs.Common.{◌≡◌, ℕ, ◌+◌, ◌<◌, inl, inr, Bool, true, false, cond, List, [], ◌∷◌, ◌++◌, length, map, refl, sym, ap, subst, ◌∙◌, append_assoc, append-nil}
use Rattle.std.specs.Prelude.{◌&&◌, nat_eq, filter, Contains}
use Rattle.std.specs.List.{AllByRecursion}
use Rattle.std.proofs.lemmas.List.{map-append}
use Rattle.std.proofs.lemmas.List.Concat.{flat_map-append}
use Rattle.std.proofs.lemmas.List.Elements.{Contains-append_left, Contains-append_right, Contains-append_cases}
use Rattle.kn_term.specs.Terms.{Term}
use Rattle.kn_cond.specs.Conditions.{Condition, Read, holds, reads_of}
use Rattle.kn_cond.specs.Meanings.{condition_of}
use Rattle.kn_packet.specs.Packets.{PacketView}
use Rattle.kn_model.specs.Terms.{terms}
use Rattle.kn_model.specs.Packets.{Packet, Parcel, Key, put_in, put_all, packet_le, parcel_le}
use Rattle.kn_model.specs.Histories.{History}
use Rattle.kn_model.specs.Nodes.{State, Node}
use Rattle.kn_model.specs.Nets.{Network}
use Rattle.kn_model.specs.Paths.{Path, parcels}
use Rattle.kn_model.specs.Scenarios.{packet_in, receive, posted}
use Rattle.kn_model.specs.Alikes.{OneByOne, ConditionAlike, Alike, AlikeSend}
use Rattle.kn_model.specs.Laws.{queued_all, IsSentBy}
use Rattle.kn_model.proofs.Lists.{all-append, all-filter, all-weaker}
use Rattle.kn_model.proofs.OneByOne.{pairs-map}
use Rattle.kn_model.proofs.JoinedQuery.{reads_append}
use Rattle.kn_model.proofs.AlikeTerms.{joins, holds_join, condition_self, condition_through}
use Rattle.kn_model.proofs.AlikeGiven.{alike_received}
use Rattle.kn_machine.specs.Views.{packet_of, state_of}
use Rattle.kn_step.specs.Answers.{guards_of}
use Rattle.kn_cob.specs.Nodes.{NodeView, waiting, guards_in, IsNode}
use Rattle.kn_cob.specs.Copies.{AreNodes, sent_to, mailed}
use Rattle.kn_cob.proofs.Senders.{senders_given}

put_all-append : (ps qs q : List (Packet Term)) → put_all packet_le (ps ++ qs) q ≡ put_all packet_le qs (put_all packet_le ps q)
put_all-append [] qs q = refl
put_all-append (p ∷ ps) qs q = put_all-append ps qs (put_in packet_le p q)

-- two conditions in the other order
swapped : (c d : Condition) → ConditionAlike (c ++ d) (d ++ c)
swapped c d = record {
  holds = λ a. holds_join a c d ∙ (and_swap (holds a c) (holds a d) ∙ sym (holds_join a d c));
  reads = rw (reads_append c d, reads_append d c) turned;
}
  where
    and_swap : (a b : Bool) → (a && b) ≡ (b && a)
    and_swap true true = refl
    and_swap true false = refl
    and_swap false true = refl
    and_swap false false = refl

    turned : (r : Read) → Contains (reads_of c ++ reads_of d) r → Contains (reads_of d ++ reads_of c) r
    turned r h = elim (Contains-append_cases (reads_of c) (reads_of d) r h) [
      | inl i ↦ Contains-append_right (reads_of d) (reads_of c) r i
      | inr i ↦ Contains-append_left (reads_of d) (reads_of c) r i
    ]

-- one parcel more, in its place
put_guard : (p : Parcel Term) (ps : List (Parcel Term)) → ConditionAlike (guards_in ps ++ p.packet.guard) (guards_in (put_in parcel_le p ps))
put_guard p [] = subst (λ (c : Condition). ConditionAlike p.packet.guard c) (sym (append-nil p.packet.guard)) (condition_self p.packet.guard)
put_guard p (x ∷ ps) = go (parcel_le p x) (put_guard p ps)
  where
    go : (b : Bool) → ConditionAlike (guards_in ps ++ p.packet.guard) (guards_in (put_in parcel_le p ps)) → ConditionAlike (guards_in (x ∷ ps) ++ p.packet.guard) (guards_in (cond b (p ∷ x ∷ ps) (x ∷ put_in parcel_le p ps)))
    go true h = swapped (guards_in (x ∷ ps)) p.packet.guard
    go false h =
        subst (λ (c : Condition). ConditionAlike c (x.packet.guard ++ guards_in (put_in parcel_le p ps))) (sym (append_assoc x.packet.guard (guards_in ps) p.packet.guard))
        (joins x.packet.guard x.packet.guard (guards_in ps ++ p.packet.guard) (guards_in (put_in parcel_le p ps)) (condition_self x.packet.guard) h)

-- the guards of parcels that are put in are those that were there, and theirs
put_guards : (ps qs : List (Parcel Term)) → ConditionAlike (guards_in qs ++ guards_in ps) (guards_in (put_all parcel_le ps qs))
put_guards [] qs = subst (λ (c : Condition). ConditionAlike c (guards_in qs)) (sym (append-nil (guards_in qs))) (condition_self (guards_in qs))
put_guards (p ∷ ps) qs =
    let more = put_in parcel_le p qs in
    subst (λ (c : Condition). ConditionAlike c (guards_in (put_all parcel_le ps more))) (append_assoc (guards_in qs) p.packet.guard (guards_in ps))
    (condition_through ((guards_in qs ++ p.packet.guard) ++ guards_in ps) (guards_in more ++ guards_in ps) (guards_in (put_all parcel_le ps more))
    (joins (guards_in qs ++ p.packet.guard) (guards_in more) (guards_in ps) (guards_in ps) (put_guard p qs) (condition_self (guards_in ps))) (put_guards ps more))

-- a packet as it is kept, and the parcel that it is of
abbrev pub IsParcel : PacketView → Parcel Term → Type 0
IsParcel p q = AlikeSend (packet_of p) q.packet

abbrev pub AreParcels : List PacketView → List (Parcel Term) → Type 0
AreParcels ps qs = OneByOne IsParcel ps qs

-- those that are for one node
mine_in : (i : ℕ) (ps : List PacketView) (qs : List (Parcel Term)) → AreParcels ps qs → AreParcels (filter (λ (p : PacketView). nat_eq p.to i) ps) (filter (λ (q : Parcel Term). nat_eq q.packet.to i) qs)
mine_in i [] [] h = tt
mine_in i [] (q ∷ qs) h = absurd h
mine_in i (p ∷ ps) [] h = absurd h
mine_in i (p ∷ ps) (q ∷ qs) h = go (nat_eq p.to i) (nat_eq q.packet.to i) (ap (λ (n : ℕ). nat_eq n i) h.0.to) (mine_in i ps qs h.1)
  where
    go : (b c : Bool) → b ≡ c → AreParcels (filter (λ (p : PacketView). nat_eq p.to i) ps) (filter (λ (q : Parcel Term). nat_eq q.packet.to i) qs)
        → AreParcels (cond b (p ∷ filter (λ (p : PacketView). nat_eq p.to i) ps) (filter (λ (p : PacketView). nat_eq p.to i) ps)) (cond c (q ∷ filter (λ (q : Parcel Term). nat_eq q.packet.to i) qs) (filter (λ (q : Parcel Term). nat_eq q.packet.to i) qs))
    go true true e rest = (h.0, rest)
    go true false e rest = absurd cc
    go false true e rest = absurd cc
    go false false e rest = rest

-- their guards, one after another
guards_alike : (ps : List PacketView) (qs : List (Parcel Term)) → AreParcels ps qs → ConditionAlike (guards_of ps) (guards_in qs)
guards_alike [] [] h = condition_self []
guards_alike [] (q ∷ qs) h = absurd h
guards_alike (p ∷ ps) [] h = absurd h
guards_alike (p ∷ ps) (q ∷ qs) h = joins (condition_of p.terms p.guard) q.packet.guard (guards_of ps) (guards_in qs) h.0.guard (guards_alike ps qs h.1)

-- as packets
as_packets : (ps : List PacketView) (qs : List (Parcel Term)) → AreParcels ps qs → OneByOne AlikeSend (map packet_of ps) (map packet_in qs)
as_packets ps qs h = pairs-map IsParcel AlikeSend packet_of packet_in (λ p q i. i) ps qs h

-- what arrives later as a parcel does so as it is kept
abbrev pub IsLaterSend : ℕ → PacketView → Type 0
IsLaterSend t p = (t < p.arrival) × (p.copy ≡ 0)

pub later_sends : (n t : ℕ) (ps : List PacketView) (qs : List (Parcel Term)) → AreParcels ps qs → AllByRecursion (λ (q : Parcel Term). IsSentBy n t q.packet) qs → AllByRecursion (IsLaterSend t) ps
later_sends n t [] [] h a = tt
later_sends n t [] (q ∷ qs) h a = absurd h
later_sends n t (p ∷ ps) [] h a = absurd h
later_sends n t (p ∷ ps) (q ∷ qs) h a =
    let arrival : q.packet.arrival ≡ p.arrival = sym (ap (λ (k : Key). k.arrival) h.0.key) in
    let copy : p.copy ≡ q.packet.copy = ap (λ (k : Key). k.copy) h.0.key in
    ((subst (λ (k : ℕ). t < k) arrival a.0.2, copy ∙ a.0.1), later_sends n t ps qs h.1 a.1)

-- what a node is of, is sent to it
module _ (net : Network) (t n : ℕ) (ps : List PacketView) (qs : List (Parcel Term)) (same : AreParcels ps qs) (inside : n < length net.nodes) (sent : AllByRecursion (λ (q : Parcel Term). IsSentBy n t q.packet) qs) where
  sent_node : (i : ℕ) (x : NodeView) (y : Node Term) → IsNode net t i x y → IsNode net t i (sent_to i ps x) (receive i qs y)
  sent_node i x y h =
      let those = filter (λ (p : PacketView). nat_eq p.to i) ps in
      let theirs = filter (λ (q : Parcel Term). nat_eq q.packet.to i) qs in
      let one = mine_in i ps qs same in
      let put : queued_all (map packet_of those) (waiting x) ≡ waiting (sent_to i ps x) =
      ap (λ (q : List (Packet Term)). record (state_of x.config) { queue = q }) (sym (put_all-append (map packet_of x.inbox) (map packet_of those) (state_of x.config).queue))
      ∙ ap (λ (us : List (Packet Term)). queued_all us (state_of x.config)) (sym (map-append packet_of x.inbox those)) in
      record {
        of_node = h.of_node;
        of_history = h.of_history;
        alike = subst (λ (s : State Term). Alike s (receive i qs y).state) put ((alike_received (waiting x) y.state h.alike).0 (map packet_of those) (map packet_in theirs) (as_packets those theirs one));
        guards = subst (λ (c : Condition). ConditionAlike c (guards_in (put_all parcel_le theirs y.fresh))) (sym (flat_map-append (λ (p : PacketView). condition_of p.terms p.guard) x.inbox those))
            (condition_through (guards_of x.inbox ++ guards_of those) (guards_in y.fresh ++ guards_in theirs) (guards_in (put_all parcel_le theirs y.fresh))
            (joins (guards_of x.inbox) (guards_in y.fresh) (guards_of those) (guards_in theirs) h.guards (guards_alike those theirs one)) (put_guards theirs y.fresh));
        later = all-append (IsLaterSend t) x.inbox those h.later (all-filter (IsLaterSend t) (λ (p : PacketView). nat_eq p.to i) ps (later_sends n t ps qs same sent));
        standing = h.standing;
        senders = senders_given net theirs y (all-filter (λ (q : Parcel Term). q.packet.from < length net.nodes) (λ (q : Parcel Term). nat_eq q.packet.to i) qs from_nodes) h.senders;
      }
    where
      from_nodes : AllByRecursion (λ (q : Parcel Term). q.packet.from < length net.nodes) qs
      from_nodes = all-weaker (λ (q : Parcel Term). IsSentBy n t q.packet) (λ (q : Parcel Term). q.packet.from < length net.nodes) (λ q h. subst (λ (k : ℕ). k < length net.nodes) (sym h.0) inside) qs sent

  pub mailed_nodes : (i : ℕ) (xs : List NodeView) (ys : List (Node Term)) → AreNodes net t i xs ys → AreNodes net t i (mailed i ps xs) (posted i qs ys)
  mailed_nodes i [] [] h = tt
  mailed_nodes i [] (y ∷ ys) h = absurd h
  mailed_nodes i (x ∷ xs) [] h = absurd h
  mailed_nodes i (x ∷ xs) (y ∷ ys) h = (sent_node i x y h.0, mailed_nodes (i + 1) xs ys h.1)

-- what a path sent, and its parcels
pub as_parcels : (y : Node Term) (q : Path Term) (ps : List PacketView) → OneByOne AlikeSend (map packet_of ps) q.sends → AreParcels ps (parcels terms y q)
as_parcels y q ps h = go y.history q.sends ps h
  where
    go : (history : History) (qs : List (Packet Term)) (ps : List PacketView) → OneByOne AlikeSend (map packet_of ps) qs → AreParcels ps (map (λ (q : Packet Term). record { packet = q; history = history }) qs)
    go history [] [] h = tt
    go history (q ∷ qs) [] h = absurd h
    go history [] (p ∷ ps) h = absurd h
    go history (q ∷ qs) (p ∷ ps) h = (h.0, go history qs ps h.1)
