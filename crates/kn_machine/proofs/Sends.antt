-- A packet that a way sends.
use Rattle.std.proofs.Common.{◌≡◌, ℕ, zero, suc, ◌+◌, ◌<◌, ◌≤◌, Bool, true, false, List, [], ◌∷◌, ◌++◌, length, take, drop, map, get_or, cond, refl, sym, ap, subst, ◌∙◌, arith}
use Rattle.std.specs.Prelude.{nat_lt}
use Rattle.std.proofs.lemmas.List.{take-map, drop-map, map-append, append-nil, length-take, drop_all}
use Rattle.std.proofs.lemmas.Bool.{lt-ltb, le-ltb}
use Rattle.std.proofs.Math.Seq.{drop-cons}
use Rattle.kn_term.specs.declared.node.Node.{Node}
use Rattle.kn_term.specs.declared.node.Ref.{Ref}
use Rattle.kn_term.specs.declared.node.Literal.{Literal}
use Rattle.kn_term.specs.Terms.{Term}
use Rattle.kn_term.specs.Nodes.{term_at}
use Rattle.kn_term.specs.Reached.{RootsStand}
use Rattle.kn_cond.specs.Meanings.{condition_of, StandIn}
use Rattle.kn_packet.specs.Packets.{PacketView, IsPacket}
use Rattle.kn_node.specs.Views.{terms_in}
use Rattle.kn_model.specs.Terms.{terms}
use Rattle.kn_model.specs.Packets.{Packet}
use Rattle.kn_model.specs.Nets.{Network, Link}
use Rattle.kn_model.specs.Nodes.{Failed, Fuel}
use Rattle.kn_model.specs.Rows.{Way, Goes, Stops, sent_on, sent_over, span, packet_on, next, with_outcome}
use Rattle.kn_model.specs.Alikes.{TermAlike, ConditionAlike, AlikeSend, OneByOne}
use Rattle.kn_model.proofs.OneByOne.{pairs-self, pairs-append, pairs-through}
use Rattle.kn_model.proofs.AlikeRows.{sends_each, goes_on}
use Rattle.kn_model.proofs.AlikeTerms.{keeps_terms, alike_self, alike_through, condition_self, condition_through, send_self, send_through, term_self}
use Rattle.kn_machine.specs.Views.{packet_of}
use Rattle.kn_machine.specs.Ways.{WayView, AlikeWay, way_of, known_of, before_of, IsRow, IsStill, AreStamped}
use Rattle.kn_machine.specs.Effects.{here_of, AlikeEffect, IsPacketOf, IsSendStep}
use Rattle.kn_machine.specs.declared.rows.Step.TheVariants as steps
use Rattle.kn_machine.proofs.Likeness.{mail_self, way_self}
use Rattle.kn_machine.specs.declared.spot.Spot.{Spot}

-- some roots of those that stand
roots_take : (count : ℕ) (n : ℕ) (rs : List Ref) → RootsStand count rs → RootsStand count (take n rs)
roots_take count zero rs h i r e = absurd cc
roots_take count (suc n) [] h i r e = absurd cc
roots_take count (suc n) (x ∷ rs) h zero r e = h zero r e
roots_take count (suc n) (x ∷ rs) h (suc i) r e = roots_take count n rs (λ j s d. h (suc j) s d) i r e

roots_drop : (count : ℕ) (n : ℕ) (rs : List Ref) → RootsStand count rs → RootsStand count (drop n rs)
roots_drop count zero rs h i r e = h i r e
roots_drop count (suc n) [] h i r e = absurd cc
roots_drop count (suc n) (x ∷ rs) h i r e = roots_drop count n rs (λ j s d. h (suc j) s d) i r e

span_means : (ns : List Node) (rs : List Ref) (b n : ℕ) → terms_in ns (take n (drop b rs)) ≡ span terms (terms_in ns rs) b n
span_means ns rs b n = sym (ap (take n) (drop-map (λ (r : Ref). term_at ns r.index) b rs) ∙ take-map (λ (r : Ref). term_at ns r.index) n (drop b rs))

-- its key, receiver, bits and words are those of the definitions' packet, and its guard is alike
packet_sent : (net : Network) (spot : Spot) (w : WayView) (b n : ℕ) (link : Link) (p : PacketView) → IsPacketOf spot w b n link p
    → ConditionAlike (known_of w) (before_of w.terms w.own w.cond ++ condition_of w.terms w.literals)
    → AlikeSend (packet_of p) (packet_on terms (here_of net spot) (way_of w) (span terms (way_of w).state.registers b n) link)
packet_sent net spot w b n link p is known =
    subst (λ (q : PacketView). AlikeSend (packet_of q) (packet_on terms (here_of net spot) (way_of w) (span terms (way_of w).state.registers b n) link)) (sym is) (record {
      key = refl;
      to = refl;
      bits = refl;
      payload = subst (λ (ts : List Term). OneByOne TermAlike (terms_in w.terms (take n (drop b w.machine.registers))) ts) (span_means w.terms w.machine.registers b n) (pairs-self TermAlike term_self (terms_in w.terms (take n (drop b w.machine.registers))));
      guard = known;
    })

-- a way with one packet more
way_sends : (net : Network) (spot : Spot) (w : WayView) (b n : ℕ) (link : Link) (p : PacketView) → IsPacketOf spot w b n link p
    → ConditionAlike (known_of w) (before_of w.terms w.own w.cond ++ condition_of w.terms w.literals)
    → AlikeWay (way_of (record w { machine = record w.machine { sent = w.machine.sent + 1 }; sends = w.sends ++ p ∷ [] })) (sent_on terms (here_of net spot) (span terms (way_of w).state.registers b n) link (way_of w))
way_sends net spot w b n link p is known =
    let packet = packet_on terms (here_of net spot) (way_of w) (span terms (way_of w).state.registers b n) link in
    record {
      state = alike_self (sent_on terms (here_of net spot) (span terms (way_of w).state.registers b n) link (way_of w)).state;
      pc = refl;
      bits = refl;
      literals = condition_self (condition_of w.terms w.literals);
      sends = subst (λ (ps : List (Packet Term)). OneByOne AlikeSend ps (map packet_of w.sends ++ packet ∷ [])) (sym (map-append packet_of w.sends (p ∷ [])))
          (pairs-append AlikeSend (map packet_of w.sends) (map packet_of w.sends) (packet_of p ∷ []) (packet ∷ []) (pairs-self AlikeSend send_self (map packet_of w.sends)) (packet_sent net spot w b n link p is known, tt));
    }

pub packet_goes : (net : Network) (spot : Spot) (v w u x : WayView) (b n : ℕ) (link : Link) (p : PacketView) → w ≡ v → ConditionAlike (known_of w) (before_of w.terms w.own w.cond ++ condition_of w.terms w.literals)
    → IsPacketOf spot v b n link p → u ≡ v → x.sends ≡ u.sends ++ p ∷ [] → x ≡ record u { machine = record u.machine { sent = u.machine.sent + 1 }; sends = x.sends }
    → AlikeWay (way_of x) (sent_on terms (here_of net spot) (span terms (way_of v).state.registers b n) link (way_of v))
packet_goes net spot v w u x b n link p d known is e sends whole =
    let at : List PacketView → WayView → WayView = λ ps y. record y { machine = record y.machine { sent = y.machine.sent + 1 }; sends = ps } in
    let seen : x ≡ at (v.sends ++ p ∷ []) v = whole ∙ (ap (λ (ps : List PacketView). at ps u) sends ∙ ap (λ (y : WayView). at (y.sends ++ p ∷ []) y) e) in
    subst (λ (y : WayView). AlikeWay (way_of y) (sent_on terms (here_of net spot) (span terms (way_of v).state.registers b n) link (way_of v))) (sym seen)
    (way_sends net spot v b n link p is (subst (λ (z : WayView). ConditionAlike (known_of z) (before_of z.terms z.own z.cond ++ condition_of z.terms z.literals)) d known))

-- what a packet takes of a way stands among the terms that it takes
pub packet_stands : (ns : List Node) (registers : List Ref) (known : List Literal) → RootsStand (length ns) registers → StandIn ns known
    → (nodes : List Node) (payload sources : List Ref) (guard : List Literal) (k j : ℕ) → sources ≡ registers → payload ≡ take k (drop j sources) → k ≤ 8 → guard ≡ known → nodes ≡ ns → IsPacket nodes payload guard
packet_stands ns registers known stand literals nodes payload sources guard k j from is few told same =
    let roots : RootsStand (length ns) (take k (drop j sources)) = roots_take (length ns) k (drop j sources) (roots_drop (length ns) j sources (subst (RootsStand (length ns)) (sym from) stand)) in
    let whole : IsPacket ns (take k (drop j sources)) known = record { few = omega (arith, length-take k (drop j sources)); payload_stands = roots; guard_stands = literals } in
    subst (λ (xs : List Node). IsPacket xs payload guard) (sym same) (subst (λ (rs : List Ref). IsPacket ns rs guard) (sym is) (subst (λ (ls : List Literal). IsPacket ns (take k (drop j sources)) ls) (sym told) whole))

-- rows, one after another
row_still : (node history : ℕ) (v w : WayView) → IsStill v w → IsRow node history v w
row_still node history v w h = record { known = h.known; standing = h.standing; stamps = λ s. subst (AreStamped node history) (sym h.sends) s }

row_through : (node history : ℕ) (v w u : WayView) → IsRow node history v w → IsRow node history w u → IsRow node history v u
row_through node history v w u h i = record { known = i.known ∙ h.known; standing = i.standing ∙ h.standing; stamps = λ s. i.stamps (h.stamps s) }

way_through : (w v u : Way Term) → AlikeWay w v → AlikeWay v u → AlikeWay w u
way_through w v u h i = record {
  state = alike_through w.state v.state u.state h.state i.state;
  pc = h.pc ∙ i.pc;
  bits = h.bits ∙ i.bits;
  literals = condition_through w.literals v.literals u.literals h.literals i.literals;
  sends = pairs-through AlikeSend AlikeSend AlikeSend send_through w.sends v.sends u.sends h.sends i.sends;
}

-- one send more of those that are left
sent_step : (net : Network) (spot : Spot) (words : List Term) (links : List Link) (i : ℕ) (link d : Link) (w x aim : Way Term) → i < length links → link ≡ get_or links i d
    → AlikeWay x (sent_on terms (here_of net spot) words link w) → AlikeWay (sent_over terms (here_of net spot) words (drop i links) w) aim
    → AlikeWay (sent_over terms (here_of net spot) words (drop (i + 1) links) x) aim
sent_step net spot words links i link d w x aim inside is one all =
    let here = here_of net spot in
    let rest = drop (i + 1) links in
    let after : suc i ≡ i + 1 = omega arith in
    let opened : drop i links ≡ link ∷ rest = drop-cons links i d inside ∙ (ap (λ (k : ℕ). get_or links i d ∷ drop k links) after ∙ ap (λ (l : Link). l ∷ rest) (sym is)) in
    way_through (sent_over terms here words rest x) (sent_over terms here words rest (sent_on terms here words link w)) aim
    (sends_each terms terms TermAlike ConditionAlike ConditionAlike keeps_terms here.node here.tick here.code here.links here.fuel here.mail here.mail (mail_self here.mail) words words (pairs-self TermAlike term_self words) rest x (sent_on terms here words link w) one)
    (subst (λ (ls : List Link). AlikeWay (sent_over terms here words ls w) aim) opened all)

-- the registers that are sent
abbrev pub words_of : WayView → (b n : ℕ) → List Term
words_of v b n = span terms (way_of v).state.registers b n

-- sends over the first so many links are done: those over the others lead to a way that is alike to that of sends over all
pub record SentSoFar (spot : Spot) (b n : ℕ) (links : List Link) (i : ℕ) (v w : WayView) : Type 0 where
  pub way : (net : Network) → AlikeWay (sent_over terms (here_of net spot) (words_of v b n) (drop i links) (way_of w)) (sent_over terms (here_of net spot) (words_of v b n) links (way_of v))
  pub row : IsRow spot.node spot.history v w
  pub terms : w.terms ≡ v.terms
  pub registers : w.machine.registers ≡ v.machine.registers
  pub sent : w.machine.sent ≡ v.machine.sent + i
  pub place : w.pc ≡ v.pc

sent_none : (spot : Spot) (b n : ℕ) (links : List Link) (v : WayView) → SentSoFar spot b n links 0 v v
sent_none spot b n links v = record {
  way = λ net. way_self (sent_over terms (here_of net spot) (words_of v b n) links (way_of v));
  row = record { known = refl; standing = refl; stamps = λ s. s };
  terms = refl;
  registers = refl;
  sent = omega arith;
  place = refl;
}

pub sent_first : (spot : Spot) (b n : ℕ) (links : List Link) (v w : WayView) → w ≡ v → SentSoFar spot b n links 0 v w
sent_first spot b n links v w e = subst (λ (x : WayView). SentSoFar spot b n links 0 v x) (sym e) (sent_none spot b n links v)

pub sent_more : (spot : Spot) (b n : ℕ) (links : List Link) (i : ℕ) (link d : Link) (v w x : WayView) → SentSoFar spot b n links i v w → i < length links
    → ((net : Network) → AlikeWay (way_of x) (sent_on terms (here_of net spot) (words_of w b n) link (way_of w))) → link ≡ get_or links i d → IsRow spot.node spot.history w x
    → x.terms ≡ w.terms → x.machine.registers ≡ w.machine.registers → x.machine.sent ≡ w.machine.sent + 1 → x.pc ≡ w.pc → SentSoFar spot b n links (i + 1) v x
sent_more spot b n links i link d v w x h inside one is row same registers sent place =
    let words : words_of w b n ≡ words_of v b n = ap (λ (ns : List Node). span terms (terms_in ns w.machine.registers) b n) h.terms ∙ ap (λ (rs : List Ref). span terms (terms_in v.terms rs) b n) h.registers in
    record {
      way = λ net. sent_step net spot (words_of v b n) links i link d (way_of w) (way_of x) (sent_over terms (here_of net spot) (words_of v b n) links (way_of v)) inside is
          (subst (λ (ts : List Term). AlikeWay (way_of x) (sent_on terms (here_of net spot) ts link (way_of w))) words (one net)) (h.way net);
      row = row_through spot.node spot.history v w x h.row row;
      terms = same ∙ h.terms;
      registers = registers ∙ h.registers;
      sent = omega (arith, sent, h.sent);
      place = place ∙ h.place;
    }

-- sends that would be too many, and sends that are done
pub send_stops : (net : Network) (spot : Spot) (b n : ℕ) (links : List Link) (v w u : WayView) → u ≡ v → 65535 < u.machine.sent + length links
    → way_of w ≡ with_outcome terms (way_of v) (Failed Fuel v.pc spot.tick) → IsStill v w → IsSendStep net spot b n links v w steps.Stops
send_stops net spot b n links v w u e many is still =
    let here = here_of net spot in
    let total : nat_lt 65535 (v.machine.sent + length links) ≡ true = lt-ltb 65535 (v.machine.sent + length links) (subst (λ (y : WayView). 65535 < y.machine.sent + length links) e many) in
    record {
      effect = subst (λ (t : Bool). AlikeEffect (Stops (way_of w)) (cond t (Stops (with_outcome terms (way_of v) (Failed Fuel v.pc spot.tick))) (Goes (next terms (sent_over terms here (words_of v b n) links (way_of v)))))) (sym total)
          (subst (λ (y : Way Term). AlikeWay (way_of w) y) is (way_self (way_of w)));
      row = row_still spot.node spot.history v w still;
      grows = ([], still.terms ∙ sym (append-nil v.terms));
    }

pub send_goes : (net : Network) (spot : Spot) (b n i : ℕ) (links : List Link) (v x w u : WayView) → u ≡ v → u.machine.sent + length links ≤ 65535
    → SentSoFar spot b n links i v x → length links ≤ i → way_of w ≡ next terms (way_of x) → IsStill x w → IsSendStep net spot b n links v w steps.Goes
send_goes net spot b n i links v x w u e few sent done is still =
    let here = here_of net spot in
    let aim = sent_over terms here (words_of v b n) links (way_of v) in
    let total : nat_lt 65535 (v.machine.sent + length links) ≡ false = le-ltb 65535 (v.machine.sent + length links) (subst (λ (y : WayView). y.machine.sent + length links ≤ 65535) e few) in
    let all : AlikeWay (way_of x) aim = subst (λ (ls : List Link). AlikeWay (sent_over terms here (words_of v b n) ls (way_of x)) aim) (drop_all i links done) (sent.way net) in
    record {
      effect = subst (λ (t : Bool). AlikeEffect (Goes (way_of w)) (cond t (Stops (with_outcome terms (way_of v) (Failed Fuel v.pc spot.tick))) (Goes (next terms aim)))) (sym total)
          (subst (λ (y : Way Term). AlikeWay y (next terms aim)) (sym is) (goes_on terms terms TermAlike ConditionAlike ConditionAlike keeps_terms (way_of x) aim all));
      row = row_through spot.node spot.history v x w sent.row (row_still spot.node spot.history x w still);
      grows = ([], still.terms ∙ (sent.terms ∙ sym (append-nil v.terms)));
    }
