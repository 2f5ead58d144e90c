-- Stamps and packets are equal exactly where `==` says so.
use Rattle.std.proofs.Common.{◌≡◌, ℕ, List, Bool, true, refl, ap, sym, ◌∙◌}
use Rattle.std.specs.Bool.{Decides, IsTrue}
use Rattle.std.specs.Cmp.{booleans_Decides}
use Rattle.std.proofs.lemmas.Bool.Decides.{Decides-eqb}
use Rattle.std.proofs.lemmas.Slice.Eq.{slice_eq-Decides}
use Rattle.kn_built.proofs.Deciding.{both_true, true_both, decides_both, decides_same}
use Rattle.kn_term.specs.declared.node.Node.{Node}
use Rattle.kn_term.specs.declared.node.Ref.{Ref}
use Rattle.kn_term.specs.declared.node.Literal.{Literal}
use Rattle.kn_term.proofs.Equal.{ref_decides, literal_decides, terms_decides}
use Rattle.kn_packet.specs.declared.packet.Stamp.{Stamp}
use Rattle.kn_packet.specs.contracts.packet.StampPartialEq.TheImpl as stamp_eq
use Rattle.kn_packet.specs.Packets.{PacketView}
use Rattle.kn_packet.specs.Equality.{numbers_eq, contents_eq, packet_eq}

same_stamp : (s t : Stamp) → (s.node ≡ t.node) × ((s.history ≡ t.history) × ((s.bits ≡ t.bits) × (s.seq ≡ t.seq))) → s ≡ t
same_stamp s t e =
    ap (λ (v : ℕ). record s { node = v }) e.0
    ∙ (ap (λ (v : ℕ). record s { node = t.node; history = v }) e.1.0
    ∙ (ap (λ (v : List Bool). record s { node = t.node; history = t.history; bits = v }) e.1.1.0
    ∙ ap (λ (v : ℕ). record s { node = t.node; history = t.history; bits = t.bits; seq = v }) e.1.1.1))

stamp_decides : (s t : Stamp) → Decides (stamp_eq.eq-value.it s t) (s ≡ t)
stamp_decides s t =
    decides_same _ (same_stamp s t) (λ e. (ap (λ (x : Stamp). x.node) e, (ap (λ (x : Stamp). x.history) e, (ap (λ (x : Stamp). x.bits) e, ap (λ (x : Stamp). x.seq) e))))
    (decides_both _ _ (Decides-eqb s.node t.node) (decides_both _ _ (Decides-eqb s.history t.history)
    (decides_both _ _ (slice_eq-Decides booleans_Decides s.bits t.bits _ refl) (Decides-eqb s.seq t.seq))))

same_packet : (p q : PacketView) → ((p.from ≡ q.from) × ((p.seq ≡ q.seq) × ((p.copy ≡ q.copy) × ((p.to ≡ q.to) × (p.arrival ≡ q.arrival))))) × ((p.payload ≡ q.payload) × ((p.guard ≡ q.guard) × ((p.terms ≡ q.terms) × (p.stamp ≡ q.stamp)))) → p ≡ q
same_packet p q e =
    ap (λ (v : ℕ). record p { from = v }) e.0.0
    ∙ (ap (λ (v : ℕ). record p { from = q.from; seq = v }) e.0.1.0
    ∙ (ap (λ (v : ℕ). record p { from = q.from; seq = q.seq; copy = v }) e.0.1.1.0
    ∙ (ap (λ (v : ℕ). record p { from = q.from; seq = q.seq; copy = q.copy; to = v }) e.0.1.1.1.0
    ∙ (ap (λ (v : ℕ). record p { from = q.from; seq = q.seq; copy = q.copy; to = q.to; arrival = v }) e.0.1.1.1.1
    ∙ (ap (λ (v : List Ref). record p { from = q.from; seq = q.seq; copy = q.copy; to = q.to; arrival = q.arrival; payload = v }) e.1.0
    ∙ (ap (λ (v : List Literal). record p { from = q.from; seq = q.seq; copy = q.copy; to = q.to; arrival = q.arrival; payload = q.payload; guard = v }) e.1.1.0
    ∙ (ap (λ (v : List Node). record p { from = q.from; seq = q.seq; copy = q.copy; to = q.to; arrival = q.arrival; payload = q.payload; guard = q.guard; terms = v }) e.1.1.1.0
    ∙ (ap (λ (v : Stamp). record p { from = q.from; seq = q.seq; copy = q.copy; to = q.to; arrival = q.arrival; payload = q.payload; guard = q.guard; terms = q.terms; stamp = v }) e.1.1.1.1))))))))

numbers_decide : (p q : PacketView) → Decides (numbers_eq p q) (((p.from ≡ q.from) × ((p.seq ≡ q.seq) × ((p.copy ≡ q.copy) × ((p.to ≡ q.to) × (p.arrival ≡ q.arrival))))))
numbers_decide p q =
    decides_both _ _ (Decides-eqb p.from q.from) (decides_both _ _ (Decides-eqb p.seq q.seq) (decides_both _ _ (Decides-eqb p.copy q.copy)
    (decides_both _ _ (Decides-eqb p.to q.to) (Decides-eqb p.arrival q.arrival))))

contents_decide : (p q : PacketView) → Decides (contents_eq p q) (((p.payload ≡ q.payload) × ((p.guard ≡ q.guard) × ((p.terms ≡ q.terms) × (p.stamp ≡ q.stamp)))))
contents_decide p q =
    decides_both _ _ (slice_eq-Decides ref_decides p.payload q.payload _ refl) (decides_both _ _ (slice_eq-Decides literal_decides p.guard q.guard _ refl)
    (decides_both _ _ (terms_decides p.terms q.terms) (stamp_decides p.stamp q.stamp)))

pub packet_decides : (p q : PacketView) → Decides (packet_eq p q) (p ≡ q)
packet_decides p q =
    decides_same _ (same_packet p q) (λ e. ((ap (λ (x : PacketView). x.from) e, (ap (λ (x : PacketView). x.seq) e, (ap (λ (x : PacketView). x.copy) e, (ap (λ (x : PacketView). x.to) e, ap (λ (x : PacketView). x.arrival) e)))), (ap (λ (x : PacketView). x.payload) e, (ap (λ (x : PacketView). x.guard) e, (ap (λ (x : PacketView). x.terms) e, ap (λ (x : PacketView). x.stamp) e)))))
    (decides_both _ _ (numbers_decide p q) (contents_decide p q))

-- with equal numbers the contents decide
pub same_contents : (p q : PacketView) (b : Bool) → b ≡ contents_eq p q → numbers_eq p q ≡ true → (IsTrue b → p ≡ q) × (p ≡ q → IsTrue b)
same_contents p q b is numbers = (
  λ e. (packet_decides p q).0 (true_both (numbers_eq p q) (contents_eq p q) numbers (sym is ∙ e)),
  λ s. is ∙ (both_true (numbers_eq p q) (contents_eq p q) ((packet_decides p q).1 s)).1,
)
