-- When `==` says of two packets that they are equal.
use Rattle.std.specs.Prelude.{Bool, nat_eq}
use Rattle.std.specs.Cmp.{IsPartialEquivalence, and_per, on_per, nat_eq_equiv, partial_equiv_from_equiv}
use Rattle.std.specs.Ordering.{on, eq_of_both}
use Rattle.std.specs.Cmp.Lexicographic.{pointwise, lists_per}
use Rattle.kn_term.specs.contracts.node.RefPartialEq.TheImpl as ref_eq
use Rattle.kn_term.specs.contracts.node.LiteralPartialEq.TheImpl as literal_eq
use Rattle.kn_term.specs.contracts.terms.TermsPartialEq.TheImpl as terms_eq
use Rattle.kn_packet.specs.contracts.packet.StampPartialEq.TheImpl as stamp_eq
use Rattle.kn_term.specs.contracts.node.RefPartialEq.TheImpl.Laws.{laws-law as ref_law}
use Rattle.kn_term.specs.contracts.node.LiteralPartialEq.TheImpl.Laws.{laws-law as literal_law}
use Rattle.kn_term.specs.contracts.terms.TermsPartialEq.TheImpl.Laws.{laws-law as terms_law}
use Rattle.kn_packet.specs.contracts.packet.StampPartialEq.TheImpl.Laws.{laws-law as stamp_law}
use Rattle.kn_packet.specs.Packets.{PacketView}

-- the numbers are equal
abbrev pub numbers_eq : PacketView → PacketView → Bool
numbers_eq = eq_of_both (on (λ p. p.from) nat_eq) (eq_of_both (on (λ p. p.seq) nat_eq) (eq_of_both (on (λ p. p.copy) nat_eq) (eq_of_both (on (λ p. p.to) nat_eq) (on (λ p. p.arrival) nat_eq))))

-- words, guard, terms and stamp are equal
abbrev pub contents_eq : PacketView → PacketView → Bool
contents_eq = eq_of_both (on (λ p. p.payload) (pointwise ref_eq.eq-value.it)) (eq_of_both (on (λ p. p.guard) (pointwise literal_eq.eq-value.it)) (eq_of_both (on (λ p. p.terms) terms_eq.eq-value.it) (on (λ p. p.stamp) stamp_eq.eq-value.it)))

-- all fields are equal
abbrev pub packet_eq : PacketView → PacketView → Bool
packet_eq = eq_of_both numbers_eq contents_eq

nat_per : IsPartialEquivalence nat_eq
nat_per = partial_equiv_from_equiv nat_eq_equiv

-- this is an equality in the sense of `==`
pub packet_per : IsPartialEquivalence packet_eq
packet_per =
    and_per
    (and_per (on_per (λ (p : PacketView). p.from) nat_per) (and_per (on_per (λ (p : PacketView). p.seq) nat_per) (and_per (on_per (λ (p : PacketView). p.copy) nat_per)
    (and_per (on_per (λ (p : PacketView). p.to) nat_per) (on_per (λ (p : PacketView). p.arrival) nat_per)))))
    (and_per (on_per (λ (p : PacketView). p.payload) (lists_per ref_law)) (and_per (on_per (λ (p : PacketView). p.guard) (lists_per literal_law))
    (and_per (on_per (λ (p : PacketView). p.terms) terms_law) (on_per (λ (p : PacketView). p.stamp) stamp_law))))
