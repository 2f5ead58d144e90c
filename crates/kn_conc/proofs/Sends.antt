-- Sends over links, one after another.
use Rattle.std.proofs.Common.{◌≡◌, ℕ, suc, ◌+◌, ◌<◌, ◌≤◌, Bool, List, [], ◌∷◌, ◌++◌, length, drop, map, get_or, refl, sym, ap, ◌∙◌, arith}
use Rattle.std.specs.Prelude.{if◌then◌else◌}
use Rattle.std.proofs.lemmas.List.{map-append, drop_all}
use Rattle.std.proofs.lemmas.Bool.{lt-ltb, le-ltb}
use Rattle.std.proofs.Math.Seq.{drop-cons}
use Rattle.kn_model.specs.Packets.{Packet}
use Rattle.kn_model.specs.Nodes.{Fuel}
use Rattle.kn_model.specs.Nets.{Network, Link}
use Rattle.kn_model.specs.Terms.{words}
use Rattle.kn_model.specs.Rows.{Here, Way, Effect, Goes, Stops, failed, next, sends_over, sent_on, span}
use Rattle.kn_conc.specs.Ways.{bare, bare_packet, bare_way, with_packet}
use Rattle.kn_conc.proofs.Baring.{sent_bare, over_bare, sent_is, sends_is}

-- one packet more
pub packet_goes : (v x : Way ℕ) (p q : Packet ℕ) → p ≡ bare_packet q → x ≡ with_packet p v → bare_way x ≡ bare_way (with_packet q v)
packet_goes v x p q is whole =
    let at : List (Packet ℕ) → Way ℕ = λ ps. record (bare_way v) { state = record (bare_way v).state { sent = v.state.sent + 1 }; sends = ps } in
    let sends : map bare_packet (v.sends ++ p ∷ []) ≡ map bare_packet (v.sends ++ q ∷ []) =
    map-append bare_packet v.sends (p ∷ [])
    ∙ (ap (λ (z : Packet ℕ). map bare_packet v.sends ++ bare_packet z ∷ []) is
    ∙ sym (map-append bare_packet v.sends (q ∷ []))) in
    ap bare_way whole ∙ ap at sends

-- sends over the first so many links are done: those over the others lead to the way of sends over all
pub record SentSoFar (here : Network → Here ℕ) (b n : ℕ) (links : List Link) (i : ℕ) (v w : Way ℕ) : Type 0 where
  pub way : (net : Network) → over_bare [] (here net) (span (words []) v.state.registers b n) (drop i links) (bare_way w) ≡ over_bare [] (here net) (span (words []) v.state.registers b n) links (bare_way v)
  pub registers : w.state.registers ≡ v.state.registers
  pub sent : w.state.sent ≡ v.state.sent + i
  pub place : w.pc ≡ v.pc

pub sent_first : (here : Network → Here ℕ) (b n : ℕ) (links : List Link) (v : Way ℕ) → SentSoFar here b n links 0 v v
sent_first here b n links v = record { way = λ net. refl; registers = refl; sent = omega arith; place = refl }

pub sent_more : (here : Network → Here ℕ) (b n : ℕ) (links : List Link) (i : ℕ) (link d : Link) (v w x : Way ℕ) → SentSoFar here b n links i v w → i < length links → link ≡ get_or links i d
    → ((net : Network) → bare_way x ≡ bare_way (sent_on (words []) (here net) (span (words []) w.state.registers b n) link w)) → x.state.registers ≡ w.state.registers → x.state.sent ≡ w.state.sent + 1 → x.pc ≡ w.pc
    → SentSoFar here b n links (i + 1) v x
sent_more here b n links i link d v w x h inside is one registers sent place =
    let ws = span (words []) v.state.registers b n in
    let rest = drop (i + 1) links in
    let after : suc i ≡ i + 1 = omega arith in
    let opened : drop i links ≡ link ∷ rest = drop-cons links i d inside ∙ (ap (λ (k : ℕ). get_or links i d ∷ drop k links) after ∙ ap (λ (l : Link). l ∷ rest) (sym is)) in
    let sent_here : (net : Network) → bare_way x ≡ sent_bare [] (here net) ws link (bare_way w) =
    λ net. one net ∙ (ap (λ (rs : List ℕ). bare_way (sent_on (words []) (here net) (span (words []) rs b n) link w)) h.registers ∙ sent_is [] (here net) ws link w) in
    record {
      way = λ net. ap (over_bare [] (here net) ws rest) (sent_here net) ∙ (ap (λ (ls : List Link). over_bare [] (here net) ws ls (bare_way w)) (sym opened) ∙ h.way net);
      registers = registers ∙ h.registers;
      sent = omega (arith, sent, h.sent);
      place = place ∙ h.place;
    }

-- sends that would be too many, and sends that are done
pub sends_stop : (here : Here ℕ) (b n : ℕ) (links : List Link) (v w : Way ℕ) → 65535 < v.state.sent + length links → w ≡ failed (words []) here Fuel v → bare (Stops w) ≡ bare (sends_over (words []) here v b n links)
sends_stop here b n links v w many is =
    let goes : Effect ℕ = Goes (next (words []) (over_bare [] here (span (words []) v.state.registers b n) links (bare_way v))) in
    ap (λ (x : Way ℕ). Stops (bare_way x)) is
    ∙ (ap (λ (t : Bool). if t then Stops (failed (words []) here Fuel (bare_way v)) else goes) (sym (lt-ltb 65535 (v.state.sent + length links) many))
    ∙ sym (sends_is [] here b n links v))

pub sends_go : (here : Network → Here ℕ) (net : Network) (b n i : ℕ) (links : List Link) (v x w : Way ℕ) → v.state.sent + length links ≤ 65535 → SentSoFar here b n links i v x → length links ≤ i → w ≡ next (words []) x
    → bare (Goes w) ≡ bare (sends_over (words []) (here net) v b n links)
sends_go here net b n i links v x w few sent done is =
    let ws = span (words []) v.state.registers b n in
    let all : bare_way x ≡ over_bare [] (here net) ws links (bare_way v) = ap (λ (ls : List Link). over_bare [] (here net) ws ls (bare_way x)) (sym (drop_all i links done)) ∙ sent.way net in
    ap (λ (y : Way ℕ). Goes (bare_way y)) is
    ∙ (ap (λ (y : Way ℕ). Goes (next (words []) y)) all
    ∙ (ap (λ (t : Bool). if t then Stops (failed (words []) (here net) Fuel (bare_way v)) else Goes (next (words []) (over_bare [] (here net) ws links (bare_way v)))) (sym (le-ltb 65535 (v.state.sent + length links) few))
    ∙ sym (sends_is [] (here net) b n links v)))
