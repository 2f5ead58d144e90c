-- Loops over the nodes of a copy.
use Rattle.std.proofs.Common.{◌≡◌, ℕ, ◌+◌, ◌<◌, List, [], ◌∷◌, ◌++◌, length, drop, get_or, sym, ap, ◌∙◌, append_assoc}
use Rattle.std.proofs.lemmas.List.{drop_more}
use Rattle.kn_packet.specs.Packets.{PacketView}
use Rattle.kn_cob.specs.Nodes.{NodeView}
use Rattle.kn_cob.specs.Copies.{mailed, sent_to}

-- one node more is sent its packets
pub mailed_more : (ps : List PacketView) (xs out all : List NodeView) (i : ℕ) (d z : NodeView) → i < length xs → z ≡ sent_to i ps (get_or xs i d) → out ++ mailed i ps (drop i xs) ≡ all
    → (out ++ z ∷ []) ++ mailed (i + 1) ps (drop (i + 1) xs) ≡ all
mailed_more ps xs out all i d z inside is before =
    append_assoc out (z ∷ []) (mailed (i + 1) ps (drop (i + 1) xs))
    ∙ (ap (λ (y : NodeView). out ++ y ∷ mailed (i + 1) ps (drop (i + 1) xs)) is
    ∙ (ap (λ (l : List NodeView). out ++ mailed i ps l) (sym (drop_more xs i d inside)) ∙ before))
