-- A node at its start is ready for its boot.
use Rattle.std.proofs.Common.{◌≡◌, ℕ, ◌<◌, List, [], ◌∷◌, length, refl, sym, subst, ◌∙◌}
use Rattle.std.specs.Prelude.{Some, None}
use Rattle.std.specs.List.{AllByRecursion}
use Rattle.kn_cond.specs.Conditions.{StandsFor, that, AreWords, ComesBefore}
use Rattle.kn_cond.specs.declared.standing.Standing.{Standing}
use Rattle.kn_cond.specs.declared.standing.Standing.TheVariants.{Inputs}
use Rattle.kn_packet.specs.declared.packet.Event.TheVariants.{Boot}
use Rattle.kn_packet.specs.Packets.{PacketView}
use Rattle.kn_plan.specs.Nets.{Plan, Network, plan_of}
use Rattle.kn_term.specs.declared.node.Literal.{Literal}
use Rattle.kn_node.specs.Views.{ConfigView, MachineView}
use Rattle.kn_node.specs.Opening.{IsOpened}
use Rattle.kn_model.specs.Due.{due}
use Rattle.kn_machine.specs.Views.{own_of, state_of, state_with}
use Rattle.kn_step.specs.Answers.{IsReady}

-- nothing is asked of no input
nothing_asked : (conflicts : ℕ) → StandsFor conflicts (that []) (Inputs [])
nothing_asked conflicts = record { given_words = []; is = refl; meet = (tt, refl); least = λ ws m b. go ws m.0 b }
  where
    go : (ws : List ℕ) → AreWords [] ws → ComesBefore ws [] → ⊥
    go [] a b = absurd cc
    go (w ∷ ws) a b = a

-- an event may be run from a node at its start
pub opened_ready : (net : Network) (node : ℕ) (c : ConfigView) → IsOpened (plan_of net node) node c → node < length net.nodes → 0 < net.limits.ticks → IsReady net 0 c
opened_ready net node c o inside early = record {
  node = subst (λ (n : ℕ). n < length net.nodes) (sym o.of) inside;
  early = early;
  standing = subst (λ (s : Standing). StandsFor net.limits.conflicts (that (own_of c)) s) (sym o.standing) (subst (λ (ls : List Literal). StandsFor net.limits.conflicts (that (own_of (record c { cond = ls }))) (Inputs [])) (sym o.cond) (nothing_asked net.limits.conflicts));
  senders = subst (λ (m : MachineView). AllByRecursion (λ (p : PacketView). p.from < length net.nodes) m.queue) (sym o.machine) tt;
}

-- and in a network of one tick its boot is due
pub opened_due : (ticks : ℕ) (plan : Plan) (node : ℕ) (c : ConfigView) → IsOpened plan node c → ticks ≡ 1 → due ticks 0 (state_of c) ≡ None → ⊥
opened_due ticks plan node c o one none =
    let boots : due 1 0 (state_of c) ≡ Some Boot = subst (λ (m : MachineView). due 1 0 (state_with c.terms m c.trace (own_of c)) ≡ Some Boot) (sym o.machine) refl in
    let nothing : due 1 0 (state_of c) ≡ None = subst (λ (n : ℕ). due n 0 (state_of c) ≡ None) one none in
    let both : Some Boot ≡ None = sym boots ∙ nothing in
    absurd cc
