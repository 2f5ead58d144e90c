-- A state that begins with a packet, a timer or counts is ready for an event.
use Rattle.std.proofs.Common.{◌≡◌, ℕ, ◌<◌, List, [], ◌∷◌, length, refl, ap, sym, subst, ◌∙◌, arith}
use Rattle.std.specs.Prelude.{slice_index_or}
use Rattle.std.specs.Arc.{arc_value}
use Rattle.std.specs.List.{AllByRecursion}
use Rattle.kn_term.specs.Reached.{RootsStand}
use Rattle.kn_cond.specs.declared.standing.Standing.{Standing}
use Rattle.kn_cond.specs.declared.standing.Standing.TheVariants.{Inputs}
use Rattle.kn_term.specs.declared.node.Literal.{Literal}
use Rattle.kn_cond.specs.Conditions.{that, StandsFor, AreWords, ComesBefore}
use Rattle.kn_cond.specs.Meanings.{condition_of}
use Rattle.kn_packet.specs.Packets.{PacketView}
use Rattle.kn_plan.specs.Nets.{Network, Plan, plan_of, no_plan}
use Rattle.kn_node.specs.Views.{MachineView, ConfigView}
use Rattle.kn_node.specs.Opening.{IsOpened, at_start}
use Rattle.kn_machine.specs.Views.{own_of}
use Rattle.kn_step.specs.Answers.{IsReady}
use Rattle.kn_step.proofs.tests.started.Goals as goal

nothing_asked : (conflicts : ℕ) → StandsFor conflicts (that []) (Inputs [])
nothing_asked conflicts = record { given_words = []; is = refl; meet = (tt, refl); least = λ ws m b. go ws m.0 b }
  where
    go : (ws : List ℕ) → AreWords [] ws → ComesBefore ws [] → ⊥
    go [] a b = absurd cc
    go (w ∷ ws) a b = a

opened_stands : (plan : Plan) (n conflicts : ℕ) (c : ConfigView) → IsOpened plan n c → StandsFor conflicts (that (own_of c)) c.standing
opened_stands plan n conflicts c o =
    subst (λ (ls : List Literal). StandsFor conflicts (that (condition_of c.terms ls)) c.standing) (sym o.cond)
    (subst (λ (s : Standing). StandsFor conflicts (that []) s) (sym o.standing) (nothing_asked conflicts))

-- another machine, with packets of nodes of the network
ready_with : (net : Network) (tick : ℕ) (c : ConfigView) (m : MachineView) → length net.nodes ≡ 3 → net.limits.ticks ≡ 2 → tick < 2 → IsOpened (plan_of net 1) 1 c → AllByRecursion (λ (p : PacketView). p.from < 3) m.queue → IsReady net tick (record c { machine = m })
ready_with net tick c m nodes ticks early o from = record {
  node = omega (arith, o.of, nodes);
  early = subst (λ (k : ℕ). tick < k) (sym ticks) early;
  standing = opened_stands (plan_of net 1) 1 net.limits.conflicts c o;
  senders = subst (λ (k : ℕ). AllByRecursion (λ (p : PacketView). p.from < k) m.queue) (sym nodes) from;
}

pub invariant_of-config : goal.invariant_of-config
invariant_of-config c =
    let i = c.node.inside in
    let made = c.in_ok-machine.ensures in
    record {
      registers = subst (RootsStand (length i.terms)) (sym made.registers) c.node.invariant.registers;
      memory = subst (RootsStand (length i.terms)) (sym made.memory) c.node.invariant.memory;
      literals = c.node.invariant.literals;
    }

pub returns : goal.returns
returns c tick early =
    let i = c.node.inside in
    let net = c.args.net.now.network in
    let made = c.in_ok-machine.ensures in
    let v : ConfigView = record { node = i.node; machine = i.machine; terms = i.terms; cond = i.cond; trace = i.trace; history = i.history; standing = i.standing } in
    let opened : IsOpened (plan_of net 1) 1 v = subst (IsOpened (plan_of net 1) 1) (sym c.node.view_is) c.in_ok-node.ensures in
    subst (IsReady net tick) (sym c.in_ok-shared.ensures.ok)
    (ready_with net tick v c.in_ok-machine.machine c.requires.nodes c.requires.ticks early opened made.queue)
