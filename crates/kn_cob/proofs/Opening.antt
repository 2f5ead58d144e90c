-- The network as it is kept before anything has run.
use Rattle.std.proofs.Common.{◌≡◌, ℕ, zero, suc, ◌+◌, ◌<◌, Bool, List, [], ◌∷◌, ◌++◌, length, map, get_or, replicate, refl, sym, subst, ◌∙◌, arith}
use Rattle.std.specs.List.{AllByRecursion}
use Rattle.std.proofs.lemmas.List.{length-map}
use Rattle.kn_term.specs.declared.node.Node.{Node as Listed}
use Rattle.kn_term.specs.declared.node.Ref.{Ref}
use Rattle.kn_term.specs.declared.node.Literal.{Literal}
use Rattle.kn_term.specs.Terms.{Term, Word}
use Rattle.kn_term.specs.Nodes.{term_at}
use Rattle.kn_cond.specs.Conditions.{that, StandsFor, AreWords, ComesBefore}
use Rattle.kn_cond.specs.Meanings.{condition_of}
use Rattle.kn_cond.specs.declared.standing.Standing.{Standing}
use Rattle.kn_cond.specs.declared.standing.Standing.TheVariants.{Inputs}
use Rattle.kn_packet.specs.Packets.{PacketView}
use Rattle.kn_plan.specs.Nets.{Plan}
use Rattle.kn_node.specs.Views.{MachineView, ConfigView, terms_in}
use Rattle.kn_node.specs.Opening.{at_start, IsOpened}
use Rattle.kn_model.specs.Terms.{terms}
use Rattle.kn_model.specs.Nodes.{state_of}
use Rattle.kn_model.specs.Nets.{Network, no_plan, plan_of, opening_node}
use Rattle.kn_model.specs.Scenarios.{opening}
use Rattle.kn_model.specs.Alikes.{OneByOne, TermAlike, ConditionAlike, Alike}
use Rattle.kn_model.specs.Laws.{queued_all}
use Rattle.kn_model.proofs.AlikeTerms.{term_self, condition_self}
use Rattle.kn_machine.specs.Views.{packet_of, own_of, state_with}
use Rattle.kn_machine.specs.Views as kept
use Rattle.kn_step.specs.Answers.{guards_of}
use Rattle.kn_cob.specs.Nodes.{NodeView, IsNode}
use Rattle.kn_cob.specs.Copies.{IsCopy, no_node}
use Rattle.kn_cob.specs.Closing.{IsStart, AreStarts}
use Rattle.kn_cob.proofs.EachNode.{nodes_from}

-- one node more
pub one_more : (net : Network) (n : ℕ) (xs : List NodeView) (x : NodeView) → AreStarts net n xs → IsStart net (n + length xs) x → AreStarts net n (xs ++ x ∷ [])
one_more net n [] x h i = let same : n + 0 ≡ n = omega arith in (subst (λ (k : ℕ). IsStart net k x) same i, tt)
one_more net n (v ∷ xs) x h i = let same : n + suc (length xs) ≡ (n + 1) + length xs = omega arith in (h.0, one_more net (n + 1) xs x h.1 (subst (λ (k : ℕ). IsStart net k x) same i))

start_at : (net : Network) (n : ℕ) (xs : List NodeView) (k : ℕ) (d : NodeView) → AreStarts net n xs → k < length xs → IsStart net (n + k) (get_or xs k d)
start_at net n [] k d h inside = absurd (omega (arith, inside))
start_at net n (x ∷ xs) zero d h inside = let same : n ≡ n + 0 = omega arith in subst (λ (k : ℕ). IsStart net k x) same h.0
start_at net n (x ∷ xs) (suc k) d h inside = let same : (n + 1) + k ≡ n + suc k = omega arith in subst (λ (j : ℕ). IsStart net j (get_or xs k d)) same (start_at net (n + 1) xs k d h.1 (omega (arith, inside)))

-- nothing is asked of no input
pub nothing_asked : (conflicts : ℕ) → StandsFor conflicts (that []) (Inputs [])
nothing_asked conflicts = record { given_words = []; is = refl; meet = (tt, refl); least = λ ws m b. go ws m.0 b }
  where
    go : (ws : List ℕ) → AreWords [] ws → ComesBefore ws [] → ⊥
    go [] a b = absurd cc
    go (w ∷ ws) a b = a

-- words that are 0
zeros_in : (ns : List Listed) (r : Ref) → term_at ns r.index ≡ Word 0 → (k : ℕ) → OneByOne TermAlike (terms_in ns (replicate k r)) (replicate k (Word 0))
zeros_in ns r is zero = tt
zeros_in ns r is (suc k) = (subst (λ (x : Term). TermAlike x (Word 0)) (sym is) (term_self (Word 0)), zeros_in ns r is k)

start_alike : (plan : Plan) (ns : List Listed) (r : Ref) → term_at ns r.index ≡ Word 0 → Alike (state_with ns (at_start plan r) [] []) (state_of terms plan.loss plan.duplicate plan.reboot)
start_alike plan ns r is = record {
  trace = refl;
  outcome = refl;
  timers = refl;
  inputs = refl;
  sent = refl;
  losses = refl;
  duplications = refl;
  booted = refl;
  reboots = refl;
  registers = zeros_in ns r is 16;
  memory = zeros_in ns r is 64;
  queue = tt;
  own = condition_self [];
}

opened_alike : (plan : Plan) (n : ℕ) (c : ConfigView) → IsOpened plan n c → Alike (kept.state_of c) (state_of terms plan.loss plan.duplicate plan.reboot)
opened_alike plan n c o =
    let start = state_of terms plan.loss plan.duplicate plan.reboot in
    subst (λ (m : MachineView). Alike (state_with c.terms m c.trace (own_of c)) start) (sym o.machine)
    (subst (λ (bits : List Bool). Alike (state_with c.terms (at_start plan o.zero) bits (own_of c)) start) (sym o.trace)
    (subst (λ (ls : List Literal). Alike (state_with c.terms (at_start plan o.zero) [] (condition_of c.terms ls)) start) (sym o.cond)
    (start_alike plan c.terms o.zero o.is_zero)))

start_node : (net : Network) (n : ℕ) (x : NodeView) → IsStart net n x → IsNode net 0 n x (opening_node terms (plan_of net n))
start_node net n x s =
    let plan = plan_of net n in
    let o = s.opened in
    let c = x.config in
    record {
      of_node = o.of;
      of_history = o.history;
      alike = subst (λ (b : List PacketView). Alike (queued_all (map packet_of b) (kept.state_of c)) (state_of terms plan.loss plan.duplicate plan.reboot)) (sym s.nothing) (opened_alike plan n c o);
      guards = subst (λ (b : List PacketView). ConditionAlike (guards_of b) []) (sym s.nothing) (condition_self []);
      later = subst (λ (b : List PacketView). AllByRecursion (λ (p : PacketView). (0 < p.arrival) × (p.copy ≡ 0)) b) (sym s.nothing) tt;
      standing = subst (λ (known : Standing). StandsFor net.limits.conflicts (that (own_of c)) known) (sym o.standing)
          (subst (λ (ls : List Literal). StandsFor net.limits.conflicts (that (condition_of c.terms ls)) (Inputs [])) (sym o.cond) (nothing_asked net.limits.conflicts));
      senders = tt;
    }

opened_at : (ps : List Plan) (k : ℕ) → opening_node terms (get_or ps k no_plan) ≡ get_or (map (opening_node terms) ps) k (opening_node terms no_plan)
opened_at [] k = refl
opened_at (p ∷ ps) zero = refl
opened_at (p ∷ ps) (suc k) = opened_at ps k

-- The network at its start, kept node by node, is a copy of the opening.
pub opening_copy : (net : Network) (xs : List NodeView) → length xs ≡ length net.nodes → AreStarts net 0 xs → IsCopy net 0 xs (opening terms net)
opening_copy net xs same starts = record {
  whole = length-map net.nodes (opening_node terms);
  nodes = nodes_from net 0 0 xs (map (opening_node terms) net.nodes) no_node (opening_node terms no_plan) (same ∙ sym (length-map net.nodes (opening_node terms))) each;
}
  where
    each : (n : ℕ) → n < length (map (opening_node terms) net.nodes) → IsNode net 0 (0 + n) (get_or xs n no_node) (get_or (map (opening_node terms) net.nodes) n (opening_node terms no_plan))
    each n inside =
        let long = length-map net.nodes (opening_node terms) in
        let zero_n : 0 + n ≡ n = omega arith in
        let one : IsStart net n (get_or xs n no_node) = subst (λ (k : ℕ). IsStart net k (get_or xs n no_node)) zero_n (start_at net 0 xs n no_node starts (omega (arith, inside, long, same))) in
        subst (λ (k : ℕ). IsNode net 0 k (get_or xs n no_node) (get_or (map (opening_node terms) net.nodes) n (opening_node terms no_plan))) (sym zero_n)
        (subst (IsNode net 0 n (get_or xs n no_node)) (opened_at net.nodes n) (start_node net n (get_or xs n no_node) one))
