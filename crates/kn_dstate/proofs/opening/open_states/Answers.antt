use Rattle.std.proofs.Common.{◌≡◌, ℕ, List, Some, Option, ap, sym, ◌∙◌, arith, below_more}
use Rattle.slab.specs.Slab.{Slab}
use Rattle.kn_dstate.specs.Graphs.{at, Held, first_state}
use Rattle.kn_dstate.proofs.opening.open_states.Goals as goal

pub loop-node-preserved : goal.loop-node-preserved
loop-node-preserved c =
    let i = c.loop-node.node in
    let new : List (Option Held) = c.insert_reserved-key.new.self.slots in
    let up = c.insert_reserved-key.ensures.updates in
    let key = c.if-key-node.false in
    let same : c.reserve.new.self.slots ≡ c.loop-node.states.slots = ap (λ (t : Slab Held). t.slots) c.reserve.ensures.rest_kept in
    let kept : (n : ℕ) → (n ≡ i → ⊥) → at new n ≡ at c.loop-node.states.slots n = λ n other. up.others n (λ e. other (e ∙ key)) ∙ ap (λ (l : List (Option Held)). at l n) same in
    let here : at new i ≡ Some (first_state i c.in_ok-known.known.capacity) = ap (at new) (sym key) ∙ (up.changed ∙ ap Some c.in_ok-known.ensures) in
    record {
      each = below_more (λ n. (capacity : ℕ) × (at new n ≡ Some (first_state n capacity))) i (λ n low. let was = c.loop-node.invariant.each n low in (was.0, kept n (λ e. omega (arith, low, e)) ∙ was.1)) (_, here);
      none = λ n high. kept n (λ e. omega (arith, high, e)) ∙ c.loop-node.invariant.none n (omega (arith, high));
    }
