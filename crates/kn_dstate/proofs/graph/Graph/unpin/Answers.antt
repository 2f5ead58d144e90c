use Rattle.std.proofs.Common.{◌≡◌, List, Option, ap, subst, sym, ◌∙◌, true, false, Some, None}
use Rattle.std.specs.Prelude.{slice_set}
use Rattle.kn_dstate.specs.Graphs.{Held, GraphView, IsGraph, shown}
use Rattle.kn_dstate.proofs.Holding.{whole, IsGraph-pinned, IsGraph-gone, pinned_seen, with_state_seen, placed, nothing_known}
use Rattle.kn_dstate.proofs.graph.Graph.unpin.Goals as goal

pub invariant_of-self : goal.invariant_of-self
invariant_of-self c =
    let inside = c.self.inside in
    subst (λ (y : Held). IsGraph inside.nodes inside.dstates.slots (slice_set inside.states.slots c.args.s.0 (Some y)) inside.rows.items inside.packets.items) (sym c.set_pinned.ensures)
    (IsGraph-pinned inside.nodes inside.dstates.slots inside.states.slots inside.rows.items inside.packets.items c.args.s.0 c.index_mut.result.now false c.self.invariant c.index_mut.ensures.value)

pub invariant_of-self-else-is_placed : goal.invariant_of-self-else-is_placed
invariant_of-self-else-is_placed c =
    let inside = c.self.inside in
    subst (λ (l : List (Option Held)). IsGraph inside.nodes inside.dstates.slots l inside.rows.items inside.packets.items) (sym c.remove.ensures.slots)
    (IsGraph-gone inside.nodes inside.dstates.slots inside.states.slots inside.rows.items inside.packets.items c.args.s.0 c.index.result.now c.self.invariant c.index.ensures (nothing_known c.index.result.now c.is_placed.result c.if-is_placed.false c.is_placed.ensures))

pub returns-then-is_placed-clause-placed : goal.returns-then-is_placed-clause-placed
returns-then-is_placed-clause-placed c = λ is.
    let inside = c.self.inside in
    ap (λ (y : Held). whole inside.nodes inside.dstates.slots (shown (slice_set inside.states.slots c.args.s.0 (Some y))) inside.rows.items inside.packets.items) c.set_pinned.ensures
    ∙ pinned_seen inside.nodes inside.dstates.slots inside.states.slots inside.rows.items inside.packets.items c.args.self.now c.args.s.0 c.index_mut.result.now false c.self.view_is c.index_mut.ensures.value

pub returns-then-is_placed-clause-gone : goal.returns-then-is_placed-clause-gone
returns-then-is_placed-clause-gone c = λ not_placed.
    let inside = c.self.inside in
    let both = placed inside.nodes inside.dstates.slots inside.states.slots inside.rows.items inside.packets.items c.args.self.now c.args.s.0 c.index.result.now c.is_placed.result c.self.invariant
    (ap (λ (g : GraphView). g.dstates) c.self.view_is) (ap (λ (g : GraphView). g.states) c.self.view_is) c.index.ensures c.is_placed.ensures in
    absurd (not_placed (both.0 c.if-is_placed.true))

pub returns-else-is_placed-clause-placed : goal.returns-else-is_placed-clause-placed
returns-else-is_placed-clause-placed c = λ is.
    let inside = c.self.inside in
    let both = placed inside.nodes inside.dstates.slots inside.states.slots inside.rows.items inside.packets.items c.args.self.now c.args.s.0 c.index.result.now c.is_placed.result c.self.invariant
    (ap (λ (g : GraphView). g.dstates) c.self.view_is) (ap (λ (g : GraphView). g.states) c.self.view_is) c.index.ensures c.is_placed.ensures in
    let bad : false ≡ true = sym c.if-is_placed.false ∙ both.1 is in
    absurd cc

pub returns-else-is_placed-clause-gone : goal.returns-else-is_placed-clause-gone
returns-else-is_placed-clause-gone c = λ not_placed.
    let inside = c.self.inside in
    ap (λ (l : List (Option Held)). whole inside.nodes inside.dstates.slots (shown l) inside.rows.items inside.packets.items) c.remove.ensures.slots
    ∙ with_state_seen inside.nodes inside.dstates.slots inside.states.slots inside.rows.items inside.packets.items c.args.self.now c.args.s.0 None c.self.view_is
