use Rattle.std.proofs.Common.{Some, true, subst, sym, ap, ◌∙◌}
use Rattle.std.specs.Prelude.{slice_set}
use Rattle.kn_dstate.specs.Graphs.{Held, IsGraph, shown}
use Rattle.kn_dstate.proofs.Holding.{IsGraph-pinned, pinned_seen, whole}
use Rattle.kn_dstate.proofs.graph.Graph.pin.Goals as goal

pub invariant_of-self : goal.invariant_of-self
invariant_of-self c =
    let inside = c.self.inside in
    subst (λ (y : Held). IsGraph inside.nodes inside.dstates.slots (slice_set inside.states.slots c.args.s.0 (Some y)) inside.rows.items inside.packets.items) (sym c.set_pinned.ensures)
    (IsGraph-pinned inside.nodes inside.dstates.slots inside.states.slots inside.rows.items inside.packets.items c.args.s.0 c.index_mut.result.now true c.self.invariant c.index_mut.ensures.value)

pub returns : goal.returns
returns c =
    let inside = c.self.inside in
    ap (λ (y : Held). whole inside.nodes inside.dstates.slots (shown (slice_set inside.states.slots c.args.s.0 (Some y))) inside.rows.items inside.packets.items) c.set_pinned.ensures
    ∙ pinned_seen inside.nodes inside.dstates.slots inside.states.slots inside.rows.items inside.packets.items c.args.self.now c.args.s.0 c.index_mut.result.now true c.self.view_is c.index_mut.ensures.value
