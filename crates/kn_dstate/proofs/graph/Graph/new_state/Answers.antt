use Rattle.std.proofs.Common.{◌≡◌, ◌≢◌, ◌<◌, ℕ, List, Some, None, Option, [], false, length, ap, sym, subst, ◌∙◌, arith}
use Rattle.slab.specs.Slab.{Slab}
use Rattle.kn_built.proofs.BuiltLaws.{length-built}
use Rattle.kn_dstate.specs.Histories.{told_by, AllNameBelow}
use Rattle.kn_dstate.specs.Graphs.{GraphView, IsGraph, Held, at}
use Rattle.kn_dstate.proofs.Holding.{IsGraph-rows, IsGraph-state, has_new}
use Rattle.kn_dstate.proofs.graph.Graph.new_state.Goals as goal

pub extend-requires-clause-names : goal.extend-requires-clause-names
extend-requires-clause-names c =
    subst (λ (n : ℕ). AllNameBelow n c.args.entries.now) (ap (λ (g : GraphView). length g.histories) (sym c.self.view_is) ∙ length-built told_by c.self.inside.rows.items) c.requires.stamps

pub invariant_of-self-in_err-history : goal.invariant_of-self-in_err-history
invariant_of-self-in_err-history c =
    let inside = c.self.inside in
    let same : c.reserve.new.self.slots ≡ inside.states.slots = ap (λ (t : Slab Held). t.slots) c.reserve.ensures.rest_kept in
    subst (λ (l : List (Option Held)). IsGraph inside.nodes inside.dstates.slots l c.extend.new.rows.items inside.packets.items) (sym same)
    (IsGraph-rows inside.nodes inside.dstates.slots inside.states.slots inside.rows.items c.extend.new.rows.items inside.packets.items c.self.invariant c.extend.ensures.table c.extend.ensures.grows)

-- the new state's slot
slot : (c : goal.After-insert_reserved-key) → at c.insert_reserved-key.new.self.slots c.insert_reserved-key.result ≡ Some (record { known = record { node = c.args.node; history = c.in_ok-history.history; pinned = false }; dstates = []; capacity = c.new.result.capacity })
slot c = c.insert_reserved-key.ensures.updates.changed ∙ ap Some c.new.ensures

-- was free, and the others are as they were
free : (c : goal.After-insert_reserved-key) → at c.self.inside.states.slots c.insert_reserved-key.result ≡ None
free c =
    let same : c.reserve.new.self.slots ≡ c.self.inside.states.slots = ap (λ (t : Slab Held). t.slots) c.reserve.ensures.rest_kept in
    ap (λ (l : List (Option Held)). at l c.insert_reserved-key.result) (sym same) ∙ c.insert_reserved-key.ensures.was_vacant

others : (c : goal.After-insert_reserved-key) (k : ℕ) → k ≢ c.insert_reserved-key.result → at c.insert_reserved-key.new.self.slots k ≡ at c.self.inside.states.slots k
others c k other =
    let same : c.reserve.new.self.slots ≡ c.self.inside.states.slots = ap (λ (t : Slab Held). t.slots) c.reserve.ensures.rest_kept in
    c.insert_reserved-key.ensures.updates.others k other ∙ ap (λ (l : List (Option Held)). at l k) same

pub invariant_of-self-2 : goal.invariant_of-self-2
invariant_of-self-2 c =
    let inside = c.self.inside in
    let low : c.args.node < inside.nodes = omega (arith, ap (λ (g : GraphView). g.nodes) c.self.view_is, c.requires.node) in
    let grown = IsGraph-rows inside.nodes inside.dstates.slots inside.states.slots inside.rows.items c.extend.new.rows.items inside.packets.items c.self.invariant c.extend.ensures.table c.extend.ensures.grows in
    IsGraph-state inside.nodes inside.dstates.slots inside.states.slots c.insert_reserved-key.new.self.slots c.extend.new.rows.items inside.packets.items c.insert_reserved-key.result c.args.node c.in_ok-history.history c.new.result.capacity grown
    (free c) (slot c) (others c) low (_, c.in_ok-history.ensures.tells)

pub returns-clause-ok : goal.returns-clause-ok
returns-clause-ok c =
    let inside = c.self.inside in
    has_new inside.nodes inside.dstates.slots inside.packets.items c.args.self.now inside.states.slots c.insert_reserved-key.new.self.slots inside.rows.items c.extend.new.rows.items c.insert_reserved-key.result c.args.node c.args.parent.0 c.in_ok-history.history c.new.result.capacity c.args.entries.now
    c.self.view_is (free c) (slot c) (others c) c.extend.ensures.grows c.in_ok-history.ensures.tells
