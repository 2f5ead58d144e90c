use Rattle.std.proofs.Common.{ℕ, List, sym, subst}
use Rattle.kn_dstate.specs.Histories.{told}
use Rattle.kn_dstate.specs.Graphs.{IsGraph, IsOpened, shown}
use Rattle.kn_dstate.proofs.Holding.{OpenDstates, OpenStates, OpenRows, opened_graph, opened_view}
use Rattle.kn_dstate.proofs.graph.Graph.open.Goals as goal

dstates : (c : goal.After-new) → OpenDstates c.args.nodes c.in_ok-open_dstates.field-0.slots
dstates c = let of = c.in_ok-open_dstates.ensures in record { columns_many = of.columns_many; inboxes_many = of.inboxes_many; columns = of.columns; inboxes = of.inboxes; one = of.one; only = of.only }

states : (c : goal.After-new) → OpenStates c.args.nodes c.in_ok-open_states.field-0.slots
states c = let of = c.in_ok-open_states.ensures in record { each = of.each; none = of.none }

rows : (c : goal.After-new) → OpenRows c.args.nodes c.in_ok-open_rows.field-0.items
rows c = let of = c.in_ok-open_rows.ensures in record { table = of.table; many = of.many; each = of.each }

pub invariant_of-result : goal.invariant_of-result
invariant_of-result c =
    subst (λ (l : List ℕ). IsGraph c.args.nodes c.in_ok-open_dstates.field-0.slots c.in_ok-open_states.field-0.slots c.in_ok-open_rows.field-0.items l) (sym c.new.ensures.items)
    (opened_graph c.args.nodes c.in_ok-open_dstates.field-0.slots c.in_ok-open_states.field-0.slots c.in_ok-open_rows.field-0.items (dstates c) (states c) (rows c))

pub returns : goal.returns
returns c =
    subst (λ (l : List ℕ). IsOpened c.args.nodes (record { nodes = c.args.nodes; dstates = c.in_ok-open_dstates.field-0.slots; states = shown c.in_ok-open_states.field-0.slots; histories = told c.in_ok-open_rows.field-0.items; packets = l })) (sym c.new.ensures.items)
    (opened_view c.args.nodes c.in_ok-open_dstates.field-0.slots c.in_ok-open_states.field-0.slots c.in_ok-open_rows.field-0.items (dstates c) (states c) (rows c))
