-- One link further.
use Rattle.std.proofs.Common.{◌≡◌, ◌<◌, length, get_or, take, map, ◌∙◌, arith}
use Rattle.std.proofs.lemmas.List.{length-set}
use Rattle.std.proofs.lemmas.Grind.{get_or_default_zero}
use Rattle.toml.specs.View.{table_view}
use Rattle.kn_netfile.specs.Tables.{link_at, links_of}
use Rattle.kn_netfile.proofs.Walks.{next_table, links_turn, taken_links, fan_is_full, counted}
use Rattle.kn_netfile.proofs.links.links_fault.Goals as goal

pub overflow_add-index_mut : goal.overflow_add-index_mut
overflow_add-index_mut c =
    let inside : c.node_or_first-from.result < length c.loop-index.counts.items = omega (arith, c.node_or_first-from.ensures.most) in
    let few = c.loop-index.invariant.counts.few c.node_or_first-from.result inside in
    let is : c.index_mut.result.now ≡ get_or c.loop-index.counts.items c.node_or_first-from.result 0 = c.index_mut.ensures.value ∙ get_or_default_zero c.loop-index.counts.items c.node_or_first-from.result _ inside in
    omega (arith, few, is)

pub loop-index-preserved : goal.loop-index-preserved
loop-index-preserved c =
    let t = c.index-tables-index.result in
    let lt = c.loop-index-test.true in
    let from = c.node_or_first-from.result in
    let counts = c.loop-index.counts.items in
    let inside : from < length counts = omega (arith, c.node_or_first-from.ensures.most) in
    let before = links_of c.args.nodes (map (λ u. table_view u.now) (take c.loop-index.index c.args.tables.now)) in
    let link = link_at c.args.nodes (table_view t.now) in
    let seen = next_table (λ u. table_view u.now) c.args.tables.now c.loop-index.index t lt c.index-tables-index.is in
    let taken = taken_links (λ u. table_view u.now) c.args.nodes c.args.tables.now c.loop-index.index t lt c.index-tables-index.is in
    let full = fan_is_full counts before link from c.index.result.now c.node_or_first-from.ensures.value (c.index.ensures ∙ get_or_default_zero counts from _ inside) (c.loop-index.invariant.counts.counts from inside) in
    record {
      some = simp length-set c.loop-index.invariant.some;
      each = simp length-set c.loop-index.invariant.each;
      counts = counted counts before _ link from c.index_mut.result.now c.loop-index.index c.node_or_first-from.ensures.value inside (c.index_mut.ensures.value ∙ get_or_default_zero counts from _ inside) taken c.loop-index.invariant.counts;
      fault = links_turn _ before _ _ _ _ _ _ _ _ _ seen (c.in_ok-found.ensures before full) c.lower-fault.ensures taken c.loop-index.invariant.fault;
    }
