-- The values of one node more.
use Rattle.std.proofs.Common.{◌≡◌, ◌∷◌, ◌++◌, [], ap, sym, subst, ◌∙◌, List, Bool, ℕ, ◌+◌, length, get_or, take, arith, length-append}
use Rattle.kn_aig.specs.declared.gates.AigNode.TheVariants as nodes
use Rattle.kn_aig.specs.Circuits.{values_of, node_of, IsWithin}
use Rattle.kn_aig.proofs.Chains.{values_more, within}
use Rattle.kn_aig.proofs.aig.node_values.Goals as goal

pub node_value-value-requires : goal.node_value-value-requires
node_value-value-requires c =
    let node = get_or c.args.nodes.now c.loop-node.node-index nodes.Constant in
    let count : c.loop-node.node-index + 1 ≡ length c.deref.result.now = omega (arith, ap length c.deref.ensures.value, c.loop-node.invariant.count) in
    let is = within c.args.nodes.now c.loop-node.node-index c.requires.fits c.loop-node-test.true in
    subst (λ (n : ℕ). IsWithin n (length c.args.bits.now) node) count (subst (λ (n : ℕ). IsWithin (c.loop-node.node-index + 1) n node) (sym c.requires.bits) is)

pub loop-node-preserved : goal.loop-node-preserved
loop-node-preserved c =
    let so_far = values_of c.args.bits.now (nodes.Constant ∷ take c.loop-node.node-index c.args.nodes.now) in
    let node = get_or c.args.nodes.now c.loop-node.node-index nodes.Constant in
    let read : c.deref.result.now ≡ so_far = c.deref.ensures.value ∙ c.loop-node.invariant.values in
    let value : c.node_value-value.result ≡ node_of c.args.bits.now so_far node = c.node_value-value.ensures ∙ ap (λ (vs : List Bool). node_of c.args.bits.now vs node) read in
    record {
      values = c.in_ok-push-2.ensures.items ∙ (ap (λ (vs : List Bool). vs ++ c.node_value-value.result ∷ []) c.loop-node.invariant.values ∙ (ap (λ (b : Bool). so_far ++ b ∷ []) value ∙ sym (values_more c.args.bits.now nodes.Constant c.args.nodes.now c.loop-node.node-index c.loop-node-test.true)));
      count = omega (arith, ap length c.in_ok-push-2.ensures.items, length-append c.loop-node.values.items (c.node_value-value.result ∷ []), c.loop-node.invariant.count);
    }
