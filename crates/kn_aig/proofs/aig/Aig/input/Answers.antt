-- The circuit with the new input.
use Rattle.std.proofs.Common.{◌≡◌, ◌∷◌, ◌++◌, [], ap, ◌∙◌, List, ℕ, ◌+◌, false, length, get_or, arith}
use Rattle.std.specs.HashMap.{get}
use Rattle.kn_aig.specs.declared.gates.AigNode.{AigNode}
use Rattle.kn_aig.specs.declared.gates.AigNode.TheVariants as nodes
use Rattle.kn_aig.specs.Circuits.{same_pair, inputs_of}
use Rattle.kn_aig.proofs.Longer.{IsKept-input, inputs_of-le, value_of-pushed}
use Rattle.kn_aig.proofs.aig.Aig.input.Goals as goal

pub overflow_add-self : goal.overflow_add-self
overflow_add-self c =
    let old = nodes.Constant ∷ c.self.inside.nodes.items in
    omega (arith, c.self.invariant.counted, inputs_of-le c.self.inside.nodes.items, ap length c.make_room.ensures.nodes, c.in_ok-make_room.ensures.small)

pub invariant_of-self-2 : goal.invariant_of-self-2
invariant_of-self-2 c =
    let old = nodes.Constant ∷ c.self.inside.nodes.items in
    let grown = ap (λ (ns : List AigNode). nodes.Constant ∷ ns) (c.push_reserved.ensures.items ∙ ap (λ (ns : List AigNode). ns ++ nodes.Input c.self.inside.inputs ∷ []) c.make_room.ensures.nodes) in
    IsKept-input old (nodes.Constant ∷ c.push_reserved.new.self.items) c.self.inside.inputs (get same_pair c.self.inside.gates) (get same_pair c.make_room.new.gates) c.self.invariant (c.make_room.ensures.index old c.self.invariant.index) grown
    (omega (arith, ap length c.make_room.ensures.nodes, c.in_ok-make_room.ensures.small))

pub returns-clause-value : goal.returns-clause-value
returns-clause-value c = λ bits.
    let old = nodes.Constant ∷ c.self.inside.nodes.items in
    let grown : (nodes.Constant ∷ c.push_reserved.new.self.items) ≡ old ++ nodes.Input c.self.inside.inputs ∷ [] = ap (λ (ns : List AigNode). nodes.Constant ∷ ns) (c.push_reserved.ensures.items ∙ ap (λ (ns : List AigNode). ns ++ nodes.Input c.self.inside.inputs ∷ []) c.make_room.ensures.nodes) in
    let place : length old ≡ c.len-node.result + 1 = omega (arith, ap length c.make_room.ensures.nodes) in
    let is = value_of-pushed bits old (nodes.Constant ∷ c.push_reserved.new.self.items) (nodes.Input c.self.inside.inputs) (record { node = c.len-node.result + 1; inverted = false }) grown place in
    is ∙ ap (λ (i : ℕ). get_or bits i false) (c.self.invariant.counted ∙ ap inputs_of c.self.view_is)
