-- The value along the gates.
use Rattle.std.proofs.Common.{◌∷◌, ◌∙◌, List, ap}
use Rattle.kn_aig.specs.declared.gates.AigNode.{AigNode}
use Rattle.kn_aig.specs.declared.gates.AigNode.TheVariants as nodes
use Rattle.kn_aig.proofs.Chains.{xor_made}
use Rattle.kn_aig.proofs.aig.Aig.xor.Goals as goal

pub returns-clause-value : goal.returns-clause-value
returns-clause-value c = (xor_made c.args.self.now (nodes.Constant ∷ c.make_room.new.nodes.items) _ _ _ c.args.x c.args.y _ _ _ _ _ _ _ (ap (λ (ns : List AigNode). nodes.Constant ∷ ns) c.make_room.ensures.nodes ∙ c.self.view_is) c.requires.x c.requires.y c.negated.ensures c.negated-2.ensures c.negated-3.ensures c.negated-4.ensures c.and_gate-both.ensures.gate c.and_gate-neither.ensures.gate c.and_gate-edge.ensures.gate).0

pub returns-clause-grows : goal.returns-clause-grows
returns-clause-grows c = (xor_made c.args.self.now (nodes.Constant ∷ c.make_room.new.nodes.items) _ _ _ c.args.x c.args.y _ _ _ _ _ _ _ (ap (λ (ns : List AigNode). nodes.Constant ∷ ns) c.make_room.ensures.nodes ∙ c.self.view_is) c.requires.x c.requires.y c.negated.ensures c.negated-2.ensures c.negated-3.ensures c.negated-4.ensures c.and_gate-both.ensures.gate c.and_gate-neither.ensures.gate c.and_gate-edge.ensures.gate).1
