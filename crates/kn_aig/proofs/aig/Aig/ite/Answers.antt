-- The value along the gates.
use Rattle.std.proofs.Common.{◌∷◌, ◌∙◌, List, ap}
use Rattle.kn_aig.specs.declared.gates.AigNode.{AigNode}
use Rattle.kn_aig.specs.declared.gates.AigNode.TheVariants as nodes
use Rattle.kn_aig.proofs.Chains.{ite_made}
use Rattle.kn_aig.proofs.aig.Aig.ite.Goals as goal

pub returns-clause-value : goal.returns-clause-value
returns-clause-value c = (ite_made c.args.self.now (nodes.Constant ∷ c.make_room.new.nodes.items) _ _ _ c.args.c c.args.x c.args.y _ _ _ _ _ _ _ (ap (λ (ns : List AigNode). nodes.Constant ∷ ns) c.make_room.ensures.nodes ∙ c.self.view_is) c.requires.c c.requires.y c.negated.ensures c.negated-2.ensures c.negated-3.ensures c.negated-4.ensures c.and_gate-first.ensures.gate c.and_gate-second.ensures.gate c.and_gate-none.ensures.gate).0

pub returns-clause-grows : goal.returns-clause-grows
returns-clause-grows c = (ite_made c.args.self.now (nodes.Constant ∷ c.make_room.new.nodes.items) _ _ _ c.args.c c.args.x c.args.y _ _ _ _ _ _ _ (ap (λ (ns : List AigNode). nodes.Constant ∷ ns) c.make_room.ensures.nodes ∙ c.self.view_is) c.requires.c c.requires.y c.negated.ensures c.negated-2.ensures c.negated-3.ensures c.negated-4.ensures c.and_gate-first.ensures.gate c.and_gate-second.ensures.gate c.and_gate-none.ensures.gate).1
