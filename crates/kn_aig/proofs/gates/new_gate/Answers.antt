-- The index with the new gate.
use Rattle.std.proofs.Common.{◌≡◌, ◌∷◌, sym, subst, List, ℕ, ◌+◌, length, cond, arith}
use Rattle.std.specs.Prelude.{Some}
use Rattle.kn_aig.specs.declared.gates.Pair.{Pair}
use Rattle.std.specs.HashMap.{get}
use Rattle.kn_aig.specs.declared.gates.AigNode.{AigNode}
use Rattle.kn_aig.specs.declared.gates.AigNode.TheVariants as nodes
use Rattle.kn_aig.specs.Circuits.{same_pair, IsIndex}
use Rattle.kn_aig.proofs.Longer.{IsIndex-gate, same_pair_is, pair_itself, on_success}
use Rattle.kn_aig.proofs.gates.new_gate.Goals as goal

pub returns-clause-index : goal.returns-clause-index
returns-clause-index c =
    let old = nodes.Constant ∷ c.args.nodes.now.items in
    let updates = on_success _ _ (c.insert.ensures.succeeds c.requires.spare) c.insert.ensures.updates in
    let number : c.len-node.result + 1 ≡ length old = omega arith in
    let gives = subst (λ (n : ℕ). (q : Pair) → get same_pair c.insert.new.self q ≡ cond (same_pair c.args.pair q) (Some n) (get same_pair c.args.gates.now q)) number updates.0 in
    let whole = IsIndex-gate old c.args.pair same_pair (get same_pair c.args.gates.now) (get same_pair c.insert.new.self) (same_pair_is c.args.pair) (pair_itself c.args.pair) c.requires.index c.requires.absent gives in
    subst (λ (ns : List AigNode). IsIndex (nodes.Constant ∷ ns) (get same_pair c.insert.new.self)) (sym c.push_reserved.ensures.items) whole
