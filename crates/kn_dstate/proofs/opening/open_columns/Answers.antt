use Rattle.std.proofs.Common.{◌≡◌, ◌∷◌, [], ap, arith, length, length-append, map, Vec, Global}
use Rattle.kn_dstate.specs.declared.number.StateNo.{StateNo}
use Rattle.kn_dstate.proofs.Holding.{grown_each}
use Rattle.kn_dstate.proofs.opening.open_columns.Goals as goal

pub loop-node-preserved : goal.loop-node-preserved
loop-node-preserved c =
    let v = c.in_ok-from_slice.field-0 in
    let one : map (λ (s : StateNo). s.0) v.items ≡ c.loop-node.node ∷ [] = ap (map (λ (s : StateNo). s.0)) c.in_ok-from_slice.ensures.items in
    record {
      many = omega (arith, ap length c.in_ok-push.ensures.items, length-append c.loop-node.columns.items (v ∷ []), c.loop-node.invariant.many);
      each = grown_each (λ (v : Vec StateNo Global). map (λ s. s.0) v.items) c.loop-node.columns.items c.push.new.self.items v c.loop-node.node (λ n. n ∷ []) c.in_ok-push.ensures.items c.loop-node.invariant.many one c.loop-node.invariant.each;
    }
