-- Terms that stand, each at its place.
use Rattle.std.proofs.Common.{◌≡◌, ℕ, zero, suc, ◌<◌, sym, subst}
use Rattle.std.specs.Prelude.{replicate, List, [], length}
use Rattle.kn_term.specs.declared.node.Node.{Node}
use Rattle.kn_term.specs.declared.node.Literal.{Literal}
use Rattle.kn_cond.specs.Meanings.{StandIn}
use Rattle.kn_plan.specs.Nets.{Plan}
use Rattle.kn_node.specs.Views.{MachineView, IsConfig}
use Rattle.kn_node.specs.Opening.{at_start}
use Rattle.kn_term.specs.declared.node.Ref.{Ref}
use Rattle.kn_term.specs.Reached.{RootsStand}

-- one term, so often
pub roots_replicate : (count n : ℕ) (r : Ref) → r.index < count → RootsStand count (replicate n r)
roots_replicate count zero r h i s e = absurd cc
roots_replicate count (suc n) r h zero s e = let same : r ≡ s = cc in subst (λ (x : Ref). x.index < count) same h
roots_replicate count (suc n) r h (suc i) s e = roots_replicate count n r h i s e

-- a machine at its start stands where its one term does
pub start_stands : (ns : List Node) (plan : Plan) (nought : Ref) (m : MachineView) (cond : List Literal) → nought.index < length ns → m ≡ at_start plan nought → cond ≡ [] → IsConfig ns m cond
start_stands ns plan nought m cond h is none = record {
  registers = subst (λ (x : MachineView). RootsStand (length ns) x.registers) (sym is) (roots_replicate (length ns) 16 nought h);
  memory = subst (λ (x : MachineView). RootsStand (length ns) x.memory) (sym is) (roots_replicate (length ns) 64 nought h);
  literals = subst (λ (ls : List Literal). StandIn ns ls) (sym none) (λ place l e. absurd cc);
}
