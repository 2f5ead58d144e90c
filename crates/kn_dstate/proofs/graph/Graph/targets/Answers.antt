use Rattle.std.proofs.Common.{◌≡◌, [], ap, sym, subst, ◌∙◌, arith, List, ℕ, map}
use Rattle.kn_dstate.specs.declared.number.StateNo.{StateNo}
use Rattle.kn_dstate.specs.Places.{AreDistinct}
use Rattle.kn_dstate.specs.Graphs.{GraphView}
use Rattle.kn_dstate.specs.Gathered.{gathered}
use Rattle.kn_dstate.proofs.Gathering.{gathered-once}
use Rattle.kn_dstate.proofs.Holding.{target_is}
use Rattle.kn_dstate.proofs.graph.Graph.targets.Goals as goal

found : (c : goal.In_ok-out) → map (λ (x : StateNo). x.0) c.in_ok-out.out.items ≡ gathered c.self.inside.dstates.slots c.args.node c.index.result.now.dstates []
found c = c.in_ok-out.ensures ∙ ap (λ (l : List ℕ). gathered c.self.inside.dstates.slots c.args.node l []) c.dstates.ensures

pub returns-clause-once : goal.returns-clause-once
returns-clause-once c = subst AreDistinct (sym (found c)) (gathered-once c.self.inside.dstates.slots c.args.node c.index.result.now.dstates [] (λ x. omega arith))

pub returns-clause-each : goal.returns-clause-each
returns-clause-each c =
    let inside = c.self.inside in
    target_is inside.nodes inside.dstates.slots inside.states.slots inside.rows.items inside.packets.items c.args.self.now c.args.s.0 c.index.result.now c.args.node (map (λ (x : StateNo). x.0) c.in_ok-out.out.items) c.self.invariant
    (ap (λ (g : GraphView). g.dstates) c.self.view_is) (ap (λ (g : GraphView). g.states) c.self.view_is) c.index.ensures (found c)
