use Rattle.kn_dstate.proofs.Choices.{none_empty}
use Rattle.kn_dstate.proofs.graph.Graph.pick_count.Goals as goal

pub pick_count-requires : goal.pick_count-requires
pick_count-requires c =
    let is = c.self.invariant.places c.args.d.0 c.index.result.now c.index.ensures in
    none_empty c.index.result.now.columns (λ n col there. (is.columns n col there).some)
