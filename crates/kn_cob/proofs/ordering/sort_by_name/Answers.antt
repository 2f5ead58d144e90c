use Rattle.std.proofs.Common.{rules, take, List}
use Rattle.kn_node.specs.Views.{ConfigView}
use Rattle.kn_cob.specs.Runs.{name_in}
use Rattle.kn_cob.proofs.Sorting.{sorted_by_answers, all_moved}
use Rattle.kn_cob.proofs.Ordered.{names_total, sorted_whole}
use Rattle.kn_cob.proofs.ordering.sort_by_name.Goals as goal

pub returns-clause-sorted : goal.returns-clause-sorted
returns-clause-sorted c long =
    let answered = sorted_by_answers names_total (λ (cs : List ConfigView). take c.args.nodes (name_in cs)) _ c.sort_unstable_by.ensures.sorted (λ a r f' k. search rules) in
    sorted_whole c.args.nodes _ (all_moved _ _ _ c.sort_unstable_by.ensures.permutation long) answered
