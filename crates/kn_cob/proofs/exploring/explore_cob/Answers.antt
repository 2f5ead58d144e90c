use Rattle.std.proofs.Common.{◌≡◌, ℕ, List, length, map, sym, subst, ◌∙◌, ap, arith}
use Rattle.std.proofs.lemmas.List.{length-map}
use Rattle.kn_node.specs.Views.{ConfigView}
use Rattle.kn_model.specs.Reports.{ends}
use Rattle.kn_cob.specs.Closing.{configs_in}
use Rattle.kn_cob.specs.Orders.{AreLong}
use Rattle.kn_cob.specs.Runs.{EndsGiven}
use Rattle.kn_cob.proofs.Ordered.{given_long, scenarios_are}
use Rattle.kn_cob.proofs.Turning.{ends_given}
use Rattle.kn_cob.proofs.exploring.explore_cob.Goals as goal

pub returns-clause-scenarios : goal.returns-clause-scenarios
returns-clause-scenarios g c =
    let net = c.args.net.now.network in
    let good = c.comes_later.ensures in
    let copies = c.in_ok-copies.copies.items in
    let listed : c.in_ok-scenarios.scenarios.items ≡ map configs_in copies = c.in_ok-scenarios.ensures ∙ ap (map configs_in) c.deref.ensures.value in
    let given = subst (λ (l : List (List ConfigView)). EndsGiven net l (ends net)) (sym listed) (ends_given net net.limits.ticks copies (ends net) c.in_ok-copies.ensures.shut c.in_ok-copies.ensures.given) in
    let long = subst (λ (n : ℕ). AreLong n c.in_ok-scenarios.scenarios.items) (sym c.node_count.ensures.count) (given_long net good c.in_ok-scenarios.scenarios.items given) in
    let same = ap length listed in
    let few = c.in_ok-copies.ensures.few in
    let count = length-map copies configs_in in
    scenarios_are net good c.in_ok-scenarios.scenarios.items given (omega (arith, same, few, count)) c.sort_by_name.new.list.items c.sort_by_name.ensures.same (c.sort_by_name.ensures.sorted long)
