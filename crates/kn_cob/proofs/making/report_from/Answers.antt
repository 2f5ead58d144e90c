-- One scenario more, and what is made of all.
use Rattle.std.proofs.Common.{◌≡◌, ◌++◌, ◌∷◌, [], ap, subst, refl, ◌∙◌, length, List, ℕ}
use Rattle.std.proofs.lemmas.Option.{slice_get_read}
use Rattle.kn_node.specs.Views.{ConfigView}
use Rattle.kn_plan.specs.Files.{File}
use Rattle.kn_model.specs.Reports.{singles}
use Rattle.kn_cob.specs.Reports.{AreFailuresOf}
use Rattle.kn_cob.proofs.Numbered.{all_at}
use Rattle.kn_cob.proofs.Reporting.{listed_more, report_made}
use Rattle.kn_cob.proofs.Formed.{is_report}
use Rattle.kn_cob.proofs.making.report_from.Goals as goal

pub loop-dstate-preserved : goal.loop-dstate-preserved
loop-dstate-preserved c =
    let net = c.args.net.now.network in
    let nodes = length net.nodes in
    let list = c.args.scenarios.now in
    let d = c.loop-dstate.dstate in
    let scenario = c.index-scenarios-dstate.result in
    let at = slice_get_read list (length list) d scenario refl c.loop-dstate-test.true c.index-scenarios-dstate.is in
    let long : length scenario ≡ nodes = all_at (λ (cs : List ConfigView). length cs ≡ nodes) list d scenario c.requires at in
    let first : c.len-first.result ≡ length c.loop-dstate.states.items = c.len-first.ensures ∙ c.loop-dstate.states.ok.0 in
    let lines = c.in_ok-put_failures.ensures in
    listed_more net list d scenario c.loop-dstate.states.items c.put_lines.new.lines.items c.loop-dstate.dstates.items c.push.new.self.items c.loop-dstate.failures.items c.put_failures.new.failures.items lines.0
    c.loop-dstate.invariant at long c.in_ok-put_lines.ensures
    (c.in_ok-push.ensures.items ∙ ap (λ (columns : List (List ℕ)). c.loop-dstate.dstates.items ++ (columns ∷ []))
    (c.in_ok-columns_from.ensures ∙ (ap (λ (n : ℕ). singles n c.len-first.result) c.node_count-nodes.ensures.count ∙ ap (singles nodes) first)))
    lines.1 (subst (λ (i : ℕ). AreFailuresOf net.limits.conflicts d i scenario lines.0) first lines.2)

pub invariant_of-result : goal.invariant_of-result
invariant_of-result c =
    let net = c.args.net.now.network in
    is_report net c.args.scenarios.now _ c.requires
    (report_made net c.args.scenarios.now c.loop-dstate.dstate c.loop-dstate.states.items c.loop-dstate.dstates.items c.loop-dstate.failures.items c.net.inside.limits.ticks c.node_count-nodes.result
    c.loop-dstate.invariant c.loop-dstate-test.false (ap (λ (f : File). f.network.limits.ticks) c.net.view_is) c.node_count-nodes.ensures.count)
