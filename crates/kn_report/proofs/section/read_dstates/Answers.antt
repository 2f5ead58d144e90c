-- One dstate more, and none.
use Rattle.std.proofs.Common.{rules, ◌≡◌, List, ℕ, length, subst, sym}
use Rattle.kn_report.specs.Sections.{IsDstate}
use Rattle.kn_report.specs.Texts.{dstate_text}
use Rattle.kn_report.proofs.Gathering.{SoFar, one_more, all_read, few_more, item_at, none_at}
use Rattle.kn_report.proofs.section.read_dstates.Goals as goal

pub loop-dstates-preserved : goal.loop-dstates-preserved
loop-dstates-preserved c =
    let dstates = c.loop-dstates.dstates.items in
    let count : c.len.result ≡ length c.loop-dstates.dstates.items = search rules in
    let item = rw c.in-Some.is at c.in_ok-columns.ensures.item in
    let few = rw c.in-Some.is at c.in_ok-columns.ensures.few in
    record {
      read = subst (λ (xs : List (List (List ℕ))). SoFar dstate_text (IsDstate c.args.states c.args.nodes) c.args.text.now xs c.in-Some.after.now) (sym c.in_ok-push.ensures.items)
          (one_more dstate_text (IsDstate c.args.states c.args.nodes) c.args.text.now dstates c.loop-dstates.rest.now c.in-Some.columns c.in-Some.after.now (item_at dstate_text (IsDstate c.args.states c.args.nodes) c.len.result (length c.loop-dstates.dstates.items) c.loop-dstates.rest.now c.in-Some.columns c.in-Some.after.now count item) c.loop-dstates.invariant.read);
      few = few_more dstates c.in-Some.columns _ _ _ _ c.in_ok-push.ensures.items few c.loop-dstates.invariant.few;
    }

pub returns-clause-read : goal.returns-clause-read
returns-clause-read c =
    let count : c.len.result ≡ length c.loop-dstates.dstates.items = search rules in
    all_read dstate_text (IsDstate c.args.states c.args.nodes) c.args.text.now c.loop-dstates.dstates.items c.loop-dstates.rest.now c.loop-dstates.invariant.read
    (none_at dstate_text (IsDstate c.args.states c.args.nodes) c.len.result (length c.loop-dstates.dstates.items) c.loop-dstates.rest.now count (rw c.in_default.is at c.in_ok-columns.ensures.item))
