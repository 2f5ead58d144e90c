-- One state more, and none.
use Rattle.std.proofs.Common.{rules, ◌≡◌, List, length, subst, sym}
use Rattle.kn_model.specs.Reports.{StateLine}
use Rattle.kn_report.specs.Sections.{IsState}
use Rattle.kn_report.specs.Texts.{state_text}
use Rattle.kn_report.proofs.Gathering.{SoFar, one_more, all_read, few_more, item_at, none_at}
use Rattle.kn_report.proofs.section.read_states.Goals as goal

pub loop-states-preserved : goal.loop-states-preserved
loop-states-preserved c =
    let states = c.loop-states.states.items in
    let count : c.len.result ≡ length c.loop-states.states.items = search rules in
    let item = rw c.in-Some.is at c.in_ok-state.ensures.item in
    let few = rw c.in-Some.is at c.in_ok-state.ensures.few in
    record {
      read = subst (λ (xs : List StateLine). SoFar state_text IsState c.args.text.now xs c.in-Some.after.now) (sym c.in_ok-push.ensures.items)
          (one_more state_text IsState c.args.text.now states c.loop-states.rest.now c.in-Some.state c.in-Some.after.now (item_at state_text IsState c.len.result (length c.loop-states.states.items) c.loop-states.rest.now c.in-Some.state c.in-Some.after.now count item) c.loop-states.invariant.read);
      few = few_more states c.in-Some.state _ _ _ _ c.in_ok-push.ensures.items few c.loop-states.invariant.few;
    }

pub returns-clause-read : goal.returns-clause-read
returns-clause-read c =
    let count : c.len.result ≡ length c.loop-states.states.items = search rules in
    all_read state_text IsState c.args.text.now c.loop-states.states.items c.loop-states.rest.now c.loop-states.invariant.read
    (none_at state_text IsState c.len.result (length c.loop-states.states.items) c.loop-states.rest.now count (rw c.in_default.is at c.in_ok-state.ensures.item))
