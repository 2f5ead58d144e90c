-- Line after line.
use Rattle.std.proofs.Common.{arith, rules}
use Rattle.indexmap.specs.IndexMap.{get_by_text}
use Rattle.kn_asm.proofs.Faults.{AtLine, place_nothing, known_more, here_more, left_more, line_refused, line_passed}
use Rattle.kn_asm.proofs.assembling.first_fault.Goals as goal

pub loop-index-init : goal.loop-index-init
loop-index-init c = record {
  fault = search rules;
  known = λ q. rw (place_nothing q) (search rules);
  few = omega arith;
  here = search rules;
  left = omega (arith, c.count_instrs-total.ensures);
}

pub returns-in-Some : goal.returns-in-Some
returns-in-Some c =
    let at : AtLine c.args.lines.now c.loop-index.index c.index-lines-index.result (λ q. get_by_text c.args.labels.now q) (λ q. get_by_text c.loop-index.seen q) c.loop-index.before c.counted-count.result c.count_instrs-total.result = record {
      below = c.loop-index-test.true;
      here = c.index-lines-index.is;
      found = c.requires;
      known = c.loop-index.invariant.known;
      so_far = c.loop-index.invariant.here;
      counted = c.counted-count.ensures.count;
      left = c.loop-index.invariant.left;
    } in
    line_refused _ _ _ _ _ _ _ _ _ _ _ c.in-Some.cause _ at c.is_twice.ensures c.is_lost.ensures c.fault_given-fault.ensures c.in-Some.is c.loop-index.invariant.fault

pub loop-index-preserved : goal.loop-index-preserved
loop-index-preserved c =
    let at : AtLine c.args.lines.now c.loop-index.index c.index-lines-index.result (λ q. get_by_text c.args.labels.now q) (λ q. get_by_text c.loop-index.seen q) c.loop-index.before c.counted-count.result c.count_instrs-total.result = record {
      below = c.loop-index-test.true;
      here = c.index-lines-index.is;
      found = c.requires;
      known = c.loop-index.invariant.known;
      so_far = c.loop-index.invariant.here;
      counted = c.counted-count.ensures.count;
      left = c.loop-index.invariant.left;
    } in
    record {
      fault = line_passed _ _ _ _ _ _ _ _ _ _ _ _ at c.is_twice.ensures c.is_lost.ensures c.fault_given-fault.ensures c.in_default.is c.loop-index.invariant.fault;
      known = λ q. known_more q c.args.lines.now c.loop-index.index c.loop-index.before c.index-lines-index.result _ _ c.loop-index-test.true c.index-lines-index.is c.loop-index.invariant.here (c.loop-index.invariant.known q) (c.in_ok-note_line.ensures q);
      few = omega (arith, c.loop-index.invariant.few, c.counted-count.ensures.most);
      here = here_more c.args.lines.now c.loop-index.index c.loop-index.before c.counted-count.result c.index-lines-index.result c.loop-index-test.true c.index-lines-index.is c.loop-index.invariant.here c.counted-count.ensures.count;
      left = left_more c.args.lines.now c.loop-index.index c.loop-index.before c.counted-count.result _ c.index-lines-index.result c.loop-index-test.true c.index-lines-index.is c.loop-index.invariant.left c.counted-count.ensures.count;
    }
