-- One more mark.
use Rattle.std.proofs.Common.{◌∙◌, sym, subst, rules}
use Rattle.kn_term.specs.Nodes.{terms_of}
use Rattle.kn_solve.specs.Parts.{AreMarked}
use Rattle.kn_solve.proofs.Sharing.{marked_more}
use Rattle.kn_solve.proofs.dividing.marks_of.Goals as goal

pub loop-place-preserved : goal.loop-place-preserved
loop-place-preserved c =
    let ns = c.args.terms.now in
    let own = c.mark_of-mark.ensures (terms_of ns) (subst (AreMarked (terms_of ns) c.args.inputs.now) (sym c.as_slice.ensures.value) c.loop-place.invariant.marked) in
    record {
      marked = marked_more ns c.args.inputs.now _ _ c.mark_of-mark.result c.loop-place.place _ c.in_ok-push.ensures.items (sym c.loop-place.marks.ok.0 ∙ c.loop-place.invariant.count) c.node-node.ensures.term c.loop-place.invariant.marked own;
      count = search rules;
    }
