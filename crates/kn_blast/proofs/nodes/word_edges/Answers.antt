-- One bit more.
use Rattle.std.proofs.Common.{◌∙◌, ◌+◌, ◌%◌, ◌^◌, ap, refl}
use Rattle.kn_blast.specs.Spelling.{weight}
use Rattle.kn_blast.proofs.Growing.{grows_same}
use Rattle.kn_blast.proofs.Numbers.{spells_push, spells_items}
use Rattle.kn_blast.proofs.Arithmetic.{constant_more}
use Rattle.kn_blast.proofs.nodes.word_edges.Goals as goal

pub loop-place-preserved : goal.loop-place-preserved
loop-place-preserved c =
    spells_items _ _ _ _ _ c.in_ok-push.ensures.items (spells_push c.args.aig.now c.args.aig.now c.loop-place.edges.items c.constant-edge.result c.loop-place.place _ _ (grows_same _) c.loop-place.invariant c.constant-edge.ensures.stands
    (λ bits. ap (λ b. c.args.word % 2 ^ c.loop-place.place + weight b c.loop-place.place) (c.constant-edge.ensures.value bits) ∙ constant_more c.args.word c.loop-place.place _ refl))
