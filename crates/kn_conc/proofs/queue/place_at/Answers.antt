-- The first packet that arrives at the tick is here.
use Rattle.std.proofs.Common.{◌∙◌, sym, refl, length}
use Rattle.std.proofs.lemmas.Option.{slice_get_read}
use Rattle.kn_built.proofs.Places.{first_here}
use Rattle.kn_model.specs.Due.{comes_at}
use Rattle.kn_conc.proofs.queue.place_at.Goals as goal

pub returns-then-arrives_at : goal.returns-then-arrives_at
returns-then-arrives_at c =
    let x = c.index-queue-place.result in
    let there = slice_get_read c.args.queue.now (length c.args.queue.now) c.loop-place.place x refl c.loop-place-test.true c.index-queue-place.is in
    let h = first_here (comes_at c.args.tick) c.args.queue.now c.loop-place.place x x c.loop-place-test.true c.index-queue-place.is c.loop-place.invariant (sym c.arrives_at.ensures ∙ c.if-arrives_at.true) in
    (c.loop-place-test.true, (there ∙ sym h.0, h.1))
