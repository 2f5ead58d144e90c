-- What is taken is the first packet of the tick.
use Rattle.std.proofs.Common.{◌≡◌, ◌<◌, refl, sym, ◌∙◌, length}
use Rattle.std.specs.Prelude.{slice_get}
use Rattle.std.proofs.lemmas.Option.{slice_get_read}
use Rattle.kn_model.specs.Packets.{first_at}
use Rattle.kn_conc.proofs.queue.take.Goals as goal

pub returns-clause-packet : goal.returns-clause-packet
returns-clause-packet c =
    let ps = c.args.queue.now.items in
    let within : c.in_ok-place.place < length ps = rw c.deref.ensures.value at c.in_ok-place.ensures.0 in
    let is : slice_get ps c.in_ok-place.place ≡ first_at c.args.tick ps = rw c.deref.ensures.value at c.in_ok-place.ensures.1.0 in
    sym (slice_get_read ps (length ps) c.in_ok-place.place c.remove.result refl within c.remove.ensures.value) ∙ is
