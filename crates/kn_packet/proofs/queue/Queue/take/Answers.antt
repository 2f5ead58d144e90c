-- What is taken is the first packet of the tick, and the rest stays in order.
use Rattle.std.proofs.Common.{◌≡◌, ◌∙◌, sym, subst, refl}
use Rattle.std.specs.Prelude.{remove, slice_get, length, ◌<◌}
use Rattle.std.proofs.lemmas.Option.{slice_get_read}
use Rattle.kn_packet.specs.Packets.{first_at, without_first_at, IsQueue}
use Rattle.kn_packet.proofs.Ordered.{IsQueue-without_first_at}
use Rattle.kn_packet.proofs.queue.Queue.take.Goals as goal

pub invariant_of-self : goal.invariant_of-self
invariant_of-self c =
    let is : remove c.self.inside.packets.items c.in_ok-place.place ≡ without_first_at c.args.tick c.self.inside.packets.items = rw c.deref.ensures.value at c.in_ok-place.ensures.1.1 in
    subst IsQueue (sym (c.remove.ensures.items ∙ is)) (IsQueue-without_first_at c.args.tick c.self.inside.packets.items c.self.invariant)

pub returns-clause-packet : goal.returns-clause-packet
returns-clause-packet c =
    let within : c.in_ok-place.place < length c.self.inside.packets.items = rw c.deref.ensures.value at c.in_ok-place.ensures.0 in
    let is : slice_get c.self.inside.packets.items c.in_ok-place.place ≡ first_at c.args.tick c.self.inside.packets.items = rw c.deref.ensures.value at c.in_ok-place.ensures.1.0 in
    rw (← c.self.view_is) (sym (slice_get_read c.self.inside.packets.items (length c.self.inside.packets.items) c.in_ok-place.place c.remove.result refl within c.remove.ensures.value) ∙ is)
