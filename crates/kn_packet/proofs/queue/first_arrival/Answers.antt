-- Neither does the next one.
use Rattle.std.proofs.Common.{◌≡◌, ◌<◌, arith, ap}
use Rattle.kn_packet.specs.Packets.{PacketView, arrives_at}
use Rattle.kn_packet.proofs.Quiet.{find_more, other_tick}
use Rattle.kn_packet.proofs.queue.first_arrival.Goals as goal

pub loop-packet-preserved : goal.loop-packet-preserved
loop-packet-preserved c = λ tick less.
    let x = c.packet-item.result in
    let is : c.packet.inside.arrival ≡ x.arrival = ap (λ (p : PacketView). p.arrival) c.packet.view_is in
    let so_far : tick < c.loop-packet.first = omega (arith, less, c.min-first.ensures) in
    let later : tick < x.arrival = omega (arith, less, c.min-first.ensures, is) in
    find_more (arrives_at tick) c.args.packets.now c.loop-packet.packet-index x x c.loop-packet-test.true c.packet-item.is (c.loop-packet.invariant tick so_far) (other_tick x.arrival tick later)
