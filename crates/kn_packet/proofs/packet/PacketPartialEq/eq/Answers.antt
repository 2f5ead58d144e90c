-- Two packets are equal where their fields are.
use Rattle.std.proofs.Common.{sym, ◌∙◌}
use Rattle.kn_packet.proofs.Equal.{same_contents}
use Rattle.kn_packet.proofs.packet.PacketPartialEq.eq.Goals as goal

pub returns-then-has_same_numbers-clause-same : goal.returns-then-has_same_numbers-clause-same
returns-then-has_same_numbers-clause-same c = same_contents c.args.self.now c.args.other.now c.has_same_contents.result c.has_same_contents.ensures (sym c.has_same_numbers.ensures ∙ c.if-has_same_numbers.true)
