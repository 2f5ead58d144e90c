-- What is taken, and what comes of the others.
use Rattle.std.proofs.Common.{◌≡◌, ◌++◌, drop}
use Rattle.std.specs.Prelude.{filter, nat_eq}
use Rattle.kn_replay.proofs.turn.mail_for.Given as goal

abbrev pub invariant-loop-packet : goal.invariant-loop-packet
invariant-loop-packet l = l.mail.items ++ filter (λ p. nat_eq p.to l.node) (drop l.packet-index l.sends) ≡ filter (λ p. nat_eq p.to l.node) l.sends
