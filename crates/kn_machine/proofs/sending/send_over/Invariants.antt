-- The sends so far.
use Rattle.kn_machine.proofs.Sends.{SentSoFar}
use Rattle.kn_machine.proofs.sending.send_over.Given as goal

abbrev pub invariant-loop-link : goal.invariant-loop-link
invariant-loop-link l = SentSoFar l.spot l.b l.n l.links l.link-index l.fn.way l.way
