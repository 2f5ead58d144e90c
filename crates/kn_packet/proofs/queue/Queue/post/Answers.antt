-- The queue stays in order.
use Rattle.kn_packet.proofs.Ordered.{IsQueue-put}
use Rattle.kn_packet.proofs.queue.Queue.post.Goals as goal

pub invariant_of-self : goal.invariant_of-self
invariant_of-self c = IsQueue-put _ _ _ _ c.put.ensures.ok c.put.ensures.err c.self.invariant
