-- The queue stays in order.
use Rattle.std.proofs.Common.{sym, subst}
use Rattle.kn_built.specs.Putting.{AreSorted}
use Rattle.kn_model.specs.Packets.{packet_le}
use Rattle.kn_conc.proofs.InOrder.{sorted_put}
use Rattle.kn_conc.proofs.node.ConcNode.queue_copy.Goals as goal

pub invariant_of-self-2 : goal.invariant_of-self-2
invariant_of-self-2 c =
    let was = c.self.invariant in
    record {
      all_registers = was.all_registers;
      all_words = was.all_words;
      all_timers = was.all_timers;
      few_inputs = was.few_inputs;
      few_sent = was.few_sent;
      in_order = subst (AreSorted packet_le) (sym c.in_ok-put.ensures.ok) (sorted_put c.args.copy c.self.inside.queue.items was.in_order);
    }
