-- The queue stays in order.
use Rattle.std.proofs.Common.{sym, subst, ◌∙◌, ap}
use Rattle.kn_built.specs.Putting.{AreSorted}
use Rattle.kn_model.specs.Packets.{packet_le, put_all}
use Rattle.kn_conc.proofs.InOrder.{sorted_all}
use Rattle.kn_conc.proofs.queue.queue_at.Goals as goal

pub invariant_of-node : goal.invariant_of-node
invariant_of-node c =
    let was = c.node.invariant in
    record {
      all_registers = was.all_registers;
      all_words = was.all_words;
      all_timers = was.all_timers;
      few_inputs = was.few_inputs;
      few_sent = was.few_sent;
      in_order = subst (AreSorted packet_le) (sym (c.in_ok-put_copies.ensures ∙ ap (put_all packet_le c.args.packets.now) (c.in_ok-queue.ensures ∙ c.deref.ensures.value))) (sorted_all c.args.packets.now c.node.inside.queue.items was.in_order);
    }
