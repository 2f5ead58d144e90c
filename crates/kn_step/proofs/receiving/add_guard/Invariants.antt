-- With the literals so far both conditions say what they said with the guard's literals so far.
use Rattle.std.proofs.Common.{◌++◌, take}
use Rattle.kn_built.specs.Built.{Extends}
use Rattle.kn_cond.specs.Meanings.{condition_of, StandIn}
use Rattle.kn_model.specs.Alikes.{ConditionAlike}
use Rattle.kn_step.proofs.receiving.add_guard.Given as goal

abbrev pub invariant-loop-literal : goal.invariant-loop-literal
invariant-loop-literal l = record {
  alike : ConditionAlike (condition_of l.terms l.c ++ condition_of l.terms l.more) ((condition_of l.initial.terms l.c ++ condition_of l.initial.terms l.initial.more) ++ condition_of l.packet.terms (take l.literal-index l.packet.guard));
  known : StandIn l.terms l.c;
  stands : StandIn l.terms l.more;
  grows : Extends l.initial.terms l.terms;
}
