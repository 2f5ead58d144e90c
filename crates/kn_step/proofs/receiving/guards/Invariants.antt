-- With the literals so far the condition says what it said with the guards so far.
use Rattle.std.proofs.Common.{◌++◌, take}
use Rattle.kn_built.specs.Built.{Extends}
use Rattle.kn_cond.specs.Meanings.{condition_of, StandIn}
use Rattle.kn_model.specs.Alikes.{ConditionAlike}
use Rattle.kn_step.specs.Answers.{guards_of}
use Rattle.kn_step.proofs.receiving.guards.Given as goal

abbrev pub invariant-loop-packet : goal.invariant-loop-packet
invariant-loop-packet l = record {
  alike : ConditionAlike (condition_of l.terms l.c ++ condition_of l.terms l.more) (condition_of l.initial.terms l.c ++ guards_of (take l.packet-index l.inbox));
  known : StandIn l.terms l.c;
  stands : StandIn l.terms l.more;
  grows : Extends l.initial.terms l.terms;
}
