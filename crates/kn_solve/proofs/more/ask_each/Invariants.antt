-- What is known of the condition with the literals so far.
use Rattle.std.proofs.Common.{◌≡◌, ◌++◌, take}
use Rattle.kn_cond.specs.Conditions.{that, StandsFor}
use Rattle.kn_cond.specs.Meanings.{condition_of}
use Rattle.kn_solve.proofs.more.ask_each.Given as goal

abbrev pub invariant-loop-literal : goal.invariant-loop-literal
invariant-loop-literal g l = record {
  all : l.all ≡ l.c ++ take l.literal-index l.literal-items;
  known : StandsFor l.budget (that (condition_of l.terms l.all)) l.standing;
}
