-- The literals so far mean those of the other list.
use Rattle.std.proofs.Common.{◌≡◌, take}
use Rattle.kn_built.specs.Built.{Extends}
use Rattle.kn_cond.specs.Meanings.{condition_of, StandIn}
use Rattle.kn_solve.proofs.formula.imported.Given as goal

abbrev pub invariant-loop-literal : goal.invariant-loop-literal
invariant-loop-literal l = record {
  same : condition_of l.own l.literals ≡ condition_of l.terms (take l.literal-index l.literal-items);
  stand : StandIn l.own l.literals;
  grows : Extends l.fn.own l.own;
}
