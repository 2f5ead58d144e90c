-- The literals so far are taken in.
use Rattle.std.proofs.Common.{◌≡◌, ◌<◌, drop, length}
use Rattle.kn_built.specs.Built.{Extends}
use Rattle.kn_term.specs.Nodes.{term_at}
use Rattle.kn_cond.specs.Meanings.{condition_of}
use Rattle.kn_solve.specs.Wholes.{with_condition}
use Rattle.kn_solve.proofs.whole.with_condition.Given as goal

abbrev pub invariant-loop-literal : goal.invariant-loop-literal
invariant-loop-literal l = record {
  term : with_condition (condition_of l.fn.terms (drop l.literal-index l.literals)) (term_at l.terms l.whole.index) ≡ with_condition (condition_of l.fn.terms l.literals) (term_at l.fn.terms l.fn.then.index);
  stands : l.whole.index < length l.terms;
  grows : Extends l.fn.terms l.terms;
}
