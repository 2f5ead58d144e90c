-- The alternatives so far are taken in.
use Rattle.std.proofs.Common.{◌≡◌, ◌<◌, drop, length, map}
use Rattle.kn_built.specs.Built.{Extends}
use Rattle.kn_term.specs.Nodes.{term_at}
use Rattle.kn_cond.specs.Meanings.{condition_of}
use Rattle.kn_solve.specs.Wholes.{taken_in, with_alternative, some_alternative}
use Rattle.kn_solve.proofs.whole.some_alternative.Given as goal

abbrev pub invariant-loop-alternative : goal.invariant-loop-alternative
invariant-loop-alternative l = record {
  term : taken_in with_alternative (map (condition_of l.fn.terms) (drop l.alternative-index l.column)) (term_at l.terms l.some.index) ≡ some_alternative (map (condition_of l.fn.terms) l.column);
  stands : l.some.index < length l.terms;
  grows : Extends l.fn.terms l.terms;
}
