-- The literals so far hold.
use Rattle.std.proofs.Common.{◌≡◌, drop}
use Rattle.kn_cond.specs.Conditions.{holds}
use Rattle.kn_cond.specs.Meanings.{condition_of}
use Rattle.kn_cond.proofs.condition.all_hold.Given as goal

abbrev pub invariant-loop-literal : goal.invariant-loop-literal
invariant-loop-literal l = holds l.a (condition_of l.terms l.literals) ≡ holds l.a (condition_of l.terms (drop l.literal-index l.literals))
