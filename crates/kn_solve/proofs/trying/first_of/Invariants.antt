-- No inputs before this place make the term anything but 0.
use Rattle.std.proofs.Common.{◌≡◌, map}
use Rattle.kn_term.specs.Nodes.{term_at}
use Rattle.kn_cond.specs.Conditions.{Query}
use Rattle.kn_solve.specs.Asking.{IsOfTerm, read_of}
use Rattle.kn_solve.specs.Orders.{NoneBelow}
use Rattle.kn_solve.proofs.trying.first_of.Given as goal

abbrev pub invariant-loop-number : goal.invariant-loop-number
invariant-loop-number l = (q : Query) → IsOfTerm q (term_at l.terms l.root.index) → q.reads ≡ map read_of l.inputs → NoneBelow q l.number
