-- Two conditions are equal where their literals are.
use Rattle.std.proofs.lemmas.Slice.Eq.{slice_eq-Decides}
use Rattle.kn_term.proofs.Equal.{literal_decides}
use Rattle.kn_cond.proofs.condition.CondPartialEq.eq.Goals as goal

pub returns-clause-same : goal.returns-clause-same
returns-clause-same c =
    let d = slice_eq-Decides literal_decides _ _ _ c.eq.ensures in
    rw (← c.self.view_is, ← c.other.view_is) (d.0, d.1)
