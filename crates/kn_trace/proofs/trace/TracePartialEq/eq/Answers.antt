-- Two traces are equal where their bits are.
use Rattle.std.proofs.lemmas.Slice.Eq.{slice_eq-Decides}
use Rattle.std.specs.Cmp.{booleans_Decides}
use Rattle.kn_trace.proofs.trace.TracePartialEq.eq.Goals as goal

pub returns-clause-same : goal.returns-clause-same
returns-clause-same c =
    let d = slice_eq-Decides booleans_Decides _ _ _ c.eq.ensures in
    rw (← c.self.view_is, ← c.other.view_is) (d.0, d.1)
