-- The next column, or the end.
use Rattle.std.proofs.Common.{◌∷◌, List, ℕ, ap, sym, subst}
use Rattle.std.specs.Prelude.{Some, Vec}
use Rattle.std.specs.declared.alloc.Global.{Global}
use Rattle.kn_report.specs.Words.{Reads}
use Rattle.kn_report.proofs.Numbers.{LeftColumns, columns_none, columns_next}
use Rattle.kn_report.proofs.line_of.columns_of.Goals as goal

pub returns-in_default-2 : goal.returns-in_default-2
returns-in_default-2 c = λ cs fits some is.
    let w = c.in-Some.ensures in
    let next = columns_next cs c.loop-word.lists.items c.loop-word.rest.now (c.loop-word.invariant cs fits some is) c.in-Some.word.now c.in-Some.after.now w.0 w.1 w.2 in
    absurd (subst (Reads (λ (v : Vec ℕ Global). v.items) (next.0 ∷ next.1)) c.in_default-2.is (c.in_ok-column.ensures next.0 next.1 next.2 next.3))

pub loop-word-preserved : goal.loop-word-preserved
loop-word-preserved c = λ cs fits some is.
    let w = c.in-Some.ensures in
    let next = columns_next cs c.loop-word.lists.items c.loop-word.rest.now (c.loop-word.invariant cs fits some is) c.in-Some.word.now c.in-Some.after.now w.0 w.1 w.2 in
    let same = subst (Reads (λ (v : Vec ℕ Global). v.items) (next.0 ∷ next.1)) c.in-Some-2.is (c.in_ok-column.ensures next.0 next.1 next.2 next.3) in
    subst (λ (done : List (Vec ℕ Global)). LeftColumns cs done c.in-Some.after.now) (sym c.in_ok-push.ensures.items) (next.4 c.in-Some-2.column same)

pub returns : goal.returns
returns c = λ cs fits some is. ap Some (columns_none cs c.loop-word.lists.items c.loop-word.rest.now (c.loop-word.invariant cs fits some is) c.in_default.ensures)
