-- The next hint, or the end.
use Rattle.std.proofs.Common.{◌≡◌, ◌∷◌, ◌++◌, [], List, ℕ, ap, sym, subst, ◌∙◌}
use Rattle.kn_unsat.proofs.Spelled.{LeftHints, hints_none, hints_next, some_is, none_is}
use Rattle.kn_unsat.proofs.reading.read_hints.Goals as goal

pub returns-in_default-hint_of : goal.returns-in_default-hint_of
returns-in_default-hint_of c = λ hs small is.
    let w = c.in-Some.ensures.word in
    let next = hints_next hs c.loop-word.hints.items c.loop-word.rest.now c.in-Some.word.now c.in-Some.after.now (c.loop-word.invariant hs small is) w.0 w.1 w.2 in
    none_is next.0 (c.in_default-hint_of.ensures next.0 next.1 next.2)

pub loop-word-preserved : goal.loop-word-preserved
loop-word-preserved c = λ hs small is.
    let w = c.in-Some.ensures.word in
    let next = hints_next hs c.loop-word.hints.items c.loop-word.rest.now c.in-Some.word.now c.in-Some.after.now (c.loop-word.invariant hs small is) w.0 w.1 w.2 in
    let same : c.in-Some-hint_of.hint ≡ next.0 = some_is c.in-Some-hint_of.hint next.0 (c.in-Some-hint_of.ensures next.0 next.1 next.2) in
    subst (λ (done : List ℕ). LeftHints hs done c.in-Some.after.now) (ap (λ (h : ℕ). c.loop-word.hints.items ++ h ∷ []) (sym same) ∙ sym c.in_ok-push.ensures.items) next.3

pub returns : goal.returns
returns c = λ hs small is. hints_none hs c.loop-word.hints.items c.loop-word.rest.now [] [] (c.loop-word.invariant hs small is) c.in_default.ensures.word
