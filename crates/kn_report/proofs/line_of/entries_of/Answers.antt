-- The next entry, or the end.
use Rattle.std.proofs.Common.{ap, sym, subst, ◌∙◌}
use Rattle.std.specs.Prelude.{Some}
use Rattle.kn_term.specs.Terms.{Valuation}
use Rattle.kn_report.proofs.Cut.{none_is}
use Rattle.kn_report.proofs.Entries.{stepped}
use Rattle.kn_report.proofs.Numbers.{LeftInputs, inputs_none, inputs_next}
use Rattle.kn_report.proofs.line_of.entries_of.Goals as goal

pub returns-in_default-given_of : goal.returns-in_default-given_of
returns-in_default-given_of c = λ a fits is.
    let w = c.in-Some.ensures in
    let next = inputs_next a c.loop-word.inputs c.loop-word.rest.now (c.loop-word.invariant a fits is) c.in-Some.word.now c.in-Some.after.now fits.entries w.0 w.1 w.2 in
    none_is _ (sym c.in_default-given_of.is ∙ c.given_of.ensures next.0 next.1 next.2)

pub loop-word-preserved : goal.loop-word-preserved
loop-word-preserved c = λ a fits is.
    let w = c.in-Some.ensures in
    let next = inputs_next a c.loop-word.inputs c.loop-word.rest.now (c.loop-word.invariant a fits is) c.in-Some.word.now c.in-Some.after.now fits.entries w.0 w.1 w.2 in
    subst (λ (done : Valuation). LeftInputs a done c.in-Some.after.now)
    (stepped next.0 _ _ _ c.loop-word.inputs c.set.new.self (sym c.in-Some-given_of.is ∙ c.given_of.ensures next.0 next.1 next.2) next.3 c.in_ok-set.ensures.ok)
    next.4

pub returns : goal.returns
returns c = λ a fits is. ap Some (inputs_none a c.loop-word.inputs c.loop-word.rest.now (c.loop-word.invariant a fits is) c.in_default.ensures)
