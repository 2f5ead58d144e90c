-- The next number, or what stands behind the numbers.
use Rattle.std.proofs.Common.{◌≡◌, ◌∷◌, ◌++◌, [], List, ℕ, true, false, ap, sym, subst, ◌∙◌}
use Rattle.std.specs.Prelude.{codes}
use Rattle.std.proofs.lemmas.Bool.Decides.{Decides-eqb}
use Rattle.std.proofs.lemmas.Slice.Eq.{slice_eq-Decides}
use Rattle.kn_report.proofs.Cut.{some_is, none_is}
use Rattle.kn_report.proofs.Numbers.{LeftNumbers, numbers_none, numbers_end, numbers_next}
use Rattle.kn_report.proofs.line_of.numbers_behind.Goals as goal

pub returns-then-eq : goal.returns-then-eq
returns-then-eq c = λ is more small ends from.
    let w = c.in-Some.ensures in
    let last : c.in-Some.word.now ≡ codes "inputs" = (slice_eq-Decides Decides-eqb c.in-Some.word.now (codes "inputs") c.eq.result (rw c.as_slice.ensures at c.eq.ensures)).0 c.if-eq.true in
    numbers_end c.args.byte c.requires c.args.start.items is more c.loop-word.numbers.items c.loop-word.rest.now (c.loop-word.invariant is more small ends from) ends c.in-Some.word.now c.in-Some.after.now w.0 w.1 w.2 last

pub returns-in_default-usize_of : goal.returns-in_default-usize_of
returns-in_default-usize_of c = λ is more small ends from.
    let w = c.in-Some.ensures in
    let other : c.in-Some.word.now ≡ codes "inputs" → ⊥ = λ e. let wrong : true ≡ false = sym ((slice_eq-Decides Decides-eqb c.in-Some.word.now (codes "inputs") c.eq.result (rw c.as_slice.ensures at c.eq.ensures)).1 e) ∙ c.if-eq.false in cc in
    let next = numbers_next c.args.byte c.requires c.args.start.items is more c.loop-word.numbers.items c.loop-word.rest.now (c.loop-word.invariant is more small ends from) ends c.in-Some.word.now c.in-Some.after.now w.0 w.1 w.2 other in
    none_is next.0 (c.in_default-usize_of.ensures next.0 next.1 next.2)

pub loop-word-preserved : goal.loop-word-preserved
loop-word-preserved c = λ is more small ends from.
    let w = c.in-Some.ensures in
    let other : c.in-Some.word.now ≡ codes "inputs" → ⊥ = λ e. let wrong : true ≡ false = sym ((slice_eq-Decides Decides-eqb c.in-Some.word.now (codes "inputs") c.eq.result (rw c.as_slice.ensures at c.eq.ensures)).1 e) ∙ c.if-eq.false in cc in
    let next = numbers_next c.args.byte c.requires c.args.start.items is more c.loop-word.numbers.items c.loop-word.rest.now (c.loop-word.invariant is more small ends from) ends c.in-Some.word.now c.in-Some.after.now w.0 w.1 w.2 other in
    let same : c.in-Some-usize_of.number ≡ next.0 = some_is c.in-Some-usize_of.number next.0 (c.in-Some-usize_of.ensures next.0 next.1 next.2) in
    subst (λ (done : List ℕ). LeftNumbers c.args.byte c.args.start.items is more done c.in-Some.after.now) (ap (λ (i : ℕ). c.loop-word.numbers.items ++ i ∷ []) (sym same) ∙ sym c.in_ok-push.ensures.items) next.3

pub returns : goal.returns
returns c = λ is more small ends from. numbers_none c.args.byte c.requires c.args.start.items is more c.loop-word.numbers.items c.loop-word.rest.now (c.loop-word.invariant is more small ends from) ends c.in_default.ensures
