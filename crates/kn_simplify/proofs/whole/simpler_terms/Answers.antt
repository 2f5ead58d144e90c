-- One more place has its term.
use Rattle.std.proofs.Common.{get_or, subst, arith}
use Rattle.std.proofs.lemmas.List.{take_more, take_all}
use Rattle.std.proofs.lemmas.Option.{slice_get-get_or}
use Rattle.kn_built.proofs.BuiltLaws.{extends-same, extends-twice, length-extends}
use Rattle.kn_simplify.specs.Simpler.{simpler_in}
use Rattle.kn_simplify.specs.Folded.{AreFolded}
use Rattle.kn_simplify.proofs.Folding.{AreFolded-step, at_needed}
use Rattle.kn_simplify.proofs.Simpler.{AreSimpler-none, AreSimpler-step}
use Rattle.kn_simplify.proofs.whole.simpler_terms.Goals as goal

pub loop-place-init : goal.loop-place-init
loop-place-init c = record { table = AreSimpler-none c.args.terms.now c.new-table.result c.new-table.ensures.empty; folded = λ place among. absurd among; grows = extends-same c.args.terms.now }

pub simpler_at-requires-clause-place : goal.simpler_at-requires-clause-place
simpler_at-requires-clause-place c =
    let at_place = slice_get-get_or c.args.needed.now c.loop-place.place-index 0 c.loop-place-test.true in
    let here = (c.requires c.loop-place.place-index _ at_place).0 in
    omega (arith, here, length-extends _ _ c.loop-place.invariant.grows)

pub simpler_at-requires-clause-table : goal.simpler_at-requires-clause-table
simpler_at-requires-clause-table c =
    let at_place = slice_get-get_or c.args.needed.now c.loop-place.place-index 0 c.loop-place-test.true in
    let here = (c.requires c.loop-place.place-index _ at_place).0 in
    λ k less. c.loop-place.invariant.table k (omega (arith, here, less))

pub loop-place-preserved : goal.loop-place-preserved
loop-place-preserved c =
    let first = c.args.terms.now in
    let was = c.loop-place.terms in
    let now = c.simpler_at.new.terms in
    let i = c.loop-place.place-index in
    let place = get_or c.args.needed.now i 0 in
    let at_place = slice_get-get_or c.args.needed.now i 0 c.loop-place-test.true in
    let up = c.in_ok-insert.ensures.updates.0 in
    let one = at_needed first was now (simpler_in c.loop-place.table) c.args.needed.now i place c.in_ok-r.r c.requires at_place c.loop-place.invariant.grows c.loop-place.invariant.folded c.in_ok-r.ensures.folded in
    record {
      table = AreSimpler-step first was now c.loop-place.table c.insert.new.self place c.in_ok-r.r c.loop-place.invariant.table c.loop-place.invariant.grows c.in_ok-r.ensures.grows c.in_ok-r.ensures.simpler up;
      folded = AreFolded-step first was now c.args.needed.now i c.loop-place.table c.insert.new.self place c.in_ok-r.r c.requires c.loop-place.invariant.table c.loop-place.invariant.folded c.in_ok-r.ensures.grows up (take_more c.args.needed.now i 0 c.loop-place-test.true) one;
      grows = extends-twice _ _ _ c.loop-place.invariant.grows c.in_ok-r.ensures.grows;
    }

pub returns-clause-folded : goal.returns-clause-folded
returns-clause-folded c = subst (AreFolded c.loop-place.terms (simpler_in c.loop-place.table)) (take_all c.loop-place.place-index c.args.needed.now c.loop-place-test.false) c.loop-place.invariant.folded
