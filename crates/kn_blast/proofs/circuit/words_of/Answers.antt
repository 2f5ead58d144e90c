-- One more place.
use Rattle.std.proofs.Common.{take, get_or, subst}
use Rattle.std.specs.Prelude.{nat_eq}
use Rattle.std.specs.HashMap.{get}
use Rattle.std.proofs.lemmas.List.{take_more, take_all}
use Rattle.std.proofs.lemmas.Option.{slice_get-get_or}
use Rattle.kn_term.proofs.Reaching.{among_at}
use Rattle.kn_blast.specs.Tables.{AreWordsOf}
use Rattle.kn_blast.proofs.Growing.{grows_same, grows_twice}
use Rattle.kn_blast.proofs.Tabling.{no_words, open_longer, words_more, values_more}
use Rattle.kn_blast.proofs.circuit.words_of.Goals as goal

pub loop-place-init : goal.loop-place-init
loop-place-init c = record { words = no_words c.args.aig.now c.new-table.result c.new-table.ensures.empty; values = λ place among. absurd among; grows = grows_same c.args.aig.now }

pub word_for-requires-clause-place : goal.word_for-requires-clause-place
word_for-requires-clause-place c = (c.requires.order c.loop-place.place-index _ (slice_get-get_or c.args.needed.now c.loop-place.place-index 0 c.loop-place-test.true)).0

pub word_for-requires-clause-operands : goal.word_for-requires-clause-operands
word_for-requires-clause-operands c = λ n is k op.
    c.loop-place.invariant.values k ((c.requires.order c.loop-place.place-index _ (slice_get-get_or c.args.needed.now c.loop-place.place-index 0 c.loop-place-test.true)).1 n is k op)

pub word_for-requires-clause-open : goal.word_for-requires-clause-open
word_for-requires-clause-open c = open_longer c.args.aig.now c.loop-place.aig c.args.inputs.now c.loop-place.invariant.grows c.requires.open

pub word_for-requires-clause-covers : goal.word_for-requires-clause-covers
word_for-requires-clause-covers c = c.requires.covers _ (among_at c.args.needed.now c.loop-place.place-index _ (slice_get-get_or c.args.needed.now c.loop-place.place-index 0 c.loop-place-test.true))

pub loop-place-preserved : goal.loop-place-preserved
loop-place-preserved c =
    let old = c.loop-place.aig in
    let new = c.word_for.new.aig in
    let i = c.loop-place.place-index in
    let needed = c.args.needed.now in
    let place = get_or needed i 0 in
    let w = c.in_ok-word.word in
    let up = c.in_ok-insert.ensures.updates.0 in
    record {
      words = words_more old new (get nat_eq c.loop-place.table) (get nat_eq c.insert.new.self) place w up c.in_ok-word.ensures.grows c.loop-place.invariant.words c.in_ok-word.ensures.stand c.in_ok-word.ensures.many;
      values = values_more old new c.args.inputs.now c.args.terms.now (get nat_eq c.loop-place.table) (get nat_eq c.insert.new.self) (take i needed) _ place w up (take_more needed i 0 c.loop-place-test.true) c.in_ok-word.ensures.grows c.loop-place.invariant.values c.in_ok-word.ensures.value;
      grows = grows_twice _ _ _ c.loop-place.invariant.grows c.in_ok-word.ensures.grows;
    }

pub returns-clause-values : goal.returns-clause-values
returns-clause-values c = subst (AreWordsOf c.loop-place.aig c.args.inputs.now c.args.terms.now (get nat_eq c.loop-place.table)) (take_all c.loop-place.place-index c.args.needed.now c.loop-place-test.false) c.loop-place.invariant.values
