use Rattle.std.proofs.Common.{◌+◌, ◌<◌, ◌≤◌, List, length, sym, subst, arith, rules}
use Rattle.std.proofs.lemmas.Result.{IfOk-weaker}
use Rattle.kn_term.specs.declared.node.Node.{Node}
use Rattle.kn_term.specs.Nodes.{term_at}
use Rattle.kn_machine.specs.Ways.{way_of, IsGrown}
use Rattle.kn_machine.proofs.Stepping.{grown_self, still_self, changed_of, changed_through, grown_through, grown_stands}
use Rattle.kn_machine.proofs.Elements.{words_fit, written_end, put_more}
use Rattle.kn_machine.proofs.memory.+put.Goals as goal

pub returns-then-place-n-clause-way : goal.returns-then-place-n-clause-way
returns-then-place-n-clause-way t c =
    let v = c.args.way.now in
    written_end (way_of v) c.args.m c.args.n c.args.place (term_at v.terms c.args.index.index) (term_at v.terms c.args.value.index) c.if-place-n.true

pub returns-then-place-n-clause-changed : goal.returns-then-place-n-clause-changed
returns-then-place-n-clause-changed t c =
    let v = c.args.way.now in
    changed_of v v v (grown_self v) (still_self v)

pub choose-requires-clause-x : goal.choose-requires-clause-x
choose-requires-clause-x t c = grown_stands c.args.way.now c.is_at.new.way c.args.value.index c.in_ok-same.ensures.grown c.requires.value

pub put-requires : goal.put-requires
put-requires t c =
    let v = c.args.way.now in
    let s = c.choose.new.self in
    let grown : IsGrown v s = grown_through v c.is_at.new.way s c.in_ok-same.ensures.grown c.in_ok-chosen.ensures.grows in (
      search rules,
      (
        subst (λ (ns : List Node). c.args.index.index < length ns) (sym c.set_word.ensures.still.terms) (grown_stands v s c.args.index.index grown c.requires.index),
        (
          subst (λ (ns : List Node). c.args.value.index < length ns) (sym c.set_word.ensures.still.terms) (grown_stands v s c.args.value.index grown c.requires.value),
          (c.requires.span, search rules),
        ),
      ),
    )

pub returns-clause-way : goal.returns-clause-way
returns-clause-way t c =
    let v = c.args.way.now in
    let fits : c.args.m + c.args.n ≤ length (way_of v).state.memory = words_fit _ v c.args.m c.args.n c.way.view_is c.sizes.ensures.all_words c.requires.span.within in
    let inside : c.args.place < c.args.n = omega (arith, c.requires.place, c.if-place-n.false) in
    IfOk-weaker c.put.result _ _ (λ r h. put_more v c.is_at.new.way c.choose.new.self c.set_word.new.self (way_of c.put.new.way) c.args.m c.args.n c.args.place c.args.index.index c.args.value.index c.in_ok-same.same.index c.word-word.result.index c.in_ok-chosen.chosen.index
    fits inside c.requires.index c.requires.value c.in_ok-same.ensures.grown c.in_ok-same.ensures.term c.word-word.ensures.term c.in_ok-chosen.ensures.grows c.in_ok-chosen.ensures.term c.set_word.ensures.way c.set_word.ensures.still h) c.put.ensures.way

pub returns-clause-changed : goal.returns-clause-changed
returns-clause-changed t c =
    let v = c.args.way.now in
    let s = c.choose.new.self in
    let u = c.set_word.new.self in
    IfOk-weaker c.put.result _ _ (λ r h. changed_through v u c.put.new.way (changed_of v s u (grown_through v c.is_at.new.way s c.in_ok-same.ensures.grown c.in_ok-chosen.ensures.grows) c.set_word.ensures.still) h) c.put.ensures.changed
