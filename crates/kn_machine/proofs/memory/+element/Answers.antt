use Rattle.std.proofs.Common.{◌+◌, ◌<◌, ◌≤◌, length, sym, subst, arith}
use Rattle.std.specs.Prelude.{IfOk}
use Rattle.std.proofs.lemmas.Result.{IfOk-weaker}
use Rattle.kn_term.specs.Nodes.{term_at}
use Rattle.kn_term.specs.Terms.{Term}
use Rattle.kn_model.specs.Alikes.{TermAlike}
use Rattle.kn_machine.specs.Ways.{way_of}
use Rattle.kn_machine.proofs.Stepping.{grown_through, grown_stands}
use Rattle.kn_machine.proofs.Elements.{words_fit, element_end, read_more}
use Rattle.kn_machine.proofs.memory.+element.Goals as goal

pub returns-then-place-n-clause-term : goal.returns-then-place-n-clause-term
returns-then-place-n-clause-term t c =
    let v = c.args.way.now in
    subst (λ (x : Term). IfOk c.konst.result (λ r. TermAlike (term_at c.konst.new.self.terms r.index) x)) (sym (element_end (way_of v).state.memory c.args.m c.args.n c.args.place (term_at v.terms c.args.index.index) c.if-place-n.true)) c.konst.ensures.term

pub is_at-requires : goal.is_at-requires
is_at-requires t c = grown_stands c.args.way.now c.element.new.way c.args.index.index c.in_ok-others.ensures.grown c.requires.index

pub choose-requires-clause-y : goal.choose-requires-clause-y
choose-requires-clause-y t c = grown_stands c.element.new.way c.is_at.new.way c.in_ok-others.others.index c.in_ok-same.ensures.grown c.in_ok-others.ensures.stands

pub returns-clause-term : goal.returns-clause-term
returns-clause-term t c =
    let v = c.args.way.now in
    let u = c.element.new.way in
    let s = c.is_at.new.way in
    let w = c.choose.new.self in
    let fits : c.args.m + c.args.n ≤ length (way_of v).state.memory = words_fit _ v c.args.m c.args.n c.way.view_is c.sizes.ensures.all_words c.requires.span.within in
    let inside : c.args.place < c.args.n = omega (arith, c.requires.place, c.if-place-n.false) in
    IfOk-weaker c.choose.result _ _ (λ r h. read_more v u s w c.args.m c.args.n c.args.place c.args.index.index c.in_ok-same.same.index c.word-word.result.index c.in_ok-others.others.index r.index fits inside c.requires.index
    c.in_ok-others.ensures.grown c.in_ok-others.ensures.term c.in_ok-others.ensures.stands c.in_ok-same.ensures.grown c.in_ok-same.ensures.term c.word-word.ensures.term h) c.choose.ensures.term

pub returns-clause-grown : goal.returns-clause-grown
returns-clause-grown t c =
    let v = c.args.way.now in
    let s = c.is_at.new.way in
    IfOk-weaker c.choose.result _ _ (λ r h. grown_through v s c.choose.new.self (grown_through v c.element.new.way s c.in_ok-others.ensures.grown c.in_ok-same.ensures.grown) h) c.choose.ensures.grows
