use Rattle.std.proofs.Common.{◌≡◌, ◌++◌, ◌∷◌, [], true, false, List, sym, subst, ◌∙◌, ap, arith, inl}
use Rattle.std.specs.List.{AllByRecursion}
use Rattle.kn_model.specs.Terms.{terms}
use Rattle.kn_model.specs.Scenarios.{turns}
use Rattle.kn_cob.specs.Nodes.{NodeView}
use Rattle.kn_cob.specs.Copies.{AreCopies}
use Rattle.kn_cob.specs.Ticks.{some_due}
use Rattle.kn_cob.proofs.Turning.{next_turn, long_copies, still_settled, some_left, one_turned}
use Rattle.kn_cob.proofs.exploring.turns.Goals as goal

pub loop-turn-init : goal.loop-turn-init
loop-turn-init g c = record {
  made = λ s is. subst (λ (l : List (List NodeView)). AreCopies c.args.net.now.network c.args.place.tick l (s ∷ [])) (sym (c.in_ok-push.ensures ∙ ap (λ (l : List (List NodeView)). l ++ c.args.copy ∷ []) c.new-list.ensures.items)) (inl (is, tt));
  within = λ s is. omega arith;
}

pub is_due_in_some-requires : goal.is_due_in_some-requires
is_due_in_some-requires g c =
    let net = c.args.net.now.network in
    let t = c.args.place.tick in
    let n = c.args.place.node in
    let s = c.requires.settling.scenario in
    subst (AllByRecursion _) (sym c.deref.ensures.value) (long_copies net t n c.requires.node c.loop-turn.list.items (turns terms net n t c.loop-turn._turn s) (c.loop-turn.invariant.made s c.requires.settling.of))

pub returns-then-not-is_due_in_some-clause-given : goal.returns-then-not-is_due_in_some-clause-given
returns-then-not-is_due_in_some-clause-given g c s is =
    let net = c.args.net.now.network in
    let t = c.args.place.tick in
    let n = c.args.place.node in
    let none : some_due t n c.loop-turn.list.items ≡ false = ap (some_due t n) (sym c.deref.ensures.value) ∙ (sym c.is_due_in_some.ensures ∙ c.if-not-is_due_in_some.true) in
    still_settled net t n c.requires.sound c.requires.tick c.requires.node c.loop-turn._turn c.loop-turn.list.items s (c.loop-turn.invariant.within s is) (c.loop-turn.invariant.made s is) none

pub turn-requires-clause-turned : goal.turn-requires-clause-turned
turn-requires-clause-turned g c =
    let net = c.args.net.now.network in
    let t = c.args.place.tick in
    let n = c.args.place.node in
    let some : some_due t n c.loop-turn.list.items ≡ true = ap (some_due t n) (sym c.deref.ensures.value) ∙ (sym c.is_due_in_some.ensures ∙ c.if-not-is_due_in_some.false) in
    one_turned net t n c.requires.sound c.requires.tick c.requires.node c.args.copy c.requires.settling c.loop-turn._turn c.loop-turn.list.items (c.loop-turn.invariant.made c.requires.settling.scenario c.requires.settling.of) some

pub loop-turn-preserved : goal.loop-turn-preserved
loop-turn-preserved g c =
    let net = c.args.net.now.network in
    let t = c.args.place.tick in
    let n = c.args.place.node in
    let some : some_due t n c.loop-turn.list.items ≡ true = ap (some_due t n) (sym c.deref.ensures.value) ∙ (sym c.is_due_in_some.ensures ∙ c.if-not-is_due_in_some.false) in
    record {
      made = λ s is. next_turn net t n c.loop-turn._turn s c.in_ok-list.list.items (c.in_ok-list.ensures.given (turns terms net n t c.loop-turn._turn s) (c.loop-turn.invariant.made s is));
      within = λ s is.
          let more = some_left net t n c.requires.sound c.requires.tick c.requires.node c.loop-turn._turn c.loop-turn.list.items s is.whole (c.loop-turn.invariant.made s is) some in
          omega (arith, more);
    }
