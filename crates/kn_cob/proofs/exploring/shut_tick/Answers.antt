use Rattle.std.proofs.Common.{◌≡◌, ◌+◌, ◌++◌, ◌∷◌, [], List, length, flat_map, sym, subst, ◌∙◌, ap, rules, arith, append_assoc, append-nil}
use Rattle.std.specs.List.{AllByRecursion}
use Rattle.std.proofs.lemmas.List.{length-append}
use Rattle.std.proofs.lemmas.List.{nil_from_length}
use Rattle.kn_model.specs.Terms.{Term, terms}
use Rattle.kn_model.specs.Scenarios.{Scenario, close, pre}
use Rattle.kn_cob.specs.Nodes.{NodeView}
use Rattle.kn_cob.specs.Copies.{AreCopies}
use Rattle.kn_cob.specs.Closing.{AreShut}
use Rattle.kn_cob.proofs.Ticks.{cob_after}
use Rattle.kn_cob.proofs.Looping.{Halfway, at_start, at_next, stepped, at_end}
use Rattle.kn_cob.proofs.Turning.{nodes_stand, closed_dead, closed_each}
use Rattle.kn_cob.proofs.exploring.shut_tick.Goals as goal

pub loop-copy-init : goal.loop-copy-init
loop-copy-init c =
    let net = c.args.net.now.network in
    let t = c.args.tick in
    let none = ap length c.in_ok-out.ensures.items in
    record {
      all = sym c.into_iter-copy-iterator.ensures.into_iter_gives.0;
      made = subst (λ (l : List (List NodeView)). Halfway net t (t + 1) (λ (s : Scenario Term). close s ∷ []) l c.args.list.items [] (pre terms net t)) (sym c.in_ok-out.ensures.items) (at_start net t (t + 1) (λ (s : Scenario Term). close s ∷ []) c.args.list.items (pre terms net t) c.requires.copies);
      shut = subst (AllByRecursion AreShut) (sym c.in_ok-out.ensures.items) tt;
      few = omega (arith, none);
    }

pub put_shut-requires : goal.put_shut-requires
put_shut-requires c =
    let net = c.args.net.now.network in
    let t = c.args.tick in
    let all : c.args.list.items ≡ c.loop-copy.yielded ++ (c.in-Some.copy ∷ c.next.new.self.rest.items) = search rules in
    let m = at_next net t (t + 1) (λ (s : Scenario Term). close s ∷ []) (closed_dead net t c.requires.sound) c.loop-copy.out.items c.args.list.items c.loop-copy.yielded c.in-Some.copy c.next.new.self.rest.items (pre terms net t) c.loop-copy.invariant.made all in
    record { standing = nodes_stand net t 0 c.in-Some.copy m.scenario.nodes m.copy.nodes }

pub loop-copy-preserved : goal.loop-copy-preserved
loop-copy-preserved c =
    let net = c.args.net.now.network in
    let t = c.args.tick in
    let all : c.args.list.items ≡ c.loop-copy.yielded ++ (c.in-Some.copy ∷ c.next.new.self.rest.items) = search rules in
    let m = at_next net t (t + 1) (λ (s : Scenario Term). close s ∷ []) (closed_dead net t c.requires.sound) c.loop-copy.out.items c.args.list.items c.loop-copy.yielded c.in-Some.copy c.next.new.self.rest.items (pre terms net t) c.loop-copy.invariant.made all in
    let one = c.in_ok-put_shut.ensures.few in
    let so = c.loop-copy.invariant.few in
    let long = length-append c.loop-copy.yielded (c.in-Some.copy ∷ []) in
    record {
      all = all ∙ sym (append_assoc c.loop-copy.yielded (c.in-Some.copy ∷ []) c.next.new.self.rest.items);
      made = stepped net t (t + 1) (λ (s : Scenario Term). close s ∷ []) c.loop-copy.out.items c.in-Some.copy c.args.list.items c.loop-copy.yielded (pre terms net t) m c.put_shut.new.out.items (c.in_ok-put_shut.ensures.given t m.scenario (flat_map (λ (s : Scenario Term). close s ∷ []) m.done) m.copy m.made);
      shut = c.in_ok-put_shut.ensures.shut c.loop-copy.invariant.shut;
      few = omega (arith, one, so, long);
    }

pub returns-clause-given : goal.returns-clause-given
returns-clause-given c =
    let net = c.args.net.now.network in
    let t = c.args.tick in
    let none : c.loop-copy.copy-iterator.rest.items ≡ [] = nil_from_length c.loop-copy.copy-iterator.rest.items (sym c.loop-copy.copy-iterator.rest.ok.0 ∙ c.in-None.ensures.steps.0) in
    let all : c.args.list.items ≡ c.loop-copy.yielded = c.loop-copy.invariant.all ∙ (ap (λ (l : List (List NodeView)). c.loop-copy.yielded ++ l) none ∙ append-nil c.loop-copy.yielded) in
    subst (AreCopies net (t + 1) c.loop-copy.out.items) (closed_each (pre terms net t) ∙ sym (cob_after net t))
    (at_end net t (t + 1) (λ (s : Scenario Term). close s ∷ []) (closed_dead net t c.requires.sound) c.loop-copy.out.items c.args.list.items c.loop-copy.yielded (pre terms net t) c.loop-copy.invariant.made all)
