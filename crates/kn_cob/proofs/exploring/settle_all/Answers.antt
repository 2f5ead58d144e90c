use Rattle.std.specs.List.{AllByRecursion}
use Rattle.kn_cob.proofs.Idle.{idle_node}
use Rattle.std.proofs.Common.{false, ◌≡◌, ◌≤◌, ◌++◌, ◌∷◌, [], ◌<◌, List, length, flat_map, sym, subst, ◌∙◌, ap, rules, arith, append_assoc, append-nil}
use Rattle.std.proofs.lemmas.List.{nil_from_length}
use Rattle.kn_model.specs.Terms.{terms}
use Rattle.kn_model.specs.Scenarios.{settled}
use Rattle.kn_cob.specs.Nodes.{NodeView}
use Rattle.kn_cob.specs.Copies.{AreCopies}
use Rattle.kn_cob.specs.Ticks.{so_far, some_due}
use Rattle.kn_cob.proofs.Lost.{settled_lost}
use Rattle.kn_cob.proofs.Ticks.{so_far_next}
use Rattle.kn_cob.proofs.Looping.{Halfway, at_start, at_next, stepped, at_end}
use Rattle.kn_cob.proofs.Turning.{long_copies, next_settling, many_in_node, limit_stop}
use Rattle.kn_cob.proofs.exploring.settle_all.Goals as goal

pub is_due_in_some-requires : goal.is_due_in_some-requires
is_due_in_some-requires g c =
    let net = c.args.net.now.network in
    let t = c.args.place.tick in
    let n = c.args.place.node in
    subst (AllByRecursion _) (sym c.deref.ensures.value) (long_copies net t n c.requires.node c.args.list.items (so_far net t n) c.requires.before)

pub returns-then-not-is_due_in_some-clause-given : goal.returns-then-not-is_due_in_some-clause-given
returns-then-not-is_due_in_some-clause-given g c =
    let net = c.args.net.now.network in
    let t = c.args.place.tick in
    let n = c.args.place.node in
    let none : some_due t n c.args.list.items ≡ false = ap (some_due t n) (sym c.deref.ensures.value) ∙ (sym c.is_due_in_some.ensures ∙ c.if-not-is_due_in_some.true) in
    idle_node net t c.requires.sound c.requires.tick n c.requires.node c.args.list.items none c.requires.before

pub loop-copy-init : goal.loop-copy-init
loop-copy-init g c =
    let net = c.args.net.now.network in
    let t = c.args.place.tick in
    let n = c.args.place.node in
    let none = ap length c.in_ok-out.ensures.items in
    record {
      all = sym c.into_iter-copy-iterator.ensures.into_iter_gives.0;
      made = subst (λ (l : List (List NodeView)). Halfway net t t (settled terms net t n) l c.args.list.items [] (so_far net t n)) (sym c.in_ok-out.ensures.items) (at_start net t t (settled terms net t n) c.args.list.items (so_far net t n) c.requires.before);
      few = omega (arith, none);
    }

pub settle-requires-clause-settling : goal.settle-requires-clause-settling
settle-requires-clause-settling g c =
    let net = c.args.net.now.network in
    let t = c.args.place.tick in
    let n = c.args.place.node in
    let all : c.args.list.items ≡ c.loop-copy.yielded ++ (c.in-Some.copy ∷ c.next.new.self.rest.items) = search rules in
    next_settling net t n c.requires.sound c.requires.tick c.requires.node c.args.list.items c.loop-copy.out.items c.loop-copy.yielded c.in-Some.copy
    (at_next net t t (settled terms net t n) (settled_lost net t n c.requires.sound) c.loop-copy.out.items c.args.list.items c.loop-copy.yielded c.in-Some.copy c.next.new.self.rest.items (so_far net t n) c.loop-copy.invariant.made all)

pub returns-in-Err-clause-stop : goal.returns-in-Err-clause-stop
returns-in-Err-clause-stop g c =
    let net = c.args.net.now.network in
    let t = c.args.place.tick in
    let n = c.args.place.node in
    let all : c.args.list.items ≡ c.loop-copy.yielded ++ (c.in-Some.copy ∷ c.next.new.self.rest.items) = search rules in
    let m = at_next net t t (settled terms net t n) (settled_lost net t n c.requires.sound) c.loop-copy.out.items c.args.list.items c.loop-copy.yielded c.in-Some.copy c.next.new.self.rest.items (so_far net t n) c.loop-copy.invariant.made all in
    let more = c.in_ok-settle.ensures.given m.scenario (flat_map (settled terms net t n) m.done) m.copy m.made in
    limit_stop net t (length c.deref-in-loop-copy.result.now) c.within_limit.result c.in-Err.at c.within_limit.ensures.kind c.within_limit.ensures.tick c.within_limit.ensures.many
    (λ many. many_in_node net t n c.requires.sound c.requires.tick c.requires.node c.args.list.items c.loop-copy.out.items c.loop-copy.yielded c.in-Some.copy m c.settle.new.out.items more (subst (λ (l : List (List NodeView)). net.limits.dstates < length l) c.deref-in-loop-copy.ensures.value many))
    c.in-Err.is

pub loop-copy-preserved : goal.loop-copy-preserved
loop-copy-preserved g c =
    let net = c.args.net.now.network in
    let t = c.args.place.tick in
    let n = c.args.place.node in
    let all : c.args.list.items ≡ c.loop-copy.yielded ++ (c.in-Some.copy ∷ c.next.new.self.rest.items) = search rules in
    let m = at_next net t t (settled terms net t n) (settled_lost net t n c.requires.sound) c.loop-copy.out.items c.args.list.items c.loop-copy.yielded c.in-Some.copy c.next.new.self.rest.items (so_far net t n) c.loop-copy.invariant.made all in
    record {
      all = all ∙ sym (append_assoc c.loop-copy.yielded (c.in-Some.copy ∷ []) c.next.new.self.rest.items);
      made = stepped net t t (settled terms net t n) c.loop-copy.out.items c.in-Some.copy c.args.list.items c.loop-copy.yielded (so_far net t n) m c.settle.new.out.items (c.in_ok-settle.ensures.given m.scenario (flat_map (settled terms net t n) m.done) m.copy m.made);
      few = subst (λ (l : List (List NodeView)). length l ≤ net.limits.dstates) c.deref-in-loop-copy.ensures.value c.in_default.ensures.few;
    }

pub returns-clause-given : goal.returns-clause-given
returns-clause-given g c =
    let net = c.args.net.now.network in
    let t = c.args.place.tick in
    let n = c.args.place.node in
    let none : c.loop-copy.copy-iterator.rest.items ≡ [] = nil_from_length c.loop-copy.copy-iterator.rest.items (sym c.loop-copy.copy-iterator.rest.ok.0 ∙ c.in-None.ensures.steps.0) in
    let all : c.args.list.items ≡ c.loop-copy.yielded = c.loop-copy.invariant.all ∙ (ap (λ (l : List (List NodeView)). c.loop-copy.yielded ++ l) none ∙ append-nil c.loop-copy.yielded) in
    subst (AreCopies net t c.loop-copy.out.items) (sym (so_far_next net t n)) (at_end net t t (settled terms net t n) (settled_lost net t n c.requires.sound) c.loop-copy.out.items c.args.list.items c.loop-copy.yielded (so_far net t n) c.loop-copy.invariant.made all)
