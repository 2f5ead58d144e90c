use Rattle.std.proofs.Common.{◌≡◌, ◌++◌, ◌∷◌, [], ◌<◌, List, length, flat_map, sym, subst, ◌∙◌, ap, rules, append_assoc, append-nil}
use Rattle.kn_model.specs.Terms.{terms}
use Rattle.kn_model.specs.Scenarios.{copies, turns}
use Rattle.kn_cob.specs.Nodes.{NodeView}
use Rattle.std.proofs.lemmas.List.{nil_from_length}
use Rattle.kn_cob.proofs.Lost.{copies_lost}
use Rattle.kn_cob.proofs.Looping.{Halfway, at_start, at_next, stepped, at_end}
use Rattle.kn_cob.proofs.Turning.{next_met, many_in_turn, limit_stop}
use Rattle.kn_cob.proofs.exploring.turn.Goals as goal

pub loop-copy-init : goal.loop-copy-init
loop-copy-init g c = record {
  all = sym c.into_iter-copy-iterator.ensures.into_iter_gives.0;
  made = λ ss h. subst (λ (l : List (List NodeView)). Halfway c.args.net.now.network c.args.place.tick c.args.place.tick (copies terms c.args.net.now.network c.args.place.node c.args.place.tick) l c.args.list.items [] ss) (sym c.new-out.ensures.items) (at_start c.args.net.now.network c.args.place.tick c.args.place.tick (copies terms c.args.net.now.network c.args.place.node c.args.place.tick) c.args.list.items ss h);
}

pub put_copies-requires-clause-met : goal.put_copies-requires-clause-met
put_copies-requires-clause-met g c =
    let net = c.args.net.now.network in
    let t = c.args.place.tick in
    let n = c.args.place.node in
    let a = c.requires.turned in
    let all : c.args.list.items ≡ c.loop-copy.yielded ++ (c.in-Some.copy ∷ c.next.new.self.rest.items) = search rules in
    next_met net t n c.requires.sound c.requires.tick a.turning.inside c.args.list.items a c.loop-copy.out.items c.loop-copy.yielded c.in-Some.copy
    (at_next net t t (copies terms net n t) (copies_lost net n t c.requires.sound) c.loop-copy.out.items c.args.list.items c.loop-copy.yielded c.in-Some.copy c.next.new.self.rest.items (turns terms net n t a.count a.start) (c.loop-copy.invariant.made (turns terms net n t a.count a.start) a.are) all)

pub returns-in-Err-clause-stop : goal.returns-in-Err-clause-stop
returns-in-Err-clause-stop g c =
    let net = c.args.net.now.network in
    let t = c.args.place.tick in
    let n = c.args.place.node in
    let a = c.requires.turned in
    let ss = turns terms net n t a.count a.start in
    let all : c.args.list.items ≡ c.loop-copy.yielded ++ (c.in-Some.copy ∷ c.next.new.self.rest.items) = search rules in
    let m = at_next net t t (copies terms net n t) (copies_lost net n t c.requires.sound) c.loop-copy.out.items c.args.list.items c.loop-copy.yielded c.in-Some.copy c.next.new.self.rest.items ss (c.loop-copy.invariant.made ss a.are) all in
    let more = c.in_ok-put_copies.ensures.given m.scenario (flat_map (copies terms net n t) m.done) m.copy m.made in
    limit_stop net t (length c.deref.result.now) c.within_limit.result c.in-Err.at c.within_limit.ensures.kind c.within_limit.ensures.tick c.within_limit.ensures.many
    (λ many. many_in_turn net t n c.requires.sound c.requires.tick a.turning.inside c.args.list.items a c.loop-copy.out.items c.loop-copy.yielded c.in-Some.copy m c.put_copies.new.out.items more (subst (λ (l : List (List NodeView)). net.limits.dstates < length l) c.deref.ensures.value many))
    c.in-Err.is

pub loop-copy-preserved : goal.loop-copy-preserved
loop-copy-preserved g c = record {
  all =
      let all : c.args.list.items ≡ c.loop-copy.yielded ++ (c.in-Some.copy ∷ c.next.new.self.rest.items) = search rules in
      all ∙ sym (append_assoc c.loop-copy.yielded (c.in-Some.copy ∷ []) c.next.new.self.rest.items);
  made = λ ss h.
      let net = c.args.net.now.network in
      let t = c.args.place.tick in
      let n = c.args.place.node in
      let all : c.args.list.items ≡ c.loop-copy.yielded ++ (c.in-Some.copy ∷ c.next.new.self.rest.items) = search rules in
      let m = at_next net t t (copies terms net n t) (copies_lost net n t c.requires.sound) c.loop-copy.out.items c.args.list.items c.loop-copy.yielded c.in-Some.copy c.next.new.self.rest.items ss (c.loop-copy.invariant.made ss h) all in
      stepped net t t (copies terms net n t) c.loop-copy.out.items c.in-Some.copy c.args.list.items c.loop-copy.yielded ss m c.put_copies.new.out.items (c.in_ok-put_copies.ensures.given m.scenario (flat_map (copies terms net n t) m.done) m.copy m.made);
}

pub returns-clause-given : goal.returns-clause-given
returns-clause-given g c ss h =
    let net = c.args.net.now.network in
    let t = c.args.place.tick in
    let n = c.args.place.node in
    let none : c.loop-copy.copy-iterator.rest.items ≡ [] = nil_from_length c.loop-copy.copy-iterator.rest.items (sym c.loop-copy.copy-iterator.rest.ok.0 ∙ c.in-None.ensures.steps.0) in
    let all : c.args.list.items ≡ c.loop-copy.yielded = c.loop-copy.invariant.all ∙ (ap (λ (l : List (List NodeView)). c.loop-copy.yielded ++ l) none ∙ append-nil c.loop-copy.yielded) in
    at_end net t t (copies terms net n t) (copies_lost net n t c.requires.sound) c.loop-copy.out.items c.args.list.items c.loop-copy.yielded ss (c.loop-copy.invariant.made ss h) all
