use Rattle.std.proofs.Common.{[], ◌∷◌, ◌++◌, map, take, sym, ap, subst, ◌∙◌}
use Rattle.std.specs.Prelude.{MatchOption}
use Rattle.std.specs.Arc.{arc_value}
use Rattle.std.proofs.lemmas.List.{take_more, drop_more, map-append}
use Rattle.kn_model.specs.Alikes.{OneByOne}
use Rattle.kn_cob.specs.Closing.{IsShutOut, IsClosed}
use Rattle.kn_cob.proofs.Closing.{one_closed}
use Rattle.kn_cob.proofs.copies.NetworkCopy.shut.Goals as goal

pub loop-now-preserved : goal.loop-now-preserved
loop-now-preserved c =
    let net = c.args.net.now.network in
    let items = c.deref-now-items.result.now in
    let i = c.loop-now.now-index in
    let x = c.now-item.result in
    let z = c.in-Some.next in
    let closed : IsClosed net (arc_value x) (arc_value z) = subst (λ o. MatchOption o (IsShutOut (arc_value x)) (λ y. IsClosed net (arc_value x) (arc_value y))) c.in-Some.is c.in_ok-next.ensures in
    let further = rw (drop_more items i x c.loop-now-test.true) at c.loop-now.invariant.standing in
    record {
      closed =
          subst (λ l. OneByOne (IsClosed net) (map arc_value l) (map arc_value c.push.new.self.items)) (sym (take_more items i x c.loop-now-test.true ∙ ap (λ y. take i items ++ y ∷ []) (sym c.now-item.is)))
          (rw (c.in_ok-push-in-Some.ensures.items, map-append, map-append) (one_closed net (map arc_value (take i items)) (map arc_value c.loop-now.nodes.items) (arc_value x) (arc_value z) c.loop-now.invariant.closed closed));
      standing = further.1;
    }
