use Rattle.std.proofs.Common.{◌+◌, Bool, List, [], ◌∷◌, Option, ap, sym, ◌∙◌, arith, length, subst, sum_by}
use Rattle.std.specs.Prelude.{◌||◌}
use Rattle.std.specs.List.{AllByRecursion}
use Rattle.std.proofs.lemmas.List.{length-append}
use Rattle.std.proofs.lemmas.List.Sums.{sum_by-append}
use Rattle.kn_dstate.specs.Graphs.{KnownView, at, shown, IsPlace}
use Rattle.kn_dstate.specs.Members.{is_among, is_of_some}
use Rattle.kn_dstate.proofs.Weights.{weigh-added}
use Rattle.kn_dstate.proofs.Exchanging.{IsGraph-put, all-front, room-noted, room-fewer, room-last, or-true, put-kept}
use Rattle.kn_dstate.proofs.exchange.put_all.Goals as goal

pub put_place-requires-clause-room : goal.put_place-requires-clause-room
put_place-requires-clause-room c = omega (arith, c.loop-place.invariant.room, ap length c.in-Some.ensures.items, length-append c.pop.new.self.items (c.in-Some.place ∷ []))

pub put_place-requires-clause-ready : goal.put_place-requires-clause-ready
put_place-requires-clause-ready c = λ k e.
    room-fewer (at c.loop-place.states.slots k) 1 (length c.pop.new.self.items + 1) (omega arith)
    (room-last c.loop-place.states.slots c.loop-place.places.items c.pop.new.self.items c.in-Some.place k c.in-Some.ensures.items c.loop-place.invariant.ready (ap (λ (b : Bool). is_of_some k c.pop.new.self.items || b) e ∙ or-true (is_of_some k c.pop.new.self.items)))

pub loop-place-preserved : goal.loop-place-preserved
loop-place-preserved c =
    let was = c.loop-place.invariant in
    let put = c.put_place.ensures in
    let d = c.loop-place.dstates.vacant_key in
    let popped = c.in-Some.ensures.items in
    let size = length-append c.pop.new.self.items (c.in-Some.place ∷ []) in
    record {
      room = omega (arith, was.room, put.len, put.capacity, size, ap length popped);
      ready = λ k e. room-noted d (length c.pop.new.self.items) (λ k. is_among k c.in-Some.place.columns) c.loop-place.states.slots c.put_place.new.states.slots k put.states
          (room-last c.loop-place.states.slots c.loop-place.places.items c.pop.new.self.items c.in-Some.place k popped was.ready (ap (λ (b : Bool). b || is_among k c.in-Some.place.columns) e));
      weight = λ f. omega (
        arith,
        was.weight f,
        weigh-added f c.loop-place.dstates.slots c.put_place.new.dstates.slots d c.in-Some.place put.free put.there put.others,
        ap (sum_by f) popped,
        sum_by-append f c.pop.new.self.items (c.in-Some.place ∷ []),
      );
      kept = λ e p is. put-kept c.loop-place.dstates.slots c.put_place.new.dstates.slots d e p put.free put.others (was.kept e p is);
      seen = put.seen ∙ was.seen;
      graph = λ nodes rows packets all g.
          let now = was.graph nodes rows packets all g in
          let parts = all-front (IsPlace nodes (shown c.loop-place.states.slots) packets) c.pop.new.self.items c.in-Some.place (subst (AllByRecursion (IsPlace nodes (shown c.loop-place.states.slots) packets)) popped now.0) in (
            subst (λ (l : List (Option KnownView)). AllByRecursion (IsPlace nodes l packets) c.pop.new.self.items) (sym put.seen) parts.0,
            IsGraph-put nodes c.loop-place.dstates.slots c.put_place.new.dstates.slots c.loop-place.states.slots c.put_place.new.states.slots rows packets c.in-Some.place d now.1 parts.1 put.free put.there put.others put.states put.seen,
          );
    }

pub returns-clause-graph : goal.returns-clause-graph
returns-clause-graph c = λ nodes rows packets all g. (c.loop-place.invariant.graph nodes rows packets all g).1
