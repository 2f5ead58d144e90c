use Rattle.std.proofs.Common.{refl, nat_eq, get_or}
use Rattle.kn_dstate.specs.declared.number.DstateNo.{DstateNo}
use Rattle.kn_dstate.specs.Graphs.{at}
use Rattle.kn_dstate.specs.Members.{emptied, columns_of, is_among}
use Rattle.kn_dstate.proofs.Changing.{became-more, in_more, left-became, left-same}
use Rattle.kn_dstate.proofs.Exchanging.{IsGraph-taken}
use Rattle.kn_dstate.proofs.exchange.take_all.Goals as goal

pub loop-d-init : goal.loop-d-init
loop-d-init c = record { dstates = λ k. refl; states = λ k. left-same (at c.args.states.now.slots k); graph = λ nodes rows packets g. g }

pub loop-d-preserved : goal.loop-d-preserved
loop-d-preserved c =
    let d = get_or c.args.went.now c.loop-d.d-index (record { 0 = 0 }) in
    record {
      dstates = became-more emptied (λ o. refl) _ (λ k. nat_eq d.0 k) _ c.args.dstates.now.slots c.loop-d.dstates.slots c.take_place.new.dstates.slots
          (λ k. in_more (λ (x : DstateNo). x.0) c.args.went.now c.loop-d.d-index (record { 0 = 0 }) k c.loop-d-test.true) c.loop-d.invariant.dstates c.take_place.ensures.dstates;
      states = λ k. left-became (at c.args.states.now.slots k) d.0 (λ k. is_among k (columns_of (at c.loop-d.dstates.slots d.0))) c.loop-d.states.slots c.take_place.new.states.slots k c.take_place.ensures.states (c.loop-d.invariant.states k);
      graph = λ nodes rows packets g. IsGraph-taken nodes c.loop-d.dstates.slots c.take_place.new.dstates.slots c.loop-d.states.slots c.take_place.new.states.slots rows packets d.0 c.take_place.ensures.dstates c.take_place.ensures.states (c.loop-d.invariant.graph nodes rows packets g);
    }
