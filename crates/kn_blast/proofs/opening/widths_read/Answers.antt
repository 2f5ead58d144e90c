-- One more place.
use Rattle.std.proofs.Common.{◌+◌, List, ℕ, take, get_or, subst}
use Rattle.std.proofs.lemmas.List.{take_more, take_all}
use Rattle.std.proofs.lemmas.Option.{slice_get-get_or}
use Rattle.kn_term.proofs.Reaching.{among_at}
use Rattle.kn_blast.specs.Reached.{AreWide}
use Rattle.kn_blast.proofs.Reading.{wide_more, read_more}
use Rattle.kn_blast.proofs.opening.widths_read.Goals as goal

pub widen_at-requires : goal.widen_at-requires
widen_at-requires c = (c.requires c.loop-place.place-index _ (slice_get-get_or c.args.places.now c.loop-place.place-index 0 c.loop-place-test.true)).0

pub loop-place-preserved : goal.loop-place-preserved
loop-place-preserved c =
    let places = c.args.places.now in
    let i = c.loop-place.place-index in
    let place = get_or places i 0 in
    record {
      wide = wide_more c.args.terms.now (take i places) (take (i + 1) places) place c.loop-place.widths _ (take_more places i 0 c.loop-place-test.true) c.in_ok-widen_at.ensures c.loop-place.invariant.wide;
      read = read_more c.args.terms.now places place c.loop-place.widths _ (among_at places i place (slice_get-get_or places i 0 c.loop-place-test.true)) c.in_ok-widen_at.ensures c.loop-place.invariant.read;
    }

pub returns-clause-wide : goal.returns-clause-wide
returns-clause-wide c = subst (λ (l : List ℕ). AreWide c.args.terms.now l c.loop-place.widths) (take_all c.loop-place.place-index c.args.places.now c.loop-place-test.false) c.loop-place.invariant.wide
