-- One more bit.
use Rattle.std.proofs.Common.{◌^◌, ◌<◌, ℕ, sym, subst}
use Rattle.kn_blast.proofs.Laying.{word_before-lt}
use Rattle.kn_blast.proofs.inputs.word_before.Goals as goal

pub with_bit-word-requires-clause-word : goal.with_bit-word-requires-clause-word
with_bit-word-requires-clause-word c = subst (λ (v : ℕ). v < 2 ^ c.loop-place.place) (sym c.loop-place.invariant) (word_before-lt c.args.bits.now c.args.lowest c.loop-place.place)
