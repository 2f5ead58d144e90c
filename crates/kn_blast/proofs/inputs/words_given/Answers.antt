-- One entry earlier.
use Rattle.std.proofs.Common.{◌-◌, arith}
use Rattle.kn_blast.proofs.Laying.{blank, entry_at}
use Rattle.kn_blast.proofs.inputs.words_given.Goals as goal

pub word_before-word-requires-clause-lowest : goal.word_before-word-requires-clause-lowest
word_before-word-requires-clause-lowest c =
    let at = entry_at c.args.entries.now (c.loop-place.place - 1) blank c.requires.entries (omega (arith, c.loop-place-test.true, c.loop-place.invariant.within)) in
    omega (arith, at.2, c.requires.bits)

pub word_before-word-requires-clause-room : goal.word_before-word-requires-clause-room
word_before-word-requires-clause-room c =
    (entry_at c.args.entries.now (c.loop-place.place - 1) blank c.requires.entries (omega (arith, c.loop-place-test.true, c.loop-place.invariant.within))).1

pub word_before-word-requires-clause-width : goal.word_before-word-requires-clause-width
word_before-word-requires-clause-width c =
    (entry_at c.args.entries.now (c.loop-place.place - 1) blank c.requires.entries (omega (arith, c.loop-place-test.true, c.loop-place.invariant.within))).0
