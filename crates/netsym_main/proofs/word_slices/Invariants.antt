use Rattle.std.proofs.Common.{◌≡◌, map, string_bytes, take}
use Rattle.kn_words.specs.Lines.{words_of}
use Rattle.netsym_main.proofs.word_slices.Given as goal

abbrev pub invariant-loop-text : goal.invariant-loop-text
invariant-loop-text l = words_of l.words.items ≡ map string_bytes (take l.text-index l.texts)
