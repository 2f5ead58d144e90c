-- What the words that are left give after those that are read is what all give from the start.
use Rattle.std.proofs.Common.{◌≡◌, drop}
use Rattle.kn_words.specs.Lines.{words_of}
use Rattle.kn_words.specs.Reading.{read_from}
use Rattle.kn_words.proofs.options.are_options.Given as goal

abbrev pub invariant-loop-word : goal.invariant-loop-word
invariant-loop-word l = read_from l.reading (words_of (drop l.word-index l.words)) ≡ read_from l.initial.reading (words_of l.words)
