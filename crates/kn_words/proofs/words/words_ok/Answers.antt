-- The test of what stands after the first word, against the definition.
use Rattle.std.proofs.Common.{arith}
use Rattle.kn_words.proofs.Deciding.{words_decided}
use Rattle.kn_words.proofs.words.words_ok.Goals as goal

pub returns-in-Some : goal.returns-in-Some
returns-in-Some c = words_decided c.args.words.now _ _ c.in-Some.verb c.rest_ok.result c.in-len1-up.len_at_least (omega arith) c.in-Some.ensures c.rest_ok.ensures
