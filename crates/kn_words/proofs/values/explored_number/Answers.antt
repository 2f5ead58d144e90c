-- What clap hands out, and why it fails.
use Rattle.std.proofs.Common.{◌∙◌, ap}
use Rattle.std.specs.Str.Parse.{ParsesUnsigned, ExplainsUnsignedError, HasUnsignedDigitsIfOk}
use Rattle.clap.specs.Words.{kind_of}
use Rattle.kn_words.proofs.Handing.{explore_taken, explored, handed_on}
use Rattle.kn_words.proofs.values.explored_number.Goals as goal

pub returns-in_err-matches-clause-memory : goal.returns-in_err-matches-clause-memory
returns-in_err-matches-clause-memory c = handed_on c.from_residual-in_err-matches.result _ _ c.from_residual-in_err-matches.ensures.1
    (λ e same. ap kind_of same ∙ c.in_err-matches.ensures.passes (explore_taken _ _ c.requires c.in_ok-explore.ensures))

pub returns-clause-number : goal.returns-clause-number
returns-clause-number c = explored (λ bs r. ParsesUnsigned 8 10 bs r × ExplainsUnsignedError 10 bs r × HasUnsignedDigitsIfOk bs r) _ c.in_ok-matches.matches _ c.get_one.result
    (λ t r gives. gives.0) c.requires c.in_ok-explore.ensures c.in_ok-matches.ensures.matches c.get_one.ensures.none c.get_one.ensures.value
