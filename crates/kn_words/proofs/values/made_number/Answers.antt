-- What clap hands out, and why it fails.
use Rattle.std.proofs.Common.{◌∙◌, ap, is_some}
use Rattle.std.specs.Str.Parse.{ParsesUnsigned, ExplainsUnsignedError, HasUnsignedDigitsIfOk}
use Rattle.clap.specs.Words.{kind_of}
use Rattle.kn_words.specs.Lines.{words_of}
use Rattle.kn_words.proofs.Handing.{handed_on, made, made_line, make_taken}
use Rattle.kn_words.proofs.values.made_number.Goals as goal

pub returns-in_err-matches-clause-memory : goal.returns-in_err-matches-clause-memory
returns-in_err-matches-clause-memory c = handed_on c.from_residual-in_err-matches.result _ _ c.from_residual-in_err-matches.ensures.1
    (λ e same. ap kind_of same ∙ c.in_err-matches.ensures.passes (make_taken _ _ c.requires c.in_ok-make.ensures))

pub unwrap-requires : goal.unwrap-requires
unwrap-requires c =
    let number = made (λ bs r. ParsesUnsigned 8 10 bs r × ExplainsUnsignedError 10 bs r × HasUnsignedDigitsIfOk bs r) _ c.in_ok-matches.matches _ c.get_one-number.result
    (λ t r gives. gives.0) c.requires c.in_ok-make.ensures c.in_ok-matches.ensures.matches c.get_one-number.ensures.none c.get_one-number.ensures.value in
    ap is_some number.1

pub returns-clause-number : goal.returns-clause-number
returns-clause-number c =
    let number = made (λ bs r. ParsesUnsigned 8 10 bs r × ExplainsUnsignedError 10 bs r × HasUnsignedDigitsIfOk bs r) _ c.in_ok-matches.matches _ c.get_one-number.result
    (λ t r gives. gives.0) c.requires c.in_ok-make.ensures c.in_ok-matches.ensures.matches c.get_one-number.ensures.none c.get_one-number.ensures.value in
    made_line (words_of c.args.words.now) c.get_one-number.result c.unwrap.result number c.unwrap.ensures
