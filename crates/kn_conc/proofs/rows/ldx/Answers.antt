-- The word at the index is read.
use Rattle.std.proofs.Common.{ap, ◌∙◌, [], arith}
use Rattle.kn_model.specs.Terms.{words}
use Rattle.kn_model.specs.Rows.{Way, sets}
use Rattle.kn_conc.specs.Ways.{here_of, seen, way_of}
use Rattle.kn_conc.proofs.Elements.{loads}
use Rattle.kn_conc.proofs.rows.ldx.Goals as goal

pub returns-clause-step : goal.returns-clause-step
returns-clause-step c net =
    loads c.args.inputs.now (here_of net c.args.spot.now) (way_of c.args.way.now) c.args.a c.args.b c.args.m c.args.n c.register-index.result c.word-word.result (seen c.set.result (way_of c.set.new.way)) c.register-index.ensures c.if-index-n.false
    (omega (arith, c.requires.span.within, c.sizes.ensures.all_words)) c.word-word.ensures
    (c.set.ensures.way ∙ ap (λ (w : Way _). sets (words []) w c.args.a c.word-word.result) c.in_ok-decide.ensures.way)
