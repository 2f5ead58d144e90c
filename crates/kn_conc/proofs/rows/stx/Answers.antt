-- The word at the index is written.
use Rattle.std.proofs.Common.{ap, ◌∙◌, [], ◌+◌}
use Rattle.std.specs.Prelude.{slice_set}
use Rattle.kn_model.specs.Terms.{words}
use Rattle.kn_model.specs.Rows.{Way, next, with_memory}
use Rattle.kn_conc.specs.Ways.{here_of, way_of}
use Rattle.kn_conc.proofs.Elements.{stores}
use Rattle.kn_conc.proofs.rows.stx.Goals as goal

pub returns-clause-step : goal.returns-clause-step
returns-clause-step c net =
    stores c.args.inputs.now (here_of net c.args.spot.now) (way_of c.args.way.now) (way_of c.advance.new.self) c.args.a c.args.b c.args.m c.args.n c.register-index.result c.register-word.result c.register-index.ensures c.if-index-n.false c.register-word.ensures
    (c.advance.ensures.way ∙ ap (λ (w : Way _). next (words []) w) (c.set_word.ensures.way ∙ ap (λ (w : Way _). with_memory (words []) w (slice_set w.state.memory (c.args.m + c.register-index.result) c.register-word.result)) c.in_ok-decide.ensures.way))
