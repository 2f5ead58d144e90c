-- The handler runs on the way with the copy, or without it.
use Rattle.std.proofs.Common.{ap, sym, ◌∙◌}
use Rattle.std.proofs.lemmas.Result.{on_ok_weaker}
use Rattle.kn_model.specs.Terms.{words}
use Rattle.kn_model.specs.Rows.{Way}
use Rattle.kn_model.specs.Paths.{runs}
use Rattle.kn_conc.specs.Ways.{here_of, way_of}
use Rattle.kn_conc.specs.Runs.{paths_of}
use Rattle.kn_conc.proofs.Choosing.{arrives_is}
use Rattle.kn_conc.proofs.event.run_arrival.Goals as goal

pub returns-clause-way : goal.returns-clause-way
returns-clause-way c =
    let a = c.args.inputs.now in
    let here = here_of c.args.net.now.network c.args.spot.now in
    on_ok_weaker c.run_handler.result
    (λ run. arrives_is a here c.args.mail.now (way_of c.args.way.now) ∙ (ap (λ (w : Way _). paths_of a (runs (words a) here 1 w)) (sym (c.in_ok-may_double.ensures.way c.args.net.now.network)) ∙ run))
    c.run_handler.ensures.way
