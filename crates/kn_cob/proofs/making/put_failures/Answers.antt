-- The lines are those of the failed states.
use Rattle.std.proofs.Common.{ℕ, map, ap, sym, ◌∙◌}
use Rattle.std.proofs.lemmas.Result.{on_ok_weaker}
use Rattle.kn_cob.specs.Reports.{numbers, reach_by, reached_at}
use Rattle.kn_cob.proofs.Reporting.{failures_are}
use Rattle.kn_cob.proofs.making.put_failures.Goals as goal

pub returns : goal.returns
returns c =
    let place = c.args.place in
    let pick = numbers place.nodes place.first in
    let failed = c.deref.result.now in
    on_ok_weaker c.put_reached.result
    (λ e. (
      map (reached_at (reach_by place.dstate pick c.in_ok-answer.answer)) failed,
      e,
      failures_are c.args.net.now.network.limits.conflicts place.dstate place.first c.args.scenario.now c.in_ok-answer.answer pick failed
          (ap (λ (n : ℕ). numbers n place.first) (sym c.requires.nodes)) (c.deref.ensures.value ∙ c.in_ok-failed.ensures) c.in_ok-answer.ensures,
    )) c.put_reached.ensures
