-- The bits are those that the trace has more.
use Rattle.std.proofs.Common.{ap, ◌∙◌}
use Rattle.kn_conc.specs.Views.{NodeView}
use Rattle.kn_replay.proofs.Bits.{bits_behind}
use Rattle.kn_replay.proofs.turn.run_one.Goals as goal

pub returns : goal.returns
returns c =
    let run = c.in_ok-sends.ensures.run in
    record {
      run = run;
      same = c.in_ok-bits.ensures ∙ bits_behind c.bits-before.result.now c.bits.result.now c.args.node.now.state.trace c.run_event_at.new.node.state.trace run.bits
          (c.bits-before.ensures ∙ ap (λ (x : NodeView). x.state.trace) c.node.view_is)
          (c.bits.ensures ∙ ap (λ (x : NodeView). x.state.trace) c.node-2.view_is)
          run.trace;
    }
