-- One more input.
use Rattle.std.proofs.Common.{sym, subst, arith, [], ◌∷◌}
use Rattle.kn_aig.specs.Circuits.{Extends}
use Rattle.kn_aig.proofs.Values.{extends_twice}
use Rattle.kn_aig.specs.Circuits.{inputs_of}
use Rattle.kn_aig.specs.declared.gates.AigNode.TheVariants as nodes
use Rattle.kn_blast.specs.Inputs.{HasOnlyInputs}
use Rattle.kn_blast.proofs.Laying.{only_more}
use Rattle.kn_blast.proofs.opening.bits_for.Goals as goal

pub returns-in_err-_edge-clause-only : goal.returns-in_err-_edge-clause-only
returns-in_err-_edge-clause-only c = subst HasOnlyInputs (sym c.in_err-_edge.ensures.err) c.loop-bit.invariant.only

pub returns-in_err-_edge-clause-grows : goal.returns-in_err-_edge-clause-grows
returns-in_err-_edge-clause-grows c = subst (Extends c.args.aig.now) (sym c.in_err-_edge.ensures.err) c.loop-bit.invariant.grows

pub loop-bit-preserved : goal.loop-bit-preserved
loop-bit-preserved c =
    let more = only_more c.loop-bit.aig c.input.new.self c.loop-bit.invariant.only c.in_ok-_edge.ensures.nodes in
    record {
      only = more.0;
      inputs = omega (arith, more.1, c.loop-bit.invariant.inputs);
      grows = extends_twice _ _ _ c.loop-bit.invariant.grows (nodes.Input (inputs_of c.loop-bit.aig) ∷ [], c.in_ok-_edge.ensures.nodes);
    }
