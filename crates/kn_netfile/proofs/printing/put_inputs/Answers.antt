use Rattle.std.proofs.Common.{◌++◌, string_bytes, flat_map}
use Rattle.kn_netfile.specs.Printing.{input_text}
use Rattle.kn_netfile.proofs.Written.{input_more, inputs_done}
use Rattle.kn_netfile.proofs.printing.put_inputs.Goals as goal

pub loop-node-preserved : goal.loop-node-preserved
loop-node-preserved c =
    input_more (string_bytes c.loop-node.text) (string_bytes c.put_input.new.text) (string_bytes c.args.text.now ++ flat_map input_text c.args.inputs.now)
    c.args.inputs.now c.loop-node.place _ c.in-Some.ensures.entry c.in_ok-put_input.ensures c.loop-node.invariant

pub returns : goal.returns
returns c =
    inputs_done (string_bytes c.loop-node.text) (string_bytes c.args.text.now ++ flat_map input_text c.args.inputs.now)
    c.args.inputs.now c.loop-node.place c.in_default.ensures.entry c.loop-node.invariant
