-- One input more, and none.
use Rattle.std.proofs.Common.{◌++◌, drop, string_bytes, flat_map}
use Rattle.kn_report.specs.Texts.{further}
use Rattle.kn_report.proofs.Printed.{further_written, all_written, fits_more, fits_all}
use Rattle.kn_report.proofs.writing.put_more_inputs.Goals as goal

pub loop-node-preserved : goal.loop-node-preserved
loop-node-preserved c = record {
  text = further_written (string_bytes c.loop-node.text) (string_bytes c.put_further.new.text) (string_bytes c.args.text.now ++ flat_map further (drop 1 c.args.inputs.now))
      c.args.inputs.now c.loop-node.place _ c.in-Some.ensures.entry c.in_ok-put_further.ensures.text c.loop-node.invariant.text;
  fits = fits_more c.args.inputs.now c.loop-node.place _ c.in-Some.ensures.entry c.put_further.ensures.fits c.loop-node.invariant.fits;
}

pub returns-clause-text : goal.returns-clause-text
returns-clause-text c =
    all_written (string_bytes c.loop-node.text) (string_bytes c.args.text.now ++ flat_map further (drop 1 c.args.inputs.now))
    c.args.inputs.now c.loop-node.place c.in_default.ensures.entry c.loop-node.invariant.text

pub returns-clause-fits : goal.returns-clause-fits
returns-clause-fits c = fits_all c.args.inputs.now c.loop-node.place c.in_default.ensures.entry c.loop-node.invariant.fits
