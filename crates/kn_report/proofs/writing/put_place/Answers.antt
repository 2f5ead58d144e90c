-- The pieces of a place.
use Rattle.std.specs.Prelude.{codes, decimal, flat_map, string_bytes}
use Rattle.std.proofs.lemmas.Result.{on_ok_weaker}
use Rattle.kn_report.specs.Texts.{inputs_text, behind_blank}
use Rattle.kn_report.proofs.Printed.{place_written}
use Rattle.kn_report.proofs.writing.put_place.Goals as goal

pub returns-clause-text : goal.returns-clause-text
returns-clause-text c =
    on_ok_weaker c.put_inputs.result
    (place_written (string_bytes c.args.text.now) _ _ _ _ (codes "reached dstate ") (decimal c.args.dstate) (codes " pick") (flat_map behind_blank c.args.pick.now) (codes " inputs ") (inputs_text c.args.inputs.now)
    c.in_ok-write.ensures.bytes c.in_ok-put_numbers.ensures.text c.in_ok-push_str.ensures.bytes)
    c.put_inputs.ensures.text
