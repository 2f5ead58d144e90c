use Rattle.std.proofs.Common.{List, ℕ, string_bytes, ap, ◌∙◌, ◌++◌, codes}
use Rattle.std.proofs.lemmas.Result.{on_ok_weaker}
use Rattle.kn_plan.specs.Nets.{Plan}
use Rattle.kn_netfile.specs.Printing.{line_text, number_line, numbers_text}
use Rattle.kn_netfile.proofs.Written.{node_written}
use Rattle.kn_netfile.proofs.printing.put_node.Goals as goal

pub returns : goal.returns
returns c =
    on_ok_weaker c.put_reboots.result
    (λ e. node_written (string_bytes c.args.text.now) (string_bytes c.put_header.new.text) (string_bytes c.put_text.new.text) (string_bytes c.put_number.new.text) (string_bytes c.put_number-2.new.text) (string_bytes c.put_reboots.new.text) c.program_name.result.now c.args.names.now c.args.plan.now c.program_name.ensures c.in_ok-put_header.ensures c.in_ok-put_text.ensures
    (c.in_ok-put_number.ensures ∙ ap (λ (p : Plan). string_bytes c.put_text.new.text ++ number_line (codes "loss") p.loss) c.plan.view_is)
    (c.in_ok-put_number-2.ensures ∙ ap (λ (p : Plan). string_bytes c.put_number.new.text ++ number_line (codes "duplicate") p.duplicate) c.plan.view_is)
    (e ∙ ap (λ (ts : List ℕ). string_bytes c.put_number-2.new.text ++ line_text (codes "reboot") (numbers_text ts)) (c.deref.ensures.value ∙ ap (λ (p : Plan). p.reboot) c.plan.view_is)))
    c.put_reboots.ensures
