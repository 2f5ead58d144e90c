use Rattle.std.proofs.Common.{string_bytes, ap, ◌∙◌, ◌++◌, flat_map}
use Rattle.kn_plan.specs.Files.{File}
use Rattle.kn_netfile.specs.Printing.{limits_text, input_text}
use Rattle.kn_netfile.proofs.Written.{file_written}
use Rattle.kn_netfile.proofs.printing.print.Goals as goal

pub returns : goal.returns
returns c =
    let is = c.net.view_is in
    file_written (string_bytes c.new-text.result) (string_bytes c.put_limits.new.text) (string_bytes c.put_programs.new.text) (string_bytes c.put_nodes.new.text) (string_bytes c.put_links.new.text) (string_bytes c.put_inputs.new.text)
    c.args.net.now c.deref.result.now c.deref-3.result.now c.deref-2.result.now c.deref-4.result.now c.deref-5.result.now
    (c.deref.ensures.value ∙ ap (λ (f : File). f.names) is) (c.deref-2.ensures.value ∙ ap (λ (f : File). f.network.programs) is) (c.deref-3.ensures.value ∙ ap (λ (f : File). f.names) is)
    (c.deref-4.ensures.value ∙ ap (λ (f : File). f.network.nodes) is) (c.deref-5.ensures.value ∙ ap (λ (f : File). f.network.links) is)
    c.new-text.ensures.bytes (c.in_ok-put_limits.ensures ∙ ap (λ (f : File). string_bytes c.new-text.result ++ limits_text f.network.limits) is)
    c.in_ok-put_programs.ensures c.in_ok-put_nodes.ensures c.in_ok-put_links.ensures
    (c.in_ok-put_inputs.ensures ∙ ap (λ (f : File). string_bytes c.put_links.new.text ++ flat_map input_text f.inputs) is)
