-- The command as clap sees it, option by option.
use Rattle.std.proofs.Common.{◌≡◌, ◌∙◌, ap₂, codes, rules, Some}
use Rattle.std.proofs.lemmas.Result.{IfOk-weaker}
use Rattle.clap.specs.Words.{app_of, rule_of, with_rule}
use Rattle.kn_words.specs.Commands.{bare, byte_parser, text_rule}
use Rattle.kn_words.proofs.values.explore.Goals as goal

pub returns : goal.returns
returns c =
    let mapping : rule_of c.long-mapping.result ≡ text_rule (codes "mapping") = search rules in
    let workers : rule_of c.long-workers.result ≡ text_rule (codes "workers") = search rules in
    let make : rule_of c.value_parser-make.result ≡ record (text_rule (codes "make")) { parser = Some byte_parser } = search rules in
    let none : app_of c.disable_help_flag.result ≡ bare (codes "explore") = search rules in
    let one : app_of c.in_ok-arg.field-0 ≡ with_rule (bare (codes "explore")) (text_rule (codes "mapping")) =
    c.in_ok-arg.ensures.shape (search rules) ∙ ap₂ with_rule none mapping in
    let two : app_of c.in_ok-arg-2.field-0 ≡ with_rule (with_rule (bare (codes "explore")) (text_rule (codes "mapping"))) (text_rule (codes "workers")) =
    c.in_ok-arg-2.ensures.shape (search rules) ∙ ap₂ with_rule one workers in
    IfOk-weaker c.arg-3.result _ _ (λ command added. added.shape (search rules) ∙ ap₂ with_rule two make) c.arg-3.ensures
