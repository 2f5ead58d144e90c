-- The commands that clap is given to parse.
use Rattle.std.specs.Prelude.{ℕ, pos, true, List, Some, codes}
use Rattle.clap.specs.Words.{App, Rule, new_app, new_rule, with_rule}
use Rattle.clap.specs.Simple.{on_top}
use Rattle.clap.specs.declared.builder.value_parser.ValueParser.{ValueParser}
use Rattle.clap.specs.declared.builder.value_parser.ValueParser.TheVariants.{Signed}

-- a command without `--help`
abbrev pub bare : List ℕ → App
bare name = on_top (λ s. record s { disable_help_flag = true }) (new_app name)

abbrev pub text_rule : List ℕ → Rule
text_rule name = record (new_rule name) { long = Some name }

-- numbers of a `u8`
abbrev pub byte_parser : ValueParser
byte_parser = Signed (pos 0) (pos 255)

abbrev pub explore_app : App
explore_app = with_rule (with_rule (with_rule (bare (codes "explore"))
    (text_rule (codes "mapping")))
    (text_rule (codes "workers")))
    (record (text_rule (codes "make")) { parser = Some byte_parser })

abbrev pub make_app : App
make_app = with_rule (bare (codes "make")) (record (new_rule (codes "number")) { parser = Some byte_parser })
