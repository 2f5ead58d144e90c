-- A name is text.
use Rattle.std.proofs.Common.{subst, sym, ◌∙◌}
use Rattle.std.specs.Str.{IsUtf8}
use Rattle.kn_netfile.proofs.Ascii.{name_utf8}
use Rattle.kn_netfile.proofs.printing.text_of.Goals as goal

pub unreachable-requires : goal.unreachable-requires
unreachable-requires c = c.in-Err.ensures.cases.0 (subst IsUtf8 (sym (c.deref.ensures.value ∙ c.name.view_is)) (name_utf8 c.args.name.now c.requires))
