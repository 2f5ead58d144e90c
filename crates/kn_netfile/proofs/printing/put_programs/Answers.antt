use Rattle.std.proofs.Common.{inl, inr, ◌++◌, string_bytes, flat_map, zip}
use Rattle.kn_netfile.specs.Printing.{program_text}
use Rattle.kn_netfile.proofs.Written.{programs_done}
use Rattle.kn_netfile.proofs.printing.put_programs.Goals as goal

pub returns : goal.returns
returns c =
    programs_done (string_bytes c.loop-name.text) (string_bytes c.args.text.now ++ flat_map program_text (zip c.args.names.now c.args.programs.now)) c.loop-name.name-iterator.a.rest.now c.loop-name.name-iterator.b.rest.now
    (elim c.in-None.ensures.steps [ inl e ↦ inl e.1.0 | inr e ↦ inr e.1.0 ]) c.loop-name.invariant.0
