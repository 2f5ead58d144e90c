-- What is written, and what is left to write, of programs whose names are in range.
use Rattle.std.proofs.Common.{◌≡◌, ◌++◌, string_bytes, flat_map, zip}
use Rattle.std.specs.List.{AllByRecursion}
use Rattle.kn_plan.specs.Files.{IsName}
use Rattle.kn_netfile.specs.Printing.{program_text}
use Rattle.kn_netfile.proofs.printing.put_programs.Given as goal

abbrev pub invariant-loop-name : goal.invariant-loop-name
invariant-loop-name l =
    (string_bytes l.text ++ flat_map program_text (zip l.name-iterator.a.rest.now l.name-iterator.b.rest.now) ≡ string_bytes l.fn.text ++ flat_map program_text (zip l.names l.programs))
    × AllByRecursion IsName l.name-iterator.a.rest.now
