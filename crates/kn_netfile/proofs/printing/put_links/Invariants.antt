-- What is written, and what is left to write.
use Rattle.std.proofs.Common.{◌≡◌, ◌++◌, drop, string_bytes, flat_map}
use Rattle.kn_netfile.specs.Printing.{link_text}
use Rattle.kn_netfile.proofs.printing.put_links.Given as goal

abbrev pub invariant-loop-link : goal.invariant-loop-link
invariant-loop-link l = string_bytes l.text ++ flat_map link_text (drop l.link-index l.links) ≡ string_bytes l.fn.text ++ flat_map link_text l.links
