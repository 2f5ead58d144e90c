-- What is written, and what is left to write.
use Rattle.std.proofs.Common.{◌≡◌, ◌++◌, drop, codes, string_bytes, flat_map}
use Rattle.kn_asm.specs.Printing.{slot_text}
use Rattle.kn_asm.proofs.printing.put_others.Given as goal

abbrev pub invariant-loop-slot : goal.invariant-loop-slot
invariant-loop-slot l = string_bytes l.text ++ flat_map (λ x. codes ", " ++ slot_text x l.row) (drop l.slot-index l.slots) ≡ string_bytes l.fn.text ++ flat_map (λ x. codes ", " ++ slot_text x l.row) l.slots
