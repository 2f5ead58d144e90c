-- What callers need to know of a map and a word of edges where their circuit became longer.
use Rattle.std.proofs.Common.{List}
use Rattle.kn_aig.specs.Circuits.{Extends}
use Rattle.kn_aig.specs.declared.gates.AigNode.{AigNode}
use Rattle.kn_blast.specs.declared.inputs.InputBits.{InputBits}
use Rattle.kn_blast.specs.Spelling.{Grows}
use Rattle.kn_blast.specs.Inputs.{bits_of, IsOpenIn}
use Rattle.kn_blast.proofs.Numbers.{AllStand-kept, number-kept}
use Rattle.kn_blast.proofs.Growing.{grows_same, grows_twice}
use Rattle.kn_blast.proofs.Laying.{begins_longer}

-- the circuit on which a map was opened became longer
pub open_kept : (old new : List AigNode) (entries : List InputBits) → Extends old new → IsOpenIn entries old → IsOpenIn entries new
open_kept old new entries e is = begins_longer old new e.0 (bits_of entries) e.1 is

-- a circuit that grew became longer
pub grown_longer : (old new : List AigNode) → Grows old new → Extends old new
grown_longer old new g = g.extends

pub ruleset kept = (open_kept, grown_longer, AllStand-kept, number-kept, grows_same, grows_twice)
