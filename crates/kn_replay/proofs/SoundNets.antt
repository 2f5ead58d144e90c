-- In a network that a file gives packets and timers come in later ticks.
use Rattle.std.proofs.Common.{◌≤◌, ℕ, List, [], ◌∷◌, length, arith}
use Rattle.std.specs.List.{AllByRecursion}
use Rattle.kn_code.specs.declared.program.Instr.{Instr}
use Rattle.kn_code.specs.declared.program.Instr.TheVariants.{Timer}
use Rattle.kn_code.specs.Code.{Code, IsInstr, IsValid, Stands, AllWithLeft}
use Rattle.kn_plan.specs.Nets.{Link}
use Rattle.kn_plan.specs.Valid.{IsLink}
use Rattle.kn_plan.specs.Files.{File, IsFile}
use Rattle.kn_model.specs.Laws.{IsNet, SetsLater}

sets_later : (count : ℕ) (i : Instr) → IsInstr count i → SetsLater i
sets_later count (Timer k d) h = grind (arith, h)
sets_later count other h = tt

all_set_later : (count : ℕ) (is : List Instr) → AllWithLeft (Stands count) is → AllByRecursion SetsLater is
all_set_later count [] h = tt
all_set_later count (i ∷ is) h = (sets_later count i h.0.0, all_set_later count is h.1)

-- timers of valid programs
programs_set_later : (programs : List Code) → AllByRecursion IsValid programs → AllByRecursion (λ (c : Code). AllByRecursion SetsLater c.instrs) programs
programs_set_later [] h = tt
programs_set_later (c ∷ cs) h = (all_set_later (length c.instrs) c.instrs h.0.instrs, programs_set_later cs h.1)

-- packets on links
links_later : (nodes : ℕ) (links : List Link) → AllByRecursion (IsLink nodes) links → AllByRecursion (λ (l : Link). 1 ≤ l.delay) links
links_later nodes [] h = tt
links_later nodes (l ∷ links) h = (h.0.least, links_later nodes links h.1)

-- it has what the laws of the model need
pub later_net : (file : File) → IsFile file → AllByRecursion IsValid file.network.programs → IsNet file.network
later_net file h valid = record {
  delays = links_later (length file.network.nodes) file.network.links h.network.joins;
  timers = programs_set_later file.network.programs valid;
}
