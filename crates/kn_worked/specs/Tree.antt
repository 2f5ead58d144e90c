-- The collection tree of six nodes over twelve ticks.
use Rattle.std.specs.Prelude.{◌≡◌, ℕ, [], ◌∷◌, Some, None, length}
use Rattle.kn_code.specs.declared.program.Instr.TheVariants as instrs
use Rattle.kn_code.specs.Code.{Code}
use Rattle.kn_model.specs.Nets.{Network, Plan}
use Rattle.kn_worked.specs.Networks.{last, net_of, link, program}

abbrev pub sink : Code
sink = program (Some 0) (Some 2) (Some 7) (instrs.Timer 0 10 ∷ instrs.Ret ∷ instrs.Ld 1 0 ∷ instrs.Const 2 1 ∷ instrs.Add 1 1 2 ∷ instrs.St 0 1 ∷ instrs.Ret ∷ instrs.Ld 1 0 ∷ instrs.Assert 1 ∷ instrs.Ret ∷ [])

abbrev pub relay : Code
relay = program None (Some 0) None (instrs.Recvw 0 0 ∷ instrs.Send 0 0 1 ∷ instrs.Ret ∷ [])

abbrev pub leaf : Code
leaf = program (Some 0) None (Some 2) (instrs.Timer 0 1 ∷ instrs.Ret ∷ instrs.Input 0 8 ∷ instrs.Send 0 0 1 ∷ instrs.Ret ∷ [])

abbrev pub losing : ℕ → Plan
losing p = record { program = p; loss = 1; duplicate = 0; reboot = [] }

abbrev pub tree : Network
tree = net_of 12 (sink ∷ relay ∷ leaf ∷ []) (losing 0 ∷ losing 1 ∷ losing 1 ∷ losing 2 ∷ losing 2 ∷ losing 2 ∷ []) (link 1 0 1 ∷ link 2 0 1 ∷ link 3 1 1 ∷ link 4 2 1 ∷ link 5 0 1 ∷ [])

-- twelve possible members, and for each of them one in which the sink's assertion goes the other way
abbrev pub TreeMembers : Type 0
TreeMembers = length (last tree) ≡ 24
