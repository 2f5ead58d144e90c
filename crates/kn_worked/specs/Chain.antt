-- The generated chain of three nodes with three readings, over eight ticks.
use Rattle.std.specs.Prelude.{◌≡◌, ℕ, [], ◌∷◌, map, Some, None, length}
use Rattle.kn_code.specs.declared.program.Instr.TheVariants as instrs
use Rattle.kn_code.specs.Code.{Code}
use Rattle.kn_model.specs.Nets.{Network}
use Rattle.kn_worked.specs.Networks.{last, net_of, link, program, o, i}
use Rattle.kn_worked.specs.Tree.{losing}
use Rattle.kn_model.specs.Concrete.{concrete}
use Rattle.kn_model.specs.Scenarios.{name_of}

-- w readings, a timer at tick e
abbrev pub sink : ℕ → Code
sink e = program (Some 0) (Some 2) (Some 6) (instrs.Timer 0 e ∷ instrs.Ret ∷ instrs.Const 1 1 ∷ instrs.Add 2 2 1 ∷ instrs.Recvw 0 0 ∷ instrs.Ret ∷ instrs.Assert 2 ∷ instrs.Const 3 8 ∷ instrs.Ult 4 0 3 ∷ instrs.Brz 4 10 ∷ instrs.Ret ∷ [])

abbrev pub relay : Code
relay = program None (Some 0) None (instrs.Recvw 0 0 ∷ instrs.Send 0 0 1 ∷ instrs.Ret ∷ [])

abbrev pub source : ℕ → Code
source w = program (Some 0) None (Some 4) (instrs.Const 3 1 ∷ instrs.Const 4 w ∷ instrs.Timer 0 1 ∷ instrs.Ret ∷ instrs.Input 0 4 ∷ instrs.Send 0 0 1 ∷ instrs.Sub 4 4 3 ∷ instrs.Brz 4 9 ∷ instrs.Timer 0 1 ∷ instrs.Ret ∷ [])

abbrev pub chain : ℕ → Network
chain ticks = net_of ticks (sink 7 ∷ relay ∷ source 3 ∷ []) (losing 0 ∷ losing 1 ∷ losing 2 ∷ []) (link 1 0 1 ∷ link 2 1 1 ∷ [])

abbrev pub Members : ℕ → ℕ → Type 0
Members ticks count = length (last (chain ticks)) ≡ count

-- with the members that no inputs meet
abbrev pub FourTicks : Type 0
FourTicks = Members 4 18

-- the run on inputs that are all 0, to the end
abbrev pub EightTicksRun : Type 0
EightTicksRun = map name_of (concrete (chain 8) [] 8) ≡ (((o ∷ o ∷ o ∷ o ∷ o ∷ []) ∷ (o ∷ o ∷ o ∷ []) ∷ (o ∷ o ∷ i ∷ []) ∷ []) ∷ [])
