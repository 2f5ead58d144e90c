-- The three programs of the generator.
use Rattle.std.specs.Prelude.{ℕ, [], ◌∷◌, Some, None}
use Rattle.kn_code.specs.declared.program.Instr.TheVariants.{Const, Brz, Input, Timer, Send, Recvw, Add, Sub, Ult, Assert, Ret}
use Rattle.kn_code.specs.Code.{Code}

-- boot (0) sets timer 0 to a tick; recv (2) counts packets in register 2 and keeps the last word in register 0; timer 0 (6)
-- asserts that some packet came, and branches on whether the last word is below 8
abbrev pub sink : ℕ → Code
sink tick = record {
  instrs = Timer 0 tick ∷ Ret ∷ Const 1 1 ∷ Add 2 2 1 ∷ Recvw 0 0 ∷ Ret ∷ Assert 2 ∷ Const 3 8 ∷ Ult 4 0 3 ∷ Brz 4 10 ∷ Ret ∷ [];
  handlers = Some 0 ∷ Some 2 ∷ Some 6 ∷ None ∷ None ∷ None ∷ None ∷ None ∷ None ∷ None ∷ [];
}

-- recv (0) sends the packet's word on
abbrev pub relay : Code
relay = record {
  instrs = Recvw 0 0 ∷ Send 0 0 1 ∷ Ret ∷ [];
  handlers = None ∷ Some 0 ∷ None ∷ None ∷ None ∷ None ∷ None ∷ None ∷ None ∷ None ∷ [];
}

-- boot (0) sets register 4 to how many readings are left; timer 0 (4) sends a reading of four bits in each tick from tick 1
-- on, as long as some are left
abbrev pub source : ℕ → Code
source readings = record {
  instrs = Const 3 1 ∷ Const 4 readings ∷ Timer 0 1 ∷ Ret ∷ Input 0 4 ∷ Send 0 0 1 ∷ Sub 4 4 3 ∷ Brz 4 9 ∷ Timer 0 1 ∷ Ret ∷ [];
  handlers = Some 0 ∷ None ∷ Some 4 ∷ None ∷ None ∷ None ∷ None ∷ None ∷ None ∷ None ∷ [];
}
