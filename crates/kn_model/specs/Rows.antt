-- What each instruction does to a way. A way is one course that an event can take, as far as it has come.
use Rattle.std.specs.Prelude.{ℕ, ◌+◌, Bool, true, if◌then◌else◌, nat_eq, nat_lt, List, [], ◌∷◌, ◌++◌, length, take, drop, Option, Some, None, slice_index_or, slice_set}
use Rattle.kn_word.specs.declared.Op.{Op}
use Rattle.kn_word.specs.declared.Op.TheVariants as ops
use Rattle.kn_code.specs.declared.program.Instr.{Instr}
use Rattle.kn_code.specs.declared.program.Instr.TheVariants as instrs
use Rattle.kn_code.specs.Code.{Code}
use Rattle.kn_model.specs.Values.{Literal, Values}
use Rattle.kn_model.specs.Packets.{Packet}
use Rattle.kn_model.specs.Nodes.{State, Outcome, Halted, Failed, FailKind, Assert, Bounds, Fuel}
use Rattle.kn_model.specs.Nets.{Link}

-- where an event runs: the node and the tick, the node's program and links, the fuel, and the packet, if it is of a packet
pub record Here (V : Type 0) : Type 0 where
  pub node : ℕ
  pub tick : ℕ
  pub code : Code
  pub links : List Link
  pub fuel : ℕ
  pub mail : Option (Packet V)

-- a way so far: its state, the instruction that comes next, its bits, its literals and what it sent
pub record Way (V : Type 0) : Type 0 where
  pub state : State V
  pub pc : ℕ
  pub bits : List Bool
  pub literals : List (Literal V)
  pub sends : List (Packet V)

-- what a row does: the way goes on, stops, or decides
pub data Effect (V : Type 0) : Type 0 where
  Goes : Way V → Effect V
  Stops : Way V → Effect V
  -- with bit 0 under the literal, and with bit 1 under its negation
  Decides : Literal V → Way V → Way V → Effect V

-- the payload of the event's packet, and its sender
abbrev pub payload_of : {V : Type 0} → Option (Packet V) → List V
payload_of None = []
payload_of (Some p) = p.payload

-- 65,535 outside a packet event
abbrev pub sender_of : {V : Type 0} → Option (Packet V) → ℕ
sender_of None = 65535
sender_of (Some p) = p.from

module _ {V : Type 0} (k : Values V) where
  -- the word of a register
  abbrev pub register : Way V → ℕ → V
  register w a = slice_index_or w.state.registers a (k.word 0)

  -- a register is set
  abbrev pub with_register : Way V → ℕ → V → Way V
  with_register w a x = record w { state = record w.state { registers = slice_set w.state.registers a x } }

  -- the memory is set
  abbrev pub with_memory : Way V → List V → Way V
  with_memory w ms = record w { state = record w.state { memory = ms } }

  -- a timer is set, or unset
  abbrev pub with_timer : Way V → ℕ → Option ℕ → Way V
  with_timer w number o = record w { state = record w.state { timers = slice_set w.state.timers number o } }

  -- the node ends
  abbrev pub with_outcome : Way V → Outcome → Way V
  with_outcome w o = record w { state = record w.state { outcome = o } }

  -- the node fails at this instruction, in this tick
  abbrev pub failed : Here V → FailKind → Way V → Way V
  failed here kind w = with_outcome w (Failed kind w.pc here.tick)

  -- the next instruction comes
  abbrev pub next : Way V → Way V
  next w = record w { pc = w.pc + 1 }

  -- this instruction comes
  abbrev pub jump : Way V → ℕ → Way V
  jump w to = record w { pc = to }

  -- a register is set, and the next instruction comes
  abbrev pub sets : Way V → ℕ → V → Effect V
  sets w a x = Goes (next (with_register w a x))

  -- an operator on two registers
  abbrev pub operate : Op → Way V → (a b c : ℕ) → Effect V
  operate op w a b c = sets w a (k.apply op (register w b) (register w c))

  -- the value that the node's next input has, and that it was made
  abbrev pub fresh_input : Here V → Way V → ℕ → V
  fresh_input here w width = k.input here.node w.state.inputs width

  -- one more input was made
  abbrev pub counted : Way V → Way V
  counted w = record w { state = record w.state { inputs = w.state.inputs + 1 } }

  -- that a value is not 0
  abbrev pub not_zero : V → Literal V
  not_zero x = record { value = x; truth = true }

  -- the element whose place, from this number on, is the index
  abbrev pub element : V → ℕ → List V → V
  element index place [] = k.word 0
  element index place (x ∷ xs) = k.choice (k.apply ops.Eq index (k.word place)) x (element index (place + 1) xs)

  -- these elements, with another one at the index
  abbrev pub with_element : V → V → ℕ → List V → List V
  with_element index new place [] = []
  with_element index new place (x ∷ xs) = k.choice (k.apply ops.Eq index (k.word place)) new x ∷ with_element index new (place + 1) xs

  -- n words from m on
  abbrev pub span : List V → ℕ → ℕ → List V
  span ms m n = take n (drop m ms)

  -- the index is below n
  abbrev pub in_range : Way V → ℕ → ℕ → Literal V
  in_range w b n = not_zero (k.apply ops.Ult (register w b) (k.word n))

  -- a packet over a link, with the condition of the sender so far as its guard
  abbrev pub packet_on : Here V → Way V → List V → Link → Packet V
  packet_on here w words link = record {
    from = here.node;
    seq = w.state.sent;
    copy = 0;
    to = link.to;
    arrival = here.tick + link.delay;
    payload = words;
    guard = w.state.own ++ w.literals;
    bits = w.bits;
  }

  -- a packet is sent over a link
  abbrev pub sent_on : Here V → List V → Link → Way V → Way V
  sent_on here words link w = record w { state = record w.state { sent = w.state.sent + 1 }; sends = w.sends ++ packet_on here w words link ∷ [] }

  -- and over these, one after another
  abbrev pub sent_over : Here V → List V → List Link → Way V → Way V
  sent_over here words [] w = w
  sent_over here words (l ∷ ls) w = sent_over here words ls (sent_on here words l w)

  -- sends over these links, unless they would be too many
  abbrev pub sends_over : Here V → Way V → (b n : ℕ) → List Link → Effect V
  sends_over here w b n ls =
      if nat_lt 65535 (w.state.sent + length ls) then Stops (failed here Fuel w)
      else Goes (next (sent_over here (span w.state.registers b n) ls w))

  -- a list of the link, or of none
  abbrev pub link_at : List Link → ℕ → List Link
  link_at ls l = take 1 (drop l ls)

  -- the row of an instruction
  abbrev pub effect : Here V → Instr → Way V → Effect V
  effect here (instrs.Const a n) w = sets w a (k.word n)
  effect here (instrs.Mov a b) w = sets w a (register w b)
  effect here (instrs.Not a b) w = sets w a (k.apply ops.Xor (register w b) (k.word 65535))
  effect here (instrs.Ld a m) w = sets w a (slice_index_or w.state.memory m (k.word 0))
  effect here (instrs.St m a) w = Goes (next (with_memory w (slice_set w.state.memory m (register w a))))
  effect here (instrs.Ldx a b m n) w =
      Decides (in_range w b n) (next (with_register w a (element (register w b) 0 (span w.state.memory m n)))) (failed here Bounds w)
  effect here (instrs.Stx a b m n) w =
      Decides (in_range w b n)
      (next (with_memory w (take m w.state.memory ++ with_element (register w b) (register w a) 0 (span w.state.memory m n) ++ drop (m + n) w.state.memory)))
      (failed here Bounds w)
  effect here (instrs.Jmp to) w = Goes (jump w to)
  effect here (instrs.Brz a to) w = Decides (not_zero (register w a)) (next w) (jump w to)
  effect here (instrs.Input a width) w =
      if nat_eq w.state.inputs 65535 then Stops (failed here Fuel w) else Goes (next (counted (with_register w a (fresh_input here w width))))
  effect here (instrs.Timer number d) w = Goes (next (with_timer w number (Some (here.tick + d))))
  effect here (instrs.Cancel number) w = Goes (next (with_timer w number None))
  effect here (instrs.Send l b n) w = sends_over here w b n (link_at here.links l)
  effect here (instrs.Bcast b n) w = sends_over here w b n here.links
  effect here (instrs.Recvw a place) w = sets w a (slice_index_or (payload_of here.mail) place (k.word 0))
  effect here (instrs.Add a b c) w = operate ops.Add w a b c
  effect here (instrs.Sub a b c) w = operate ops.Sub w a b c
  effect here (instrs.Mul a b c) w = operate ops.Mul w a b c
  effect here (instrs.And a b c) w = operate ops.And w a b c
  effect here (instrs.Or a b c) w = operate ops.Or w a b c
  effect here (instrs.Xor a b c) w = operate ops.Xor w a b c
  effect here (instrs.Shl a b c) w = operate ops.Shl w a b c
  effect here (instrs.Shr a b c) w = operate ops.Shr w a b c
  effect here (instrs.Sar a b c) w = operate ops.Sar w a b c
  effect here (instrs.Udiv a b c) w = operate ops.Udiv w a b c
  effect here (instrs.Urem a b c) w = operate ops.Urem w a b c
  effect here (instrs.Eq a b c) w = operate ops.Eq w a b c
  effect here (instrs.Ult a b c) w = operate ops.Ult w a b c
  effect here (instrs.Slt a b c) w = operate ops.Slt w a b c
  effect here (instrs.Rlen a) w = sets w a (k.word (length (payload_of here.mail)))
  effect here (instrs.Rfrom a) w = sets w a (k.word (sender_of here.mail))
  effect here (instrs.Assert a) w = Decides (not_zero (register w a)) (next w) (failed here Assert w)
  effect here (instrs.Node a) w = sets w a (k.word here.node)
  effect here (instrs.Now a) w = sets w a (k.word here.tick)
  effect here instrs.Ret w = Stops w
  effect here instrs.Halt w = Stops (with_outcome w Halted)
