-- What a row makes of a way, apart from conditions, is made of the way apart from them.
use Rattle.std.proofs.Common.{◌≡◌, ℕ, ◌+◌, Bool, true, false, List, [], ◌∷◌, ◌++◌, length, Option, Some, None, refl, sym, ap, ◌∙◌}
use Rattle.std.specs.Prelude.{nat_lt, nat_eq, if◌then◌else◌}
use Rattle.std.proofs.lemmas.List.{map-append}
use Rattle.kn_code.specs.declared.program.Instr.{Instr}
use Rattle.kn_code.specs.declared.program.Instr.TheVariants as instrs
use Rattle.kn_model.specs.Packets.{Packet}
use Rattle.kn_model.specs.Nodes.{Fuel}
use Rattle.kn_model.specs.Nets.{Link}
use Rattle.kn_model.specs.Terms.{Valuation, words}
use Rattle.kn_model.specs.Rows.{Here, Way, Effect, Goes, Stops, effect, failed, next, packet_on, sent_on, sent_over, sends_over, span, link_at}
use Rattle.kn_model.specs.Paths.{effect_of}
use Rattle.kn_conc.specs.Ways.{bare, bare_packet, bare_way}

bare_if : (b : Bool) (e f : Effect ℕ) → bare (if b then e else f) ≡ (if b then bare e else bare f)
bare_if true e f = refl
bare_if false e f = refl

module _ (a : Valuation) (here : Here ℕ) where
  -- one send, and sends over some links, apart from conditions
  abbrev pub sent_bare : List ℕ → Link → Way ℕ → Way ℕ
  sent_bare ws l x = record x { state = record x.state { sent = x.state.sent + 1 }; sends = x.sends ++ bare_packet (packet_on (words a) here x ws l) ∷ [] }

  abbrev pub over_bare : List ℕ → List Link → Way ℕ → Way ℕ
  over_bare ws [] x = x
  over_bare ws (l ∷ ls) x = over_bare ws ls (sent_bare ws l x)

  pub sent_is : (ws : List ℕ) (l : Link) (w : Way ℕ) → bare_way (sent_on (words a) here ws l w) ≡ sent_bare ws l (bare_way w)
  sent_is ws l w =
      ap (λ (ps : List (Packet ℕ)). record (bare_way w) { state = record (bare_way w).state { sent = w.state.sent + 1 }; sends = ps }) (map-append bare_packet w.sends (packet_on (words a) here w ws l ∷ []))

  pub over_is : (ws : List ℕ) (ls : List Link) (w : Way ℕ) → bare_way (sent_over (words a) here ws ls w) ≡ over_bare ws ls (bare_way w)
  over_is ws [] w = refl
  over_is ws (l ∷ ls) w = over_is ws ls (sent_on (words a) here ws l w) ∙ ap (over_bare ws ls) (sent_is ws l w)

  abbrev pub sends_bare : (b n : ℕ) → List Link → Way ℕ → Effect ℕ
  sends_bare b n ls x =
      if nat_lt 65535 (x.state.sent + length ls) then Stops (failed (words a) here Fuel x)
      else Goes (next (words a) (over_bare (span (words a) x.state.registers b n) ls x))

  pub sends_is : (b n : ℕ) (ls : List Link) (w : Way ℕ) → bare (sends_over (words a) here w b n ls) ≡ sends_bare b n ls (bare_way w)
  sends_is b n ls w =
      let many = nat_lt 65535 (w.state.sent + length ls) in
      bare_if many (Stops (failed (words a) here Fuel w)) (Goes (next (words a) (sent_over (words a) here (span (words a) w.state.registers b n) ls w)))
      ∙ ap (λ (x : Way ℕ). if many then Stops (failed (words a) here Fuel (bare_way w)) else Goes (next (words a) x)) (over_is (span (words a) w.state.registers b n) ls w)

  -- sends from ways that are the same apart from conditions
  sends_same : (b n : ℕ) (ls : List Link) (w v : Way ℕ) → bare_way w ≡ bare_way v → bare (sends_over (words a) here w b n ls) ≡ bare (sends_over (words a) here v b n ls)
  sends_same b n ls w v e = sends_is b n ls w ∙ (ap (sends_bare b n ls) e ∙ sym (sends_is b n ls v))

  input_is : (r width : ℕ) (w : Way ℕ) → bare (effect (words a) here (instrs.Input r width) w) ≡ effect (words a) here (instrs.Input r width) (bare_way w)
  input_is r width w = bare_if (nat_eq w.state.inputs 65535) _ _

  -- any row
  pub row_same : (i : Instr) (w v : Way ℕ) → bare_way w ≡ bare_way v → bare (effect (words a) here i w) ≡ bare (effect (words a) here i v)
  row_same (instrs.Const r n) w v e = ap (effect (words a) here (instrs.Const r n)) e
  row_same (instrs.Mov r b) w v e = ap (effect (words a) here (instrs.Mov r b)) e
  row_same (instrs.Not r b) w v e = ap (effect (words a) here (instrs.Not r b)) e
  row_same (instrs.Ld r m) w v e = ap (effect (words a) here (instrs.Ld r m)) e
  row_same (instrs.St m r) w v e = ap (effect (words a) here (instrs.St m r)) e
  row_same (instrs.Ldx r b m n) w v e = ap (effect (words a) here (instrs.Ldx r b m n)) e
  row_same (instrs.Stx r b m n) w v e = ap (effect (words a) here (instrs.Stx r b m n)) e
  row_same (instrs.Jmp to) w v e = ap (effect (words a) here (instrs.Jmp to)) e
  row_same (instrs.Brz r to) w v e = ap (effect (words a) here (instrs.Brz r to)) e
  row_same (instrs.Input r width) w v e = input_is r width w ∙ (ap (effect (words a) here (instrs.Input r width)) e ∙ sym (input_is r width v))
  row_same (instrs.Timer number d) w v e = ap (effect (words a) here (instrs.Timer number d)) e
  row_same (instrs.Cancel number) w v e = ap (effect (words a) here (instrs.Cancel number)) e
  row_same (instrs.Send l b n) w v e = sends_same b n (link_at (words a) here.links l) w v e
  row_same (instrs.Bcast b n) w v e = sends_same b n here.links w v e
  row_same (instrs.Recvw r place) w v e = ap (effect (words a) here (instrs.Recvw r place)) e
  row_same (instrs.Add r b c) w v e = ap (effect (words a) here (instrs.Add r b c)) e
  row_same (instrs.Sub r b c) w v e = ap (effect (words a) here (instrs.Sub r b c)) e
  row_same (instrs.Mul r b c) w v e = ap (effect (words a) here (instrs.Mul r b c)) e
  row_same (instrs.And r b c) w v e = ap (effect (words a) here (instrs.And r b c)) e
  row_same (instrs.Or r b c) w v e = ap (effect (words a) here (instrs.Or r b c)) e
  row_same (instrs.Xor r b c) w v e = ap (effect (words a) here (instrs.Xor r b c)) e
  row_same (instrs.Shl r b c) w v e = ap (effect (words a) here (instrs.Shl r b c)) e
  row_same (instrs.Shr r b c) w v e = ap (effect (words a) here (instrs.Shr r b c)) e
  row_same (instrs.Sar r b c) w v e = ap (effect (words a) here (instrs.Sar r b c)) e
  row_same (instrs.Udiv r b c) w v e = ap (effect (words a) here (instrs.Udiv r b c)) e
  row_same (instrs.Urem r b c) w v e = ap (effect (words a) here (instrs.Urem r b c)) e
  row_same (instrs.Eq r b c) w v e = ap (effect (words a) here (instrs.Eq r b c)) e
  row_same (instrs.Ult r b c) w v e = ap (effect (words a) here (instrs.Ult r b c)) e
  row_same (instrs.Slt r b c) w v e = ap (effect (words a) here (instrs.Slt r b c)) e
  row_same (instrs.Rlen r) w v e = ap (effect (words a) here (instrs.Rlen r)) e
  row_same (instrs.Rfrom r) w v e = ap (effect (words a) here (instrs.Rfrom r)) e
  row_same (instrs.Assert r) w v e = ap (effect (words a) here (instrs.Assert r)) e
  row_same (instrs.Node r) w v e = ap (effect (words a) here (instrs.Node r)) e
  row_same (instrs.Now r) w v e = ap (effect (words a) here (instrs.Now r)) e
  row_same instrs.Ret w v e = ap (effect (words a) here instrs.Ret) e
  row_same instrs.Halt w v e = ap (effect (words a) here instrs.Halt) e

  pub effect_same : (o : Option Instr) (w v : Way ℕ) → bare_way w ≡ bare_way v → bare (effect_of (words a) here w o) ≡ bare (effect_of (words a) here v o)
  effect_same None w v e = ap (λ (x : Way ℕ). Stops x) e
  effect_same (Some i) w v e = row_same i w v e
