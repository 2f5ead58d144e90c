-- The sides of a decision.
use Rattle.std.proofs.Common.{◌≡◌, ℕ, Bool, true, false, ◌++◌, ◌+◌, take, drop, refl, sym, subst}
use Rattle.kn_code.specs.declared.program.Instr.{Instr}
use Rattle.kn_code.specs.declared.program.Instr.TheVariants as instrs
use Rattle.kn_term.specs.Terms.{Term}
use Rattle.kn_model.specs.Terms.{terms}
use Rattle.kn_model.specs.Nodes.{Bounds}
use Rattle.kn_model.specs.Nets.{Network}
use Rattle.kn_model.specs.Rows.{Here, Way, Goes, sets, next, failed, element, register, span, with_element, with_memory}
use Rattle.kn_model.specs.Alikes.{TermAlike, ConditionAlike}
use Rattle.kn_model.proofs.AlikeRows.{goes_on}
use Rattle.kn_model.proofs.AlikeTerms.{keeps_terms}
use Rattle.kn_machine.specs.Ways.{WayView, way_of, IsGrown, AlikeWay}
use Rattle.kn_machine.specs.Effects.{here_of, side_at, AlikeEffect, IsDecision}
use Rattle.kn_machine.specs.declared.spot.Spot.{Spot}
use Rattle.kn_machine.proofs.Likeness.{way_self}
use Rattle.kn_machine.proofs.Stepping.{IsSet}

-- of the decisions that read no word at an index, bit 0 goes to the next instruction
pub plain_first : (here : Here Term) (i : Instr) (w : Way Term) → IsDecision i → ((a b m n : ℕ) → i ≡ instrs.Ldx a b m n → ⊥) → ((a b m n : ℕ) → i ≡ instrs.Stx a b m n → ⊥) → next terms w ≡ side_at here i false w
plain_first here (instrs.Const a n) w d first second = absurd d
plain_first here (instrs.Mov a b) w d first second = absurd d
plain_first here (instrs.Not a b) w d first second = absurd d
plain_first here (instrs.Ld a m) w d first second = absurd d
plain_first here (instrs.St m a) w d first second = absurd d
plain_first here (instrs.Ldx a b m n) w d first second = absurd (first a b m n refl)
plain_first here (instrs.Stx a b m n) w d first second = absurd (second a b m n refl)
plain_first here (instrs.Jmp to) w d first second = absurd d
plain_first here (instrs.Brz a to) w d first second = refl
plain_first here (instrs.Input a width) w d first second = absurd d
plain_first here (instrs.Timer k delay) w d first second = absurd d
plain_first here (instrs.Cancel k) w d first second = absurd d
plain_first here (instrs.Send l b n) w d first second = absurd d
plain_first here (instrs.Bcast b n) w d first second = absurd d
plain_first here (instrs.Recvw a k) w d first second = absurd d
plain_first here (instrs.Add a b c) w d first second = absurd d
plain_first here (instrs.Sub a b c) w d first second = absurd d
plain_first here (instrs.Mul a b c) w d first second = absurd d
plain_first here (instrs.And a b c) w d first second = absurd d
plain_first here (instrs.Or a b c) w d first second = absurd d
plain_first here (instrs.Xor a b c) w d first second = absurd d
plain_first here (instrs.Shl a b c) w d first second = absurd d
plain_first here (instrs.Shr a b c) w d first second = absurd d
plain_first here (instrs.Sar a b c) w d first second = absurd d
plain_first here (instrs.Udiv a b c) w d first second = absurd d
plain_first here (instrs.Urem a b c) w d first second = absurd d
plain_first here (instrs.Eq a b c) w d first second = absurd d
plain_first here (instrs.Ult a b c) w d first second = absurd d
plain_first here (instrs.Slt a b c) w d first second = absurd d
plain_first here (instrs.Rlen a) w d first second = absurd d
plain_first here (instrs.Rfrom a) w d first second = absurd d
plain_first here (instrs.Assert a) w d first second = refl
plain_first here (instrs.Node a) w d first second = absurd d
plain_first here (instrs.Now a) w d first second = absurd d
plain_first here instrs.Ret w d first second = absurd d
plain_first here instrs.Halt w d first second = absurd d

-- of the others, bit 1 fails
pub bounds_second : (here : Here Term) (i : Instr) (w : Way Term) → IsDecision i → ((a to : ℕ) → i ≡ instrs.Brz a to → ⊥) → ((a : ℕ) → i ≡ instrs.Assert a → ⊥) → failed terms here Bounds w ≡ side_at here i true w
bounds_second here (instrs.Const a n) w d first second = absurd d
bounds_second here (instrs.Mov a b) w d first second = absurd d
bounds_second here (instrs.Not a b) w d first second = absurd d
bounds_second here (instrs.Ld a m) w d first second = absurd d
bounds_second here (instrs.St m a) w d first second = absurd d
bounds_second here (instrs.Ldx a b m n) w d first second = refl
bounds_second here (instrs.Stx a b m n) w d first second = refl
bounds_second here (instrs.Jmp to) w d first second = absurd d
bounds_second here (instrs.Brz a to) w d first second = absurd (first a to refl)
bounds_second here (instrs.Input a width) w d first second = absurd d
bounds_second here (instrs.Timer k delay) w d first second = absurd d
bounds_second here (instrs.Cancel k) w d first second = absurd d
bounds_second here (instrs.Send l b n) w d first second = absurd d
bounds_second here (instrs.Bcast b n) w d first second = absurd d
bounds_second here (instrs.Recvw a k) w d first second = absurd d
bounds_second here (instrs.Add a b c) w d first second = absurd d
bounds_second here (instrs.Sub a b c) w d first second = absurd d
bounds_second here (instrs.Mul a b c) w d first second = absurd d
bounds_second here (instrs.And a b c) w d first second = absurd d
bounds_second here (instrs.Or a b c) w d first second = absurd d
bounds_second here (instrs.Xor a b c) w d first second = absurd d
bounds_second here (instrs.Shl a b c) w d first second = absurd d
bounds_second here (instrs.Shr a b c) w d first second = absurd d
bounds_second here (instrs.Sar a b c) w d first second = absurd d
bounds_second here (instrs.Udiv a b c) w d first second = absurd d
bounds_second here (instrs.Urem a b c) w d first second = absurd d
bounds_second here (instrs.Eq a b c) w d first second = absurd d
bounds_second here (instrs.Ult a b c) w d first second = absurd d
bounds_second here (instrs.Slt a b c) w d first second = absurd d
bounds_second here (instrs.Rlen a) w d first second = absurd d
bounds_second here (instrs.Rfrom a) w d first second = absurd d
bounds_second here (instrs.Assert a) w d first second = absurd (second a refl)
bounds_second here (instrs.Node a) w d first second = absurd d
bounds_second here (instrs.Now a) w d first second = absurd d
bounds_second here instrs.Ret w d first second = absurd d
bounds_second here instrs.Halt w d first second = absurd d

-- a side that is the definitions'
pub side_is : (here : Here Term) (i : Instr) (bit : Bool) (v w : Way Term) → w ≡ side_at here i bit v → AlikeWay w (side_at here i bit v)
side_is here i bit v w e = subst (AlikeWay w) e (way_self w)

-- a word is read at an index that is in range
pub read_side : (net : Network) (spot : Spot) (i : Instr) (a b m n : ℕ) (v u w : WayView) (x : Term) → i ≡ instrs.Ldx a b m n → IsGrown v u
    → TermAlike x (element terms (register terms (way_of v) b) 0 (span terms (way_of v).state.memory m n)) → IsSet u w a x → AlikeWay (way_of w) (side_at (here_of net spot) i false (way_of v))
read_side net spot i a b m n v u w x is grown alike goes =
    let t = element terms (register terms (way_of v) b) 0 (span terms (way_of v).state.memory m n) in
    let made : AlikeEffect (Goes (way_of w)) (sets terms (way_of v) a t) = subst (λ (z : Way Term). AlikeEffect (Goes (way_of w)) (sets terms z a t)) grown.way (goes t alike) in
    subst (λ (j : Instr). AlikeWay (way_of w) (side_at (here_of net spot) j false (way_of v))) (sym is) made

-- the way with a word written at an index
abbrev pub side_written : Way Term → (a b m n : ℕ) → Way Term
side_written w a b m n = with_memory terms w (take m w.state.memory ++ with_element terms (register terms w b) (register terms w a) 0 (span terms w.state.memory m n) ++ drop (m + n) w.state.memory)

-- a word is written at an index that is in range
pub written_side : (net : Network) (spot : Spot) (i : Instr) (a b m n : ℕ) (v u w : Way Term) → i ≡ instrs.Stx a b m n → AlikeWay u (side_written v a b m n) → w ≡ next terms u → AlikeWay w (side_at (here_of net spot) i false v)
written_side net spot i a b m n v u w is alike e =
    subst (λ (j : Instr). AlikeWay w (side_at (here_of net spot) j false v)) (sym is)
    (subst (λ (z : Way Term). AlikeWay z (next terms (side_written v a b m n))) (sym e) (goes_on terms terms TermAlike ConditionAlike ConditionAlike keeps_terms u (side_written v a b m n) alike))
