-- What the parts of a row do, one after another, and what a row is of them.
use Rattle.std.proofs.Common.{◌≡◌, ℕ, ◌<◌, ◌≤◌, take, drop, Bool, true, false, List, [], ◌∷◌, refl, Result, Ok, Err, ap, sym, subst, ◌∙◌, eq-eqb, arith}
use Rattle.std.specs.Prelude.{length, if◌then◌else◌, IfOk}
use Rattle.std.specs.List.{AllByRecursion}
use Rattle.kn_built.specs.Built.{Extends}
use Rattle.kn_built.proofs.BuiltLaws.{extends-same, extends-twice}
use Rattle.kn_word.specs.declared.Op.{Op}
use Rattle.kn_code.specs.declared.program.Instr.{Instr}
use Rattle.kn_code.specs.declared.program.Instr.TheVariants as instrs
use Rattle.kn_term.specs.declared.node.Node.{Node}
use Rattle.kn_term.specs.declared.node.Literal.{Literal as Listed}
use Rattle.kn_term.specs.Terms.{Term, Apply}
use Rattle.kn_term.specs.Nodes.{term_at}
use Rattle.kn_term.proofs.Kept.{term_at-extends, nodes-extends}
use Rattle.kn_model.specs.Terms.{terms}
use Rattle.kn_model.specs.Nodes.{Failed, Fuel}
use Rattle.kn_model.specs.Values.{Literal}
use Rattle.kn_model.specs.Nets.{Network, Link}
use Rattle.kn_model.specs.Rows.{Way, Goes, Stops, Decides, effect, sets, next, counted, with_register, with_outcome, failed, fresh_input, register, in_range, operate, sends_over, link_at}
use Rattle.kn_model.specs.Alikes.{TermAlike, ConditionAlike, AlikeSend}
use Rattle.kn_model.proofs.OneByOne.{pairs-through}
use Rattle.kn_model.proofs.Lists.{all-take, all-drop}
use Rattle.kn_model.proofs.AlikeRows.{sets_to}
use Rattle.kn_model.proofs.AlikeTerms.{keeps_terms, term_self, term_through, alike_through, condition_through, send_through}
use Rattle.kn_machine.specs.Ways.{WayView, way_of, AreStamped, IsStill, IsGrown, IsChanged, IsRow, AlikeWay}
use Rattle.kn_machine.specs.Effects.{here_of, effect_seen, side_at, AlikeEffect, IsStep, IsOperateStep, IsRangeStep, IsSendStep, IsDecision}
use Rattle.kn_machine.specs.declared.spot.Spot.{Spot}
use Rattle.kn_machine.specs.declared.rows.Step.{Step}
use Rattle.kn_machine.specs.declared.rows.Step.TheVariants as steps
use Rattle.kn_machine.proofs.Likeness.{way_self}

-- a way is alike to another through a third
pub way_through : (w v u : Way Term) → AlikeWay w v → AlikeWay v u → AlikeWay w u
way_through w v u h i = record {
  state = alike_through w.state v.state u.state h.state i.state;
  pc = h.pc ∙ i.pc;
  bits = h.bits ∙ i.bits;
  literals = condition_through w.literals v.literals u.literals h.literals i.literals;
  sends = pairs-through AlikeSend AlikeSend AlikeSend send_through w.sends v.sends u.sends h.sends i.sends;
}

-- what grows and what stays, one after another
pub grown_self : (v : WayView) → IsGrown v v
grown_self v = record { way = refl; terms = extends-same v.terms; known = refl; standing = refl; sends = refl }

pub still_self : (v : WayView) → IsStill v v
still_self v = record { terms = refl; known = refl; standing = refl; sends = refl }

pub grown_through : (v u w : WayView) → IsGrown v u → IsGrown u w → IsGrown v w
grown_through v u w h i = record { way = i.way ∙ h.way; terms = extends-twice v.terms u.terms w.terms h.terms i.terms; known = i.known ∙ h.known; standing = i.standing ∙ h.standing; sends = i.sends ∙ h.sends }

pub still_through : (v u w : WayView) → IsStill v u → IsStill u w → IsStill v w
still_through v u w h i = record { terms = i.terms ∙ h.terms; known = i.known ∙ h.known; standing = i.standing ∙ h.standing; sends = i.sends ∙ h.sends }

pub changed_of : (v u w : WayView) → IsGrown v u → IsStill u w → IsChanged v w
changed_of v u w h i = record { terms = subst (λ (ns : List Node). Extends v.terms ns) (sym i.terms) h.terms; known = i.known ∙ h.known; standing = i.standing ∙ h.standing; sends = i.sends ∙ h.sends }

pub changed_through : (v u w : WayView) → IsChanged v u → IsChanged u w → IsChanged v w
changed_through v u w h i = record { terms = extends-twice v.terms u.terms w.terms h.terms i.terms; known = i.known ∙ h.known; standing = i.standing ∙ h.standing; sends = i.sends ∙ h.sends }

pub changed_then : (v u w : WayView) → IsChanged v u → IsStill u w → IsChanged v w
changed_then v u w h i = changed_through v u w h (changed_of u u w (grown_self u) i)

pub changed_row : (node history : ℕ) (v w : WayView) → IsChanged v w → IsRow node history v w
changed_row node history v w h = record { known = h.known; standing = h.standing; stamps = λ s. subst (AreStamped node history) (sym h.sends) s }

-- a term that stands stays what it is
pub kept_at : (v u : WayView) (place : ℕ) → IsGrown v u → place < length v.terms → term_at u.terms place ≡ term_at v.terms place
kept_at v u place h inside = term_at-extends v.terms u.terms place h.terms inside

pub grown_stands : (v u : WayView) (place : ℕ) → IsGrown v u → place < length v.terms → place < length u.terms
grown_stands v u place h inside = omega (arith, nodes-extends v.terms u.terms h.terms, inside)

-- a register of a way that has grown
pub grown_register : (v u : WayView) (b : ℕ) (x : Term) → IsGrown v u → x ≡ register terms (way_of u) b → x ≡ register terms (way_of v) b
grown_register v u b x h e = e ∙ ap (λ (z : Way Term). register terms z b) h.way

-- terms that are equal are alike
pub equal_alike : (x y : Term) → x ≡ y → TermAlike x y
equal_alike x y e = subst (TermAlike x) e (term_self x)

-- a row that changes the way and goes on, and one that stops
pub goes_step : (net : Network) (spot : Spot) (i : Instr) (v w : WayView) (s : Step) → s ≡ steps.Goes → IsChanged v w → AlikeEffect (Goes (way_of w)) (effect terms (here_of net spot) i (way_of v)) → IsStep net spot i v w s
goes_step net spot i v w s e h alike =
    subst (IsStep net spot i v w) (sym e) (record { effect = alike; row = changed_row spot.node spot.history v w h; grows = h.terms; decides = tt })

stops_step : (net : Network) (spot : Spot) (i : Instr) (v w : WayView) → IsChanged v w → AlikeEffect (Stops (way_of w)) (effect terms (here_of net spot) i (way_of v)) → IsStep net spot i v w steps.Stops
stops_step net spot i v w h alike = record { effect = alike; row = changed_row spot.node spot.history v w h; grows = h.terms; decides = tt }

-- a register is set to a term that is alike
pub set_alike : (v u w : Way Term) (a : ℕ) (x t : Term) → u ≡ with_register terms v a x → w ≡ next terms u → TermAlike x t → AlikeEffect (Goes w) (sets terms v a t)
set_alike v u w a x t e f h =
    subst (λ (z : Way Term). AlikeEffect (Goes z) (sets terms v a t)) (sym (f ∙ ap (next terms) e))
    (sets_to terms terms TermAlike ConditionAlike ConditionAlike keeps_terms v v (way_self v) a x t h)

-- what setting a register to a term does
abbrev pub IsSet : WayView → WayView → ℕ → Term → Type 0
IsSet u w a x = (y : Term) → TermAlike x y → AlikeEffect (Goes (way_of w)) (sets terms (way_of u) a y)

-- a row that makes a term and sets a register to it
pub set_step : (net : Network) (spot : Spot) (i : Instr) (v u w : WayView) (s : Step) (a : ℕ) (x t : Term) → effect terms (here_of net spot) i (way_of v) ≡ sets terms (way_of v) a t
    → IsGrown v u → TermAlike x t → IsSet u w a x → IsStill u w → s ≡ steps.Goes → IsStep net spot i v w s
set_step net spot i v u w s a x t is grown alike goes still e =
    goes_step net spot i v w s e (changed_of v u w grown still)
    (subst (AlikeEffect (Goes (way_of w))) (sym is) (subst (λ (z : Way Term). AlikeEffect (Goes (way_of w)) (sets terms z a t)) grown.way (goes t alike)))

-- an operator did on two registers
pub operate_step : (net : Network) (spot : Spot) (op : Op) (a b c : ℕ) (v u w : WayView) (s : Step) (x : Term) → IsGrown v u → TermAlike x (Apply op (register terms (way_of v) b) (register terms (way_of v) c))
    → IsSet u w a x → IsStill u w → s ≡ steps.Goes → IsOperateStep net spot op a b c v w s
operate_step net spot op a b c v u w s x grown alike goes still e =
    let h = changed_of v u w grown still in
    record {
      goes = e;
      effect = subst (λ (z : Way Term). AlikeEffect (Goes (way_of w)) (sets terms z a (Apply op (register terms (way_of v) b) (register terms (way_of v) c)))) grown.way (goes (Apply op (register terms (way_of v) b) (register terms (way_of v) c)) alike);
      row = changed_row spot.node spot.history v w h;
      grows = h.terms;
    }

-- a row of an operator
pub operated : (net : Network) (spot : Spot) (i : Instr) (op : Op) (a b c : ℕ) (v w : WayView) (s : Step) → effect terms (here_of net spot) i (way_of v) ≡ operate terms op (way_of v) a b c → IsOperateStep net spot op a b c v w s → IsStep net spot i v w s
operated net spot i op a b c v w s is h =
    subst (IsStep net spot i v w) (sym h.goes) (record { effect = subst (AlikeEffect (Goes (way_of w))) (sym is) h.effect; row = h.row; grows = h.grows; decides = tt })

-- an operator on a register and a term
pub applied : (v u : WayView) (op : Op) (b : ℕ) (x y y' z : Term) → IsGrown v u → x ≡ register terms (way_of u) b → TermAlike y y' → TermAlike z (Apply op x y) → TermAlike z (Apply op (register terms (way_of v) b) y')
applied v u op b x y y' z grown is alike made =
    term_through z (Apply op x y) (Apply op (register terms (way_of v) b) y') made
    (keeps_terms.apply op x (register terms (way_of v) b) y y' (equal_alike x (register terms (way_of v) b) (grown_register v u b x grown is)) alike)

-- an operator on a term that stood before, and another
pub compared : (v u : WayView) (op : Op) (place other : ℕ) (y z : Term) → IsGrown v u → place < length v.terms → TermAlike (term_at u.terms other) y → TermAlike z (Apply op (term_at u.terms place) (term_at u.terms other))
    → TermAlike z (Apply op (term_at v.terms place) y)
compared v u op place other y z grown inside alike made =
    let x = term_at u.terms place in
    term_through z (Apply op x (term_at u.terms other)) (Apply op (term_at v.terms place) y) made
    (keeps_terms.apply op x (term_at v.terms place) (term_at u.terms other) y (equal_alike x (term_at v.terms place) (kept_at v u place grown inside)) alike)

-- a row that changes the machine or the place, and no term
pub still_step : (net : Network) (spot : Spot) (i : Instr) (v w : WayView) (s : Step) → s ≡ steps.Goes → IsStill v w → effect terms (here_of net spot) i (way_of v) ≡ Goes (way_of w) → IsStep net spot i v w s
still_step net spot i v w s e still is =
    goes_step net spot i v w s e (changed_of v v w (grown_self v) still) (subst (AlikeEffect (Goes (way_of w))) (sym is) (way_self (way_of w)))

-- then the next instruction comes
pub next_step : (net : Network) (spot : Spot) (i : Instr) (v u w : WayView) (z : Way Term) → effect terms (here_of net spot) i (way_of v) ≡ Goes (next terms z) → way_of u ≡ z → way_of w ≡ next terms (way_of u) → IsStill v u → IsStill u w
    → IsStep net spot i v w steps.Goes
next_step net spot i v u w z is e f still more =
    still_step net spot i v w steps.Goes refl (still_through v u w still more) (is ∙ ap (λ (y : Way Term). Goes y) (sym (f ∙ ap (next terms) e)))

pub stop_step : (net : Network) (spot : Spot) (i : Instr) (v w : WayView) → IsStill v w → effect terms (here_of net spot) i (way_of v) ≡ Stops (way_of w) → IsStep net spot i v w steps.Stops
stop_step net spot i v w still is =
    stops_step net spot i v w (changed_of v v w (grown_self v) still) (subst (AlikeEffect (Stops (way_of w))) (sym is) (way_self (way_of w)))

-- a row that decides by a literal that is alike
pub decide_step : (net : Network) (spot : Spot) (i : Instr) (v w : WayView) (l : Listed) (m : Literal Term) → IsDecision i
    → effect terms (here_of net spot) i (way_of v) ≡ Decides m (side_at (here_of net spot) i false (way_of v)) (side_at (here_of net spot) i true (way_of v))
    → IsGrown v w → l.term.index < length w.terms → TermAlike (term_at w.terms l.term.index) m.value → l.truth ≡ m.truth → IsStep net spot i v w (steps.Decides l)
decide_step net spot i v w l m decides is grown inside alike truth =
    let here = here_of net spot in
    let h = changed_of v w w grown (still_self w) in
    let side : (bit : Bool) → AlikeWay (side_at here i bit (way_of w)) (side_at here i bit (way_of v)) = λ bit.
    subst (λ (z : Way Term). AlikeWay (side_at here i bit (way_of w)) (side_at here i bit z)) grown.way (way_self (side_at here i bit (way_of w))) in
    record {
      effect = subst (AlikeEffect (effect_seen here i (steps.Decides l) w)) (sym is) ((alike, truth), side false, side true);
      row = changed_row spot.node spot.history v w h;
      grows = h.terms;
      decides = (inside, decides);
    }

-- a row that decides whether an index is in range
pub range_step : (net : Network) (spot : Spot) (i : Instr) (b n : ℕ) (v w : WayView) (s : Step) → IsDecision i
    → effect terms (here_of net spot) i (way_of v) ≡ Decides (in_range terms (way_of v) b n) (side_at (here_of net spot) i false (way_of v)) (side_at (here_of net spot) i true (way_of v))
    → IsRangeStep v b n w s → IsGrown v w → IsStep net spot i v w s
range_step net spot i b n v w steps.Goes decides is h grown = absurd h
range_step net spot i b n v w steps.Stops decides is h grown = absurd h
range_step net spot i b n v w (steps.Decides l) decides is h grown = decide_step net spot i v w l (in_range terms (way_of v) b n) decides is grown h.0 h.1 h.2

-- no input is left
pub input_full : (net : Network) (spot : Spot) (a width : ℕ) (v w : WayView) → v.machine.inputs ≡ 65535 → way_of w ≡ with_outcome terms (way_of v) (Failed Fuel v.pc spot.tick) → IsStill v w → IsStep net spot (instrs.Input a width) v w steps.Stops
input_full net spot a width v w full e still =
    let here = here_of net spot in
    stop_step net spot (instrs.Input a width) v w still
    (ap (λ (b : Bool). if b then Stops (failed terms here Fuel (way_of v)) else Goes (next terms (counted terms (with_register terms (way_of v) a (fresh_input terms here (way_of v) width))))) (eq-eqb v.machine.inputs 65535 full)
    ∙ ap (λ (y : Way Term). Stops y) (sym e))

-- sends do not decide
no_decision : (b : Bool) (x y : Way Term) (l : Literal Term) (w u : Way Term) → AlikeEffect (Decides l w u) (if b then Stops x else Goes y) → ⊥
no_decision true x y l w u h = h
no_decision false x y l w u h = h

-- a row of sends
pub sent_step : (net : Network) (spot : Spot) (i : Instr) (b n : ℕ) (links : List Link) (v w : WayView) (s : Step) → effect terms (here_of net spot) i (way_of v) ≡ sends_over terms (here_of net spot) (way_of v) b n links
    → IsSendStep net spot b n links v w s → IsStep net spot i v w s
sent_step net spot i b n links v w steps.Goes is h = record { effect = subst (AlikeEffect (Goes (way_of w))) (sym is) h.effect; row = h.row; grows = h.grows; decides = tt }
sent_step net spot i b n links v w steps.Stops is h = record { effect = subst (AlikeEffect (Stops (way_of w))) (sym is) h.effect; row = h.row; grows = h.grows; decides = tt }
sent_step net spot i b n links v w (steps.Decides l) is h =
    absurd (no_decision _ _ _ _ _ _ h.effect)

-- the same of a result
pub range_row : {X : Type 0} → (net : Network) (spot : Spot) (i : Instr) (b n : ℕ) (v w : WayView) (r : Result Step X) → IsDecision i
    → effect terms (here_of net spot) i (way_of v) ≡ Decides (in_range terms (way_of v) b n) (side_at (here_of net spot) i false (way_of v)) (side_at (here_of net spot) i true (way_of v))
    → IfOk r (IsRangeStep v b n w) → IfOk r (λ s. IsGrown v w) → IfOk r (IsStep net spot i v w)
range_row net spot i b n v w (Ok s) decides is h grown = range_step net spot i b n v w s decides is h grown
range_row net spot i b n v w (Err e) decides is h grown = tt

-- what an arm for an instruction did is what the instruction does
pub of_row : {X : Type 0} → (net : Network) (spot : Spot) (i j : Instr) (v w : WayView) (r : Result Step X) → i ≡ j → IfOk r (IsStep net spot j v w) → IfOk r (IsStep net spot i v w)
of_row net spot i j v w r is h = subst (λ (k : Instr). IfOk r (IsStep net spot k v w)) (sym is) h

pub of_operator : {X : Type 0} → (net : Network) (spot : Spot) (i j : Instr) (op : Op) (a b c : ℕ) (v w : WayView) (r : Result Step X) → i ≡ j → effect terms (here_of net spot) j (way_of v) ≡ operate terms op (way_of v) a b c
    → IfOk r (IsOperateStep net spot op a b c v w) → IfOk r (IsStep net spot i v w)
of_operator net spot i j op a b c v w (Ok s) is row h = operated net spot i op a b c v w s (ap (λ (k : Instr). effect terms (here_of net spot) k (way_of v)) is ∙ row) h
of_operator net spot i j op a b c v w (Err e) is row h = tt

-- the links of a number are few, and as short as all are
one_of : (ls : List Link) → length (take 1 ls) ≤ 16
one_of [] = omega arith
one_of (l ∷ ls) = omega arith

pub link_few : (ls : List Link) (number : ℕ) → length (link_at terms ls number) ≤ 16
link_few ls number = one_of (drop number ls)

pub link_short : (ls : List Link) (number : ℕ) → AllByRecursion (λ (l : Link). l.delay ≤ 65535) ls → AllByRecursion (λ (l : Link). l.delay ≤ 65535) (link_at terms ls number)
link_short ls number h = all-take (λ (l : Link). l.delay ≤ 65535) 1 (drop number ls) (all-drop (λ (l : Link). l.delay ≤ 65535) number ls h)
