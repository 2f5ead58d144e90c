-- What comes of one instruction leads to the paths of the way before it.
use Rattle.std.proofs.Common.{◌≡◌, ℕ, ◌+◌, ◌-◌, ◌<◌, arith, length, suc, Bool, true, false, List, [], ◌∷◌, ◌++◌, map, Option, Some, None, refl, sym, ap, subst, ◌∙◌, append_assoc}
use Rattle.std.specs.Prelude.{slice_get, nat_eq, ◌&&◌, ◌≤◌}
use Rattle.std.proofs.Common.{append-nil, inl}
use Rattle.std.specs.List.{AllByRecursion}
use Rattle.kn_code.specs.declared.program.Instr.{Instr}
use Rattle.kn_code.specs.declared.program.Instr.TheVariants as instrs
use Rattle.kn_term.specs.declared.node.Literal.{Literal as Listed}
use Rattle.kn_term.specs.Terms.{Term, Valuation}
use Rattle.kn_built.specs.Built.{Extends}
use Rattle.kn_term.specs.declared.node.Node.{Node}
use Rattle.kn_term.specs.Nodes.{term_at}
use Rattle.kn_term.proofs.Kept.{term_at-extends}
use Rattle.kn_cond.specs.declared.standing.Standing.{Standing}
use Rattle.kn_cond.specs.Conditions.{Condition, holds, that, IsImpossible, StandsFor}
use Rattle.kn_cond.specs.Meanings.{literal_of}
use Rattle.kn_model.specs.Values.{Literal, negated}
use Rattle.kn_model.specs.Terms.{terms}
use Rattle.kn_model.specs.Nodes.{Fuel, is_running}
use Rattle.kn_model.specs.Nets.{Network, Link, plan_of, code_of}
use Rattle.kn_code.specs.Code.{Code, no_code}
use Rattle.kn_model.specs.Laws.{SetsLater}
use Rattle.kn_model.proofs.Lists.{all-filter, all-get_or}
use Rattle.kn_model.specs.Rows.{Here, Way, Goes, Stops, Decides, effect, failed}
use Rattle.kn_model.specs.Paths.{Path, path_of, decided, goes_by, one_way}
use Rattle.kn_model.specs.Alikes.{ConditionAlike, AlikePath, AreGiven, OneByOne}
use Rattle.kn_model.proofs.OneByOne.{pairs-self, pairs-append}
use Rattle.kn_model.proofs.AlikeTerms.{holds_join, alike_self, condition_self, term_self, send_self}
use Rattle.kn_model.proofs.AlikeGiven.{IsShut, given_append, shut_ways}
use Rattle.kn_model.proofs.EachWay.{IsHere}
use Rattle.kn_machine.specs.Ways.{WayView, way_of, known_of, AlikeWay, IsRow, IsStill, AreStamped}
use Rattle.kn_packet.specs.Packets.{PacketView}
use Rattle.kn_step.specs.Sides.{IsFurther, Implies}
use Rattle.kn_machine.specs.Effects.{here_of, side_at, IsIn, IsDecision, IsStep, AlikeEffect}
use Rattle.kn_step.specs.Given.{onward, Leads, AreGivenSoFar}
use Rattle.kn_step.specs.Turns.{sided, split_paths, turned, IsSound, IsOn, IsTurn, TurnSplits}
use Rattle.kn_machine.specs.declared.rows.Step.{Step}
use Rattle.kn_machine.specs.declared.rows.Step.TheVariants as steps
use Rattle.kn_step.specs.declared.run.Turn.{Turn}
use Rattle.kn_step.specs.declared.run.Turn.TheVariants as turns
use Rattle.kn_machine.specs.declared.spot.Spot.{Spot}
use Rattle.kn_step.proofs.Onward.{opened, past, ended, effect_paths, goes_leads, stops_leads, decides_leads, sides_on, leads_alike, leads_through, onward_alike}

module _ (net : Network) (spot : Spot) where
  abbrev here : Here Term
  here = here_of net spot

  -- a way that has ended, or has left the program
  pub ended_leads : (fuel : ℕ) (v : Way Term) → is_running v.state.outcome ≡ false → Leads (path_of terms v ∷ []) (onward here fuel v)
  ended_leads fuel v e ps h = subst (λ (ws : List (Way Term)). AreGiven ps (map (path_of terms) ws)) (sym (ended here fuel v e)) h

  pub past_leads : (fuel : ℕ) (v : Way Term) → is_running v.state.outcome ≡ true → slice_get here.code.instrs v.pc ≡ None → Leads (path_of terms v ∷ []) (onward here (suc fuel) v)
  past_leads fuel v runs e ps h = subst (λ (ws : List (Way Term)). AreGiven ps (map (path_of terms) ws)) (sym (past here fuel v runs e)) h

  -- what leads to an effect's paths leads to those of the way before it
  pub effect_leads : (fuel : ℕ) (v : Way Term) (i : Instr) (qs : List (Path Term)) → is_running v.state.outcome ≡ true → slice_get here.code.instrs v.pc ≡ Some i
      → Leads qs (effect_paths here fuel (effect terms here i v)) → Leads qs (onward here (suc fuel) v)
  effect_leads fuel v i qs runs is l ps h = subst (λ (ws : List (Way Term)). AreGiven ps (map (path_of terms) ws)) (sym (opened here fuel v i runs is)) (l ps h)

  pub turn_goes : (fuel : ℕ) (v w : Way Term) (i : Instr) → is_running v.state.outcome ≡ true → slice_get here.code.instrs v.pc ≡ Some i → AlikeEffect (Goes w) (effect terms here i v)
      → Leads (onward here fuel w) (onward here (suc fuel) v)
  turn_goes fuel v w i runs is h = effect_leads fuel v i (onward here fuel w) runs is (goes_leads net spot fuel w (effect terms here i v) h)

  pub turn_stops : (fuel : ℕ) (v w : Way Term) (i : Instr) → is_running v.state.outcome ≡ true → slice_get here.code.instrs v.pc ≡ Some i → AlikeEffect (Stops w) (effect terms here i v)
      → Leads (path_of terms w ∷ []) (onward here (suc fuel) v)
  turn_stops fuel v w i runs is h = effect_leads fuel v i (path_of terms w ∷ []) runs is (stops_leads here fuel w (effect terms here i v) h)

  pub turn_decides : (fuel : ℕ) (v : Way Term) (w : WayView) (i : Instr) (l : Listed) (qs : List (Path Term)) → is_running v.state.outcome ≡ true → slice_get here.code.instrs v.pc ≡ Some i
      → AlikeEffect (Decides (literal_of w.terms l) (side_at here i false (way_of w)) (side_at here i true (way_of w))) (effect terms here i v)
      → Leads qs (split_paths here fuel i l w) → Leads qs (onward here (suc fuel) v)
  turn_decides fuel v w i l qs runs is h on =
      effect_leads fuel v i qs runs is
      (leads_through qs (split_paths here fuel i l w) (effect_paths here fuel (effect terms here i v)) on
      (decides_leads net spot fuel (literal_of w.terms l) (side_at here i false (way_of w)) (side_at here i true (way_of w)) (effect terms here i v) h))

  -- a side whose condition no inputs meet may be left out
  shut_side : (bit : Bool) (l : Literal Term) (i : Instr) (w : Way Term) (known : Condition) → IsDecision i → ConditionAlike known (w.state.own ++ w.literals) → IsImpossible (that (known ++ l ∷ [])) → IsShut (decided terms bit l (side_at here i bit w))
  shut_side bit l i w known d alike shut =
      go i bit d
    where
      shuts : (a : Valuation) → holds a (w.state.own ++ (w.literals ++ l ∷ [])) ≡ false
      shuts a = ap (holds a) (sym (append_assoc w.state.own w.literals (l ∷ []))) ∙ (holds_join a (w.state.own ++ w.literals) (l ∷ []) ∙ (ap (λ (b : Bool). b && holds a (l ∷ [])) (sym (alike.holds a)) ∙ (sym (holds_join a known (l ∷ [])) ∙ shut a)))

      go : (i : Instr) (bit : Bool) → IsDecision i → IsShut (decided terms bit l (side_at here i bit w))
      go (instrs.Ldx a b m n) true d = shuts
      go (instrs.Ldx a b m n) false d = shuts
      go (instrs.Stx a b m n) true d = shuts
      go (instrs.Stx a b m n) false d = shuts
      go (instrs.Brz a to) true d = shuts
      go (instrs.Brz a to) false d = shuts
      go (instrs.Assert a) true d = shuts
      go (instrs.Assert a) false d = shuts
      go other bit d = absurd d

  pub first_shut : (good : IsHere here) (fuel : ℕ) (i : Instr) (l : Listed) (w : WayView) (known : Condition) (v : Way Term) → IsDecision i → ConditionAlike known ((way_of w).state.own ++ (way_of w).literals)
      → IsImpossible (that (known ++ literal_of w.terms l ∷ [])) → AlikeWay v (sided here i true l w) → Leads (onward here fuel v) (split_paths here fuel i l w)
  first_shut good fuel i l w known v d alike shut h ps given =
      given_append [] (onward here fuel (sided here i false l w)) ps (onward here fuel (sided here i true l w))
      (shut_ways here good fuel (sided here i false l w) (shut_side false (literal_of w.terms l) i (way_of w) known d alike shut))
      (leads_alike _ _ (onward_alike net spot fuel v (sided here i true l w) h) ps given)

  pub second_shut : (good : IsHere here) (fuel : ℕ) (i : Instr) (l : Listed) (w : WayView) (known : Condition) (v : Way Term) → IsDecision i → ConditionAlike known ((way_of w).state.own ++ (way_of w).literals)
      → IsImpossible (that (known ++ negated (literal_of w.terms l) ∷ [])) → AlikeWay v (sided here i false l w) → Leads (onward here fuel v) (split_paths here fuel i l w)
  second_shut good fuel i l w known v d alike shut h ps given =
      subst (λ (us : List (Path Term)). AreGiven us (split_paths here fuel i l w)) (append-nil ps)
      (given_append ps (onward here fuel (sided here i false l w)) [] (onward here fuel (sided here i true l w))
      (leads_alike _ _ (onward_alike net spot fuel v (sided here i false l w) h) ps given)
      (shut_ways here good fuel (sided here i true l w) (shut_side true (negated (literal_of w.terms l)) i (way_of w) known d alike shut)))

path_self : (p : Path Term) → AlikePath p p
path_self p = record { bits = refl; literals = condition_self p.literals; state = alike_self p.state; sends = pairs-self _ send_self p.sends }

-- paths are given of themselves
pub given_self : (qs : List (Path Term)) → AreGiven qs qs
given_self [] = tt
given_self (q ∷ qs) = inl (path_self q, given_self qs)

-- what is given so far of some paths is so of these with others behind them
pub so_far_append : (ps qs rs : List (Path Term)) → AreGivenSoFar ps qs → AreGivenSoFar ps (qs ++ rs)
so_far_append ps qs rs h = (h.0 ++ rs, subst (λ (us : List (Path Term)). AreGiven us (qs ++ rs)) (append_assoc ps h.0 rs) (given_append (ps ++ h.0) qs rs rs h.1 (given_self rs)))

-- and of others to which these lead, behind what is given
pub so_far_leads : (ps before qs rs : List (Path Term)) → AreGivenSoFar ps (before ++ qs) → OneByOne AlikePath qs rs → AreGivenSoFar ps (before ++ rs)
so_far_leads ps before qs rs h i = (h.0, leads_alike (before ++ qs) (before ++ rs) (pairs-append AlikePath before before qs rs (pairs-self AlikePath path_self before) i) (ps ++ h.0) h.1)

-- where an event runs at a node of a sound network
pub here_good : (net : Network) (spot : Spot) → IsIn net spot → IsHere (here_of net spot)
here_good net spot i = record {
  delays = subst (λ (ls : List Link). AllByRecursion (λ (l : Link). 1 ≤ l.delay) ls) (sym i.links) (all-filter (λ (l : Link). 1 ≤ l.delay) (λ (l : Link). nat_eq l.from spot.node) net.links i.sound.delays);
  timers = all-get_or (λ (c : Code). AllByRecursion SetsLater c.instrs) net.programs (plan_of net spot.node).program no_code i.sound.timers tt;
}

-- a literal in a longer list of terms
pub same_literal : (old new : List Node) (l : Listed) → Extends old new → l.term.index < length old → literal_of new l ≡ literal_of old l
same_literal old new l e h = ap (λ (t : Term). record { value = t; truth = l.truth }) (term_at-extends old new l.term.index e h)

-- one side of a decision is taken, and then the literal
pub go_way : (here : Here Term) (i : Instr) (bit : Bool) (old mid new : WayView) (l : Listed) → Extends old.terms mid.terms → l.term.index < length old.terms
    → AlikeWay (way_of mid) (side_at here i bit (way_of old)) → way_of new ≡ decided terms bit (literal_of mid.terms l) (way_of mid)
    → AlikeWay (way_of new) (decided terms bit (literal_of old.terms l) (side_at here i bit (way_of old)))
go_way here i bit old mid new l e h alike is =
    let x = term_at old.terms l.term.index in
    let same = same_literal old.terms mid.terms l e h in
    subst (λ (w : Way Term). AlikeWay w (decided terms bit (literal_of old.terms l) (side_at here i bit (way_of old)))) (sym is)
    (subst (λ (m : Literal Term). AlikeWay (decided terms bit m (way_of mid)) (decided terms bit (literal_of old.terms l) (side_at here i bit (way_of old)))) (sym same)
    (sides_on here bit (literal_of old.terms l) (literal_of old.terms l) (way_of mid) (side_at here i bit (way_of old)) (term_self x) refl alike))

-- what is known of a side stays
pub go_side : (conflicts : ℕ) (old mid : WayView) (l : Listed) (s : Option Standing) → Extends old.terms mid.terms → l.term.index < length old.terms → known_of mid ≡ known_of old
    → IsFurther conflicts (known_of old) (literal_of old.terms l) s → IsFurther conflicts (known_of mid) (literal_of mid.terms l) s
go_side conflicts old mid l s e h known side =
    subst (λ (c : Condition). IsFurther conflicts c (literal_of mid.terms l) s) (sym known)
    (subst (λ (m : Literal Term). IsFurther conflicts (known_of old) m s) (sym (same_literal old.terms mid.terms l e h)) side)

-- and so does what it implies
pub go_implied : (conflicts : ℕ) (c : Condition) (l : Literal Term) (s : Option Standing) → IsFurther conflicts c l s → s ≡ None → Implies c l
go_implied conflicts c l s h e = subst (IsFurther conflicts c l) e h

pub sound_still : (conflicts : ℕ) (v w : WayView) → known_of w ≡ known_of v → w.standing ≡ v.standing → IsSound conflicts v → IsSound conflicts w
sound_still conflicts v w known standing h =
    subst (λ (s : Standing). StandsFor conflicts (that (known_of w)) s) (sym standing) (subst (λ (c : Condition). StandsFor conflicts (that c) v.standing) (sym known) h)

-- a way that runs on
pub runs_on : (b d : Bool) → b ≡ d → b ≡ true → d ≡ true
runs_on b d e f = sym e ∙ f

-- the instruction at a way's place
pub at_instr : (program code : Code) (pc place : ℕ) (o : Option Instr) (i : Instr) → program ≡ code → pc ≡ place → o ≡ slice_get program.instrs pc → o ≡ Some i → slice_get code.instrs place ≡ Some i
at_instr program code pc place o i same at e is =
    sym (ap (λ (x : Code). slice_get x.instrs pc) same ∙ ap (λ (n : ℕ). slice_get code.instrs n) at) ∙ (sym e ∙ is)

module _ (net : Network) (spot : Spot) (v w : WayView) (i : Instr) (runs : is_running (way_of v).state.outcome ≡ true) (is : slice_get (code_of net spot.node).instrs v.pc ≡ Some i) (sound : IsSound net.limits.conflicts v) where
  on_still : IsRow spot.node spot.history v w → IsOn net spot v w
  on_still row = record { sound = sound_still net.limits.conflicts v w row.known row.standing sound; stamps = row.stamps }

  -- the instruction was carried out
  pub step_goes : (s : Step) → s ≡ steps.Goes → IsStep net spot i v w s → IsTurn net spot v w turns.Goes
  step_goes s e step =
      let made : IsStep net spot i v w steps.Goes = subst (IsStep net spot i v w) e step in
      record { leads = λ fuel. turn_goes net spot fuel (way_of v) (way_of w) i runs is made.effect; on = on_still made.row; splits = tt }

  pub step_stops : (s : Step) → s ≡ steps.Stops → IsStep net spot i v w s → IsTurn net spot v w turns.Ends
  step_stops s e step =
      let made : IsStep net spot i v w steps.Stops = subst (IsStep net spot i v w) e step in
      record { leads = λ fuel. turn_stops net spot fuel (way_of v) (way_of w) i runs is made.effect; on = on_still made.row; splits = tt }

  pub step_decides : (s : Step) (l : Listed) (u : WayView) (t : Turn) → s ≡ steps.Decides l → IsStep net spot i v w s → ((fuel : ℕ) → Leads (turned (here_of net spot) fuel t u) (split_paths (here_of net spot) fuel i l w)) → IsOn net spot w u → TurnSplits net spot u t
      → IsTurn net spot v u t
  step_decides s l u t e step leads on splits =
      let made : IsStep net spot i v w (steps.Decides l) = subst (IsStep net spot i v w) e step in
      record {
        leads = λ fuel. turn_decides net spot fuel (way_of v) w i l (turned (here_of net spot) fuel t u) runs is made.effect (leads fuel);
        on = record { sound = on.sound; stamps = λ h. on.stamps (made.row.stamps h) };
        splits = splits;
      }

pub on_self : (net : Network) (spot : Spot) (v : WayView) → IsSound net.limits.conflicts v → IsOn net spot v v
on_self net spot v sound = record { sound = sound; stamps = λ h. h }

pub on_through : (net : Network) (spot : Spot) (v w u : WayView) → IsOn net spot v w → IsOn net spot w u → IsOn net spot v u
on_through net spot v w u h i = record { sound = i.sound; stamps = λ s. i.stamps (h.stamps s) }

-- all instructions are left at first
pub leads_first : (here : Here Term) (fuel : ℕ) (w : Way Term) → Leads (onward here (fuel - 0) w) (onward here fuel w)
leads_first here fuel w ps h = let e : fuel - 0 ≡ fuel = omega arith in subst (λ (n : ℕ). AreGiven ps (onward here n w)) e h

-- one instruction of those that are left
pub leads_one : (here : Here Term) (fuel done : ℕ) (w : Way Term) (qs xs : List (Path Term)) → done < fuel → Leads (onward here (fuel - done) w) qs → Leads xs (onward here (suc (fuel - done - 1)) w) → Leads xs qs
leads_one here fuel done w qs xs h l one ps g = let e : suc (fuel - done - 1) ≡ fuel - done = omega (arith, h) in l ps (subst (λ (n : ℕ). AreGiven ps (onward here n w)) e (one ps g))

pub leads_next : (here : Here Term) (fuel done : ℕ) (w u : Way Term) (qs : List (Path Term)) → done < fuel → Leads (onward here (fuel - done) w) qs → ((left : ℕ) → Leads (onward here left u) (onward here (suc left) w)) → Leads (onward here (fuel - (done + 1)) u) qs
leads_next here fuel done w u qs h l turn ps g =
    let e : fuel - (done + 1) ≡ fuel - done - 1 = omega (arith, h) in
    leads_one here fuel done w qs (onward here (fuel - done - 1) u) h l (turn (fuel - done - 1)) ps (subst (λ (n : ℕ). AreGiven ps (onward here n u)) e g)

-- none are left
pub leads_last : (here : Here Term) (fuel done : ℕ) (w : Way Term) (qs xs : List (Path Term)) → fuel ≤ done → Leads (onward here (fuel - done) w) qs → Leads xs (onward here 0 w) → Leads xs qs
leads_last here fuel done w qs xs h l last ps g = let e : 0 ≡ fuel - done = omega (arith, h) in l ps (subst (λ (n : ℕ). AreGiven ps (onward here n w)) e (last ps g))

-- a running way without fuel fails
pub fuel_leads : (here : Here Term) (v : Way Term) → is_running v.state.outcome ≡ true → Leads (path_of terms (failed terms here Fuel v) ∷ []) (onward here 0 v)
fuel_leads here v e ps h =
    subst (λ (ws : List (Way Term)). AreGiven ps (map (path_of terms) ws)) (sym (ap (λ (b : Bool). goes_by b (λ (u : Way Term). failed terms here Fuel u ∷ []) (one_way terms) v) e)) h

-- what comes of a turn, by what it is
pub turn_is : (net : Network) (spot : Spot) (v w : WayView) (t s : Turn) → t ≡ s → IsTurn net spot v w t → IsTurn net spot v w s
turn_is net spot v w t s e h = subst (IsTurn net spot v w) e h

pub still_on : (net : Network) (spot : Spot) (v w : WayView) → IsStill v w → IsSound net.limits.conflicts v → IsOn net spot v w
still_on net spot v w s sound = record {
  sound = sound_still net.limits.conflicts v w s.known s.standing sound;
  stamps = λ h. subst (λ (ps : List PacketView). AreStamped spot.node spot.history ps) (sym s.sends) h;
}
