-- The paths that ways lead to, from alike ways.
use Rattle.std.proofs.Common.{◌≡◌, ℕ, zero, suc, Bool, true, false, List, [], ◌∷◌, ◌++◌, map, Option, Some, None, ap, sym, subst, ◌∙◌}
use Rattle.std.specs.Prelude.{slice_get}
use Rattle.std.proofs.lemmas.List.{map-append}
use Rattle.kn_code.specs.declared.program.Instr.{Instr}
use Rattle.kn_term.specs.Terms.{Term}
use Rattle.kn_model.specs.Values.{Literal, negated}
use Rattle.kn_model.specs.Terms.{terms}
use Rattle.kn_model.specs.Nodes.{Fuel, is_running}
use Rattle.kn_model.specs.Nets.{Network}
use Rattle.kn_model.specs.Rows.{Here, Way, Effect, Goes, Stops, Decides, effect, failed}
use Rattle.kn_model.specs.Paths.{Path, ways, path_of, decided, after, effect_of, effect_at, goes_by, one_way}
use Rattle.kn_model.specs.Alikes.{OneByOne, TermAlike, ConditionAlike, AlikePath}
use Rattle.kn_model.proofs.OneByOne.{pairs-map, pairs-append}
use Rattle.kn_model.proofs.AlikeRows.{decides}
use Rattle.kn_model.proofs.AlikeTerms.{keeps_terms, given_on}
use Rattle.kn_machine.specs.Ways.{AlikeWay}
use Rattle.kn_machine.specs.Effects.{here_of, AlikeEffect}
use Rattle.kn_machine.proofs.Likeness.{mail_self, ways_on, path_on}
use Rattle.kn_step.specs.Given.{onward, Leads}
use Rattle.kn_machine.specs.declared.spot.Spot.{Spot}

-- alike ways lead to alike paths
pub onward_alike : (net : Network) (spot : Spot) (fuel : ℕ) (w v : Way Term) → AlikeWay w v → OneByOne AlikePath (onward (here_of net spot) fuel w) (onward (here_of net spot) fuel v)
onward_alike net spot fuel w v h =
    pairs-map AlikeWay AlikePath (path_of terms) (path_of terms) path_on (ways terms (here_of net spot) fuel w) (ways terms (here_of net spot) fuel v) (ways_on net spot fuel w v h)

pub leads_alike : (qs rs : List (Path Term)) → OneByOne AlikePath qs rs → Leads qs rs
leads_alike qs rs i ps h = given_on ps qs rs h i

pub leads_through : (qs rs us : List (Path Term)) → Leads qs rs → Leads rs us → Leads qs us
leads_through qs rs us f g ps h = g ps (f ps h)

-- a running way at an instruction
pub opened : (here : Here Term) (fuel : ℕ) (v : Way Term) (i : Instr) → is_running v.state.outcome ≡ true → slice_get here.code.instrs v.pc ≡ Some i
    → ways terms here (suc fuel) v ≡ after terms (effect terms here i v) (ways terms here fuel)
opened here fuel v i runs is =
    ap (λ (b : Bool). goes_by b (λ (u : Way Term). after terms (effect_at terms here u) (ways terms here fuel)) (one_way terms) v) runs
    ∙ ap (λ (o : Option Instr). after terms (effect_of terms here v o) (ways terms here fuel)) is

-- a running way that has left the program
pub past : (here : Here Term) (fuel : ℕ) (v : Way Term) → is_running v.state.outcome ≡ true → slice_get here.code.instrs v.pc ≡ None → ways terms here (suc fuel) v ≡ v ∷ []
past here fuel v runs is =
    ap (λ (b : Bool). goes_by b (λ (u : Way Term). after terms (effect_at terms here u) (ways terms here fuel)) (one_way terms) v) runs
    ∙ ap (λ (o : Option Instr). after terms (effect_of terms here v o) (ways terms here fuel)) is

-- a way that has ended
pub ended : (here : Here Term) (fuel : ℕ) (v : Way Term) → is_running v.state.outcome ≡ false → ways terms here fuel v ≡ v ∷ []
ended here zero v e = ap (λ (b : Bool). goes_by b (λ (u : Way Term). failed terms here Fuel u ∷ []) (one_way terms) v) e
ended here (suc fuel) v e = ap (λ (b : Bool). goes_by b (λ (u : Way Term). after terms (effect_at terms here u) (ways terms here fuel)) (one_way terms) v) e

-- the paths of an effect
abbrev pub effect_paths : Here Term → ℕ → Effect Term → List (Path Term)
effect_paths here fuel e = map (path_of terms) (after terms e (ways terms here fuel))

pub goes_leads : (net : Network) (spot : Spot) (fuel : ℕ) (w : Way Term) (e : Effect Term) → AlikeEffect (Goes w) e → Leads (onward (here_of net spot) fuel w) (effect_paths (here_of net spot) fuel e)
goes_leads net spot fuel w (Goes v) h = leads_alike _ _ (onward_alike net spot fuel w v h)
goes_leads net spot fuel w (Stops v) h = absurd h
goes_leads net spot fuel w (Decides l v u) h = absurd h

pub stops_leads : (here : Here Term) (fuel : ℕ) (w : Way Term) (e : Effect Term) → AlikeEffect (Stops w) e → Leads (path_of terms w ∷ []) (effect_paths here fuel e)
stops_leads here fuel w (Goes v) h = absurd h
stops_leads here fuel w (Stops v) h = leads_alike _ _ (path_on w v h, tt)
stops_leads here fuel w (Decides l v u) h = absurd h

-- both sides, alike
pub sides_on : (here : Here Term) (bit : Bool) (l m : Literal Term) (w v : Way Term) → TermAlike l.value m.value → l.truth ≡ m.truth → AlikeWay w v → AlikeWay (decided terms bit l w) (decided terms bit m v)
sides_on here bit l m w v r e h =
    subst (λ (b : Bool). AlikeWay (decided terms bit l w) (decided terms bit (record { value = m.value; truth = b }) v)) e
    (decides terms terms TermAlike ConditionAlike ConditionAlike keeps_terms here.node here.tick here.code here.links here.fuel here.mail here.mail (mail_self here.mail) bit l.truth l.value m.value r w v h)

pub decides_leads : (net : Network) (spot : Spot) (fuel : ℕ) (l : Literal Term) (w u : Way Term) (e : Effect Term) → AlikeEffect (Decides l w u) e
    → Leads (onward (here_of net spot) fuel (decided terms false l w) ++ onward (here_of net spot) fuel (decided terms true (negated l) u)) (effect_paths (here_of net spot) fuel e)
decides_leads net spot fuel l w u (Goes v) h = absurd h
decides_leads net spot fuel l w u (Stops v) h = absurd h
decides_leads net spot fuel l w u (Decides m v x) h =
    let here = here_of net spot in
    let first = onward_alike net spot fuel (decided terms false l w) (decided terms false m v) (sides_on here false l m w v h.0.0 h.0.1 h.1) in
    let second = onward_alike net spot fuel (decided terms true (negated l) u) (decided terms true (negated m) x) (sides_on here true (negated l) (negated m) u x h.0.0 (ap (λ (b : Bool). (negated (record { value = m.value; truth = b })).truth) h.0.1) h.2) in
    leads_alike _ _
    (subst (λ (qs : List (Path Term)). OneByOne AlikePath (onward here fuel (decided terms false l w) ++ onward here fuel (decided terms true (negated l) u)) qs)
    (sym (map-append (path_of terms) (ways terms here fuel (decided terms false m v)) (ways terms here fuel (decided terms true (negated m) x))))
    (pairs-append AlikePath _ _ _ _ first second))
