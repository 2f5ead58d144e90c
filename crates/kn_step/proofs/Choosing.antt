-- What comes of a failure choice leads to the paths of both answers.
use Rattle.std.proofs.Common.{◌≡◌, ℕ, Bool, true, false, List, [], ◌∷◌, ◌++◌, map, refl, sym, ap, subst, ◌∙◌, append_assoc, append-nil}
use Rattle.std.specs.Prelude.{nat_eq, ◌&&◌, Some, IfOk, Result}
use Rattle.std.proofs.lemmas.Bool.{eqb-true}
use Rattle.std.proofs.lemmas.List.{map-append}
use Rattle.kn_term.specs.declared.node.Literal.{Literal as Listed}
use Rattle.kn_term.specs.Terms.{Term, Input}
use Rattle.kn_term.specs.Nodes.{term_at}
use Rattle.kn_cond.specs.Conditions.{Condition, holds, that, IsImpossible, StandsFor}
use Rattle.kn_cond.specs.declared.standing.Standing.{Standing}
use Rattle.kn_cond.specs.Meanings.{literal_of}
use Rattle.kn_model.specs.Values.{Literal, negated}
use Rattle.kn_model.specs.Terms.{terms}
use Rattle.kn_model.specs.Nets.{Network}
use Rattle.kn_model.specs.Rows.{Here, Way, counted}
use Rattle.kn_model.specs.Paths.{Path, chooses, decided, goes_by, is_no, path_of, splits}
use Rattle.kn_model.specs.Alikes.{TermAlike, ConditionAlike, AlikePath, AreGiven}
use Rattle.kn_model.proofs.OneByOne.{pairs-append}
use Rattle.kn_model.proofs.AlikeTerms.{holds_join}
use Rattle.kn_model.proofs.AlikeGiven.{IsShut, given_append}
use Rattle.kn_machine.specs.Ways.{WayView, way_of, known_of, AlikeWay, AreStamped}
use Rattle.kn_step.specs.Sides.{AreSides, Implies, IsFurther}
use Rattle.kn_step.specs.declared.deciding.Sides.{Sides}
use Rattle.kn_step.specs.declared.deciding.Sides.TheVariants as sides
use Rattle.kn_machine.specs.Effects.{here_of}
use Rattle.kn_step.specs.Given.{Leads}
use Rattle.kn_step.specs.Turns.{IsOn, IsSound}
use Rattle.kn_step.specs.Choices.{Onward, GoesOn, paths_by, answered, HasLeft, IsAnswer, IsChoice, StaysOn}
use Rattle.kn_machine.specs.declared.spot.Spot.{Spot}
use Rattle.kn_step.specs.declared.choices.Choice.{Choice}
use Rattle.kn_step.specs.declared.choices.Choice.TheVariants as choices
use Rattle.kn_machine.proofs.Likeness.{way_self}
use Rattle.kn_step.proofs.Onward.{leads_alike, leads_through, sides_on}
use Rattle.kn_step.proofs.GoingOn.{paths_alike}
use Rattle.kn_step.proofs.OneMore.{implied_shuts, implied_other}
use Rattle.kn_step.proofs.Turning.{on_self, on_through}

module _ (stays takes : Onward) (s : GoesOn stays) (t : GoesOn takes) where
  both_lead : (x y u z : Way Term) → AlikeWay x y → AlikeWay u z → Leads (paths_by stays x ++ paths_by takes u) (paths_by stays y ++ paths_by takes z)
  both_lead x y u z h i = leads_alike _ _ (pairs-append AlikePath _ _ _ _ (paths_alike stays s x y h) (paths_alike takes t u z i))

  -- the other answer is met by no inputs
  stays_leads : (x y z : Way Term) → AlikeWay x y → IsShut z → Leads (paths_by stays x) (paths_by stays y ++ paths_by takes z)
  stays_leads x y z h shut ps given =
      subst (λ (us : List (Path Term)). AreGiven us (paths_by stays y ++ paths_by takes z)) (append-nil ps)
      (given_append ps (paths_by stays y) [] (paths_by takes z) (leads_alike _ _ (paths_alike stays s x y h) ps given) (t.shut z shut))

  takes_leads : (y u z : Way Term) → IsShut y → AlikeWay u z → Leads (paths_by takes u) (paths_by stays y ++ paths_by takes z)
  takes_leads y u z shut h ps given = given_append [] (paths_by stays y) ps (paths_by takes z) (s.shut y shut) (leads_alike _ _ (paths_alike takes t u z h) ps given)

-- a way that is another
alike_is : (w v : Way Term) → w ≡ v → AlikeWay w v
alike_is w v e = subst (AlikeWay w) e (way_self w)

-- under a literal that no inputs meet with what is known
shut_under : (bit : Bool) (l : Literal Term) (w : Way Term) (known : Condition) → ConditionAlike known (w.state.own ++ w.literals) → IsImpossible (that (known ++ l ∷ [])) → IsShut (decided terms bit l w)
shut_under bit l w known alike shut a =
    ap (holds a) (sym (append_assoc w.state.own w.literals (l ∷ [])))
    ∙ (holds_join a (w.state.own ++ w.literals) (l ∷ []) ∙ (ap (λ (b : Bool). b && holds a (l ∷ [])) (sym (alike.holds a)) ∙ (sym (holds_join a known (l ∷ [])) ∙ shut a)))

-- losses and duplications of a way that decided
left_decided : (bit : Bool) (l : Literal Term) (v w : WayView) → way_of w ≡ decided terms bit l (way_of v) → HasLeft v w
left_decided bit l v w e = record { losses = ap (λ (x : Way Term). x.state.losses) e; duplications = ap (λ (x : Way Term). x.state.duplications) e }

module _ (net : Network) (spot : Spot) (l : Listed) (v : WayView) where
  abbrev m : Literal Term
  m = literal_of v.terms l

  pub on_sends : (w : WayView) → IsSound net.limits.conflicts w → w.sends ≡ v.sends → IsOn net spot v w
  on_sends w sound sends = record { sound = sound; stamps = λ h. subst (AreStamped spot.node spot.history) (sym sends) h }

  pub answer_stays : (w : WayView) → ConditionAlike (known_of v) ((way_of v).state.own ++ (way_of v).literals) → Implies (known_of v) m → way_of w ≡ decided terms false m (way_of v) → IsSound net.limits.conflicts w → w.sends ≡ v.sends
      → IsAnswer net spot l v w choices.Stays
  answer_stays w known implied way sound sends = record {
    leads = λ stays takes s t.
        stays_leads stays takes s t (way_of w) (decided terms false m (way_of v)) (decided terms true (negated m) (way_of v)) (alike_is _ _ way)
        (shut_under true (negated m) (way_of v) (known_of v) known (implied_shuts (known_of v) m implied));
    on = on_sends w sound sends;
    both = tt;
    left = left_decided false m v w way;
  }

  pub answer_takes : (w : WayView) → ConditionAlike (known_of v) ((way_of v).state.own ++ (way_of v).literals) → Implies (known_of v) (negated m) → way_of w ≡ decided terms true (negated m) (way_of v) → IsSound net.limits.conflicts w → w.sends ≡ v.sends
      → IsAnswer net spot l v w choices.Takes
  answer_takes w known implied way sound sends = record {
    leads = λ stays takes s t.
        takes_leads stays takes s t (decided terms false m (way_of v)) (way_of w) (decided terms true (negated m) (way_of v))
        (shut_under false m (way_of v) (known_of v) known (implied_other (known_of v) m implied)) (alike_is _ _ way);
    on = on_sends w sound sends;
    both = tt;
    left = left_decided true (negated m) v w way;
  }

  pub answer_both : (u w : WayView) → way_of u ≡ decided terms false m (way_of v) → IsSound net.limits.conflicts u → u.sends ≡ v.sends → way_of w ≡ decided terms true (negated m) (way_of v) → IsSound net.limits.conflicts w → w.sends ≡ v.sends
      → IsAnswer net spot l v w (choices.Both u)
  answer_both u w kept kept_sound kept_sends way sound sends = record {
    leads = λ stays takes s t. both_lead stays takes s t (way_of u) (decided terms false m (way_of v)) (way_of w) (decided terms true (negated m) (way_of v)) (alike_is _ _ kept) (alike_is _ _ way);
    on = on_sends w sound sends;
    both = on_sends u kept_sound kept_sends;
    left = left_decided true (negated m) v w way;
  }

-- nothing fails where the node has made 65,535 inputs
pub choice_full : (net : Network) (spot : Spot) (v : WayView) → v.machine.inputs ≡ 65535 → IsSound net.limits.conflicts v → IsChoice net spot v v choices.Stays
choice_full net spot v full sound =
    let here = here_of net spot in
    record {
      leads = λ stays takes s t ps h.
          subst (λ (ws : List (Way Term)). AreGiven ps (map (path_of terms) ws))
          (sym (ap (λ (n : ℕ). goes_by (nat_eq n 65535) stays (λ (u : Way Term). splits terms (is_no terms here u) stays (counted terms u) takes (counted terms u)) (way_of v)) full)) h;
      on = on_self net spot v sound;
      both = tt;
      left = record { losses = refl; duplications = refl };
    }

-- the answer is that of the choice, as the literal is alike
module _ (net : Network) (spot : Spot) (l : Listed) (v u w : WayView) (c : Choice) (few : nat_eq v.machine.inputs 65535 ≡ false) (value : TermAlike (term_at u.terms l.term.index) (Input spot.node v.machine.inputs 1)) (truth : l.truth ≡ false)
    (way : way_of u ≡ counted terms (way_of v)) (on : IsOn net spot v u) (answer : IsAnswer net spot l u w c) where
  abbrev here : Here Term
  here = here_of net spot

  abbrev asked : Literal Term
  asked = is_no terms here (way_of v)

  side : (bit : Bool) (x y : Literal Term) → TermAlike x.value y.value → x.truth ≡ y.truth → AlikeWay (decided terms bit x (way_of u)) (decided terms bit y (counted terms (way_of v)))
  side bit x y h e = sides_on here bit x y (way_of u) (counted terms (way_of v)) h e (alike_is _ _ way)

  answers : (stays takes : Onward) → GoesOn stays → GoesOn takes → Leads (answered stays takes l u) (paths_by (chooses terms here stays takes) (way_of v))
  answers stays takes s t ps h =
      let no = decided terms false asked (counted terms (way_of v)) in
      let yes = decided terms true (negated asked) (counted terms (way_of v)) in
      let opened = ap (λ (b : Bool). goes_by b stays (λ (x : Way Term). splits terms (is_no terms here x) stays (counted terms x) takes (counted terms x)) (way_of v)) few in
      subst (λ (ws : List (Way Term)). AreGiven ps (map (path_of terms) ws)) (sym opened)
      (subst (AreGiven ps) (sym (map-append (path_of terms) (stays no) (takes yes)))
      (both_lead stays takes s t (decided terms false (literal_of u.terms l) (way_of u)) no (decided terms true (negated (literal_of u.terms l)) (way_of u)) yes
      (side false (literal_of u.terms l) asked value truth)
      (side true (negated (literal_of u.terms l)) (negated asked) value (ap (λ (b : Bool). (negated (record { value = asked.value; truth = b })).truth) truth)) ps h))

  both_on : (d : Choice) → StaysOn net spot u d → StaysOn net spot v d
  both_on choices.Stays h = tt
  both_on choices.Takes h = tt
  both_on (choices.Both x) h = on_through net spot v u x on h

  pub choice_asked : IsChoice net spot v w c
  choice_asked = record {
    leads = λ stays takes s t. leads_through _ (answered stays takes l u) _ (answer.leads stays takes s t) (answers stays takes s t);
    on = on_through net spot v u w on answer.on;
    both = both_on c answer.both;
    left = record { losses = answer.left.losses ∙ ap (λ (x : Way Term). x.state.losses) way; duplications = answer.left.duplications ∙ ap (λ (x : Way Term). x.state.duplications) way };
  }

-- what is known of both sides
pub sides_are : (conflicts budget : ℕ) (c : Condition) (m : Literal Term) (x : Sides) (s t : Standing) → budget ≡ conflicts → x ≡ sides.Both s t → AreSides budget c m x → StandsFor conflicts (that (c ++ m ∷ [])) s × StandsFor conflicts (that (c ++ negated m ∷ [])) t
sides_are conflicts budget c m x s t same is h = subst (λ (b : ℕ). AreSides b c m (sides.Both s t)) same (subst (AreSides budget c m) is h)

-- what is known of the second
pub further_sound : (conflicts : ℕ) (v u w : WayView) (l k : Listed) (s : Standing) → u ≡ v → literal_of v.terms k ≡ negated (literal_of v.terms l) → StandsFor conflicts (that (known_of v ++ negated (literal_of v.terms l) ∷ [])) s → IsSound conflicts v
    → (IsFurther conflicts (known_of u) (literal_of u.terms k) (Some s) → IsSound conflicts u → IsSound conflicts w) → IsSound conflicts w
further_sound conflicts v u w l k s same other stands sound h =
    h (subst (λ (x : WayView). StandsFor conflicts (that (known_of x ++ literal_of x.terms k ∷ [])) s) (sym same) (subst (λ (m : Literal Term). StandsFor conflicts (that (known_of v ++ m ∷ [])) s) (sym other) stands))
    (subst (IsSound conflicts) (sym same) sound)

-- of what comes of the literal
pub choice_of : {E : Type 0} (net : Network) (spot : Spot) (l : Listed) (v u w : WayView) (r : Result Choice E) → nat_eq v.machine.inputs 65535 ≡ false → TermAlike (term_at u.terms l.term.index) (Input spot.node v.machine.inputs 1) → l.truth ≡ false
    → way_of u ≡ counted terms (way_of v) → IsOn net spot v u → IfOk r (IsAnswer net spot l u w) → IfOk r (IsChoice net spot v w)
choice_of net spot l v u w (Result.Ok c) few value truth way on h = choice_asked net spot l v u w c few value truth way on h
choice_of net spot l v u w (Result.Err e) few value truth way on h = h

-- where a node has not made 65,535 inputs
pub not_full : (n m : ℕ) → n ≡ m → (n ≡ 65535 → ⊥) → nat_eq m 65535 ≡ false
not_full n m same h = go (nat_eq m 65535) refl
  where
    go : (b : Bool) → nat_eq m 65535 ≡ b → b ≡ false
    go false e = refl
    go true e = absurd (h (same ∙ eqb-true m 65535 e))
