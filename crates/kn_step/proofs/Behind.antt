-- Paths that come behind others.
use Rattle.std.proofs.Common.{◌≡◌, ℕ, ◌<◌, ◌≤◌, Bool, true, false, List, [], ◌∷◌, ◌++◌, length, map, Option, Some, refl, sym, ap, subst, ◌∙◌, append_assoc}
use Rattle.std.specs.Prelude.{⊤, Result, nat_eq, not, ◌&&◌}
use Rattle.std.proofs.lemmas.Bool.{eqb-true}
use Rattle.kn_model.specs.Packets.{Packet}
use Rattle.std.specs.declared.alloc.AllocError.{AllocError}
use Rattle.kn_term.specs.Terms.{Term}
use Rattle.kn_model.specs.Terms.{terms}
use Rattle.kn_model.specs.Nets.{Network}
use Rattle.kn_model.specs.Rows.{Here, Way}
use Rattle.kn_model.specs.Paths.{Path, arrives, chooses, comes, doubled, goes_by, path_of, runs, with_loss}
use Rattle.kn_model.specs.Alikes.{AlikePath, AreGiven}
use Rattle.kn_machine.specs.Ways.{WayView, way_of}
use Rattle.kn_machine.specs.Effects.{here_of}
use Rattle.kn_machine.specs.Paths.{PathView, path_seen}
use Rattle.kn_step.specs.Given.{Leads, AreGivenSoFar, IsKept}
use Rattle.kn_step.specs.Choices.{Onward, GoesOn, CameBehind, IsChoice, paths_by}
use Rattle.kn_machine.specs.declared.spot.Spot.{Spot}
use Rattle.kn_step.specs.declared.run.RunStop.{RunStop}
use Rattle.kn_step.specs.declared.run.RunStop.TheVariants as stops
use Rattle.kn_step.specs.declared.choices.Choice.TheVariants as choices
use Rattle.kn_step.proofs.Giving.{give_one, keep_one, leads_behind, so_far_behind, so_far_whole, on_ok, on_many}
use Rattle.kn_step.proofs.Turning.{so_far_append}

not_zero : (n : ℕ) → (n ≡ 0 → ⊥) → nat_eq n 0 ≡ false
not_zero n h = go (nat_eq n 0) refl
  where
    go : (b : Bool) → nat_eq n 0 ≡ b → b ≡ false
    go false e = refl
    go true e = absurd (h (eqb-true n 0 e))

module _ (net : Network) (spot : Spot) where
  -- what leads to others comes behind as those
  pub came_led : (old new : List PathView) (qs rs : List (Path Term)) (r : Result ⊤ RunStop) → Leads qs rs → CameBehind net spot old new qs r → CameBehind net spot old new rs r
  came_led old new qs rs r l h = record {
    given = λ before g. on_ok r (leads_behind before qs rs (map path_seen new) l) (h.given before g);
    so_far = λ before g. on_many r (so_far_behind before qs rs (map path_seen new) l) (h.so_far before g);
    kept = h.kept;
    few = h.few;
    many = h.many;
  }

  -- all of the first came, and then the second
  pub came_both : (old mid new : List PathView) (qs rs : List (Path Term)) (x : ⊤) (r : Result ⊤ RunStop) → CameBehind net spot old mid qs (Result.Ok x) → CameBehind net spot mid new rs r → CameBehind net spot old new (qs ++ rs) r
  came_both old mid new qs rs x r h i = record {
    given = λ before g. on_ok r (subst (AreGiven (map path_seen new)) (append_assoc before qs rs)) (i.given (before ++ qs) (h.given before g));
    so_far = λ before g. on_many r (subst (AreGivenSoFar (map path_seen new)) (append_assoc before qs rs)) (i.so_far (before ++ qs) (h.given before g));
    kept = λ k. i.kept (h.kept k);
    few = i.few;
    many = i.many;
  }

  -- it stopped in the first
  pub came_first : (old new : List PathView) (qs rs : List (Path Term)) (s : RunStop) → CameBehind net spot old new qs (Result.Err s) → CameBehind net spot old new (qs ++ rs) (Result.Err s)
  came_first old new qs rs s h = record {
    given = λ before g. tt;
    so_far = λ before g.
        on_many (Result.Err s) (λ (i : AreGivenSoFar (map path_seen new) (before ++ qs)). subst (AreGivenSoFar (map path_seen new)) (append_assoc before qs rs) (so_far_append (map path_seen new) (before ++ qs) rs i)) (h.so_far before g);
    kept = h.kept;
    few = tt;
    many = h.many;
  }

  -- memory was wanting
  pub came_wanting : (old new : List PathView) (qs : List (Path Term)) (e : AllocError) → CameBehind net spot old new qs (Result.Err (stops.Memory e))
  came_wanting old new qs e = record { given = λ before g. tt; so_far = λ before g. tt; kept = λ k. tt; few = tt; many = tt }

  -- one path more came, and there are not too many, or there are
  module _ (old new : List PathView) (p : PathView) (w : Way Term) (more : new ≡ old ++ p ∷ []) (alike : AlikePath (path_seen p) (path_of terms w)) (one : IsKept net.limits.conflicts spot.node spot.history p) where
    one_given : (before : List (Path Term)) → AreGiven (map path_seen old) before → AreGiven (map path_seen new) (before ++ path_of terms w ∷ [])
    one_given before g = give_one old new p w before (path_of terms w ∷ []) more alike g (λ ps h. h)

    pub came_more : (x : ⊤) → length new ≤ net.limits.states → CameBehind net spot old new (path_of terms w ∷ []) (Result.Ok x)
    came_more x few = record { given = one_given; so_far = λ before g. tt; kept = keep_one net.limits.conflicts spot.node spot.history old new p more one; few = few; many = tt }

    pub came_over : net.limits.states < length new → CameBehind net spot old new (path_of terms w ∷ []) (Result.Err stops.TooMany)
    came_over many = record {
      given = λ before g. tt;
      so_far = λ before g. so_far_whole (map path_seen new) (before ++ path_of terms w ∷ []) (one_given before g);
      kept = keep_one net.limits.conflicts spot.node spot.history old new p more one;
      few = tt;
      many = many;
    }

  -- a choice: one answer, or both
  module _ (stays takes : Onward) (s : GoesOn stays) (t : GoesOn takes) (v w : WayView) (qs : List (Path Term)) (old new : List PathView) (r : Result ⊤ RunStop) where
    pub chose_stays : (choice : IsChoice net spot v w choices.Stays) → paths_by (chooses terms (here_of net spot) stays takes) (way_of v) ≡ qs → CameBehind net spot old new (paths_by stays (way_of w)) r → CameBehind net spot old new qs r
    chose_stays choice is h = subst (λ (us : List (Path Term)). CameBehind net spot old new us r) is (came_led old new _ _ r (choice.leads stays takes s t) h)

    pub chose_takes : (choice : IsChoice net spot v w choices.Takes) → paths_by (chooses terms (here_of net spot) stays takes) (way_of v) ≡ qs → CameBehind net spot old new (paths_by takes (way_of w)) r → CameBehind net spot old new qs r
    chose_takes choice is h = subst (λ (us : List (Path Term)). CameBehind net spot old new us r) is (came_led old new _ _ r (choice.leads stays takes s t) h)

    pub chose_both : (u : WayView) (choice : IsChoice net spot v w (choices.Both u)) → paths_by (chooses terms (here_of net spot) stays takes) (way_of v) ≡ qs → CameBehind net spot old new (paths_by stays (way_of u) ++ paths_by takes (way_of w)) r → CameBehind net spot old new qs r
    chose_both u choice is h = subst (λ (us : List (Path Term)). CameBehind net spot old new us r) is (came_led old new _ _ r (choice.leads stays takes s t) h)

-- a choice that is asked for
pub arrives_chooses : (here : Here Term) (p : Packet Term) (w : Way Term) → p.copy ≡ 0 → (w.state.duplications ≡ 0 → ⊥)
    → paths_by (chooses terms here (runs terms here 1) (λ v. runs terms here 1 (doubled terms here p v))) w ≡ paths_by (arrives terms here p) w
arrives_chooses here p w first some =
    let go : Onward = chooses terms here (runs terms here 1) (λ v. runs terms here 1 (doubled terms here p v)) in
    sym (ap (λ (n : ℕ). map (path_of terms) (goes_by (nat_eq n 0 && not (nat_eq w.state.duplications 0)) go (runs terms here 1) w)) first
    ∙ ap (λ (b : Bool). map (path_of terms) (goes_by (not b) go (runs terms here 1) w)) (not_zero w.state.duplications some))

pub comes_chooses : (here : Here Term) (p : Packet Term) (o : Option (Packet Term)) (w : Way Term) → o ≡ Some p → (w.state.losses ≡ 0 → ⊥)
    → paths_by (chooses terms here (arrives terms here p) (λ v. with_loss terms v ∷ [])) w ≡ paths_by (comes terms here o) w
comes_chooses here p o w is some =
    let go : Onward = chooses terms here (arrives terms here p) (λ v. with_loss terms v ∷ []) in
    sym (ap (λ (m : Option (Packet Term)). paths_by (comes terms here m) w) is
    ∙ ap (λ (b : Bool). map (path_of terms) (goes_by b (arrives terms here p) go w)) (not_zero w.state.losses some))
