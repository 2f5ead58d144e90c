-- What a failure choice leads to.
use Rattle.std.proofs.Common.{◌≡◌, ℕ, Bool, true, false, List, [], ◌∷◌, Option, Some, None, refl, sym, ap, ◌∙◌}
use Rattle.std.specs.Prelude.{◌&&◌, not, nat_eq, if◌then◌else◌, slice_index_or}
use Rattle.std.proofs.lemmas.Bool.{eqb-true, eq-eqb}
use Rattle.kn_packet.specs.declared.packet.Event.TheVariants.{Reboot}
use Rattle.kn_model.specs.Packets.{Packet}
use Rattle.kn_model.specs.Terms.{Valuation, words}
use Rattle.kn_model.specs.Rows.{Here, Way}
use Rattle.kn_model.specs.Paths.{arrives, chooses, cleared, comes, doubled, event_ways, goes_by, one_way, runs, runs_from, with_loss}
use Rattle.kn_conc.specs.Ways.{bare_way}
use Rattle.kn_conc.specs.Runs.{paths_of, is_taken, chosen, arrived}
use Rattle.kn_conc.proofs.Turning.{IsSteady, by_steady, chooses_is, one_steady, ways_steady}

not_zero : (n : ℕ) → (n ≡ 0 → ⊥) → nat_eq n 0 ≡ false
not_zero n d = go (nat_eq n 0) refl
  where
    go : (b : Bool) → nat_eq n 0 ≡ b → nat_eq n 0 ≡ false
    go false e = e
    go true e = absurd (d (eqb-true n 0 e))

-- a packet that is no copy arrives where duplications are left
open_to : (p : Packet ℕ) (w : Way ℕ) → p.copy ≡ 0 → (w.state.duplications ≡ 0 → ⊥) → (nat_eq p.copy 0 && not (nat_eq w.state.duplications 0)) ≡ true
open_to p w copy some = ap (λ (b : Bool). b && not (nat_eq w.state.duplications 0)) (eq-eqb p.copy 0 copy) ∙ ap not (not_zero w.state.duplications some)

module _ (a : Valuation) (here : Here ℕ) where
  arrived_by : (p : Packet ℕ) (w : Way ℕ) (t : Bool) → p.copy ≡ 0 → (w.state.duplications ≡ 0 → ⊥) → t ≡ is_taken a here w
      → (if t then doubled (words a) here p (chosen a here w) else chosen a here w) ≡ arrived a here p w
  arrived_by p w t copy some e =
      ap (λ (b : Bool). if b then doubled (words a) here p (chosen a here w) else chosen a here w) e
      ∙ ap (λ (b : Bool). if b then (if is_taken a here w then doubled (words a) here p (chosen a here w) else chosen a here w) else w) (sym (open_to p w copy some))

  pub is_doubled : (p : Packet ℕ) (w u x : Way ℕ) (t : Bool) → p.copy ≡ 0 → (w.state.duplications ≡ 0 → ⊥) → t ≡ is_taken a here w → t ≡ true → u ≡ chosen a here w → x ≡ doubled (words a) here p u → x ≡ arrived a here p w
  is_doubled p w u x t copy some taken is on whole =
      whole ∙ (ap (doubled (words a) here p) on ∙ (ap (λ (b : Bool). if b then doubled (words a) here p (chosen a here w) else chosen a here w) (sym is) ∙ arrived_by p w t copy some taken))

  pub is_kept : (p : Packet ℕ) (w u : Way ℕ) (t : Bool) → p.copy ≡ 0 → (w.state.duplications ≡ 0 → ⊥) → t ≡ is_taken a here w → t ≡ false → u ≡ chosen a here w → u ≡ arrived a here p w
  is_kept p w u t copy some taken is on =
      on ∙ (ap (λ (b : Bool). if b then doubled (words a) here p (chosen a here w) else chosen a here w) (sym is) ∙ arrived_by p w t copy some taken)

  -- the paths on from a handler, and from an arrival, are read of a way apart from conditions
  pub runs_steady : (handler : ℕ) → IsSteady a (runs (words a) here handler)
  runs_steady handler = go (slice_index_or here.code.handlers handler None)
    where
      go : (o : Option ℕ) → IsSteady a (runs_from (words a) here o)
      go None = one_steady a
      go (Some pc) = λ w v e. ways_steady a here here.fuel (record w { pc = pc }) (record v { pc = pc }) (ap (λ (x : Way ℕ). record x { pc = pc }) e)

  -- what a choice leads to
  chosen_way : (t : Bool) (stays takes : Way ℕ → List (Way ℕ)) (w u : Way ℕ) → IsSteady a stays → IsSteady a takes → t ≡ is_taken a here w → u ≡ chosen a here w
      → paths_of a (chooses (words a) here stays takes w) ≡ paths_of a (goes_by t takes stays u)
  chosen_way t stays takes w u stay take is on =
      chooses_is a here stays takes w stay take
      ∙ (ap (λ (b : Bool). paths_of a (goes_by b takes stays (chosen a here w))) (sym is)
      ∙ ap (λ (x : Way ℕ). paths_of a (goes_by t takes stays x)) (sym on))

  pub is_chosen : (t : Bool) (stays takes : Way ℕ → List (Way ℕ)) (w u : Way ℕ) → IsSteady a stays → IsSteady a takes → t ≡ is_taken a here w → u ≡ chosen a here w → t ≡ true
      → paths_of a (chooses (words a) here stays takes w) ≡ paths_of a (takes u)
  is_chosen t stays takes w u stay take is on taken = chosen_way t stays takes w u stay take is on ∙ ap (λ (b : Bool). paths_of a (goes_by b takes stays u)) taken

  pub is_refused : (t : Bool) (stays takes : Way ℕ → List (Way ℕ)) (w u : Way ℕ) → IsSteady a stays → IsSteady a takes → t ≡ is_taken a here w → u ≡ chosen a here w → t ≡ false
      → paths_of a (chooses (words a) here stays takes w) ≡ paths_of a (stays u)
  is_refused t stays takes w u stay take is on never = chosen_way t stays takes w u stay take is on ∙ ap (λ (b : Bool). paths_of a (goes_by b takes stays u)) never

  double_steady : (p : Packet ℕ) → IsSteady a (λ v. runs (words a) here 1 (doubled (words a) here p v))
  double_steady p w v e = runs_steady 1 (doubled (words a) here p w) (doubled (words a) here p v) (ap (doubled (words a) here p) e)

  clear_steady : IsSteady a (λ v. runs (words a) here 0 (cleared (words a) v))
  clear_steady w v e = runs_steady 0 (cleared (words a) w) (cleared (words a) v) (ap (cleared (words a)) e)

  lose_steady : IsSteady a (λ v. with_loss (words a) v ∷ [])
  lose_steady w v e = one_steady a (with_loss (words a) w) (with_loss (words a) v) (ap (with_loss (words a)) e)

  bare_either : (b : Bool) (x y : Way ℕ) → bare_way (if b then x else y) ≡ (if b then bare_way x else bare_way y)
  bare_either true x y = refl
  bare_either false x y = refl

  bare_chosen : (w : Way ℕ) → bare_way (chosen a here w) ≡ chosen a here (bare_way w)
  bare_chosen w = bare_either (nat_eq w.state.inputs 65535) _ _

  choice_steady : (stays takes : Way ℕ → List (Way ℕ)) → IsSteady a stays → IsSteady a takes → IsSteady a (chooses (words a) here stays takes)
  choice_steady stays takes stay take w v e =
      chooses_is a here stays takes w stay take
      ∙ (go (is_taken a here w) (is_taken a here v) (ap (is_taken a here) e) ∙ sym (chooses_is a here stays takes v stay take))
    where
      same : bare_way (chosen a here w) ≡ bare_way (chosen a here v)
      same = bare_chosen w ∙ (ap (chosen a here) e ∙ sym (bare_chosen v))

      go : (b c : Bool) → b ≡ c → paths_of a (goes_by b takes stays (chosen a here w)) ≡ paths_of a (goes_by c takes stays (chosen a here v))
      go true true d = take (chosen a here w) (chosen a here v) same
      go false false d = stay (chosen a here w) (chosen a here v) same
      go true false d = absurd cc
      go false true d = absurd cc

  arrives_steady : (p : Packet ℕ) → IsSteady a (arrives (words a) here p)
  arrives_steady p =
      by_steady a (λ (w : Way ℕ). nat_eq p.copy 0 && not (nat_eq w.state.duplications 0)) (chooses (words a) here (runs (words a) here 1) (λ v. runs (words a) here 1 (doubled (words a) here p v))) (runs (words a) here 1)
      (λ w v e. ap (λ (x : Way ℕ). nat_eq p.copy 0 && not (nat_eq x.state.duplications 0)) e)
      (choice_steady (runs (words a) here 1) (λ v. runs (words a) here 1 (doubled (words a) here p v)) (runs_steady 1) (double_steady p))
      (runs_steady 1)

  -- a packet that arrives runs its handler, on the way with the copy or without it
  pub arrives_is : (p : Packet ℕ) (w : Way ℕ) → paths_of a (arrives (words a) here p w) ≡ paths_of a (runs (words a) here 1 (arrived a here p w))
  arrives_is p w = go (nat_eq p.copy 0 && not (nat_eq w.state.duplications 0))
    where
      pick : (t : Bool) → paths_of a (goes_by t (λ v. runs (words a) here 1 (doubled (words a) here p v)) (runs (words a) here 1) (chosen a here w)) ≡ paths_of a (runs (words a) here 1 (if t then doubled (words a) here p (chosen a here w) else chosen a here w))
      pick true = refl
      pick false = refl

      go : (b : Bool) → paths_of a (goes_by b (chooses (words a) here (runs (words a) here 1) (λ v. runs (words a) here 1 (doubled (words a) here p v))) (runs (words a) here 1) w)
          ≡ paths_of a (runs (words a) here 1 (if b then (if is_taken a here w then doubled (words a) here p (chosen a here w) else chosen a here w) else w))
      go true = chooses_is a here (runs (words a) here 1) (λ v. runs (words a) here 1 (doubled (words a) here p v)) w (runs_steady 1) (double_steady p) ∙ pick (is_taken a here w)
      go false = refl

  -- a packet comes: no losses are left, it is lost, or it is not
  pub comes_safe : (p : Packet ℕ) (w : Way ℕ) → w.state.losses ≡ 0 → paths_of a (comes (words a) here (Some p) w) ≡ paths_of a (arrives (words a) here p w)
  comes_safe p w none = ap (λ (b : Bool). paths_of a (goes_by b (arrives (words a) here p) (chooses (words a) here (arrives (words a) here p) (λ v. with_loss (words a) v ∷ [])) w)) (eq-eqb w.state.losses 0 none)

  chance : (p : Packet ℕ) (w : Way ℕ) → (w.state.losses ≡ 0 → ⊥) → paths_of a (comes (words a) here (Some p) w) ≡ paths_of a (chooses (words a) here (arrives (words a) here p) (λ v. with_loss (words a) v ∷ []) w)
  chance p w some = ap (λ (b : Bool). paths_of a (goes_by b (arrives (words a) here p) (chooses (words a) here (arrives (words a) here p) (λ v. with_loss (words a) v ∷ [])) w)) (not_zero w.state.losses some)

  pub comes_lost : (p : Packet ℕ) (w u x : Way ℕ) (t : Bool) → (w.state.losses ≡ 0 → ⊥) → t ≡ is_taken a here w → u ≡ chosen a here w → t ≡ true → x ≡ with_loss (words a) u → paths_of a (comes (words a) here (Some p) w) ≡ paths_of a (x ∷ [])
  comes_lost p w u x t some is on taken whole =
      chance p w some
      ∙ (is_chosen t (arrives (words a) here p) (λ v. with_loss (words a) v ∷ []) w u (arrives_steady p) lose_steady is on taken
      ∙ ap (λ (y : Way ℕ). paths_of a (y ∷ [])) (sym whole))

  pub comes_on : (p : Packet ℕ) (w u : Way ℕ) (t : Bool) → (w.state.losses ≡ 0 → ⊥) → t ≡ is_taken a here w → u ≡ chosen a here w → t ≡ false → paths_of a (comes (words a) here (Some p) w) ≡ paths_of a (arrives (words a) here p u)
  comes_on p w u t some is on never = chance p w some ∙ is_refused t (arrives (words a) here p) (λ v. with_loss (words a) v ∷ []) w u (arrives_steady p) lose_steady is on never

  -- a reboot, or none
  pub reboots : (w u x y : Way ℕ) (t : Bool) → t ≡ is_taken a here w → u ≡ chosen a here w → t ≡ true → x ≡ cleared (words a) u → paths_of a (runs (words a) here 0 x) ≡ paths_of a (y ∷ [])
      → paths_of a (event_ways (words a) here Reboot w) ≡ paths_of a (y ∷ [])
  reboots w u x y t is on taken clear run =
      is_chosen t (one_way (words a)) (λ v. runs (words a) here 0 (cleared (words a) v)) w u (one_steady a) clear_steady is on taken
      ∙ (ap (λ (v : Way ℕ). paths_of a (runs (words a) here 0 v)) (sym clear) ∙ run)

  pub stays_up : (w u : Way ℕ) (t : Bool) → t ≡ is_taken a here w → u ≡ chosen a here w → t ≡ false → paths_of a (event_ways (words a) here Reboot w) ≡ paths_of a (u ∷ [])
  stays_up w u t is on never = is_refused t (one_way (words a)) (λ v. runs (words a) here 0 (cleared (words a) v)) w u (one_steady a) clear_steady is on never
