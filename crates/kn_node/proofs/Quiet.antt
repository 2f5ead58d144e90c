-- Ticks up to which nothing is due.
use Rattle.std.proofs.Common.{◌≡◌, ℕ, ◌+◌, ◌<◌, Bool, true, false, List, [], ◌∷◌, ◌++◌, length, take, get_or, refl, sym, ap, ◌∙◌, None, Some, arith}
use Rattle.std.specs.Prelude.{Option, if◌then◌else◌, nat_eq, unwrap_or}
use Rattle.std.proofs.lemmas.List.{take_more}
use Rattle.std.proofs.lemmas.Bool.{eqb-true}
use Rattle.kn_packet.specs.declared.packet.Event.TheVariants.{Timer}
use Rattle.kn_node.specs.Due.{is_set_to, timer_from}

module _ (t : ℕ) where
  timer_step : (k : ℕ) (o : Option ℕ) (os : List (Option ℕ)) (b : Bool) → is_set_to t o ≡ b → timer_from t k (o ∷ os) ≡ (if b then Some (Timer k) else timer_from t (k + 1) os)
  timer_step k o os b e = rw e refl

  -- one more timer that is not set to the tick
  timer_last : (k : ℕ) (os : List (Option ℕ)) (o : Option ℕ) → timer_from t k os ≡ None → is_set_to t o ≡ false → timer_from t k (os ++ o ∷ []) ≡ None
  timer_last k [] o none e = timer_step k o [] false e
  timer_last k (p ∷ os) o none e = go (λ rest. timer_last (k + 1) os o rest e) (is_set_to t p) refl
    where
      go : (timer_from t (k + 1) os ≡ None → timer_from t (k + 1) (os ++ o ∷ []) ≡ None) → (b : Bool) → is_set_to t p ≡ b → timer_from t k (p ∷ (os ++ o ∷ [])) ≡ None
      go later true f =
          let wrong : Some (Timer k) ≡ None = sym (timer_step k p os true f) ∙ none in
          absurd cc
      go later false f = timer_step k p (os ++ o ∷ []) false f ∙ later (sym (timer_step k p os false f) ∙ none)

  pub timer_more : (os : List (Option ℕ)) (i : ℕ) (d o : Option ℕ) → i < length os → o ≡ get_or os i d → ((k : ℕ) → timer_from t k (take i os) ≡ None) → is_set_to t o ≡ false → (k : ℕ) → timer_from t k (take (i + 1) os) ≡ None
  timer_more os i d o less is none e k =
      ap (timer_from t k) (take_more os i d less ∙ ap (λ (z : Option ℕ). take i os ++ (z ∷ [])) (sym is)) ∙ timer_last k (take i os) o (none k) e

  -- a timer that is set to a later tick, or to none
  pub set_later : (most : ℕ) (o : Option ℕ) → t < unwrap_or o most → is_set_to t o ≡ false
  set_later most None less = refl
  set_later most (Some d) less = go (nat_eq d t) refl
    where
      go : (b : Bool) → nat_eq d t ≡ b → nat_eq d t ≡ false
      go false e = e
      go true e =
          let same : d ≡ t = eqb-true d t e in
          absurd (omega (arith, same, less))
