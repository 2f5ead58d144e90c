-- Ways over words have one path, and it is the same from ways that are the same apart from conditions.
use Rattle.std.proofs.Common.{◌≡◌, ℕ, zero, suc, ◌+◌, ◌-◌, ◌<◌, ◌≤◌, arith, Bool, true, false, List, [], ◌∷◌, ◌++◌, Option, Some, None, refl, sym, ap, ◌∙◌}
use Rattle.std.specs.Prelude.{not, nat_eq, if◌then◌else◌, slice_get}
use Rattle.std.proofs.lemmas.List.{append-nil}
use Rattle.kn_code.specs.declared.program.Instr.{Instr}
use Rattle.kn_model.specs.Values.{Literal, negated}
use Rattle.kn_model.specs.Nodes.{Fuel, is_running}
use Rattle.kn_model.specs.Terms.{Valuation, words, word_holds, same_bit}
use Rattle.kn_model.specs.Rows.{Here, Way, Effect, Goes, Stops, Decides, counted, effect, failed, fresh_input}
use Rattle.kn_model.specs.Paths.{Path, after, chooses, decided, effect_at, effect_of, goes_by, goes_if, is_no, one_way, splits, ways}
use Rattle.kn_conc.specs.Ways.{bare, bare_way, seen, taken, with_bit}
use Rattle.kn_conc.specs.Runs.{IsTurn, paths_of, is_taken, chosen}
use Rattle.kn_conc.specs.declared.rows.Step.{Step}
use Rattle.kn_conc.proofs.Baring.{effect_same}

-- a literal holds, or its negation does
opposite : (l : Literal ℕ) → word_holds (negated l) ≡ not (word_holds l)
opposite l = go (not (nat_eq l.value 0)) l.truth
  where
    go : (b c : Bool) → same_bit b (not c) ≡ not (same_bit b c)
    go true c = refl
    go false c = refl

-- the parts of an effect
abbrev way_in : Effect ℕ → Way ℕ
way_in (Goes w) = w
way_in (Stops w) = w
way_in (Decides l w v) = w

abbrev other_in : Effect ℕ → Way ℕ
other_in (Goes w) = w
other_in (Stops w) = w
other_in (Decides l w v) = v

abbrev literal_in : Effect ℕ → Literal ℕ
literal_in (Goes w) = record { value = 0; truth = true }
literal_in (Stops w) = record { value = 0; truth = true }
literal_in (Decides l w v) = l

module _ (a : Valuation) where
  -- the paths on are read of a way apart from conditions
  abbrev pub IsSteady : (Way ℕ → List (Way ℕ)) → Type 0
  IsSteady go = (w v : Way ℕ) → bare_way w ≡ bare_way v → paths_of a (go w) ≡ paths_of a (go v)

  abbrev bare_one : Way ℕ → List (Path ℕ)
  bare_one x = record { bits = x.bits; literals = []; state = record x.state { trace = x.state.trace ++ x.bits }; sends = x.sends } ∷ []

  pub one_steady : IsSteady (one_way (words a))
  one_steady w v e = ap bare_one e

  pub by_steady : (test : Way ℕ → Bool) (f g : Way ℕ → List (Way ℕ)) → ((w v : Way ℕ) → bare_way w ≡ bare_way v → test w ≡ test v) → IsSteady f → IsSteady g → IsSteady (λ w. goes_by (test w) f g w)
  by_steady test f g same first second w v e = go (test w) (test v) (same w v e)
    where
      go : (b c : Bool) → b ≡ c → paths_of a (goes_by b f g w) ≡ paths_of a (goes_by c f g v)
      go true true i = first w v e
      go false false i = second w v e
      go true false i = absurd cc
      go false true i = absurd cc

  -- one side of a decision
  pub side : (l : Literal ℕ) (go on : Way ℕ → List (Way ℕ)) (w v : Way ℕ) → splits (words a) l go w on v ≡ goes_by (word_holds l) (λ (u : Way ℕ). go (decided (words a) false l w)) (λ (u : Way ℕ). on (decided (words a) true (negated l) v)) w
  side l go on w v = pick (word_holds l) (word_holds (negated l)) (opposite l)
    where
      pick : (b c : Bool) → c ≡ not b → goes_if b go (decided (words a) false l w) ++ goes_if c on (decided (words a) true (negated l) v) ≡ goes_by b (λ (u : Way ℕ). go (decided (words a) false l w)) (λ (u : Way ℕ). on (decided (words a) true (negated l) v)) w
      pick true false e = append-nil (go (decided (words a) false l w))
      pick true true e = absurd cc
      pick false true e = refl
      pick false false e = absurd cc

  -- a decision goes on by its value
  pub after_taken : (e : Effect ℕ) (go : Way ℕ → List (Way ℕ)) → IsSteady go → paths_of a (after (words a) e go) ≡ paths_of a (after (words a) (taken e) go)
  after_taken (Goes w) go steady = refl
  after_taken (Stops w) go steady = refl
  after_taken (Decides l w v) go steady = ap (paths_of a) (side l go go w v) ∙ pick (word_holds l)
    where
      pick : (b : Bool) → paths_of a (goes_by b (λ (u : Way ℕ). go (decided (words a) false l w)) (λ (u : Way ℕ). go (decided (words a) true (negated l) v)) w) ≡ paths_of a (after (words a) (if b then Goes (with_bit false w) else Goes (with_bit true v)) go)
      pick true = steady (decided (words a) false l w) (with_bit false w) refl
      pick false = steady (decided (words a) true (negated l) v) (with_bit true v) refl

  -- effects that are the same apart from conditions
  pub after_same : (e f : Effect ℕ) (go : Way ℕ → List (Way ℕ)) → IsSteady go → bare e ≡ bare f → paths_of a (after (words a) e go) ≡ paths_of a (after (words a) f go)
  after_same (Goes w) (Goes v) go steady e = steady w v (ap way_in e)
  after_same (Stops w) (Stops v) go steady e = one_steady w v (ap way_in e)
  after_same (Decides l w v) (Decides l' w' v') go steady e =
      let pick : (b : Bool) → paths_of a (goes_by b (λ (u : Way ℕ). go (decided (words a) false l w)) (λ (u : Way ℕ). go (decided (words a) true (negated l) v)) w) ≡ paths_of a (goes_by b (λ (u : Way ℕ). go (decided (words a) false l' w')) (λ (u : Way ℕ). go (decided (words a) true (negated l') v')) w') =
      λ b. halves b l l' w v w' v' go steady (ap way_in e) (ap other_in e) in
      ap (paths_of a) (side l go go w v)
      ∙ (pick (word_holds l)
      ∙ (ap (λ (x : Literal ℕ). paths_of a (goes_by (word_holds x) (λ (u : Way ℕ). go (decided (words a) false l' w')) (λ (u : Way ℕ). go (decided (words a) true (negated l') v')) w')) (ap literal_in e)
      ∙ ap (paths_of a) (sym (side l' go go w' v'))))
    where
      halves : (b : Bool) (l l' : Literal ℕ) (w v w' v' : Way ℕ) (go : Way ℕ → List (Way ℕ)) → IsSteady go → bare_way w ≡ bare_way w' → bare_way v ≡ bare_way v'
          → paths_of a (goes_by b (λ (u : Way ℕ). go (decided (words a) false l w)) (λ (u : Way ℕ). go (decided (words a) true (negated l) v)) w) ≡ paths_of a (goes_by b (λ (u : Way ℕ). go (decided (words a) false l' w')) (λ (u : Way ℕ). go (decided (words a) true (negated l') v')) w')
      halves true l l' w v w' v' go steady first second = steady (decided (words a) false l w) (decided (words a) false l' w') (ap (with_bit false) first)
      halves false l l' w v w' v' go steady first second = steady (decided (words a) true (negated l) v) (decided (words a) true (negated l') v') (ap (with_bit true) second)
  after_same (Goes w) (Stops v) go steady e = absurd cc
  after_same (Goes w) (Decides l v u) go steady e = absurd cc
  after_same (Stops w) (Goes v) go steady e = absurd cc
  after_same (Stops w) (Decides l v u) go steady e = absurd cc
  after_same (Decides l w u) (Goes v) go steady e = absurd cc
  after_same (Decides l w u) (Stops v) go steady e = absurd cc

  module _ (here : Here ℕ) where
    runs_same : (w v : Way ℕ) → bare_way w ≡ bare_way v → is_running w.state.outcome ≡ is_running v.state.outcome
    runs_same w v e = ap (λ (x : Way ℕ). is_running x.state.outcome) e

    at_same : (w v : Way ℕ) → bare_way w ≡ bare_way v → bare (effect_at (words a) here w) ≡ bare (effect_at (words a) here v)
    at_same w v e =
        effect_same a here (slice_get here.code.instrs w.pc) w v e
        ∙ ap (λ (x : Way ℕ). bare (effect_of (words a) here v (slice_get here.code.instrs x.pc))) e

    -- the paths on, with so many instructions left
    pub ways_steady : (fuel : ℕ) → IsSteady (ways (words a) here fuel)
    ways_steady zero =
        by_steady (λ (w : Way ℕ). is_running w.state.outcome) (λ v. failed (words a) here Fuel v ∷ []) (one_way (words a)) runs_same
        (λ w v e. ap (λ (x : Way ℕ). bare_one (failed (words a) here Fuel x)) e) one_steady
    ways_steady (suc fuel) =
        by_steady (λ (w : Way ℕ). is_running w.state.outcome) (λ v. after (words a) (effect_at (words a) here v) (ways (words a) here fuel)) (one_way (words a)) runs_same
        (λ w v e. after_same (effect_at (words a) here w) (effect_at (words a) here v) (ways (words a) here fuel) (ways_steady fuel) (at_same w v e)) one_steady

    -- an instruction was run
    pub turn_is : (v w : Way ℕ) (i : Instr) (s : Step) → is_running v.state.outcome ≡ true → slice_get here.code.instrs v.pc ≡ Some i → bare (seen s w) ≡ bare (taken (effect (words a) here i v))
        → (fuel : ℕ) → paths_of a (ways (words a) here (suc fuel) v) ≡ paths_of a (after (words a) (seen s w) (ways (words a) here fuel))
    turn_is v w i s runs at step fuel =
        ap (λ (b : Bool). paths_of a (goes_by b (λ u. after (words a) (effect_at (words a) here u) (ways (words a) here fuel)) (one_way (words a)) v)) runs
        ∙ (ap (λ (o : Option Instr). paths_of a (after (words a) (effect_of (words a) here v o) (ways (words a) here fuel))) at
        ∙ (after_taken (effect (words a) here i v) (ways (words a) here fuel) (ways_steady fuel)
        ∙ sym (after_same (seen s w) (taken (effect (words a) here i v)) (ways (words a) here fuel) (ways_steady fuel) step)))

    -- it has left the program, or has ended before
    pub turn_left : (v : Way ℕ) → slice_get here.code.instrs v.pc ≡ None → (fuel : ℕ) → paths_of a (ways (words a) here (suc fuel) v) ≡ paths_of a (v ∷ [])
    turn_left v at fuel = go (is_running v.state.outcome)
      where
        go : (b : Bool) → paths_of a (goes_by b (λ u. after (words a) (effect_at (words a) here u) (ways (words a) here fuel)) (one_way (words a)) v) ≡ paths_of a (v ∷ [])
        go true = ap (λ (o : Option Instr). paths_of a (after (words a) (effect_of (words a) here v o) (ways (words a) here fuel))) at
        go false = refl

    pub turn_ended : (v : Way ℕ) → is_running v.state.outcome ≡ false → (fuel : ℕ) → paths_of a (ways (words a) here fuel v) ≡ paths_of a (v ∷ [])
    turn_ended v ended zero = ap (λ (b : Bool). paths_of a (goes_by b (λ u. failed (words a) here Fuel u ∷ []) (one_way (words a)) v)) ended
    turn_ended v ended (suc fuel) = ap (λ (b : Bool). paths_of a (goes_by b (λ u. after (words a) (effect_at (words a) here u) (ways (words a) here fuel)) (one_way (words a)) v)) ended

    pub turn_spent : (v : Way ℕ) → is_running v.state.outcome ≡ true → paths_of a (ways (words a) here 0 v) ≡ paths_of a (failed (words a) here Fuel v ∷ [])
    turn_spent v runs = ap (λ (b : Bool). paths_of a (goes_by b (λ u. failed (words a) here Fuel u ∷ []) (one_way (words a)) v)) runs

    -- a failure choice goes on by its input
    pub chooses_is : (stays takes : Way ℕ → List (Way ℕ)) (w : Way ℕ) → IsSteady stays → IsSteady takes
        → paths_of a (chooses (words a) here stays takes w) ≡ paths_of a (goes_by (is_taken a here w) takes stays (chosen a here w))
    chooses_is stays takes w stay take = go (nat_eq w.state.inputs 65535)
      where
        value : ℕ
        value = fresh_input (words a) here w 1

        x : Way ℕ
        x = counted (words a) w

        pick : (b : Bool) → paths_of a (goes_by (same_bit b false) (λ (u : Way ℕ). stays (decided (words a) false (is_no (words a) here w) x)) (λ (u : Way ℕ). takes (decided (words a) true (negated (is_no (words a) here w)) x)) x) ≡ paths_of a (goes_by b takes stays (with_bit b x))
        pick true = take (decided (words a) true (negated (is_no (words a) here w)) x) (with_bit true x) refl
        pick false = stay (decided (words a) false (is_no (words a) here w) x) (with_bit false x) refl

        go : (b : Bool) → paths_of a (goes_by b stays (λ v. splits (words a) (is_no (words a) here v) stays (counted (words a) v) takes (counted (words a) v)) w)
            ≡ paths_of a (goes_by (if b then false else not (nat_eq value 0)) takes stays (if b then w else with_bit (if b then false else not (nat_eq value 0)) x))
        go true = refl
        go false = ap (paths_of a) (side (is_no (words a) here w) stays takes x x) ∙ pick (not (nat_eq value 0))

    -- with so many instructions run
    on_by : (fuel done : ℕ) → done < fuel → fuel - done ≡ suc (fuel - (done + 1))
    on_by fuel done h = omega (arith, h)

    pub turns_on : (fuel done : ℕ) (v w : Way ℕ) (s t : Step) (all : List (Path ℕ)) → done < fuel → all ≡ paths_of a (ways (words a) here (fuel - done) v) → s ≡ t → IsTurn a here v w s → all ≡ paths_of a (after (words a) (seen t w) (ways (words a) here (fuel - (done + 1))))
    turns_on fuel done v w s t all less so_far is turn =
        so_far ∙ (ap (λ (n : ℕ). paths_of a (ways (words a) here n v)) (on_by fuel done less)
        ∙ (turn (fuel - (done + 1)) ∙ ap (λ (x : Step). paths_of a (after (words a) (seen x w) (ways (words a) here (fuel - (done + 1))))) is))

    pub turns_done : (fuel done : ℕ) (v : Way ℕ) (all : List (Path ℕ)) → fuel ≤ done → all ≡ paths_of a (ways (words a) here (fuel - done) v) → all ≡ paths_of a (ways (words a) here 0 v)
    turns_done fuel done v all end so_far =
        let none : fuel - done ≡ 0 = omega (arith, end) in
        so_far ∙ ap (λ (n : ℕ). paths_of a (ways (words a) here n v)) none
