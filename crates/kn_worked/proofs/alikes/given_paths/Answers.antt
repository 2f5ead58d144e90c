use Rattle.std.proofs.Common.{◌≡◌, inl, inr, Bool, true, false, [], ◌∷◌, refl}
use Rattle.std.specs.Prelude.{nat_eq, not, ◌&&◌}
use Rattle.kn_model.specs.Terms.{Input, ev, same_bit}
use Rattle.kn_model.specs.Conditions.{that, IsImpossible}
use Rattle.kn_model.specs.Alikes.{AlikePath, AreGiven}
use Rattle.kn_model.proofs.AlikeTerms.{condition_self, alike_self}
use Rattle.kn_worked.specs.Parts.{one}
use Rattle.kn_worked.specs.Alikes.{twice_path}
use Rattle.kn_worked.proofs.alikes.given_paths.Goals as goal

-- the first path and the last, each alike to itself
first_self : AlikePath (twice_path 0) (twice_path 0)
first_self = record { bits = refl; literals = condition_self (twice_path 0).literals; state = alike_self (twice_path 0).state; sends = tt }

last_self : AlikePath (twice_path 3) (twice_path 3)
last_self = record { bits = refl; literals = condition_self (twice_path 3).literals; state = alike_self (twice_path 3).state; sends = tt }

second_self : AlikePath (twice_path 1) (twice_path 1)
second_self = record { bits = refl; literals = condition_self (twice_path 1).literals; state = alike_self (twice_path 1).state; sends = tt }

third_self : AlikePath (twice_path 2) (twice_path 2)
third_self = record { bits = refl; literals = condition_self (twice_path 2).literals; state = alike_self (twice_path 2).state; sends = tt }

-- the input is not 0 and is 0
second_never : IsImpossible (that (twice_path 1).state.own)
second_never a = go (nat_eq (ev a (Input 0 0 1)) 0)
  where
    go : (b : Bool) → (same_bit (not b) true && (same_bit (not b) false && true)) ≡ false
    go true = refl
    go false = refl

third_never : IsImpossible (that (twice_path 2).state.own)
third_never a = go (nat_eq (ev a (Input 0 0 1)) 0)
  where
    go : (b : Bool) → (same_bit (not b) false && (same_bit (not b) true && true)) ≡ false
    go true = refl
    go false = refl

-- the first can be where the input is 1, and the last where it is 0
first_can : IsImpossible (that (twice_path 0).state.own) → ⊥
first_can never = let wrong : true ≡ false = never (one 0 0) in cc

last_can : IsImpossible (that (twice_path 3).state.own) → ⊥
last_can never = let wrong : true ≡ false = never [] in cc

bits_differ : AlikePath (twice_path 3) (twice_path 0) → ⊥
bits_differ alike = let wrong : (true ∷ true ∷ []) ≡ (false ∷ false ∷ []) = alike.bits in cc

-- the last one is given once
past_second : AreGiven (twice_path 3 ∷ twice_path 3 ∷ []) (twice_path 2 ∷ twice_path 3 ∷ []) → ⊥
past_second (inl g) = let wrong : (true ∷ true ∷ []) ≡ (true ∷ false ∷ []) = g.0.bits in cc
past_second (inr g) = elim g.1 [ inl h ↦ h.1 | inr h ↦ last_can h.0 ]

past_first : AreGiven (twice_path 3 ∷ twice_path 3 ∷ []) (twice_path 1 ∷ twice_path 2 ∷ twice_path 3 ∷ []) → ⊥
past_first (inl g) = let wrong : (true ∷ true ∷ []) ≡ (false ∷ true ∷ []) = g.0.bits in cc
past_first (inr g) = past_second g.1

pub returns-clause-all : goal.returns-clause-all
returns-clause-all c = inl (first_self, inl (second_self, inl (third_self, inl (last_self, tt))))

pub returns-clause-possible : goal.returns-clause-possible
returns-clause-possible c = inl (first_self, inr (second_never, inr (third_never, inl (last_self, tt))))

pub returns-clause-left_out : goal.returns-clause-left_out
returns-clause-left_out c = λ h. elim h [ inl g ↦ last_can g.1.1.1.0 | inr g ↦ first_can g.0 ]

pub returns-clause-other_order : goal.returns-clause-other_order
returns-clause-other_order c = λ h. elim h [ inl g ↦ bits_differ g.0 | inr g ↦ first_can g.0 ]

pub returns-clause-given_twice : goal.returns-clause-given_twice
returns-clause-given_twice c = λ h. elim h [ inl g ↦ past_first g.1 | inr g ↦ first_can g.0 ]
