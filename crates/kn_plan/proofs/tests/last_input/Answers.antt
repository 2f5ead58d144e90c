-- An input that is given a word other than 0 is the one entry.
use Rattle.std.proofs.Common.{◌≡◌, ℕ, ◌≤◌, Bool, true, false, cond, [], ◌∷◌, refl, ap, ◌∙◌, arith}
use Rattle.std.specs.Prelude.{nat_eq}
use Rattle.kn_term.specs.Terms.{Given, Valuation}
use Rattle.kn_term.specs.Valuations.{with_word}
use Rattle.kn_plan.proofs.tests.last_input.Goals as goal

abbrev given : ℕ → ℕ → ℕ → Given
given n k w = record { node = n; index = k; word = w }

one_entry : (n k w : ℕ) → 1 ≤ w → with_word n k w [] ≡ given n k w ∷ []
one_entry n k w some = go (nat_eq w 0) (grind (arith, some)) where
  go : (b : Bool) → b ≡ false → cond b [] (given n k w ∷ []) ≡ given n k w ∷ []
  go true e = absurd cc
  go false e = refl

pub returns : goal.returns
returns c =
    c.in_ok-set.ensures.ok ∙ (ap (λ (a : Valuation). with_word 1 65535 c.args.word a) c.new-inputs.ensures ∙ one_entry 1 65535 c.args.word c.requires)
