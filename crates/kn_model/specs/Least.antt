-- Inputs in their order, and the least that have a property.
use Rattle.std.specs.Prelude.{◌≡◌, ◌<◌, ℕ, true}
use Rattle.kn_term.specs.Valuations.{AreEntries, precedes}
use Rattle.kn_model.specs.Terms.{Valuation, listed}

-- One comes before another where, at the first input by node and index to which they give different words, it gives the lower one.
pub record IsBefore (b a : Valuation) : Type 0 where
  pub node : ℕ
  pub index : ℕ
  pub lower : listed b node index < listed a node index
  pub same : (m j : ℕ) → precedes m j node index ≡ true → listed b m j ≡ listed a m j

-- the first of all inputs with a property; those that are 0 are not listed
pub record IsFirst (P : Valuation → Type 0) (a : Valuation) : Type 0 where
  pub entries : AreEntries a
  pub has : P a
  pub first : (b : Valuation) → IsBefore b a → P b → ⊥
