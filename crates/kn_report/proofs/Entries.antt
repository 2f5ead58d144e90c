-- An entry that was read is put behind the others.
use Rattle.std.proofs.Common.{◌≡◌, ℕ, [], ◌∷◌, ◌++◌, refl, sym, ap, ◌∙◌}
use Rattle.std.specs.Prelude.{Some}
use Rattle.kn_term.specs.Valuations.{with_word}
use Rattle.kn_term.specs.Terms.{Given, Valuation}

-- three numbers
abbrev triple : ℕ → ℕ → ℕ → ℕ × ℕ × ℕ
triple n k w = (n, k, w)

pub stepped : (g : Given) (n k w : ℕ) (done new : Valuation) → Some (triple n k w) ≡ Some (triple g.node g.index g.word) → with_word g.node g.index g.word done ≡ done ++ g ∷ [] → new ≡ with_word n k w done → done ++ g ∷ [] ≡ new
stepped g n k w done new same last set =
    let at : (n ≡ g.node) × (k ≡ g.index) × (w ≡ g.word) = parts (triple n k w) (triple g.node g.index g.word) same in
    let moved : with_word n k w done ≡ with_word g.node g.index g.word done = rw (at.0, at.1, at.2) refl in
    sym (set ∙ moved ∙ last)
  where
    parts : (p q : ℕ × ℕ × ℕ) → Some p ≡ Some q → (p.0 ≡ q.0) × (p.1 ≡ q.1) × (p.2 ≡ q.2)
    parts p q e = let same : p ≡ q = cc in (ap (λ (t : ℕ × ℕ × ℕ). t.0) same, ap (λ (t : ℕ × ℕ × ℕ). t.1) same, ap (λ (t : ℕ × ℕ × ℕ). t.2) same)
