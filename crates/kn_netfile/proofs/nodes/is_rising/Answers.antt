-- One number rises.
use Rattle.std.proofs.Common.{◌≡◌, ℕ, ◌-◌, ◌≤◌, ℤ, true, List, [], ◌∷◌, length, length-drop, map, drop, refl, sym, ◌∙◌, arith}
use Rattle.std.proofs.lemmas.List.{length-map}
use Rattle.kn_netfile.specs.Keys.{is_rising, tick_of}
use Rattle.kn_netfile.proofs.nodes.is_rising.Goals as goal

short : (ts : List ℕ) → length ts ≤ 1 → is_rising ts ≡ true
short [] few = refl
short (t ∷ []) few = refl
short (t ∷ u ∷ ts) few = absurd (omega arith)

at_end : (ns : List ℤ) (i : ℕ) → length ns ≤ i → is_rising (map tick_of (drop (i - 1) ns)) ≡ is_rising (map tick_of ns) → true ≡ is_rising (map tick_of ns)
at_end ns i le before = sym (short (map tick_of (drop (i - 1) ns)) (simp (length-map, length-drop) (omega arith))) ∙ before

pub returns : goal.returns
returns c = at_end c.args.numbers.now c.loop-index.index c.loop-index-test.false c.loop-index.invariant
