-- Picks that have not one state for each column.
use Rattle.std.proofs.Common.{◌≡◌, ℕ, false, List, [], ◌∷◌, length, refl, sym, ◌∙◌, arith}
use Rattle.std.specs.Prelude.{Vec, nat_eq}
use Rattle.std.specs.declared.alloc.Global.{Global}
use Rattle.std.specs.List.{list_any}
use Rattle.std.proofs.lemmas.Bool.{and_right, ne_eqb}
use Rattle.kn_report.specs.Forms.{takes}
use Rattle.kn_report.specs.Views.{lists_of}

unlike : (columns : List (Vec ℕ Global)) (pick : List ℕ) → (length columns ≡ length pick → ⊥) → takes (lists_of columns) pick ≡ false
unlike [] [] differ = absurd (differ refl)
unlike [] (i ∷ is) differ = refl
unlike (c ∷ cs) [] differ = refl
unlike (c ∷ cs) (i ∷ is) differ = and_right (list_any (λ (j : ℕ). nat_eq j i) c.items) (takes (lists_of cs) is) (unlike cs is (λ e. differ (omega (arith, e))))

pub takes_unlike : (n : ℕ) (columns : List (Vec ℕ Global)) (pick : List ℕ) → n ≡ length columns → (n ≡ length pick → ⊥) → nat_eq n (length pick) ≡ takes (lists_of columns) pick
takes_unlike n columns pick count differ = ne_eqb n (length pick) differ ∙ sym (unlike columns pick (λ e. differ (count ∙ e)))
