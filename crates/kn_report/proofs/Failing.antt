-- The failed state whose line comes next.
use Rattle.std.proofs.Common.{◌≡◌, ℕ, zero, suc, ◌<◌, ◌≤◌, ◌+◌, List, [], ◌∷◌, ◌++◌, length, get_or, refl, ap, sym, subst, ◌∙◌, arith, length-append}
use Rattle.std.specs.Prelude.{Some, None, slice_get, Option}
use Rattle.kn_model.specs.Reports.{FailureLine}
use Rattle.kn_report.specs.Sections.{IsFailure, IsFailureOf, failure_at}
use Rattle.kn_report.specs.Texts.{failure_text}
use Rattle.kn_report.specs.Words.{IsItemRead}

stands_at : (failed : List ℕ) (i d : ℕ) → i < length failed → slice_get failed i ≡ Some (get_or failed i d)
stands_at [] i d inside = absurd (omega (arith, inside))
stands_at (x ∷ failed) zero d inside = refl
stands_at (x ∷ failed) (suc i) d inside = stands_at failed i d (omega (arith, inside))

none_at : (failed : List ℕ) (i : ℕ) → length failed ≤ i → slice_get failed i ≡ None
none_at [] zero past = refl
none_at [] (suc i) past = refl
none_at (x ∷ failed) zero past = absurd (omega (arith, past))
none_at (x ∷ failed) (suc i) past = none_at failed i (omega (arith, past))

module _ (dstates : List (List (List ℕ))) (failed : List ℕ) (k i d : ℕ) (count : k ≡ i) (inside : i < length failed) (rest : List ℕ) where
  number : Some (get_or failed i d) ≡ slice_get failed k
  number = sym (ap (slice_get failed) count ∙ stands_at failed i d inside)

  -- its line was read
  pub next_read : (f : FailureLine) (after : List ℕ) → IsItemRead failure_text (IsFailureOf dstates (Some (get_or failed i d))) rest f after → IsItemRead (failure_at k) (IsFailure dstates failed k) rest f after
  next_read f after read = subst (λ (o : Option ℕ). IsItemRead failure_text (IsFailureOf dstates o) rest f after) number read

  -- or it is not there
  pub next_none : ((f : FailureLine) (more : List ℕ) → IsFailureOf dstates (Some (get_or failed i d)) f → rest ≡ failure_text f ++ more → ⊥) → (f : FailureLine) (more : List ℕ) → IsFailure dstates failed k f → rest ≡ failure_at k f ++ more → ⊥
  next_none none = subst (λ (o : Option ℕ). (f : FailureLine) (more : List ℕ) → IsFailureOf dstates o f → rest ≡ failure_text f ++ more → ⊥) number none

-- no failed state is left
pub past_failed : (dstates : List (List (List ℕ))) (failed : List ℕ) (k : ℕ) (rest : List ℕ) → length failed ≤ k → (f : FailureLine) (more : List ℕ) → IsFailure dstates failed k f → rest ≡ failure_at k f ++ more → ⊥
past_failed dstates failed k rest past f more good from =
    let wrong : None ≡ Some f.state = sym (none_at failed k past) ∙ good.state_is in
    absurd cc

-- one more, in code's words
pub count_more : (xs : List FailureLine) (x : FailureLine) (new : List FailureLine) (i : ℕ) → new ≡ xs ++ x ∷ [] → length xs ≡ i → length new ≡ i + 1
count_more xs x new i is count = omega (arith, count, ap length is, length-append xs (x ∷ []))
