-- The line of a failed state at the front of a text.
use Rattle.std.proofs.Common.{◌≡◌, ℕ, true, false, List, ◌++◌, refl, sym, subst, ◌∙◌}
use Rattle.std.specs.Prelude.{Some, None, Option}
use Rattle.kn_model.specs.Reports.{FailureLine, Reach}
use Rattle.kn_report.specs.declared.report.Reached.{Reached}
use Rattle.kn_report.specs.Forms.{FailureFits, is_reach}
use Rattle.kn_report.specs.Sections.{IsFailureOf}
use Rattle.kn_report.specs.Texts.{failure_body, failure_text}
use Rattle.kn_report.specs.Views.{reach_of}
use Rattle.kn_report.specs.Words.{Without, BeginsWith, IsItemRead, Reads}
use Rattle.kn_report.proofs.Blanks.{failure_without}
use Rattle.kn_report.proofs.Cut.{some_is}
use Rattle.kn_report.proofs.Lines.{line_of_other, line_of_item, line_cut}

module _ (dstates : List (List (List ℕ))) (state : ℕ) (text line rest : List ℕ) (is : text ≡ line ++ rest) (w : Without 10 line) (b : BeginsWith 10 rest)
    (o : Option Reached) (reads : (f : FailureLine) → FailureFits f → line ≡ failure_body f → Reads reach_of f.reach o) where
  abbrev Good : FailureLine → Type 0
  Good = IsFailureOf dstates (Some state)

  abbrev line_with : ℕ → Reach → FailureLine
  line_with s r = record { state = s; reach = r }

  abbrev pub Line : Reached → FailureLine
  Line x = line_with state (reach_of x)

  no_feed : (y : FailureLine) → Good y → Without 10 (failure_body y)
  no_feed y good = failure_without y good.fits

  pub failure_none : o ≡ None → (y : FailureLine) (more : List ℕ) → Good y → text ≡ failure_text y ++ more → ⊥
  failure_none none y more good from = subst (Reads reach_of y.reach) none (reads y good.fits (line_cut failure_body Good no_feed text line rest is w b y more good from))

  -- what was read is the line
  is_line : (x : Reached) → o ≡ Some x → (y : FailureLine) → Good y → line ≡ failure_body y → Some (Line x) ≡ Some y
  is_line x some y good e =
      let reach : reach_of x ≡ y.reach = subst (Reads reach_of y.reach) some (reads y good.fits e) in
      let number : state ≡ y.state = some_is state y.state good.state_is in
      same state (reach_of x) y number reach
    where
      same : (s : ℕ) (r : Reach) (z : FailureLine) → s ≡ z.state → r ≡ z.reach → Some (line_with s r) ≡ Some z
      same s r z p q = rw (p, q) refl

  pub failure_unfit : (x : Reached) → o ≡ Some x → (is_reach dstates (reach_of x) ≡ false) → (y : FailureLine) (more : List ℕ) → Good y → text ≡ failure_text y ++ more → ⊥
  failure_unfit x some wrong = line_of_other failure_body Good no_feed text line rest is w b (Line x) (is_line x some)
      (λ good more from. let clash : false ≡ true = sym wrong ∙ good.form in cc)

  pub failure_other : (x : Reached) → o ≡ Some x → ((more : List ℕ) → text ≡ failure_text (Line x) ++ more → ⊥) → (y : FailureLine) (more : List ℕ) → Good y → text ≡ failure_text y ++ more → ⊥
  failure_other x some wrong = line_of_other failure_body Good no_feed text line rest is w b (Line x) (is_line x some) (λ good. wrong)

  pub failure_item : (x : Reached) → o ≡ Some x → (after : List ℕ) → FailureFits (Line x) → is_reach dstates (reach_of x) ≡ true → text ≡ failure_text (Line x) ++ after → IsItemRead failure_text Good text (Line x) after
  failure_item x some after fits form whole = line_of_item failure_body Good no_feed text line rest is w b (Line x) after (is_line x some) (record { state_is = refl; fits = fits; form = form }) whole
