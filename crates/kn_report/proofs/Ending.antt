-- The last line of a report, and what stands behind it.
use Rattle.std.proofs.Common.{◌≡◌, ◌+◌, ◌<◌, suc, [], ◌∷◌, ◌++◌, List, ℕ, inl, inr, length, sym, ap, subst, ◌∙◌, arith, append-nil}
use Rattle.std.proofs.lemmas.List.{length-map}
use Rattle.std.specs.Prelude.{Ok, Err, Result}
use Rattle.kn_model.specs.Reports.{Report, FailureLine}
use Rattle.kn_report.specs.Forms.{IsReport, failed_from}
use Rattle.kn_report.specs.Reading.{IsFaultAt, IsReadOf, IsEnded}
use Rattle.kn_report.specs.Sections.{AreSections}
use Rattle.kn_report.specs.Texts.{end_text, line_count}
use Rattle.kn_report.proofs.Assembly.{whole_form, fault_next, fault_behind, read_whole}

pub end_missing : (above line : ℕ) (r : Report) (rest : List ℕ) → line ≡ above + 1 → ((after : List ℕ) → rest ≡ end_text r ++ after → ⊥) → IsEnded above r rest (Err line)
end_missing above line r rest is wrong = inl (omega (arith, is), wrong)

pub end_more : (above line : ℕ) (r : Report) (rest after : List ℕ) → line ≡ above + 2 → rest ≡ end_text r ++ after → (length after ≡ 0 → ⊥) → IsEnded above r rest (Err line)
end_more above line r rest after is whole some = inr (omega (arith, is), after, whole, omega (arith, some))

pub end_alone : (r : Report) (rest after : List ℕ) → rest ≡ end_text r ++ after → length after ≡ 0 → rest ≡ end_text r
end_alone r rest [] whole none = whole ∙ append-nil (end_text r)
end_alone r rest (c ∷ after) whole none = absurd (omega (arith, none))

module _ (text : List ℕ) (r : Report) (failed : ℕ) (rest : List ℕ) (s : AreSections text r failed rest) where
  -- a failed state has no line
  pub fault_left : (line : ℕ) → length r.failures < failed → line ≡ line_count r + 1 → IsFaultAt text line
  fault_left line few is =
      let count = s.count in
      let next : line ≡ suc (line_count r) = omega (arith, is) in
      subst (IsFaultAt text) (sym next) (fault_next text s.behind_head s.behind_states s.behind_dstates rest r s.head s.states s.dstates s.failures (λ form after e. missing form (few_failures form count)))
    where
      missing : IsReport r → length r.failures ≡ failed → ⊥
      missing form same = omega (arith, few, same)

      few_failures : IsReport r → failed ≡ length (failed_from 0 r.states) → length r.failures ≡ failed
      few_failures form count = omega (arith, count, ap length form.failures, length-map r.failures (λ (f : FailureLine). f.state))

  pub form_of : failed < length r.failures + 1 → IsReport r
  form_of all = let count = s.count in whole_form text s.behind_head s.behind_states s.behind_dstates rest r s.head s.states s.dstates s.failures (omega (arith, count, all))

  -- what the last line says
  pub ended_of : (above : ℕ) → IsReport r → above ≡ line_count r → (q : Result Report ℕ) → IsEnded above r rest q → IsReadOf text q
  ended_of above form is (Ok q) e = subst (λ (x : Report). IsReadOf text (Ok x)) (sym e.0) (read_whole text s.behind_head s.behind_states s.behind_dstates rest r s.head s.states s.dstates s.failures form e.1)
  ended_of above form is (Err line) (inl e) =
      let next : line ≡ suc (line_count r) = e.0 ∙ ap suc is in
      subst (IsFaultAt text) (sym next) (fault_next text s.behind_head s.behind_states s.behind_dstates rest r s.head s.states s.dstates s.failures (λ _. e.1))
  ended_of above form is (Err line) (inr e) =
      let next : line ≡ suc (suc (line_count r)) = e.0 ∙ ap (λ (n : ℕ). suc (suc n)) is in
      subst (IsFaultAt text) (sym next) (fault_behind text s.behind_head s.behind_states s.behind_dstates rest r s.head s.states s.dstates s.failures form e.1 e.2 e.3)
