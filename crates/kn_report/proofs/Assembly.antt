-- A whole report out of its sections.
use Rattle.std.proofs.Common.{◌≡◌, ℕ, zero, suc, true, ◌+◌, ◌≤◌, ◌<◌, ◌⊎◌, inl, inr, List, [], ◌∷◌, ◌++◌, length, map, refl, ap, sym, subst, ◌∙◌, arith, append_assoc, append-nil, length-append}
use Rattle.std.proofs.lemmas.List.{length-map}
use Rattle.std.specs.Prelude.{Some, slice_get, flat_map, Ok}
use Rattle.std.specs.List.{AllByRecursion}
use Rattle.std.proofs.lemmas.List.Concat.{flat_map-cons}
use Rattle.kn_model.specs.Reports.{Mapping, Report, StateLine, FailureLine}
use Rattle.kn_report.specs.Forms.{AreLines, IsReport, Fits, StateFits, ColumnsFit, FailureFits, Names, are_columns, is_reach, failed_from}
use Rattle.kn_report.specs.Heads.{HeadView, HeadFits, spelled_head, head_in}
use Rattle.kn_report.specs.Reading.{BeginsWithLines, Begins, IsFaultAt, IsReadOf}
use Rattle.kn_report.specs.Sections.{IsState, IsDstate, IsFailure, failure_at}
use Rattle.kn_report.specs.Texts.{numbered_from, state_text, dstate_text, failure_text, head_text, end_text, lines_text, line_count, report_text}
use Rattle.kn_report.specs.Words.{IsItemRead, AllFrom, AreRead}

-- the items of a section, whatever their numbers
states_fit : (k : ℕ) (xs : List StateLine) → AllFrom IsState k xs → AllByRecursion StateFits xs
states_fit k [] all = tt
states_fit k (x ∷ xs) all = (all.0, states_fit (k + 1) xs all.1)

fit_states : (k : ℕ) (xs : List StateLine) → AllByRecursion StateFits xs → AllFrom IsState k xs
fit_states k [] all = tt
fit_states k (x ∷ xs) all = (all.0, fit_states (k + 1) xs all.1)

module _ (states nodes : ℕ) where
  dstates_fit : (k : ℕ) (ds : List (List (List ℕ))) → AllFrom (IsDstate states nodes) k ds → AllByRecursion ColumnsFit ds
  dstates_fit k [] all = tt
  dstates_fit k (d ∷ ds) all = (all.0.fits, dstates_fit (k + 1) ds all.1)

  dstates_form : (k : ℕ) (ds : List (List (List ℕ))) → AllFrom (IsDstate states nodes) k ds → AllByRecursion (λ (columns : List (List ℕ)). are_columns states nodes columns ≡ true) ds
  dstates_form k [] all = tt
  dstates_form k (d ∷ ds) all = (all.0.form, dstates_form (k + 1) ds all.1)

  fit_dstates : (k : ℕ) (ds : List (List (List ℕ))) → AllByRecursion ColumnsFit ds → AllByRecursion (λ (columns : List (List ℕ)). are_columns states nodes columns ≡ true) ds → AllFrom (IsDstate states nodes) k ds
  fit_dstates k [] fits form = tt
  fit_dstates k (d ∷ ds) fits form = (record { fits = fits.0; form = form.0 }, fit_dstates (k + 1) ds fits.1 form.1)

-- the state of a failure line
abbrev state_in : FailureLine → ℕ
state_in f = f.state

-- what stands behind a front
behind_all : (front : List ℕ) (i : ℕ) (rest : List ℕ) → slice_get (front ++ i ∷ rest) (length front) ≡ Some i
behind_all [] i rest = refl
behind_all (j ∷ front) i rest = behind_all front i rest

module _ (dstates : List (List (List ℕ))) (failed : List ℕ) where
  failures_fit : (k : ℕ) (fs : List FailureLine) → AllFrom (IsFailure dstates failed) k fs → AllByRecursion FailureFits fs
  failures_fit k [] all = tt
  failures_fit k (f ∷ fs) all = (all.0.fits, failures_fit (k + 1) fs all.1)

  failures_form : (k : ℕ) (fs : List FailureLine) → AllFrom (IsFailure dstates failed) k fs → AllByRecursion (λ (f : FailureLine). is_reach dstates f.reach ≡ true) fs
  failures_form k [] all = tt
  failures_form k (f ∷ fs) all = (all.0.form, failures_form (k + 1) fs all.1)

  fit_failures : (front : List ℕ) (k : ℕ) (fs : List FailureLine) (left : List ℕ) → length front ≡ k → failed ≡ front ++ (map state_in fs ++ left) → AllByRecursion FailureFits fs → AllByRecursion (λ (f : FailureLine). is_reach dstates f.reach ≡ true) fs → AllFrom (IsFailure dstates failed) k fs
  fit_failures front k [] left at is fits form = tt
  fit_failures front k (f ∷ fs) left at is fits form =
      let there : slice_get failed k ≡ Some f.state = ap (λ (l : List ℕ). slice_get l k) is ∙ ap (λ (n : ℕ). slice_get (front ++ f.state ∷ (map state_in fs ++ left)) n) (sym at) ∙ behind_all front f.state (map state_in fs ++ left) in
      let longer : length (front ++ f.state ∷ []) ≡ k + 1 = length-append front (f.state ∷ []) ∙ ap (λ (n : ℕ). n + 1) at in
      (record { state_is = there; fits = fits.0; form = form.0 }, fit_failures (front ++ f.state ∷ []) (k + 1) fs left longer (is ∙ sym (append_assoc front (f.state ∷ []) (map state_in fs ++ left))) fits.1 form.1)

-- an item of a list and the items behind it
from_item : (k : ℕ) (l : List ℕ) (front : List ℕ) (rest : List ℕ) (i : ℕ) → length front ≡ k → l ≡ front ++ rest → slice_get l k ≡ Some i → (more : List ℕ) × (rest ≡ i ∷ more)
from_item k l front [] i at is there = absurd (none_there front)
  where
    none_there : (front : List ℕ) → ⊥
    none_there front' = no_item l k (omega (arith, at, ap length (is ∙ append-nil front))) there
      where
        no_item : (m : List ℕ) (n : ℕ) → length m ≤ n → slice_get m n ≡ Some i → ⊥
        no_item [] zero h e = cc
        no_item [] (suc n) h e = cc
        no_item (x ∷ m) zero h e = omega (arith, h)
        no_item (x ∷ m) (suc n) h e = no_item m n (omega (arith, h)) e
from_item k l front (j ∷ rest) i at is there =
    let stands : Some j ≡ Some i = sym (behind_all front j rest) ∙ ap (λ (n : ℕ). slice_get (front ++ j ∷ rest) n) at ∙ ap (λ (m : List ℕ). slice_get m k) (sym is) ∙ there in
    let same : j ≡ i = cc in
    (rest, ap (λ (n : ℕ). n ∷ rest) same)

-- the failure lines are of the first failed states
named : (dstates : List (List (List ℕ))) (failed : List ℕ) (front : List ℕ) (k : ℕ) (fs : List FailureLine) (rest : List ℕ) → length front ≡ k → failed ≡ front ++ rest → AllFrom (IsFailure dstates failed) k fs → (left : List ℕ) × (rest ≡ map state_in fs ++ left)
named dstates failed front k [] rest at is all = (rest, refl)
named dstates failed front k (f ∷ fs) rest at is all =
    let next = from_item k failed front rest f.state at is all.0.state_is in
    let longer : length (front ++ f.state ∷ []) ≡ k + 1 = length-append front (f.state ∷ []) ∙ ap (λ (n : ℕ). n + 1) at in
    let more = named dstates failed (front ++ f.state ∷ []) (k + 1) fs next.0 longer (is ∙ ap (λ (l : List ℕ). front ++ l) next.1 ∙ sym (append_assoc front (f.state ∷ []) next.0)) all.1 in
    (more.0, next.1 ∙ ap (λ (l : List ℕ). f.state ∷ l) more.1)

-- failures are written without numbers
unnumbered : (k : ℕ) (fs : List FailureLine) → numbered_from failure_at k fs ≡ flat_map failure_text fs
unnumbered k [] = refl
unnumbered k (f ∷ fs) = ap (λ (l : List ℕ). failure_text f ++ l) (unnumbered (k + 1) fs) ∙ sym (flat_map-cons failure_text f fs)

-- the first byte of a text
abbrev pub first : List ℕ → ℕ
first [] = 0
first (c ∷ cs) = c

-- lines begin with their own letters
no_dstates : (ds : List (List (List ℕ))) (rest : List ℕ) → first (numbered_from dstate_text 0 ds ++ rest) ≡ 115 → ds ≡ []
no_dstates [] rest e = refl
no_dstates (d ∷ ds) rest e = absurd (omega (arith, e))

no_failures : (fs : List FailureLine) (rest : List ℕ) (c : ℕ) → c ≡ 115 ⊎ c ≡ 100 → first (flat_map failure_text fs ++ rest) ≡ c → fs ≡ []
no_failures [] rest c s e = refl
no_failures (f ∷ fs) rest c s e = absurd (go s)
  where
    letter : first (flat_map failure_text (f ∷ fs) ++ rest) ≡ 102
    letter = ap (λ (l : List ℕ). first (l ++ rest)) (flat_map-cons failure_text f fs)

    go : c ≡ 115 ⊎ c ≡ 100 → ⊥
    go (inl h) = omega (arith, h, e, letter)
    go (inr h) = omega (arith, h, e, letter)

-- a report of these parts
abbrev report_with : Mapping → ℕ → ℕ → List StateLine → List (List (List ℕ)) → List FailureLine → Report
report_with m t n s d f = record { mapping = m; ticks = t; nodes = n; states = s; dstates = d; failures = f }

-- reports with the same parts
same_report : (q r : Report) → head_in q ≡ head_in r → q.states ≡ r.states → q.dstates ≡ r.dstates → q.failures ≡ r.failures → q ≡ r
same_report q r h s d f =
    let m : q.mapping ≡ r.mapping = ap (λ (x : HeadView). x.mapping) h in
    let t : q.ticks ≡ r.ticks = ap (λ (x : HeadView). x.ticks) h in
    let n : q.nodes ≡ r.nodes = ap (λ (x : HeadView). x.nodes) h in
    parts q.mapping q.ticks q.nodes q.states q.dstates q.failures r m t n s d f
  where
    parts : (m : Mapping) (t n : ℕ) (s : List StateLine) (d : List (List (List ℕ))) (f : List FailureLine) (r : Report) → m ≡ r.mapping → t ≡ r.ticks → n ≡ r.nodes → s ≡ r.states → d ≡ r.dstates → f ≡ r.failures
        → report_with m t n s d f ≡ r
    parts m t n s d f r em et en es ed ef = rw (em, et, en, es, ed, ef) refl

-- the lines of a report, section by section
in_sections : (r : Report) (after : List ℕ) → lines_text r ++ after ≡ spelled_head (head_in r) ++ (numbered_from state_text 0 r.states ++ (numbered_from dstate_text 0 r.dstates ++ (flat_map failure_text r.failures ++ after)))
in_sections r after = sections (head_text r) (numbered_from state_text 0 r.states) (numbered_from dstate_text 0 r.dstates) (flat_map failure_text r.failures) after
  where
    sections : (a b c d e : List ℕ) → (a ++ (b ++ (c ++ d))) ++ e ≡ a ++ (b ++ (c ++ (d ++ e)))
    sections a b c d e = simp append_assoc

module _ (text rest0 rest1 rest2 rest3 : List ℕ) (r : Report)
    (head : IsItemRead spelled_head HeadFits text (head_in r) rest0)
    (states : AreRead state_text IsState rest0 r.states rest1)
    (dstates : AreRead dstate_text (IsDstate (length r.states) r.nodes) rest1 r.dstates rest2)
    (failures : AreRead failure_at (IsFailure r.dstates (failed_from 0 r.states)) rest2 r.failures rest3) where
  lines_are : AreLines r
  lines_are = record {
    dstates = dstates_form (length r.states) r.nodes 0 r.dstates dstates.good;
    reaches = failures_form r.dstates (failed_from 0 r.states) 0 r.failures failures.good;
  }

  fits_are : Fits r
  fits_are = record {
    ticks = head.good.ticks_fit;
    nodes = head.good.nodes_fit;
    states = states_fit 0 r.states states.good;
    dstates = dstates_fit (length r.states) r.nodes 0 r.dstates dstates.good;
    failures = failures_fit r.dstates (failed_from 0 r.states) 0 r.failures failures.good;
  }

  left_are : (left : List ℕ) × Names (failed_from 0 r.states) r.failures left
  left_are = named r.dstates (failed_from 0 r.states) [] 0 r.failures (failed_from 0 r.states) refl refl failures.good

  text_is : text ≡ lines_text r ++ rest3
  text_is =
      head.whole
      ∙ ap (λ (l : List ℕ). spelled_head (head_in r) ++ l) (states.whole
      ∙ ap (λ (l : List ℕ). numbered_from state_text 0 r.states ++ l) (dstates.whole
      ∙ ap (λ (l : List ℕ). numbered_from dstate_text 0 r.dstates ++ l) (failures.whole
      ∙ ap (λ (l : List ℕ). l ++ rest3) (unnumbered 0 r.failures))))
      ∙ sym (in_sections r rest3)

  begun : BeginsWithLines text (line_count r)
  begun = record {
    report = r;
    after = rest3;
    lines = lines_are;
    fits = fits_are;
    left = left_are.0;
    failures = left_are.1;
    text_is = text_is;
    number = refl;
  }

  -- the report is one, where no failed state is left
  pub whole_form : length (failed_from 0 r.states) ≤ length r.failures → IsReport r
  whole_form none = record { lines = lines_are; failures = go left_are.0 left_are.1 }
    where
      go : (left : List ℕ) → Names (failed_from 0 r.states) r.failures left → map state_in r.failures ≡ failed_from 0 r.states
      go [] e = sym (e ∙ append-nil (map state_in r.failures))
      go (i ∷ left) e = absurd (omega (arith, none, ap length e, length-append (map state_in r.failures) (i ∷ left), length-map r.failures state_in))

  -- any lines that the text begins with are among those that were read
  pub record Follows (q : Report) (after : List ℕ) : Type 0 where
    pub less : line_count q ≤ line_count r
    pub same : first after ≡ 101 → (q ≡ r) × (after ≡ rest3)

  module _ (q : Report) (after : List ℕ) (lines : AreLines q) (fits : Fits q) (left : List ℕ) (names : Names (failed_from 0 q.states) q.failures left) (from : text ≡ lines_text q ++ after) where
    heads : (head_in q ≡ head_in r) × (numbered_from state_text 0 q.states ++ (numbered_from dstate_text 0 q.dstates ++ (flat_map failure_text q.failures ++ after)) ≡ rest0)
    heads = head.one (head_in q) _ (record { ticks_fit = fits.ticks; nodes_fit = fits.nodes }) (from ∙ in_sections q after)

    in_failures : q.states ≡ r.states → q.dstates ≡ r.dstates → flat_map failure_text q.failures ++ after ≡ rest2 → Follows q after
    in_failures s d from2 = go m.0 m.1 m.2
      where
        all : AllFrom (IsFailure r.dstates (failed_from 0 r.states)) 0 q.failures
        all = subst (λ (ds : List (List (List ℕ))). AllFrom (IsFailure ds (failed_from 0 r.states)) 0 q.failures) d
            (subst (λ (xs : List StateLine). AllFrom (IsFailure q.dstates (failed_from 0 xs)) 0 q.failures) s
            (fit_failures q.dstates (failed_from 0 q.states) [] 0 q.failures left refl names fits.failures lines.reaches))

        m : (tail : List FailureLine) × (r.failures ≡ q.failures ++ tail) × (after ≡ numbered_from failure_at (length q.failures) tail ++ rest3)
        m = failures.most q.failures after all (sym from2 ∙ ap (λ (l : List ℕ). l ++ after) (sym (unnumbered 0 q.failures)))

        go : (tail : List FailureLine) → r.failures ≡ q.failures ++ tail → after ≡ numbered_from failure_at (length q.failures) tail ++ rest3 → Follows q after
        go [] e t = record {
          less = omega (arith, ap length s, ap length d, ap length (e ∙ append-nil q.failures));
          same = λ _. (same_report q r heads.0 s d (sym (e ∙ append-nil q.failures)), t);
        }
        go (f ∷ tail) e t = record {
          less = omega (arith, ap length s, ap length d, ap length e, length-append q.failures (f ∷ tail));
          same = λ h. absurd (let letter : first after ≡ 102 = ap first t in omega (arith, h, letter));
        }

    in_dstates : q.states ≡ r.states → numbered_from dstate_text 0 q.dstates ++ (flat_map failure_text q.failures ++ after) ≡ rest1 → Follows q after
    in_dstates s from1 = go m.0 m.1 m.2
      where
        nodes : q.nodes ≡ r.nodes
        nodes = ap (λ (x : HeadView). x.nodes) heads.0

        all : AllFrom (IsDstate (length r.states) r.nodes) 0 q.dstates
        all = subst (λ (n : ℕ). AllFrom (IsDstate (length r.states) n) 0 q.dstates) nodes
            (subst (λ (n : ℕ). AllFrom (IsDstate n q.nodes) 0 q.dstates) (ap length s)
            (fit_dstates (length q.states) q.nodes 0 q.dstates fits.dstates lines.dstates))

        m : (tail : List (List (List ℕ))) × (r.dstates ≡ q.dstates ++ tail) × (flat_map failure_text q.failures ++ after ≡ numbered_from dstate_text (length q.dstates) tail ++ rest2)
        m = dstates.most q.dstates (flat_map failure_text q.failures ++ after) all (sym from1)

        go : (tail : List (List (List ℕ))) → r.dstates ≡ q.dstates ++ tail → flat_map failure_text q.failures ++ after ≡ numbered_from dstate_text (length q.dstates) tail ++ rest2 → Follows q after
        go [] e t = in_failures s (sym (e ∙ append-nil q.dstates)) t
        go (d ∷ tail) e t =
            let letter : first (flat_map failure_text q.failures ++ after) ≡ 100 = ap first t in
            let none = no_failures q.failures after 100 (inr refl) letter in
            let here : first after ≡ 100 = ap (λ (fs : List FailureLine). first (flat_map failure_text fs ++ after)) (sym none) ∙ letter in
            record {
              less = omega (arith, ap length s, ap length e, length-append q.dstates (d ∷ tail), ap length none);
              same = λ h. absurd (omega (arith, h, here));
            }

    pub follows : Follows q after
    follows = go m.0 m.1 m.2
      where
        m : (tail : List StateLine) × (r.states ≡ q.states ++ tail) × (numbered_from dstate_text 0 q.dstates ++ (flat_map failure_text q.failures ++ after) ≡ numbered_from state_text (length q.states) tail ++ rest1)
        m = states.most q.states (numbered_from dstate_text 0 q.dstates ++ (flat_map failure_text q.failures ++ after)) (fit_states 0 q.states fits.states) (sym heads.1)

        go : (tail : List StateLine) → r.states ≡ q.states ++ tail → numbered_from dstate_text 0 q.dstates ++ (flat_map failure_text q.failures ++ after) ≡ numbered_from state_text (length q.states) tail ++ rest1 → Follows q after
        go [] e t = in_dstates (sym (e ∙ append-nil q.states)) t
        go (x ∷ tail) e t =
            let letter : first (numbered_from dstate_text 0 q.dstates ++ (flat_map failure_text q.failures ++ after)) ≡ 115 = ap first t in
            let no_ds = no_dstates q.dstates (flat_map failure_text q.failures ++ after) letter in
            let more : first (flat_map failure_text q.failures ++ after) ≡ 115 = ap (λ (ds : List (List (List ℕ))). first (numbered_from dstate_text 0 ds ++ (flat_map failure_text q.failures ++ after))) (sym no_ds) ∙ letter in
            let no_fs = no_failures q.failures after 115 (inl refl) more in
            let here : first after ≡ 115 = ap (λ (fs : List FailureLine). first (flat_map failure_text fs ++ after)) (sym no_fs) ∙ more in
            record {
              less = omega (arith, ap length e, length-append q.states (x ∷ tail), ap length no_ds, ap length no_fs);
              same = λ h. absurd (omega (arith, h, here));
            }

  -- a report at the front of the text is this one
  ended : (q : Report) (after : List ℕ) → IsReport q → Fits q → text ≡ report_text q ++ after → (q ≡ r) × (rest3 ≡ end_text r ++ after)
  ended q after form fits from =
      let names : Names (failed_from 0 q.states) q.failures [] = sym (append-nil (map state_in q.failures) ∙ form.failures) in
      let same = (follows q (end_text q ++ after) form.lines fits [] names (from ∙ append_assoc (lines_text q) (end_text q) after)).same refl in
      (same.0, sym same.1 ∙ ap (λ (x : Report). end_text x ++ after) same.0)

  -- the next line is of no form
  pub fault_next : (IsReport r → (after : List ℕ) → rest3 ≡ end_text r ++ after → ⊥) → IsFaultAt text (suc (line_count r))
  fault_next wrong = record {
    above = line_count r;
    next = refl;
    of_form = inr (inl begun);
    wrong = go;
    no_report = λ q form fits from. none q [] form fits (from ∙ sym (append-nil (report_text q)));
  }
    where
      none : (q : Report) (after : List ℕ) → IsReport q → Fits q → text ≡ report_text q ++ after → ⊥
      none q after form fits from = let e = ended q after form fits from in wrong (subst IsReport e.0 form) after e.1

      go : Begins text (suc (line_count r)) → ⊥
      go (inl e) = omega (arith, e)
      go (inr (inl b)) = let f = follows b.report b.after b.lines b.fits b.left b.failures b.text_is in let less = f.less in omega (arith, less, b.number)
      go (inr (inr b)) = none b.report b.after b.is_report b.fits b.text_is

  -- something stands behind the last line
  pub fault_behind : IsReport r → (after : List ℕ) → rest3 ≡ end_text r ++ after → 0 < length after → IsFaultAt text (suc (suc (line_count r)))
  fault_behind form after is some = record {
    above = suc (line_count r);
    next = refl;
    of_form = inr (inr (record {
      report = r;
      after = after;
      is_report = form;
      fits = fits_are;
      text_is = text_is ∙ ap (λ (l : List ℕ). lines_text r ++ l) is ∙ sym (append_assoc (lines_text r) (end_text r) after);
      number = refl;
    }));
    wrong = go;
    no_report = λ q f fits from.
        let e = ended q [] f fits (from ∙ sym (append-nil (report_text q))) in
        omega (arith, some, ap length (sym e.1 ∙ is), length-append (end_text r) [], length-append (end_text r) after);
  }
    where
      go : Begins text (suc (suc (line_count r))) → ⊥
      go (inl e) = omega (arith, e)
      go (inr (inl b)) = let f = follows b.report b.after b.lines b.fits b.left b.failures b.text_is in let less = f.less in omega (arith, less, b.number)
      go (inr (inr b)) = let e = ended b.report b.after b.is_report b.fits b.text_is in omega (arith, b.number, ap line_count e.0)

  -- the text is that of this report, and of no other
  pub read_whole : IsReport r → rest3 ≡ end_text r → IsReadOf text (Ok r)
  read_whole form is = (
    text_is ∙ ap (λ (l : List ℕ). lines_text r ++ l) is,
    form,
    λ q f fits from. sym (ended q [] f fits (from ∙ sym (append-nil (report_text q)))).0,
  )

-- the first line is of no form
pub fault_first : (text : List ℕ) → ((h : HeadView) (more : List ℕ) → HeadFits h → text ≡ spelled_head h ++ more → ⊥) → IsFaultAt text 1
fault_first text wrong = record {
  above = 0;
  next = refl;
  of_form = inl refl;
  wrong = go;
  no_report = λ q form fits from. none q (end_text q) fits from;
}
  where
    none : (q : Report) (after : List ℕ) → Fits q → text ≡ lines_text q ++ after → ⊥
    none q after fits from = wrong (head_in q) _ (record { ticks_fit = fits.ticks; nodes_fit = fits.nodes }) (from ∙ in_sections q after)

    go : Begins text 1 → ⊥
    go (inl e) = omega (arith, e)
    go (inr (inl b)) = none b.report b.after b.fits b.text_is
    go (inr (inr b)) = none b.report (end_text b.report ++ b.after) b.fits (b.text_is ∙ append_assoc (lines_text b.report) (end_text b.report) b.after)
