-- Where the first line is of the form.
use Rattle.std.proofs.Common.{◌≡◌, ◌+◌, true, false, length, take, ap, sym, subst, ◌∙◌, arith}
use Rattle.std.specs.Prelude.{Some}
use Rattle.std.proofs.lemmas.Bool.{eqb-true}
use Rattle.std.proofs.lemmas.Bool.Decides.{Decides-eqb}
use Rattle.std.proofs.lemmas.Slice.Eq.{slice_eq-Decides}
use Rattle.kn_cnf.specs.Formulas.{Step}
use Rattle.kn_unsat.specs.Text.{IsNumbered, body_text, line_text}
use Rattle.kn_unsat.specs.Words.{IsLineRead}
use Rattle.kn_unsat.proofs.Spelled.{line_cut, line_read, line_differs, none_is}
use Rattle.kn_unsat.proofs.reading.next_line.Goals as goal

pub returns-then-is_empty : goal.returns-then-is_empty
returns-then-is_empty c = λ s after n from.
    let u = c.until.ensures in
    let cut = line_cut c.args.text.now c.until.result.0.now c.until.result.1.now s after u.whole u.without u.begins n from in
    let none : length c.until.result.1.now ≡ 0 = eqb-true (length c.until.result.1.now) 0 (sym c.is_empty.ensures ∙ c.if-is_empty.true) in
    omega (arith, none, ap length cut.1)

pub returns-in_default : goal.returns-in_default
returns-in_default c = λ s after n from.
    let u = c.until.ensures in
    let cut = line_cut c.args.text.now c.until.result.0.now c.until.result.1.now s after u.whole u.without u.begins n from in
    none_is s (sym c.in_default.is ∙ c.in_ok-line.ensures s n cut.0)

pub returns-then-not-is_same : goal.returns-then-not-is_same
returns-then-not-is_same c =
    let u = c.until.ensures in
    let reads : (s : Step) → IsNumbered s → c.until.result.0.now ≡ body_text s → Some c.in-Some.line ≡ Some s = λ s n b. sym c.in-Some.is ∙ c.in_ok-line.ensures s n b in
    let spelled = slice_eq-Decides Decides-eqb c.as_bytes.result.now c.split_at.result.0.now c.eq-is_same.result c.eq-is_same.ensures in
    let differs : line_text c.in-Some.line ≡ take (length c.until.result.0.now + 1) c.args.text.now → ⊥ = λ e.
    let same = spelled.1 (c.as_bytes.ensures.value ∙ (c.in_ok-spelled.ensures.text ∙ (e ∙ sym c.split_at.ensures.front))) in
    let wrong : true ≡ false = sym same ∙ c.if-not-is_same.true in
    cc in
    λ s after n from. line_differs c.args.text.now c.until.result.0.now c.until.result.1.now c.in-Some.line s after u.whole u.without u.begins reads differs n from

pub returns : goal.returns
returns c =
    let u = c.until.ensures in
    let reads : (s : Step) → IsNumbered s → c.until.result.0.now ≡ body_text s → Some c.in-Some.line ≡ Some s = λ s n b. sym c.in-Some.is ∙ c.in_ok-line.ensures s n b in
    let spelled = slice_eq-Decides Decides-eqb c.as_bytes.result.now c.split_at.result.0.now c.eq-is_same.result c.eq-is_same.ensures in
    let same : line_text c.in-Some.line ≡ take (length c.until.result.0.now + 1) c.args.text.now = sym c.in_ok-spelled.ensures.text ∙ (sym c.as_bytes.ensures.value ∙ (spelled.0 c.if-not-is_same.false ∙ c.split_at.ensures.front)) in
    subst (IsLineRead c.args.text.now c.in-Some.line) (sym c.split_at.ensures.back) (line_read c.args.text.now c.until.result.0.now c.until.result.1.now c.in-Some.line u.whole u.without u.begins reads c.in_ok-spelled.ensures.numbered same)
