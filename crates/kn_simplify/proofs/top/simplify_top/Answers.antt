-- The form stands for the term.
use Rattle.std.proofs.Common.{◌≡◌, ◌∙◌, ℕ, true, Some, sym, subst}
use Rattle.std.specs.Prelude.{slice_get}
use Rattle.std.proofs.lemmas.Option.{MatchOption-at_some, MatchOption-at_none, same_Some}
use Rattle.std.proofs.lemmas.Result.{IfOk-weaker}
use Rattle.kn_term.specs.declared.node.Ref.{Ref}
use Rattle.kn_word.specs.declared.Op.{Op}
use Rattle.kn_term.specs.declared.node.Node.TheVariants.{Apply}
use Rattle.kn_term.specs.Terms.{Reads}
use Rattle.kn_term.specs.Nodes.{term_at}
use Rattle.kn_simplify.specs.Folded.{IsFolded, HasFoldedOperands, IsWordOr, is_idle_twice}
use Rattle.kn_simplify.specs.declared.form.Form.{Form}
use Rattle.kn_simplify.specs.Simpler.{StandsFor, form_term}
use Rattle.kn_simplify.proofs.Folding.{folded_of}
use Rattle.kn_simplify.proofs.Simpler.{for_same, for_twice}
use Rattle.kn_simplify.proofs.top.simplify_top.Goals as goal

pub returns-in-Some-clause-inputs : goal.returns-in-Some-clause-inputs
returns-in-Some-clause-inputs c =
    let old = c.args.terms.now in
    let t = form_term old c.in-Some.form in
    let for : StandsFor t (term_at old c.args.r.index) = for_twice _ _ _ c.in-Some.ensures.form.term (for_same _ _ (sym c.node-node.ensures.term)) in
    IfOk-weaker c.enter.result (λ (s : Ref). term_at c.enter.new.terms s.index ≡ t)
    (λ (s : Ref). (n k width : ℕ) → Reads n k width (term_at c.enter.new.terms s.index) → Reads n k width (term_at old c.args.r.index))
    (λ s e n k width r. for.inputs n k width (subst (Reads n k width) e r)) c.enter.ensures.term

pub returns-in-Some-clause-folded : goal.returns-in-Some-clause-folded
returns-in-Some-clause-folded c =
    let old = c.args.terms.now in
    let t = form_term old c.in-Some.form in
    IfOk-weaker c.enter.result (λ (s : Ref). term_at c.enter.new.terms s.index ≡ t)
    (λ (s : Ref). HasFoldedOperands (term_at old c.args.r.index) → IsFolded (term_at c.enter.new.terms s.index))
    (λ s e are. subst IsFolded (sym e) (c.in-Some.ensures.form.folded (subst HasFoldedOperands c.node-node.ensures.term are))) c.enter.ensures.term

pub returns-in-None-clause-folded : goal.returns-in-None-clause-folded
returns-in-None-clause-folded c = λ are. subst IsFolded (sym c.node-node.ensures.term) (folded_of _ c.in-None.ensures.form (subst HasFoldedOperands c.node-node.ensures.term are))

pub returns-in-Some-clause-twice : goal.returns-in-Some-clause-twice
returns-in-Some-clause-twice c =
    let old = c.args.terms.now in
    let t = form_term old c.in-Some.form in
    IfOk-weaker c.enter.result (λ (s : Ref). term_at c.enter.new.terms s.index ≡ t)
    (λ (s : Ref). (op : Op) (x : Ref) → slice_get old c.args.r.index ≡ Some (Apply op x x) → is_idle_twice op ≡ true → IsWordOr (term_at old x.index) (term_at c.enter.new.terms s.index))
    (λ s e op x is idle. subst (IsWordOr (term_at old x.index)) (sym e) (MatchOption-at_some ⊥ (λ (f : Form). IsWordOr (term_at old x.index) (form_term old f)) c.in-Some.form c.in-Some.is (c.form_of.ensures.twice op x (same_Some _ _ (sym c.node-node.ensures.is ∙ is)) idle))) c.enter.ensures.term

pub returns-in-None-clause-twice : goal.returns-in-None-clause-twice
returns-in-None-clause-twice c = λ op x is idle. absurd (MatchOption-at_none ⊥ (λ (f : Form). IsWordOr (term_at c.args.terms.now x.index) (form_term c.args.terms.now f)) c.in-None.is (c.form_of.ensures.twice op x (same_Some _ _ (sym c.node-node.ensures.is ∙ is)) idle))
