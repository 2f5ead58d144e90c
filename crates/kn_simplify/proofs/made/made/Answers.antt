-- The form stands for the node's term.
use Rattle.std.proofs.Common.{◌≡◌, ℕ, true, sym, ap, subst}
use Rattle.std.proofs.lemmas.Option.{MatchOption-at_some, MatchOption-at_none}
use Rattle.std.proofs.lemmas.Result.{IfOk-weaker}
use Rattle.kn_term.specs.declared.node.Ref.{Ref}
use Rattle.kn_word.specs.declared.Op.{Op}
use Rattle.kn_term.specs.declared.node.Node.TheVariants.{Apply}
use Rattle.kn_term.specs.Terms.{Valuation, ev, Reads}
use Rattle.kn_term.specs.Nodes.{term_at, term_of, terms_of}
use Rattle.kn_simplify.specs.Folded.{IsFolded, HasFoldedOperands, IsWordOr, is_idle_twice}
use Rattle.kn_simplify.specs.declared.form.Form.{Form}
use Rattle.kn_simplify.specs.Simpler.{form_term}
use Rattle.kn_simplify.proofs.Folding.{folded_of}
use Rattle.kn_simplify.proofs.made.made.Goals as goal

pub returns-in-Some-clause-value : goal.returns-in-Some-clause-value
returns-in-Some-clause-value c =
    let new = c.enter.new.terms in
    let t = form_term c.args.terms.now c.in-Some.form in
    IfOk-weaker c.enter.result (λ (s : Ref). term_at new s.index ≡ t)
    (λ (s : Ref). (a : Valuation) → ev a (term_at new s.index) ≡ ev a (term_of (terms_of c.args.terms.now) c.args.node))
    (λ s e a. subst (λ u. ev a u ≡ ev a (term_of (terms_of c.args.terms.now) c.args.node)) (sym e) (c.in-Some.ensures.form.term.value a)) c.enter.ensures.term

pub returns-in-Some-clause-inputs : goal.returns-in-Some-clause-inputs
returns-in-Some-clause-inputs c =
    let new = c.enter.new.terms in
    let t = form_term c.args.terms.now c.in-Some.form in
    IfOk-weaker c.enter.result (λ (s : Ref). term_at new s.index ≡ t)
    (λ (s : Ref). (n k width : ℕ) → Reads n k width (term_at new s.index) → Reads n k width (term_of (terms_of c.args.terms.now) c.args.node))
    (λ s e n k width r. c.in-Some.ensures.form.term.inputs n k width (subst (Reads n k width) e r)) c.enter.ensures.term

pub returns-in-Some-clause-folded : goal.returns-in-Some-clause-folded
returns-in-Some-clause-folded c =
    let new = c.enter.new.terms in
    let t = form_term c.args.terms.now c.in-Some.form in
    IfOk-weaker c.enter.result (λ (s : Ref). term_at new s.index ≡ t)
    (λ (s : Ref). HasFoldedOperands (term_of (terms_of c.args.terms.now) c.args.node) → IsFolded (term_at new s.index))
    (λ s e are. subst IsFolded (sym e) (c.in-Some.ensures.form.folded are)) c.enter.ensures.term

pub returns-in-Some-clause-twice : goal.returns-in-Some-clause-twice
returns-in-Some-clause-twice c =
    let old = c.args.terms.now in
    let new = c.enter.new.terms in
    let t = form_term old c.in-Some.form in
    IfOk-weaker c.enter.result (λ (s : Ref). term_at new s.index ≡ t)
    (λ (s : Ref). (op : Op) (x : Ref) → c.args.node ≡ Apply op x x → is_idle_twice op ≡ true → IsWordOr (term_at old x.index) (term_at new s.index))
    (λ s e op x is idle. subst (IsWordOr (term_at old x.index)) (sym e) (MatchOption-at_some ⊥ (λ (f : Form). IsWordOr (term_at old x.index) (form_term old f)) c.in-Some.form c.in-Some.is (c.form_of.ensures.twice op x is idle))) c.enter.ensures.term

pub returns-in-None-clause-value : goal.returns-in-None-clause-value
returns-in-None-clause-value c =
    let new = c.put.new.terms in
    let t = term_of (terms_of c.args.terms.now) c.args.node in
    IfOk-weaker c.put.result (λ (s : Ref). term_at new s.index ≡ t)
    (λ (s : Ref). (a : Valuation) → ev a (term_at new s.index) ≡ ev a t)
    (λ s e a. ap (ev a) e) c.put.ensures.term

pub returns-in-None-clause-inputs : goal.returns-in-None-clause-inputs
returns-in-None-clause-inputs c =
    let new = c.put.new.terms in
    let t = term_of (terms_of c.args.terms.now) c.args.node in
    IfOk-weaker c.put.result (λ (s : Ref). term_at new s.index ≡ t)
    (λ (s : Ref). (n k width : ℕ) → Reads n k width (term_at new s.index) → Reads n k width t)
    (λ s e n k width r. subst (Reads n k width) e r) c.put.ensures.term

pub returns-in-None-clause-folded : goal.returns-in-None-clause-folded
returns-in-None-clause-folded c =
    let new = c.put.new.terms in
    let t = term_of (terms_of c.args.terms.now) c.args.node in
    IfOk-weaker c.put.result (λ (s : Ref). term_at new s.index ≡ t)
    (λ (s : Ref). HasFoldedOperands t → IsFolded (term_at new s.index))
    (λ s e are. subst IsFolded (sym e) (folded_of t c.in-None.ensures.form are)) c.put.ensures.term

pub returns-in-None-clause-twice : goal.returns-in-None-clause-twice
returns-in-None-clause-twice c =
    let old = c.args.terms.now in
    let new = c.put.new.terms in
    IfOk-weaker c.put.result (λ (s : Ref). term_at new s.index ≡ term_of (terms_of old) c.args.node)
    (λ (s : Ref). (op : Op) (x : Ref) → c.args.node ≡ Apply op x x → is_idle_twice op ≡ true → IsWordOr (term_at old x.index) (term_at new s.index))
    (λ s e op x is idle. absurd (MatchOption-at_none ⊥ (λ (f : Form). IsWordOr (term_at old x.index) (form_term old f)) c.in-None.is (c.form_of.ensures.twice op x is idle))) c.put.ensures.term
