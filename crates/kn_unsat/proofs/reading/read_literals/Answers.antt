-- The next literal, or the word that ends them.
use Rattle.std.proofs.Common.{◌≡◌, ◌∷◌, ◌++◌, [], List, true, false, ap, sym, subst, ◌∙◌}
use Rattle.std.proofs.lemmas.Bool.Decides.{Decides-eqb}
use Rattle.std.proofs.lemmas.Slice.Eq.{slice_eq-Decides}
use Rattle.kn_cnf.specs.declared.clauses.Lit.{Lit}
use Rattle.kn_unsat.proofs.Spelled.{LeftLiterals, literals_none, literals_end, literals_next, some_is, none_is}
use Rattle.kn_unsat.proofs.reading.read_literals.Goals as goal

pub returns-then-eq : goal.returns-then-eq
returns-then-eq c = λ clause hs small is.
    let w = c.in-Some.ensures.word in
    let h : c.in-Some.word.now ≡ 104 ∷ [] = (slice_eq-Decides Decides-eqb c.in-Some.word.now (104 ∷ []) c.eq.result (rw c.as_slice.ensures at c.eq.ensures)).0 c.if-eq.true in
    literals_end clause hs c.loop-word.clause.items c.loop-word.rest.now c.in-Some.word.now c.in-Some.after.now (c.loop-word.invariant clause hs small is) w.0 w.1 w.2 h

pub returns-in_default-literal_of : goal.returns-in_default-literal_of
returns-in_default-literal_of c = λ clause hs small is.
    let w = c.in-Some.ensures.word in
    let no_h : c.in-Some.word.now ≡ 104 ∷ [] → ⊥ = λ e. let wrong : true ≡ false = sym ((slice_eq-Decides Decides-eqb c.in-Some.word.now (104 ∷ []) c.eq.result (rw c.as_slice.ensures at c.eq.ensures)).1 e) ∙ c.if-eq.false in cc in
    let next = literals_next clause hs c.loop-word.clause.items c.loop-word.rest.now c.in-Some.word.now c.in-Some.after.now (c.loop-word.invariant clause hs small is) w.0 w.1 w.2 no_h in
    none_is next.0 (c.in_default-literal_of.ensures next.0 next.1 next.2)

pub loop-word-preserved : goal.loop-word-preserved
loop-word-preserved c = λ clause hs small is.
    let w = c.in-Some.ensures.word in
    let no_h : c.in-Some.word.now ≡ 104 ∷ [] → ⊥ = λ e. let wrong : true ≡ false = sym ((slice_eq-Decides Decides-eqb c.in-Some.word.now (104 ∷ []) c.eq.result (rw c.as_slice.ensures at c.eq.ensures)).1 e) ∙ c.if-eq.false in cc in
    let next = literals_next clause hs c.loop-word.clause.items c.loop-word.rest.now c.in-Some.word.now c.in-Some.after.now (c.loop-word.invariant clause hs small is) w.0 w.1 w.2 no_h in
    let same : c.in-Some-literal_of.l ≡ next.0 = some_is c.in-Some-literal_of.l next.0 (c.in-Some-literal_of.ensures next.0 next.1 next.2) in
    subst (λ (done : List Lit). LeftLiterals clause hs done c.in-Some.after.now) (ap (λ (l : Lit). c.loop-word.clause.items ++ l ∷ []) (sym same) ∙ sym c.in_ok-push.ensures.items) next.3

pub returns : goal.returns
returns c = λ clause hs small is. absurd (literals_none clause hs c.loop-word.clause.items c.loop-word.rest.now [] [] (c.loop-word.invariant clause hs small is) c.in_default.ensures.word)
