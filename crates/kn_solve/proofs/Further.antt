-- What is known of a condition with further literals.
use Rattle.std.proofs.Common.{◌≡◌, Bool, true, [], ◌++◌, refl, sym, ap, subst, ◌∙◌}
use Rattle.std.specs.Prelude.{◌&&◌}
use Rattle.kn_term.specs.Terms.{Valuation}
use Rattle.kn_cond.specs.Conditions.{Condition, Query, IsLeast, holds, that}
use Rattle.kn_cond.proofs.Kept.{holds-append}
use Rattle.kn_solve.specs.Formulas.{Asked, query_of}
use Rattle.kn_solve.specs.Laws.{WithoutColumns, LeastStays}

-- what is asked without columns
abbrev plain : Condition → Asked
plain c = record { condition = c; columns = [] }

both_hold : (x y : Bool) → x ≡ true → y ≡ true → ((x && y) && true) ≡ true
both_hold x y e s = rw (e, s) refl

-- the least inputs of a condition are the least with further literals, where they meet these
pub least_with_more : WithoutColumns → LeastStays → (c d : Condition) (a : Valuation) → IsLeast (that c) a → holds a d ≡ true → IsLeast (that (c ++ d)) a
least_with_more alone stays c d a least meets =
    let all : holds a c ≡ true = ap (that c).meets least.is ∙ least.meet.1 in
    subst (λ (q : Query). IsLeast q a) (alone (c ++ d))
    (stays (plain c) d [] a (subst (λ (q : Query). IsLeast q a) (sym (alone c)) least) (ap (λ (b : Bool). b && true) (holds-append a c d) ∙ both_hold (holds a c) (holds a d) all meets))

-- a formula of two conditions asks what both ask
pub asked_of_both : WithoutColumns → (c d : Condition) (empty first both : Asked) → empty ≡ plain [] → first ≡ record empty { condition = empty.condition ++ c } → both ≡ record first { condition = first.condition ++ d } → query_of both ≡ that (c ++ d)
asked_of_both alone c d empty first both none one two =
    ap query_of (two ∙ ap (λ (f : Asked). record f { condition = f.condition ++ d }) (one ∙ ap (λ (f : Asked). record f { condition = f.condition ++ c }) none)) ∙ alone (c ++ d)

-- a formula of one condition asks what the condition asks
pub asked_of_one : WithoutColumns → (c : Condition) (empty one : Asked) → empty ≡ plain [] → one ≡ record empty { condition = empty.condition ++ c } → query_of one ≡ that c
asked_of_one alone c empty one none is = ap query_of (is ∙ ap (λ (f : Asked). record f { condition = f.condition ++ c }) none) ∙ alone c
