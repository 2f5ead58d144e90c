-- The first number, and the others.
use Rattle.std.proofs.Common.{◌≡◌, ◌∷◌, ◌++◌, [], List, ℕ, inl, refl, ap, sym, ◌∙◌}
use Rattle.kn_report.proofs.Cut.{some_is, none_is}
use Rattle.kn_report.proofs.Numbers.{column_first}
use Rattle.kn_report.proofs.line_of.column_of.Goals as goal

pub returns-in_default : goal.returns-in_default
returns-in_default c = λ i is small from.
    let u = c.until.ensures in
    let first = column_first i is c.until.result.0.now c.until.result.1.now c.args.word.now small.0 from u.whole u.without u.begins in
    none_is i (sym c.in_default.is ∙ c.usize_of.ensures i small.0 first.0)

pub returns : goal.returns
returns c = λ i is small from.
    let u = c.until.ensures in
    let first = column_first i is c.until.result.0.now c.until.result.1.now c.args.word.now small.0 from u.whole u.without u.begins in
    let same : c.in-Some.first ≡ i = some_is c.in-Some.first i (sym c.in-Some.is ∙ c.usize_of.ensures i small.0 first.0) in
    (c.in_ok-column.ensures is [] small.1 (inl refl) first.1).0 ∙ ap (λ (l : List ℕ). l ++ is) c.in_ok-start.ensures.items ∙ ap (λ (n : ℕ). n ∷ is) same
