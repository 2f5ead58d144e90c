-- A constant root.
use Rattle.std.proofs.Common.{◌≡◌, ◌++◌, ◌∷◌, [], List, ℕ, ap, sym, subst, ◌∙◌}
use Rattle.std.specs.Prelude.{map}
use Rattle.kn_aig.specs.Circuits.{inputs_of}
use Rattle.kn_cnf.specs.declared.clauses.Lit.{Lit}
use Rattle.kn_cnf.specs.Formulas.{items_of}
use Rattle.kn_cnf.specs.Encoding.{IsEncoding, IsExtendable}
use Rattle.kn_cnf.proofs.Finished.{constant_clauses, constant_encoding, constant_extendable, same_formula}
use Rattle.kn_cnf.specs.Units.{IsDecided}
use Rattle.kn_cnf.proofs.Spreading.{constant_decided}
use Rattle.kn_cnf.proofs.encoding.of_constant.Goals as goal

pub returns-then-root-clause-exact : goal.returns-then-root-clause-exact
returns-then-root-clause-exact c =
    let same = same_formula _ _ _ _ (sym c.inputs.ensures) (ap constant_clauses c.if-root.true ∙ sym (ap (map items_of) c.new-clauses.ensures.items)) in
    subst (IsEncoding c.args.aig.now c.args.root) same (constant_encoding c.args.aig.now c.args.root c.size.ensures.circuit c.requires)

pub returns-then-root-clause-extends : goal.returns-then-root-clause-extends
returns-then-root-clause-extends c =
    let same = same_formula _ _ _ _ (sym c.inputs.ensures) (ap constant_clauses c.if-root.true ∙ sym (ap (map items_of) c.new-clauses.ensures.items)) in
    subst (IsExtendable c.args.aig.now c.args.root) same (constant_extendable c.args.aig.now c.args.root c.size.ensures.circuit c.requires)

pub returns-clause-exact : goal.returns-clause-exact
returns-clause-exact c =
    let start : map items_of c.new-clauses.result.items ≡ [] = ap (map items_of) c.new-clauses.ensures.items in
    let clauses : ([] ∷ []) ≡ map items_of c.put_clause.new.clauses.items = sym (c.in_ok-put_clause.ensures ∙ (ap (λ (l : List (List Lit)). l ++ c.new.result.items ∷ []) start ∙ ap (λ (k : List Lit). k ∷ []) c.new.ensures.items)) in
    let same = same_formula _ _ _ _ (sym c.inputs-2.ensures) (ap constant_clauses c.if-root.false ∙ clauses) in
    subst (IsEncoding c.args.aig.now c.args.root) same (constant_encoding c.args.aig.now c.args.root c.size.ensures.circuit c.requires)

pub returns-clause-extends : goal.returns-clause-extends
returns-clause-extends c =
    let start : map items_of c.new-clauses.result.items ≡ [] = ap (map items_of) c.new-clauses.ensures.items in
    let clauses : ([] ∷ []) ≡ map items_of c.put_clause.new.clauses.items = sym (c.in_ok-put_clause.ensures ∙ (ap (λ (l : List (List Lit)). l ++ c.new.result.items ∷ []) start ∙ ap (λ (k : List Lit). k ∷ []) c.new.ensures.items)) in
    let same = same_formula _ _ _ _ (sym c.inputs-2.ensures) (ap constant_clauses c.if-root.false ∙ clauses) in
    subst (IsExtendable c.args.aig.now c.args.root) same (constant_extendable c.args.aig.now c.args.root c.size.ensures.circuit c.requires)

pub returns-then-root-clause-decided : goal.returns-then-root-clause-decided
returns-then-root-clause-decided c = subst (λ (n : ℕ). IsDecided (inputs_of c.args.aig.now) (record { vars = n; clauses = map items_of c.new-clauses.result.items })) (sym c.inputs.ensures) (constant_decided (inputs_of c.args.aig.now) _)

pub returns-clause-decided : goal.returns-clause-decided
returns-clause-decided c = subst (λ (n : ℕ). IsDecided (inputs_of c.args.aig.now) (record { vars = n; clauses = map items_of c.put_clause.new.clauses.items })) (sym c.inputs-2.ensures) (constant_decided (inputs_of c.args.aig.now) _)
