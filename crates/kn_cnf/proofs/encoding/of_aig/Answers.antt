-- The clauses of all gates, and of the root.
use Rattle.std.proofs.Common.{◌≡◌, ◌++◌, ◌∷◌, [], ◌<◌, List, ℕ, ap, sym, subst, ◌∙◌, arith}
use Rattle.std.specs.Prelude.{map}
use Rattle.kn_cnf.specs.declared.clauses.Lit.{Lit}
use Rattle.kn_cnf.specs.Formulas.{items_of, AreBelow}
use Rattle.kn_cnf.specs.Encoding.{lit_of, IsEncoding, IsExtendable}
use Rattle.kn_cnf.proofs.Finished.{encoding, extendable, below}
use Rattle.kn_cnf.specs.Units.{IsDecided}
use Rattle.kn_aig.specs.Circuits.{inputs_of}
use Rattle.kn_cnf.proofs.Spreading.{decided}
use Rattle.kn_cnf.proofs.encoding.of_aig.Goals as goal

pub returns-clause-below : goal.returns-clause-below
returns-clause-below c =
    let e = c.in_ok-parts.ensures in
    let names = c.in_ok-parts.parts.names.items in
    let cs = map items_of c.in_ok-parts.parts.clauses.items in
    let literal : c.literal_of.result ≡ lit_of names c.args.root = c.literal_of.ensures ∙ ap (λ (l : List ℕ). lit_of l c.args.root) c.deref.ensures.value in
    let clause : c.in_ok-vec.field-0.items ≡ lit_of names c.args.root ∷ [] = c.in_ok-vec.ensures.items ∙ ap (λ (l : Lit). l ∷ []) literal in
    let clauses : cs ++ (lit_of names c.args.root ∷ []) ∷ [] ≡ map items_of c.put_clause.new.clauses.items = sym (c.in_ok-put_clause.ensures ∙ ap (λ (k : List Lit). cs ++ k ∷ []) clause) in
    let some : 0 < c.args.root.node = omega arith in
    subst (AreBelow c.in_ok-parts.parts.vars) clauses (below c.args.aig.now c.args.root e.0 names c.in_ok-parts.parts.vars cs e.1 e.2 e.3 c.requires some)

pub returns-clause-exact : goal.returns-clause-exact
returns-clause-exact c =
    let e = c.in_ok-parts.ensures in
    let names = c.in_ok-parts.parts.names.items in
    let cs = map items_of c.in_ok-parts.parts.clauses.items in
    let literal : c.literal_of.result ≡ lit_of names c.args.root = c.literal_of.ensures ∙ ap (λ (l : List ℕ). lit_of l c.args.root) c.deref.ensures.value in
    let clause : c.in_ok-vec.field-0.items ≡ lit_of names c.args.root ∷ [] = c.in_ok-vec.ensures.items ∙ ap (λ (l : Lit). l ∷ []) literal in
    let clauses : cs ++ (lit_of names c.args.root ∷ []) ∷ [] ≡ map items_of c.put_clause.new.clauses.items = sym (c.in_ok-put_clause.ensures ∙ ap (λ (k : List Lit). cs ++ k ∷ []) clause) in
    let some : 0 < c.args.root.node = omega arith in
    subst (λ (ds : List (List Lit)). IsEncoding c.args.aig.now c.args.root (record { vars = c.in_ok-parts.parts.vars; clauses = ds })) clauses (encoding c.args.aig.now c.args.root e.0 names c.in_ok-parts.parts.vars cs e.1 e.2 e.3 c.requires some)

pub returns-clause-extends : goal.returns-clause-extends
returns-clause-extends c =
    let e = c.in_ok-parts.ensures in
    let names = c.in_ok-parts.parts.names.items in
    let cs = map items_of c.in_ok-parts.parts.clauses.items in
    let literal : c.literal_of.result ≡ lit_of names c.args.root = c.literal_of.ensures ∙ ap (λ (l : List ℕ). lit_of l c.args.root) c.deref.ensures.value in
    let clause : c.in_ok-vec.field-0.items ≡ lit_of names c.args.root ∷ [] = c.in_ok-vec.ensures.items ∙ ap (λ (l : Lit). l ∷ []) literal in
    let clauses : cs ++ (lit_of names c.args.root ∷ []) ∷ [] ≡ map items_of c.put_clause.new.clauses.items = sym (c.in_ok-put_clause.ensures ∙ ap (λ (k : List Lit). cs ++ k ∷ []) clause) in
    let some : 0 < c.args.root.node = omega arith in
    subst (λ (ds : List (List Lit)). IsExtendable c.args.aig.now c.args.root (record { vars = c.in_ok-parts.parts.vars; clauses = ds })) clauses (extendable c.args.aig.now c.args.root e.0 names c.in_ok-parts.parts.vars cs e.1 e.2 e.3 c.requires some)

pub returns-clause-decided : goal.returns-clause-decided
returns-clause-decided c =
    let e = c.in_ok-parts.ensures in
    let names = c.in_ok-parts.parts.names.items in
    let cs = map items_of c.in_ok-parts.parts.clauses.items in
    let literal : c.literal_of.result ≡ lit_of names c.args.root = c.literal_of.ensures ∙ ap (λ (l : List ℕ). lit_of l c.args.root) c.deref.ensures.value in
    let clause : c.in_ok-vec.field-0.items ≡ lit_of names c.args.root ∷ [] = c.in_ok-vec.ensures.items ∙ ap (λ (l : Lit). l ∷ []) literal in
    let clauses : cs ++ (lit_of names c.args.root ∷ []) ∷ [] ≡ map items_of c.put_clause.new.clauses.items = sym (c.in_ok-put_clause.ensures ∙ ap (λ (k : List Lit). cs ++ k ∷ []) clause) in
    let some : 0 < c.args.root.node = omega arith in
    subst (λ (ds : List (List Lit)). IsDecided (inputs_of c.args.aig.now) (record { vars = c.in_ok-parts.parts.vars; clauses = ds })) clauses (decided c.args.aig.now e.0 c.args.root names c.in_ok-parts.parts.vars cs e.2 c.requires some e.4)
