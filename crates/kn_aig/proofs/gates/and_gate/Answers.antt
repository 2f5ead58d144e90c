-- The gate of two edges, in each of the three ways.
use Rattle.std.proofs.Common.{◌≡◌, ◌∷◌, ◌++◌, [], ap, sym, subst, ◌∙◌, List, ℕ, ◌+◌, false, length, arith}
use Rattle.std.specs.Prelude.{Some, None}
use Rattle.std.specs.HashMap.{get}
use Rattle.kn_aig.specs.declared.gates.Pair.{Pair}
use Rattle.kn_aig.specs.declared.gates.AigNode.{AigNode}
use Rattle.kn_aig.specs.declared.gates.AigNode.TheVariants as nodes
use Rattle.kn_aig.specs.Circuits.{pair_of, same_pair, AllFit, IsAnd}
use Rattle.kn_aig.proofs.Longer.{AllFit-push}
use Rattle.kn_aig.proofs.Ands.{and_simple, and_found, and_new, fits_pair}
use Rattle.kn_aig.proofs.gates.and_gate.Goals as goal

pub returns-in-Some-clause-gate : goal.returns-in-Some-clause-gate
returns-in-Some-clause-gate c =
    and_simple c.args.nodes.now.items c.args.x c.args.y c.in-Some.edge c.requires.x c.requires.y c.in-Some.ensures.value c.in-Some.ensures.stands

pub returns-in-Some-place_of-clause-gate : goal.returns-in-Some-place_of-clause-gate
returns-in-Some-place_of-clause-gate c =
    let named : get same_pair c.args.gates.now (pair_of c.args.x c.args.y) ≡ Some c.in-Some-place_of.node = ap (get same_pair c.args.gates.now) (sym c.of-pair.ensures) ∙ sym c.in-Some-place_of.ensures in
    and_found (nodes.Constant ∷ c.args.nodes.now.items) c.args.x c.args.y c.in-Some-place_of.node c.requires.fits (c.requires.index.named _ _ named)

pub returns-clause-gate : goal.returns-clause-gate
returns-clause-gate c =
    let old = nodes.Constant ∷ c.args.nodes.now.items in
    let absent : get same_pair c.args.gates.now (pair_of c.args.x c.args.y) ≡ None = ap (get same_pair c.args.gates.now) (sym c.of-pair.ensures) ∙ sym c.in_default-place_of.ensures in
    let grown : (nodes.Constant ∷ c.new_gate.new.nodes.items) ≡ old ++ nodes.And (pair_of c.args.x c.args.y).first (pair_of c.args.x c.args.y).second ∷ [] =
    ap (λ (ns : List AigNode). nodes.Constant ∷ ns) c.new_gate.ensures.nodes ∙ ap (λ (p : Pair). old ++ nodes.And p.first p.second ∷ []) c.of-pair.ensures in
    let none = c.in_default.ensures.none in
    let gate = and_new old (nodes.Constant ∷ c.new_gate.new.nodes.items) c.args.x c.args.y (get same_pair c.args.gates.now) c.requires.fits c.requires.index absent none.0 none.1 none.2 grown in
    let number : length old ≡ 1 + length c.args.nodes.now.items = omega arith in
    subst (IsAnd old (nodes.Constant ∷ c.new_gate.new.nodes.items) c.args.x c.args.y) (ap (λ (n : ℕ). record { node = n; inverted = false }) number ∙ sym c.new_gate.ensures.edge) gate

pub returns-clause-fits : goal.returns-clause-fits
returns-clause-fits c =
    let old = nodes.Constant ∷ c.args.nodes.now.items in
    let none = c.in_default.ensures.none in
    let more = AllFit-push old (nodes.And (pair_of c.args.x c.args.y).first (pair_of c.args.x c.args.y).second) c.requires.fits (fits_pair old c.args.x c.args.y c.requires.x c.requires.y none.0 none.1 none.2) in
    let grown : old ++ nodes.And (pair_of c.args.x c.args.y).first (pair_of c.args.x c.args.y).second ∷ [] ≡ nodes.Constant ∷ c.new_gate.new.nodes.items =
    sym (ap (λ (ns : List AigNode). nodes.Constant ∷ ns) c.new_gate.ensures.nodes ∙ ap (λ (p : Pair). old ++ nodes.And p.first p.second ∷ []) c.of-pair.ensures) in
    subst AllFit grown more
