-- From a pick to the node that one of its states stands for.
use Rattle.std.proofs.Common.{◌≡◌, ℕ, zero, suc, List, [], ◌∷◌, Some, sym, ap, subst, ◌∙◌}
use Rattle.std.specs.Prelude.{slice_get}
use Rattle.kn_model.specs.Terms.{Term}
use Rattle.kn_model.specs.Nodes.{Node}
use Rattle.kn_model.specs.Nets.{Network}
use Rattle.kn_model.specs.Reports.{Report, StateLine, IsLine, Shows, NodeIn}

pub some_is : {A : Type 0} (x y : A) → Some x ≡ Some y → x ≡ y
some_is x y e = cc

-- one line has one number
pub one_line : (r : Report) (i : ℕ) (x y : StateLine) → IsLine r i x → IsLine r i y → x ≡ y
one_line r i x y e f = some_is x y (sym e ∙ f)

-- where a pick shows nodes, the state at a node's place has its trace
pub shows_at : (r : Report) (p : List ℕ) (ys : List (Node Term)) (n i : ℕ) (y : Node Term) → Shows r p ys → slice_get p n ≡ Some i → slice_get ys n ≡ Some y → (line : StateLine) × IsLine r i line × (line.trace ≡ y.state.trace)
shows_at r [] ys n i y s e f = absurd cc
shows_at r (j ∷ p) [] n i y s e f = absurd s
shows_at r (j ∷ p) (z ∷ ys) zero i y s e f =
    let g : j ≡ i = cc in
    let h : z ≡ y = cc in
    (s.0.0, subst (λ (k : ℕ). IsLine r k s.0.0) g s.0.1, s.0.2 ∙ ap (λ (x : Node Term). x.state.trace) h)
shows_at r (j ∷ p) (z ∷ ys) (suc n) i y s e f = shows_at r p ys n i y s.1 e f

-- so a state's line has the trace of the node
pub trace_is : (net : Network) (r : Report) (i : ℕ) (y : Node Term) (n : NodeIn net r i y) → n.line.trace ≡ y.state.trace
trace_is net r i y n =
    let x = shows_at r n.pick n.scenario.nodes n.line.node i y n.named.shows n.with n.there in
    ap (λ (l : StateLine). l.trace) (one_line r i n.line x.0 n.is x.1) ∙ x.2
