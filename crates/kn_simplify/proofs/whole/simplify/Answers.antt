-- What the table has for the place.
use Rattle.std.proofs.Common.{◌<◌, List, ℕ, length, refl, sym, subst}
use Rattle.kn_built.specs.Built.{Extends}
use Rattle.kn_term.specs.declared.node.Node.{Node}
use Rattle.kn_term.specs.declared.node.Ref.{Ref}
use Rattle.kn_term.specs.Nodes.{term_at}
use Rattle.kn_term.specs.Reached.{Root, IsAmong, AreInOrder}
use Rattle.kn_simplify.specs.Folded.{IsFolded}
use Rattle.kn_simplify.specs.Simpler.{StandsFor, AreSimpler, simpler_in}
use Rattle.kn_simplify.proofs.Simpler.{settled}
use Rattle.kn_simplify.proofs.whole.simplify.Goals as goal

pub simpler_terms-requires : goal.simpler_terms-requires
simpler_terms-requires c =
    subst (AreInOrder c.in_ok-grown.grown) (sym c.deref.ensures.value) (subst (λ (ns : List Node). AreInOrder ns c.in_ok-needed.needed.items) (sym c.in_ok-grown.ensures) c.in_ok-needed.ensures.order)

answer : (c : goal.After-drop-needed-2) → (c.simpler.result.index < length c.simpler_terms.new.terms) × StandsFor (term_at c.simpler_terms.new.terms c.simpler.result.index) (term_at c.args.terms.now c.args.r.index)
answer c =
    let now = c.simpler_terms.new.terms in
    let e : Extends c.args.terms.now now = subst (λ (ns : List Node). Extends ns now) c.in_ok-grown.ensures c.in_ok-table.ensures.grows in
    let are : AreSimpler now (length c.args.terms.now) (simpler_in c.in_ok-table.table) = subst (λ (ns : List Node). AreSimpler now (length ns) (simpler_in c.in_ok-table.table)) c.in_ok-grown.ensures c.in_ok-table.ensures.table in
    settled c.args.terms.now now (simpler_in c.in_ok-table.table) c.args.r.index c.simpler.result are e c.requires c.simpler.ensures

pub returns-clause-value : goal.returns-clause-value
returns-clause-value c = (answer c).1.value

pub returns-clause-inputs : goal.returns-clause-inputs
returns-clause-inputs c = (answer c).1.inputs

pub returns-clause-folded : goal.returns-clause-folded
returns-clause-folded c =
    let r = c.args.r.index in
    let among : IsAmong c.deref.result.now r = subst (λ (l : List ℕ). IsAmong l r) (sym c.deref.ensures.value) ((c.in_ok-needed.ensures.exact r).1 (Root r (0, refl))) in
    subst (λ (s : Ref). IsFolded (term_at c.simpler_terms.new.terms s.index)) (sym c.simpler.ensures) (c.in_ok-table.ensures.folded r among)

pub returns-clause-stands : goal.returns-clause-stands
returns-clause-stands c = (answer c).0
