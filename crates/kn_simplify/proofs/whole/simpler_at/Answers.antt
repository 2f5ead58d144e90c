-- What stands for the node stands for the term at its place.
use Rattle.std.proofs.Common.{◌≡◌, ◌<◌, length, sym}
use Rattle.kn_term.specs.declared.node.Ref.{Ref}
use Rattle.kn_term.specs.Nodes.{term_at, term_of, terms_of}
use Rattle.kn_simplify.specs.Simpler.{StandsFor, IsSimpler, form_term}
use Rattle.kn_simplify.proofs.Simpler.{for_same, for_twice, if_both, named}
use Rattle.kn_simplify.proofs.whole.simpler_at.Goals as goal

pub returns-in-Some-clause-simpler : goal.returns-in-Some-clause-simpler
returns-in-Some-clause-simpler c =
    let old = c.args.terms.now in
    let over = c.over_simpler-over.ensures.term old c.args.place c.node-node.ensures.stands c.requires.table in
    let t = form_term old c.in-Some.form in
    let for : StandsFor t (term_at old c.args.place) = for_twice _ _ _ c.in-Some.ensures.form.term (for_twice _ _ _ over.1 (for_same _ _ (sym c.node-node.ensures.term))) in
    if_both c.enter.result (λ (r : Ref). term_at c.enter.new.terms r.index ≡ t) (λ (r : Ref). r.index < length c.enter.new.terms) (λ (r : Ref). IsSimpler c.enter.new.terms c.args.place r)
    (λ r. named old c.enter.new.terms c.args.place t r c.requires.place c.enter.ensures.grows for) c.enter.ensures.term c.enter.ensures.stands

pub returns-in-None-2-clause-simpler : goal.returns-in-None-2-clause-simpler
returns-in-None-2-clause-simpler c =
    let old = c.args.terms.now in
    let over = c.over_simpler-over.ensures.term old c.args.place c.node-node.ensures.stands c.requires.table in
    let t = term_of (terms_of old) c.over_simpler-over.result in
    let for : StandsFor t (term_at old c.args.place) = for_twice _ _ _ over.1 (for_same _ _ (sym c.node-node.ensures.term)) in
    if_both c.put.result (λ (r : Ref). term_at c.put.new.terms r.index ≡ t) (λ (r : Ref). r.index < length c.put.new.terms) (λ (r : Ref). IsSimpler c.put.new.terms c.args.place r)
    (λ r. named old c.put.new.terms c.args.place t r c.requires.place c.put.ensures.grows for) c.put.ensures.term c.put.ensures.stands

pub form_of-requires : goal.form_of-requires
form_of-requires c = (c.over_simpler-over.ensures.term c.args.terms.now c.args.place c.node-node.ensures.stands c.requires.table).0

pub put-requires : goal.put-requires
put-requires c = (c.over_simpler-over.ensures.term c.args.terms.now c.args.place c.node-node.ensures.stands c.requires.table).0
