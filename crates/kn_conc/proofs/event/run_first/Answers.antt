-- The run of the due event on a way that begins.
use Rattle.std.proofs.Common.{◌≡◌, ◌<◌, ℕ, [], length, ap, sym, subst, ◌∙◌}
use Rattle.kn_plan.specs.Nets.{links_of}
use Rattle.kn_model.specs.Terms.{words}
use Rattle.kn_model.specs.Due.{due}
use Rattle.kn_model.specs.Paths.{first_way}
use Rattle.kn_conc.specs.Ways.{way_of}
use Rattle.kn_conc.specs.declared.spot.Spot.{Spot}
use Rattle.kn_conc.specs.declared.way.Way.{Way}
use Rattle.std.proofs.lemmas.Result.{on_ok_weaker}
use Rattle.kn_model.specs.Rows.{Way as Walked}
use Rattle.kn_conc.proofs.Placing.{place_in, run_is}
use Rattle.kn_conc.proofs.event.run_first.Goals as goal

pub run_due-requires-clause-place : goal.run_due-requires-clause-place
run_due-requires-clause-place c =
    let spot : Spot = record { node = c.way-2.inside.0.0.node; tick = c.args.tick; links = c.in_ok-links.links; mail = c.in_ok-mail.mail } in
    let first : c.way.inside.0.0.node ≡ c.args.way.now.node.node = ap (λ (w : Way). w.node.node) c.way.view_is in
    let of : spot.node ≡ c.args.way.now.node.node = ap (λ (w : Way). w.node.node) c.way-2.view_is ∙ c.begin.ensures.node in
    place_in c.args.net.now spot c.bounds.ensures
    (subst (λ (n : ℕ). n < length c.args.net.now.network.nodes) (sym of) c.requires.node)
    c.in-Some.ensures.early (c.in_ok-links.ensures ∙ ap (links_of c.args.net.now.network) (first ∙ sym of))

pub returns-clause-run : goal.returns-clause-run
returns-clause-run c =
    let v = c.args.way.now.node in
    let e = c.in-Some.event in
    let spot : Spot = record { node = c.way-2.inside.0.0.node; tick = c.args.tick; links = c.in_ok-links.links; mail = c.in_ok-mail.mail } in
    let first : c.way.inside.0.0.node ≡ v.node = ap (λ (w : Way). w.node.node) c.way.view_is in
    let of : spot.node ≡ v.node = ap (λ (w : Way). w.node.node) c.way-2.view_is ∙ c.begin.ensures.node in
    on_ok_weaker c.close.result
    (λ state. run_is c.args.net.now.network c.args.inputs.now spot v e _ (way_of c.run_due.new.way) c.close.new.self.node c.close.new.self.sends.items
    (ap (λ (w : Way). due c.args.net.now.network.limits.ticks c.args.tick w.node.state) (sym c.way.view_is) ∙ (sym c.due_at.ensures.due ∙ c.in-Some.is))
    of
    (c.in_ok-links.ensures ∙ ap (links_of c.args.net.now.network) (first ∙ sym of))
    c.in_ok-mail.ensures.mail
    (ap (λ (w : Walked ℕ). record w { state = c.begin.new.node.state }) c.requires.begins ∙ ap (first_way (words [])) c.in_ok-mail.ensures.state)
    c.in_ok-run_due.ensures.way state (ap (λ ps. ps.items) c.close.ensures.sends) c.run_due.ensures.trace
    (c.close.ensures.node ∙ (c.run_due.ensures.node ∙ c.begin.ensures.node)))
    c.close.ensures.state
