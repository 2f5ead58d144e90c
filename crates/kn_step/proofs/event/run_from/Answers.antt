-- The paths of an event are those of its ways.
use Rattle.std.proofs.Common.{◌≡◌, length, refl, sym, ap, subst, ◌∙◌}
use Rattle.kn_term.specs.Reached.{RootsStand}
use Rattle.kn_node.specs.Views.{ConfigView}
use Rattle.kn_model.specs.Terms.{terms}
use Rattle.kn_model.specs.Paths.{first_way, begun, event_ways}
use Rattle.kn_machine.specs.Views.{state_of}
use Rattle.kn_machine.specs.Ways.{way_of}
use Rattle.kn_machine.specs.Effects.{here_of}
use Rattle.kn_step.specs.Choices.{paths_by}
use Rattle.kn_machine.specs.declared.spot.Spot.{Spot}
use Rattle.kn_step.proofs.EventRuns.{small_at, place_in, first_stamped, first_begun, mail_of_equal, event_from, run_from_none, many_from_none}
use Rattle.kn_step.proofs.event.run_from.Goals as goal

pub invariant_of-config : goal.invariant_of-config
invariant_of-config g c =
    let j = c.config.inside in
    record {
      registers = subst (RootsStand (length j.terms)) (sym c.begin.ensures.registers) c.config.invariant.registers;
      memory = subst (RootsStand (length j.terms)) (sym c.begin.ensures.memory) c.config.invariant.memory;
      literals = c.config.invariant.literals;
    }

pub run_due-requires-clause-place : goal.run_due-requires-clause-place
run_due-requires-clause-place g c =
    let net = c.args.net.now.network in
    let e = c.args.event in
    let tick = c.args.tick in
    let now = c.args.c.now in
    let i = c.c.inside in
    let v : ConfigView = record { node = i.node; machine = i.machine; terms = i.terms; cond = i.cond; trace = i.trace; history = i.history; standing = i.standing } in
    let j = c.config.inside in
    let k : ConfigView = record { node = j.node; machine = j.machine; terms = j.terms; cond = j.cond; trace = j.trace; history = j.history; standing = j.standing } in
    let copied : k ≡ now = c.config.view_is ∙ c.in_ok-config.ensures in
    let spot : Spot = record { node = i.node; history = i.history; tick = tick; links = c.in_ok-links.links; mail = c.in_ok-mail.mail } in
    place_in c.args.net.now spot tick now v k e c.bounds.ensures c.comes_later.ensures c.c.view_is copied c.requires.ready refl refl c.in_ok-links.ensures c.in_ok-mail.ensures.mail

pub run_due-requires-clause-stamps : goal.run_due-requires-clause-stamps
run_due-requires-clause-stamps g c = first_stamped c.c.inside.node c.c.inside.history c.new-way.result _ c.new-way.ensures.way

pub run_due-requires-clause-small : goal.run_due-requires-clause-small
run_due-requires-clause-small g c =
    let i = c.c.inside in
    let v : ConfigView = record { node = i.node; machine = i.machine; terms = i.terms; cond = i.cond; trace = i.trace; history = i.history; standing = i.standing } in
    small_at c.args.net.now.network c.args.tick c.args.c.now v c.args.event c.c.view_is c.requires.due c.sizes.ensures.all_timers

pub returns-clause-run : goal.returns-clause-run
returns-clause-run g c =
    let net = c.args.net.now.network in
    let e = c.args.event in
    let tick = c.args.tick in
    let now = c.args.c.now in
    let i = c.c.inside in
    let v : ConfigView = record { node = i.node; machine = i.machine; terms = i.terms; cond = i.cond; trace = i.trace; history = i.history; standing = i.standing } in
    let j = c.config.inside in
    let k : ConfigView = record { node = j.node; machine = j.machine; terms = j.terms; cond = j.cond; trace = j.trace; history = j.history; standing = j.standing } in
    let copied : k ≡ now = c.config.view_is ∙ c.in_ok-config.ensures in
    let spot : Spot = record { node = i.node; history = i.history; tick = tick; links = c.in_ok-links.links; mail = c.in_ok-mail.mail } in
    let same : k ≡ v = copied ∙ sym c.c.view_is in
    let begun_in = c.in_ok-mail.ensures in
    let mail = mail_of_equal tick e v k c.in_ok-mail.mail same begun_in.mail in
    let w = way_of c.new-way.result in
    let first : w ≡ first_way terms (begun terms tick e (state_of v)) = first_begun tick e v k c.begin.new.machine w same begun_in.state c.new-way.ensures.way in
    let paths = event_from net spot tick now v e w c.c.view_is refl refl c.in_ok-links.ensures mail first in
    let node : i.node ≡ now.node = ap (λ (u : ConfigView). u.node) c.c.view_is in
    let history : i.history ≡ now.history = ap (λ (u : ConfigView). u.history) c.c.view_is in
    run_from_none net spot tick now e c.args.out.now.items c.run_due.new.out.items (paths_by (event_ways terms (here_of net spot) e) w) node history c.requires.none c.requires.due paths c.run_due.result c.run_due.ensures

pub returns-clause-many : goal.returns-clause-many
returns-clause-many g c =
    let net = c.args.net.now.network in
    let e = c.args.event in
    let tick = c.args.tick in
    let now = c.args.c.now in
    let i = c.c.inside in
    let v : ConfigView = record { node = i.node; machine = i.machine; terms = i.terms; cond = i.cond; trace = i.trace; history = i.history; standing = i.standing } in
    let j = c.config.inside in
    let k : ConfigView = record { node = j.node; machine = j.machine; terms = j.terms; cond = j.cond; trace = j.trace; history = j.history; standing = j.standing } in
    let copied : k ≡ now = c.config.view_is ∙ c.in_ok-config.ensures in
    let spot : Spot = record { node = i.node; history = i.history; tick = tick; links = c.in_ok-links.links; mail = c.in_ok-mail.mail } in
    let same : k ≡ v = copied ∙ sym c.c.view_is in
    let begun_in = c.in_ok-mail.ensures in
    let mail = mail_of_equal tick e v k c.in_ok-mail.mail same begun_in.mail in
    let w = way_of c.new-way.result in
    let first : w ≡ first_way terms (begun terms tick e (state_of v)) = first_begun tick e v k c.begin.new.machine w same begun_in.state c.new-way.ensures.way in
    let paths = event_from net spot tick now v e w c.c.view_is refl refl c.in_ok-links.ensures mail first in
    let node : i.node ≡ now.node = ap (λ (u : ConfigView). u.node) c.c.view_is in
    let history : i.history ≡ now.history = ap (λ (u : ConfigView). u.history) c.c.view_is in
    many_from_none net spot tick now e c.args.out.now.items c.run_due.new.out.items (paths_by (event_ways terms (here_of net spot) e) w) node history c.requires.none c.requires.due paths c.run_due.result c.run_due.ensures

pub begin-requires : goal.begin-requires
begin-requires g c =
    let i = c.c.inside in
    let v : ConfigView = record { node = i.node; machine = i.machine; terms = i.terms; cond = i.cond; trace = i.trace; history = i.history; standing = i.standing } in
    small_at c.args.net.now.network c.args.tick c.args.c.now v c.args.event c.c.view_is c.requires.due c.sizes.ensures.all_timers
