use Rattle.std.proofs.Common.{ap, ◌∙◌, Result, Ok, Err, OnErr}
use Rattle.slab.specs.Slab.{Slab}
use Rattle.kn_dstate.specs.Places.{PlaceView}
use Rattle.kn_dstate.proofs.Exchanging.{seen-bare}
use Rattle.kn_dstate.proofs.Replacing.{replaced, fits_on, ready_graph, weight_on, kept_on, seen_on}
use Rattle.kn_dstate.proofs.graph.Graph.replace.Goals as goal

on_err : {A E P : Type 0} (r : Result A E) → P → OnErr r P
on_err (Ok x) p = tt
on_err (Err e) p = p

pub invariant_of-self-in_err-reserve_all : goal.invariant_of-self-in_err-reserve_all
invariant_of-self-in_err-reserve_all c =
    let inside = c.self.inside in
    ready_graph inside.nodes inside.dstates.slots c.reserve.new.self.slots inside.states.slots c.reserve_all.new.states.slots inside.rows.items inside.packets.items (ap (λ (t : Slab PlaceView). t.slots) c.reserve.ensures.rest_kept) c.reserve_all.ensures.bare c.self.invariant

pub returns-in_err-reserve_all-clause-err : goal.returns-in_err-reserve_all-clause-err
returns-in_err-reserve_all-clause-err c =
    let inside = c.self.inside in
    on_err c.from_residual-in_err-reserve_all.result (seen_on inside.nodes inside.dstates.slots c.reserve.new.self.slots inside.states.slots c.reserve_all.new.states.slots inside.rows.items inside.packets.items c.args.self.now (ap (λ (t : Slab PlaceView). t.slots) c.reserve.ensures.rest_kept) c.reserve_all.ensures.bare c.self.view_is)

pub invariant_of-self-2 : goal.invariant_of-self-2
invariant_of-self-2 c =
    let inside = c.self.inside in
    let same = ap (λ (t : Slab PlaceView). t.slots) c.reserve.ensures.rest_kept in
    let g1 = ready_graph inside.nodes inside.dstates.slots c.reserve.new.self.slots inside.states.slots c.reserve_all.new.states.slots inside.rows.items inside.packets.items same c.reserve_all.ensures.bare c.self.invariant in
    let fits = fits_on inside.nodes inside.dstates.slots inside.states.slots c.reserve_all.new.states.slots inside.rows.items inside.packets.items c.args.self.now c.args.new.items c.reserve_all.ensures.bare c.self.view_is c.requires.fits in
    c.take_all.ensures.graph inside.nodes inside.rows.items inside.packets.items (c.put_all.ensures.graph inside.nodes inside.rows.items inside.packets.items fits g1)

pub returns-clause-ok : goal.returns-clause-ok
returns-clause-ok c =
    let inside = c.self.inside in
    let same = ap (λ (t : Slab PlaceView). t.slots) c.reserve.ensures.rest_kept in
    let g1 = ready_graph inside.nodes inside.dstates.slots c.reserve.new.self.slots inside.states.slots c.reserve_all.new.states.slots inside.rows.items inside.packets.items same c.reserve_all.ensures.bare c.self.invariant in
    let fits = fits_on inside.nodes inside.dstates.slots inside.states.slots c.reserve_all.new.states.slots inside.rows.items inside.packets.items c.args.self.now c.args.new.items c.reserve_all.ensures.bare c.self.view_is c.requires.fits in
    let g2 = c.put_all.ensures.graph inside.nodes inside.rows.items inside.packets.items fits g1 in
    replaced inside.nodes inside.dstates.slots c.put_all.new.dstates.slots c.take_all.new.dstates.slots inside.states.slots c.put_all.new.states.slots c.take_all.new.states.slots inside.rows.items inside.packets.items c.args.self.now _ c.args.new.items c.self.view_is
    g2 (c.take_all.ensures.graph inside.nodes inside.rows.items inside.packets.items g2) c.requires.there c.requires.once
    (kept_on inside.dstates.slots c.reserve.new.self.slots c.put_all.new.dstates.slots same c.put_all.ensures.kept) (weight_on inside.dstates.slots c.reserve.new.self.slots c.put_all.new.dstates.slots c.args.new.items same c.put_all.ensures.weight)
    c.take_all.ensures.dstates c.take_all.ensures.states (c.put_all.ensures.seen ∙ seen-bare inside.states.slots c.reserve_all.new.states.slots c.reserve_all.ensures.bare)
