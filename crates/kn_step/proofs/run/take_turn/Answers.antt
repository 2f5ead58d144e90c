-- One instruction of a way.
use Rattle.std.proofs.Common.{ap}
use Rattle.kn_model.specs.Nodes.{is_running}
use Rattle.kn_model.specs.Nets.{code_of}
use Rattle.kn_machine.specs.Ways.{WayView, way_of}
use Rattle.kn_step.proofs.Turning.{runs_on, at_instr, step_goes, step_stops, step_decides}
use Rattle.kn_step.proofs.run.take_turn.Goals as goal

pub returns-in-Goes : goal.returns-in-Goes
returns-in-Goes g c =
    let net = c.args.net.now.network in
    let spot = c.args.spot.now in
    let v = c.args.way.now in
    let runs = runs_on c.is_running.result (is_running (way_of v).state.outcome) c.is_running.ensures c.if-not-is_running.false in
    let is = at_instr c.program_of.result.now (code_of net spot.node) c.way.inside.pc v.pc c.instr.result c.in-Some.instr c.program_of.ensures.value (ap (λ (w : WayView). w.pc) c.way.view_is) c.instr.ensures.value c.in-Some.is in
    step_goes net spot v c.execute.new.way c.in-Some.instr runs is c.requires.sound c.in_ok-execute.field-0 c.in-Goes.is c.in_ok-execute.ensures

pub returns-in-Stops : goal.returns-in-Stops
returns-in-Stops g c =
    let net = c.args.net.now.network in
    let spot = c.args.spot.now in
    let v = c.args.way.now in
    let runs = runs_on c.is_running.result (is_running (way_of v).state.outcome) c.is_running.ensures c.if-not-is_running.false in
    let is = at_instr c.program_of.result.now (code_of net spot.node) c.way.inside.pc v.pc c.instr.result c.in-Some.instr c.program_of.ensures.value (ap (λ (w : WayView). w.pc) c.way.view_is) c.instr.ensures.value c.in-Some.is in
    step_stops net spot v c.execute.new.way c.in-Some.instr runs is c.requires.sound c.in_ok-execute.field-0 c.in-Stops.is c.in_ok-execute.ensures

pub returns-in_ok-turn-in-Decides : goal.returns-in_ok-turn-in-Decides
returns-in_ok-turn-in-Decides g c =
    let net = c.args.net.now.network in
    let spot = c.args.spot.now in
    let v = c.args.way.now in
    let runs = runs_on c.is_running.result (is_running (way_of v).state.outcome) c.is_running.ensures c.if-not-is_running.false in
    let is = at_instr c.program_of.result.now (code_of net spot.node) c.way.inside.pc v.pc c.instr.result c.in-Some.instr c.program_of.ensures.value (ap (λ (w : WayView). w.pc) c.way.view_is) c.instr.ensures.value c.in-Some.is in
    let ends = c.in_ok-turn-in-Decides.ensures in
    step_decides net spot v c.execute.new.way c.in-Some.instr runs is c.requires.sound c.in_ok-execute.field-0 c.in-Decides.literal c.turn_at.new.way c.in_ok-turn-in-Decides.turn c.in-Decides.is c.in_ok-execute.ensures ends.leads ends.on ends.splits
