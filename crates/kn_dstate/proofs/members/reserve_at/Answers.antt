use Rattle.std.proofs.Common.{ap}
use Rattle.kn_dstate.specs.Members.{bare}
use Rattle.kn_dstate.proofs.Changing.{map-kept}
use Rattle.kn_dstate.proofs.members.reserve_at.Goals as goal

pub returns-in_err-reserve-clause-bare : goal.returns-in_err-reserve-clause-bare
returns-in_err-reserve-clause-bare c = map-kept bare c.args.states.now.slots c.args.s c.index_mut.result.now c.reserve.new.self c.index_mut.ensures.value (ap bare c.reserve.ensures.same)

pub returns-in_ok-reserve-clause-bare : goal.returns-in_ok-reserve-clause-bare
returns-in_ok-reserve-clause-bare c = map-kept bare c.args.states.now.slots c.args.s c.index_mut.result.now c.reserve.new.self c.index_mut.ensures.value (ap bare c.reserve.ensures.same)
