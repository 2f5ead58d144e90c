use Rattle.std.proofs.Common.{refl}
use Rattle.netsym_explain.proofs.explain.explain.Goals as goal

pub returns-in_ok-text-in-Ok : goal.returns-in_ok-text-in-Ok
returns-in_ok-text-in-Ok c = (λ yes. (c.in-Ok.net.network, record { file = c.in-Ok.net; given = c.in-Ok.ensures; network = refl }), λ run. refl)
