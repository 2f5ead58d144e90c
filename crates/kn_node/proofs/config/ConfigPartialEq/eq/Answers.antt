-- Two node states are equal where their fields are.
use Rattle.kn_node.proofs.Equal.{by_config_eq}
use Rattle.kn_node.proofs.config.ConfigPartialEq.eq.Goals as goal

pub returns-clause-same : goal.returns-clause-same
returns-clause-same c = by_config_eq _ _ c.is_same_config.result c.is_same_config.ensures
