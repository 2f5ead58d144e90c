use Rattle.kn_replay.proofs.Telling as over
use Rattle.kn_replay.proofs.writing.text_tells.Goals as goal

pub returns : goal.returns
returns c = over.text_tells
