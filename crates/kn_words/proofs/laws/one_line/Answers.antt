use Rattle.kn_words.proofs.Lawful as lawful
use Rattle.kn_words.proofs.laws.one_line.Goals as goal

pub returns : goal.returns
returns c = lawful.one_line
