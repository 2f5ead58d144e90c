use Rattle.kn_words.proofs.Lawful as lawful
use Rattle.kn_words.proofs.laws.made_in_range.Goals as goal

pub returns : goal.returns
returns c = lawful.made_in_range
