use Rattle.kn_worked.proofs.SentCore as sent
use Rattle.kn_worked.proofs.cores.sent_stands.Goals as goal

pub returns-clause-stands : goal.returns-clause-stands
returns-clause-stands c = sent.sent_stands

pub returns-clause-one_for_both : goal.returns-clause-one_for_both
returns-clause-one_for_both c = sent.one_for_both

pub returns-clause-not_in_inbox : goal.returns-clause-not_in_inbox
returns-clause-not_in_inbox c = sent.not_in_inbox

pub returns-clause-other_event : goal.returns-clause-other_event
returns-clause-other_event c = sent.other_event
