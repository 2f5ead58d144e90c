-- The ledger on which the events are counted.
use Rattle.netsym.proofs.answer.report_of_net.Given as goal

abbrev pub ghosts-explored : goal.ghosts-explored
ghosts-explored a = record { name = a.blank.name; parts = a.blank.parts }
