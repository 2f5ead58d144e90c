-- The ledger on which the events are counted.
use Rattle.kn_cob.proofs.tests.reported.Given as goal

abbrev pub ghosts-explored : goal.ghosts-explored
ghosts-explored a = record { name = a.blank.name; parts = a.blank.parts }
