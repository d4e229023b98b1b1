use Rattle.test_lock.proofs.tests.never_waits_in_vain.Given as goal

abbrev pub ghosts-waits : goal.ghosts-waits
ghosts-waits g a = record { name = a.blank.name; parts = a.blank.parts }
