use Rattle.test_lock.proofs.tests.empty_shutdown.Given as goal

abbrev pub ghosts-hands_of : goal.ghosts-hands_of
ghosts-hands_of g a = record { name = a.blank.name; parts = a.blank.parts }
