use Rattle.test_lock.proofs.tests.two_threads.Given as goal

abbrev pub ghosts-two_lives : goal.ghosts-two_lives
ghosts-two_lives g a = record { name = a.blank.name; parts = a.blank.parts }
