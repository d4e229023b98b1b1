use Rattle.bench.proofs.workers.time.Given as goal

abbrev pub ghosts-shared : goal.ghosts-shared
ghosts-shared g a = record { name = a.blank.name; parts = a.blank.parts }
