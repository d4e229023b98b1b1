use Rattle.examples.proofs.by_manager.is_same.Given as goal

abbrev pub ghosts-run_by_hands : goal.ghosts-run_by_hands
ghosts-run_by_hands g a = record { name = a.blank.name; parts = a.blank.parts }
