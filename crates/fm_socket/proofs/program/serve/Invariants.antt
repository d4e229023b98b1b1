use Rattle.fm_socket.proofs.program.serve.Given as goal

abbrev pub ghosts-run_server : goal.ghosts-run_server
ghosts-run_server g a = record { name = a.blank.name; parts = a.blank.parts }
