use Rattle.std.specs.Prelude.{◌≡◌, ◌+◌}
use Rattle.std.specs.List.{sum_by}
use Rattle.fm_host.specs.Names.{line_length}
use Rattle.fm_host.proofs.names.names_in.Given as goal

-- the room that is left and the lines so far are all the room
abbrev pub invariant-loop-entry : goal.invariant-loop-entry
invariant-loop-entry g l = l.room + sum_by line_length l.names.items ≡ 32768
