-- The exit statuses of the server's programs.
use Rattle.std.specs.Prelude.{ℕ}
use Rattle.fm_cli.specs.declared.fault.Fault.{Fault}
use Rattle.fm_cli.specs.declared.fault.Fault.TheVariants.{Memory, Words, Outside}

-- 1 for want of memory, 2 for words that were refused, 3 for a file, a read, a write or a socket that failed
abbrev pub exit_status : Fault → ℕ
exit_status (Memory error) = 1
exit_status Words = 2
exit_status (Outside error) = 3
