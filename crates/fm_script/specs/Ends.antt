-- What the end of a script is to who ran the program.
use Rattle.std.specs.Prelude.{ℕ}
use Rattle.fm_script.specs.declared.script_end.ScriptEnd.{ScriptEnd}
use Rattle.fm_script.specs.declared.script_end.ScriptEnd.TheVariants.{Ended, ReadFault, WriteFault, NoMemory}

-- the program's exit status
abbrev pub exit_status : ScriptEnd → ℕ
exit_status Ended = 0
exit_status NoMemory = 1
exit_status ReadFault = 3
exit_status WriteFault = 3
