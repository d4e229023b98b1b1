use Rattle.std.specs.Prelude.{◌≡◌, take}
use Rattle.fm_base.specs.Folders.{lines_of}
use Rattle.fm_host.proofs.names.lines.Given as goal

-- the lines of the names so far
abbrev pub invariant-loop-name : goal.invariant-loop-name
invariant-loop-name l = l.lines.items ≡ lines_of (take l.name-index l.names)
