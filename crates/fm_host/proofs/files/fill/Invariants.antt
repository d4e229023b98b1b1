use Rattle.std.proofs.Common.{◌≤◌, length}
use Rattle.fm_host.proofs.files.fill.Given as goal

-- no more bytes than the buffer has room for
abbrev pub invariant-reads : goal.invariant-reads
invariant-reads g l = l.count ≤ length l.buffer
