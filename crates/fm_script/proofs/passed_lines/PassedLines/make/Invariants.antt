use Rattle.std.proofs.Common.{◌+◌, ◌-◌}
use Rattle.fm_script.proofs.passed_lines.PassedLines.make.Given as goal

abbrev pub decreases-loop-instance : goal.decreases-loop-instance
decreases-loop-instance l = l.instance.0 + 1 - l.self
