use denote.Shadow.{shadow}
use denote.Text.{Utf8}
use Rattle.std.proofs.Common.{◌≡◌, ◌++◌, length, map}
use Rattle.fm_trial.specs.Lines.{text_lines}
use Rattle.fm_trial.proofs.text.lines_of.Given as goal

-- what is left has the lines that aren't there yet
abbrev pub invariant-loop-line : goal.invariant-loop-line
invariant-loop-line l = (map (λ line. line.now) l.lines.items ++ text_lines l.left ≡ text_lines l.text) × shadow (Utf8 l.left)

abbrev pub decreases-loop-line : goal.decreases-loop-line
decreases-loop-line l = length l.left
