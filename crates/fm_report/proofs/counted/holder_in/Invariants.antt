use Rattle.std.proofs.Common.{◌≡◌, drop}
use Rattle.fm_report.specs.Counted.{first_in, holder}
use Rattle.fm_report.proofs.counted.holder_in.Given as goal

abbrev pub invariant-loop-entry : goal.invariant-loop-entry
invariant-loop-entry l = first_in holder (drop l.entry-index l.entries) ≡ first_in holder l.entries
