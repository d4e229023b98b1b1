use Rattle.std.proofs.Common.{◌≡◌, drop}
use Rattle.fm_report.specs.Counted.{first_in, stand}
use Rattle.fm_report.proofs.counted.stand_in.Given as goal

abbrev pub invariant-loop-entry : goal.invariant-loop-entry
invariant-loop-entry l = first_in (stand l.instance) (drop l.entry-index l.entries) ≡ first_in (stand l.instance) l.entries
