use Rattle.fm_wire.proofs.Words.{length, Begins}
use Rattle.fm_wire.proofs.stream.read_frames.Given as goal

abbrev pub invariant-loop-body : goal.invariant-loop-body
invariant-loop-body l = Begins l.stream l.frames.items l.rest

abbrev pub decreases-loop-body : goal.decreases-loop-body
decreases-loop-body l = length l.rest
