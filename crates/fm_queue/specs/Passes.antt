-- What a clause says of a queue and of its passes.
use Rattle.std.specs.Prelude.{◌≡◌, ◌<◌, ℕ}
use Rattle.crossbeam_channel.specs.Claims.{Pass, view, IsSeatAt}
use Rattle.crossbeam_channel.specs.Ends.{sends_on, ruled_capacity}
use Rattle.fm_queue.specs.declared.job.Job.{Job}
use Rattle.fm_queue.specs.declared.tally.PassTally.{PassTally}
use Rattle.fm_queue.specs.declared.queue.JobQueue.{JobQueue}
use Rattle.fm_queue.specs.Tallies.{every_part}

-- a pass, as crates above name it
abbrev pub JobPass : Type 0
JobPass = Pass Job PassTally

-- what the pass has put and taken
abbrev pub tally_of : Pass Job PassTally → PassTally
tally_of pass = view pass

-- how many parts it has of the right to know the whole
abbrev pub parts_of : Pass Job PassTally → ℕ
parts_of pass = (tally_of pass).parts

-- the pass has every part
abbrev pub IsWhole : Pass Job PassTally → Type 0
IsWhole pass = parts_of pass ≡ every_part

-- the pass was made with this queue, and has a part
abbrev pub IsPassOf : JobQueue → Pass Job PassTally → Type 0
IsPassOf queue pass = IsSeatAt (sends_on queue.ends.sender) pass × (0 < parts_of pass)

-- how many jobs the queue holds at most
abbrev pub capacity_of : JobQueue → ℕ
capacity_of queue = ruled_capacity (sends_on queue.ends.sender)
