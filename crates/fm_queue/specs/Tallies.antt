-- What a pass has put and taken, and the rule of the queue over what all passes have put and taken.
use Rattle.std.specs.Prelude.{◌≡◌, ◌+◌, ◌-◌, ◌^◌, ℕ, List, [], ◌∷◌, ◌++◌, sum_by, flat_map, All}
use Rattle.fm_queue.specs.declared.job.Job.{Job}
use Rattle.fm_queue.specs.declared.tally.PassTally.{PassTally}
use Rattle.fm_queue.specs.Jobs.{IsKept}

-- a pass that has put and taken nothing, with so many parts
abbrev pub empty_tally : ℕ → PassTally
empty_tally parts = record { parts = parts; puts = []; takes = [] }

-- all parts of the right to know the whole, more than there can be passes
abbrev pub every_part : ℕ
every_part = 2 ^ 64

-- the first pass has them all
abbrev pub first_tally : PassTally
first_tally = empty_tally every_part

-- a pass made of another gets one of its parts
abbrev pub new_tally : PassTally
new_tally = empty_tally 1

abbrev pub cut_tally : PassTally → PassTally
cut_tally t = record { parts = t.parts - 1; puts = t.puts; takes = t.takes }

-- a pass after it put a job, and after it took one
abbrev pub after_put : PassTally → Job → PassTally
after_put t job = record { parts = t.parts; puts = t.puts ++ job ∷ []; takes = t.takes }

abbrev pub after_take : PassTally → Job → PassTally
after_take t job = record { parts = t.parts; puts = t.puts; takes = t.takes ++ job ∷ [] }

-- a pass that took in another, and what is left of the other
abbrev pub joined : PassTally → PassTally → PassTally
joined t other = record { parts = t.parts + other.parts; puts = t.puts ++ other.puts; takes = t.takes ++ other.takes }

abbrev pub spent_tally : PassTally
spent_tally = empty_tally 0

-- a pass has put or taken a job only while it had a part
abbrev pub IsIdleWithNoPart : PassTally → Type 0
IsIdleWithNoPart t = t.parts ≡ 0 → (t.puts ≡ []) × (t.takes ≡ [])

-- THE RULE, over the jobs that are queued and the tallies of all passes: the puts of all passes are the takes of all passes and the jobs queued,
-- counted with repeats; all parts are with the passes, and a pass with none has done nothing
abbrev pub JobsAreKept : List Job → List PassTally → Type 0
JobsAreKept queued tallies =
    IsKept (flat_map (λ (t : PassTally). t.puts) tallies) (flat_map (λ (t : PassTally). t.takes) tallies) queued
    × (sum_by (λ (t : PassTally). t.parts) tallies ≡ every_part)
    × All IsIdleWithNoPart tallies

-- what a pass with every part knows of the jobs queued: they are what it put and hasn't taken
abbrev pub KnowsAll : PassTally → List Job → Type 0
KnowsAll t queued = t.parts ≡ every_part → IsKept t.puts t.takes queued
