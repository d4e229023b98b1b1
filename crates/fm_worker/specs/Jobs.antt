-- What becomes of operations that wait for a thread.
use Rattle.std.specs.Prelude.{◌≡◌, ◌==◌, ◌⊎◌, ◌++◌, [], Bool, false, not, List, map, Option, Some, None}
use Rattle.fm_queue.specs.declared.job.Job.{Job}
use Rattle.fm_queue.specs.declared.job.Job.TheVariants.{Run}
use Rattle.fm_queue.specs.declared.tally.PassTally.{PassTally}
use Rattle.fm_queue.specs.Tallies.{after_put}
use Rattle.fm_types.specs.declared.ids.OpId.{OpId}
use Rattle.fm_types.specs.declared.ids.WorkerId.{WorkerId}
use Rattle.fm_worker.specs.OpQueues.{put_in}

-- an operation is the turn of another worker
abbrev pub is_for_another : WorkerId → Option WorkerId → Bool
is_for_another own None = false
is_for_another own (Some worker) = not (worker.0 == own.0)

-- an operation became a job, or was set aside
abbrev pub IsKept : OpId → PassTally → List OpId → PassTally → List OpId → Type 0
IsKept o tally aside after left = ((after ≡ after_put tally (Run o)) × (left ≡ aside)) ⊎ ((after ≡ tally) × (left ≡ put_in o aside))

-- the first operations that waited became jobs, in their order, and the others wait on
pub record HandsOn (puts : List Job) (waiting : List OpId) (after : List Job) (left : List OpId) : Type 0 where
  pub moved : List OpId
  pub taken : waiting ≡ moved ++ left
  pub put : after ≡ puts ++ map Run moved

-- nothing that a callback resumed waits here, if nothing did before
abbrev pub LeavesNone : List OpId → List OpId → Type 0
LeavesNone waiting left = waiting ≡ [] → left ≡ []

-- the same of the jobs that a pass put
abbrev pub MovesJobs : PassTally → List OpId → PassTally → List OpId → Type 0
MovesJobs before waiting after left = HandsOn before.puts waiting after.puts left
