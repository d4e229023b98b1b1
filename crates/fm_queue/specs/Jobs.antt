-- Lists of jobs, counted with repeats.
use Rattle.std.specs.Prelude.{◌≡◌, ◌+◌, ℕ, List, sum_by}
use Rattle.fm_queue.specs.declared.job.Job.{Job}

-- the jobs that were put are those that were taken and those that are queued, each as often: however jobs are weighed, they weigh the same
-- (a weight of 1 for one job and 0 for the others counts that job, a weight of 1 for each counts them all)
abbrev pub IsKept : List Job → List Job → List Job → Type 0
IsKept puts takes queued = (weight : Job → ℕ) → sum_by weight puts ≡ sum_by weight takes + sum_by weight queued
