-- What the calls answer, and what a pass knows after them.
use Rattle.std.specs.Prelude.{◌≡◌, ◌==◌, ◌||◌, ℕ, List, [], length, Option, Result, Err, IfErr, MatchBool, MatchOption, MatchResult}
use Rattle.fm_types.specs.declared.status.Status.{Status}
use Rattle.fm_types.specs.declared.status.Status.TheVariants.{NoMemory, BadRequest, TooMany}
use Rattle.fm_queue.specs.declared.job.Job.{Job}
use Rattle.fm_queue.specs.declared.tally.PassTally.{PassTally}
use Rattle.fm_queue.specs.Jobs.{IsKept}
use Rattle.fm_queue.specs.Tallies.{after_put, after_take}

-- a queue isn't made: with 32 exactly where it would hold no job or have no pass, else only for want of memory
abbrev pub NewRefused : {T : Type 0} → ℕ → ℕ → Result T Status → Type 0
NewRefused capacity passes result =
    MatchBool (capacity == 0 || passes == 0) (result ≡ Err BadRequest) (IfErr result (λ status. status ≡ NoMemory))

-- `put`: the pass has put the job; or the job is handed back with 29, and the pass is as it was
abbrev pub Puts : PassTally → Job → Result (Unit {0}) (Job × Status) → PassTally → Type 0
Puts old job result new = MatchResult result (λ _. new ≡ after_put old job) (λ back. (back ≡ (job, TooMany)) × (new ≡ old))

-- `try_take`: the pass has taken the job; or there was none, and the pass is as it was
abbrev pub MayTake : PassTally → Option Job → PassTally → Type 0
MayTake old result new = MatchOption result (new ≡ old) (λ job. new ≡ after_take old job)

-- the jobs that the pass put and hasn't taken are queued, as many as there is room for
abbrev pub IsFull : ℕ → PassTally → Type 0
IsFull capacity t = (queued : List Job) × (length queued ≡ capacity) × IsKept t.puts t.takes queued

-- the jobs that the pass put are those that it took and some that are queued, each as often
abbrev pub KeepsJobs : PassTally → Type 0
KeepsJobs t = (queued : List Job) × IsKept t.puts t.takes queued

-- it took all that it put, each as often
abbrev pub TookAll : PassTally → Type 0
TookAll t = IsKept t.puts t.takes []
