-- A thread between two callbacks.
use Rattle.std.specs.Prelude.{◌≡◌, ℕ}
use Rattle.fm_queue.specs.Passes.{IsPassOf, JobPass}
use Rattle.fm_queue.specs.declared.queue.JobQueue.{JobQueue}

-- its hand holds nothing, and its pass is the queue's
pub record IsFree (queue : JobQueue) (held : ℕ) (pass : JobPass) : Type 0 where
  pub empty : held ≡ 0
  pub own : IsPassOf queue pass
