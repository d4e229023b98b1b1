-- What the lock keeps, and what a worker's hand is.
use Rattle.std.specs.Prelude.{◌≡◌, ◌+◌, ◌<◌, ℕ, Bool, List, Option, sum_by, count_by}
use Rattle.fm_types.specs.declared.ids.WorkerId.{WorkerId}
use Rattle.fm_world.specs.World.{World}
use Rattle.fm_world.specs.Hands.{hand_len, worker_pairs}
use Rattle.fm_lock.specs.Runs.{IsRun}

-- a worker, and how many references it holds
pub record HandView : Type 0 where
  pub worker : WorkerId
  pub held : ℕ

-- the state, which workers' hands are out, and which of the filters that were handed in each filter's number stands for
pub record LockedView : Type 0 where
  pub world : World
  pub hired : List Bool
  pub loaded : List (Option ℕ)

-- a hand outside the lock is one part of the ledger, with what it holds as its amount
pub record IsHand (h : HandView) (parts amount : ℕ) : Type 0 where
  pub whole : parts ≡ 1
  pub holds : amount ≡ h.held
  pub worker : h.worker.0 < 48

-- the state is where a run of events leads; the book is the number of references that workers hold; one part stays in the lock, and so does that of each hand
-- that isn't out
pub record IsLocked (w : World) (hired : List Bool) (total parts amount : ℕ) : Type 0 where
  pub run : IsRun w
  pub book : total ≡ worker_pairs w
  pub none : amount ≡ 0
  pub shares : parts + count_by (λ is_out. is_out) hired ≡ 49

-- the hand's number is the state's
abbrev pub IsTrueHand : HandView → LockedView → Type 0
IsTrueHand h r = h.held ≡ hand_len h.worker.0 r.world

-- how many references a list of hands holds
abbrev pub held_by : List HandView → ℕ
held_by hands = sum_by (λ (h : HandView). h.held) hands
