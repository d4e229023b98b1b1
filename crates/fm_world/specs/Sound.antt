-- What an induction over events needs besides the Headline, and from which the Headline follows.
use Rattle.std.specs.Prelude.{◌≡◌, ℕ, ◌+◌, ◌<◌, ◌≤◌, ◌&&◌, Bool, true, false, cond, List, length, All, count_by, Option, Some, None, slice_get}
use Rattle.fm_world.specs.Words.{InstanceId, WorkerId, OpId, VolumeId, Operation, Instance, StackWorld, is_setup, NonePasses, is_candidate, cleaning_of}
use Rattle.fm_world.specs.Words.{hand_of, IsLawful, Slot, Stage, InBase, Entry, FlowRecord, visited, has_base, owed, creates, FlowTable, IsFlow}
use Rattle.fm_world.specs.Words.{in_flight, carried, ContextTable, one, is_stopping, is_completing}
use Rattle.fm_stack.specs.Stacks.{IsStack}
use Rattle.fm_stack.specs.declared.instance.StartMark.{StartMark}
use Rattle.fm_stack.specs.declared.instance.StartMark.TheVariants as mark
use Rattle.fm_world.specs.declared.place.Place.{Place}
use Rattle.fm_world.specs.declared.file.FileStream.{FileStream}
use Rattle.fm_world.specs.Files.{FileTable}
use Rattle.fm_world.specs.FileLaws.{FilesHold}
use Rattle.fm_world.specs.Links.{names_there}
use Rattle.fm_world.specs.World.{World}
use Rattle.fm_world.specs.Workers.{worker_at, cleanup_in, InstanceCallback, AtSetup, AtQuery, AtStart, AtComplete, AtRoutine, is_at}
use Rattle.fm_operations.specs.Initiators.{begun_by}
use Rattle.fm_world.specs.Owners.{row_at, place_in, HoldsIn, AskCarries, fits, is_flown, is_flown_by, is_left_by}
use Rattle.fm_world.specs.Descent.{IsDescent, HasRoom, trail, cursor_of}
use Rattle.fm_world.specs.Headline.{Spot, is_in_at, stands_at, is_in_drain, drains_running}

-- nothing is left for an operation to visit that visited the cursor last
abbrev pub NoneLeft : StackWorld → VolumeId → Option ℕ → ℕ → Operation → Type 0
NoneLeft s v cursor born operation = NonePasses (is_candidate s v cursor born operation) s.instances

-- an operation among the instances
pub record IsAmongAt (s : StackWorld) (v : VolumeId) (below : Option InstanceId) (born : ℕ) (operation : Operation) (entries : List Entry) (stage : Stage) : Type 0 where
  pub descent : IsDescent s v below born operation (visited entries) (has_base entries)
  pub room : HasRoom s v below born operation (visited entries)
  pub there : All (λ i. i < length s.instances) (trail below (visited entries))
  -- while the base is called, nothing comes to be left
  pub base : stage ≡ InBase → NoneLeft s v (cursor_of below (visited entries)) born operation

abbrev pub IsAmong : StackWorld → FlowRecord → Type 0
IsAmong s r = IsAmongAt s r.volume r.below r.born r.operation r.entries r.stage

abbrev pub is_made : StartMark → Bool
is_made mark.Made = true
is_made _ = false

-- how many workers are there, at least and at most: one is in the setup callback of an instance in Setup; one in the teardown-start callback of an instance
-- whose start was made and didn't return, which is where it is stopping; one in the teardown-complete callback of one that is completing; perhaps one in
-- a query of one that is attached or stopping; and any number in routines of such a one
abbrev pub least_at : InstanceCallback → Instance → ℕ
least_at AtSetup row = one (is_setup row.phase)
least_at AtQuery row = 0
least_at AtStart row = one (is_made row.start)
least_at AtComplete row = one (is_completing row.phase)
least_at AtRoutine row = 0

abbrev pub most_at : InstanceCallback → Instance → ℕ
most_at AtSetup row = one (is_setup row.phase)
most_at AtQuery row = one (is_flown row.phase)
most_at AtStart row = one (is_stopping row.phase && is_made row.start)
most_at AtComplete row = one (is_completing row.phase)
most_at AtRoutine row = cond (is_flown row.phase) 48 0

-- so many workers are right for an instance; for one that isn't there, none
abbrev pub HasWorkers : InstanceCallback → Option Instance → ℕ → Type 0
HasWorkers d None n = n ≡ 0
HasWorkers d (Some row) n = (least_at d row ≤ n) × (n ≤ most_at d row)

-- filters, volumes, instances, operations and workers together
pub record AreUnderWay (s : StackWorld) (t : FlowTable) (ws : List Place) : Type 0 where
  pub stack : IsStack s
  pub flow : IsFlow t
  pub among : All (IsAmong s) t.operations
  pub hands : length ws ≡ 48
  pub workers : (o : OpId) (spot : Spot) → count_by (is_in_at o spot) ws ≡ stands_at o spot t
  pub drains : (o : OpId) (i : ℕ) → count_by (is_in_drain o i) ws ≡ drains_running o i t
  pub instance_callbacks : (d : InstanceCallback) (i : ℕ) → HasWorkers d (slice_get s.instances i) (count_by (is_at d i) ws)

-- contexts, streams and handles don't matter to it
abbrev pub IsUnderWay : World → Type 0
IsUnderWay w = AreUnderWay w.stack w.flow w.workers

-- ---- contexts

pub record AreOwned (s : StackWorld) (t : FlowTable) (ws : List Place) (c : ContextTable) (sums : List ℕ) : Type 0 where
  pub lawful : IsLawful (λ id. carried id t) c
  -- what the workers' places say of cleanups
  pub cleaning : (k : ℕ) → cleaning_of c.cleaning k ≡ cleanup_in (slice_get ws k)
  pub holders : (k : WorkerId) → All (HoldsIn s c.slots (place_in (worker_at ws k))) (hand_of c.hands k.0)
  pub completions : All (λ (r : FlowRecord). All (AskCarries s c.slots) (owed r.entries)) t.operations
  pub fits : All (λ (x : Slot). fits s x.context ≡ true) c.slots
  pub quiet : (i : InstanceId) → is_flown_by (row_at s i) ≡ false → in_flight i.0 t ≡ 0
  pub totals : length sums ≡ 16

-- nor do streams and handles to this
abbrev pub IsOwned : World → Type 0
IsOwned w = AreOwned w.stack w.flow w.workers w.contexts w.totals

-- ---- streams and handles

-- each create under way may give a handle: there is a number for it, and room
pub record IsFiled (files : FileTable) (flow : FlowTable) : Type 0 where
  pub numbers : files.next + creates flow ≤ flow.next
  pub few : length files.handles + creates flow ≤ 4096

pub record IsFileSound (files : FileTable) (flow : FlowTable) : Type 0 where
  pub room : IsFiled files flow
  pub hold : FilesHold files flow
  -- a stream has the number of its create, so that the next one's is new
  pub born : All (λ (x : FileStream). x.number.0 < flow.next) files.streams

-- what isn't there, or is detached, asked for nothing that is under way
abbrev pub NoneBegun : StackWorld → FlowTable → Type 0
NoneBegun s t = (i : InstanceId) → is_left_by (row_at s i) ≡ false → begun_by i.0 t ≡ 0

pub record IsSound (w : World) : Type 0 where
  pub under_way : IsUnderWay w
  pub owned : IsOwned w
  pub begun : NoneBegun w.stack w.flow
  pub filed : IsFileSound w.files w.flow
  pub links : All (λ (s : Slot). names_there w.files s.context ≡ true) w.contexts.slots
