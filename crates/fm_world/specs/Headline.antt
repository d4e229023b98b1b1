-- What holds of every World that a list of events leads to.
use Rattle.std.specs.Prelude.{◌≡◌, ℕ, ◌≤◌, ◌++◌, Bool, true, false, cond, ◌&&◌, ◌==◌, List, All, AllPairs, count_by, Option, Some, None, option_map}
use Rattle.fm_world.specs.Words.{CtxId, InstanceId, OpId, WorkerId, StackWorld, clashes, Object, Owner, one, places, cleaning_of, hand_of, open_of, has_link}
use Rattle.fm_world.specs.Words.{is_waiting, Slot, context_at, owner_at, Stage, Descending, PreRunning, InBase, PostRunning, InDrain, FlowRecord, Entry}
use Rattle.fm_world.specs.Words.{visited, last_visited, last_posted, has_base, posted, owed, undrained, instances, FlowTable, told, in_flight}
use Rattle.fm_operations.specs.Counts.{drain_opens}
use Rattle.fm_operations.specs.Entries.{asked}
use Rattle.fm_operations.specs.Initiators.{begun_by}
use Rattle.fm_operations.specs.Sound.{walk, way_of, MadeAsAsked}
use Rattle.fm_ctx.specs.declared.owner.Owner.TheVariants as owner
use Rattle.fm_world.specs.declared.step.Step.{Step}
use Rattle.fm_world.specs.declared.step.StepReply.{StepReply}
use Rattle.fm_world.specs.declared.place.Place.{Place}
use Rattle.fm_world.specs.declared.place.Place.TheVariants as place
use Rattle.fm_world.specs.FileLaws.{FilesHold}
use Rattle.fm_world.specs.Links.{names_there}
use Rattle.fm_world.specs.World.{World, carries, reference_count, empty_world}
use Rattle.fm_world.specs.Workers.{worker_at, cleanup_in, routines_at}
use Rattle.fm_world.specs.Owners.{row_at, place_in, is_left_by, keeps_links_by, is_flown_by, fits, HoldsIn, AskCarries}
use Rattle.fm_world.specs.Steps.{Run}
use Rattle.fm_world.specs.Descent.{IsDescent}

-- the postoperations so far, followed by those owed, are the exact reverse of those that asked, without the drained
abbrev pub IsAscent : FlowRecord → Type 0
IsAscent r = posted r.entries ++ instances (owed r.entries) ≡ instances (undrained r.entries)

-- nothing but drains follows a callback that runs or is held; no preoperation follows a Complete, the base or a postoperation; the base is called once
-- at most, and not after a Complete; a postoperation comes after a Complete or the base
abbrev pub IsInOrder : FlowRecord → Type 0
IsInOrder r = walk Descending r.entries ≡ Some (way_of r.stage)

-- a postoperation that was asked for as synchronized, and wasn't drained, is made by the worker of its preoperation
abbrev pub IsSynchronized : FlowRecord → Type 0
IsSynchronized r = All (MadeAsAsked (asked r.entries)) r.entries

-- the preoperations fall by altitude, and nobody is passed over: of an operation that an instance's filter asked for itself nobody that stands lower
abbrev pub DescendsIn : StackWorld → FlowRecord → Type 0
DescendsIn s r = IsDescent s r.volume r.below r.born r.operation (visited r.entries) (has_base r.entries)

-- where `next` has brought an operation to a worker: inside an instance's preoperation, the base's call, an instance's postoperation or its drain
pub data Spot : Type 0 where
  AtPre : (i : ℕ) → Spot
  AtBase : Spot
  AtPost : (i : ℕ) → Spot
  AtDrain : (i : ℕ) → Spot

-- whether a worker is there, inside operation o
abbrev pub is_in_at : OpId → Spot → Place → Bool
is_in_at o (AtPre i) (place.Pre p j) = (p.0 == o.0) && (j.0 == i)
is_in_at o _ (place.Pre p j) = false
is_in_at o AtBase (place.Base p) = p.0 == o.0
is_in_at o _ (place.Base p) = false
is_in_at o (AtPost i) (place.Post p j) = (p.0 == o.0) && (j.0 == i)
is_in_at o _ (place.Post p j) = false
is_in_at o (AtDrain i) (place.Drain p j) = (p.0 == o.0) && (j.0 == i)
is_in_at o _ (place.Drain p j) = false
is_in_at o _ (place.EarlyDrain p j) = false
is_in_at o _ place.Idle = false
is_in_at o _ (place.Setup i) = false
is_in_at o _ (place.Cleanup c) = false
is_in_at o _ (place.Query i) = false
is_in_at o _ (place.Start i) = false
is_in_at o _ (place.Complete i) = false
is_in_at o _ (place.Routine i file) = false
is_in_at o _ (place.Unload f) = false

-- where that is, by its stage and its last entry; nowhere, where it is with no worker
abbrev pub spot_at : Stage → List Entry → Option Spot
spot_at PreRunning entries = option_map AtPre (last_visited entries)
spot_at InBase entries = Some AtBase
spot_at PostRunning entries = option_map AtPost (last_posted entries)
spot_at (InDrain i) entries = Some (AtDrain i.0)
spot_at _ entries = None

abbrev pub spot_of : FlowRecord → Option Spot
spot_of r = spot_at r.stage r.entries

abbrev pub is_spot : Spot → Option Spot → Bool
is_spot (AtPre i) (Some (AtPre j)) = j == i
is_spot AtBase (Some AtBase) = true
is_spot (AtPost i) (Some (AtPost j)) = j == i
is_spot (AtDrain i) (Some (AtDrain j)) = j == i
is_spot _ _ = false

-- 1 where the operation of that number is there and has a worker at that spot, else 0
abbrev pub stands_at : OpId → Spot → FlowTable → ℕ
stands_at o spot flow = told (λ r. cond (is_spot spot (spot_of r)) 1 0) 0 o flow

-- whether a worker is in a drain of an instance, inside operation o: one that `next` gave, or one that was taken early
abbrev pub is_in_drain : OpId → ℕ → Place → Bool
is_in_drain o i (place.Drain p j) = (p.0 == o.0) && (j.0 == i)
is_in_drain o i (place.EarlyDrain p j) = (p.0 == o.0) && (j.0 == i)
is_in_drain o i place.Idle = false
is_in_drain o i (place.Setup j) = false
is_in_drain o i (place.Pre p j) = false
is_in_drain o i (place.Base p) = false
is_in_drain o i (place.Post p j) = false
is_in_drain o i (place.Cleanup c) = false
is_in_drain o i (place.Query j) = false
is_in_drain o i (place.Start j) = false
is_in_drain o i (place.Complete j) = false
is_in_drain o i (place.Routine j file) = false
is_in_drain o i (place.Unload f) = false

-- how many drains of an instance run in the operation of that number
abbrev pub drains_running : OpId → ℕ → FlowTable → ℕ
drains_running o i flow = told (λ r. drain_opens i r.entries) 0 o flow

-- how many records stay of operations whose answers were handed out, beside those of the operations that are still to be collected
abbrev pub collected_records : FlowTable → ℕ
collected_records flow = count_by (λ r. r.collected) flow.operations

pub record Headline (w : World) : Type 0 where
  -- on one volume, instances that aren't detached have distinct names and distinct altitudes
  pub apart : AllPairs (λ a b. clashes a b ≡ false) w.stack.instances
  pub descents : All (DescendsIn w.stack) w.flow.operations
  pub ascents : All IsAscent w.flow.operations
  pub orders : All IsInOrder w.flow.operations
  pub synchronized : All IsSynchronized w.flow.operations
  -- exactly one worker is inside the callback or the call that an operation is in, and none inside any other that `next` gives
  pub workers : (o : OpId) (spot : Spot) → count_by (is_in_at o spot) w.workers ≡ stands_at o spot w.flow
  -- exactly one is inside each drain that runs, also inside one that was taken early, beside which the operation goes on
  pub drains : (o : OpId) (i : ℕ) → count_by (is_in_drain o i) w.workers ≡ drains_running o i w.flow
  -- a record stays after its answer was handed out only for drains that still run, each with a worker of its own: such records are no more than workers
  pub collected : collected_records w.flow ≤ 48
  -- a context has references of what links it, of what holds it and of what carries it: whatever has one isn't cleaned
  pub alive : (c : CtxId) → context_at w.contexts.slots c ≡ None → reference_count w c ≡ 0
  -- a context without references is in one place, once: it is due, or one worker cleans it up; one with references is in none
  pub cleaned_once : (c : CtxId) → places w.contexts.due w.contexts.cleaning c ≡ one (is_waiting (carries w) w.contexts c)
  -- that worker is in the context's cleanup callback
  pub cleanups : (k : WorkerId) → cleaning_of w.contexts.cleaning k.0 ≡ cleanup_in (worker_at w.workers k)
  -- no object has two contexts of one owner
  pub one_per_owner : (o : Owner) (object : Object) → count_by (has_link o object) w.contexts.slots ≤ 1
  -- a context's owner isn't gone; a link names an object of the context's kind that is still there: a volume or an instance that wasn't emptied
  pub there : All (λ (s : Slot). fits w.stack s.context ≡ true) w.contexts.slots
  -- an open handle, or a stream that wasn't torn down
  pub links : All (λ (s : Slot). names_there w.files s.context ≡ true) w.contexts.slots
  -- the streams are those that an open handle or a create under way is on, and each number and each path stands once
  pub files : FilesHold w.files w.flow
  -- a worker's references are to contexts of the instance whose callback or routine it is in, or to volume contexts of its filter; so are those that
  -- a completion carries, of the instance that it is owed to
  pub holders : (k : WorkerId) → All (HoldsIn w.stack w.contexts.slots (place_in (worker_at w.workers k))) (hand_of w.contexts.hands k.0)
  pub completions : All (λ (r : FlowRecord). All (AskCarries w.stack w.contexts.slots) (owed r.entries)) w.flow.operations
  -- of what an instance owns that was emptied, nothing is linked, held or carried
  pub emptied : (i : InstanceId) (c : CtxId) → keeps_links_by (row_at w.stack i) ≡ false
      → owner_at w.contexts.slots c ≡ Some (owner.Instance i) → reference_count w c ≡ 0
  -- a detached instance owns no context that isn't cleaned, and nothing is in flight at it
  pub detached : (i : InstanceId) → is_left_by (row_at w.stack i) ≡ false → (open_of w.contexts.slots (owner.Instance i) ≡ 0) × (in_flight i.0 w.flow ≡ 0)
  -- and its filter asked for nothing that is under way: each answer to what it asked for itself was handed out. So it is with all instances of a filter
  -- that has ended, since they are detached
  pub begun : (i : InstanceId) → is_left_by (row_at w.stack i) ≡ false → begun_by i.0 w.flow ≡ 0
  -- and of an instance whose setup isn't over, or whose teardown was completed, no routine runs
  pub routines : (i : InstanceId) → is_flown_by (row_at w.stack i) ≡ false → routines_at i w.workers ≡ 0

-- every list of events, with every answer that the rules allow, leads from the empty World to one that keeps the Headline
abbrev pub RulesKeepHeadline : Type 0
RulesKeepHeadline = (steps : List Step) (replies : List StepReply) (w : World) → Run empty_world steps replies w → Headline w
