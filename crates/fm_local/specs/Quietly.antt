-- What a manager's calls make of its state where its filters are plain: the events that they name, one after the other, with cleanups and nothing else
-- in between; and that the manager is ready again.
use Rattle.std.specs.Prelude.{[], ◌≡◌, ◌⊎◌, Bool, Err, IsErr, List, Ok, Option, Result, false, length, slice_get, suc, true, zero, ℕ, IsOk}
use Rattle.fm_filter.specs.declared.minifilter.Minifilter as filter
use Rattle.fm_base.specs.declared.base.Base as base
use Rattle.fm_local.specs.Words.{Data, Completion, PostVerdict, PreVerdict, Folder, Finishes, Attaches, AsksDetach, CompletesTeardown, EmptiesFilter}
use Rattle.fm_local.specs.Words.{FinishesFilter, StartsTeardown, FilterId, InstanceId, StackWorld, Status, VolumeId, WorkerId, World, Parts}
use Rattle.fm_stack.specs.Detaching.{is_to_complete}
use Rattle.fm_stack.specs.Instances.{passes}
use Rattle.fm_world.specs.Events.{is_stopping_row}
use Rattle.fm_world.specs.Teardowns.{StartReturns, CompleteReturns}
use Rattle.fm_local.specs.Actions.{IsReady}
use Rattle.fm_local.specs.Calls.{SetsUpWith, QueriesWith, AsksToUnload, is_leaving, is_to_go, is_unloading}
use Rattle.fm_local.specs.Requests.{Tidies}

-- an instance that is stopping was told so: its teardown has started, and the callback of that returned
abbrev pub WasTold : InstanceId → StackWorld → Type 0
WasTold i s = is_stopping_row (slice_get s.instances i.0) ≡ true → passes is_to_complete (slice_get s.instances i.0) ≡ true

module _ (k : WorkerId) (i : InstanceId) where
  -- the setup of a new instance, which ends at once where it is refused
  abbrev pub SetUpQuietly : (Bool → Type 0) → World → Result (Unit {0}) Status → World → Type 0
  SetUpQuietly may born (Ok done) new = (set : World) × SetsUpWith may k born (Ok tt) set × Tidies set new
  SetUpQuietly may born (Err why) new =
      (set tidy : World) × (finished : Result (Unit {0}) Status) × SetsUpWith may k born (Err why) set × Tidies set tidy × Finishes tidy i finished new

  -- its filter is asked whether it may be detached: that is refused at once, or the query callback is called
  abbrev pub AsksQuietly : (World → InstanceId → Bool → Type 0) → World → Result (Unit {0}) Status → World → Type 0
  AsksQuietly may old result new =
      (IsErr result × AsksDetach old k i result new)
      ⊎ ((asked back : World) × AsksDetach old k i (Ok tt) asked × QueriesWith (may asked i) k asked result back × Tidies back new)

  -- its teardown starts, unless it has or the instance isn't stopping
  abbrev pub StartsQuietly : World → World → Type 0
  StartsQuietly old new =
      ((why : Status) × StartsTeardown old k i (Err why) new)
      ⊎ ((started back : World) × StartsTeardown old k i (Ok tt) started × StartReturns started k (Ok tt) back × Tidies back new)

  -- its teardown is completed, where it is stopping
  abbrev pub CompletesQuietly : World → World → Type 0
  CompletesQuietly old new =
      ((is_stopping_row (slice_get old.stack.instances i.0) ≡ false) × (new ≡ old))
      ⊎ ((completing back : World) × CompletesTeardown old k i (Ok tt) completing × CompleteReturns completing k (Ok tt) back × Tidies back new)

  -- its teardown, from where it is to its end
  abbrev pub TearsDownQuietly : World → Result (Unit {0}) Status → World → Type 0
  TearsDownQuietly old result new =
      (started completed tidy : World) × StartsQuietly old started × CompletesQuietly started completed × Tidies completed tidy × Finishes tidy i result new

  abbrev pub DetachesQuietlyBy : Bool → (World → InstanceId → Bool → Type 0) → World → Result (Unit {0}) Status → World → Type 0
  DetachesQuietlyBy true may old result new = IsOk result × TearsDownQuietly old result new
  DetachesQuietlyBy false may old result new =
      (IsErr result × AsksQuietly may old result new) ⊎ ((asked : World) × AsksQuietly may old (Ok tt) asked × IsOk result × TearsDownQuietly asked result new)

  -- a detach asks where no teardown is under way; one that was agreed to, or is under way, isn't refused
  abbrev pub DetachesQuietly : (World → InstanceId → Bool → Type 0) → World → Result (Unit {0}) Status → World → Type 0
  DetachesQuietly may old result new = DetachesQuietlyBy (is_leaving old i) may old result new

-- an attach, with the setup of the new instance
abbrev pub AttachesQuietly : (World → InstanceId → Bool → Type 0) → World → WorkerId → FilterId → VolumeId → List ℕ → List ℕ
    → Result InstanceId Status → World → Type 0
AttachesQuietly may old k f v name altitude (Ok i) new = (born : World) × Attaches old k f v name altitude (Ok i) born
    × SetUpQuietly k i (may born i) born (Ok tt) new
AttachesQuietly may old k f v name altitude (Err why) new =
    Attaches old k f v name altitude (Err why) new
    ⊎ ((i : InstanceId) × (born : World) × Attaches old k f v name altitude (Ok i) born × SetUpQuietly k i (may born i) born (Err why) new)

module _ (k : WorkerId) (f : FilterId) where
  abbrev pub TearsDownIf : Bool → InstanceId → World → World → Type 0
  TearsDownIf true i old new = TearsDownQuietly k i old (Ok tt) new
  TearsDownIf false i old new = new ≡ old

  -- of the first instances, those of the filter that are to go are torn down, one after the other
  abbrev pub TearsDownFirst : ℕ → World → World → Type 0
  TearsDownFirst zero old new = new ≡ old
  TearsDownFirst (suc n) old new =
      (mid : World) × TearsDownFirst n old mid × TearsDownIf (is_to_go f mid (record { 0 = n })) (record { 0 = n }) mid new

  -- the end of a filter: all its instances are torn down, and then its volume contexts go
  abbrev pub EndsQuietly : World → Result (Unit {0}) Status → World → Type 0
  EndsQuietly old result new =
      (torn : World) × TearsDownFirst (length old.stack.instances) old torn
      × ((IsErr result × EmptiesFilter torn f result new)
      ⊎ ((emptied tidy : World) × EmptiesFilter torn f (Ok tt) emptied × Tidies emptied tidy × FinishesFilter tidy f result new))

  abbrev pub UnloadsQuietlyBy : Bool → (Bool → Type 0) → World → Result (Unit {0}) Status → World → Type 0
  UnloadsQuietlyBy true may old result new = EndsQuietly old result new
  UnloadsQuietlyBy false may old result new =
      (IsErr result × AsksToUnload may old k f result new) ⊎ ((asked : World) × AsksToUnload may old k f (Ok tt) asked × EndsQuietly asked result new)

  -- an unload asks where no end is under way
  abbrev pub UnloadsQuietly : (Bool → Type 0) → World → Result (Unit {0}) Status → World → Type 0
  UnloadsQuietly may old result new = UnloadsQuietlyBy (is_unloading old f) may old result new

-- ---- of a manager

-- the bases and the filters are as before, and nothing waits that was resumed
pub record IsSettled {F B : Type 0} (old new : Parts F B) : Type 0 where
  pub bases : new.bases ≡ old.bases
  pub filters : new.filters ≡ old.filters
  pub settled : new.work.resumed.items.items ≡ []

-- a teardown starts, and that is all
pub record StartsAlone {F B : Type 0} (k : WorkerId) (i : InstanceId) (old new : Parts F B) : Type 0 where
  pub started : World
  pub starts : StartsTeardown old.work.state k i (Ok tt) started
  pub returns : StartReturns started k (Ok tt) new.work.state
  pub bases : new.bases ≡ old.bases
  pub filters : new.filters ≡ old.filters
  pub resumed : new.work.resumed ≡ old.work.resumed

-- and the manager is ready again
pub record LeavesReady {F B : Type 0} (own : filter.Ghosts F) (below : base.Ghosts B) (k : WorkerId) (old new : Parts F B) : Type 0 where
  pub settles : IsSettled old new
  pub ready : IsReady own below k new
