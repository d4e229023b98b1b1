-- What a manager's calls promise, over all that its filters and its file systems say of themselves.
use Rattle.std.specs.Prelude.{[], ◌≡◌, ◌+◌, ◌-◌, ◌^◌, List, Option, Result, min, ℕ}
use Rattle.std.specs.Global.{Vec}
use Rattle.fm_local.specs.Words.{FilterId, InstanceId, OpId, Status, VolumeId, World, Parts}
use Rattle.fm_types.specs.declared.ids.HandleId.{HandleId}
use Rattle.fm_callback_data.specs.declared.request.Reply.{Reply}
use Rattle.fm_callback_data.specs.declared.request.Request.{Request}
use Rattle.fm_filter.specs.declared.minifilter.Minifilter as filter
use Rattle.fm_base.specs.declared.base.Base as base
use Rattle.fm_local.specs.declared.local_port.Work.{Work}
use Rattle.fm_local.specs.declared.bounded.Bounded.{Bounded}
use Rattle.fm_local.specs.declared.parts.TheConstants.{WORKER}
use Rattle.fm_local.specs.declared.requests.TheConstants.{RESUMPTIONS}
use Rattle.fm_types.specs.declared.limits.TheConstants.{TURNS}
use Rattle.fm_local.specs.Actions.{AnswersIn, ArePlainFilters, AttachesThenSettles, DetachesThenSettles, IsReady, Requests, UnloadsThenSettles, WorksThenSettles}
use Rattle.fm_local.specs.Calls as calls
use Rattle.fm_local.specs.Calls.{AgreesAt, MayAgree, is_leaving, is_unloading, placed}
use Rattle.fm_local.specs.Cleanups as cleanups
use Rattle.fm_local.specs.Places as places
use Rattle.fm_local.specs.declared.refusal.Refusal.{Refusal}
use Rattle.fm_local.specs.declared.leak.Leak.{Leak}
use Rattle.fm_local.specs.declared.trace.Traced.{Traced}
use Rattle.fm_world.specs.Events as events
use Rattle.fm_world.specs.World.{empty_world}
use Rattle.fm_filter.specs.Handed.{handed_in, numbered}
use Rattle.fm_local.specs.Waits.{HandsOut}
use Rattle.fm_local.specs.Quietly.{AttachesQuietly, DetachesQuietly, LeavesReady, UnloadsQuietly}

-- ---- what a manager has

-- it keeps nothing, and nothing went since it was made or cleared
abbrev pub IsCleared : {T : Type 0} → Bounded T → Type 0
IsCleared queue = (queue.items.items ≡ []) × (queue.dropped ≡ 0)

module _ {F B : Type 0} where
  -- its state
  abbrev pub world : Parts F B → World
  world m = m.work.state

  -- its file systems, by the numbers of their volumes
  abbrev pub file_systems : Parts F B → List B
  file_systems m = m.bases.all.items

  -- what can be read of it
  abbrev pub steps : Parts F B → List Traced
  steps m = m.trace.items.items

  abbrev pub leaks : Parts F B → List Leak
  leaks m = m.leaks.items.items

  abbrev pub refused_calls : Parts F B → List Refusal
  refused_calls m = m.work.refusals.items.items

  -- how many of these can't be read any more, as far as a number of 64 bits tells
  abbrev pub dropped_count : Parts F B → ℕ
  dropped_count m = min (min (m.trace.dropped + m.leaks.dropped) (2 ^ 64 - 1) + m.work.refusals.dropped) (2 ^ 64 - 1)

  -- it has these filters, none of which is loaded, and no volume
  pub record IsNew (filters : Vec (List ℕ × F)) (m : Parts F B) : Type 0 where
    pub state : world m ≡ empty_world
    pub handed : m.filters.all ≡ filters
    pub volumes : file_systems m ≡ []

  -- its worker is idle, and no context is due
  abbrev pub IsOut : Parts F B → Type 0
  IsOut m = places.IsOut WORKER (world m)

  abbrev pub HasNoneDue : Parts F B → Type 0
  HasNoneDue m = cleanups.HasNoneDue WORKER (world m)

  -- ---- what a call leaves

  -- where that was so it is so again
  abbrev pub StaysOut : Parts F B → Parts F B → Type 0
  StaysOut old new = places.StaysOut WORKER (world old) (world new)

  abbrev pub LeavesNoneDue : Parts F B → Parts F B → Type 0
  LeavesNoneDue old new = cleanups.LeavesNoneDue WORKER (world old) (world new)

  -- the filters, and what their numbers stand for
  abbrev pub SameFilters : Parts F B → Parts F B → Type 0
  SameFilters old new = new.filters ≡ old.filters

  -- the filters that were handed in, and the file systems
  abbrev pub SameHanded : Parts F B → Parts F B → Type 0
  SameHanded old new = (new.filters.all ≡ old.filters.all) × (new.bases ≡ old.bases)

  -- all but what can be read
  abbrev pub ForgetsReport : Parts F B → Parts F B → Type 0
  ForgetsReport old new = new ≡ record old { work = record old.work { refusals = new.work.refusals }; leaks = new.leaks; trace = new.trace }

  -- nothing can be read, and nothing is missing
  abbrev pub HasNoReport : Parts F B → Type 0
  HasNoReport m = IsCleared m.trace × IsCleared m.leaks × IsCleared m.work.refusals

  -- all but the state, what ended, and what can be read
  abbrev pub SameAround : Parts F B → Parts F B → Type 0
  SameAround old new = (new.filters ≡ old.filters) × (new.bases ≡ old.bases) × (new.work.resumed ≡ old.work.resumed)

  -- a volume is mounted, over that file system
  abbrev pub MountsAs : List ℕ → Parts F B → Result VolumeId Status → Parts F B → Type 0
  MountsAs name old result new = events.Mounts (world old) name result (world new)

  abbrev pub Places : B → Parts F B → Parts F B → Type 0
  Places base old new = file_systems new ≡ placed old base

  -- of the operations that ended the first is handed out
  abbrev pub HandsOutFirst : Parts F B → Option (OpId × Reply) → Parts F B → Type 0
  HandsOutFirst old said new = HandsOut old.finished.items.items old said new

  -- the number that a load gave stands for the filter of that name, and all others stand for what they stood for
  abbrev pub Numbers : List ℕ → Parts F B → Parts F B → FilterId → Type 0
  Numbers name old new f = calls.Numbers old.filters name f new.filters

module _ {F B : Type 0} (f : filter.Ghosts F) where
  -- ---- by the events of its state, in whatever state

  abbrev pub LoadsAs : List ℕ → Parts F B → Result FilterId Status → Parts F B → Type 0
  LoadsAs name old result new = calls.LoadsAs f.registers old.filters (world old) name result (world new)

  abbrev pub AttachesAs : FilterId → VolumeId → List ℕ → List ℕ → Parts F B → Result InstanceId Status → Parts F B → Type 0
  AttachesAs i v name altitude old result new = calls.AttachesAs (AgreesAt f.setup_may old.filters) (world old) WORKER i v name altitude result (world new)

  abbrev pub DetachesAs : InstanceId → Parts F B → Result (Unit {0}) Status → Parts F B → Type 0
  DetachesAs i old result new = calls.DetachesAs (AgreesAt f.query_may old.filters) (world old) WORKER i result (world new)

  abbrev pub UnloadsAs : FilterId → Parts F B → Result (Unit {0}) Status → Parts F B → Type 0
  UnloadsAs i old result new = calls.UnloadsAs f.unload_may old.filters (world old) WORKER i result (world new)

module _ {F B : Type 0} (f : filter.Ghosts F) (b : base.Ghosts B) where
  -- ---- ready

  -- ready for a request
  abbrev pub Ready : Parts F B → Type 0
  Ready m = IsReady f b WORKER m

  -- a manager that is ready stays so
  abbrev pub StaysReady : Parts F B → Parts F B → Type 0
  StaysReady old new = Ready old → Ready new

  -- so if all filters that were handed in are plain
  abbrev pub StaysReadyIfPlain : Parts F B → Parts F B → Type 0
  StaysReadyIfPlain old new = ArePlainFilters f.pre_may f.post_may f.is_quiet (handed_in old.filters) → StaysReady old new

  -- and over the same file systems and filters
  abbrev pub StaysReadyAlike : Parts F B → Parts F B → Type 0
  StaysReadyAlike old new = Ready old → LeavesReady f b WORKER old new

  -- ---- requests

  -- one that is ready answers with the fold of its filters over its file systems
  abbrev pub AnswersReady : Request → Parts F B → Reply → Parts F B → Type 0
  AnswersReady what old said new = Ready old → AnswersIn f b WORKER what old said new

  -- and any one by the events of the request, with what was resumed and what is due after them
  abbrev pub AnswersAny : Request → Parts F B → Reply → Parts F B → Type 0
  AnswersAny what old said new = Requests f b WORKER TURNS RESUMPTIONS what old said new

  -- ---- an attach, a detach and an unload

  -- the same of an attach: by its events alone where the manager is ready
  abbrev pub AttachesReady : FilterId → VolumeId → List ℕ → List ℕ → Parts F B → Result InstanceId Status → Parts F B → Type 0
  AttachesReady i v name altitude old result new =
      Ready old → AttachesQuietly (AgreesAt f.setup_may old.filters) old.work.state WORKER i v name altitude result new.work.state

  abbrev pub AttachesAny : FilterId → VolumeId → List ℕ → List ℕ → Parts F B → Result InstanceId Status → Parts F B → Type 0
  AttachesAny i v name altitude old result new =
      AttachesThenSettles f b WORKER TURNS RESUMPTIONS i v name altitude old result new

  -- of a detach
  abbrev pub DetachesReady : InstanceId → Parts F B → Result (Unit {0}) Status → Parts F B → Type 0
  DetachesReady i old result new = Ready old → DetachesQuietly WORKER i (AgreesAt f.query_may old.filters) old.work.state result new.work.state

  abbrev pub DetachesAny : InstanceId → Parts F B → Result (Unit {0}) Status → Parts F B → Type 0
  DetachesAny i old result new =
      DetachesThenSettles f b WORKER TURNS RESUMPTIONS (is_leaving old.work.state i) i old result new

  -- and of an unload
  abbrev pub UnloadsReady : FilterId → Parts F B → Result (Unit {0}) Status → Parts F B → Type 0
  UnloadsReady i old result new = Ready old → UnloadsQuietly WORKER i (MayAgree f.unload_may (numbered old.filters i.0)) old.work.state result new.work.state

  abbrev pub UnloadsAny : FilterId → Parts F B → Result (Unit {0}) Status → Parts F B → Type 0
  UnloadsAny i old result new =
      UnloadsThenSettles f b WORKER TURNS RESUMPTIONS i (is_unloading old.work.state i) old result new

  -- ---- a work item

  abbrev pub WorksAny : (Work → Work → Type 0) → InstanceId → Option HandleId → Parts F B → Result (Unit {0}) Status → Parts F B → Type 0
  WorksAny works i h old result new = WorksThenSettles f b WORKER TURNS RESUMPTIONS works i h old result new
