-- Where the worker is while a callback runs, and that the event that ends it has it idle again.
use Rattle.fm_local.proofs.Words.{[], ◌∷◌, ◌≡◌, ◌≤◌, Answer, BaseCall, Bool, Completion, Data, Err, FilterId, Finished, FlowAction, FlowRecord}
use Rattle.fm_local.proofs.Words.{Instance, InstanceId, List, None, Ok, OpId, Option, Params, PostVerdict, PreVerdict, Result, Some, StackWorld}
use Rattle.fm_local.proofs.Words.{Status, VolumeId, WorkerId, World, false, length, slice_get, true, worker_at, ℕ, ◌==◌, ◌∙◌, IsOk, ap, find, inl}
use Rattle.fm_local.proofs.Words.{inr, map, option_map, refl, subst, sym, unwrap_or, cases_Bool, none-some, Registration, data_fits, call_fits, fit}
use Rattle.fm_local.proofs.Words.{params_of, Request, base_fits, post_returned_of, is_number, idle_by, Finishes, DrainsWhere, is_stopping_at}
use Rattle.fm_local.proofs.Words.{TakesDrain, BaseReturnsAt, PostReturnsAt, PreReturnsAt, PreReturnsOver, ReturnsFrom, Unless, after_begin}
use Rattle.fm_local.proofs.Words.{base_returned, begun_at, begun_on, state_at, Attaches, BaseReturns, Begins, Collects, Mounts, PostReturns}
use Rattle.fm_local.proofs.Words.{PreReturns, Registers, handle_at, stream_at, LosesLinks, row_at, UnloadReturnsAt, AsksDetach, AsksUnload}
use Rattle.fm_local.proofs.Words.{CompleteReturns, CompletesTeardown, EmptiesFilter, FinishesFilter, StartReturns, StartsTeardown, UnloadReturns}
use Rattle.fm_local.proofs.Words.{HandleId, told, is_idle, put, FileHandle, FileStream, Place, ArePlainFilters, filter_in, filter_in_row, StaysOut}
use Rattle.fm_world.specs.EarlyDrains.{DrainReturnsAt, DrainReturns}
use Rattle.fm_world.specs.Events.{SetsUpAt, pre_step, SetsUp}
use Rattle.fm_world.specs.Routines.{EntersRoutine, RoutineReturns, RoutineReturnsAt, file_by}
use Rattle.fm_world.specs.declared.file.FileObject.{FileObject}
use Rattle.fm_world.specs.Teardowns.{CompleteReturnsAt, QueryReturnsAt, StartReturnsAt, QueryReturns}
use Rattle.fm_filter.specs.Standing.{Shape, shape_of, standing_of}
use Rattle.fm_local.specs.Actions.{Makes}
use Rattle.fm_local.specs.Managers.{IsQuietIn}
use Rattle.fm_local.specs.Calls.{QueriesWith, SetsUpWith, UnloadsWith}
use Rattle.fm_local.specs.Places.{EndsFrom, IsIn, IsLent, IsOut, is_on}
use Rattle.fm_local.specs.Turns.{HandsBack}
use Rattle.fm_local.proofs.operations.Events.{by_links, placed}
use Rattle.fm_local.proofs.operations.Fits.{call_answered, fits_back}
use Rattle.fm_local.proofs.instances.Rest.{is_in}

-- ---- what stands

-- of the operation with a number, what it is on
abbrev on_shapes : OpId → Params → List Shape → Bool
on_shapes o p shapes = unwrap_or (option_map (λ s. fit s.operation s.path p) (find (λ s. s.number.0 == o.0) shapes)) false

on_records : (o : OpId) (p : Params) (rs : List FlowRecord)
    → unwrap_or (option_map (λ r. fit r.operation r.path p) (find (is_number o) rs)) false ≡ on_shapes o p (map shape_of rs)
on_records o p [] = refl
on_records o p (r ∷ rs) = elim (cases_Bool (is_number o r)) [ inl e ↦ rw e refl | inr e ↦ rw e (on_records o p rs) ]

on_still : (old before : World) (o : OpId) (p : Params) → standing_of before ≡ standing_of old → is_on before o p ≡ is_on old o p
on_still old before o p far = on_records o p before.flow.operations ∙ ap (λ s. on_shapes o p s.operations) far ∙ sym (on_records o p old.flow.operations)

module _ (k : WorkerId) where
  pub in_still : (a : Place) (old before : World) → standing_of before ≡ standing_of old → IsIn k a old → IsIn k a before
  in_still a old before far there = ap (λ s. worker_at s.workers k) far ∙ there

  pub still_out : (old new : World) → new.workers ≡ old.workers → StaysOut k old new
  still_out old new workers out = ap (λ ws. worker_at ws k) workers ∙ out

  pub same_out : (old new : World) → new ≡ old → StaysOut k old new
  same_out old new same = still_out old new (ap (λ (w : World). w.workers) same)

  left : (a : Place) (old new : World) → IsIn k a old → new.workers ≡ put old.workers k Place.Idle → IsOut k new
  left a old new there leaves = ap (λ ws. worker_at ws k) leaves ∙ placed old.workers k a Place.Idle there

  -- ---- an idle worker enters a callback

  entered : {T : Type 0} (old : World) (v : T) (new : World) (a : Place) (Event : Type 0)
      → Unless Status.WrongStep (is_idle (worker_at old.workers k)) (Ok v) old new Event
      → (Event → new.workers ≡ put old.workers k a) → IsIn k a new
  entered old v new a Event h goes = idle_by (λ result new. IsOk result → IsIn k a new) k (Ok v) old new Event h (λ why ok. cc)
      (λ idle event ok. is_in k old new a idle (goes event)) refl

  pub attached_in : (old : World) (f : FilterId) (v : VolumeId) (name altitude : List ℕ) (i : InstanceId) (born : World)
      → Attaches old k f v name altitude (Ok i) born → IsIn k (Place.Setup i) born
  unfolding Attaches
  attached_in old f v name altitude i born h = entered old i born (Place.Setup i) _ h (λ event. ap (λ (w : World). w.workers) event.1)

  module _ (old : World) (i : InstanceId) (new : World) where
    pub asked_in : AsksDetach old k i (Ok tt) new → IsIn k (Place.Query i) new
    unfolding AsksDetach
    asked_in h = entered old tt new (Place.Query i) _ h (λ event. ap (λ (w : World). w.workers) event.1)

    pub started_in : StartsTeardown old k i (Ok tt) new → IsIn k (Place.Start i) new
    unfolding StartsTeardown
    started_in h = entered old tt new (Place.Start i) _ h (λ event. ap (λ (w : World). w.workers) event.1)

    pub completing_in : CompletesTeardown old k i (Ok tt) new → IsIn k (Place.Complete i) new
    unfolding CompletesTeardown
    completing_in h = entered old tt new (Place.Complete i) _ h (λ event. ap (λ (w : World). w.workers) event.1)

    pub draining_in : (o : OpId) (completion : Completion) → TakesDrain old k i (Ok (Some (o, completion))) new → IsIn k (Place.EarlyDrain o i) new
    unfolding TakesDrain
    draining_in o completion h = entered old (Some (o, completion)) new (Place.EarlyDrain o i) _ h
        (λ event. by_stopping (is_stopping_at (row_at old.stack i)) event.1)
      where
        by_stopping : (b : Bool) → DrainsWhere b old k i (Some (o, completion)) new → new.workers ≡ put old.workers k (Place.EarlyDrain o i)
        by_stopping true d = ap (λ (w : World). w.workers) d.1
        by_stopping false d = absurd (none-some (o, completion) (sym d.0))

  -- a routine of an instance, on whatever file
  pub working_in : (old : World) (i : InstanceId) (h : Option HandleId) (new : World) → EntersRoutine old k i h (Ok tt) new
      → IsIn k (Place.Routine i (file_by old.files h)) new
  unfolding EntersRoutine
  working_in old i h new goes = entered old tt new (Place.Routine i (file_by old.files h)) _ goes (λ event. ap (λ (w : World). w.workers) event.1)

  pub unloading_in : (old : World) (f : FilterId) (asked : World) → AsksUnload old k f (Ok tt) asked → IsIn k (Place.Unload f) asked
  unfolding AsksUnload
  unloading_in old f asked h = entered old tt asked (Place.Unload f) _ h (λ event. ap (λ (w : World). w.workers) event.1)

  -- ---- and comes out of it, with the event that ends it

  comes_out : (a : Place) (old before new : World) (At : Option Place → Type 0) → standing_of before ≡ standing_of old → IsIn k a old
      → At (worker_at before.workers k)
      → (At (Some a) → new.workers ≡ put before.workers k Place.Idle) → IsOut k new
  comes_out a old before new At far there h leaves =
      let still = in_still a old before far there in
      left a before new still (leaves (subst At still h))

  module _ (old new : World) (ended : Result (Unit {0}) Status) where
    pub setup_out : (may : Bool → Type 0) (i : InstanceId) → IsIn k (Place.Setup i) old
        → EndsFrom old (λ before. SetsUpWith may k before ended new) → IsOut k new
    unfolding SetsUp
    setup_out may i there (before, far, (accepts, answer, sets)) =
        comes_out (Place.Setup i) old before new (SetsUpAt before k accepts ended new) far there sets
        (λ at. ap (λ (w : World). w.workers) at.4)

    pub query_out : (may : Bool → Type 0) (i : InstanceId) → IsIn k (Place.Query i) old
        → EndsFrom old (λ before. QueriesWith may k before ended new) → IsOut k new
    unfolding QueryReturns
    query_out may i there (before, far, (allows, answer, returns)) =
        comes_out (Place.Query i) old before new (QueryReturnsAt before k allows ended new) far there returns (λ at. ap (λ (w : World). w.workers) at.2)

    pub unload_out : (may : Bool → Type 0) (f : FilterId) → IsIn k (Place.Unload f) old → UnloadsWith may k old ended new → IsOut k new
    unfolding UnloadReturns
    unload_out may f there (allows, answer, returns) = comes_out (Place.Unload f) old old new (UnloadReturnsAt old k allows ended new)
        refl there returns (λ at. ap (λ (w : World). w.workers) at.1)

    pub routine_out : (i : InstanceId) (file : Option FileObject) → IsIn k (Place.Routine i file) old
        → EndsFrom old (λ before. RoutineReturns before k ended new) → IsOut k new
    unfolding RoutineReturns
    routine_out i file there (before, far, returns) =
        comes_out (Place.Routine i file) old before new (RoutineReturnsAt before k ended new) far there returns (λ at. ap (λ (w : World). w.workers) at.2)

    -- nor can a routine
    pub routine_ends : (i : InstanceId) (file : Option FileObject) → IsIn k (Place.Routine i file) old → RoutineReturns old k ended new
        → RoutineReturns old k (Ok tt) new
    unfolding RoutineReturns
    routine_ends i file there h = subst (λ (r : Result (Unit {0}) Status). RoutineReturnsAt old k r new (worker_at old.workers k))
        (subst (RoutineReturnsAt old k ended new) there h).0 h

    pub drained_out : (o : OpId) (i : InstanceId) → IsIn k (Place.EarlyDrain o i) old → EndsFrom old (λ before. DrainReturns before k ended new) → IsOut k new
    unfolding DrainReturns
    drained_out o i there (before, far, returns) =
        comes_out (Place.EarlyDrain o i) old before new (DrainReturnsAt before k ended new) far there returns (λ at. ap (λ (w : World). w.workers) at.2)

    -- the callbacks of a teardown can't be refused their end
    pub start_ends : (i : InstanceId) → IsIn k (Place.Start i) old → StartReturns old k ended new → StartReturns old k (Ok tt) new
    unfolding StartReturns
    start_ends i there h = subst (λ (r : Result (Unit {0}) Status). StartReturnsAt old k r new (worker_at old.workers k))
        (subst (StartReturnsAt old k ended new) there h).0 h

    pub complete_ends : (i : InstanceId) → IsIn k (Place.Complete i) old → CompleteReturns old k ended new → CompleteReturns old k (Ok tt) new
    unfolding CompleteReturns
    complete_ends i there h = subst (λ (r : Result (Unit {0}) Status). CompleteReturnsAt old k r new (worker_at old.workers k))
        (subst (CompleteReturnsAt old k ended new) there h).0 h

  pub start_out : (old new : World) (i : InstanceId) → IsIn k (Place.Start i) old → EndsFrom old (λ before. StartReturns before k (Ok tt) new) → IsOut k new
  unfolding StartReturns
  start_out old new i there (before, far, returns) = comes_out (Place.Start i) old before new (StartReturnsAt before k (Ok tt) new) far
      there returns (λ at. ap (λ (w : World). w.workers) at.2)

  pub complete_out : (old new : World) (i : InstanceId) → IsIn k (Place.Complete i) old
      → EndsFrom old (λ before. CompleteReturns before k (Ok tt) new) → IsOut k new
  unfolding CompleteReturns
  complete_out old new i there (before, far, returns) =
      comes_out (Place.Complete i) old before new (CompleteReturnsAt before k (Ok tt) new) far there returns (λ at. ap (λ (w : World). w.workers) at.4)

  -- ---- callbacks of an operation, and the call of its file system

  -- data that is the operation's is taken back
  back_fits : (w : World) (o : OpId) (lent back : Data) → is_on w o lent.received ≡ true → HandsBack lent back
      → told (λ r. data_fits r.operation r.path back) false o w.flow ≡ true
  back_fits w o lent back on hands = by_record (find (is_number o) w.flow.operations) on
    where
      by_record : (m : Option FlowRecord) → unwrap_or (option_map (λ r. fit r.operation r.path lent.received) m) false ≡ true
          → unwrap_or (option_map (λ r. data_fits r.operation r.path back) m) false ≡ true
      by_record None on = cc
      by_record (Some r) on = fits_back r.operation r.path lent.received back on hands.received hands.laws

  module _ (o : OpId) (i : InstanceId) (old before new : World) (far : standing_of before ≡ standing_of old) (ended : Result (Unit {0}) Status) where
    pub pre_out : (lent back : Data) (given : PreVerdict) → IsIn k (Place.Pre o i) old × (is_on old o lent.received ≡ true)
        → HandsBack lent back → PreReturns before k given back ended new → IsOut k new
    unfolding PreReturns
    pre_out lent back given (there, on) hands h =
        let fits = back_fits before o lent back (on_still old before o lent.received far ∙ on) hands in
        comes_out (Place.Pre o i) old before new (PreReturnsAt before k given back ended new) far there h (λ at.
        let over = subst (λ (b : Bool). Unless Status.BadRequest b ended before new ((ended ≡ Ok tt)
        × PreReturnsOver before k o (pre_step before k o i given back) (state_at before k o i given) new)) fits at in
        (by_links over.1.0 new over.1.2).workers ∙ ap (λ (w : World). w.workers) over.1.1.1)

    pub post_out : (lent back : Data) (given : PostVerdict) → IsIn k (Place.Post o i) old × (is_on old o lent.received ≡ true)
        → HandsBack lent back → PostReturns before k given (Some back) ended new
        → IsOut k new
    unfolding PostReturns
    post_out lent back given (there, on) hands h =
        let fits = back_fits before o lent back (on_still old before o lent.received far ∙ on) hands in
        comes_out (Place.Post o i) old before new (PostReturnsAt before k given (Some back) ended new) far there h (λ at.
        let over = subst (λ (b : Bool). Unless Status.BadRequest b ended before new ((ended ≡ Ok tt)
        × ReturnsFrom before k o (post_returned_of given back) before.contexts new)) fits at in
        ap (λ (w : World). w.workers) over.1.1)

    pub drain_out : (given : PostVerdict) → IsIn k (Place.Drain o i) old → PostReturns before k given None ended new → IsOut k new
    unfolding PostReturns
    drain_out given there h = comes_out (Place.Drain o i) old before new (PostReturnsAt before k given None ended new) far there h
        (λ at. ap (λ (w : World). w.workers) at.1.1)

  call_fits_back : (w : World) (o : OpId) (call : BaseCall) (answer : Answer)
      → told (λ r. call_fits r.operation r.volume r.path call) false o w.flow ≡ true → length answer.bytes ≤ 32768
      → told (base_fits call answer) false o w.flow ≡ true
  call_fits_back w o call answer fits size = by_record (find (is_number o) w.flow.operations) fits
    where
      by_record : (m : Option FlowRecord) → unwrap_or (option_map (λ r. call_fits r.operation r.volume r.path call) m) false ≡ true
          → unwrap_or (option_map (base_fits call answer) m) false ≡ true
      by_record None fits = cc
      by_record (Some r) fits = call_answered r call answer fits size

  pub call_out : (o : OpId) (old new : World) (call : BaseCall) (answer : Answer) (ended : Result (Unit {0}) Status)
      → IsIn k (Place.Base o) old × (told (λ r. call_fits r.operation r.volume r.path call) false o old.flow ≡ true)
      → length answer.bytes ≤ 32768 → BaseReturns old k call answer ended new → IsOut k new
  unfolding BaseReturns
  call_out o old new call answer ended (there, on) size h =
      let at : BaseReturnsAt old k call answer ended new (Some (Place.Base o)) = subst (BaseReturnsAt old k call answer ended new) there h in
      let over = subst (λ (b : Bool). Unless Status.BadRequest b ended old new ((ended ≡ Ok tt)
      × LosesLinks (base_returned old k o call answer) new)) (call_fits_back old o call answer on size) at in
      left (Place.Base o) old new there (by_links (base_returned old k o call answer) new over.1).workers

  -- whatever was next, the worker is idle once it is done
  module _ {F D : Type 0} (pre : F → Data → PreVerdict → Data → Type 0) (post : F → Data → Completion → PostVerdict → Data
      → Type 0) (drained : F → Completion → Type 0)
      (carries : D → BaseCall → Answer → D → Type 0) (filters : ℕ → Option F) where
    pub makes_out : (o : OpId) (said : Result FlowAction Status) (mid : World) (d : D) (new : World) (e : D) → IsLent k o said mid
        → Makes pre post drained carries filters k o said mid d new e → IsOut k new
    makes_out o (Ok (FlowAction.Pre i lent)) mid d new e is (verdict, back, result, may, hands, (before, far, event), same) =
        pre_out o i mid before new far result lent back verdict is hands event
    makes_out o (Ok (FlowAction.Base call)) mid d new e is (answer, result, carried, size, event) = call_out o mid new call answer result is size event
    makes_out o (Ok (FlowAction.Post i lent completion)) mid d new e is (
      verdict,
      back,
      result,
      may,
      hands,
      (before, far, event),
      same,
    ) = post_out o i mid before new far result lent back verdict is hands event
    makes_out o (Ok (FlowAction.Drain i completion)) mid d new e is (result, called, (before, far, event), same) =
        drain_out o i mid before new far result Finished is event
    makes_out o (Ok FlowAction.Moved) mid d new e is (same, bases) = same_out mid new same is
    makes_out o (Ok FlowAction.Held) mid d new e is (same, bases) = same_out mid new same is
    makes_out o (Ok FlowAction.Done) mid d new e is (same, bases) = same_out mid new same is
    makes_out o (Err why) mid d new e is (same, bases) = same_out mid new same is

  -- ---- events that move no worker

  pub registered_out : (old : World) (name : List ℕ) (registration : Registration) (result : Result FilterId Status) (new : World)
      → Registers old name registration result new → StaysOut k old new
  unfolding Registers
  registered_out old name registration result new h = still_out old new (ap (λ (w : World). w.workers) h.1)

  pub mounted_out : (old : World) (name : List ℕ) (result : Result VolumeId Status) (new : World) → Mounts old name result new → StaysOut k old new
  unfolding Mounts
  mounted_out old name result new h = still_out old new (ap (λ (w : World). w.workers) h.1)

  pub collected_out : (old : World) (o : OpId) (result : Result Answer Status) (new : World) → Collects old o result new → StaysOut k old new
  unfolding Collects
  collected_out old o result new h = still_out old new (ap (λ (w : World). w.workers) h.1)

  pub begun_stays : (w : World) (what : Request) → ((after_begin w what).workers ≡ w.workers) × ((after_begin w what).contexts ≡ w.contexts)
  begun_stays w (Request.List v) = (refl, refl)
  begun_stays w (Request.OnVolume v m n) = (refl, refl)
  begun_stays w (Request.Create v path mode) = (refl, refl)
  begun_stays w (Request.OnHandle h asked) = by_handle (handle_at h w.files)
    where
      by_stream : (x : FileHandle) (m : Option FileStream) → ((begun_on w h (params_of asked) x m).workers ≡ w.workers) × ((begun_on w h (params_of asked) x m).contexts ≡ w.contexts)
      by_stream x None = (refl, refl)
      by_stream x (Some y) = (refl, refl)

      by_handle : (m : Option FileHandle) → ((begun_at w h (params_of asked) m).workers ≡ w.workers) × ((begun_at w h (params_of asked) m).contexts ≡ w.contexts)
      by_handle None = (refl, refl)
      by_handle (Some x) = by_stream x (stream_at x.stream w.files)

  pub begun_out : (old : World) (what : Request) (result : Result OpId Status) (new : World) → Begins old what result new → StaysOut k old new
  unfolding Begins
  begun_out old what (Err why) new h = same_out old new h.1
  begun_out old what (Ok o) new h = still_out old new (ap (λ (w : World). w.workers) h.1.1 ∙ (begun_stays old what).0)

  pub finished_out : (old : World) (i : InstanceId) (result : Result (Unit {0}) Status) (new : World) → Finishes old i result new → StaysOut k old new
  unfolding Finishes
  finished_out old i (Err why) new h = same_out old new h.1
  finished_out old i (Ok done) new h = still_out old new (ap (λ (w : World). w.workers) h.1)

  pub emptied_out : (old : World) (f : FilterId) (result : Result (Unit {0}) Status) (new : World) → EmptiesFilter old f result new → StaysOut k old new
  unfolding EmptiesFilter
  emptied_out old f result new h = still_out old new (ap (λ (w : World). w.workers) h.2)

  pub ended_out : (old : World) (f : FilterId) (result : Result (Unit {0}) Status) (new : World) → FinishesFilter old f result new → StaysOut k old new
  unfolding FinishesFilter
  ended_out old f result new h = still_out old new (ap (λ (w : World). w.workers) h.1)

-- ---- where all filters are plain a callback calls nothing

pub quiet_in : {F : Type 0} (pre : F → Data → PreVerdict → Data → Type 0) (post : F → Data → Completion → PostVerdict → Data
    → Type 0) (is_quiet : F → Type 0) (filters : ℕ → Option F)
    (s : StackWorld) (i : InstanceId) → ArePlainFilters pre post is_quiet filters → IsQuietIn is_quiet (filter_in filters s i.0)
quiet_in {F} pre post is_quiet filters s i plain = by_row (slice_get s.instances i.0)
  where
    by_filter : (n : ℕ) (m : Option F) → filters n ≡ m → IsQuietIn is_quiet m
    by_filter n None at = tt
    by_filter n (Some f) at = (plain n f at).quiet

    by_row : (m : Option Instance) → IsQuietIn is_quiet (filter_in_row filters m)
    by_row None = tt
    by_row (Some row) = by_filter row.filter.0 (filters row.filter.0) refl
