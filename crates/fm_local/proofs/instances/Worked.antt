-- A manager that was ready is ready again behind a work item: nothing is under way that the item could resume, and it changes contexts alone.
use Rattle.fm_filter.specs.declared.minifilter.Minifilter as filter
use Rattle.fm_base.specs.declared.base.Base as base
use Rattle.fm_local.proofs.Words.{[], ◌&&◌, ◌∷◌, ◌≡◌, ◌∙◌, InstanceId, List, Ok, OpId, Option, Parts, Place, Some, WorkerId, World, ap, Err, Status, map}
use Rattle.fm_local.proofs.Words.{false, false≢true, find, is_number, option_map, unwrap_or}
use Rattle.fm_local.proofs.Words.{put, refl, slice_get, subst, sym, true, worker_at, ℕ, ArePlainFilters, Filters, HandleId, IsAtRest, IsReady, NoneStops, Tidies, numbered}
use Rattle.fm_filter.specs.Standing.{shape_of, standing_of}
use Rattle.fm_operations.specs.Record.{FlowRecord}
use Rattle.fm_operations.specs.Table.{FlowTable, told}
use Rattle.fm_world.specs.Routines.{EntersRoutine, RoutineReturns, RoutineReturnsAt, file_by}
use Rattle.fm_local.specs.Places.{EndsFrom, IsIn, WorksOnce}
use Rattle.fm_local.specs.declared.local_port.Work.{Work}
use Rattle.fm_local.specs.Quietly.{LeavesReady}
use Rattle.std.proofs.lemmas.Bool.{and_parts}
use Rattle.std.proofs.lemmas.List.Elements.{All-nil}
use Rattle.fm_local.specs.Waits.{IsEnded, Wait, are_apart, are_loose, go_on_once, is_among, is_loose}
use Rattle.fm_local.proofs.instances.Ready.{ready_again, settled_state}
use Rattle.fm_local.proofs.instances.Rest.{calm_same, happened, work_refused}
use Rattle.fm_local.proofs.instances.Tidiness.{set_back}
use Rattle.fm_local.proofs.queues.Places.{in_still, working_in}

-- no operation has a shape where none had
none_shaped : (rs : List FlowRecord) → map shape_of rs ≡ [] → rs ≡ []
none_shaped [] same = refl
none_shaped (r ∷ rs) same = cc

-- and none is to go on
none_loose : (t : FlowTable) → t.operations ≡ [] → (o : OpId) → told is_loose false o t ≡ false
none_loose t none o = ap (λ (rs : List FlowRecord). unwrap_or (option_map is_loose (find (is_number o) rs)) false) none

none_goes_on : (t : FlowTable) → t.operations ≡ [] → (os : List OpId) → go_on_once t os ≡ true → os ≡ []
none_goes_on t none [] goes = refl
none_goes_on t none (o ∷ os) goes = absurd (false≢true (sym (none_loose t none o) ∙ (and_parts (told is_loose false o t) (are_loose t os)
    (and_parts (told is_loose false o t && are_loose t os) (are_apart (o ∷ os)) goes).0).0))

-- the routine in which an item ran has ended
pub once_ends : (k : WorkerId) (works : Work → Work → Type 0) (old new : Work) → WorksOnce k works old new
    → EndsFrom old.state (λ before. RoutineReturns before k (Ok tt) new.state)
once_ends k works old new (worked, ran, far, returns, same) = (worked.state, far, returns)

module _ (k : WorkerId) (old : World) (rests : IsAtRest k old) (i : InstanceId) (h : Option HandleId) where
  -- what is left of a ready manager's state behind an item
  pub record IsWorked (new : World) : Type 0 where
    pub stack : new.stack ≡ old.stack
    pub workers : new.workers ≡ old.workers
    pub operations : new.flow.operations ≡ []

  entered : (began : World) → EntersRoutine old k i h (Ok tt) began → began ≡ record old { workers = put old.workers k (Place.Routine i (file_by old.files h)) }
  unfolding EntersRoutine
  entered began goes = (happened old k tt began _ goes).1

  pub worked : (began back : World) → EntersRoutine old k i h (Ok tt) began → EndsFrom began (λ before. RoutineReturns before k (Ok tt) back) → IsWorked back
  unfolding RoutineReturns
  worked began back goes (done, far, returns) =
      let place = Place.Routine i (file_by old.files h) in
      let still = in_still k place began done far (working_in k old i h began goes) in
      let event : RoutineReturnsAt done k (Ok tt) back (Some place) = subst (RoutineReturnsAt done k (Ok tt) back) still returns in
      let is = entered began goes in
      record {
        stack = ap (λ (w : World). w.stack) event.2 ∙ ap (λ s. s.stack) far ∙ ap (λ (w : World). w.stack) is;
        workers = ap (λ (w : World). w.workers) event.2 ∙ ap (λ s. put s.workers k Place.Idle) far ∙ ap (λ (w : World). put w.workers k Place.Idle) is
            ∙ set_back old.workers k.0 Place.Idle place rests.idle;
        operations = none_shaped back.flow.operations (ap (λ (w : World). map shape_of w.flow.operations) event.2 ∙ ap (λ s. s.operations) far
            ∙ ap (λ (w : World). map shape_of w.flow.operations) is ∙ ap (map shape_of) rests.operations);
      }

  pub rests_still : (back new : World) → IsWorked back → Tidies back new → IsAtRest k new
  rests_still back new is tidies =
      let same = tidies.workers ∙ is.workers in
      record {
        operations = ap (λ f. f.operations) tidies.flow ∙ is.operations;
        idle = ap (λ ws. worker_at ws k) same ∙ rests.idle;
        all = λ j a at. rests.all j a (ap (λ ws. slice_get ws j) (sym same) ∙ at);
      }

-- nothing waits where nothing was resumed
pub waits_at_rest : (t : FlowTable) (os : List OpId) → os ≡ [] → Wait t os []
waits_at_rest t os none = subst (λ (os : List OpId). Wait t os []) (sym none) (record {
  going = refl;
  done = All-nil (IsEnded t);
  others = All-nil (λ (o : OpId). is_among o [] ≡ false);
  once = refl;
})

-- and nothing was resumed where nothing is under way
pub resumed_none : (t : FlowTable) (os : List OpId) → t.operations ≡ [] → Wait t os [] → os ≡ []
resumed_none t os none waits = none_goes_on t none os waits.going

module _ {F B : Type 0} {own : filter.Ghosts F} {below : base.Ghosts B} {k : WorkerId} (old : Parts F B) (ready : IsReady own below k old) where
  pub refused_ready : (i : InstanceId) (h : Option HandleId) (why : Status) (refused : World) → EntersRoutine old.work.state k i h (Err why) refused
      → LeavesReady own below k old (record old { work = record old.work { state = refused } })
  refused_ready i h why refused goes =
      let new = record old { work = record old.work { state = refused } } in
      ready_again old new ready (settled_state old new refl ready.settled) (calm_same old.work.state refused (work_refused old.work.state k i h why refused goes))

  pub worked_ready : (i : InstanceId) (h : Option HandleId) (back new : Parts F B) → IsWorked k old.work.state ready.rests i h back.work.state
      → Tidies back.work.state new.work.state → new.bases ≡ old.bases → new.filters ≡ old.filters → new.work.resumed.items.items ≡ []
      → LeavesReady own below k old new
  worked_ready i h back new is tidies bases filters settled = record {
    settles = record { bases = bases; filters = filters; settled = settled };
    ready = record {
      plain = subst (λ (fs : Filters F). ArePlainFilters own.pre_may own.post_may own.is_quiet (numbered fs)) (sym filters) ready.plain;
      rests = rests_still k old.work.state ready.rests i h back.work.state new.work.state is tidies;
      calm = subst NoneStops (sym (tidies.stack ∙ is.stack)) ready.calm;
      settled = settled;
    };
  }
