-- The events by which instances are detached and filters unloaded: the refusals of each, in their order, and what it makes of the World. A refusal changes
-- nothing, but for the end of a callback, which returns whatever the answer: what its worker still holds leaks.
-- An event that a worker makes is refused first of all, with WrongStep, where the worker isn't in the right place.
use Rattle.std.specs.Prelude.{◌≡◌, ◌+◌, ℕ, Bool, Option, Some, Result, Ok, Err}
use Rattle.fm_world.specs.Words.{FilterId, InstanceId, WorkerId, Status, first_of, Answers, Context, ContextTable, Leaves, Sweeps, is_linked_of, open_of, in_flight}
use Rattle.fm_types.specs.declared.status.Status.TheVariants as status
use Rattle.fm_ctx.specs.declared.owner.Owner.TheVariants as owner
use Rattle.fm_operations.specs.Initiators.{begun_by}
use Rattle.fm_stack.specs.Detaching as stack
use Rattle.fm_stack.specs.Unloading as filters
use Rattle.fm_world.specs.declared.place.Place.{Place}
use Rattle.fm_world.specs.declared.place.Place.TheVariants as place
use Rattle.fm_world.specs.World.{World, carries}
use Rattle.fm_world.specs.Workers.{worker_at, put, is_idle, is_queried, routines_at, is_asked_to_unload, after_entering}
use Rattle.fm_world.specs.Events.{Unless}

-- ---- an instance is detached

-- by an idle worker, which then is in the query callback
unfoldable pub AsksDetach : World → WorkerId → InstanceId → Result (Unit {0}) Status → World → Type 0
AsksDetach old k i result new =
    Unless status.WrongStep (is_idle (worker_at old.workers k)) result old new
    (Answers (first_of (stack.ask_detach_refusals old.stack i (is_queried i old.workers))) result old new
    (λ done. new ≡ record old { workers = put old.workers k (place.Query i) }))

-- by a worker in a query callback, which returns whatever the answer
abbrev pub QueryReturnsAt : World → WorkerId → Bool → Result (Unit {0}) Status → World → Option Place → Type 0
QueryReturnsAt old k allow result new (Some (place.Query i)) =
    stack.QueryReturns old.stack i allow result new.stack × Leaves (carries old) old.contexts new.contexts k.0
    × (new ≡ record old { stack = new.stack; workers = put old.workers k place.Idle; contexts = new.contexts })
QueryReturnsAt old k allow result new _ = (result ≡ Err status.WrongStep) × (new ≡ old)

unfoldable pub QueryReturns : World → WorkerId → Bool → Result (Unit {0}) Status → World → Type 0
QueryReturns old k allow result new = QueryReturnsAt old k allow result new (worker_at old.workers k)

-- by an idle worker, which then is in the teardown-start callback
unfoldable pub StartsTeardown : World → WorkerId → InstanceId → Result (Unit {0}) Status → World → Type 0
StartsTeardown old k i result new =
    Unless status.WrongStep (is_idle (worker_at old.workers k)) result old new
    (stack.StartsTeardown old.stack i result new.stack
    × (new ≡ record old { stack = new.stack; workers = after_entering old.workers k (place.Start i) result }))

abbrev pub StartReturnsAt : World → WorkerId → Result (Unit {0}) Status → World → Option Place → Type 0
StartReturnsAt old k result new (Some (place.Start i)) =
    (result ≡ Ok tt) × Leaves (carries old) old.contexts new.contexts k.0
    × (new ≡ record old { stack = stack.started old.stack i; workers = put old.workers k place.Idle; contexts = new.contexts })
StartReturnsAt old k result new _ = (result ≡ Err status.WrongStep) × (new ≡ old)

unfoldable pub StartReturns : World → WorkerId → Result (Unit {0}) Status → World → Type 0
StartReturns old k result new = StartReturnsAt old k result new (worker_at old.workers k)

-- what a teardown waits for: operations in flight at the instance, those that its filter asked for itself, and its filter's routines
abbrev pub unfinished_at : World → InstanceId → ℕ
unfinished_at w i = in_flight i.0 w.flow + begun_by i.0 w.flow + routines_at i w.workers

-- by an idle worker, which then is in the teardown-complete callback, where nothing is left to wait for
unfoldable pub CompletesTeardown : World → WorkerId → InstanceId → Result (Unit {0}) Status → World → Type 0
CompletesTeardown old k i result new =
    Unless status.WrongStep (is_idle (worker_at old.workers k)) result old new
    (stack.CompletesTeardown old.stack i (is_queried i old.workers) (unfinished_at old i) result new.stack
    × (new ≡ record old { stack = new.stack; workers = after_entering old.workers k (place.Complete i) result }))

-- the instance's contexts lose their links
abbrev pub CompleteReturnsAt : World → WorkerId → Result (Unit {0}) Status → World → Option Place → Type 0
CompleteReturnsAt old k result new (Some (place.Complete i)) =
    (result ≡ Ok tt) × (left : ContextTable) × Leaves (carries old) old.contexts left k.0
    × Sweeps (carries old) (is_linked_of (owner.Instance i)) left new.contexts
    × (new ≡ record old { stack = stack.emptying old.stack i; workers = put old.workers k place.Idle; contexts = new.contexts })
CompleteReturnsAt old k result new _ = (result ≡ Err status.WrongStep) × (new ≡ old)

unfoldable pub CompleteReturns : World → WorkerId → Result (Unit {0}) Status → World → Type 0
CompleteReturns old k result new = CompleteReturnsAt old k result new (worker_at old.workers k)

-- ---- a filter is unloaded

-- by an idle worker, which then is in the unload callback
unfoldable pub AsksUnload : World → WorkerId → FilterId → Result (Unit {0}) Status → World → Type 0
AsksUnload old k f result new =
    Unless status.WrongStep (is_idle (worker_at old.workers k)) result old new
    (Answers (first_of (filters.ask_unload_refusals old.stack f (is_asked_to_unload f old.workers))) result old new
    (λ done. new ≡ record old { workers = put old.workers k (place.Unload f) }))

-- by a worker in an unload callback, which returns whatever the answer; it is no callback of an instance, so its worker holds nothing
abbrev pub UnloadReturnsAt : World → WorkerId → Bool → Result (Unit {0}) Status → World → Option Place → Type 0
UnloadReturnsAt old k allow result new (Some (place.Unload f)) =
    filters.UnloadReturns old.stack f allow result new.stack × (new ≡ record old { stack = new.stack; workers = put old.workers k place.Idle })
UnloadReturnsAt old k allow result new _ = (result ≡ Err status.WrongStep) × (new ≡ old)

unfoldable pub UnloadReturns : World → WorkerId → Bool → Result (Unit {0}) Status → World → Type 0
UnloadReturns old k allow result new = UnloadReturnsAt old k allow result new (worker_at old.workers k)

unfoldable pub ForcesUnload : World → FilterId → Result (Unit {0}) Status → World → Type 0
ForcesUnload old f result new = filters.ForcesUnload old.stack f result new.stack × (new ≡ record old { stack = new.stack })

-- the contexts that pass a test lose their links, where the event succeeds
abbrev pub SweepsWhere : Result (Unit {0}) Status → (Context → Bool) → World → ContextTable → Type 0
SweepsWhere (Ok done) test w after = Sweeps (carries w) test w.contexts after
SweepsWhere (Err status) test w after = after ≡ w.contexts

-- the filter's volume contexts lose their links
unfoldable pub EmptiesFilter : World → FilterId → Result (Unit {0}) Status → World → Type 0
EmptiesFilter old f result new =
    filters.EmptiesFilter old.stack f (is_asked_to_unload f old.workers) result new.stack × SweepsWhere result (is_linked_of (owner.Filter f)) old new.contexts
    × (new ≡ record old { stack = new.stack; contexts = new.contexts })

unfoldable pub FinishesFilter : World → FilterId → Result (Unit {0}) Status → World → Type 0
FinishesFilter old f result new =
    filters.FinishesFilter old.stack f (open_of old.contexts.slots (owner.Filter f)) result new.stack × (new ≡ record old { stack = new.stack })
