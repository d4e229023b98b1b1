-- How a filter is unloaded: it is asked or forced, its instances are stopped, and once they are detached it is emptied and finished. Whether a callback
-- of it runs and how many of its contexts are left, the caller says.
use Rattle.std.specs.Prelude.{◌≡◌, ℕ, List, [], ◌∷◌, Bool, true, false, not, cond, ◌&&◌, ◌||◌, ◌==◌, nat_le, nat_lt, length, map, slice_get}
use Rattle.std.specs.Prelude.{Option, Some, None, Result, count_by}
use Rattle.fm_types.specs.declared.ids.FilterId.{FilterId}
use Rattle.fm_types.specs.declared.status.Status.{Status}
use Rattle.fm_types.specs.declared.status.Status.TheVariants as status
use Rattle.fm_types.specs.Refusals.{first_of, Answers}
use Rattle.fm_types.specs.Lists.{updated}
use Rattle.fm_stack.specs.declared.filter.Filter.{Filter}
use Rattle.fm_stack.specs.declared.filter.FilterPhase.{FilterPhase}
use Rattle.fm_stack.specs.declared.filter.FilterPhase.TheVariants as filter_phase
use Rattle.fm_stack.specs.declared.instance.Instance.{Instance}
use Rattle.fm_stack.specs.StackWorld.{StackWorld}
use Rattle.fm_stack.specs.Instances.{is_attached, is_detached}
use Rattle.fm_stack.specs.Events.{is_loaded}
use Rattle.fm_stack.specs.Detaching.{stop_row}

-- ---- rows ----

abbrev pub filter_in : FilterPhase → Filter → Filter
filter_in p filter = record filter { phase = p }

abbrev pub is_of : FilterId → Instance → Bool
is_of f row = row.filter.0 == f.0

-- an attached instance that passes the test is stopped; any other stays as it is
abbrev pub stop_where : (Instance → Bool) → Instance → Instance
stop_where test row = cond (test row && is_attached row.phase) (stop_row row) row

-- an instance of the filter that isn't detached
abbrev pub is_left_of : FilterId → Instance → Bool
is_left_of f row = is_of f row && not (is_detached row.phase)

-- ---- asking ----

abbrev pub has_unload : Option Filter → Bool
has_unload None = false
has_unload (Some filter) = filter.registration.unload

-- is_asked: an unload callback of it runs
abbrev pub ask_unload_refusals : StackWorld → FilterId → Bool → List (Bool × Status)
ask_unload_refusals s f is_asked =
    (nat_le (length s.filters) f.0, status.NoFilter)
    ∷ (not (is_loaded (slice_get s.filters f.0)), status.NotLoaded)
    ∷ (is_asked, status.DeletingObject)
    ∷ (not (has_unload (slice_get s.filters f.0)), status.DoNotDetach)
    ∷ []

abbrev pub unload_refusals : StackWorld → FilterId → Bool → List (Bool × Status)
unload_refusals s f allow =
    (not allow, status.DoNotDetach) ∷ (not (is_loaded (slice_get s.filters f.0)), status.NotLoaded) ∷ []

-- the filter is being unloaded, and its attached instances are stopped
abbrev pub unloading : StackWorld → FilterId → StackWorld
unloading s f =
    record s {
      filters = updated (filter_in filter_phase.Unloading) s.filters f.0;
      instances = map (stop_where (is_of f)) s.instances;
    }

unfoldable pub UnloadReturns : StackWorld → FilterId → Bool → Result (Unit {0}) Status → StackWorld → Type 0
UnloadReturns old f allow result new = Answers (first_of (unload_refusals old f allow)) result old new (λ _. new ≡ unloading old f)

-- ---- nobody is asked ----

abbrev pub force_unload_refusals : StackWorld → FilterId → List (Bool × Status)
force_unload_refusals s f =
    (nat_le (length s.filters) f.0, status.NoFilter) ∷ (not (is_loaded (slice_get s.filters f.0)), status.NotLoaded) ∷ []

unfoldable pub ForcesUnload : StackWorld → FilterId → Result (Unit {0}) Status → StackWorld → Type 0
ForcesUnload old f result new = Answers (first_of (force_unload_refusals old f)) result old new (λ _. new ≡ unloading old f)

-- ---- its end ----

-- being unloaded, perhaps emptied already
abbrev pub is_unloading_phase : FilterPhase → Bool
is_unloading_phase filter_phase.Unloading = true
is_unloading_phase filter_phase.Emptied = true
is_unloading_phase _ = false

abbrev pub is_filter_emptied_phase : FilterPhase → Bool
is_filter_emptied_phase filter_phase.Emptied = true
is_filter_emptied_phase _ = false

abbrev pub is_unloading : Option Filter → Bool
is_unloading None = false
is_unloading (Some filter) = is_unloading_phase filter.phase

abbrev pub is_filter_emptied : Option Filter → Bool
is_filter_emptied None = false
is_filter_emptied (Some filter) = is_filter_emptied_phase filter.phase

-- is_asked: an unload callback of it runs; Busy says how many of its instances aren't detached
abbrev pub empty_filter_refusals : StackWorld → FilterId → Bool → List (Bool × Status)
empty_filter_refusals s f is_asked =
    (nat_le (length s.filters) f.0, status.NoFilter)
    ∷ (not (is_unloading (slice_get s.filters f.0)) || is_asked, status.WrongStep)
    ∷ (nat_lt 0 (count_by (is_left_of f) s.instances), status.Busy (count_by (is_left_of f) s.instances))
    ∷ []

abbrev pub filter_emptied : StackWorld → FilterId → StackWorld
filter_emptied s f = record s { filters = updated (filter_in filter_phase.Emptied) s.filters f.0 }

unfoldable pub EmptiesFilter : StackWorld → FilterId → Bool → Result (Unit {0}) Status → StackWorld → Type 0
EmptiesFilter old f is_asked result new = Answers (first_of (empty_filter_refusals old f is_asked)) result old new (λ _. new ≡ filter_emptied old f)

-- Busy says how many of its contexts are left
abbrev pub finish_filter_refusals : StackWorld → FilterId → ℕ → List (Bool × Status)
finish_filter_refusals s f contexts =
    (nat_le (length s.filters) f.0, status.NoFilter)
    ∷ (not (is_filter_emptied (slice_get s.filters f.0)), status.WrongStep)
    ∷ (nat_lt 0 contexts, status.Busy contexts)
    ∷ []

abbrev pub unloaded : StackWorld → FilterId → StackWorld
unloaded s f = record s { filters = updated (filter_in filter_phase.NotLoaded) s.filters f.0 }

unfoldable pub FinishesFilter : StackWorld → FilterId → ℕ → Result (Unit {0}) Status → StackWorld → Type 0
FinishesFilter old f contexts result new = Answers (first_of (finish_filter_refusals old f contexts)) result old new (λ _. new ≡ unloaded old f)
