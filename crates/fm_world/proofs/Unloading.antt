-- What the events by which a filter is unloaded do: it is asked or forced, its instances are stopped, and it is emptied and finished.
use Rattle.fm_world.proofs.Words.{goes_on_follows, goes_on_keeps, Follows, IsStack, Filter, length-updated, with_contexts, KeepsHands, OnlyHandOf, pairs_in}
use Rattle.fm_world.proofs.Words.{IsSound, HasWorkers, IsUnderWay, AsksUnload, EmptiesFilter, FinishesFilter, ForcesUnload, UnloadReturns, UnloadReturnsAt}
use Rattle.fm_world.proofs.Words.{CtxId, FilterId, Instance, Owner, StackWorld, Status, WorkerId, hand_of, is_attached, is_linked_of, updated, InstanceCallback, put}
use Rattle.fm_world.proofs.Words.{worker_at, World, Place, Bool, Err, List, None, Ok, Option, Result, Some, ap, arith, cond, inl, inr, length, map, option_map}
use Rattle.fm_world.proofs.Words.{refl, slice_get, subst, sym, true, ℕ, ◌&&◌, ◌∙◌, ◌≡◌, ◌≤◌, and_parts, cases_Bool, slice_get-map}
use Rattle.fm_stack.proofs.GoingOn.{StackGoesOn}
use Rattle.fm_stack.proofs.Unloads.{filter_emptied_goes_on, unloaded_goes_on, unloading_goes_on}
use Rattle.fm_stack.specs.Detaching.{stop_row}
use Rattle.fm_world.proofs.Asking.{left_asks}
use Rattle.fm_world.proofs.Belonging.{VolumesStay}
use Rattle.fm_world.proofs.Cases.{by_option}
use Rattle.fm_world.proofs.Detaching.{stop_goes}
use Rattle.fm_world.proofs.Events.{answers_by, idle_by}
use Rattle.fm_world.proofs.Keeps.{KeepsWorkers, follows_same, is_outside, outside_of, stack_changes, worker_moves}
use Rattle.fm_world.proofs.Losing.{sweeps_named, sweeps_owned}
use Rattle.fm_world.proofs.Owning.{goes_owned, goes_same, GoesOnAt, rows_left, rows_same, RowsGoOn, stack_owned}
use Rattle.fm_world.proofs.Staying.{Does, SlotsStay, lasts, makes, nothing, slots_swept, still, unchanged}
use Rattle.fm_world.proofs.Ties.{at_none, own_callback_of, workers_still}
use Rattle.fm_stack.specs.Unloading as filters
use Rattle.fm_stack.specs.declared.filter.FilterPhase.TheVariants as phase

-- ---- a worker goes into an unload callback, or comes out of it

-- filters go on, and instances perhaps
unload_moves : (w : World) (t : StackWorld) (k : WorkerId) (a b : Place) → worker_at w.workers k ≡ Some a → is_outside a ≡ true → is_outside b ≡ true
    → own_callback_of a ≡ None → own_callback_of b ≡ None → IsStack t → Follows w.stack t → KeepsWorkers w.stack t → IsUnderWay w
    → IsUnderWay (record w { stack = t; workers = put w.workers k b })
unload_moves w t k a b at from to off on stack follows numbers s =
    worker_moves w t k a b at (outside_of a from) (outside_of b to) stack follows
    (λ d i. numbers d i _ (workers_still d i w.workers k a b (slice_get w.stack.instances i) at (at_none a off) (at_none b on) (s.instance_callbacks d i))) s

pub ask_unload_does : (old : World) (k : WorkerId) (f : FilterId) (result : Result (Unit {0}) Status) (new : World)
    → AsksUnload old k f result new → Does old new
unfolding AsksUnload
ask_unload_does old k f result new h =
    idle_by (λ _ w. Does old w) k result old new _ h (λ why. nothing old) (λ at event.
    answers_by (λ _ w. Does old w) _ result old new _ event (λ why. nothing old) (λ done free e.
    makes old (record old { workers = put old.workers k (Place.Unload f) }) new e (still old.contexts) (λ s. record {
      under_way = unload_moves old old.stack k Place.Idle (Place.Unload f) at refl refl refl refl s.under_way.stack
          (follows_same old.stack) (λ d i n h. h) s.under_way;
      owned = goes_owned old k Place.Idle (Place.Unload f) old.stack at refl refl refl (rows_same old old.stack refl) (omega arith) (λ v h. h) s;
      begun = s.begun;
      filed = s.filed;
      links = s.links;
    })))

-- ---- instances are stopped

-- of both an instance that stays as it is, and one that is stopped
stop_by : (P : Instance → Type 0) (test : Instance → Bool) (row : Instance) → P row → (is_attached row.phase ≡ true → P (stop_row row))
    → P (filters.stop_where test row)
stop_by P test row stays stops = elim (cases_Bool (test row && is_attached row.phase)) [
  | inl is ↦ subst (λ b. P (cond b (stop_row row) row)) (sym is) (stops (and_parts (test row) (is_attached row.phase) is).1)
  | inr fails ↦ subst (λ b. P (cond b (stop_row row) row)) (sym fails) stays
]

stopped_workers : (d : InstanceCallback) (row : Instance) (n : ℕ) → is_attached row.phase ≡ true → HasWorkers d (Some row) n → HasWorkers d (Some (stop_row row)) n
stopped_workers d row n is h = grind arith

-- instances are stopped that pass a test, where they are attached
pub stops_workers : (test : Instance → Bool) (s t : StackWorld) → t.instances ≡ map (filters.stop_where test) s.instances → KeepsWorkers s t
stops_workers test s t is d i n h =
    subst (λ m. HasWorkers d m n) (sym (ap (λ (xs : List Instance). slice_get xs i) is ∙ slice_get-map (filters.stop_where test) s.instances i))
    (by_option (λ m. HasWorkers d m n → HasWorkers d (option_map (filters.stop_where test) m) n) (slice_get s.instances i) (λ none h. h)
    (λ row there h. stop_by (λ x. HasWorkers d (Some x) n) test row h (λ is. stopped_workers d row n is h)) h)

pub stops_go : (test : Instance → Bool) (w : World) (t : StackWorld) → t.instances ≡ map (filters.stop_where test) w.stack.instances → RowsGoOn w t
stops_go test w t is j row there = (
  filters.stop_where test row,
  ap (λ (xs : List Instance). slice_get xs j) is ∙ slice_get-map (filters.stop_where test) w.stack.instances j
      ∙ ap (option_map (filters.stop_where test)) there,
  stop_by (λ x. GoesOnAt w j row x) test row (goes_same w j row row refl refl) (λ is. stop_goes w j row),
)

more_filters : (s : StackWorld) (change : Filter → Filter) (f : FilterId) → length s.filters ≤ length (updated change s.filters f.0)
more_filters s change f = omega (arith, length-updated change s.filters f.0)

pub unload_does : (old : World) (k : WorkerId) (allow : Bool) (result : Result (Unit {0}) Status) (new : World)
    → UnloadReturns old k allow result new → Does old new
unfolding UnloadReturns filters.UnloadReturns
unload_does old k allow result new h = by_place (worker_at old.workers k) refl h
  where
    returns : (f : FilterId) (t : StackWorld) → worker_at old.workers k ≡ Some (Place.Unload f) → new.stack ≡ t
        → new ≡ record old { stack = new.stack; workers = put old.workers k Place.Idle }
        → RowsGoOn old t → length old.stack.filters ≤ length t.filters → VolumesStay old.stack t
        → (IsUnderWay old → IsUnderWay (record old { stack = t; workers = put old.workers k Place.Idle })) → Does old new
    returns f t at is e on filters volumes keeps =
        makes old (record old { stack = t; workers = put old.workers k Place.Idle }) new (e
        ∙ ap (λ x. record old { stack = x; workers = put old.workers k Place.Idle }) is)
        (still old.contexts) (λ s. record {
          under_way = keeps s.under_way;
          owned = goes_owned old k (Place.Unload f) Place.Idle t at refl refl refl on filters volumes s;
          begun = left_asks old.stack t old.flow (rows_left old t on) s.begun;
          filed = s.filed;
          links = s.links;
        })

    by_result : (f : FilterId) (result : Result (Unit {0}) Status) → worker_at old.workers k ≡ Some (Place.Unload f)
        → UnloadReturnsAt old k allow result new (Some (Place.Unload f)) → Does old new
    by_result f (Err why) at h = returns f old.stack at h.0.1 h.1 (rows_same old old.stack refl) (omega arith) (λ v h. h) (λ s.
        unload_moves old old.stack k (Place.Unload f) Place.Idle at refl refl refl refl s.stack (follows_same old.stack) (λ d i n h. h) s)
    by_result f (Ok done) at h =
        let t = filters.unloading old.stack f in
        let goes = unloading_goes_on old.stack f in
        returns f t at h.0.1 h.1 (stops_go (filters.is_of f) old t refl) (more_filters old.stack (filters.filter_in phase.Unloading) f) (λ v h. h)
        (λ s. unload_moves old t k (Place.Unload f) Place.Idle at refl refl refl refl (goes_on_keeps old.stack t goes s.stack)
        (goes_on_follows old.stack t goes)
        (stops_workers (filters.is_of f) old.stack t refl) s)

    by_place : (m : Option Place) → worker_at old.workers k ≡ m → UnloadReturnsAt old k allow result new m → Does old new
    by_place (Some (Place.Unload f)) at h = by_result f result at h
    by_place _ at h = unchanged old new h.1

-- ---- nobody is asked

-- filters, volumes and instances go on; contexts and workers stay
goes_sound : (old : World) (t : StackWorld) → StackGoesOn old.stack t → KeepsWorkers old.stack t → RowsGoOn old t → length old.stack.filters ≤ length t.filters
    → VolumesStay old.stack t → IsSound old → IsSound (record old { stack = t })
goes_sound old t goes numbers on filters volumes s = record {
  under_way = stack_changes old t (goes_on_keeps old.stack t goes s.under_way.stack) (goes_on_follows old.stack t goes) numbers s.under_way;
  owned = stack_owned old t on filters volumes s.owned;
  begun = left_asks old.stack t old.flow (rows_left old t on) s.begun;
  filed = s.filed;
  links = s.links;
}

pub goes_does : (old new : World) (t : StackWorld) → new.stack ≡ t → new ≡ record old { stack = new.stack } → StackGoesOn old.stack t
    → KeepsWorkers old.stack t → RowsGoOn old t
    → length old.stack.filters ≤ length t.filters → VolumesStay old.stack t → Does old new
goes_does old new t is e goes numbers on filters volumes =
    makes old (record old { stack = t }) new (e ∙ ap (λ x. record old { stack = x }) is) (still old.contexts) (goes_sound old t goes numbers on filters volumes)

pub force_unload_does : (old : World) (f : FilterId) (result : Result (Unit {0}) Status) (new : World) → ForcesUnload old f result new → Does old new
unfolding ForcesUnload filters.ForcesUnload
force_unload_does old f (Err why) new h = unchanged old new (h.1 ∙ ap (λ x. record old { stack = x }) h.0.1)
force_unload_does old f (Ok done) new h =
    let t = filters.unloading old.stack f in
    goes_does old new t h.0.1 h.1 (unloading_goes_on old.stack f) (stops_workers (filters.is_of f) old.stack t refl) (stops_go (filters.is_of f) old t refl)
    (more_filters old.stack (filters.filter_in phase.Unloading) f) (λ v h. h)

-- ---- its end

-- the filter's volume contexts lose their links
pub empty_filter_does : (old : World) (f : FilterId) (result : Result (Unit {0}) Status) (new : World) → EmptiesFilter old f result new
    → Does old new × KeepsHands old new
unfolding EmptiesFilter filters.EmptiesFilter
empty_filter_does old f (Err why) new h =
    let same = h.2 ∙ ap (λ x. record old { stack = x; contexts = new.contexts }) h.0.1 ∙ ap (λ c. record old { contexts = c }) h.1 in
    (unchanged old new same, λ k. subst (λ w. OnlyHandOf k old w) (sym same) refl)
empty_filter_does old f (Ok done) new h =
    let t = filters.filter_emptied old.stack f in
    let mid = with_contexts old new.contexts in
    let sweeps = h.1 in (
      record {
        sound = λ s.
            let swept : IsSound mid =
            record {
              under_way = s.under_way;
              owned = sweeps_owned old (is_linked_of (Owner.Filter f)) new.contexts sweeps s.owned;
              begun = s.begun;
              filed = s.filed;
              links = sweeps_named old (is_linked_of (Owner.Filter f)) new.contexts sweeps s.links;
            } in
            subst IsSound (sym (h.2 ∙ ap (λ x. record old { stack = x; contexts = new.contexts }) h.0.1))
            (goes_sound mid t (filter_emptied_goes_on old.stack f) (λ d i n h. h) (rows_same mid t refl)
            (more_filters old.stack (filters.filter_in phase.Emptied) f) (λ v h. h) swept);
        lasts = λ s. lasts old new new.contexts refl (
          subst (SlotsStay old.contexts.slots) (sym sweeps.slots)
              (slots_swept _ old.contexts.slots),
          sweeps.cleaning,
        );
      },
      λ k. omega (arith, ap pairs_in sweeps.hands, ap (λ (hands : List (List CtxId)). length (hand_of hands k)) sweeps.hands),
    )

pub finish_filter_does : (old : World) (f : FilterId) (result : Result (Unit {0}) Status) (new : World) → FinishesFilter old f result new → Does old new
unfolding FinishesFilter filters.FinishesFilter
finish_filter_does old f (Err why) new h = unchanged old new (h.1 ∙ ap (λ x. record old { stack = x }) h.0.1)
finish_filter_does old f (Ok done) new h =
    let t = filters.unloaded old.stack f in
    goes_does old new t h.0.1 h.1 (unloaded_goes_on old.stack f) (λ d i n h. h) (rows_same old t refl)
    (more_filters old.stack (filters.filter_in phase.NotLoaded) f) (λ v h. h)
