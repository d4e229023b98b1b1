-- What the events of a call leave where nothing is under way: it is so again, and no instance is being torn down but those that the call says.
use Rattle.fm_local.proofs.Words.{[], ◌∷◌, ◌≡◌, ◌⊎◌, Bool, Err, FilterId, Instance, InstanceId, List, Ok, Result, Some, StackWorld, Status, VolumeId}
use Rattle.fm_local.proofs.Words.{WorkerId, World, false, slice_get, suc, true, worker_at, zero, ℕ, ◌++◌, ◌||◌, ◌∙◌, ap, ap₂, arith, count_by, inl}
use Rattle.fm_local.proofs.Words.{inr, refl, subst, sym, list_any, Registration, Finishes, Unless, is_stopping_phase, is_stopping_row, Attaches}
use Rattle.fm_local.proofs.Words.{Mounts, Registers, AsksDetach, AsksUnload, CompletesTeardown, updated, is_idle, put, Place, IsAtRest, NoneStops}
use Rattle.fm_local.proofs.Words.{HandleId, Option, Tidies}
use Rattle.fm_world.specs.Routines.{EntersRoutine}
use Rattle.fm_stack.specs.Detaching as stack
use Rattle.fm_stack.specs.Events as setting
use Rattle.fm_world.proofs.Cases.{by_option, none_any}
use Rattle.fm_world.specs.Events.{SetsUpAt, SetsUp}
use Rattle.fm_local.specs.Quietly.{SetUpQuietly}
use Rattle.fm_ctx.specs.Table.{ContextTable}
use Rattle.fm_local.proofs.operations.Events.{placed}
use Rattle.fm_local.proofs.instances.Tidiness.{set_back}

-- ---- instances

abbrev pub stops : StackWorld → ℕ → Bool
stops s j = is_stopping_row (slice_get s.instances j)

pub none_stops : (s : StackWorld) → NoneStops s → (j : ℕ) → stops s j ≡ false
none_stops s calm j = by_option (λ m. is_stopping_row m ≡ false) (slice_get s.instances j) (λ none. refl) (λ row at. calm j row at)

pub none_stops_again : (s : StackWorld) → ((j : ℕ) → stops s j ≡ false) → NoneStops s
none_stops_again s none j row at = ap is_stopping_row (sym at) ∙ none j

-- a change of one row by which none comes to be stopping
pub stays_fewer : (g : Instance → Instance) → ((row : Instance) → is_stopping_phase (g row).phase ≡ true
    → is_stopping_phase row.phase ≡ true) → (rows : List Instance) (i j : ℕ)
    → is_stopping_row (slice_get (updated g rows i) j) ≡ true → is_stopping_row (slice_get rows j) ≡ true
stays_fewer g keeps [] i j h = h
stays_fewer g keeps (x ∷ rows) zero zero h = keeps x h
stays_fewer g keeps (x ∷ rows) zero (suc j) h = h
stays_fewer g keeps (x ∷ rows) (suc i) zero h = h
stays_fewer g keeps (x ∷ rows) (suc i) (suc j) h = stays_fewer g keeps rows i j h

-- or the changed one alone
pub others_stay : (g : Instance → Instance) (rows : List Instance) (i j : ℕ) → is_stopping_row (slice_get (updated g rows i) j) ≡ true
    → (is_stopping_row (slice_get rows j) ≡ true) ⊎ (j ≡ i)
others_stay g [] i j h = inl h
others_stay g (x ∷ rows) zero zero h = inr refl
others_stay g (x ∷ rows) zero (suc j) h = inl h
others_stay g (x ∷ rows) (suc i) zero h = inl h
others_stay g (x ∷ rows) (suc i) (suc j) h = next (others_stay g rows i j h)
  where
    next : (is_stopping_row (slice_get rows j) ≡ true) ⊎ (j ≡ i) → (is_stopping_row (slice_get rows j) ≡ true) ⊎ (suc j ≡ suc i)
    next (inl h) = inl h
    next (inr h) = inr (ap suc h)

-- by which that one isn't stopping any more
pub goes : (g : Instance → Instance) → ((row : Instance) → is_stopping_phase (g row).phase ≡ false) → (rows : List Instance) (i : ℕ)
    → is_stopping_row (slice_get (updated g rows i) i) ≡ false
goes g clears [] i = refl
goes g clears (x ∷ rows) zero = clears x
goes g clears (x ∷ rows) (suc i) = goes g clears rows i

one_more : (x : Instance) → is_stopping_phase x.phase ≡ false → (rows : List Instance) (j : ℕ) → is_stopping_row (slice_get (rows ++ x ∷ []) j) ≡ true
    → is_stopping_row (slice_get rows j) ≡ true
one_more x not [] zero h = sym not ∙ h
one_more x not [] (suc j) h = h
one_more x not (y ∷ rows) zero h = h
one_more x not (y ∷ rows) (suc j) h = one_more x not rows j h

-- ---- workers that are all idle

idle_tail : (a : Place) (ws : List Place) → ((j : ℕ) (b : Place) → slice_get (a ∷ ws) j ≡ Some b → b ≡ Place.Idle)
    → (j : ℕ) (b : Place) → slice_get ws j ≡ Some b → b ≡ Place.Idle
idle_tail a ws all j b at = all (suc j) b at

pub none_in : (p : Place → Bool) → p Place.Idle ≡ false → (ws : List Place)
    → ((j : ℕ) (b : Place) → slice_get ws j ≡ Some b → b ≡ Place.Idle) → list_any p ws ≡ false
none_in p not [] all = refl
none_in p not (a ∷ ws) all = ap₂ (λ x y. x || y) (ap p (all zero a refl) ∙ not) (none_in p not ws (idle_tail a ws all))

pub no_count : (p : Place → Bool) → p Place.Idle ≡ false → (ws : List Place)
    → ((j : ℕ) (b : Place) → slice_get ws j ≡ Some b → b ≡ Place.Idle) → count_by p ws ≡ 0
no_count p not ws all = none_any p ws (none_in p not ws all)

-- ---- what a call leaves of all but instances and contexts

pub record Undisturbed (old new : World) : Type 0 where
  pub flow : new.flow ≡ old.flow
  pub workers : new.workers ≡ old.workers
  pub files : new.files ≡ old.files

pub undisturbed : (w : World) → Undisturbed w w
undisturbed w = record { flow = refl; workers = refl; files = refl }

pub still : (old new : World) → new ≡ old → Undisturbed old new
still old new same = subst (Undisturbed old) (sym same) (undisturbed old)

pub both : (old mid new : World) → Undisturbed old mid → Undisturbed mid new → Undisturbed old new
both old mid new a b = record { flow = b.flow ∙ a.flow; workers = b.workers ∙ a.workers; files = b.files ∙ a.files }

pub by_tidying : (old new : World) → Tidies old new → Undisturbed old new
by_tidying old new t = record { flow = t.flow; workers = t.workers; files = t.files }

pub rests_on : (k : WorkerId) (old new : World) → Undisturbed old new → IsAtRest k old → IsAtRest k new
rests_on k old new u rests = record {
  operations = ap (λ f. f.operations) u.flow ∙ rests.operations;
  idle = ap (λ ws. worker_at ws k) u.workers ∙ rests.idle;
  all = λ j a at. rests.all j a (ap (λ ws. slice_get ws j) (sym u.workers) ∙ at);
}

-- ---- an event that begins a callback, by an idle worker

pub happened : {T : Type 0} (old : World) (k : WorkerId) (v : T) (new : World) (Event : Type 0)
    → Unless Status.WrongStep (is_idle (worker_at old.workers k)) (Ok v) old new Event → Event
happened {T} old k v new Event h = by_idle (is_idle (worker_at old.workers k)) h
  where
    by_idle : (b : Bool) → Unless Status.WrongStep b (Ok v) old new Event → Event
    by_idle true h = h
    by_idle false h = cc

-- its refusal changes nothing
pub refused_same : (T : Type 0) (old : World) (k : WorkerId) (why : Status) (new : World) (Event : Type 0)
    → Unless {T = T} Status.WrongStep (is_idle (worker_at old.workers k)) (Err why) old new Event → (Event → new ≡ old) → new ≡ old
refused_same T old k why new Event h same = by_idle (is_idle (worker_at old.workers k)) h
  where
    by_idle : (b : Bool) → Unless {T = T} Status.WrongStep b (Err why) old new Event → new ≡ old
    by_idle true h = same h
    by_idle false h = h.1

-- ---- and leaves instances as calm as they were

pub record CalmAfter (old new : World) : Type 0 where
  pub undisturbed : Undisturbed old new
  pub fewer : (j : ℕ) → stops new.stack j ≡ true → stops old.stack j ≡ true

pub calm_same : (old new : World) → new ≡ old → CalmAfter old new
calm_same old new same = record { undisturbed = still old new same; fewer = λ j h. subst (λ (w : World). stops w.stack j ≡ true) same h }

pub calm_both : (old mid new : World) → CalmAfter old mid → CalmAfter mid new → CalmAfter old new
calm_both old mid new a b = record { undisturbed = both old mid new a.undisturbed b.undisturbed; fewer = λ j h. a.fewer j (b.fewer j h) }

pub calm_tidied : (old new : World) → Tidies old new → CalmAfter old new
calm_tidied old new t = record { undisturbed = by_tidying old new t; fewer = λ j h. subst (λ (s : StackWorld). stops s j ≡ true) t.stack h }

-- an event of instances and contexts alone, by which none comes to be stopping
pub calm_by : {t : StackWorld} {c : ContextTable} (old new : World) → new ≡ record old { stack = t; contexts = c }
    → ((j : ℕ) → stops t j ≡ true → stops old.stack j ≡ true) → CalmAfter old new
calm_by old new is fewer = record {
  undisturbed = record { flow = ap (λ (w : World). w.flow) is; workers = ap (λ (w : World). w.workers) is; files = ap (λ (w : World). w.files) is };
  fewer = λ j s. fewer j (subst (λ (w : World). stops w.stack j ≡ true) is s);
}

pub calm_none : (old new : World) → CalmAfter old new → NoneStops old.stack → NoneStops new.stack
calm_none old new c calm = none_stops_again new.stack (λ j. not_both (stops new.stack j) (stops old.stack j) (c.fewer j) (none_stops old.stack calm j))
  where
    not_both : (a b : Bool) → (a ≡ true → b ≡ true) → b ≡ false → a ≡ false
    not_both a b h none = grind arith

pub calm_finished : (old : World) (i : InstanceId) (result : Result (Unit {0}) Status) (new : World) → Finishes old i result new → CalmAfter old new
unfolding Finishes
calm_finished old i (Err why) new h = calm_same old new h.1
calm_finished old i (Ok done) new h = calm_by old new h.1 (stays_fewer setting.finish_row (λ row t. cc) old.stack.instances i.0)

-- ---- callbacks

module _ (k : WorkerId) where
  -- a worker that enters a place, and leaves it
  pub is_in : (old began : World) (a : Place) → worker_at old.workers k ≡ Some Place.Idle → began.workers ≡ put old.workers k a
      → worker_at began.workers k ≡ Some a
  is_in old began a idle enters = ap (λ ws. worker_at ws k) enters ∙ placed old.workers k Place.Idle a idle

  pub is_out : (old began back : World) (a : Place) → worker_at old.workers k ≡ Some Place.Idle → began.workers ≡ put old.workers k a
      → back.workers ≡ put began.workers k Place.Idle
      → back.workers ≡ old.workers
  is_out old began back a idle enters leaves = leaves ∙ ap (λ ws. put ws k Place.Idle) enters ∙ set_back old.workers k.0 Place.Idle a idle

  -- inside, and behind it, nothing changes but instances and contexts
  pub through : {s t : StackWorld} {c : ContextTable} (old began back : World) (a : Place) → worker_at old.workers k ≡ Some Place.Idle
      → began ≡ record old { stack = s; workers = put old.workers k a }
      → back ≡ record began { stack = t; workers = put began.workers k Place.Idle; contexts = c } → Undisturbed old back
  through old began back a idle enters leaves = record {
    flow = ap (λ (w : World). w.flow) leaves ∙ ap (λ (w : World). w.flow) enters;
    workers = is_out old began back a idle (ap (λ (w : World). w.workers) enters) (ap (λ (w : World). w.workers) leaves);
    files = ap (λ (w : World). w.files) leaves ∙ ap (λ (w : World). w.files) enters;
  }

  -- an instance is attached and set up
  module _ (i : InstanceId) (old : World) (idle : worker_at old.workers k ≡ Some Place.Idle) where
    set_up : (f : FilterId) (v : VolumeId) (name altitude : List ℕ) (born : World) (accepts : Bool) (ended : Result (Unit {0}) Status) (set : World)
        → Attaches old k f v name altitude (Ok i) born → SetsUp born k accepts ended set → CalmAfter old set
    unfolding Attaches SetsUp setting.Attaches setting.SetsUp
    set_up f v name altitude born accepts ended set attaches sets =
        let event = happened old k i born _ attaches in
        let at : SetsUpAt born k accepts ended set (Some (Place.Setup i)) =
        subst (SetsUpAt born k accepts ended set) (is_in old born (Place.Setup i) idle (ap (λ (w : World). w.workers) event.1)) sets in
        record {
          undisturbed = through old born set (Place.Setup i) idle event.1 at.4;
          fewer = λ j s. joined f v name altitude born event.0 j (by_end born accepts ended set at.0 j s);
        }
      where
        by_end : (born : World) (accepts : Bool) (ended : Result (Unit {0}) Status) (set : World)
            → setting.SetsUp born.stack i accepts ended set.stack → (j : ℕ)
            → stops set.stack j ≡ true → stops born.stack j ≡ true
        by_end born accepts (Ok done) set h j s =
            stays_fewer (setting.accept_row born.stack.births) (λ row t. cc) born.stack.instances i.0 j (subst (λ (t : StackWorld). stops t j ≡ true) h.1 s)
        by_end born accepts (Err why) set h j s =
            stays_fewer setting.refuse_row (λ row t. cc) born.stack.instances i.0 j (subst (λ (t : StackWorld). stops t j ≡ true) h.1 s)

        joined : (f : FilterId) (v : VolumeId) (name altitude : List ℕ) (born : World)
            → setting.Attaches old.stack f v name altitude (Ok i) born.stack → (j : ℕ)
            → stops born.stack j ≡ true → stops old.stack j ≡ true
        joined f v name altitude born h j s =
            one_more (setting.new_instance f v name altitude) refl old.stack.instances j (subst (λ (t : StackWorld). stops t j ≡ true) h.1.1 s)

    pub set_up_leaves : (f : FilterId) (v : VolumeId) (name altitude : List ℕ) (born : World) (may : Bool
        → Type 0) (ended : Result (Unit {0}) Status) (new : World)
        → Attaches old k f v name altitude (Ok i) born → SetUpQuietly k i may born ended new → CalmAfter old new
    set_up_leaves f v name altitude born may (Ok done) new attaches (set, (accepts, answer, sets), tidies) =
        calm_both old set new (set_up f v name altitude born accepts (Ok tt) set attaches sets) (calm_tidied set new tidies)
    set_up_leaves f v name altitude born may (Err why) new attaches (set, tidy, finished, (accepts, answer, sets), tidies, finishes) =
        calm_both old set new (set_up f v name altitude born accepts (Err why) set attaches sets)
        (calm_both set tidy new (calm_tidied set tidy tidies) (calm_finished tidy i finished new finishes))

pub attach_refused : (old : World) (k : WorkerId) (f : FilterId) (v : VolumeId) (name altitude : List ℕ) (why : Status) (new : World)
    → Attaches old k f v name altitude (Err why) new → new ≡ old
unfolding Attaches setting.Attaches
attach_refused old k f v name altitude why new h =
    refused_same (InstanceId) old k why new _ h (λ event. event.1 ∙ ap (λ (s : StackWorld). record old { stack = s }) event.0.1)

pub ask_refused : (old : World) (k : WorkerId) (i : InstanceId) (why : Status) (new : World) → AsksDetach old k i (Err why) new → new ≡ old
unfolding AsksDetach
ask_refused old k i why new h = refused_same (Unit {0}) old k why new _ h (λ event. event.1)

pub work_refused : (old : World) (k : WorkerId) (i : InstanceId) (h : Option HandleId) (why : Status) (new : World) → EntersRoutine old k i h (Err why) new
    → new ≡ old
unfolding EntersRoutine
work_refused old k i h why new goes = refused_same (Unit {0}) old k why new _ goes (λ event. event.1)

pub complete_refused : (old : World) (k : WorkerId) (i : InstanceId) (why : Status) (new : World) → CompletesTeardown old k i (Err why) new → new ≡ old
unfolding CompletesTeardown stack.CompletesTeardown
complete_refused old k i why new h = refused_same (Unit {0}) old k why new _ h (λ event. event.1 ∙ ap (λ (s : StackWorld). record old { stack = s }) event.0.1)

pub ask_unload_refused : (old : World) (k : WorkerId) (f : FilterId) (why : Status) (new : World) → AsksUnload old k f (Err why) new → new ≡ old
unfolding AsksUnload
ask_unload_refused old k f why new h = refused_same (Unit {0}) old k why new _ h (λ event. event.1)

-- ---- filters and volumes that are new

only_stack : (old new : World) (t : StackWorld) → new ≡ record old { stack = new.stack } → new.stack ≡ t → t.instances ≡ old.stack.instances → CalmAfter old new
only_stack old new t e is same =
    calm_by old new e (λ j s. subst (λ (rows : List Instance). is_stopping_row (slice_get rows j) ≡ true) (ap (λ (t : StackWorld). t.instances) is ∙ same) s)

pub registered_calm : (old : World) (name : List ℕ) (registration : Registration) (result : Result FilterId Status) (new : World)
    → Registers old name registration result new → CalmAfter old new
unfolding Registers setting.Registers
registered_calm old name registration (Ok f) new h = only_stack old new (setting.registered old.stack name registration) h.1 h.0.1.1 refl
registered_calm old name registration (Err why) new h = only_stack old new old.stack h.1 h.0.1 refl

pub mounted_calm : (old : World) (name : List ℕ) (result : Result VolumeId Status) (new : World) → Mounts old name result new → CalmAfter old new
unfolding Mounts setting.Mounts
mounted_calm old name (Ok v) new h = only_stack old new (setting.mounted old.stack name) h.1 h.0.1.1 refl
mounted_calm old name (Err why) new h = only_stack old new old.stack h.1 h.0.1 refl
