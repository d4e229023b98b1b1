-- What the events of a detach leave where nothing is under way: it is so again, and the instance isn't stopping any more.
use Rattle.fm_local.proofs.Words.{[], ◌∷◌, ◌≡◌, ◌≤◌, ◌⊎◌, Bool, Completion, Err, Instance, InstanceId, List, None, Ok, OpId, Option, Result, Some}
use Rattle.fm_local.proofs.Words.{StackWorld, Status, WorkerId, World, false, slice_get, suc, true, worker_at, zero, ℕ, ◌&&◌, ◌||◌, ◌∙◌, ap, arith}
use Rattle.fm_local.proofs.Words.{count_by, find, inl, inr, nat_lt, not, option_map, refl, subst, sym, true≢false, unwrap_or, none-some, StartMark}
use Rattle.fm_local.proofs.Words.{is_number, DrainsWhere, is_stopping_at, TakesDrain, Unless, is_stopping_phase, is_stopping_row, row_at, IsSound}
use Rattle.fm_local.proofs.Words.{AsksDetach, CompleteReturns, CompletesTeardown, StartReturns, StartsTeardown, FlowTable, Phase, operation_at, told}
use Rattle.fm_local.proofs.Words.{updated, is_idle, put, Place, is_leaving, is_leaving_phase, CompletesQuietly, StartsQuietly, TearsDownQuietly}
use Rattle.fm_local.proofs.Words.{IsAtRest, Tidies}
use Rattle.fm_types.specs.Refusals.{first_of}
use Rattle.fm_stack.specs.Detaching as stack
use Rattle.fm_stack.specs.Instances.{is_completing, is_detached, is_gone_at, is_setup, is_stopping, passes}
use Rattle.fm_operations.specs.Table.{in_flight, total}
use Rattle.fm_operations.specs.Initiators.{begun_by, is_begun_by}
use Rattle.fm_operations.specs.Counts.{flight}
use Rattle.fm_operations.specs.Drains.{owed_to}
use Rattle.fm_world.specs.Sound.{HasWorkers, is_made, least_at}
use Rattle.fm_world.specs.Teardowns.{QueryReturnsAt, StartReturnsAt, CompleteReturnsAt, QueryReturns}
use Rattle.fm_world.specs.Words.{one}
use Rattle.fm_world.specs.Workers.{InstanceCallback, AtSetup, AtStart, AtComplete, after_entering, is_at, is_queried, is_in_query, is_in_routine}
use Rattle.fm_world.specs.Teardowns.{unfinished_at}
use Rattle.fm_local.specs.Quietly.{AsksQuietly, WasTold}
use Rattle.fm_local.proofs.instances.Rest.{CalmAfter, Undisturbed, ask_refused, both, by_tidying, calm_both, calm_finished, calm_same, calm_tidied, goes}
use Rattle.fm_local.proofs.instances.Rest.{happened, is_in, no_count, none_in, others_stay, refused_same, rests_on, stays_fewer, stops, through}

module _ (k : WorkerId) (i : InstanceId) where
  -- ---- its filter is asked

  -- perhaps one more is stopping: that instance
  pub record CalmButOne (old new : World) : Type 0 where
    pub undisturbed : Undisturbed old new
    pub fewer : (j : ℕ) → stops new.stack j ≡ true → (stops old.stack j ≡ true) ⊎ (j ≡ i.0)

  module _ (old : World) (idle : worker_at old.workers k ≡ Some Place.Idle) where
    asked_at : (asked : World) → AsksDetach old k i (Ok tt) asked → asked ≡ record old { workers = put old.workers k (Place.Query i) }
    unfolding AsksDetach
    asked_at asked h = (happened old k tt asked _ h).1

    module _ (asked : World) (asks : asked ≡ record old { workers = put old.workers k (Place.Query i) }) (back : World) (allows : Bool)
        (ended : Result (Unit {0}) Status)
        (returns : QueryReturns asked k allows ended back) where
      enters : asked.workers ≡ put old.workers k (Place.Query i)
      enters = ap (λ (w : World). w.workers) asks

      query_at : QueryReturnsAt asked k allows ended back (Some (Place.Query i))
      unfolding QueryReturns
      query_at = subst (QueryReturnsAt asked k allows ended back) (is_in k old asked (Place.Query i) idle enters) returns

      queried : Undisturbed old back
      queried = through k old asked back (Place.Query i) idle asks query_at.2

    queried_stack : (s : StackWorld) (allows : Bool) (t : StackWorld) → stack.QueryReturns s i allows (Ok tt) t → t ≡ stack.stopped s i
    unfolding stack.QueryReturns
    queried_stack s allows t h = h.1

    declined_stack : (s : StackWorld) (allows : Bool) (why : Status) (t : StackWorld) → stack.QueryReturns s i allows (Err why) t → t ≡ s
    unfolding stack.QueryReturns
    declined_stack s allows why t h = h.1

    pub asked_leaves : (may : World → InstanceId → Bool → Type 0) (new : World) → AsksQuietly k i may old (Ok tt) new → CalmButOne old new
    asked_leaves may new (inl (err, h)) = cc
    asked_leaves may new (inr (asked, back, asks, (allows, answer, returns), tidies)) =
        let from = asked_at asked asks in
        let at = query_at asked from back allows (Ok tt) returns in
        let is : back.stack ≡ stack.stopped old.stack i =
        queried_stack asked.stack allows back.stack at.0 ∙ ap (λ (w : World). stack.stopped w.stack i) from in
        record {
          undisturbed = both old back new (queried asked from back allows (Ok tt) returns) (by_tidying back new tidies);
          fewer = λ j h. others_stay stack.stop_row old.stack.instances i.0 j (subst (λ (s : StackWorld). stops s j ≡ true) (tidies.stack ∙ is) h);
        }

    -- it agreed, so its teardown is under way
    agreed : (s : StackWorld) (allows : Bool) (t : StackWorld) → stack.QueryReturns s i allows (Ok tt) t
        → passes stack.is_in_use (slice_get s.instances i.0) ≡ true
    unfolding stack.QueryReturns
    agreed s allows t h = by_refusals (not allows) (passes stack.is_in_use (slice_get s.instances i.0)) h.0
      where
        by_refusals : (a b : Bool) → first_of ((a, Status.DoNotDetach) ∷ (not b, Status.DeletingObject) ∷ []) ≡ None → b ≡ true
        by_refusals a b h = grind arith

    stopped_row : (rows : List Instance) (n : ℕ) → passes stack.is_in_use (slice_get rows n) ≡ true
        → is_leaving_phase (option_map (λ (row : Instance). row.phase) (slice_get (updated stack.stop_row rows n) n)) ≡ true
    stopped_row [] n h = cc
    stopped_row (x ∷ rows) zero h = refl
    stopped_row (x ∷ rows) (suc n) h = stopped_row rows n h

    pub agreed_leaving : (may : World → InstanceId → Bool → Type 0) (new : World) → AsksQuietly k i may old (Ok tt) new → is_leaving new i ≡ true
    agreed_leaving may new (inl (err, h)) = cc
    agreed_leaving may new (inr (asked, back, asks, (allows, answer, returns), tidies)) =
        let from = asked_at asked asks in
        let at = query_at asked from back allows (Ok tt) returns in
        let is : back.stack ≡ stack.stopped old.stack i =
        queried_stack asked.stack allows back.stack at.0 ∙ ap (λ (w : World). stack.stopped w.stack i) from in
        ap (λ (s : StackWorld). is_leaving_phase (option_map (λ (row : Instance). row.phase) (slice_get s.instances i.0))) (tidies.stack ∙ is)
        ∙ stopped_row old.stack.instances i.0 (ap (λ (w : World). passes stack.is_in_use (slice_get w.stack.instances i.0)) (sym from)
        ∙ agreed asked.stack allows back.stack at.0)

    pub declined_leaves : (may : World → InstanceId → Bool → Type 0) (why : Status) (new : World) → AsksQuietly k i may old (Err why) new → CalmAfter old new
    declined_leaves may why new (inl h) = calm_same old new (ask_refused old k i why new h.1)
    declined_leaves may why new (inr (asked, back, asks, (allows, answer, returns), tidies)) =
        let from = asked_at asked asks in
        let at = query_at asked from back allows (Err why) returns in
        let is : back.stack ≡ old.stack = declined_stack asked.stack allows why back.stack at.0 ∙ ap (λ (w : World). w.stack) from in
        record {
          undisturbed = both old back new (queried asked from back allows (Err why) returns) (by_tidying back new tidies);
          fewer = λ j h. subst (λ (s : StackWorld). stops s j ≡ true) (tidies.stack ∙ is) h;
        }

  -- ---- its teardown starts

  pub start_refused : (old : World) (why : Status) (new : World) → StartsTeardown old k i (Err why) new → new ≡ old
  unfolding StartsTeardown stack.StartsTeardown
  start_refused old why new h =
      refused_same (Unit {0}) old k why new _ h (λ event. event.1 ∙ ap (λ (s : StackWorld). record old { stack = s }) event.0.1)

  starting_at : (old started : World) → StartsTeardown old k i (Ok tt) started
      → started ≡ record old { stack = stack.starting old.stack i; workers = put old.workers k (Place.Start i) }
  unfolding StartsTeardown stack.StartsTeardown
  starting_at old started h =
      let event = happened old k tt started _ h in
      event.1 ∙ ap (λ (s : StackWorld). record old { stack = s; workers = put old.workers k (Place.Start i) }) event.0.1

  module _ (old : World) (idle : worker_at old.workers k ≡ Some Place.Idle) (started : World) (starts : StartsTeardown old k i (Ok tt) started) where
    from_start : worker_at started.workers k ≡ Some (Place.Start i)
    from_start = is_in k old started (Place.Start i) idle (ap (λ (w : World). w.workers) (starting_at old started starts))

    start_at : (back : World) → StartReturns started k (Ok tt) back → StartReturnsAt started k (Ok tt) back (Some (Place.Start i))
    unfolding StartReturns
    start_at back h = subst (StartReturnsAt started k (Ok tt) back) from_start h

    pub start_flow : (back : World) → StartReturns started k (Ok tt) back → back.flow ≡ old.flow
    start_flow back returns = ap (λ (w : World). w.flow) (start_at back returns).2 ∙ ap (λ (w : World). w.flow) (starting_at old started starts)

    pub start_stack : (back new : World) → StartReturns started k (Ok tt) back → Tidies back new → new.stack ≡ stack.started (stack.starting old.stack i) i
    start_stack back new returns tidies =
        tidies.stack ∙ ap (λ (w : World). w.stack) (start_at back returns).2 ∙ ap (λ (w : World). stack.started w.stack i) (starting_at old started starts)

    start_leaves : (back new : World) → StartReturns started k (Ok tt) back → Tidies back new → CalmAfter old new
    start_leaves back new returns tidies =
        let over = through k old started back (Place.Start i) idle (starting_at old started starts) (start_at back returns).2 in
        record {
          undisturbed = both old back new over (by_tidying back new tidies);
          -- the change of its row doesn't make it stopping
          fewer = λ j h.
              let changed = subst (λ (s : StackWorld). stops s j ≡ true) (start_stack back new returns tidies) h in
              stays_fewer (stack.with_start StartMark.Made) (λ row t. t) old.stack.instances i.0 j
              (stays_fewer (stack.with_start StartMark.Returned) (λ row t. t)
              (updated (stack.with_start StartMark.Made) old.stack.instances i.0) i.0 j changed);
        }

  -- the start was returned
  told_phase : (p : Phase) → is_stopping_phase p ≡ true → is_stopping p && true ≡ true
  told_phase p h = grind arith

  told_row : (rows : List Instance) (n : ℕ) → is_stopping_row (slice_get (updated (stack.with_start StartMark.Returned) rows n) n) ≡ true
      → passes stack.is_to_complete (slice_get (updated (stack.with_start StartMark.Returned) rows n) n) ≡ true
  told_row [] n h = cc
  told_row (x ∷ rows) zero h = told_phase x.phase h
  told_row (x ∷ rows) (suc n) h = told_row rows n h

  -- or it was before, since no worker is in it
  told_before : (p : Phase) (m : StartMark) (why : Status) → is_made m ≡ false
      → first_of ((is_detached p, Status.NoInstance) ∷ (not (is_stopping p && stack.is_not_made m), Status.WrongStep) ∷ []) ≡ Some why
      → is_stopping_phase p ≡ true
      → is_stopping p && stack.is_returned m ≡ true
  told_before Phase.Stopping StartMark.NotMade why not_made refused stops = cc
  told_before Phase.Stopping StartMark.Made why not_made refused stops = cc
  told_before Phase.Stopping StartMark.Returned why not_made refused stops = refl
  told_before _ m why not_made refused stops = cc

  -- no start is out where all workers are idle
  none_out : (m : Bool) → one m ≤ 0 → m ≡ false
  none_out m h = grind arith

  module _ (w : World) (sound : IsSound w) (rests : IsAtRest k w) (row : Instance) (there : slice_get w.stack.instances i.0 ≡ Some row) where
    none_at : (d : InstanceCallback) → is_at d i.0 Place.Idle ≡ false → least_at d row ≤ 0
    none_at d not =
        let workers_there : HasWorkers d (Some row) (count_by (is_at d i.0) w.workers) =
        subst (λ (m : Option Instance). HasWorkers d m (count_by (is_at d i.0) w.workers)) there (sound.under_way.instance_callbacks d i.0) in
        subst (λ n. least_at d row ≤ n) (no_count (is_at d i.0) not w.workers rests.all) workers_there.0

    pub not_out : is_made row.start ≡ false
    not_out = none_out (is_made row.start) (none_at AtStart refl)

    pub not_completing : is_completing row.phase ≡ false
    not_completing = none_out (is_completing row.phase) (none_at AtComplete refl)

    pub not_setup : is_setup row.phase ≡ false
    not_setup = none_out (is_setup row.phase) (none_at AtSetup refl)

  start_refusal : (old : World) (why : Status) (new : World) → IsAtRest k old → StartsTeardown old k i (Err why) new
      → first_of (stack.start_refusals old.stack i) ≡ Some why
  unfolding StartsTeardown stack.StartsTeardown
  start_refusal old why new rests h =
      (subst (λ (b : Bool). Unless {T = Unit {0}} Status.WrongStep b (Err why) old new
      (stack.StartsTeardown old.stack i (Err why) new.stack
      × (new ≡ record old { stack = new.stack; workers = after_entering old.workers k (Place.Start i) (Err why) })))
      (ap is_idle rests.idle) h).0.0

  pub was_told : (old new : World) → IsSound old → IsAtRest k old → StartsQuietly k i old new → WasTold i new.stack
  was_told old new sound rests (inl (why, h)) stopping =
      let same = start_refused old why new h in
      let was : stops old.stack i.0 ≡ true = subst (λ (w : World). stops w.stack i.0 ≡ true) same stopping in
      subst (λ (w : World). passes stack.is_to_complete (slice_get w.stack.instances i.0) ≡ true) (sym same)
      (by_row (slice_get old.stack.instances i.0) refl was (start_refusal old why new rests h))
    where
      by_row : (m : Option Instance) → slice_get old.stack.instances i.0 ≡ m → is_stopping_row m ≡ true
          → first_of ((is_gone_at m, Status.NoInstance) ∷ (not (passes stack.is_to_start m), Status.WrongStep) ∷ []) ≡ Some why
          → passes stack.is_to_complete m ≡ true
      by_row None there stopping refused = cc
      by_row (Some row) there stopping refused = told_before row.phase row.start why (not_out old sound rests row there) refused stopping
  was_told old new sound rests (inr (started, back, starts, returns, tidies)) stopping =
      let is = start_stack old rests.idle started starts back new returns tidies in
      subst (λ (s : StackWorld). passes stack.is_to_complete (slice_get s.instances i.0) ≡ true) (sym is)
      (told_row (updated (stack.with_start StartMark.Made) old.stack.instances i.0) i.0 (subst (λ (s : StackWorld). stops s i.0 ≡ true) is stopping))

  pub starts_leaves : (old new : World) → worker_at old.workers k ≡ Some Place.Idle → StartsQuietly k i old new → CalmAfter old new
  starts_leaves old new idle (inl (why, h)) = calm_same old new (start_refused old why new h)
  starts_leaves old new idle (inr (started, back, starts, returns, tidies)) = start_leaves old idle started starts back new returns tidies

  -- ---- its teardown is completed

  none_flies : (t : FlowTable) → t.operations ≡ [] → in_flight i.0 t ≡ 0
  none_flies t none = ap (λ rs. total (flight i.0) rs) none

  none_begun : (t : FlowTable) → t.operations ≡ [] → begun_by i.0 t ≡ 0
  none_begun t none = ap (λ rs. count_by (is_begun_by i.0) rs) none

  none_unfinished : (w : World) → IsAtRest k w → unfinished_at w i ≡ 0
  none_unfinished w rests = omega (arith, none_flies w.flow rests.operations, none_begun w.flow rests.operations, no_count (is_in_routine i.0) refl w.workers rests.all)

  completes_row : (row : Instance) (asked : Bool) (n : ℕ) → stack.is_to_complete row ≡ true → asked ≡ false → n ≡ 0
      → first_of ((is_detached row.phase, Status.NoInstance) ∷ (not (stack.is_to_complete row) || asked, Status.WrongStep)
      ∷ (nat_lt 0 n, Status.Busy n) ∷ []) ≡ None
  completes_row row asked n ready none calm = grind arith

  complete_refusals : (m : Option Instance) (asked : Bool) (n : ℕ) → passes stack.is_to_complete m ≡ true → asked ≡ false → n ≡ 0
      → first_of ((is_gone_at m, Status.NoInstance) ∷ (not (passes stack.is_to_complete m) || asked, Status.WrongStep)
      ∷ (nat_lt 0 n, Status.Busy n) ∷ []) ≡ None
  complete_refusals None asked n ready none calm = cc
  complete_refusals (Some row) asked n ready none calm = completes_row row asked n ready none calm

  -- nothing refuses it
  pub completes : (old : World) (why : Status) (new : World) → IsAtRest k old → WasTold i old.stack → stops old.stack i.0 ≡ true
      → CompletesTeardown old k i (Err why) new → ⊥
  unfolding CompletesTeardown stack.CompletesTeardown
  completes old why new rests was stopping h =
      let event =
      subst (λ (b : Bool). Unless {T = Unit {0}} Status.WrongStep b (Err why) old new
      (stack.CompletesTeardown old.stack i (is_queried i old.workers) (unfinished_at old i) (Err why) new.stack
      × (new ≡ record old { stack = new.stack; workers = after_entering old.workers k (Place.Complete i) (Err why) })))
      (ap is_idle rests.idle) h in
      none-some why (sym (complete_refusals (slice_get old.stack.instances i.0) (is_queried i old.workers) (unfinished_at old i) (was stopping)
      (none_in (is_in_query i.0) refl old.workers rests.all) (none_unfinished old rests)) ∙ event.0.0)

  completing_at : (old completing : World) → CompletesTeardown old k i (Ok tt) completing
      → completing ≡ record old { stack = stack.completing old.stack i; workers = put old.workers k (Place.Complete i) }
  unfolding CompletesTeardown stack.CompletesTeardown
  completing_at old completing h =
      let event = happened old k tt completing _ h in
      event.1 ∙ ap (λ (s : StackWorld). record old { stack = s; workers = put old.workers k (Place.Complete i) }) event.0.1

  module _ (old : World) (idle : worker_at old.workers k ≡ Some Place.Idle) (completing : World)
      (completes : CompletesTeardown old k i (Ok tt) completing) where
    from_complete : worker_at completing.workers k ≡ Some (Place.Complete i)
    from_complete = is_in k old completing (Place.Complete i) idle (ap (λ (w : World). w.workers) (completing_at old completing completes))

    complete_at : (back : World) → CompleteReturns completing k (Ok tt) back → CompleteReturnsAt completing k (Ok tt) back (Some (Place.Complete i))
    unfolding CompleteReturns
    complete_at back h = subst (CompleteReturnsAt completing k (Ok tt) back) from_complete h

    pub complete_stack : (back new : World) → CompleteReturns completing k (Ok tt) back → Tidies back new
        → new.stack ≡ stack.emptying (stack.completing old.stack i) i
    complete_stack back new returns tidies =
        tidies.stack ∙ ap (λ (w : World). w.stack) (complete_at back returns).4
        ∙ ap (λ (w : World). stack.emptying w.stack i) (completing_at old completing completes)

    -- once its teardown-complete has returned all is calm, no other instance came to be stopping, and this one stops no more
    complete_leaves : (back new : World) → CompleteReturns completing k (Ok tt) back → Tidies back new → CalmAfter old new × (stops new.stack i.0 ≡ false)
    complete_leaves back new returns tidies =
        let over = through k old completing back (Place.Complete i) idle (completing_at old completing completes) (complete_at back returns).4 in
        let is = complete_stack back new returns tidies in (
          record {
            undisturbed = both old back new over (by_tidying back new tidies);
            -- neither of the two changes of its row makes it stopping
            fewer = λ j h.
                let changed = subst (λ (s : StackWorld). stops s j ≡ true) is h in
                stays_fewer (stack.in_phase Phase.Completing) (λ row t. cc) old.stack.instances i.0 j
                (stays_fewer (stack.in_phase Phase.Emptying) (λ row t. cc) (updated (stack.in_phase Phase.Completing) old.stack.instances i.0) i.0 j changed);
          },
          ap (λ (s : StackWorld). stops s i.0) is ∙ goes (stack.in_phase Phase.Emptying) (λ row. refl)
              (updated (stack.in_phase Phase.Completing) old.stack.instances i.0) i.0,
        )

  pub completes_leaves : (old new : World) → worker_at old.workers k ≡ Some Place.Idle → CompletesQuietly k i old new
      → CalmAfter old new × (stops new.stack i.0 ≡ false)
  completes_leaves old new idle (inl (not, same)) = (calm_same old new same, ap (λ (w : World). stops w.stack i.0) same ∙ not)
  completes_leaves old new idle (inr (completing, back, completes, returns, tidies)) = complete_leaves old idle completing completes back new returns tidies

  -- ---- from where it is to its end

  not_both : (a b : Bool) → (a ≡ true → b ≡ true) → b ≡ false → a ≡ false
  not_both a b h none = grind arith

  pub torn_leaves : (old : World) (result : Result (Unit {0}) Status) (new : World) → IsAtRest k old → TearsDownQuietly k i old result new
      → CalmAfter old new × (stops new.stack i.0 ≡ false)
  torn_leaves old result new rests (started, completed, tidy, starts, completes, tidies, finishes) =
      let first = starts_leaves old started rests.idle starts in
      let then = completes_leaves started completed (rests_on k old started first.undisturbed rests).idle completes in
      let last = calm_both completed tidy new (calm_tidied completed tidy tidies) (calm_finished tidy i result new finishes) in (
        calm_both old started new first (calm_both started completed new then.0 last),
        not_both (stops new.stack i.0) (stops completed.stack i.0) (last.fewer i.0) then.1,
      )

  -- it was the one more
  pub one_goes : (old mid new : World) → CalmButOne old mid → CalmAfter mid new → stops new.stack i.0 ≡ false → CalmAfter old new
  one_goes old mid new a b gone = record {
    undisturbed = both old mid new a.undisturbed b.undisturbed;
    fewer = λ j h. by_one j h (a.fewer j (b.fewer j h));
  }
    where
      by_one : (j : ℕ) → stops new.stack j ≡ true → (stops old.stack j ≡ true) ⊎ (j ≡ i.0) → stops old.stack j ≡ true
      by_one j h (inl was) = was
      by_one j h (inr is) = absurd (true≢false (sym h ∙ ap (stops new.stack) is ∙ gone))

  -- ---- where nothing is under way no drain is taken

  none_there : (t : FlowTable) (o : OpId) → t.operations ≡ [] → operation_at o t ≡ None
  none_there t o none = ap (λ rs. find (is_number o) rs) none

  none_owed : (t : FlowTable) (o : OpId) (completion : Completion) → t.operations ≡ [] → told (owed_to i.0) None o t ≡ Some completion → ⊥
  none_owed t o completion none h = none-some completion (sym (ap (λ m. unwrap_or (option_map (owed_to i.0) m) None) (none_there t o none)) ∙ h)

  drain_none : (old : World) (drain : OpId × Completion) (new : World) → old.flow.operations ≡ [] → TakesDrain old k i (Ok (Some drain)) new → ⊥
  unfolding TakesDrain
  drain_none old (o, completion) new none h = by_stopping (is_stopping_at (row_at old.stack i)) (happened old k (Some (o, completion)) new _ h).1
    where
      by_stopping : (b : Bool) → DrainsWhere b old k i (Some (o, completion)) new → ⊥
      by_stopping true d = none_owed old.flow o completion none d.0.owed
      by_stopping false d = none-some (o, completion) (sym d.0)

  pub drain_same : (old : World) (result : Result (Option (OpId × Completion)) Status) (new : World) → old.flow.operations ≡ []
      → TakesDrain old k i result new → new ≡ old
  unfolding TakesDrain
  drain_same old (Err why) new none h = refused_same (Option (OpId × Completion)) old k why new _ h (λ event. event.1)
  drain_same old (Ok None) new none h = by_stopping (is_stopping_at (row_at old.stack i)) (happened old k None new _ h).1
    where
      by_stopping : (b : Bool) → DrainsWhere b old k i None new → new ≡ old
      by_stopping true d = d.1
      by_stopping false d = d.1
  drain_same old (Ok (Some drain)) new none h = absurd (drain_none old drain new none h)

  pub drained_none : (old : World) (m : Option (OpId × Completion)) (new : World) → old.flow.operations ≡ [] → TakesDrain old k i (Ok m) new → m ≡ None
  drained_none old None new none h = refl
  drained_none old (Some drain) new none h = absurd (drain_none old drain new none h)
