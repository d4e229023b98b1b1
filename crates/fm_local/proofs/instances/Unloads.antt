-- What the events of an unload leave where nothing is under way: it is so again, and no instance of the filter is stopping any more.
use Rattle.fm_local.proofs.Words.{[], ◌∷◌, ◌≡◌, ◌⊎◌, Bool, Err, FilterId, Instance, InstanceId, List, None, Ok, Option, Result, Some, StackWorld}
use Rattle.fm_local.proofs.Words.{Status, WorkerId, World, false, length, slice_get, suc, true, worker_at, zero, ℕ, ◌&&◌, ◌<◌, ◌==◌, ◌∙◌, ap, arith}
use Rattle.fm_local.proofs.Words.{cond, inl, inr, map, option_map, refl, subst, sym, true≢false, StartMark, Finishes, is_stopping_phase}
use Rattle.fm_local.proofs.Words.{is_stopping_row, UnloadReturnsAt, AsksUnload, EmptiesFilter, FinishesFilter, UnloadReturns, Phase, updated, put}
use Rattle.fm_local.proofs.Words.{Place, is_leaving, is_leaving_phase, is_to_go, CompletesQuietly, StartsQuietly, TearsDownFirst, TearsDownQuietly}
use Rattle.fm_local.proofs.Words.{IsAtRest, Tidies}
use Rattle.std.specs.Prelude.{IsErr}
use Rattle.std.proofs.lemmas.Grind.{common_steps}
use Rattle.fm_stack.specs.Detaching as stack
use Rattle.fm_stack.specs.Events as setting
use Rattle.fm_stack.specs.Instances.{is_attached}
use Rattle.fm_stack.specs.Unloading as filters
use Rattle.fm_world.proofs.Cases.{by_bool}
use Rattle.fm_local.specs.Calls.{AsksToUnload, is_of_row}
use Rattle.fm_local.specs.Quietly.{EndsQuietly, TearsDownIf}
use Rattle.fm_local.proofs.instances.Detaches.{complete_stack, start_refused, start_stack, starts_leaves, torn_leaves}
use Rattle.fm_local.proofs.instances.Rest.{CalmAfter, Undisturbed, ask_unload_refused, both, calm_both, calm_same, calm_tidied, happened, is_in, rests_on}
use Rattle.fm_local.proofs.instances.Rest.{stops, through, calm_by}

-- ---- rows

stopping_leaves : (m : Option Instance) → is_leaving_phase (option_map (λ (row : Instance). row.phase) m) ≡ false → is_stopping_row m ≡ false
stopping_leaves None h = refl
stopping_leaves (Some row) h = by_phase row.phase h
  where
    by_phase : (p : _) → is_leaving_phase (Some p) ≡ false → is_stopping_phase p ≡ false
    by_phase Phase.Stopping h = cc
    by_phase _ h = refl

within : (rows : List Instance) (j : ℕ) → is_stopping_row (slice_get rows j) ≡ true → j < length rows
within [] j h = cc
within (x ∷ rows) zero h = grind (arith, common_steps)
within (x ∷ rows) (suc j) h = let rest = within rows j h in grind (arith, common_steps)

split : (a b : Bool) → a && b ≡ false → a ≡ true → b ≡ false
split a b h is = grind arith

not_both : (a b : Bool) → (a ≡ true → b ≡ true) → b ≡ false → a ≡ false
not_both a b h none = grind arith

by_place : (n j : ℕ) → j < suc n → (P : ℕ → Type 0) → P n → (j < n → P j) → P j
by_place n j less P here others = grind (arith, common_steps)

module _ (f : FilterId) where
  -- whose instance it is stays
  same_filter : (g : Instance → Instance) → ((row : Instance) → (g row).filter ≡ row.filter) → (rows : List Instance) (i j : ℕ)
      → is_of_row f (slice_get (updated g rows i) j) ≡ is_of_row f (slice_get rows j)
  same_filter g keeps [] i j = refl
  same_filter g keeps (x ∷ rows) zero zero = ap (λ (h : FilterId). h.0 == f.0) (keeps x)
  same_filter g keeps (x ∷ rows) zero (suc j) = refl
  same_filter g keeps (x ∷ rows) (suc i) zero = refl
  same_filter g keeps (x ∷ rows) (suc i) (suc j) = same_filter g keeps rows i j

  -- those that stop are the filter's
  stops_own : (rows : List Instance) (j : ℕ) → is_stopping_row (slice_get (map (filters.stop_where (filters.is_of f)) rows) j) ≡ true
      → (is_stopping_row (slice_get rows j) ≡ true) ⊎ (is_of_row f (slice_get (map (filters.stop_where (filters.is_of f)) rows) j) ≡ true)
  stops_own [] j h = inl h
  stops_own (x ∷ rows) (suc j) h = stops_own rows j h
  stops_own (x ∷ rows) zero h = by_own (filters.is_of f x) refl h
    where
      by_own : (b : Bool) → filters.is_of f x ≡ b → is_stopping_phase (filters.stop_where (filters.is_of f) x).phase ≡ true
          → (is_stopping_phase x.phase ≡ true) ⊎ (filters.is_of f (filters.stop_where (filters.is_of f) x) ≡ true)
      by_own true own h = inr (own_still (filters.is_of f x && is_attached x.phase) own)
        where
          own_still : (b : Bool) → filters.is_of f x ≡ true → filters.is_of f (cond b (stack.stop_row x) x) ≡ true
          own_still true own = own
          own_still false own = own
      by_own false own h = inl (as_it_was (filters.is_of f x && is_attached x.phase) (ap (λ b. b && is_attached x.phase) own) h)
        where
          as_it_was : (b : Bool) → b ≡ false → is_stopping_phase (cond b (stack.stop_row x) x).phase ≡ true → is_stopping_phase x.phase ≡ true
          as_it_was true none h = cc
          as_it_was false none h = h

  abbrev owns : World → ℕ → Bool
  owns w j = is_of_row f (slice_get w.stack.instances j)

  pub record OwnersStay (old new : World) : Type 0 where
    pub same : (j : ℕ) → owns new j ≡ owns old j

  owners_by : (old new : World) → new.stack ≡ old.stack → OwnersStay old new
  owners_by old new same = record { same = λ j. ap (λ (s : StackWorld). is_of_row f (slice_get s.instances j)) same }

  owners_both : (old mid new : World) → OwnersStay old mid → OwnersStay mid new → OwnersStay old new
  owners_both old mid new a b = record { same = λ j. b.same j ∙ a.same j }

  module _ (k : WorkerId) (i : InstanceId) where
    starts_own : (old new : World) → IsAtRest k old → StartsQuietly k i old new → OwnersStay old new
    starts_own old new rests (inl (why, h)) = owners_by old new (ap (λ (w : World). w.stack) (start_refused k i old why new h))
    starts_own old new rests (inr (started, back, starts, returns, tidies)) = record {
      same = λ j.
          ap (λ (s : StackWorld). is_of_row f (slice_get s.instances j)) (start_stack k i old rests.idle started starts back new returns tidies)
          ∙ same_filter (stack.with_start StartMark.Returned) (λ row. refl) (updated (stack.with_start StartMark.Made) old.stack.instances i.0) i.0 j
          ∙ same_filter (stack.with_start StartMark.Made) (λ row. refl) old.stack.instances i.0 j;
    }

    completes_own : (old new : World) → IsAtRest k old → CompletesQuietly k i old new → OwnersStay old new
    completes_own old new rests (inl (not, same)) = owners_by old new (ap (λ (w : World). w.stack) same)
    completes_own old new rests (inr (completing, back, completes, returns, tidies)) = record {
      same = λ j.
          ap (λ (s : StackWorld). is_of_row f (slice_get s.instances j)) (complete_stack k i old rests.idle completing completes back new returns tidies)
          ∙ same_filter (stack.in_phase Phase.Emptying) (λ row. refl) (updated (stack.in_phase Phase.Completing) old.stack.instances i.0) i.0 j
          ∙ same_filter (stack.in_phase Phase.Completing) (λ row. refl) old.stack.instances i.0 j;
    }

    finishes_own : (old : World) (result : Result (Unit {0}) Status) (new : World) → Finishes old i result new → OwnersStay old new
    unfolding Finishes
    finishes_own old (Err why) new h = owners_by old new (ap (λ (w : World). w.stack) h.1)
    finishes_own old (Ok done) new h = record {
      same = λ j. ap (λ (w : World). is_of_row f (slice_get w.stack.instances j)) h.1 ∙ same_filter setting.finish_row (λ row. refl) old.stack.instances i.0 j;
    }

    torn_own : (old : World) (result : Result (Unit {0}) Status) (new : World) → IsAtRest k old → TearsDownQuietly k i old result new → OwnersStay old new
    torn_own old result new rests (started, completed, tidy, starts, completes, tidies, finishes) =
        let calm = starts_leaves k i old started rests.idle starts in
        owners_both old started new (starts_own old started rests starts)
        (owners_both started completed new (completes_own started completed (rests_on k old started calm.undisturbed rests) completes)
        (owners_both completed tidy new (owners_by completed tidy tidies.stack) (finishes_own tidy result new finishes)))

  module _ (k : WorkerId) where
    -- ---- the filter's instances, one after the other

    -- of the first instances none of the filter's is stopping any more
    pub record FirstGone (n : ℕ) (old new : World) : Type 0 where
      pub calm : CalmAfter old new
      pub owners : OwnersStay old new
      pub gone : (j : ℕ) → j < n → owns old j ≡ true → stops new.stack j ≡ false

    pub first_gone : (n : ℕ) (old new : World) → IsAtRest k old → TearsDownFirst k f n old new → FirstGone n old new
    first_gone zero old new rests same = record {
      calm = calm_same old new same;
      owners = owners_by old new (ap (λ (w : World). w.stack) same);
      gone = λ j less own. absurd (none_less j less);
    }
      where
        none_less : (j : ℕ) → j < 0 → ⊥
        none_less j less = grind arith
    first_gone (suc n) old new rests (mid, first, step) = one_more n old mid new rests (first_gone n old mid rests first) step
      where
        one_more : (n : ℕ) (old mid new : World) → IsAtRest k old → FirstGone n old mid
            → TearsDownIf k f (is_to_go f mid (record { 0 = n })) (record { 0 = n }) mid new → FirstGone (suc n) old new
        one_more n old mid new rests before step =
            by_bool (λ b. TearsDownIf k f b (record { 0 = n }) mid new → FirstGone (suc n) old new) (is_to_go f mid (record { 0 = n })) (λ goes tears.
            let still = rests_on k old mid before.calm.undisturbed rests in
            let torn = torn_leaves k (record { 0 = n }) mid (Ok tt) new still tears in
            record {
              calm = calm_both old mid new before.calm torn.0;
              owners = owners_both old mid new before.owners (torn_own k (record { 0 = n }) mid (Ok tt) new still tears);
              gone = λ j less own.
                  by_place n j less (λ k. stops new.stack k ≡ false) torn.1 (λ fewer. not_both (stops new.stack j) (stops mid.stack j)
                  (torn.0.fewer j) (before.gone j fewer own));
            }) (λ goes same.
            record {
              calm = calm_both old mid new before.calm (calm_same mid new same);
              owners = owners_both old mid new before.owners (owners_by mid new (ap (λ (w : World). w.stack) same));
              gone = λ j less own.
                  ap (λ (w : World). stops w.stack j) same
                  ∙ by_place n j less (λ m. owns old m ≡ true → stops mid.stack m ≡ false)
                  (λ own. stopping_leaves (slice_get mid.stack.instances n)
                  (split (owns mid n) (is_leaving mid (record { 0 = n })) goes (before.owners.same n ∙ own)))
                  (λ fewer own. before.gone j fewer own) own;
            }) step

    -- ---- its own end

    emptied_calm : (old : World) (result : Result (Unit {0}) Status) (new : World) → EmptiesFilter old f result new → CalmAfter old new
    unfolding EmptiesFilter filters.EmptiesFilter
    emptied_calm old (Ok done) new h = calm_by old new h.2 (λ j s. subst (λ (t : StackWorld). stops t j ≡ true) h.0.1 s)
    emptied_calm old (Err why) new h = calm_by old new h.2 (λ j s. subst (λ (t : StackWorld). stops t j ≡ true) h.0.1 s)

    finished_calm : (old : World) (result : Result (Unit {0}) Status) (new : World) → FinishesFilter old f result new → CalmAfter old new
    unfolding FinishesFilter filters.FinishesFilter
    finished_calm old (Ok done) new h = calm_by old new h.1 (λ j s. subst (λ (t : StackWorld). stops t j ≡ true) h.0.1 s)
    finished_calm old (Err why) new h = calm_by old new h.1 (λ j s. subst (λ (t : StackWorld). stops t j ≡ true) h.0.1 s)

    pub ends_leaves : (old : World) (result : Result (Unit {0}) Status) (new : World) → IsAtRest k old → EndsQuietly k f old result new
        → CalmAfter old new × ((j : ℕ) → owns old j ≡ true → stops new.stack j ≡ false)
    ends_leaves old result new rests (torn, first, ends) =
        let gone = first_gone (length old.stack.instances) old torn rests first in
        let last = by_end torn ends in
        let calm = calm_both old torn new gone.calm last in (
          calm,
          λ j own. by_bool (λ b. stops new.stack j ≡ b → stops new.stack j ≡ false) (stops new.stack j) (λ stopping is. let was =
              within old.stack.instances j (calm.fewer j stopping) in
              not_both (stops new.stack j) (stops torn.stack j) (last.fewer j) (gone.gone j was own)) (λ none is. none) refl,
        )
      where
        by_end : (torn : World)
            → (IsErr result × EmptiesFilter torn f result new)
            ⊎ ((emptied tidy : World) × EmptiesFilter torn f (Ok tt) emptied × Tidies emptied tidy × FinishesFilter tidy f result new) → CalmAfter torn new
        by_end torn (inl (err, h)) = emptied_calm torn result new h
        by_end torn (inr (emptied, tidy, empties, tidies, finishes)) =
            calm_both torn emptied new (emptied_calm torn (Ok tt) emptied empties)
            (calm_both emptied tidy new (calm_tidied emptied tidy tidies) (finished_calm tidy result new finishes))

    -- ---- it is asked

    module _ (old : World) (idle : worker_at old.workers k ≡ Some Place.Idle) where
      asked_at : (asked : World) → AsksUnload old k f (Ok tt) asked → asked ≡ record old { workers = put old.workers k (Place.Unload f) }
      unfolding AsksUnload
      asked_at asked h = (happened old k tt asked _ h).1

      module _ (asked : World) (asks : asked ≡ record old { workers = put old.workers k (Place.Unload f) }) (allows : Bool)
          (ended : Result (Unit {0}) Status) (back : World)
          (returns : UnloadReturns asked k allows ended back) where
        enters : asked.workers ≡ put old.workers k (Place.Unload f)
        enters = ap (λ (w : World). w.workers) asks

        unload_at : UnloadReturnsAt asked k allows ended back (Some (Place.Unload f))
        unfolding UnloadReturns
        unload_at = subst (UnloadReturnsAt asked k allows ended back) (is_in k old asked (Place.Unload f) idle enters) returns

        unloaded : Undisturbed old back
        unloaded = through k old asked back (Place.Unload f) idle asks unload_at.1

      unloading_stack : (s : StackWorld) (allows : Bool) (t : StackWorld) → filters.UnloadReturns s f allows (Ok tt) t → t ≡ filters.unloading s f
      unfolding filters.UnloadReturns
      unloading_stack s allows t h = h.1

      declined_stack : (s : StackWorld) (allows : Bool) (why : Status) (t : StackWorld) → filters.UnloadReturns s f allows (Err why) t → t ≡ s
      unfolding filters.UnloadReturns
      declined_stack s allows why t h = h.1

      pub unload_refused : (may : Bool → Type 0) (why : Status) (new : World) → AsksToUnload may old k f (Err why) new → CalmAfter old new
      unload_refused may why new (inl h) = calm_same old new (ask_unload_refused old k f why new h)
      unload_refused may why new (inr (asked, asks, (allows, answer, returns))) =
          let from = asked_at asked asks in
          let at = unload_at asked from allows (Err why) new returns in
          let is : new.stack ≡ old.stack = declined_stack asked.stack allows why new.stack at.0 ∙ ap (λ (w : World). w.stack) from in
          record {
            undisturbed = unloaded asked from allows (Err why) new returns;
            fewer = λ j h. subst (λ (s : StackWorld). stops s j ≡ true) is h;
          }

      -- it agreed: perhaps more are stopping, all of them its own
      pub record CalmButOwn (new : World) : Type 0 where
        pub undisturbed : Undisturbed old new
        pub fewer : (j : ℕ) → stops new.stack j ≡ true → (stops old.stack j ≡ true) ⊎ (owns new j ≡ true)

      pub agreed_leaves : (may : Bool → Type 0) (new : World) → AsksToUnload may old k f (Ok tt) new → CalmButOwn new
      agreed_leaves may new (asked, asks, (allows, answer, returns)) =
          let from = asked_at asked asks in
          let at = unload_at asked from allows (Ok tt) new returns in
          let is : new.stack ≡ filters.unloading old.stack f = unloading_stack asked.stack allows new.stack at.0
          ∙ ap (λ (w : World). filters.unloading w.stack f) from in
          record {
            undisturbed = unloaded asked from allows (Ok tt) new returns;
            fewer = λ j h. subst (λ (s : StackWorld). (stops old.stack j ≡ true) ⊎ (is_of_row f (slice_get s.instances j) ≡ true)) (sym is)
                (stops_own old.stack.instances j (subst (λ (s : StackWorld). stops s j ≡ true) is h));
          }

      -- and all of them go
      pub own_go : (may : Bool → Type 0) (asked : World) (result : Result (Unit {0}) Status) (new : World) → CalmButOwn asked
          → IsAtRest k asked → EndsQuietly k f asked result new
          → CalmAfter old new
      own_go may asked result new calm rests ends =
          let last = ends_leaves asked result new rests ends in
          record {
            undisturbed = both old asked new calm.undisturbed last.0.undisturbed;
            fewer = λ j h. by_own j h last.1 (calm.fewer j (last.0.fewer j h));
          }
        where
          by_own : (j : ℕ) → stops new.stack j ≡ true → ((m : ℕ) → owns asked m ≡ true → stops new.stack m ≡ false)
              → (stops old.stack j ≡ true) ⊎ (owns asked j ≡ true) → stops old.stack j ≡ true
          by_own j h gone (inl was) = was
          by_own j h gone (inr own) = absurd (true≢false (sym h ∙ gone j own))
