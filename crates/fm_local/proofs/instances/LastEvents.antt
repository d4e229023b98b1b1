-- The end of an instance isn't refused where nothing is under way, it is being emptied and nothing is due.
use Rattle.fm_local.proofs.Words.{[], ◌∷◌, ◌≡◌, Bool, Err, Instance, InstanceId, List, None, Ok, Option, Result, Some, StackWorld, Status, WorkerId}
use Rattle.fm_local.proofs.Words.{World, false, option_and_then, slice_get, suc, true, zero, ℕ, ◌+◌, ◌==◌, ◌||◌, ◌∙◌, IsOk, ap, ap₂, arith, cond}
use Rattle.fm_local.proofs.Words.{count_by, eq-eqb, inl, inr, nat_lt, not, option_map, refl, subst, sym, none-some, same_Some, list_any, StartMark}
use Rattle.fm_local.proofs.Words.{context_at, Finishes, is_stopping_phase, is_stopping_row, IsSound, CtxId, Phase, updated, is_idle, Place}
use Rattle.fm_local.proofs.Words.{is_leaving, is_leaving_phase, HasNoneDue, CompletesQuietly, StartsQuietly, IsAtRest, Tidies}
use Rattle.std.specs.Prelude.{slice_index_or}
use Rattle.fm_types.specs.Refusals.{first_of}
use Rattle.fm_stack.specs.Detaching as stack
use Rattle.fm_stack.specs.Events.{is_emptying_at}
use Rattle.fm_stack.specs.Instances.{is_completing, is_emptying, is_gone_at}
use Rattle.fm_ctx.specs.Bags.{cleans, places, references}
use Rattle.fm_ctx.specs.Counting.{is_open, open_of}
use Rattle.fm_ctx.specs.Objects.{same_owner}
use Rattle.fm_ctx.specs.Table.{Context, Slot, context_in, owner_at}
use Rattle.fm_ctx.specs.declared.owner.Owner.{Owner}
use Rattle.fm_world.proofs.Cases.{none_any}
use Rattle.fm_operations.specs.Initiators.{begun_by, is_begun_by}
use Rattle.fm_operations.specs.Record.{FlowRecord}
use Rattle.fm_world.specs.ContextEvents.{OwnsOnlyWaiting, WaitsIfBusy, finish_refused, left_over}
use Rattle.fm_world.specs.Workers.{cleanup_in}
use Rattle.fm_local.proofs.instances.Detaches.{complete_stack, completes_leaves, not_completing, start_refused, start_stack, starts_leaves}
use Rattle.fm_local.proofs.instances.Rest.{by_tidying, rests_on}

-- ---- lists

-- what passes a test that some element passes
abbrev Passes : {X : Type 0} → (X → Bool) → List X → Type 0
Passes {X} p xs = (j : ℕ) × (x : X) × (slice_get xs j ≡ Some x) × (p x ≡ true)

any_first : {X : Type 0} (p : X → Bool) (x : X) (xs : List X) (b : Bool) → p x ≡ b → b || list_any p xs ≡ true
    → (list_any p xs ≡ true → Passes p xs) → Passes p (x ∷ xs)
any_first p x xs true is h rest = (zero, x, refl, is)
any_first p x xs false is h rest = (suc (rest h).0, (rest h).1, (rest h).2, (rest h).3)

any_at : {X : Type 0} (p : X → Bool) (xs : List X) → list_any p xs ≡ true → Passes p xs
any_at p [] h = cc
any_at p (x ∷ xs) h = any_first p x xs (p x) refl h (any_at p xs)

-- where every place is empty, nothing is being cleaned up
none_cleans : (c : CtxId) (xs : List (Option CtxId)) → ((j : ℕ) → slice_index_or xs j None ≡ None) → count_by (cleans c) xs ≡ 0
none_cleans c xs none = none_any (cleans c) xs (none_of xs none)
  where
    none_of : (xs : List (Option CtxId)) → ((j : ℕ) → slice_index_or xs j None ≡ None) → list_any (cleans c) xs ≡ false
    none_of [] none = refl
    none_of (None ∷ xs) none = none_of xs (λ j. none (suc j))
    none_of (Some d ∷ xs) none = absurd (none-some d (sym (none zero)))

-- ---- a teardown leads there

abbrev phase_in : Option Instance → Option Phase
phase_in m = option_map (λ (row : Instance). row.phase) m

-- a change that leaves the phase
same_phase : (g : Instance → Instance) → ((row : Instance) → (g row).phase ≡ row.phase) → (rows : List Instance) (n : ℕ)
    → phase_in (slice_get (updated g rows n) n) ≡ phase_in (slice_get rows n)
same_phase g keeps [] n = refl
same_phase g keeps (x ∷ rows) zero = ap Some (keeps x)
same_phase g keeps (x ∷ rows) (suc n) = same_phase g keeps rows n

-- and one that makes it another
made_phase : (p : Phase) (rows : List Instance) (n : ℕ) (q : Phase) → phase_in (slice_get rows n) ≡ Some q
    → phase_in (slice_get (updated (stack.in_phase p) rows n) n) ≡ Some p
made_phase p [] n q there = absurd (none-some q there)
made_phase p (x ∷ rows) zero q there = refl
made_phase p (x ∷ rows) (suc n) q there = made_phase p rows n q there

emptying_by : (m : Option Instance) (p : Phase) → phase_in m ≡ Some p → is_emptying p ≡ true → is_emptying_at m ≡ true
emptying_by None p there is = absurd (none-some p there)
emptying_by (Some row) p there is = ap is_emptying (same_Some row.phase p there) ∙ is

stopping_by : (m : Option Instance) (p : Phase) → phase_in m ≡ Some p → is_stopping_row m ≡ is_stopping_phase p
stopping_by None p there = absurd (none-some p there)
stopping_by (Some row) p there = ap is_stopping_phase (same_Some row.phase p there)

module _ (k : WorkerId) (i : InstanceId) where
  abbrev phase_at : World → Option Phase
  phase_at w = phase_in (slice_get w.stack.instances i.0)

  starts_keep : (old new : World) → IsAtRest k old → StartsQuietly k i old new → phase_at new ≡ phase_at old
  starts_keep old new rests (inl (why, h)) = ap phase_at (start_refused k i old why new h)
  starts_keep old new rests (inr (started, back, starts, returns, tidies)) =
      ap (λ (s : StackWorld). phase_in (slice_get s.instances i.0)) (start_stack k i old rests.idle started starts back new returns tidies)
      ∙ same_phase (stack.with_start StartMark.Returned) (λ row. refl) (updated (stack.with_start StartMark.Made) old.stack.instances i.0) i.0
      ∙ same_phase (stack.with_start StartMark.Made) (λ row. refl) old.stack.instances i.0

  completes_keep : (old new : World) → IsAtRest k old → (p : Phase) → phase_at old ≡ Some p → is_leaving_phase (Some p) ≡ true
      → is_completing p ≡ false → CompletesQuietly k i old new
      → is_emptying_at (slice_get new.stack.instances i.0) ≡ true
  completes_keep old new rests p there leaves over (inl (still, same)) =
      ap (λ (w : World). is_emptying_at (slice_get w.stack.instances i.0)) same
      ∙ emptying_by (slice_get old.stack.instances i.0) p there (left p leaves over (sym (stopping_by (slice_get old.stack.instances i.0) p there) ∙ still))
    where
      left : (p : Phase) → is_leaving_phase (Some p) ≡ true → is_completing p ≡ false → is_stopping_phase p ≡ false → is_emptying p ≡ true
      left Phase.Emptying leaves not still = refl
      left _ leaves not still = cc
  completes_keep old new rests p there leaves over (inr (completing, back, completes, returns, tidies)) =
      ap (λ (s : StackWorld). is_emptying_at (slice_get s.instances i.0)) (complete_stack k i old rests.idle completing completes back new returns tidies)
      ∙ emptying_by (slice_get (updated (stack.in_phase Phase.Emptying)
      (updated (stack.in_phase Phase.Completing) old.stack.instances i.0) i.0) i.0) Phase.Emptying
      (made_phase Phase.Emptying (updated (stack.in_phase Phase.Completing) old.stack.instances i.0) i.0 Phase.Completing
      (made_phase Phase.Completing old.stack.instances i.0 p there)) refl

  -- an instance whose teardown is under way is being emptied behind it
  pub comes_to_end : (old started completed : World) → IsSound old → IsAtRest k old → IsAtRest k started → is_leaving old i ≡ true
      → StartsQuietly k i old started
      → CompletesQuietly k i started completed → is_emptying_at (slice_get completed.stack.instances i.0) ≡ true
  comes_to_end old started completed sound rests still leaves starts completes = by_row (slice_get old.stack.instances i.0) refl leaves
    where
      by_row : (m : Option Instance) → slice_get old.stack.instances i.0 ≡ m → is_leaving_phase (phase_in m) ≡ true
          → is_emptying_at (slice_get completed.stack.instances i.0) ≡ true
      by_row None there leaves = cc
      by_row (Some row) there leaves =
          completes_keep started completed still row.phase (starts_keep old started rests starts ∙ ap phase_in there) leaves
          (not_completing k i old sound rests row there) completes

-- ---- nothing is left of the instance

module _ (k : WorkerId) (i : InstanceId) (w : World) (sound : IsSound w) (rests : IsAtRest k w) (none : w.contexts.due ≡ []) where
  idle_cleans : (m : Option Place) (j : ℕ) → slice_get w.workers j ≡ m → cleanup_in m ≡ None
  idle_cleans None j at = refl
  idle_cleans (Some a) j at = ap (λ b. cleanup_in (Some b)) (rests.all j a at)

  nobody_cleans : (j : ℕ) → slice_index_or w.contexts.cleaning j None ≡ None
  nobody_cleans j = sound.owned.cleaning j ∙ idle_cleans (slice_get w.workers j) j refl

  nowhere : (c : CtxId) → places w.contexts.due w.contexts.cleaning c ≡ 0
  unfolding places references
  nowhere c = ap₂ (λ due n. references due c + n) none (none_cleans c w.contexts.cleaning nobody_cleans)

  owns_none : OwnsOnlyWaiting w i → (c : CtxId) → owner_at w.contexts.slots c ≡ Some (Owner.Instance i) → ⊥
  owns_none waiting c owned = one_none (sym (nowhere c) ∙ waiting c owned)
    where
      one_none : ◌≡◌ {A = ℕ} 0 1 → ⊥
      one_none h = cc

  same_instance : (o : Owner) → same_owner (Owner.Instance i) o ≡ true → o ≡ Owner.Instance i
  same_instance (Owner.Instance j) h = grind arith
  same_instance (Owner.Filter f) h = cc

  open_owned : (s : Slot) (m : Option Context) → s.context ≡ m → is_open (Owner.Instance i) m ≡ true → (c : CtxId)
      → c.generation ≡ s.generation → slice_get w.contexts.slots c.slot ≡ Some s
      → owner_at w.contexts.slots c ≡ Some (Owner.Instance i)
  unfolding context_at
  open_owned s None is opened c named there = cc
  open_owned s (Some x) is opened c named there =
      ap (λ m. option_map (λ (y : Context). y.owner) (option_and_then (context_in c) m)) there
      ∙ ap (λ b. option_map (λ (y : Context). y.owner) (cond b s.context None)) (same_generation c.generation s.generation named)
      ∙ ap (λ m. option_map (λ (y : Context). y.owner) m) is ∙ ap Some (same_instance x.owner opened)
    where
      same_generation : (a b : ℕ) → a ≡ b → a == b ≡ true
      same_generation a b h = grind (arith, eq-eqb)

  none_open : OwnsOnlyWaiting w i → open_of w.contexts.slots (Owner.Instance i) ≡ 0
  none_open waiting = by_any (list_any opens w.contexts.slots) refl
    where
      opens : Slot → Bool
      opens s = is_open (Owner.Instance i) s.context

      by_any : (b : Bool) → list_any opens w.contexts.slots ≡ b → open_of w.contexts.slots (Owner.Instance i) ≡ 0
      by_any false h = none_any opens w.contexts.slots h
      by_any true h =
          let at = any_at opens w.contexts.slots h in
          absurd (owns_none waiting (record { slot = at.0; generation = at.1.generation })
          (open_owned at.1 at.1.context refl at.3 (record { slot = at.0; generation = at.1.generation }) refl at.2))

  none_over : OwnsOnlyWaiting w i → left_over w i ≡ 0
  none_over waiting =
      let none_begun : begun_by i.0 w.flow ≡ 0 = ap (λ (rs : List FlowRecord). count_by (is_begun_by i.0) rs) rests.operations in
      omega (arith, none_open waiting, none_begun)

  -- so its end isn't refused
  pub finishes : is_emptying_at (slice_get w.stack.instances i.0) ≡ true → (why : Status) (new : World) → Finishes w i (Err why) new
      → WaitsIfBusy w i (Err why) → ⊥
  unfolding Finishes
  finishes emptying why new h waits =
      let is = other (left_over w i) why (sym (busy emptying) ∙ h.0) in
      let waiting : OwnsOnlyWaiting w i = subst (λ (s : Status). WaitsIfBusy w i (Err s)) is waits in
      none-some why (sym (busy emptying ∙ ap (λ n. cond (nat_lt 0 n) (Some (Status.Busy n)) None) (none_over waiting)) ∙ h.0)
    where
      refusal : (m : Option Instance) (n : ℕ) → is_emptying_at m ≡ true
          → first_of ((is_gone_at m, Status.NoInstance) ∷ (not (is_emptying_at m), Status.WrongStep) ∷ (nat_lt 0 n, Status.Busy n)
          ∷ []) ≡ cond (nat_lt 0 n) (Some (Status.Busy n)) None
      refusal None n h = cc
      refusal (Some row) n h = grind arith

      busy : is_emptying_at (slice_get w.stack.instances i.0) ≡ true
          → finish_refused w i ≡ cond (nat_lt 0 (left_over w i)) (Some (Status.Busy (left_over w i))) None
      busy emptying = refusal (slice_get w.stack.instances i.0) (left_over w i) emptying

      other : (n : ℕ) (why : Status) → cond (nat_lt 0 n) (Some (Status.Busy n)) None ≡ Some why → why ≡ Status.Busy n
      other n why h = grind arith

-- a teardown that is under way comes to its end
module _ (k : WorkerId) (i : InstanceId) (old mid late tidy : World) (sound : IsSound old) (rests : IsAtRest k old) (starts : StartsQuietly k i old mid)
    (completes : CompletesQuietly k i mid late) (tidies : Tidies late tidy) where
  mid_rests : IsAtRest k mid
  mid_rests = rests_on k old mid (starts_leaves k i old mid rests.idle starts).undisturbed rests

  late_rests : IsAtRest k late
  late_rests = rests_on k mid late (completes_leaves k i mid late mid_rests.idle completes).0.undisturbed mid_rests

  pub ends_well : is_leaving old i ≡ true → IsSound tidy → HasNoneDue k tidy → (result : Result (Unit {0}) Status) (new : World)
      → Finishes tidy i result new → WaitsIfBusy tidy i result
      → IsOk result
  ends_well leaves still none (Ok done) new h waits = refl
  ends_well leaves still none (Err why) new h waits =
      let emptying = ap (λ (s : StackWorld). is_emptying_at (slice_get s.instances i.0)) tidies.stack
      ∙ comes_to_end k i old mid late sound rests mid_rests leaves starts completes in
      let calm = rests_on k late tidy (by_tidying late tidy tidies) late_rests in
      absurd (finishes k i tidy still calm (none (ap is_idle calm.idle)) emptying why new h waits)
