-- What stands while a callback runs: no event of its port changes it.
use Rattle.fm_local.proofs.Words.{[], ◌∷◌, ◌≡◌, Bool, Err, FlowRecord, InstanceId, List, None, Ok, OpId, Option, PreVerdict, Result, Some, Status}
use Rattle.fm_local.proofs.Words.{WorkerId, World, worker_at, ℕ, ◌∙◌, ap, inl, inr, map, refl, cases_Bool, is_number, context_at, state_at}
use Rattle.fm_local.proofs.Words.{ContextKind, CtxId, PreState}
use Rattle.fm_types.specs.Lists.{change_first}
use Rattle.fm_operations.specs.declared.entry.PostState.TheVariants.{Finished}
use Rattle.fm_operations.specs.declared.hold.Hold.{Hold}
use Rattle.fm_operations.specs.Steps.{pre_settled, post_settled}
use Rattle.fm_ctx.specs.declared.object.Object.{Object}
use Rattle.fm_ctx.specs.declared.set_reply.SetMode.{SetMode}
use Rattle.fm_ctx.specs.Table.{Context}
use Rattle.fm_world.proofs.Events.{asked_by, taken_by}
use Rattle.fm_world.specs.ContextEvents.{Allocates, Sets, Gets, Deletes, References, Releases, ReadsBody, WritesBody, Bumps, Callback, SetsIn}
use Rattle.fm_world.specs.ContextEvents.{SetsUnless, SetsOn, callback_of, object_for, set_refused}
use Rattle.fm_world.specs.Events.{FindsHeld, FindsHeldAt, ResumesPost, ResumesPostAt, ResumesPre, ResumesPreAt}
use Rattle.fm_world.specs.Owners.{place_in}
use Rattle.fm_world.specs.declared.set_answer.SetAnswer.{SetAnswer}
use Rattle.fm_filter.specs.Standing.{drain_of, shape_of}
use Rattle.std.specs.List.{cons_option, filter_map}
use Rattle.fm_operations.specs.Entries.{settle_pre, settle_post}
use Rattle.fm_operations.specs.declared.entry.Entry.TheVariants.{Pre, Post}
use Rattle.fm_local.proofs.Words.{Entry, FileTable, IsSound, Operation, Stage, ap₂, arith, changed, false, has_post, operation_at, owed, slice_get, subst, sym, true, true≢false, verdict_counted, ◌&&◌, ◌++◌}
use Rattle.fm_ctx.specs.Bags.{hand_of}
use Rattle.fm_ctx.specs.Table.{ContextTable}
use Rattle.fm_operations.proofs.Holds.{held_post, held_pre}
use Rattle.fm_operations.specs.Sound as flow
use Rattle.fm_operations.specs.Steps.{done_at, pre_leads}
use Rattle.fm_world.proofs.Operations.{told_there}
use Rattle.fm_world.proofs.Resumes.{held_by}
use Rattle.fm_world.specs.Events.{filed_pre, is_held_by, lets_go, of_hand, state_given}
use Rattle.fm_local.specs.Ports.{queued}
use Rattle.fm_local.specs.Waits.{is_between, is_loose, standing_with}
use Rattle.fm_local.proofs.queues.LooseOperations.{alone_granted, busy_at, granted}
use Rattle.fm_local.proofs.queues.Waits.{resumed_shape}

-- what a change of one operation leaves of what all are on
pub map_changed : {A B : Type 0} (f : A → B) (p : A → Bool) (to : A → A) (xs : List A) → ((x : A) → f (to x) ≡ f x) → map f (change_first p to xs) ≡ map f xs
map_changed f p to [] same = refl
map_changed {B = B} f p to (x ∷ xs) same = elim (cases_Bool (p x)) [
  | inl e ↦ rw e (ap (λ (y : B). y ∷ map f xs) (same x))
  | inr e ↦ rw e (ap (λ (ys : List B). f x ∷ ys) (map_changed f p to xs same))
]

-- what is settled drains what it drained
pub drained_same : (f : Entry → Entry) → ((e : Entry) → drain_of (f e) ≡ drain_of e) → (es : List Entry)
    → filter_map drain_of (map f es) ≡ filter_map drain_of es
drained_same f same [] = refl
drained_same f same (e ∷ es) = ap₂ (λ m js. cons_option m js) (same e) (drained_same f same es)

pre_shaped : (state : PreState) (r : FlowRecord) → shape_of (pre_settled state r) ≡ shape_of r
pre_shaped state r =
    ap (λ js. record { number = r.number; operation = r.operation; path = r.path; drained = js }) (drained_same (settle_pre state) same r.entries)
  where
    same : (e : Entry) → drain_of (settle_pre state e) ≡ drain_of e
    same (Pre visit) = refl
    same _ = refl

post_shaped : (r : FlowRecord) → shape_of (post_settled Finished r) ≡ shape_of r
post_shaped r =
    ap (λ js. record { number = r.number; operation = r.operation; path = r.path; drained = js }) (drained_same (settle_post Finished) same r.entries)
  where
    same : (e : Entry) → drain_of (settle_post Finished e) ≡ drain_of e
    same (Post visit) = refl
    same _ = refl

-- ---- an operation that was held goes on

-- what a filter holds has no answer that was handed out
uncollected : (r : FlowRecord) (s : Stage) → flow.IsSound r → r.stage ≡ s → done_at s (owed r.entries) ≡ false → r.collected ≡ false
uncollected r s sound at undone = by_collected r.collected refl
  where
    by_collected : (b : Bool) → r.collected ≡ b → r.collected ≡ false
    by_collected false is = is
    by_collected true is = absurd (true≢false (sym (sound.collected is) ∙ ap (λ t. done_at t (owed r.entries)) at ∙ undone))

let_go : (r : FlowRecord) → r.collected ≡ false → is_between r.stage ≡ true → is_loose r ≡ true
let_go r not between = ap₂ (λ a b. not' a && b) not between
  where
    not' : Bool → Bool
    not' true = false
    not' false = true

leads_between : (hand : List CtxId) (given : PreVerdict) (operation : Operation) (has : Bool) → lets_go given ≡ true
    → is_between (pre_leads (verdict_counted (of_hand hand given) operation has)) ≡ true
leads_between hand given operation has h = grind arith

-- it stands with those that wait as before
goes_on : (old : World) (o : OpId) (r : FlowRecord) (f : FlowRecord → FlowRecord) (resumed : List OpId) → operation_at o old.flow ≡ Some r → is_loose r ≡ false
    → ((x : FlowRecord) → (f x).number.0 ≡ x.number.0) → ((x : FlowRecord) → shape_of (f x) ≡ shape_of x) → is_loose (f r) ≡ true
    → (c : ContextTable) (files : FileTable)
    → standing_with (resumed ++ o ∷ []) (record old { flow = changed o f old.flow; contexts = c; files = files }) ≡ standing_with resumed old
goes_on old o r f resumed at busy same shaped loose c files =
    ap₂ (λ waiting shapes. record { stack = old.stack; workers = old.workers; operations = waiting ∷ shapes })
    (resumed_shape old.flow o r f resumed at busy same loose) (map_changed shape_of (is_number o) f old.flow.operations shaped)

abbrev pub Stands : World → World → Type 0
Stands old new = (resumed : List OpId) → standing_with resumed new ≡ standing_with resumed old

module _ (old : World) (k : WorkerId) (new : World) where
  abbrev After : (T : Type 0) → Result T Status → World → Type 0
  After T result w = Stands old w

  -- ---- contexts

  pub allocate_stands : (kind : ContextKind) (body : List ℕ) (result : Result CtxId Status) → Allocates old k kind body result new → Stands old new
  unfolding Allocates
  allocate_stands kind body result h = taken_by (After CtxId) old k result new _ _ h (λ why resumed. refl)
      (λ at in' v none event resumed. ap (standing_with resumed) event.1)

  pub get_stands : (kind : ContextKind) (result : Result CtxId Status) → Gets old k kind result new → Stands old new
  unfolding Gets
  get_stands kind result h = asked_by (After CtxId) old k result new _ _ h (λ why resumed. refl)
      (λ at in' v none event resumed. ap (standing_with resumed) event.1)

  pub delete_stands : (kind : ContextKind) (wants : Bool) (result : Result (Option CtxId) Status) → Deletes old k kind wants result new → Stands old new
  unfolding Deletes
  delete_stands kind wants result h = asked_by (After (Option CtxId)) old k result new _ _ h (λ why resumed. refl)
      (λ at in' v none event resumed. ap (standing_with resumed) event.1)

  pub reference_stands : (c : CtxId) (result : Result (Unit {0}) Status) → References old k c result new → Stands old new
  unfolding References
  reference_stands c result h = asked_by (After (Unit {0})) old k result new _ _ h (λ why resumed. refl)
      (λ at in' v none event resumed. ap (standing_with resumed) event)

  pub release_stands : (c : CtxId) (result : Result (Unit {0}) Status) → Releases old k c result new → Stands old new
  unfolding Releases
  release_stands c result h = asked_by (After (Unit {0})) old k result new _ _ h (λ why resumed. refl)
      (λ at in' v none event resumed. ap (standing_with resumed) event)

  pub read_stands : (c : CtxId) (result : Result (List ℕ) Status) → ReadsBody old k c result new → Stands old new
  unfolding ReadsBody
  read_stands c result h = taken_by (After (List ℕ)) old k result new _ _ h (λ why resumed. refl)
      (λ at in' v none event resumed. ap (standing_with resumed) event.1)

  pub write_stands : (c : CtxId) (bytes : List ℕ) (result : Result (Unit {0}) Status) → WritesBody old k c bytes result new → Stands old new
  unfolding WritesBody
  write_stands c bytes result h = asked_by (After (Unit {0})) old k result new _ _ h (λ why resumed. refl)
      (λ at in' v none event resumed. ap (standing_with resumed) event)

  pub bump_stands : (c : CtxId) (place by : ℕ) (result : Result ℕ Status) → Bumps old k c place by result new → Stands old new
  unfolding Bumps
  bump_stands c place by result h = asked_by (After ℕ) old k result new _ _ h (λ why resumed. refl)
      (λ at in' v none event resumed. ap (standing_with resumed) event.1)

  pub set_stands : (c : CtxId) (mode : SetMode) (wants : Bool) (result : SetAnswer) → Sets old k c mode wants result new → Stands old new
  unfolding Sets
  set_stands c mode wants result h = by_callback (callback_of old k) h
    where
      by_object : (m : Option Context) (o : Option Object) → SetsOn old k c mode wants result new m o → Stands old new
      by_object (Some x) (Some object) h resumed = ap (standing_with resumed) h.1
      by_object (Some x) None h resumed = absurd h
      by_object None o h resumed = absurd h

      by_refusal : (at : Callback) (m : Option Status) → SetsUnless old k c mode wants result new at m → Stands old new
      by_refusal at (Some why) h resumed = ap (standing_with resumed) h.1
      by_refusal at None h resumed = by_object (context_at old.contexts.slots c) (object_for at (context_at old.contexts.slots c)) h resumed

      by_callback : (m : Option Callback) → SetsIn old k c mode wants result new m → Stands old new
      by_callback None h resumed = ap (standing_with resumed) h.1
      by_callback (Some at) h resumed = by_refusal at (set_refused old k c at) h resumed

  -- ---- held operations

  pub held_stands : (kind : Hold) (result : Result (Option OpId) Status) → FindsHeld old k kind result new → Stands old new
  unfolding FindsHeld
  held_stands kind result h = by_place (place_in (worker_at old.workers k)) h
    where
      by_place : (m : Option InstanceId) → FindsHeldAt old kind result new m → Stands old new
      by_place None h resumed = ap (standing_with resumed) h.1
      by_place (Some i) h resumed = ap (standing_with resumed) h.3

  pub resume_pre_stands : (o : OpId) (given : PreVerdict) (result : Result (Unit {0}) Status) → IsSound old → ResumesPre old k o given result new
      → (resumed : List OpId) → standing_with (queued o result resumed) new ≡ standing_with resumed old
  unfolding ResumesPre
  resume_pre_stands o given result sound h resumed = by_place (place_in (worker_at old.workers k)) result h
    where
      by_place : (m : Option InstanceId) (result : Result (Unit {0}) Status) → ResumesPreAt old k o given result new m
          → standing_with (queued o result resumed) new ≡ standing_with resumed old
      by_place None result h = subst (λ (r : Result (Unit {0}) Status). standing_with (queued o r resumed) new
          ≡ standing_with resumed old) (sym h.0) (ap (standing_with resumed) h.1)
      by_place (Some i) (Err why) h = ap (standing_with resumed) h.1
      by_place (Some i) (Ok done) h =
          let free = granted (lets_go given) (is_held_by old Hold.Pre o i) Status.BadRequest Status.NotPended h.0 in
          let x = held_by old Hold.Pre o i sound.under_way free.1 in
          let at = (held_pre i.0 x.row x.sound x.held).0 in
          let state = state_at old k o i given in
          let leads : is_between (pre_leads state) ≡ true =
          ap (λ s. is_between (pre_leads s)) (told_there (state_given old.stack (hand_of old.contexts.hands k.0) i given) PreState.Passed o old.flow x.row x.at)
          ∙ leads_between (hand_of old.contexts.hands k.0) given x.row.operation
          (has_post old.stack (slice_get old.stack.instances i.0) x.row.operation) free.0 in
          ap (standing_with (resumed ++ o ∷ [])) h.1.1
          ∙ goes_on old o x.row (pre_settled state) resumed x.at (busy_at Stage.PreHeld x.row at refl) (λ r. refl) (pre_shaped state)
          (let_go (pre_settled state x.row) (uncollected x.row Stage.PreHeld x.sound at refl) leads) new.contexts
          (filed_pre old o (changed o (pre_settled state) old.flow) state)

  pub resume_post_stands : (o : OpId) (result : Result (Unit {0}) Status) → IsSound old → ResumesPost old k o result new
      → (resumed : List OpId) → standing_with (queued o result resumed) new ≡ standing_with resumed old
  unfolding ResumesPost
  resume_post_stands o result sound h resumed = by_place (place_in (worker_at old.workers k)) result h
    where
      by_place : (m : Option InstanceId) (result : Result (Unit {0}) Status) → ResumesPostAt old o result new m
          → standing_with (queued o result resumed) new ≡ standing_with resumed old
      by_place None result h = subst (λ (r : Result (Unit {0}) Status). standing_with (queued o r resumed) new
          ≡ standing_with resumed old) (sym h.0) (ap (standing_with resumed) h.1)
      by_place (Some i) (Err why) h = ap (standing_with resumed) h.1
      by_place (Some i) (Ok done) h =
          let x = held_by old Hold.Post o i sound.under_way (alone_granted (is_held_by old Hold.Post o i) Status.NotPended h.0) in
          let at = (held_post i.0 x.row x.sound x.held).0 in
          ap (standing_with (resumed ++ o ∷ [])) h.1
          ∙ goes_on old o x.row (post_settled Finished) resumed x.at (busy_at Stage.PostHeld x.row at refl) (λ r. refl) post_shaped
          (let_go (post_settled Finished x.row) (uncollected x.row Stage.PostHeld x.sound at refl) refl) old.contexts old.files
