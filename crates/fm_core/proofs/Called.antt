-- The events of callbacks on contexts, from what the layer of contexts did.
use Rattle.fm_core.proofs.Words.{caller_of, has_kind_at, owner_for, IsTied, Caller, there_changed, new_context, ContextsKept, IsRefusalOrMemory, Bool, Err}
use Rattle.fm_core.proofs.Words.{List, None, Ok, Option, Result, Some, ap, is_some, not, refl, subst, sym, true, ℕ, ◌∙◌, ◌≡◌, allocate_refusal, Context}
use Rattle.fm_core.proofs.Words.{ContextTable, context_at, Owner, FlowTable, Answers, AnswersOrMemory, ContextKind, CtxId, WorkerId, Status, Callback, before}
use Rattle.fm_core.proofs.Words.{callback_of, with_contexts, object_by, row_at, World, length, option_map, slice_get, none-some, same_Some}
use Rattle.fm_ctx.specs.Births.{kept_allocated, IsNew, allocated}
use Rattle.fm_ctx.specs.Bodies.{rewritten, with_body}
use Rattle.fm_ctx.proofs.Carried.{carried_allocated}
use Rattle.fm_world.specs.ContextEvents.{InCallbackOf, allocate_refused, InCallback, context_by, Allocates}
use Rattle.fm_world.proofs.Callbacks.{callback_parts}
use Rattle.fm_core.proofs.Holding.{tied_table}
use Rattle.fm_world.specs.Owners.{has_kind, owner_by}
use Rattle.fm_types.specs.declared.context_kind.ContextKind.TheVariants as kind
use Rattle.fm_core.specs.Callers as caller

-- ---- whose callback it is

called : (w : World) (k : WorkerId) (x : Caller) → option_map caller_of (callback_of w k) ≡ Some x
    → (at : Callback) × (callback_of w k ≡ Some at) × (caller_of at ≡ x)
called w k x h = at_callback (callback_of w k) refl h
  where
    at_callback : (m : Option Callback) → callback_of w k ≡ m → option_map caller_of m ≡ Some x
        → (at : Callback) × (callback_of w k ≡ Some at) × (caller_of at ≡ x)
    at_callback None is h = absurd (none-some x h)
    at_callback (Some at) is h = (at, is, same_Some (caller_of at) x h)

-- of the state as the code finds it
pub called_in : {old now : World} (k : WorkerId) (x : Caller) → old ≡ now → option_map caller_of (callback_of now k) ≡ Some x
    → (at : Callback) × (callback_of old k ≡ Some at) × (caller_of at ≡ x)
called_in {old} k x same h = called old k x (subst (λ (w : World). option_map caller_of (callback_of w k) ≡ Some x) (sym same) h)

pub owner_same : (at : Callback) (k : ContextKind) → owner_for (caller_of at) k ≡ owner_by at.row at.instance k
owner_same at kind.Volume = refl
owner_same at k = refl

pub object_same : (at : Callback) (k : ContextKind) → caller.object_for (caller_of at) k ≡ object_by at.row at.instance at.file k
object_same at kind.Volume = refl
object_same at k = refl

-- the row of the callback's instance
pub callback_row : (w : World) (k : WorkerId) (at : Callback) → callback_of w k ≡ Some at → row_at w.stack at.instance ≡ Some at.row
callback_row w k at is = (callback_parts w.stack _ _ at is).1

-- ---- an event in a callback

pub in_callback : {T : Type 0} (old : World) (k : WorkerId) (result : Result T Status) (new : World) (Event : Callback → Type 0) (at : Callback)
    → callback_of old k ≡ Some at
    → Event at → InCallback old k result new Event
in_callback old k result new Event at is h = subst (InCallbackOf result old new Event) (sym is) h

-- what the layer answers, the World does
pub answers_up : {T : Type 0} (w : World) (kept after : ContextsKept) (refusal : Option Status) (result : Result T Status) (E F : T
    → Type 0) → ((v : T) → E v → F v)
    → Answers refusal result kept after E → Answers refusal result (with_contexts w kept.table) (with_contexts w after.table) F
answers_up w kept after refusal (Ok v) E F f h = (h.0, f v h.1)
answers_up w kept after refusal (Err why) E F f h = (h.0, ap (λ (x : ContextsKept). with_contexts w x.table) h.1)

-- as an event in a callback
pub comes_up : {T : Type 0} (w : World) {now : World} (k : WorkerId) (x : Caller) (kept after : ContextsKept) (refusal : Option Status)
    (result : Result T Status)
    (E F : T → Type 0) → with_contexts w kept.table ≡ now → option_map caller_of (callback_of now k) ≡ Some x → ((v : T) → E v → F v)
    → Answers refusal result kept after E
    → InCallback (with_contexts w kept.table) k result (with_contexts w after.table)
    (λ _. Answers refusal result (with_contexts w kept.table) (with_contexts w after.table) F)
comes_up w k x kept after refusal result E F same is f h =
    let at = called_in k x same is in
    in_callback (with_contexts w kept.table) k result (with_contexts w after.table) _ at.0 at.1 (answers_up w kept after refusal result E F f h)

pub answers_tied : {T : Type 0} (kept after : ContextsKept) (f : FlowTable) (refusal : Option Status) (result : Result T Status) (E : T → Type 0)
    → ((v : T) → E v → IsTied after f)
    → Answers refusal result kept after E → IsTied kept f → IsTied after f
answers_tied kept after f refusal (Ok v) E g h tied = g v h.1
answers_tied kept after f refusal (Err why) E g h tied = subst (λ x. IsTied x f) (sym h.1) tied

-- a table that changes where each context stays
pub table_tied : (kept after : ContextsKept) (t : ContextTable) (f : FlowTable)
    → ((c : CtxId) → is_some (context_at t.slots c) ≡ is_some (context_at kept.table.slots c))
    → after ≡ record kept { table = t } → IsTied kept f → IsTied after f
table_tied kept after t f there e tied = subst (λ x. IsTied x f) (sym e) (tied_table kept t f there tied)

-- ---- references

-- ---- bodies

pub rewritten_there : (t : ContextTable) (c : CtxId) (bytes : List ℕ) (d : CtxId) → is_some (context_at (rewritten t c bytes).slots d)
    ≡ is_some (context_at t.slots d)
rewritten_there t c bytes d = there_changed (with_body bytes) t.slots c d

-- ---- allocate

registered : (w : World) (k : WorkerId) (at : Callback) (what : ContextKind) (b : Bool) → callback_of w k ≡ Some at
    → has_kind_at w.stack (slice_get w.stack.instances at.instance.0) what ≡ b → has_kind w.stack at.row what ≡ b
registered w k at what b is h = sym (ap (λ m. has_kind_at w.stack m what) (callback_row w k at is)) ∙ h

pub allocated_up : (w : World) {now : World} (k : WorkerId) (what : ContextKind) (body : List ℕ) (x : Caller) (owner' : Owner) (result : Result CtxId Status)
    (kept after : ContextsKept)
    → with_contexts w kept.table ≡ now → option_map caller_of (callback_of now k) ≡ Some x
    → has_kind_at w.stack (slice_get w.stack.instances x.instance.0) what ≡ true → owner' ≡ owner_for x what
    → AnswersOrMemory (allocate_refusal kept.table k.0 body) result kept after (λ (c : CtxId). IsNew kept.table.slots c
    × (after ≡ kept_allocated kept k.0 c (new_context what owner' x.volume body)))
    → Allocates now k what body result (with_contexts w after.table)
unfolding Allocates
allocated_up w k what body x owner' result kept after now_is is h own event =
    subst (λ (v : World). Allocates v k what body result (with_contexts w after.table)) now_is
    (in_callback (with_contexts w kept.table) k result (with_contexts w after.table) _ at.0 at.1 (by_result result event))
  where
    at : (at : Callback) × (callback_of w k ≡ Some at) × (caller_of at ≡ x)
    at = called_in k x now_is is

    kind' : has_kind w.stack at.0.row what ≡ true
    kind' = registered w k at.0 what true at.1 (ap (λ (y : Caller). has_kind_at w.stack (slice_get w.stack.instances y.instance.0) what) at.2 ∙ h)

    same : new_context what owner' x.volume body ≡ context_by at.0 what body
    same =
        ap (λ o. new_context what o x.volume body) (own ∙ ap (λ (y : Caller). owner_for y what) (sym at.2) ∙ owner_same at.0 what)
        ∙ ap (λ (y : Caller). new_context what (owner_by at.0.row at.0.instance what) y.volume body) (sym at.2)

    free : (r : Option Status) → before (not (has_kind w.stack at.0.row what)) Status.NotRegistered r ≡ r
    free r = ap (λ b. before (not b) Status.NotRegistered r) kind'

    by_result : (r : Result CtxId Status)
        → AnswersOrMemory (allocate_refusal kept.table k.0 body) r kept after (λ (c : CtxId). IsNew kept.table.slots c
        × (after ≡ kept_allocated kept k.0 c (new_context what owner' x.volume body)))
        → AnswersOrMemory (allocate_refused (with_contexts w kept.table) k what body at.0) r (with_contexts w kept.table) (with_contexts w after.table)
        (λ (c : CtxId). IsNew kept.table.slots c × (with_contexts w after.table ≡ with_contexts w (allocated kept.table k.0 c (context_by at.0 what body))))
    by_result (Ok c) e = (
      free (allocate_refusal kept.table k.0 body) ∙ e.0,
      (e.1.0, ap (λ (y : ContextsKept). with_contexts w y.table) e.1.1 ∙ ap (λ y. with_contexts w (allocated kept.table k.0 c y)) same),
    )
    by_result (Err why) e =
        (subst (λ r. IsRefusalOrMemory r why) (sym (free (allocate_refusal kept.table k.0 body))) e.0, ap (λ (y : ContextsKept). with_contexts w y.table) e.1)

pub allocate_tied : (kept after : ContextsKept) (f : FlowTable) (k : WorkerId) (refusal : Option Status) (x : Context) (result : Result CtxId Status)
    → length kept.carried ≡ length kept.table.slots
    → AnswersOrMemory refusal result kept after (λ (c : CtxId). IsNew kept.table.slots c × (after ≡ kept_allocated kept k.0 c x))
    → IsTied kept f → IsTied after f
allocate_tied kept after f k refusal x (Ok c) matched h tied =
    subst (λ y. IsTied y f) (sym h.1.1) (λ d. sym (carried_allocated kept k.0 c x h.1.0 matched d) ∙ tied d)
allocate_tied kept after f k refusal x (Err why) matched h tied = subst (λ y. IsTied y f) (sym h.1) tied
