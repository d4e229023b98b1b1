-- Drains that are taken before their turn, from what their parts did.
use Rattle.fm_core.proofs.Words.{IsState, IsTied, MayBring, kept_brought, drains_in, early_drain_of, ContextsKept, carried_of, DrainTaken, idle_there}
use Rattle.fm_core.proofs.Words.{empty_hand, Place, Bool, None, Ok, Option, Some, [], ap, arith, refl, subst, sym, true, ◌+◌, ◌<◌, ◌∙◌, ◌∷◌, ◌≡◌, hand_of}
use Rattle.fm_core.proofs.Words.{Leaves, ContextTable, carried_in, FlowTable, carried, operation_at, Instance, CtxId, InstanceId, OpId, WorkerId, Status}
use Rattle.fm_core.proofs.Words.{is_gone_at, is_idle, worker_at, World, length, slice_get_within}
use Rattle.fm_callback_data.specs.declared.verdict.Completion.{Completion}
use Rattle.fm_operations.specs.Drains.{RunsEarly, drain_done_of}
use Rattle.fm_operations.proofs.Drains.{early_carried, drain_done_carried}
use Rattle.fm_core.proofs.Cleaned.{phase_in}
use Rattle.fm_world.specs.EarlyDrains.{is_stopping_at}
use Rattle.fm_world.proofs.Draining.{early_there}
use Rattle.fm_core.proofs.Holding.{may_bring, tied_brought}
use Rattle.fm_core.proofs.Torn.{left_tied}
use Rattle.fm_world.specs.Events.{brought}
use Rattle.fm_types.specs.Refusals as refusals

-- ---- a drain is taken

pub frees : (row : Option Instance) (b : Bool) → drains_in (phase_in row) ≡ Ok b
    → (refusals.first_of ((is_gone_at row, Status.NoInstance) ∷ []) ≡ None) × (is_stopping_at row ≡ b)
frees None b h = grind arith
frees (Some row) b h = grind arith

pub brought_table : (kept : ContextsKept) (k : WorkerId) (m : Option CtxId) → (kept_brought kept k.0 m).table ≡ brought kept.table k m
brought_table kept k None = refl
brought_table kept k (Some c) = refl

-- the completion's reference goes from those that are carried into the hand
given : (old : World) (i : InstanceId) (o : OpId) (completion : Completion) (t : FlowTable)
    → DrainTaken i old.flow (Some (o, completion)) t → (kept : ContextsKept) → IsState old kept
    → (c : CtxId) → carried c old.flow ≡ carried c t + carried_in c (record { number = 0; context = completion.context })
given old i o completion t taken kept s c =
    early_carried old.flow o i completion taken.owed c s.sound.under_way.flow ∙ ap (λ (x : FlowTable). carried c x + carried_in c completion) (sym taken.after)

pub take_brings : {old now : World} {kept : ContextsKept} (k : WorkerId) (i : InstanceId) (o : OpId) (completion : Completion)
    (t : FlowTable) → IsState old kept → old ≡ now
    → is_idle (worker_at now.workers k) ≡ true → old.contexts ≡ kept.table → DrainTaken i old.flow (Some (o, completion)) t
    → MayBring kept k.0 completion.context
take_brings {old} {now} {kept} k i o completion t s same idle contexts taken =
    let at = idle_there old.workers k (subst (λ (w : World). is_idle (worker_at w.workers k) ≡ true) (sym same) idle) in
    may_bring kept k completion.context old.flow t (subst (λ n. k.0 < n) s.sound.under_way.hands (slice_get_within old.workers k.0 Place.Idle at))
    (sym (ap (λ (x : ContextTable). hand_of x.hands k.0) contexts) ∙ empty_hand old k Place.Idle at refl s.sound.owned)
    (given old i o completion t taken kept s) s.tied

pub take_tied : {old : World} {kept : ContextsKept} (k : WorkerId) (i : InstanceId) (o : OpId) (completion : Completion)
    (t : FlowTable) (after : ContextsKept) → IsState old kept
    → DrainTaken i old.flow (Some (o, completion)) t → length kept.carried ≡ length kept.table.slots
    → after ≡ kept_brought kept k.0 completion.context → IsTied after t
take_tied {old} {kept} k i o completion t after s taken matched brings =
    subst (λ x. IsTied x t) (sym brings) (tied_brought kept k completion.context old.flow t matched (given old i o completion t taken kept s) s.tied)

-- ---- it returns

pub early_is : (m : Option Place) (p : OpId × InstanceId) → early_drain_of m ≡ Some p → m ≡ Some (Place.EarlyDrain p.0 p.1)
early_is m p h = grind (arith, h)

pub runs_early : {old : World} {kept : ContextsKept} (k : WorkerId) (o : OpId) (i : InstanceId) → IsState old kept
    → worker_at old.workers k ≡ Some (Place.EarlyDrain o i)
    → RunsEarly i (operation_at o old.flow)
runs_early {old} k o i s at = let there = early_there old k o i at s.sound.under_way in subst (RunsEarly i) (sym there.1) there.2

pub early_tied : {old : World} {kept : ContextsKept} (k : WorkerId) (o : OpId) (i : InstanceId) (t : FlowTable) (left : ContextsKept) → IsState old kept
    → worker_at old.workers k ≡ Some (Place.EarlyDrain o i) → t ≡ drain_done_of o i old.flow
    → Leaves (carried_of kept) kept.table left.table k.0 → left.carried ≡ kept.carried → IsTied left t
early_tied {old} {kept} k o i t left s at over leaves same c =
    let there = early_there old k o i at s.sound.under_way in
    left_tied kept left k.0 old.flow leaves same s.tied c
    ∙ sym (drain_done_carried old.flow o i there.0 there.1 there.2 c s.sound.under_way.flow) ∙ ap (carried c) (sym over)
