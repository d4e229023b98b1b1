-- Streams and handles through the events: there is a number and room for the handle of each create under way.
use Rattle.fm_world.proofs.Words.{is_success, is_unanswered, is_number, count_changed, found_counts, length_without, FileTable, after_base, closed, is_handle}
use Rattle.fm_world.proofs.Words.{left, opened, IsFiled, FlowRecord, FlowTable, HandleId, OpId, Operation, Status, StreamId, changed, is_create, is_creating}
use Rattle.fm_world.proofs.Words.{operation_at, Bool, Option, Some, ap, arith, cond, false, length, refl, sym, true, ◌&&◌, ◌<◌, ◌∙◌, ◌≡◌, ◌≤◌, false≢true}
use Rattle.fm_world.proofs.Words.{common_steps}
use Rattle.fm_world.proofs.Cases.{one-le}
use Rattle.fm_world.specs.Files as files

-- no handle is given
pub record Shrinks (f g : FileTable) : Type 0 where
  pub next : g.next ≡ f.next
  pub handles : length g.handles ≤ length f.handles

pub shrinks_same : (f : FileTable) → Shrinks f f
shrinks_same f = record { next = refl; handles = omega arith }

left_shrinks : (s : StreamId) (b : Bool) (f : FileTable) → Shrinks f (left s b f)
left_shrinks s b f = grind arith

-- a handle closes
closed_shrinks : (s : StreamId) (h : HandleId) (b : Bool) (f : FileTable) → Shrinks f (left s b (closed h f))
closed_shrinks s h b f =
    let gone = left_shrinks s b (closed h f) in
    record { next = gone.next; handles = omega (arith, gone.handles, length_without (is_handle h) f.handles) }

pub filed_closed : (f : FileTable) (t : FlowTable) (s : StreamId) (h : HandleId) (b : Bool) → IsFiled f t → IsFiled (left s b (closed h f)) t
filed_closed f t s h b k =
    let less = closed_shrinks s h b f in
    record { numbers = omega (arith, less.next, k.numbers); few = omega (arith, less.handles, k.few) }

-- ---- one operation takes a step

-- it isn't a create under way where it was none
abbrev pub NotMore : FlowRecord → FlowRecord → Type 0
NotMore r s = cond (is_creating s) 1 0 ≤ cond (is_creating r) 1 0

pub filed_step : (f g : FileTable) (t : FlowTable) (o : OpId) (r : FlowRecord) (step : FlowRecord → FlowRecord)
    → operation_at o t ≡ Some r → NotMore r (step r) → Shrinks f g
    → IsFiled f t → IsFiled g (changed o step t)
filed_step f g t o r step at less shrinks h =
    let counts = count_changed is_creating (is_number o) step t.operations r at in
    record { numbers = omega (arith, counts, less, shrinks.next, h.numbers); few = omega (arith, counts, less, shrinks.handles, h.few) }

-- a create that is under way no more gives a handle
filed_open : (f : FileTable) (t : FlowTable) (o : OpId) (s : StreamId) (r : FlowRecord) (step : FlowRecord → FlowRecord)
    → operation_at o t ≡ Some r → is_creating r ≡ true
    → is_creating (step r) ≡ false → IsFiled f t → IsFiled (opened s f) (changed o step t)
filed_open f t o s r step at was is h =
    let counts = count_changed is_creating (is_number o) step t.operations r at in
    grind (arith, common_steps)

not_more_none : (r s : FlowRecord) → is_creating s ≡ false → NotMore r s
not_more_none r s none = one-le (is_creating s) (is_creating r) (λ creating. absurd (false≢true (sym none ∙ creating)))

-- a mark, or its being taken back, where that counts
marked_shrinks : (b counts : Bool) (s : StreamId) (f : FileTable) → Shrinks f (cond counts (files.marked b s f) f)
marked_shrinks b true s f = record { next = refl; handles = omega arith }
marked_shrinks b false s f = shrinks_same f

-- the base's answer: the operation was unanswered before
pub filed_answered : (f : FileTable) (t : FlowTable) (o : OpId) (r : FlowRecord) (step : FlowRecord
    → FlowRecord) (operation : Operation) (s : Option StreamId) (h : Option HandleId)
    (why : Status) (b : Bool) → operation_at o t ≡ Some r → r.operation ≡ operation → is_unanswered r.stage ≡ true → is_creating (step r) ≡ false → IsFiled f t
    → IsFiled (after_base operation s h why b f) (changed o step t)
filed_answered f t o r step Operation.Create (Some s) h why b at same unanswered none k =
    elim (is_success why) as (λ c. IsFiled (cond c (opened s f) (left s b f)) (changed o step t)) [
      | true ↦ filed_open f t o s r step at (ap (λ x. is_create x && is_unanswered r.stage) same ∙ unanswered) none k
      | false ↦ filed_step f (left s b f) t o r step at (not_more_none r (step r) none) (left_shrinks s b f) k
    ]
filed_answered f t o r step Operation.SetDelete (Some s) h why b at same unanswered none k =
    filed_step f (cond (is_success why) (files.marked true s f) f) t o r step at (not_more_none r (step r) none)
    (marked_shrinks true (is_success why) s f) k
filed_answered f t o r step Operation.Restore (Some s) h why b at same unanswered none k =
    filed_step f (cond (is_success why) (files.marked false s f) f) t o r step at (not_more_none r (step r) none)
    (marked_shrinks false (is_success why) s f) k
filed_answered f t o r step Operation.Close (Some s) (Some h) why b at same unanswered none k =
    filed_step f (left s b (closed h f)) t o r step at (not_more_none r (step r) none) (closed_shrinks s h b f) k
filed_answered f t o r step _ _ _ why b at same unanswered none k = filed_step f f t o r step at (not_more_none r (step r) none) (shrinks_same f) k

-- an operation that has an answer is no create under way
pub answered_none : (r : FlowRecord) → is_unanswered r.stage ≡ false → is_creating r ≡ false
answered_none r h = elim (is_create r.operation) as (λ b. b && is_unanswered r.stage ≡ false) [ true ↦ h | false ↦ refl ]

-- the same kind of operation, that was unanswered
pub not_more_same : (r s : FlowRecord) → s.operation ≡ r.operation → is_unanswered r.stage ≡ true → NotMore r s
not_more_same r s same unanswered = grind arith

-- a create under way has room and a number
pub room_for : (f : FileTable) (t : FlowTable) (o : OpId) (r : FlowRecord) → operation_at o t ≡ Some r → is_creating r ≡ true → IsFiled f t
    → (length f.handles < 4096) × (f.next < t.next)
room_for f t o r at is h = grind (arith, found_counts)
