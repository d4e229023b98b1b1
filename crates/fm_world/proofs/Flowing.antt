-- What a step of one operation leaves of who owns what.
use Rattle.fm_world.proofs.Words.{leave_keeps, carried_by, flight, is_number, all_change, found_holds, carries_after, returned, AskCarries, HoldsIn}
use Rattle.fm_world.proofs.Words.{is_flown_by, place_in, row_at, IsOwned, ContextTable, CtxId, FlowRecord, FlowTable, InstanceId, IsLawful, Leaves, OpId, Slot}
use Rattle.fm_world.proofs.Words.{StackWorld, WorkerId, carried, changed, in_flight, operation_at, owed, cleanup_in, put, worker_at, World, Place, All, List}
use Rattle.fm_world.proofs.Words.{None, Some, [], arith, false, refl, slice_set, subst, sym, ℕ, ◌+◌, ◌<◌, ◌∙◌, ◌≡◌, ◌≤◌, All-nil, same_Some}
use Rattle.fm_operations.proofs.Flows.{total_changed}
use Rattle.fm_world.proofs.Belonging.{AllCarry, AllFit, filters_same, owners_same}
use Rattle.fm_world.proofs.Owning.{cleaning_stays, owned_moves}

-- ---- one operation changes

-- how many references all operations carry, and how many are in flight, where one of them changes
pub carried_changed : (t : FlowTable) (o : OpId) (r : FlowRecord) (f : FlowRecord → FlowRecord) → operation_at o t ≡ Some r → (c : CtxId)
    → carried c (changed o f t) + carried_by c r ≡ carried c t + carried_by c (f r)
carried_changed t o r f at c = total_changed (carried_by c) (is_number o) f t.operations r at

pub flight_changed : (t : FlowTable) (o : OpId) (r : FlowRecord) (f : FlowRecord → FlowRecord) → operation_at o t ≡ Some r → (i : ℕ)
    → in_flight i (changed o f t) + flight i r ≡ in_flight i t + flight i (f r)
flight_changed t o r f at i = total_changed (flight i) (is_number o) f t.operations r at

pub carry_changed : (s : StackWorld) (slots : List Slot) (t : FlowTable) (o : OpId) (r : FlowRecord) (f : FlowRecord → FlowRecord) → operation_at o t ≡ Some r
    → All (AskCarries s slots) (owed (f r).entries) → AllCarry s slots t.operations → AllCarry s slots (changed o f t).operations
carry_changed s slots t o r f at owes h =
    all_change (λ (x : FlowRecord). All (AskCarries s slots) (owed x.entries)) (is_number o) f t.operations
    (λ x e. subst (λ (y : FlowRecord). All (AskCarries s slots) (owed (f y).entries)) (same_Some r x (sym at ∙ e)) owes) h

-- what changes in a step: one operation, the place of one worker, and that worker's hand
pub step_owned : (w : World) (o : OpId) (r : FlowRecord) (f : FlowRecord → FlowRecord) (k : WorkerId) (a b : Place) (t : ContextTable) (hand : List CtxId)
    → operation_at o w.flow ≡ Some r → worker_at w.workers k ≡ Some a → k.0 < 48 → cleanup_in (Some a) ≡ None → cleanup_in (Some b) ≡ None
    → IsLawful (carries_after w o f) t → t.slots ≡ w.contexts.slots → t.hands ≡ slice_set w.contexts.hands k.0 hand → t.cleaning ≡ w.contexts.cleaning
    → All (HoldsIn w.stack w.contexts.slots (place_in (Some b))) hand → All (AskCarries w.stack w.contexts.slots) (owed (f r).entries)
    → ((i : InstanceId) → is_flown_by (row_at w.stack i) ≡ false → in_flight i.0 (changed o f w.flow) ≡ 0) → IsOwned w
    → IsOwned (record w { flow = changed o f w.flow; workers = put w.workers k b; contexts = t })
step_owned w o r f k a b t hand at there worker na nb lawful slots hands cleaning here owes quiet h =
    owned_moves w w.stack (changed o f w.flow) t k a b hand there worker
    (cleaning_stays w t.cleaning k a b there cleaning na nb h.cleaning) (filters_same w.stack)
    (owners_same w.contexts.slots t.slots slots) lawful hands
    (subst (λ xs. All (HoldsIn w.stack xs (place_in (Some b))) hand) (sym slots) here)
    (subst (λ xs. AllCarry w.stack xs (changed o f w.flow).operations) (sym slots) (carry_changed w.stack w.contexts.slots w.flow o r f at owes h.completions))
    (subst (AllFit w.stack) (sym slots) h.fits) quiet h

-- operations change, and nobody goes anywhere
pub flow_owned : (w : World) (t : FlowTable) → IsLawful (λ c. carried c t) w.contexts → AllCarry w.stack w.contexts.slots t.operations
    → ((i : InstanceId) → is_flown_by (row_at w.stack i) ≡ false → in_flight i.0 t ≡ 0) → IsOwned w → IsOwned (record w { flow = t })
flow_owned w t lawful carry quiet h = grind arith

-- what an operation is owed
pub asks_of : (w : World) (o : OpId) (r : FlowRecord) → operation_at o w.flow ≡ Some r → IsOwned w → All (AskCarries w.stack w.contexts.slots) (owed r.entries)
asks_of w o r at h = found_holds (λ (x : FlowRecord). All (AskCarries w.stack w.contexts.slots) (owed x.entries))
    (is_number o) w.flow.operations r h.completions at

-- nothing comes to be in flight
pub quieter : (w : World) (o : OpId) (r : FlowRecord) (f : FlowRecord → FlowRecord) → operation_at o w.flow ≡ Some r → ((i : ℕ) → flight i (f r) ≤ flight i r)
    → ((i : InstanceId) → is_flown_by (row_at w.stack i) ≡ false → in_flight i.0 w.flow ≡ 0)
    → (i : InstanceId) → is_flown_by (row_at w.stack i) ≡ false → in_flight i.0 (changed o f w.flow) ≡ 0
quieter w o r f at fewer quiet i rests = omega (arith, flight_changed w.flow o r f at i.0, fewer i.0, quiet i rests)

-- a callback of an instance ends: what the worker held is gone
pub left_owned : (w : World) (o : OpId) (r : FlowRecord) (f : FlowRecord → FlowRecord) (k : WorkerId) (a : Place) (kept after : ContextTable)
    → operation_at o w.flow ≡ Some r → worker_at w.workers k ≡ Some a → k.0 < 48 → cleanup_in (Some a) ≡ None → IsLawful (carries_after w o f) kept
    → kept.slots ≡ w.contexts.slots → kept.cleaning ≡ w.contexts.cleaning → slice_set kept.hands k.0 [] ≡ slice_set w.contexts.hands k.0 []
    → Leaves (carries_after w o f) kept after k.0 → All (AskCarries w.stack w.contexts.slots) (owed (f r).entries)
    → ((i : ℕ) → flight i (f r) ≤ flight i r) → IsOwned w → IsOwned (record (returned w k o f) { contexts = after })
left_owned w o r f k a kept after at there worker na lawful slots cleaning hands leaves owes fewer h =
    step_owned w o r f k a Place.Idle after [] at there worker na refl (leave_keeps k.0 lawful leaves) (leaves.slots ∙ slots)
    (leaves.hands ∙ hands) (leaves.cleaning ∙ cleaning)
    (All-nil (HoldsIn w.stack w.contexts.slots None)) owes (quieter w o r f at fewer h.quiet) h
