-- What the layer of contexts keeps of references that completions carry stays what the operations' completions say.
use Rattle.fm_core.proofs.Words.{IsState, IsTied, FilesKept, Ends, MayBring, MaySend, back_in, kept_brought, kept_sent, leaves_alike, carried_equal}
use Rattle.fm_core.proofs.Words.{carried_there, ContextsKept, List, None, Ok, Option, Some, [], ap, arith, cond, inl, inr, is_some, not, refl, subst, sym, true}
use Rattle.fm_core.proofs.Words.{ℕ, ◌+◌, ◌<◌, ◌^◌, ◌∙◌, ◌∷◌, ◌≡◌, ◌≤◌, nat_tests, option_and_then, hand_of, holds, IsLawful, grabbed, Leaves, ContextTable}
use Rattle.fm_core.proofs.Words.{Slot, carried_by, carried_in, handed, owed, FlowRecord, FlowTable, IsFlow, carried, FlowAction, Ask, StackWorld, count-cons}
use Rattle.fm_core.proofs.Words.{CtxId, WorkerId, received, sent, empty_world, All, length, slice_get, cases_Bool, false≢true, All-head, All-tail}
use Rattle.fm_core.proofs.Words.{slice_get_within}
use Rattle.fm_world.proofs.Words.{is_id-refl, is_id, one, context_at, context_in, carried_among, total, empty_files}
use Rattle.std.proofs.Common.{◌*◌, slice_index}
use Rattle.fm_ctx.specs.Kept.{carried_of, nothing_kept}
use Rattle.fm_ctx.specs.References.{handed_on}
use Rattle.fm_ctx.specs.Table.{count_in}
use Rattle.fm_ctx.proofs.Carried.{carried_one_more, carried_one_fewer}
use Rattle.fm_ctx.proofs.Counts.{count_held}
use Rattle.fm_ctx.proofs.Slots.{none_from}
use Rattle.fm_operations.specs.Table.{under_way}
use Rattle.fm_world.proofs.Requests.{done_owes}
use Rattle.fm_world.proofs.Runs.{empty_sound, nothing_carried}
use Rattle.fm_core.specs.Fields.{world_of}
use Rattle.fm_operations.specs.Sound as flow

-- ---- contexts that are there

pub there_of : {by : CtxId → ℕ} {t : ContextTable} (c : CtxId) → IsLawful by t → 0 < count_in by t c → is_some (context_at t.slots c) ≡ true
there_of {by} {t} c law some =
    elim (cases_Bool (is_some (context_at t.slots c))) [
      | inl e ↦ e
      | inr e ↦ absurd (omega (arith, law.alive c (none_from (context_at t.slots c) e), some))
    ]

slot_in : (m : Option Slot) (c : CtxId) → is_some (option_and_then (context_in c) m) ≡ true → (x : Slot) × (m ≡ Some x)
slot_in None c h = absurd (false≢true h)
slot_in (Some x) c h = (x, refl)

pub slot_within : (slots : List Slot) (c : CtxId) → is_some (context_at slots c) ≡ true → c.slot < length slots
unfolding context_at
slot_within slots c h = let x = slot_in (slice_get slots c.slot) c h in slice_get_within slots c.slot x.0 x.1

-- ---- a table that changes, with all its contexts there

pub tied_table : (kept : ContextsKept) (t : ContextTable) (f : FlowTable)
    → ((c : CtxId) → is_some (context_at t.slots c) ≡ is_some (context_at kept.table.slots c))
    → IsTied kept f → IsTied (record kept { table = t }) f
tied_table kept t f there tied c = sym (carried_there kept t there c) ∙ tied c

-- ---- a completion takes a context along

pub sent_table : (kept : ContextsKept) (k : WorkerId) (m : Option CtxId) → (kept_sent kept k.0 m).table ≡ sent kept.table k m
sent_table kept k m = grind arith

pub tied_sent : (kept : ContextsKept) (k : WorkerId) (m : Option CtxId) (f g : FlowTable) → IsLawful (λ c. carried c f) kept.table
    → length kept.carried ≡ length kept.table.slots
    → k.0 < length kept.table.hands → ((d : CtxId) → m ≡ Some d → holds (hand_of kept.table.hands k.0) d ≡ true)
    → ((c : CtxId) → carried c g ≡ carried c f + carried_in c (record { number = 0; context = m })) → IsTied kept f → IsTied (kept_sent kept k.0 m) g
tied_sent kept k None f g law matched within has balance tied c = omega (arith, tied c, balance c)
tied_sent kept k (Some d) f g law matched within has balance tied c =
    let there = there_of d law (count_held (λ c. carried c f) kept.table k.0 d within (has d refl)) in
    let slot : d.slot < length kept.carried = subst (λ n. d.slot < n) (sym matched) (slot_within kept.table.slots d there) in
    let more = carried_one_more kept (handed_on kept.table k.0 d) d (λ e. refl) there slot c in
    omega (arith, more, tied c, balance c)

-- what is left in the hand goes
pub tied_ends : (mid new : ContextsKept) (w : ℕ) (f : FlowTable) → Ends mid new w → IsTied mid f → IsTied new f
tied_ends mid new w f ends tied c = carried_equal new mid ends.leaves.slots ends.carried c ∙ tied c

pub ends_leaves : (kept new : ContextsKept) (k : WorkerId) (m : Option CtxId) (f : FlowTable) → Ends (kept_sent kept k.0 m) new k.0
    → IsTied (kept_sent kept k.0 m) f
    → Leaves (λ c. carried c f) (sent kept.table k m) new.table k.0
ends_leaves kept new k m f ends tied =
    subst (λ t. Leaves (λ c. carried c f) t new.table k.0) (sent_table kept k m) (leaves_alike tied ends.leaves)

-- ---- a completion comes back

brought_table : (kept : ContextsKept) (k : WorkerId) (a : FlowAction) → (kept_brought kept k.0 (back_in a)).table ≡ received kept.table k (Ok a)
brought_table kept k a = grind arith

pub next_table : (kept after : ContextsKept) (k : WorkerId) (a : FlowAction) → after ≡ kept_brought kept k.0 (back_in a)
    → after.table ≡ received kept.table k (Ok a)
next_table kept after k a e = ap (λ (x : ContextsKept). x.table) e ∙ brought_table kept k a

pub brought_slots : (kept : ContextsKept) (w : ℕ) (m : Option CtxId) → (kept_brought kept w m).table.slots ≡ kept.table.slots
brought_slots kept w m = grind arith

pub sent_slots : (kept : ContextsKept) (w : ℕ) (m : Option CtxId) → (kept_sent kept w m).table.slots ≡ kept.table.slots
sent_slots kept w m = grind arith

self_one : (c : CtxId) → one (is_id c c) ≡ 1
self_one c = ap one (is_id-refl c)

pub may_bring : (kept : ContextsKept) (k : WorkerId) (m : Option CtxId) (f g : FlowTable) → k.0 < 48 → hand_of kept.table.hands k.0 ≡ []
    → ((c : CtxId) → carried c f ≡ carried c g + carried_in c (record { number = 0; context = m })) → IsTied kept f → MayBring kept k.0 m
may_bring kept k None f g worker none balance tied = tt
may_bring kept k (Some c) f g worker none balance tied =
    (worker, omega (arith, tied c, balance c, self_one c), subst (λ (ids : List CtxId). length ids < 16) (sym none) (omega arith))

carried_is_there : (kept : ContextsKept) (d : CtxId) → 0 < carried_of kept d → is_some (context_at kept.table.slots d) ≡ true
unfolding carried_of
carried_is_there kept d some =
    elim (cases_Bool (is_some (context_at kept.table.slots d))) [
      | inl e ↦ e
      | inr e ↦ absurd (omega (arith, some, ap (λ b. cond b (slice_index kept.carried d.slot) 0) e))
    ]

pub tied_brought : (kept : ContextsKept) (k : WorkerId) (m : Option CtxId) (f g : FlowTable) → length kept.carried ≡ length kept.table.slots
    → ((c : CtxId) → carried c f ≡ carried c g + carried_in c (record { number = 0; context = m })) → IsTied kept f → IsTied (kept_brought kept k.0 m) g
tied_brought kept k None f g matched balance tied c = omega (arith, tied c, balance c)
tied_brought kept k (Some d) f g matched balance tied c =
    let some : 0 < carried_of kept d = omega (arith, tied d, balance d, self_one d) in
    let slot : d.slot < length kept.carried = subst (λ n. d.slot < n) (sym matched) (slot_within kept.table.slots d (carried_is_there kept d some)) in
    let fewer = carried_one_fewer kept (grabbed kept.table k.0 d) d (λ e. refl) some slot c in
    omega (arith, fewer, tied c, balance c)

-- by what `next` answers
pub handed_balance : (f g : FlowTable) (a : FlowAction) → ((c : CtxId) → carried c f ≡ carried c g + handed c (Ok a))
    → (c : CtxId) → carried c f ≡ carried c g + carried_in c (record { number = 0; context = back_in a })
handed_balance f g a balance c = grind (arith, balance c)

-- ---- few references are carried: 65 at most by an operation that wasn't collected, none by one that was

among_few : (c : CtxId) (asks : List Ask) → carried_among c asks ≤ length asks
among_few c [] = omega arith
among_few c (ask ∷ asks) = grind (arith, nat_tests, among_few c asks)

by_few : (c : CtxId) (r : FlowRecord) → flow.IsSound r → carried_by c r ≤ cond (not r.collected) 65 0
by_few c r s = elim (cases_Bool r.collected) [
  | inl e ↦ let none = ap (carried_among c) (done_owes r.stage (owed r.entries) (s.collected e)) in rw e (omega (arith, none))
  | inr e ↦ rw e (omega (arith, among_few c (owed r.entries), s.course.room))
]

total_few : (c : CtxId) (rs : List FlowRecord) → All flow.IsSound rs → total (carried_by c) rs ≤ 65 * under_way rs
total_few c [] h = omega arith
total_few c (r ∷ rs) h =
    let counts = count-cons (λ (x : FlowRecord). not x.collected) r rs in
    let mark : cond (not r.collected) 65 0 ≡ 65 * one (not r.collected) = grind (arith, nat_tests) in
    omega (arith, by_few c r (All-head flow.IsSound r rs h), counts, mark, total_few c rs (All-tail flow.IsSound r rs h))

pub carried_few : (t : FlowTable) (c : CtxId) → IsFlow t → carried c t < 2 ^ 32
carried_few t c s = omega (arith, total_few c t.operations s.sound, s.few)

pub may_send : (kept : ContextsKept) (k : WorkerId) (m : Option CtxId) (f : FlowTable) → IsFlow f → IsTied kept f
    → ((d : CtxId) → m ≡ Some d → holds (hand_of kept.table.hands k.0) d ≡ true) → MaySend kept k.0 m
may_send kept k None f s tied has = tt
may_send kept k (Some c) f s tied has = (has c refl, subst (λ n. n < 2 ^ 32) (sym (tied c)) (carried_few f c s))

-- ---- before the first event

pub empty_state : (s : StackWorld) (f : FlowTable) (kept : ContextsKept) (files : FilesKept) → s ≡ empty_world.stack
    → f ≡ empty_world.flow → kept ≡ nothing_kept
    → files.table ≡ empty_files → IsState (world_of s f empty_world.workers kept empty_world.totals files) kept
empty_state s f kept files es ef ek et =
    subst (λ (x : ContextsKept). IsState (world_of s f empty_world.workers x empty_world.totals files) x) (sym ek)
    (subst (λ x. IsState (world_of x f empty_world.workers nothing_kept empty_world.totals files) nothing_kept) (sym es)
    (subst (λ x. IsState (world_of empty_world.stack x empty_world.workers nothing_kept empty_world.totals files) nothing_kept) (sym ef)
    (subst (λ x. IsState (record empty_world { files = x }) nothing_kept) (sym et)
    (record { sound = empty_sound; tied = nothing_carried }))))
