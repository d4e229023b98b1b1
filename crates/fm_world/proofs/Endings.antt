-- Where nothing is left to do, a World is over.
use Rattle.fm_world.proofs.Words.{all_at, is_id-refl, is_id, references, references_cons, context_at, context_in, Headline, Instance, Slot, CtxId, is_detached}
use Rattle.fm_world.proofs.Words.{FlowRecord, IsSound, one, pairs_in, World, reference_count, All, All-cons, All-nil, All-weaker, Bool, List, None, Option, Some, [], ap, arith}
use Rattle.fm_world.proofs.Words.{count_by, false, true, length, not, refl, slice_get, option_and_then, ℕ, ◌+◌, ◌∷◌, ◌≡◌, ◌≤◌, sum_by-cons}
use Rattle.fm_world.proofs.Cases.{none_pass}
use Rattle.std.specs.Prelude.{is_none}
use Rattle.std.proofs.lemmas.List.{nil_from_length}
use Rattle.fm_ctx.specs.Bags.{held}
use Rattle.fm_ctx.specs.Counting.{born, cleaned_count}
use Rattle.fm_stack.specs.Instances.{is_left}
use Rattle.fm_world.specs.Ending.{busy_of, IsOver}

-- ---- instances

detached : (b : Bool) → not b ≡ false → b ≡ true
detached b h = grind arith

not_left : (rows : List Instance) → count_by is_left rows ≡ 0 → All (λ (row : Instance). is_detached row.phase ≡ true) rows
not_left rows h =
    All-weaker (λ row. is_left row ≡ false) (λ (row : Instance). is_detached row.phase ≡ true) (λ row left. detached (is_detached row.phase) left) rows
    (none_pass is_left rows h)

-- ---- contexts

-- how many contexts a slot had, and how many of them are cleaned up
abbrev in_slot : Slot → ℕ
in_slot s = s.generation + 1

abbrev cleaned_in : Slot → ℕ
cleaned_in s = s.generation + one (is_none s.context)

cleaned_one : (s : Slot) → cleaned_in s ≤ in_slot s
cleaned_one s = grind arith

pub cleaned_few : (slots : List Slot) → cleaned_count slots ≤ born slots
cleaned_few [] = omega arith
cleaned_few (s ∷ slots) = omega (arith, cleaned_one s, cleaned_few slots, sum_by-cons in_slot s slots, sum_by-cons cleaned_in s slots)

last_cleaned : (s : Slot) → in_slot s ≡ cleaned_in s → s.context ≡ None
last_cleaned s h = grind arith

all_cleaned : (slots : List Slot) → born slots ≡ cleaned_count slots → All (λ (s : Slot). s.context ≡ None) slots
all_cleaned [] h = All-nil _
all_cleaned (s ∷ slots) h =
    let few = cleaned_few slots in
    let one = cleaned_one s in
    let births : born (s ∷ slots) ≡ in_slot s + born slots = sum_by-cons in_slot s slots in
    let cleanups : cleaned_count (s ∷ slots) ≡ cleaned_in s + cleaned_count slots = sum_by-cons cleaned_in s slots in
    All-cons (λ (s : Slot). s.context ≡ None) s slots (last_cleaned s (omega (arith, h, few, one, births, cleanups)))
    (all_cleaned slots (omega (arith, h, few, one, births, cleanups)))

none_in : (slots : List Slot) → All (λ (s : Slot). s.context ≡ None) slots → (c : CtxId) (m : Option Slot) → slice_get slots c.slot ≡ m
    → option_and_then (context_in c) m ≡ None
none_in slots h c None at = refl
none_in slots h c (Some s) at = let none = all_at (λ (s : Slot). s.context ≡ None) slots c.slot s h at in grind arith

none_there : (slots : List Slot) → All (λ (s : Slot). s.context ≡ None) slots → (c : CtxId) → context_at slots c ≡ None
unfolding context_at
none_there slots h c = none_in slots h c (slice_get slots c.slot) refl

-- ---- hands

counts_itself : (b : Bool) → b ≡ true → ◌≡◌ {A = ℕ} (one b) 1
counts_itself b h = ap one h

empty_from : (hand : List CtxId) → ((c : CtxId) → references hand c ≡ 0) → length hand ≡ 0
empty_from [] h = refl
empty_from (c ∷ ids) h = absurd (omega (arith, h c, references_cons c c ids, counts_itself (is_id c c) (is_id-refl c)))

none_held : (hands : List (List CtxId)) → ((c : CtxId) → held hands c ≡ 0) → pairs_in hands ≡ 0
unfolding held
none_held [] h = refl
none_held (hand ∷ hands) h =
    let all : (c : CtxId) → held (hand ∷ hands) c ≡ references hand c + held hands c = λ c. sum_by-cons (λ (ids : List CtxId). references ids c) hand hands in
    let first = empty_from hand (λ c. omega (arith, h c, all c)) in
    omega (arith, first, none_held hands (λ c. omega (arith, h c, all c)), sum_by-cons (λ (ids : List CtxId). length ids) hand hands)

-- ---- how much may be left

counted_apart : {X : Type 0} (p : X → Bool) (xs : List X) → count_by p xs + count_by (λ x. not (p x)) xs ≡ length xs
counted_apart p [] = refl
counted_apart p (x ∷ xs) =
    omega (arith, one_apart (p x), counted_apart p xs, sum_by-cons (λ y. one (p y)) x xs, sum_by-cons (λ y. one (not (p y))) x xs)
  where
    one_apart : (b : Bool) → one b + one (not b) ≡ 1
    one_apart b = grind arith

few_open : (slots : List Slot) → born slots ≤ cleaned_count slots + length slots
few_open [] = omega arith
few_open (s ∷ slots) = omega (arith, few_open slots, one_open s, sum_by-cons in_slot s slots, sum_by-cons cleaned_in s slots)
  where
    one_open : (s : Slot) → in_slot s ≤ cleaned_in s + 1
    one_open s = grind arith

-- 256 operations that weren't collected and 48 that were, as many handles, instances and contexts as there may be
pub busy_few : (w : World) → IsSound w → Headline w → busy_of w ≤ 74032
busy_few w sound holds =
    let flow = w.flow.operations in
    let records : length flow ≤ 304 = omega (arith, sound.under_way.flow.few, holds.collected, counted_apart (λ (r : FlowRecord). r.collected) flow) in
    let left = counted_apart is_left w.stack.instances in
    omega (arith, records, sound.filed.room.few, left, sound.under_way.stack.instances, few_open w.contexts.slots, sound.owned.lawful.few)

-- ---- all of it

pub is_over : (w : World) → Headline w → busy_of w ≡ 0 → IsOver w
is_over w holds free =
    let cleaned : born w.contexts.slots ≡ cleaned_count w.contexts.slots = omega (arith, free, cleaned_few w.contexts.slots) in
    let contexts = all_cleaned w.contexts.slots cleaned in
    let counts : (c : CtxId) → reference_count w c ≡ 0 = λ c. holds.alive c (none_there w.contexts.slots contexts c) in
    record {
      operations = nil_from_length w.flow.operations (omega (arith, free));
      handles = nil_from_length w.files.handles (omega (arith, free));
      instances = not_left w.stack.instances (omega (arith, free));
      contexts = contexts;
      cleaned = cleaned;
      counts = counts;
      hands = none_held w.contexts.hands (λ c. omega (arith, counts c));
    }
