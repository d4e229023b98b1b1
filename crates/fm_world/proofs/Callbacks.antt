-- What holds of a worker in a callback, and what its events on references and bodies do.
use Rattle.fm_world.proofs.Words.{length-without, body_keeps, reference_keeps, release_keeps, within_hands, holds, is_hand_full, without, rewritten, with_body}
use Rattle.fm_world.proofs.Words.{drains_open, flight_post_settled, flight_pre_settled, flight, leaves_at, IsCourse, is_number, total, PostState, IsPlaced}
use Rattle.fm_world.proofs.Words.{all_at, none_refuses, Bumps, Callback, ReadsBody, References, Releases, WritesBody, callback_in, callback_of, with_contexts}
use Rattle.fm_world.proofs.Words.{HoldsFewer, HoldsMore, given_with, hand_len, is_in_drain, names_there, HoldsIn, belongs, file_of, fits, is_flown, is_flown_by}
use Rattle.fm_world.proofs.Words.{is_left_by, keeps_links, keeps_links_by, place_in, row_at, AreOwned, IsOwned, IsSound, IsUnderWay, most_at, ContextTable}
use Rattle.fm_world.proofs.Words.{CtxId, FlowRecord, FlowTable, Instance, InstanceId, IsLawful, OpId, Phase, PostRunning, PreRunning, PreState, StackWorld}
use Rattle.fm_world.proofs.Words.{Status, WorkerId, carried, cleaning_of, grabbed, hand_of, in_flight, is_completing, is_detached, is_setup, last_posted}
use Rattle.fm_world.proofs.Words.{last_visited, released, AtComplete, AtQuery, AtRoutine, AtSetup, AtStart, InstanceCallback, cleanup_in, is_at, worker_at, World, carries, FileObject}
use Rattle.fm_world.proofs.Words.{Place, All, Bool, List, None, Ok, Option, Result, Some, [], ap, arith, cond, false, find, get_or, length, not, option_map}
use Rattle.fm_world.proofs.Words.{refl, slice_get, slice_set, subst, sym, true, ℕ, ◌++◌, ◌+◌, ◌<◌, ◌∙◌, ◌∷◌, ◌≡◌, ◌≢◌, ◌≤◌, ◌⊎◌, eq-eqb, leb-false}
use Rattle.fm_world.proofs.Words.{common_steps, get_or-set_same, set-get_or, All-push, none-some, same_Some}
use Rattle.fm_ctx.proofs.Counts.{count_held}
use Rattle.fm_world.proofs.Belonging.{AllCarry, AllFit, AllHold, AllPass, BelongsStill, OwnersStay, all_carry_still, all_hold, all_without, belongs_still}
use Rattle.fm_world.proofs.Belonging.{filters_same, held_has, owners_changed, owners_same, passes_changed}
use Rattle.fm_world.proofs.Events.{asked_by, taken_by}
use Rattle.fm_world.proofs.Keeps.{callback_place, worker_below}
use Rattle.fm_world.proofs.Operations.{both_same, inside_post, inside_pre}
use Rattle.fm_world.proofs.Staying.{Does, Gives, HandMore, TableStays, hand_given, lasts, makes, nothing, slots_changed, still, unchanged}
use Rattle.fm_world.proofs.Ties.{drained_there}

-- what one operation counts for, all of them do
total_found : (f : FlowRecord → ℕ) (test : FlowRecord → Bool) (rs : List FlowRecord) (r : FlowRecord) → find test rs ≡ Some r → f r ≤ total f rs
total_found f test [] r is = absurd (none-some r is)
total_found f test (x ∷ rs) r is = grind (arith, (total_found f test rs r))

here : (i : ℕ) (last : Option ℕ) → last ≡ Some i → leaves_at i last 1 ≡ 1
here i last e = ap (λ l. leaves_at i l 1) e ∙ ap (λ b. cond b 1 0) (eq-eqb i i refl)

-- the operation that a worker is in, in a callback of the instance, is in flight there
pre_flies : (w : World) (k : WorkerId) (o : OpId) (i : InstanceId) → IsUnderWay w → worker_at w.workers k ≡ Some (Place.Pre o i) → 1 ≤ in_flight i.0 w.flow
pre_flies w k o i s at =
    let x = inside_pre w k o i at s in
    let flies = flight_pre_settled PreRunning x.0.row.entries PreState.Passed i.0 refl (subst (λ a. IsCourse a x.0.row.entries) x.1 x.0.sound.course) in
    omega (arith, flies, here i.0 (last_visited x.0.row.entries) x.2, total_found (flight i.0) (is_number o) w.flow.operations x.0.row x.0.at)

post_flies : (w : World) (k : WorkerId) (o : OpId) (i : InstanceId) → IsUnderWay w → worker_at w.workers k ≡ Some (Place.Post o i) → 1 ≤ in_flight i.0 w.flow
post_flies w k o i s at =
    let x = inside_post w k o i at s in
    let flies = flight_post_settled PostRunning x.0.row.entries PostState.Finished i.0 refl (subst (λ a. IsCourse a x.0.row.entries) x.1 x.0.sound.course) in
    omega (arith, flies, here i.0 (last_posted x.0.row.entries) x.2, total_found (flight i.0) (is_number o) w.flow.operations x.0.row x.0.at)

drain_flies : (w : World) (k : WorkerId) (a : Place) (o : OpId) (i : InstanceId) → IsUnderWay w → worker_at w.workers k ≡ Some a
    → is_in_drain o i.0 a ≡ true → 1 ≤ in_flight i.0 w.flow
drain_flies w k a o i s at inside =
    let there = drained_there w.workers w.flow k a o i.0 s.drains at inside in
    omega (arith, there.2, drains_open i.0 there.0.entries, total_found (flight i.0) (is_number o) w.flow.operations there.0 there.1)

-- in its setup, or operations may be in flight at it, or its teardown is being completed
abbrev pub IsOpen : Phase → Type 0
IsOpen p = (is_setup p ≡ true) ⊎ (is_flown p ≡ true) ⊎ (is_completing p ≡ true)

flown_row : (w : World) (i : InstanceId) (row : Instance) → IsSound w → row_at w.stack i ≡ Some row → 1 ≤ in_flight i.0 w.flow → IsOpen row.phase
flown_row w i row s there flies = grind arith

flown_in : (w : World) (j i : InstanceId) → Some j ≡ Some i → 1 ≤ in_flight j.0 w.flow → 1 ≤ in_flight i.0 w.flow
flown_in w j i is flies = subst (λ (x : InstanceId). 1 ≤ in_flight x.0 w.flow) (same_Some j i is) flies

-- the instance may have a worker in such a callback
workers_open : (d : InstanceCallback) (row : Instance) → 1 ≤ most_at d row → IsOpen row.phase
workers_open d row h = grind arith

open_callback : (w : World) (k : WorkerId) (a : Place) (d : InstanceCallback) (j i : InstanceId) (row : Instance) → IsSound w
    → worker_at w.workers k ≡ Some a → is_at d j.0 a ≡ true
    → Some j ≡ Some i → row_at w.stack i ≡ Some row → IsOpen row.phase
open_callback w k a d j i row s at is same there =
    let place = callback_place w k a d j s.under_way at is in
    let own : place.0 ≡ row = same_Some place.0 row (sym place.1 ∙ ap (λ (x : InstanceId). slice_get w.stack.instances x.0) (same_Some j i same) ∙ there) in
    workers_open d row (subst (λ x. 1 ≤ most_at d x) own place.2)

open_at : (w : World) (k : WorkerId) (i : InstanceId) (row : Instance) (m : Option Place) → IsSound w → worker_at w.workers k ≡ m → place_in m ≡ Some i
    → row_at w.stack i ≡ Some row → IsOpen row.phase
open_at w k i row (Some (Place.Setup j)) s at is there = open_callback w k (Place.Setup j) AtSetup j i row s at (eq-eqb j.0 j.0 refl) is there
open_at w k i row (Some (Place.Query j)) s at is there = open_callback w k (Place.Query j) AtQuery j i row s at (eq-eqb j.0 j.0 refl) is there
open_at w k i row (Some (Place.Start j)) s at is there = open_callback w k (Place.Start j) AtStart j i row s at (eq-eqb j.0 j.0 refl) is there
open_at w k i row (Some (Place.Complete j)) s at is there = open_callback w k (Place.Complete j) AtComplete j i row s at (eq-eqb j.0 j.0 refl) is there
open_at w k i row (Some (Place.Routine j file)) s at is there = open_callback w k (Place.Routine j file) AtRoutine j i row s at (eq-eqb j.0 j.0 refl) is there
open_at w k i row (Some (Place.Pre o j)) s at is there = flown_row w i row s there (flown_in w j i is (pre_flies w k o j s.under_way at))
open_at w k i row (Some (Place.Post o j)) s at is there = flown_row w i row s there (flown_in w j i is (post_flies w k o j s.under_way at))
open_at w k i row (Some (Place.Drain o j)) s at is there =
    flown_row w i row s there (flown_in w j i is (drain_flies w k (Place.Drain o j) o j s.under_way at (both_same o j)))
open_at w k i row (Some (Place.EarlyDrain o j)) s at is there =
    flown_row w i row s there (flown_in w j i is (drain_flies w k (Place.EarlyDrain o j) o j s.under_way at (both_same o j)))
open_at w k i row d s at is there = absurd (none-some i is)

open_is : (p : Phase) → IsOpen p → (not (is_detached p) ≡ true) × (keeps_links p ≡ true)
open_is p h = grind arith

-- so it isn't detached, and its contexts aren't unlinked
pub callback_left : (w : World) (k : WorkerId) (i : InstanceId) (row : Instance) → IsSound w → place_in (worker_at w.workers k) ≡ Some i
    → row_at w.stack i ≡ Some row → (is_left_by (row_at w.stack i) ≡ true) × (keeps_links_by (row_at w.stack i) ≡ true)
callback_left w k i row s is there =
    let open' = open_is row.phase (open_at w k i row (worker_at w.workers k) s refl is there) in
    (ap is_left_by there ∙ open'.0, ap keeps_links_by there ∙ open'.1)

-- ---- the callback that a worker is in

pub callback_parts : (s : StackWorld) (file : Option FileObject) (m : Option InstanceId) (at : Callback) → callback_in s file m ≡ Some at
    → (m ≡ Some at.instance) × (row_at s at.instance ≡ Some at.row)
callback_parts s file m at h = grind arith

pub record IsIn (w : World) (k : WorkerId) (at : Callback) : Type 0 where
  pub place : place_in (worker_at w.workers k) ≡ Some at.instance
  pub there : row_at w.stack at.instance ≡ Some at.row
  pub worker : k.0 < 48
  pub placed : IsPlaced w.stack at.row

is_in : (w : World) (k : WorkerId) (at : Callback) → IsSound w → callback_of w k ≡ Some at → IsIn w k at
is_in w k at s h =
    let parts = callback_parts w.stack (file_of w.flow (worker_at w.workers k)) (place_in (worker_at w.workers k)) at h in
    record {
      place = parts.0;
      there = parts.1;
      worker = grind (arith, none-some, worker_below);
      placed = all_at (IsPlaced w.stack) w.stack.instances at.instance.0 at.row s.under_way.stack.placed parts.1;
    }

-- a worker goes elsewhere, or stays, with another hand; what callbacks may hold they may hold still
pub owned_with : (w : World) (t : StackWorld) (u : FlowTable) (workers : List Place) (c : ContextTable) (k : WorkerId) (hand : List CtxId)
    → BelongsStill w.stack w.contexts.slots t c.slots → ((j : ℕ) → j ≢ k.0 → slice_get workers j ≡ slice_get w.workers j)
    → ((n : ℕ) → cleaning_of c.cleaning n ≡ cleanup_in (slice_get workers n)) → IsLawful (λ id. carried id u) c
    → c.hands ≡ slice_set w.contexts.hands k.0 hand → k.0 < 48
    → All (HoldsIn t c.slots (place_in (worker_at workers k))) hand → AllCarry t c.slots u.operations → AllFit t c.slots
    → ((j : InstanceId) → is_flown_by (row_at t j) ≡ false → in_flight j.0 u ≡ 0) → IsOwned w → AreOwned t u workers c w.totals
owned_with w t u workers c k hand still others cleans lawful hands worker here carry fit quiet h = record {
  lawful = lawful;
  cleaning = cleans;
  holders = subst (AllHold t c.slots workers) (sym hands)
      (all_hold w.stack w.contexts.slots t c.slots w.workers workers w.contexts.hands k.0 hand (within_hands k.0 h.lawful worker) still others here h.holders);
  completions = carry;
  fits = fit;
  quiet = quiet;
  totals = h.totals;
}

-- ---- only contexts change

pub contexts_owned : (w : World) (t : ContextTable) (k : WorkerId) (hand : List CtxId) → IsLawful (carries w) t → t.cleaning ≡ w.contexts.cleaning
    → OwnersStay w.contexts.slots t.slots → t.hands ≡ slice_set w.contexts.hands k.0 hand → k.0 < 48
    → All (HoldsIn w.stack t.slots (place_in (worker_at w.workers k))) hand → AllFit w.stack t.slots → IsOwned w → IsOwned (with_contexts w t)
contexts_owned w t k hand lawful cleaning owners hands worker here fit h =
    let still = belongs_still w.stack w.contexts.slots w.stack t.slots (filters_same w.stack) owners in
    owned_with w w.stack w.flow w.workers t k hand still (λ j apart. refl) (λ n. ap (λ xs. cleaning_of xs n) cleaning ∙ h.cleaning n) lawful hands worker here
    (all_carry_still w.stack w.contexts.slots w.stack t.slots w.flow.operations still h.completions) fit h.quiet h

-- the same of a sound World
pub contexts_sound : (w : World) (t : ContextTable) (k : WorkerId) (hand : List CtxId) → IsLawful (carries w) t → t.cleaning ≡ w.contexts.cleaning
    → OwnersStay w.contexts.slots t.slots → t.hands ≡ slice_set w.contexts.hands k.0 hand → k.0 < 48
    → All (HoldsIn w.stack t.slots (place_in (worker_at w.workers k))) hand → AllFit w.stack t.slots → AllPass (names_there w.files) t.slots → IsSound w
    → IsSound (with_contexts w t)
contexts_sound w t k hand lawful cleaning owners hands worker h9 fit links s = grind (arith, here, contexts_owned)

-- what a worker holds in a callback
pub in_hand : (w : World) (k : WorkerId) (at : Callback) (c : CtxId) → IsIn w k at → IsOwned w → holds (hand_of w.contexts.hands k.0) c ≡ true
    → belongs w.stack w.contexts.slots at.instance c ≡ true
in_hand w k at c i h has =
    subst (λ m. HoldsIn w.stack w.contexts.slots m c) i.place
    (held_has (HoldsIn w.stack w.contexts.slots (place_in (worker_at w.workers k))) (hand_of w.contexts.hands k.0) c (h.holders k) has)

-- a hand that stays, where the slots' owners stay
pub same_hand : (w : World) (t : ContextTable) (k : WorkerId) → IsOwned w → OwnersStay w.contexts.slots t.slots
    → All (HoldsIn w.stack t.slots (place_in (worker_at w.workers k))) (hand_of w.contexts.hands k.0)
same_hand w t k h owners n d l =
    let place = place_in (worker_at w.workers k) in
    let id = get_or (hand_of w.contexts.hands k.0) n d in
    elim place as (λ p. HoldsIn w.stack w.contexts.slots p id → HoldsIn w.stack t.slots p id) [
      | None ↦ λ held. held
      | Some i ↦ belongs_still w.stack w.contexts.slots w.stack t.slots (filters_same w.stack) owners i id
    ] (h.holders k n d l)

-- a hand with one more, where the slots' owners stay
pub one_more : (w : World) (t : ContextTable) (k : WorkerId) (at : Callback) (c : CtxId) → IsIn w k at → IsOwned w → OwnersStay w.contexts.slots t.slots
    → belongs w.stack t.slots at.instance c ≡ true
    → All (HoldsIn w.stack t.slots (place_in (worker_at w.workers k))) (hand_of w.contexts.hands k.0 ++ c ∷ [])
one_more w t k at c i h owners own = grind (arith, common_steps, All-push, same_hand)

-- ---- what events of callbacks do

-- a worker in a callback has a hand
hand_there : (old : World) (k : WorkerId) (at : Callback) → IsSound old → callback_of old k ≡ Some at → k.0 < length old.contexts.hands
hand_there old k at s is = subst (λ n. k.0 < n) (sym s.owned.lawful.workers) (is_in old k at s is).worker

-- contexts alone change
pub called : (old new : World) (k : WorkerId) (at : Callback) (t : ContextTable) → callback_of old k ≡ Some at
    → new ≡ with_contexts old t → TableStays old.contexts t
    → (IsIn old k at → IsSound old → IsSound (with_contexts old t)) → Does old new
called old new k at t is e stay sound = makes old (with_contexts old t) new e stay (λ s. sound (is_in old k at s is) s)

-- a table that such an event makes, and what it hands out
abbrev pub Makes : World → WorkerId → ContextTable → Option CtxId → Type 0
Makes w k t m = IsSound (with_contexts w t) × TableStays w.contexts t × Gives k.0 w.contexts.hands m t.hands

pub hands_out : (old new : World) (k : WorkerId) (at : Callback) (t : ContextTable) (m : Option CtxId) → callback_of old k ≡ Some at → new ≡ with_contexts old t
    → (IsIn old k at → IsSound old → Makes old k t m) → Does old new × (IsSound old → HandMore k.0 old new (given_with m))
hands_out old new k at t m is e make = grind (arith, common_steps, is_in, lasts, hand_given, hand_there)

-- the worker holds one more
abbrev pub Brings : {T : Type 0} → WorkerId → World → Result T Status → World → Type 0
Brings k old result new = Does old new × (IsSound old → HoldsMore k.0 result (λ _. 1) old new)

pub brings : {T : Type 0} (old new : World) (k : WorkerId) (at : Callback) (t : ContextTable) (c : CtxId) (v : T)
    → callback_of old k ≡ Some at → new ≡ with_contexts old t
    → (IsIn old k at → IsSound old → Makes old k t (Some c)) → Brings k old (Ok v) new
brings old new k at t c v is e make = let out = hands_out old new k at t (Some c) is e make in (out.0, λ s. (out.1 s).1)

pub none_of : {X : Type 0} (a : Bool) (x : X) (r : Option X) → cond a (Some x) r ≡ None → (a ≡ false) × (r ≡ None)
none_of a x r h = grind arith

pub not_false : (b : Bool) → not b ≡ false → b ≡ true
not_false b h = grind arith

-- ---- reference, release, bodies

pub grabbed_makes : (w : World) (k : WorkerId) (at : Callback) (c : CtxId) → IsIn w k at → IsSound w → IsLawful (carries w) (grabbed w.contexts k.0 c)
    → belongs w.stack w.contexts.slots at.instance c ≡ true → Makes w k (grabbed w.contexts k.0 c) (Some c)
grabbed_makes w k at c i s lawful own =
    let t = grabbed w.contexts k.0 c in
    let owners = owners_same w.contexts.slots t.slots refl in (
      contexts_sound w t k (hand_of w.contexts.hands k.0 ++ c ∷ []) lawful refl owners refl i.worker
          (one_more w t k at c i s.owned owners own) s.owned.fits s.links s,
      still w.contexts,
      refl,
    )

pub reference_does : (old : World) (k : WorkerId) (c : CtxId) (result : Result (Unit {0}) Status) (new : World)
    → References old k c result new → Brings k old result new
unfolding References
reference_does old k c result new h =
    asked_by (λ r w. Brings k old r w) old k result new _ _ h (λ why. (nothing old, λ s. refl)) (λ at is v free e.
    brings old new k at (grabbed old.contexts k.0 c) c v is e (λ i s.
    let hand = hand_of old.contexts.hands k.0 in
    let frees = none_refuses ((not (holds hand c), Status.NotHeld) ∷ (is_hand_full old.contexts.hands k.0, Status.HandFull) ∷ []) free in
    let has = not_false (holds hand c) frees.0 in
    let law = s.owned.lawful in
    grabbed_makes old k at c i s
    (reference_keeps k.0 c law i.worker (count_held (carries old) old.contexts k.0 c (within_hands k.0 law i.worker) has)
    (leb-false 16 (length hand) frees.1.0))
    (in_hand old k at c i s.owned has)))

pub release_does : (old : World) (k : WorkerId) (c : CtxId) (result : Result (Unit {0}) Status) (new : World) → Releases old k c result new
    → Does old new × (IsSound old → HoldsFewer k.0 result 1 old new)
unfolding Releases
release_does old k c result new h =
    asked_by (λ r w. Does old w × (IsSound old → HoldsFewer k.0 r 1 old w)) old k result new _ _ h (λ why. (nothing old, λ s. refl)) (λ at is v free e.
    let hand = hand_of old.contexts.hands k.0 in
    let has = not_false (holds hand c) (none_of (not (holds hand c)) Status.NotHeld None free).0 in
    let t = released (carries old) old.contexts k.0 c in
    let owners = owners_same old.contexts.slots t.slots refl in (
      called old new k at t is e (still old.contexts) (λ i s.
          contexts_sound old t k (without c hand) (release_keeps k.0 c s.owned.lawful i.worker has) refl owners refl i.worker
          (all_without (HoldsIn old.stack t.slots (place_in (worker_at old.workers k))) c hand (s.owned.holders k)) s.owned.fits s.links s),
      λ s. ap (λ n. n + 1) (ap (hand_len k.0) e) ∙ ap (λ (h : List CtxId). length h + 1)
          (get_or-set_same old.contexts.hands k.0 (without c hand) [] (hand_there old k at s is))
          ∙ length-without c hand has,
    ))

pub same_hands : (hands : List (List CtxId)) (w : ℕ) → hands ≡ slice_set hands w (hand_of hands w)
same_hands hands w = sym (set-get_or hands w [])

-- a body changes
rewrites : (old new : World) (k : WorkerId) (at : Callback) (c : CtxId) (bytes : List ℕ) → callback_of old k ≡ Some at
    → new ≡ with_contexts old (rewritten old.contexts c bytes)
    → Does old new
rewrites old new k at c bytes is e =
    let t = rewritten old.contexts c bytes in
    let slots = old.contexts.slots in
    let owners = owners_changed (with_body bytes) slots c (λ x. (refl, refl)) in
    called old new k at t is e (slots_changed (option_map (with_body bytes)) slots c refl, refl) (λ i s.
    contexts_sound old t k (hand_of old.contexts.hands k.0) (body_keeps c bytes s.owned.lawful) refl owners (same_hands old.contexts.hands k.0) i.worker
    (same_hand old t k s.owned owners) (passes_changed (fits old.stack) (option_map (with_body bytes)) slots c refl (λ x there fit. fit) s.owned.fits)
    (passes_changed (names_there old.files) (option_map (with_body bytes)) slots c refl (λ x there named. named) s.links) s)

pub read_body_does : (old : World) (k : WorkerId) (c : CtxId) (result : Result (List ℕ) Status) (new : World) → ReadsBody old k c result new → Does old new
unfolding ReadsBody
read_body_does old k c result new h =
    taken_by (λ _ w. Does old w) old k result new _ _ h (λ why. nothing old) (λ at is v free e. unchanged old new e.1)

pub write_body_does : (old : World) (k : WorkerId) (c : CtxId) (bytes : List ℕ) (result : Result (Unit {0}) Status) (new : World)
    → WritesBody old k c bytes result new → Does old new
unfolding WritesBody
write_body_does old k c bytes result new h =
    asked_by (λ _ w. Does old w) old k result new _ _ h (λ why. nothing old) (λ at is v free e. rewrites old new k at c bytes is e)

pub bump_does : (old : World) (k : WorkerId) (c : CtxId) (at by : ℕ) (result : Result ℕ Status) (new : World) → Bumps old k c at by result new → Does old new
unfolding Bumps
bump_does old k c at by result new h =
    asked_by (λ _ w. Does old w) old k result new _ _ h (λ why. nothing old) (λ cb is n free e. rewrites old new k cb c _ is e.1)
