-- An operation begins, and its answer is handed out.
use Rattle.fm_operations.proofs.Words.{ℕ, Bool, true, false, cond, not, List, Option, Some, None, get_or, refl, ap, ap₂, sym, subst}
use Rattle.fm_operations.proofs.Words.{arith, nat_tests, find, list_any, same_Some, Ok, Err, WrongStep, HandleId, Params, Answer, FlowRecord, IsSound}
use Rattle.fm_operations.proofs.Words.{is_running_drain, marked, All, AllPairs, false≢true, eq-eqb, and_parts, and_from, All-push}
use Rattle.fm_operations.proofs.Words.{All-weaker, is_done, FlowTable, IsFlow, without_first, is_number, operation_at, changed, removed, told}
use Rattle.fm_operations.proofs.Words.{InstanceId, placed, begun, begun_record, under_way, is_full, is_spent, collected_of, collected_in, collect_reply, is_collectable, count_by-push}
use Rattle.fm_operations.proofs.Words.{get_or_default, [], IsTallied, is_creating, one}
use Rattle.fm_operations.proofs.Tallied.{count_set, count_removed, done_uncreating, total_set, total_removed, total_push}
use Rattle.fm_operations.proofs.Words.{opens, times, instances, owed}
use Rattle.fm_operations.specs.Counts.{flight}
use Rattle.fm_operations.proofs.Calm.{done_flies}
use Rattle.std.proofs.Common.{◌≡◌, ◌+◌, ◌-◌, ◌<◌, ◌≤◌, ◌∷◌, ◌++◌, ◌∙◌, zero, suc, set, remove}
use Rattle.std.proofs.lemmas.List.Quantifiers.{all_pairs_push}
use Rattle.fm_types.specs.declared.ids.OpId.{OpId}
use Rattle.fm_types.specs.declared.ids.VolumeId.{VolumeId}
use Rattle.fm_types.specs.declared.ids.StreamId.{StreamId}
use Rattle.fm_callback_data.specs.Params.{operation_of, is_within_limits, same_operation, are_on, are_for, fit}
use Rattle.fm_types.proofs.Firsts.{all_without, found_holds, count_without}
use Rattle.fm_operations.proofs.Course.{course_start}
use Rattle.fm_operations.proofs.Flows.{either_way, changes, Found, itself, operation_is, told_some, changed_some}

-- ---- begin

fit_own : (path : Option (List ℕ)) (p : Params) → are_on path p ≡ true → is_within_limits p ≡ true → fit (operation_of p) path p ≡ true
fit_own path p on h = and_from (are_for (operation_of p) path p) (is_within_limits p)
    (and_from (same_operation (operation_of p) (operation_of p)) (are_on path p) (eq-eqb _ _ refl) on) h

sound_begun : (number : ℕ) (v : VolumeId) (stream : Option StreamId) (handle : Option HandleId) (born : ℕ) (path : Option (List ℕ)) (p : Params)
    → are_on path p ≡ true → is_within_limits p ≡ true → IsSound (begun_record number v stream handle born path p)
sound_begun number v stream handle born path p on within = record {
  course = course_start;
  here = refl;
  params = fit_own path p on within;
  kept = λ k d l. absurd (omega arith);
  places = omega arith;
  placed = tt;
  bytes = omega arith;
  collected = λ e. absurd (false≢true e);
}

pub flow_begins : (v : VolumeId) (stream : Option StreamId) (handle : Option HandleId) (born : ℕ) (path : Option (List ℕ)) (p : Params) (t : FlowTable)
    → are_on path p ≡ true → is_within_limits p ≡ true → IsFlow t → is_full t ≡ false → IsFlow (begun v stream handle born path p t)
flow_begins v stream handle born path p t on within h full =
    let fresh = begun_record t.next v stream handle born path p in
    let room : under_way t.operations < 256 = grind (arith, nat_tests, full) in
    record {
      sound = All-push IsSound t.operations fresh h.sound (sound_begun t.next v stream handle born path p on within);
      ascending = all_pairs_push (λ (r s : FlowRecord). r.number.0 < s.number.0) t.operations fresh h.ascending (λ k d l. h.below k d l);
      below = All-push (λ (r : FlowRecord). r.number.0 < t.next + 1) t.operations fresh
          (All-weaker (λ (r : FlowRecord). r.number.0 < t.next) (λ (r : FlowRecord). r.number.0 < t.next + 1) (λ r k. omega (arith, k)) t.operations h.below)
          (omega arith);
      few = omega (arith, count_by-push (λ (r : FlowRecord). not r.collected) t.operations fresh, room);
      needed = All-push (λ (r : FlowRecord). is_spent r ≡ false) t.operations fresh h.needed refl;
    }

-- it began below an instance, or at the base
pub sound_placed : (below : Option InstanceId) (born : ℕ) (r : FlowRecord) → IsSound r → IsSound (placed below born r)
sound_placed below born r h = record {
  course = h.course;
  here = h.here;
  params = h.params;
  kept = h.kept;
  places = h.places;
  placed = h.placed;
  bytes = h.bytes;
  collected = h.collected;
}

-- it is tallied
pub tally_begun : {flying creating n : ℕ} {counts : List ℕ} {a : Bool} (rs : List FlowRecord) (r : FlowRecord)
    → IsTallied flying creating counts rs → r.entries ≡ [] → r.collected ≡ false
    → n + 0 ≡ creating + one a → a ≡ is_creating r → IsTallied (flying + 1) n counts (rs ++ r ∷ [])
tally_begun rs r tally fresh open' is was = record {
  under_way = omega (arith, count_by-push (λ (s : FlowRecord). not s.collected) rs r, ap (λ b. one (not b)) open', tally.under_way);
  creates = omega (arith, count_by-push is_creating rs r, is, ap one was, tally.creates);
  flights = λ j low. omega (arith, total_push (flight j) rs r, ap (λ es. opens j es + times j (instances (owed es))) fresh, tally.flights j low);
}

-- ---- collect

pairs_cons : (R : FlowRecord → FlowRecord → Type 0) (x : FlowRecord) (rs : List FlowRecord) → All (R x) rs → AllPairs R rs → AllPairs R (x ∷ rs)
pairs_cons R x rs all pairs zero (suc j) d p q = all j d (omega arith)
pairs_cons R x rs all pairs (suc i) (suc j) d p q = pairs i j d (omega arith) (omega arith)
pairs_cons R x rs all pairs i zero d p q = absurd (omega arith)

pairs_without : (test : FlowRecord → Bool) (R : FlowRecord → FlowRecord → Type 0) (rs : List FlowRecord) → AllPairs R rs → AllPairs R (without_first test rs)
pairs_without test R [] pairs = pairs
pairs_without test R (x ∷ rs) pairs =
    let tail : AllPairs R rs = λ i j d p q. pairs (suc i) (suc j) d (omega arith) (omega arith) in
    either_way (AllPairs R) (test x) (λ e. tail) (λ e. pairs_cons R x (without_first test rs)
    (all_without (R x) test rs (λ k d l. pairs 0 (suc k) d (omega arith) (omega arith))) (pairs_without test R rs tail))

-- an operation's answer was handed out
sound_marked : (r : FlowRecord) → IsSound r → is_collectable r ≡ true → IsSound (marked r)
sound_marked r h e = record {
  course = h.course;
  here = h.here;
  params = h.params;
  kept = h.kept;
  places = h.places;
  placed = h.placed;
  bytes = omega arith;
  collected = λ k. (and_parts (not r.collected) (is_done r) e).1;
}

pub flow_removed : (t : FlowTable) (o : OpId) → IsFlow t → IsFlow (removed o t)
flow_removed t o h = record {
  sound = all_without IsSound (is_number o) t.operations h.sound;
  ascending = pairs_without (is_number o) (λ (r s : FlowRecord). r.number.0 < s.number.0) t.operations h.ascending;
  below = all_without (λ (r : FlowRecord). r.number.0 < t.next) (is_number o) t.operations h.below;
  few = omega (arith, count_without (λ (r : FlowRecord). not r.collected) (is_number o) t.operations, h.few);
  needed = all_without (λ (r : FlowRecord). is_spent r ≡ false) (is_number o) t.operations h.needed;
}

collects_at : (t : FlowTable) (o : OpId) (m : Option FlowRecord) → operation_at o t ≡ m → IsFlow t → IsFlow (collected_in o t m)
collects_at t o None at h = h
collects_at t o (Some r) at h =
    either_way IsFlow (is_collectable r) (λ e. either_way IsFlow (list_any is_running_drain r.entries)
    (λ d. changes t o marked h (λ x. refl) (λ x. omega arith)
    (λ x k. subst (λ y. IsSound (marked y)) (same_Some r x (sym at ∙ k)) (sound_marked r (found_holds IsSound (is_number o) t.operations r h.sound at) e))
    (λ x k. subst (λ y. is_spent (marked y) ≡ false) (same_Some r x (sym at ∙ k)) (ap not d)))
    (λ d. flow_removed t o h)) (λ e. h)

pub flow_collects : (t : FlowTable) (o : OpId) → IsFlow t → IsFlow (collected_of o t)
flow_collects t o h = collects_at t o (operation_at o t) refl h

pub flow_collected : {t w : FlowTable} (o : OpId) → w ≡ collected_of o t → IsFlow t → IsFlow w
flow_collected {t} o is h = subst IsFlow (sym is) (flow_collects t o h)

pub collected_none : {t u : FlowTable} (o : OpId) → t ≡ u → find (is_number o) t.operations ≡ None → u ≡ collected_of o u
collected_none {t} o same none = sym same ∙ sym (ap (collected_of o) (sym same) ∙ ap (collected_in o t) none)

-- it is there
module _ {o : OpId} {t u : FlowTable} {k : ℕ} {d : FlowRecord} (h : Found o t u k d) where
  -- two reads of one place give one operation
  same_place : {e : FlowRecord} → e ≡ get_or t.operations k e → e ≡ d
  same_place {e} b = b ∙ get_or_default t.operations k e d h.there.inside ∙ sym h.at

  collected_as : {e : FlowRecord} (b drains : Bool) → is_collectable d ≡ b → e ≡ get_or t.operations k e → list_any is_running_drain e.entries ≡ drains
      → collected_of o u ≡ cond b (cond drains (changed o marked t) (removed o t)) t
  collected_as b drains ready read runs =
      ap (collected_of o) (sym h.same) ∙ ap (collected_in o t) (operation_is h)
      ∙ ap₂ (λ b x. cond b (cond x (changed o marked t) (removed o t)) t) ready
      (ap (λ (r : FlowRecord). list_any is_running_drain r.entries) (sym (same_place read)) ∙ runs)

  pub collect_refused : is_collectable d ≡ false → (Err WrongStep ≡ told collect_reply (Err WrongStep) o u) × (u ≡ collected_of o u)
  collect_refused refused = (
    told_some h collect_reply (Err WrongStep) (sym (ap (λ b. cond b (Ok d.answer) (Err WrongStep)) refused)),
    sym h.same ∙ sym (collected_as false (list_any is_running_drain d.entries) refused (h.at ∙ sym (get_or_default t.operations k d d h.there.inside)) refl),
  )

  pub collect_told : {q : FlowRecord} {answer : Answer} → is_collectable d ≡ true → q ≡ get_or t.operations k q → answer ≡ q.answer
      → Ok answer ≡ told collect_reply (Err WrongStep) o u
  collect_told ready read is =
      told_some h collect_reply (Err WrongStep) (ap (λ (a : Answer). Ok a) (is ∙ ap (λ (r : FlowRecord). r.answer) (same_place read))
      ∙ sym (ap (λ b. cond b (Ok d.answer) (Err WrongStep)) ready))

  pub collect_marked : {e q s : FlowRecord} → is_collectable d ≡ true → e ≡ get_or t.operations k e
      → list_any is_running_drain e.entries ≡ true → q ≡ get_or t.operations k q → s ≡ marked q
      → record t { operations = set t.operations k s } ≡ collected_of o u
  collect_marked ready at drains read is = changed_some (itself h) marked (is ∙ ap marked (same_place read)) ∙ sym (collected_as true true ready at drains)

  pub collect_removed : {e : FlowRecord} {xs : List FlowRecord} → is_collectable d ≡ true → e ≡ get_or t.operations k e
      → list_any is_running_drain e.entries ≡ false → xs ≡ remove t.operations k
      → record t { operations = xs } ≡ collected_of o u
  collect_removed ready at drains is =
      ap (λ (rs : List FlowRecord). record t { operations = rs }) (is ∙ h.there.goes) ∙ sym (collected_as true false ready at drains)

  -- it is tallied until its answer is handed out
  pub may_fall : {flying creating : ℕ} {counts : List ℕ} → is_collectable d ≡ true → IsTallied flying creating counts t.operations → 1 ≤ flying
  may_fall ready tally =
      omega (
        arith,
        count_removed (λ (r : FlowRecord). not r.collected) t.operations k d h.there.inside h.at,
        ap one (and_parts (not d.collected) (is_done d) ready).0,
        tally.under_way,
      )

  pub tally_marked : {q s : FlowRecord} {flying creating : ℕ} {counts : List ℕ} → is_collectable d ≡ true → q ≡ get_or t.operations k q
      → s ≡ marked q → IsTallied flying creating counts t.operations
      → IsTallied (flying - 1) creating counts (set t.operations k s)
  tally_marked {s = s} ready read is tally =
      let same : s ≡ marked d = is ∙ ap marked (same_place read) in record {
        under_way = omega (
          arith,
          count_set (λ (r : FlowRecord). not r.collected) t.operations k d s h.there.inside h.at,
          ap (λ (r : FlowRecord). one (not r.collected)) same,
          ap one (and_parts (not d.collected) (is_done d) ready).0,
          tally.under_way,
        );
        creates = omega (arith, count_set is_creating t.operations k d s h.there.inside h.at, ap (λ (r : FlowRecord). one (is_creating r)) same, tally.creates);
        flights = λ j low. omega (
          arith,
          total_set (flight j) t.operations k d s h.there.inside h.at,
          ap (λ (r : FlowRecord). flight j r) same,
          tally.flights j low,
        );
      }

  pub tally_removed : {e : FlowRecord} {xs : List FlowRecord} {flying creating : ℕ} {counts : List ℕ} → is_collectable d ≡ true
      → IsSound d → e ≡ get_or t.operations k e
      → list_any is_running_drain e.entries ≡ false → xs ≡ remove t.operations k → IsTallied flying creating counts t.operations
      → IsTallied (flying - 1) creating counts xs
  tally_removed ready sound read rests is tally =
      let parts = and_parts (not d.collected) (is_done d) ready in rw is (record {
        under_way = omega (arith, count_removed (λ (r : FlowRecord). not r.collected) t.operations k d h.there.inside h.at, ap one parts.0, tally.under_way);
        creates = omega (arith, count_removed is_creating t.operations k d h.there.inside h.at, ap one (done_uncreating d parts.1), tally.creates);
        flights = λ j low.
            let calm = ap (λ (r : FlowRecord). list_any is_running_drain r.entries) (sym (same_place read)) ∙ rests in
            omega (arith, total_removed (flight j) t.operations k d h.there.inside h.at, done_flies d sound parts.1 calm j, tally.flights j low);
      })
