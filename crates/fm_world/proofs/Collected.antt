-- Records that stay after their answers were handed out: each has a drain that runs, and that a worker is in, so that they are no more than workers.
use Rattle.fm_world.proofs.Words.{drain_opens, is_running_drain, is_number, is_spent, Drain, count-cons, collected_records, drains_running}
use Rattle.fm_world.proofs.Words.{is_in_drain, Entry, FlowRecord, FlowTable, IsFlow, OpId, one, operation_at, Place, All, AllPairs, Bool, List, None, Option}
use Rattle.fm_world.proofs.Words.{Some, [], ap, arith, count_by, false, get_or, inl, inr, length, nat_le, option_map, refl, suc, sym, true, unwrap_or, ℕ, ◌+◌}
use Rattle.fm_world.proofs.Words.{◌<◌, ◌==◌, ◌∷◌, ◌≡◌, ◌≤◌, cases_Bool, nat_tests, All-head, All-tail, list_any}
use Rattle.std.proofs.lemmas.List.Sums.{count_by-le-length}
use Rattle.fm_types.proofs.Firsts.{stands_there}
use Rattle.fm_types.proofs.Rising.{stands_rising}
use Rattle.fm_operations.specs.Counts.{drain_opens_at}

-- the operation that a worker is in a drain of
abbrev drain_number : Place → Option ℕ
drain_number (Place.Drain o i) = Some o.0
drain_number (Place.EarlyDrain o i) = Some o.0
drain_number _ = None

-- whether it is the one of that number, or has at least that number
abbrev is_the : ℕ → Option ℕ → Bool
is_the n None = false
is_the n (Some m) = m == n

abbrev is_from : ℕ → Option ℕ → Bool
is_from n None = false
is_from n (Some m) = nat_le n m

drains_the : (o : OpId) (i : ℕ) (x : Place) → is_in_drain o i x ≡ true → is_the o.0 (drain_number x) ≡ true
drains_the o i x h = grind arith

-- ---- workers

from_split : (n k : ℕ) (m : Option ℕ) → n ≤ k → one (is_the k m) + one (is_from (k + 1) m) ≤ one (is_from n m)
from_split n k None below = omega arith
from_split n k (Some m) below = grind (arith, nat_tests, below)

workers_split : (n k : ℕ) (ws : List Place) → n ≤ k
    → count_by (λ x. is_the k (drain_number x)) ws + count_by (λ x. is_from (k + 1) (drain_number x)) ws ≤ count_by (λ x. is_from n (drain_number x)) ws
workers_split n k [] below = omega arith
workers_split n k (x ∷ ws) below = omega (
  arith,
  from_split n k (drain_number x) below,
  workers_split n k ws below,
  count-cons (λ y. is_the k (drain_number y)) x ws,
  count-cons (λ y. is_from (k + 1) (drain_number y)) x ws,
  count-cons (λ y. is_from n (drain_number y)) x ws,
)

one_less : (a b : Bool) → (a ≡ true → b ≡ true) → one a ≤ one b
one_less a b implies = grind arith

count_less : (p q : Place → Bool) (ws : List Place) → ((x : Place) → p x ≡ true → q x ≡ true) → count_by p ws ≤ count_by q ws
count_less p q [] implies = omega arith
count_less p q (x ∷ ws) implies = omega (arith, one_less (p x) (q x) (implies x), count_less p q ws implies, count-cons p x ws, count-cons q x ws)

-- ---- records

-- a drain that runs is some instance's
runs_at : (e : Entry) → is_running_drain e ≡ true → (i : ℕ) × (drain_opens_at i e ≡ 1)
runs_at (Drain visit) h = (visit.instance.0, grind (arith, nat_tests, h))
runs_at d h = cc

some_running : (es : List Entry) → list_any is_running_drain es ≡ true → (i : ℕ) × (1 ≤ drain_opens i es)
some_running [] h = cc
some_running (e ∷ es) h = elim (cases_Bool (is_running_drain e)) [
  | inl here ↦ let at = runs_at e here in (at.0, omega (arith, at.1))
  | inr other ↦ let later = some_running es (rw other at h) in (later.0, omega (arith, later.1))
]

needed_runs : (r : FlowRecord) → r.collected ≡ true → is_spent r ≡ false → list_any is_running_drain r.entries ≡ true
needed_runs r out needed = grind (arith, out, needed)

-- a worker is in a drain of the operation
abbrev HasWorker : List Place → FlowRecord → Type 0
HasWorker ws r = r.collected ≡ true → 1 ≤ count_by (λ x. is_the r.number.0 (drain_number x)) ws

has_worker : (ws : List Place) (t : FlowTable) → IsFlow t → ((o : OpId) (i : ℕ) → count_by (is_in_drain o i) ws ≡ drains_running o i t)
    → All (HasWorker ws) t.operations
has_worker ws t flow drains k d within out =
    let r = get_or t.operations k d in
    let there = stands_there (is_number r.number) t.operations k d
    (sym (stands_rising (λ (x : FlowRecord). x.number.0) r.number.0 t.operations k d flow.ascending within refl)) in
    let at : operation_at r.number t ≡ Some r = there.found in
    let runs = some_running r.entries (needed_runs r out (flow.needed k d within)) in
    let told : drains_running r.number runs.0 t ≡ drain_opens runs.0 r.entries =
    ap (λ (m : Option FlowRecord). unwrap_or (option_map (λ (x : FlowRecord). drain_opens runs.0 x.entries) m) 0) at in
    omega (
      arith,
      runs.1,
      told,
      drains r.number runs.0,
      count_less (is_in_drain r.number runs.0) (λ x. is_the r.number.0 (drain_number x)) ws (drains_the r.number runs.0),
    )

one_needs : (b : Bool) (n : ℕ) → (b ≡ true → 1 ≤ n) → one b ≤ n
one_needs true n h = h refl
one_needs false n h = omega arith

-- of records in the order of their numbers, from one number on
few_from : (ws : List Place) (n : ℕ) (rs : List FlowRecord) → AllPairs (λ (r s : FlowRecord). r.number.0 < s.number.0) rs
    → All (λ (r : FlowRecord). n ≤ r.number.0) rs
    → All (HasWorker ws) rs → count_by (λ r. r.collected) rs ≤ count_by (λ x. is_from n (drain_number x)) ws
few_from ws n [] rises from has = omega arith
few_from ws n (r ∷ rs) rises from has = omega (
  arith,
  count-cons (λ (s : FlowRecord). s.collected) r rs,
  one_needs r.collected (count_by (λ x. is_the r.number.0 (drain_number x)) ws) (All-head (HasWorker ws) r rs has),
  workers_split n r.number.0 ws (All-head (λ (s : FlowRecord). n ≤ s.number.0) r rs from),
  few_from ws (r.number.0 + 1) rs (λ i j d p q. rises (suc i) (suc j) d (omega arith) (omega arith))
      (λ k d l. omega (arith, rises 0 (suc k) d (omega arith) (omega arith)))
      (All-tail (HasWorker ws) r rs has),
)

pub collected_few : (ws : List Place) (t : FlowTable) → IsFlow t → length ws ≡ 48 → ((o : OpId) (i : ℕ) → count_by (is_in_drain o i) ws ≡ drains_running o i t)
    → collected_records t ≤ 48
collected_few ws t flow hands drains =
    omega (
      arith,
      few_from ws 0 t.operations flow.ascending (λ k d l. omega arith) (has_worker ws t flow drains),
      count_by-le-length (λ x. is_from 0 (drain_number x)) ws,
      hands,
    )
