-- The number that is kept for each instance follows each step of an operation.
use Rattle.fm_operations.proofs.Words.{ℕ, Bool, true, false, cond, List, length, Option, Some, None, option_map, ap, arith, nat_tests, get_or, Ok}
use Rattle.fm_operations.proofs.Words.{Err, ⊤, InstanceId, Data, All, All-head, All-tail, one, FlowRecord, FlowTable, IsSound}
use Rattle.fm_operations.proofs.Words.{PreState, PostState, total}
use Rattle.fm_types.specs.declared.ids.OpId.{OpId}
use Rattle.std.proofs.Common.{◌≡◌, ◌+◌, ◌<◌, ◌≤◌, ◌==◌, ◌∷◌, ◌∙◌, [], Result, zero, suc}
use Rattle.fm_operations.specs.Counts.{flight, leaves_at, leaves_by, post_leaves_by}
use Rattle.fm_operations.specs.Tallied.{kept_at, one_more, one_less, MayEnter, MayLeave, left_pre, left_post, if_taken}
use Rattle.fm_operations.proofs.Counting.{flight_few}
use Rattle.fm_operations.proofs.Tallied.{total_removed, kept_more, kept_less}
use Rattle.fm_operations.proofs.Flows.{Found, IsKept, Follows}

-- the number of the instance, where one is named
abbrev pub number_of : Option InstanceId → Option ℕ
number_of at = option_map (λ i. i.0) at

-- the first is in flight at the instance, where one is named, and the second isn't; elsewhere they are alike
abbrev pub Leaves : Option InstanceId → FlowRecord → FlowRecord → Type 0
Leaves at d s = (j : ℕ) → flight j d ≡ flight j s + leaves_at j (number_of at) 1

pub leaves_pre : (j : ℕ) (state : PreState) (at : Option InstanceId) → leaves_at j (number_of at) (leaves_by state)
    ≡ leaves_at j (number_of (left_pre state at)) 1
leaves_pre j state at = grind (arith, nat_tests)

pub leaves_post : (j : ℕ) (state : PostState) (at : Option InstanceId) → leaves_at j (number_of at) (post_leaves_by state)
    ≡ leaves_at j (number_of (left_post state at)) 1
leaves_post j state at = grind (arith, nat_tests)

total_few : (i : ℕ) (rs : List FlowRecord) → All IsSound rs → total (flight i) rs ≤ length rs
total_few i [] sound = omega arith
total_few i (r ∷ rs) sound =
    omega (arith, flight_few r.stage r.entries i (All-head IsSound r rs sound).course, total_few i rs (All-tail IsSound r rs sound))

-- one that isn't in flight there leaves room
total_but : (i : ℕ) (rs : List FlowRecord) (k : ℕ) (d : FlowRecord) → k < length rs → d ≡ get_or rs k d → All IsSound rs
    → total (flight i) rs + 1 ≤ length rs + flight i d
total_but i [] k d below at sound = absurd (omega arith)
total_but i (r ∷ rs) zero d below at sound = omega (arith, ap (flight i) at, total_few i rs (All-tail IsSound r rs sound))
total_but i (r ∷ rs) (suc k) d below at sound =
    omega (arith, flight_few r.stage r.entries i (All-head IsSound r rs sound).course, total_but i rs k d (omega arith) at (All-tail IsSound r rs sound))

module _ {o : OpId} {t u : FlowTable} {k flying creating : ℕ} {counts : List ℕ} {d : FlowRecord} (h : Found o t u k d)
    (kept : IsKept flying creating counts t) where
  pub may_leave : (at : Option InstanceId) (s : FlowRecord) → Leaves at d s → MayLeave at counts
  may_leave None s flies = tt
  may_leave (Some i) s flies = λ low.
      let here : one (i.0 == i.0) ≡ 1 = grind (arith, nat_tests) in
      omega (arith, here, flies i.0, total_removed (flight i.0) t.operations k d h.there.inside h.at, kept.1.flights i.0 low)

  pub may_enter : (at : Option InstanceId) (s : FlowRecord) (most : ℕ) → most ≡ length t.operations → IsSound s → Leaves at s d → MayEnter at most counts
  may_enter None s most is sound flies = tt
  may_enter (Some i) s most is sound flies = λ low.
      let here : one (i.0 == i.0) ≡ 1 = grind (arith, nat_tests) in
      omega (
        arith,
        is,
        here,
        flies i.0,
        flight_few s.stage s.entries i.0 sound.course,
        total_but i.0 t.operations k d h.there.inside h.at kept.0.sound,
        kept.1.flights i.0 low,
      )

  pub follows_less : {ns : List ℕ} {s : FlowRecord} (at : Option InstanceId) → length counts ≡ 4096 → ns ≡ one_less at counts
      → Leaves at d s → Follows counts ns d s
  follows_less {s = s} at len is flies = record {
    by = λ j low. omega (
      arith,
      ap (λ (ms : List ℕ). kept_at ms j) is,
      kept_less at counts j len low (may_leave at s flies),
      flies j,
    );
  }

pub follows_more : {counts ns : List ℕ} {d s : FlowRecord} (at : Option InstanceId) → length counts ≡ 4096 → ns ≡ one_more at counts
    → Leaves at s d → Follows counts ns d s
follows_more {counts} at len is flies = record { by = λ j low. omega (arith, ap (λ (ms : List ℕ). kept_at ms j) is, kept_more at counts j len low, flies j) }

pub follows_same : {counts : List ℕ} {d s : FlowRecord} → ((j : ℕ) → flight j s ≡ flight j d) → Follows counts counts d s
follows_same flies = record { by = λ j low. omega (arith, flies j) }

-- an operation whose data is handed back stays
pub taken_leaves : (lent : Data) (fits : Bool) (r t : FlowRecord) (at : Option InstanceId) {s : FlowRecord} {reply : Result ⊤ Data}
    {gone : Option InstanceId} → s ≡ cond fits t r
    → reply ≡ cond fits (Ok tt) (Err lent) → gone ≡ if_taken reply at → Leaves at r t → Leaves gone r s
taken_leaves lent true r t at is told goes flies j =
    omega (arith, flies j, ap (flight j) is, ap (λ at. leaves_at j (number_of at) 1) (goes ∙ ap (λ x. if_taken x at) told))
taken_leaves lent false r t at is told goes flies j =
    omega (arith, ap (flight j) is, ap (λ at. leaves_at j (number_of at) 1) (goes ∙ ap (λ x. if_taken x at) told))
