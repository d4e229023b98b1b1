-- An operation is found by its number, since numbers ascend; and what is tallied of all operations.
use Rattle.fm_operations.proofs.Words.{ℕ, Bool, true, false, cond, not, List, [], length, get_or, Some, refl, ap, arith, nat_tests}
use Rattle.fm_operations.proofs.Words.{count_by, one, All, FlowRecord, IsSound, is_creating, is_done, under_way}
use Rattle.fm_operations.proofs.Words.{All-head, All-tail, list_any}
use Rattle.std.proofs.Common.{◌≡◌, ◌+◌, ◌-◌, ◌<◌, ◌≤◌, ◌==◌, ◌&&◌, ◌∷◌, ◌++◌, ◌∙◌, set, remove, replicate, position, zero, suc}
use Rattle.std.proofs.lemmas.Bool.{cases_eq}
use Rattle.std.proofs.lemmas.List.{get_or-replicate, get_or-set_same, get_or-set_other}
use Rattle.fm_operations.proofs.Words.{Option, None, option_map, InstanceId, total, sym, subst, inl, inr}
use Rattle.fm_operations.specs.Counts.{leaves_at}
use Rattle.fm_operations.specs.Tallied.{IsTallied, kept_at, one_more, one_less, MayLeave}
use Rattle.std.proofs.lemmas.List.Quantifiers.{position-Some}
use Rattle.std.proofs.lemmas.List.Sums.{sum_by-set, sum_by-remove}
use Rattle.fm_types.proofs.Firsts.{count-cons}

-- ---- found by number

pub place_inside : (test : FlowRecord → Bool) (rs : List FlowRecord) (k : ℕ) → position test rs ≡ Some k → k < length rs
place_inside test [] k is = cc
place_inside test (r ∷ rs) k is = (position-Some test (r ∷ rs) k r is).0

-- ---- one operation changes, or goes

pub count_set : (p : FlowRecord → Bool) (rs : List FlowRecord) (k : ℕ) (d s : FlowRecord) → k < length rs → d ≡ get_or rs k d
    → count_by p (set rs k s) + one (p d) ≡ count_by p rs + one (p s)
count_set p rs k d s below at = omega (arith, sum_by-set (λ r. cond (p r) 1 0) rs k s d below, ap (λ r. one (p r)) at)

pub count_removed : (p : FlowRecord → Bool) (rs : List FlowRecord) (k : ℕ) (d : FlowRecord) → k < length rs → d ≡ get_or rs k d
    → count_by p (remove rs k) + one (p d) ≡ count_by p rs
count_removed p rs k d below at = omega (arith, sum_by-remove (λ r. cond (p r) 1 0) rs k d below, ap (λ r. one (p r)) at)

-- ---- creates are under way

pub done_uncreating : (r : FlowRecord) → is_done r ≡ true → is_creating r ≡ false
done_uncreating r done = grind (arith, nat_tests, done)

creating_flies : (r : FlowRecord) → IsSound r → one (is_creating r) ≤ one (not r.collected)
creating_flies r h = grind (arith, nat_tests, h.collected)

pub creates_few : (rs : List FlowRecord) → All IsSound rs → count_by is_creating rs ≤ under_way rs
creates_few [] sound = omega arith
creates_few (r ∷ rs) sound =
    omega (
      arith,
      count-cons is_creating r rs,
      count-cons (λ (s : FlowRecord). not s.collected) r rs,
      creating_flies r (All-head IsSound r rs sound),
      creates_few rs (All-tail IsSound r rs sound),
    )

pub uncreated : (p : FlowRecord → Bool) (rs : List FlowRecord) → count_by is_creating rs ≡ 0 → list_any (λ r. is_creating r && p r) rs ≡ false
uncreated p [] none = refl
uncreated p (r ∷ rs) none = grind (arith, nat_tests, none, count-cons is_creating r rs, uncreated p rs)

-- ---- in flight at each instance

-- before the first operation
pub tallied_none : {counts : List ℕ} → counts ≡ replicate 4096 0 → IsTallied 0 0 counts []
tallied_none is = record { under_way = refl; creates = refl; flights = λ j low. ap (λ (ms : List ℕ). kept_at ms j) is ∙ get_or-replicate 4096 j 0 0 low }

pub total_set : (g : FlowRecord → ℕ) (rs : List FlowRecord) (k : ℕ) (d s : FlowRecord) → k < length rs → d ≡ get_or rs k d
    → total g (set rs k s) + g d ≡ total g rs + g s
total_set g [] k d s below at = absurd (omega arith)
total_set g (r ∷ rs) zero d s below at = omega (arith, ap g at)
total_set g (r ∷ rs) (suc k) d s below at = omega (arith, total_set g rs k d s (omega arith) at)

pub total_removed : (g : FlowRecord → ℕ) (rs : List FlowRecord) (k : ℕ) (d : FlowRecord) → k < length rs → d ≡ get_or rs k d
    → total g (remove rs k) + g d ≡ total g rs
total_removed g [] k d below at = absurd (omega arith)
total_removed g (r ∷ rs) zero d below at = omega (arith, ap g at)
total_removed g (r ∷ rs) (suc k) d below at = omega (arith, total_removed g rs k d (omega arith) at)

pub total_push : (g : FlowRecord → ℕ) (rs : List FlowRecord) (r : FlowRecord) → total g (rs ++ r ∷ []) ≡ total g rs + g r
total_push g [] r = omega arith
total_push g (x ∷ rs) r = omega (arith, total_push g rs r)

-- the number that is kept, where an operation comes to an instance or leaves it
pub kept_more : (at : Option InstanceId) (ns : List ℕ) (j : ℕ) → length ns ≡ 4096 → j < 4096
    → kept_at (one_more at ns) j ≡ kept_at ns j + leaves_at j (option_map (λ (i : InstanceId). i.0) at) 1
kept_more None ns j len low = omega arith
kept_more (Some i) ns j len low = elim (cases_eq j i.0) [
  | inl e ↦ rw (sym e) (let same : (j == j) ≡ true = grind (arith, nat_tests) in rw same (get_or-set_same ns j (kept_at ns j + 1) 0 (omega (arith, len))))
  | inr other ↦ let no : (i.0 == j) ≡ false = grind (arith, nat_tests, other) in rw no (get_or-set_other ns i.0 j (kept_at ns i.0 + 1) 0 other ∙ omega arith)
]

pub kept_less : (at : Option InstanceId) (ns : List ℕ) (j : ℕ) → length ns ≡ 4096 → j < 4096 → MayLeave at ns
    → kept_at (one_less at ns) j + leaves_at j (option_map (λ (i : InstanceId). i.0) at) 1 ≡ kept_at ns j
kept_less None ns j len low may = omega arith
kept_less (Some i) ns j len low may = elim (cases_eq j i.0) [
  | inl e ↦
      let there : 0 < kept_at ns j = subst (λ n. n < 4096 → 0 < kept_at ns n) (sym e) may low in
      rw (sym e) (let same : (j == j) ≡ true = grind (arith, nat_tests) in
      rw same (omega (arith, there, get_or-set_same ns j (kept_at ns j - 1) 0 (omega (arith, len)))))
  | inr other ↦ let no : (i.0 == j) ≡ false = grind (arith, nat_tests, other) in rw no (omega (arith, get_or-set_other ns i.0 j (kept_at ns i.0 - 1) 0 other))
]
