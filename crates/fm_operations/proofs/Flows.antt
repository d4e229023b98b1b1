-- The table of operations: one is found by its number, and the laws of the table are kept where it changes.
use Rattle.fm_operations.proofs.Words.{ℕ, Bool, true, false, cond, not, List, [], length, get_or, find, Option, Some, None, option_map, refl}
use Rattle.fm_operations.proofs.Words.{ap, sym, subst, arith, same_Some, none-some, IsFlow, FlowTable, FlowRecord, is_number, operation_at}
use Rattle.fm_operations.proofs.Words.{AllPairs, changed, change_first, told, total, under_way, Stage, StandsAt, IsSound, IsTallied, is_creating, is_spent, one}
use Rattle.std.proofs.Common.{◌≡◌, ◌+◌, ◌<◌, ◌≤◌, ◌∷◌, ◌∙◌, set, is_some, position, unwrap_or, zero, suc}
use Rattle.fm_types.specs.declared.ids.OpId.{OpId}
use Rattle.fm_types.proofs.Firsts.{StandsThere, stands_there, absent, change_none, found_holds, all_change, length_change, count_changed}
use Rattle.fm_operations.proofs.Soundness.{Stays, stays_so}
use Rattle.fm_operations.proofs.Tallied.{count_set, count_removed, creates_few, total_set}
use Rattle.fm_operations.specs.Counts.{flight}
use Rattle.fm_operations.specs.Tallied.{kept_at}

-- what holds either way
pub either_way : {A : Type 0} {x y : A} (P : A → Type 0) (b : Bool) → (b ≡ true → P x) → (b ≡ false → P y) → P (cond b x y)
either_way P true yes' no' = yes' refl
either_way P false yes' no' = no' refl

-- ---- one operation changes

number_stays : (test : FlowRecord → Bool) (f : FlowRecord → FlowRecord) (rs : List FlowRecord) → ((x : FlowRecord) → (f x).number.0 ≡ x.number.0)
    → (k : ℕ) (d : FlowRecord) → (get_or (change_first test f rs) k d).number.0 ≡ (get_or rs k d).number.0
number_stays test f [] same k d = refl
number_stays test f (x ∷ rs) same zero d = grind (arith, same x)
number_stays test f (x ∷ rs) same (suc k) d = grind (arith, number_stays test f rs same k d)

under_way_falls : (test : FlowRecord → Bool) (f : FlowRecord → FlowRecord) (rs : List FlowRecord)
    → ((x : FlowRecord) → cond (not (f x).collected) 1 0 ≤ cond (not x.collected) 1 0) → under_way (change_first test f rs) ≤ under_way rs
under_way_falls test f rs falls = elim (find test rs) as (λ m. find test rs ≡ m → under_way (change_first test f rs) ≤ under_way rs) [
  | None ↦ λ none. let e = ap under_way (change_none test f rs none) in omega (arith, e)
  | Some r ↦ λ one. omega (arith, count_changed (λ (x : FlowRecord). not x.collected) test f rs r one, falls r)
] refl

-- the numbers still ascend
pub still_ascends : (t : FlowTable) (o : OpId) (f : FlowRecord → FlowRecord) → ((x : FlowRecord) → (f x).number.0 ≡ x.number.0)
    → AllPairs (λ (r s : FlowRecord). r.number.0 < s.number.0) t.operations
    → AllPairs (λ (r s : FlowRecord). r.number.0 < s.number.0) (changed o f t).operations
still_ascends t o f number ascending i j d p q =
    let l : j < length t.operations = omega (arith, q, length_change (is_number o) f t.operations) in
    omega (arith, number_stays (is_number o) f t.operations number i d, number_stays (is_number o) f t.operations number j d, ascending i j d p l)

pub changes : (t : FlowTable) (o : OpId) (f : FlowRecord → FlowRecord) → IsFlow t → ((x : FlowRecord) → (f x).number.0 ≡ x.number.0)
    → ((x : FlowRecord) → cond (not (f x).collected) 1 0 ≤ cond (not x.collected) 1 0) → ((r : FlowRecord) → operation_at o t ≡ Some r → IsSound (f r))
    → ((r : FlowRecord) → operation_at o t ≡ Some r → is_spent (f r) ≡ false) → IsFlow (changed o f t)
changes t o f h number counts sound needed = record {
  sound = all_change IsSound (is_number o) f t.operations sound h.sound;
  ascending = still_ascends t o f number h.ascending;
  below = all_change (λ (r : FlowRecord). r.number.0 < t.next) (is_number o) f t.operations
      (λ r e. omega (arith, found_holds (λ (r : FlowRecord). r.number.0 < t.next) (is_number o) t.operations r h.below e, number r)) h.below;
  few = omega (arith, under_way_falls (is_number o) f t.operations counts, h.few);
  needed = all_change (λ (r : FlowRecord). is_spent r ≡ false) (is_number o) f t.operations needed h.needed;
}

pub flow_changes : (t : FlowTable) (o : OpId) (f : FlowRecord → FlowRecord) → IsFlow t → ((x : FlowRecord) → (f x).number.0 ≡ x.number.0)
    → ((x : FlowRecord) → (f x).collected ≡ x.collected) → ((r : FlowRecord) → operation_at o t ≡ Some r → IsSound (f r))
    → ((r : FlowRecord) → operation_at o t ≡ Some r → is_spent (f r) ≡ false) → IsFlow (changed o f t)
flow_changes t o f h number collected sound needed = changes t o f h number (λ x. grind (arith, collected x)) sound needed

pub total_changed : (g : FlowRecord → ℕ) (test : FlowRecord → Bool) (f : FlowRecord → FlowRecord) (rs : List FlowRecord)
    (r : FlowRecord) → find test rs ≡ Some r → total g (change_first test f rs) + g r ≡ total g rs + g (f r)
total_changed g test f [] r is = absurd (none-some r is)
total_changed g test f (x ∷ rs) r is = grind (arith, is, total_changed g test f rs r)

-- ---- a method finds no operation of that number

-- where the place that a look-up gave is none
pub missing : {xs ys : List FlowRecord} {place : Option ℕ} (o : OpId) → place ≡ position (is_number o) xs → xs ≡ ys → place ≡ None
    → find (is_number o) ys ≡ None
missing {xs} {ys} o is same none = absent (is_number o) ys (ap (position (is_number o)) (sym same) ∙ sym is ∙ none)

pub told_none : {A : Type 0} {t u : FlowTable} (f : FlowRecord → A) (otherwise : A) (o : OpId) → t ≡ u
    → find (is_number o) t.operations ≡ None → otherwise ≡ told f otherwise o u
told_none f otherwise o same none = sym (ap (told f otherwise o) (sym same) ∙ ap (λ (m : Option FlowRecord). unwrap_or (option_map f m) otherwise) none)

pub changed_none : {t u : FlowTable} (f : FlowRecord → FlowRecord) (o : OpId) → t ≡ u → find (is_number o) t.operations ≡ None → u ≡ changed o f u
changed_none {t} f o same none = sym same ∙ sym (ap (λ (rs : List FlowRecord). record t { operations = rs })
    (change_none (is_number o) f t.operations none)) ∙ ap (changed o f) same

-- ---- a method finds it

-- an operation that stands somewhere is there
pub stands_some : {t u : FlowTable} {xs : List FlowRecord} (stage : Stage) (o : OpId) → t ≡ u → xs ≡ t.operations
    → StandsAt stage (operation_at o u) → is_some (find (is_number o) xs) ≡ true
stands_some {t} stage o same read h = ap (λ (rs : List FlowRecord). is_some (find (is_number o) rs)) read
    ∙ by_found (operation_at o t) (subst (λ w. StandsAt stage (operation_at o w)) (sym same) h)
  where
    by_found : (m : Option FlowRecord) → StandsAt stage m → is_some m ≡ true
    by_found None h = absurd h
    by_found (Some r) h = refl

-- what is read through a handle stands where the handle does
pub through : (rs : List FlowRecord) (k : ℕ) {d e : FlowRecord} → d ≡ e → e ≡ get_or rs k e → d ≡ get_or rs k d
through rs k same at = subst (λ (r : FlowRecord). r ≡ get_or rs k r) (sym same) at

-- the table under its two names, and the operation read at the place of that number
pub record Found (o : OpId) (t u : FlowTable) (k : ℕ) (d : FlowRecord) : Type 0 where
  pub same : t ≡ u
  pub there : StandsThere (is_number o) t.operations k d
  pub at : d ≡ get_or t.operations k d

pub found : {t u : FlowTable} {xs : List FlowRecord} {place : Option ℕ} {k : ℕ} {d e : FlowRecord} (o : OpId) → t ≡ u
    → place ≡ position (is_number o) xs → xs ≡ t.operations → place ≡ Some k
    → d ≡ e → e ≡ get_or t.operations k e → Found o t u k d
found {t} {u} {xs} {place} {k} {d} o same is read some here at =
    record {
      same = same;
      there = stands_there (is_number o) t.operations k d (ap (position (is_number o)) (sym read) ∙ sym is ∙ some);
      at = through t.operations k here at;
    }

module _ {o : OpId} {t u : FlowTable} {k : ℕ} {d : FlowRecord} (h : Found o t u k d) where
  pub itself : Found o t t k d
  itself = record { same = refl; there = h.there; at = h.at }

  pub operation_is : operation_at o t ≡ Some d
  operation_is = h.there.found ∙ ap (λ (r : FlowRecord). Some r) (sym h.at)

  pub told_some : {A : Type 0} {x : A} (f : FlowRecord → A) (otherwise : A) → x ≡ f d → x ≡ told f otherwise o u
  told_some f otherwise is = is ∙ sym (ap (λ (m : Option FlowRecord). unwrap_or (option_map f m) otherwise) operation_is) ∙ ap (told f otherwise o) h.same

  pub changed_some : {s : FlowRecord} (f : FlowRecord → FlowRecord) → s ≡ f d → record t { operations = set t.operations k s } ≡ changed o f u
  changed_some f is =
      ap (λ (r : FlowRecord). record t { operations = set t.operations k r }) (is ∙ ap f h.at)
      ∙ ap (λ (rs : List FlowRecord). record t { operations = rs }) (h.there.writes f) ∙ ap (changed o f) h.same

  -- what is said of the operation of that number is said of the one at the place
  pub said_there : (P : Option FlowRecord → Type 0) → P (operation_at o u) → P (Some d)
  said_there P said = subst P (ap (operation_at o) (sym h.same) ∙ operation_is) said

-- ---- what a step keeps

-- the laws of all operations, and what is tallied of them
abbrev pub IsKept : ℕ → ℕ → List ℕ → FlowTable → Type 0
IsKept flying creating counts t = IsFlow t × IsTallied flying creating counts t.operations

-- what an instance's number has to do with a step of one operation
pub record Follows (ms ns : List ℕ) (d s : FlowRecord) : Type 0 where
  pub by : (j : ℕ) → j < 4096 → kept_at ns j + flight j d ≡ kept_at ms j + flight j s

-- where no create comes or goes
pub uncounted : (creating : ℕ) (d s : FlowRecord) → is_creating s ≡ is_creating d → creating + one (is_creating d) ≡ creating + one (is_creating s)
uncounted creating d s same = ap (λ b. creating + one b) (sym same)

module _ {o : OpId} {t u : FlowTable} {k flying creating : ℕ} {counts : List ℕ} {d : FlowRecord} (h : Found o t u k d)
    (kept : IsKept flying creating counts t) where
  -- creates that are under way are counted, and are few
  pub may_recount : {a : Bool} → a ≡ is_creating d → record { some : a ≡ true → 0 < creating; few : creating ≤ 256 }
  may_recount was = record {
    some = λ is. omega (arith, count_removed is_creating t.operations k d h.there.inside h.at, ap one (sym was ∙ is), kept.1.creates);
    few = omega (arith, kept.1.creates, creates_few t.operations kept.0.sound, kept.0.few);
  }

  pub sound_now : IsSound d
  sound_now = found_holds IsSound (is_number o) t.operations d kept.0.sound (operation_is h)

  needed_now : is_spent d ≡ false
  needed_now = found_holds (λ (r : FlowRecord). is_spent r ≡ false) (is_number o) t.operations d kept.0.needed (operation_is h)

  -- a step of one
  pub kept_set : {s : FlowRecord} {n : ℕ} {ns : List ℕ} (f : FlowRecord → FlowRecord) → s ≡ f d → ((r : FlowRecord) → Stays r (f r))
      → (IsSound d → IsSound (f d))
      → (IsSound d → is_spent d ≡ false → is_spent (f d) ≡ false) → n + one (is_creating d) ≡ creating + one (is_creating s)
      → Follows counts ns d s → IsKept flying n ns (record t { operations = set t.operations k s })
  kept_set {s} {n} f is same sound needed creates follows = (
    subst IsFlow (sym (changed_some (itself h) f is))
        (flow_changes t o f kept.0 (λ r. (same r).number) (λ r. (same r).collected)
        (λ r one'.
        let e : r ≡ d = same_Some r d (sym one' ∙ operation_is h) in
        subst (λ (q : FlowRecord). IsSound (f q)) (sym e) (sound (subst IsSound e (found_holds IsSound (is_number o) t.operations r kept.0.sound one'))))
        (λ r one'. subst (λ (q : FlowRecord). is_spent (f q) ≡ false) (sym (same_Some r d (sym one' ∙ operation_is h))) (needed sound_now needed_now))),
    record {
      under_way =
          let stays = ap (λ (r : FlowRecord). one (not r.collected)) is ∙ ap (λ b. one (not b)) (same d).collected in
          omega (arith, count_set (λ (r : FlowRecord). not r.collected) t.operations k d s h.there.inside h.at, stays, kept.1.under_way);
      creates = omega (arith, count_set is_creating t.operations k d s h.there.inside h.at, creates, kept.1.creates);
      flights = λ j low. omega (arith, total_set (flight j) t.operations k d s h.there.inside h.at, follows.by j low, kept.1.flights j low);
    },
  )

  -- one that takes what fits
  pub kept_took : {s : FlowRecord} {n : ℕ} {ns : List ℕ} (fits : FlowRecord → Bool) (step : FlowRecord → FlowRecord)
      → s ≡ cond (fits d) (step d) d → ((r : FlowRecord) → Stays r (step r))
      → (fits d ≡ true → IsSound d → IsSound (step d)) → (IsSound d → is_spent (step d) ≡ false)
      → n + one (is_creating d) ≡ creating + one (is_creating s) → Follows counts ns d s
      → IsKept flying n ns (record t { operations = set t.operations k s })
  kept_took fits step is same sound needed creates follows =
      kept_set (λ r. cond (fits r) (step r) r) is (λ r. either_way (Stays r) (fits r) (λ e. same r) (λ e. stays_so refl refl))
      (λ s. either_way IsSound (fits d) (λ e. sound e s) (λ e. s))
      (λ s n. either_way (λ (r : FlowRecord). is_spent r ≡ false) (fits d) (λ e. needed s) (λ e. n)) creates follows
