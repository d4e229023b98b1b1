-- Drains that are taken early, and that are over: the laws of an operation and of all operations are kept.
use Rattle.fm_operations.proofs.Words.{ℕ, Bool, true, false, cond, not, List, [], length, map, find, get_or, Option, Some, None, option_map, refl, sym, ap, subst, arith, nat_tests}
use Rattle.fm_operations.proofs.Words.{same_Some, none-some, cases_Bool, inl, inr, and_parts, list_any, count_by, unwrap_or, All, All-head, All-tail, InstanceId, CtxId, Stage, InDrain, Ask, Entry, Drain}
use Rattle.fm_operations.proofs.Words.{one, times, owed, instances, without, answers, settle_drain, opens, drain_opens, is_running_drain, FlowRecord, HasItsDrain, IsSound, done_at, is_done, is_creating}
use Rattle.fm_operations.proofs.Words.{FlowTable, IsFlow, IsAscending, is_number, is_spent, operation_at, changed, removed, told, total, under_way, change_first, without_first}
use Rattle.std.proofs.Common.{◌≡◌, ◌≢◌, ◌+◌, ◌<◌, ◌≤◌, ◌==◌, ◌&&◌, ◌∷◌, ◌++◌, ◌∙◌, set, remove, position, zero, suc}
use Rattle.std.proofs.lemmas.Bool.{cases_eq}
use Rattle.std.proofs.lemmas.List.Elements.{All-filter}
use Rattle.fm_types.specs.declared.ids.OpId.{OpId}
use Rattle.fm_types.proofs.Firsts.{absent, stands_there, found_passes, found_holds, find_changed, find_unchanged, find_without, count_changed, count-cons}
use Rattle.fm_types.proofs.Rising.{stands_rising}
use Rattle.fm_callback_data.specs.declared.verdict.Completion.{Completion}
use Rattle.fm_operations.specs.Counts.{carried_in, carried_among, carried_by, opens_at, drain_opens_at, flight}
use Rattle.fm_operations.specs.Creates.{creates}
use Rattle.fm_operations.specs.Table.{carried, in_flight}
use Rattle.fm_operations.specs.Drains.{is_of, owes, owed_to, drained_early, IsDrainedEarly, DrainTaken, early_over, drain_done_in, drain_done_of, RunsEarly}
use Rattle.fm_operations.specs.Flights.{is_at, flies}
use Rattle.fm_operations.proofs.Owed.{left_push_answer, instances_without, others_once, without_none}
use Rattle.fm_operations.proofs.Depths.{owes_counts}
use Rattle.fm_operations.proofs.Course.{owed_once, course_drain, drains_push}
use Rattle.fm_operations.proofs.Counting.{opens_push, flight_few, none_running, owed_drain_settled, opens_drain_settled, drains_drain_settled}
use Rattle.fm_operations.proofs.Settled.{places_drained, settles_drain, course_drain_over}
use Rattle.fm_operations.proofs.Soundness.{Stays, stays_so, sound_pushed, unspent}
use Rattle.fm_operations.proofs.Placing.{placed_push, placed_still}
use Rattle.fm_operations.proofs.Lowest.{none_passes, lowest_passes, others_above, rest_rises}
use Rattle.fm_operations.proofs.Flows.{Found, IsKept, Follows, either_way, through, itself, operation_is, told_some, changed_some, flow_changes, total_changed}
use Rattle.fm_operations.proofs.Requests.{flow_removed}
use Rattle.fm_operations.proofs.Calm.{done_calm, done_flies}
use Rattle.fm_operations.proofs.Tallied.{count_removed, done_uncreating, total_removed}
use Rattle.fm_operations.proofs.Follows.{Leaves}

-- ---- one operation gives a drain

abbrev drain_of : InstanceId → Entry
drain_of i = Drain (record { instance = i; is_running = true })

-- an operation that owes isn't done
pub owing_undone : (i : ℕ) (s : Stage) (asks : List Ask) → list_any (is_of i) asks ≡ true → done_at s asks ≡ false
owing_undone i s [] some = cc
owing_undone i s (ask ∷ asks) some = grind arith

-- a drain that has the operation still runs
keeps_drain : (i : InstanceId) (s : Stage) (es : List Entry) → drain_opens i.0 (es ++ drain_of i ∷ []) ≡ 1 → HasItsDrain s es
    → HasItsDrain s (es ++ drain_of i ∷ [])
keeps_drain i (InDrain j) es runs before = elim (cases_eq i.0 j.0) [
  | inl same ↦ subst (λ n. drain_opens n (es ++ drain_of i ∷ []) ≡ 1) same runs
  | inr other ↦ let none : one ((i.0 == j.0) && true) ≡ 0 = grind (arith, nat_tests, other) in omega (arith, drains_push j.0 es (drain_of i), before, none)
]
keeps_drain i s es runs before = tt

module _ (i : InstanceId) (r : FlowRecord) where
  owed_after : owed (drained_early i r).entries ≡ without i.0 (owed r.entries)
  owed_after = left_push_answer answers r.entries (drain_of i) i.0 refl (λ j. refl)

  owed_one : owes i.0 r ≡ true → IsSound r → times i.0 (instances (owed r.entries)) ≡ 1
  owed_one some h = omega (arith, owes_counts i.0 (owed r.entries) some, owed_once r.stage r.entries i.0 h.course)

  pub sound_early : owes i.0 r ≡ true → IsSound r → IsSound (drained_early i r)
  sound_early some h =
      sound_pushed r r.stage r.stage (drain_of i) r.params r.answer r.handle refl h (owing_undone i.0 r.stage (owed r.entries) some)
      (course_drain r.stage r.stage r.entries i (owed_one some h) refl refl (keeps_drain i r.stage r.entries) h.course) h.here h.params (omega arith)
      (placed_push r.stage r.entries (drain_of i) r.kept refl refl h.placed) h.bytes

  pub stays_early : Stays r (drained_early i r)
  stays_early = stays_so refl refl

  -- it wasn't handed out, as it owes
  pub needed_early : owes i.0 r ≡ true → IsSound r → is_spent (drained_early i r) ≡ false
  needed_early some h = unspent r (drained_early i r) stays_early (owing_undone i.0 r.stage (owed r.entries) some) h

  pub drains_early : (j : ℕ) → drain_opens j (drained_early i r).entries ≡ drain_opens j r.entries + one (i.0 == j)
  drains_early j = let here : drain_opens_at j (drain_of i) ≡ one (i.0 == j) = grind arith in omega (arith, drains_push j r.entries (drain_of i), here)

  pub flies_early : (j : ℕ) → owes i.0 r ≡ true → IsSound r → flight j (drained_early i r) ≡ flight j r
  flies_early j some h =
      let here : opens_at j (drain_of i) ≡ one (i.0 == j) = grind arith in
      let left = ap (λ xs. times j (instances xs)) owed_after ∙ ap (times j) (instances_without i.0 (owed r.entries)) in
      omega (arith, opens_push j r.entries (drain_of i), here, left, others_once i.0 j (instances (owed r.entries)) (owed_one some h))

-- what was owed to the instance is carried no more
carried_without : (c : CtxId) (i : ℕ) (asks : List Ask) (completion : Completion)
    → option_map (λ (ask : Ask). ask.completion) (find (is_of i) asks) ≡ Some completion → times i (instances asks) ≤ 1
    → carried_among c asks ≡ carried_among c (without i asks) + carried_in c completion
carried_without c i [] completion is few = absurd (none-some completion is)
carried_without c i (ask ∷ asks) completion is few = grind (arith, nat_tests, is, few, without_none i asks, carried_without c i asks completion)

pub owed_so : (i : ℕ) (asks : List Ask) (completion : Completion) → option_map (λ (ask : Ask). ask.completion) (find (is_of i) asks)
    ≡ Some completion → list_any (is_of i) asks ≡ true
owed_so i [] completion is = absurd (none-some completion is)
owed_so i (ask ∷ asks) completion is = grind (arith, is, owed_so i asks completion)

pub carries_early : (c : CtxId) (i : InstanceId) (r : FlowRecord) (completion : Completion) → owed_to i.0 r ≡ Some completion → IsSound r
    → carried_by c r ≡ carried_by c (drained_early i r) + carried_in c completion
carries_early c i r completion is h =
    omega (arith, carried_without c i.0 (owed r.entries) completion is (owed_once r.stage r.entries i.0 h.course), ap (carried_among c) (owed_after i r))

-- what is owed stays owed, and what is handed out was owed
pub owes_early : (P : Ask → Type 0) (i : InstanceId) (r : FlowRecord) → All P (owed r.entries) → All P (owed (drained_early i r).entries)
owes_early P i r all = subst (All P) (sym (owed_after i r)) (All-filter (λ ask. not (i.0 == ask.instance.0)) P (owed r.entries) all)

pub handed_early : (P : Ask → Type 0) (i : ℕ) (asks : List Ask) (completion : Completion)
    → option_map (λ (ask : Ask). ask.completion) (find (is_of i) asks) ≡ Some completion → All P asks
    → (ask : Ask) × P ask × (ask.instance.0 ≡ i) × (ask.completion ≡ completion)
handed_early P i [] completion is all = absurd (none-some completion is)
handed_early P i (ask ∷ asks) completion is all = elim (cases_Bool (is_of i ask)) [
  | inl e ↦
      let same : ask.instance.0 ≡ i = grind (arith, nat_tests, e) in
      (ask, All-head P ask asks all, same, same_Some ask.completion completion (rw e at is))
  | inr e ↦ handed_early P i asks completion (rw e at is) (All-tail P ask asks all)
]

-- no create comes or goes
pub early_uncreated : (i : InstanceId) (r s : FlowRecord) → s ≡ drained_early i r → is_creating s ≡ is_creating r
early_uncreated i r s is = ap is_creating is

-- ---- such a drain is over

-- the drain that has the operation, if one has it, is another
keeps_other : (i : InstanceId) (s : Stage) (es : List Entry) → s ≢ InDrain i → HasItsDrain s es → HasItsDrain s (map (settle_drain i.0) es)
keeps_other i (InDrain j) es other before = elim (cases_eq i.0 j.0) [
  | inl same ↦ absurd (other (ap (λ n. InDrain (record { 0 = n })) (sym same)))
  | inr apart ↦ let no : cond (i.0 == j.0) (drain_opens i.0 es) 0 ≡ 0 = grind (arith, nat_tests, apart) in
      omega (arith, drains_drain_settled i.0 j.0 es, before, no)
]
keeps_other i s es other before = tt

module _ (i : InstanceId) (r : FlowRecord) where
  pub owed_over : owed (early_over i r).entries ≡ owed r.entries
  owed_over = owed_drain_settled i.0 r.entries

  pub sound_over : RunsEarly i (Some r) → IsSound r → IsSound (early_over i r)
  sound_over runs h = record {
    course = course_drain_over i.0 r.stage r.stage r.entries refl (omega arith) (keeps_other i r.stage r.entries runs.1 h.course.drain) h.course;
    here = h.here;
    params = h.params;
    kept = h.kept;
    places = omega (arith, ap length (settles_drain i.0 r.entries).visits, h.places);
    placed = placed_still r.stage r.entries (map (settle_drain i.0) r.entries) r.kept r.kept (omega arith) (places_drained i.0 r.entries)
        (settles_drain i.0 r.entries).visits h.placed;
    bytes = h.bytes;
    collected = λ k. ap (done_at r.stage) owed_over ∙ h.collected k;
  }

  pub stays_over : Stays r (early_over i r)
  stays_over = stays_so refl refl

  pub carries_over : (c : CtxId) → carried_by c (early_over i r) ≡ carried_by c r
  carries_over c = ap (carried_among c) owed_over

  pub drains_over : (j : ℕ) → RunsEarly i (Some r) → drain_opens j r.entries ≡ drain_opens j (early_over i r).entries + one (i.0 == j)
  drains_over j runs = omega (arith, drains_drain_settled i.0 j r.entries, ap (λ n. cond (i.0 == j) n 0) runs.0)

  pub flies_over : (j : ℕ) → RunsEarly i (Some r) → flight j r ≡ flight j (early_over i r) + one (i.0 == j)
  flies_over j runs = omega (arith, opens_drain_settled i.0 j r.entries, ap (λ n. cond (i.0 == j) n 0) runs.0, ap (λ xs. times j (instances xs)) owed_over)

pub over_uncreated : (i : InstanceId) (r s : FlowRecord) → s ≡ early_over i r → is_creating s ≡ is_creating r
over_uncreated i r s is = ap is_creating is

-- ---- the lowest of those that owe

-- the operation at the first place that passes is found by its number, and has the lowest
pub record Lowest (i : ℕ) (t u : FlowTable) (k : ℕ) (d : FlowRecord) : Type 0 where
  pub there : Found d.number t u k d
  pub owing : owes i d ≡ true
  pub lowest : All (λ (r : FlowRecord). owes i r ≡ true → d.number.0 ≤ r.number.0) t.operations

pub lowest_owing : {t u : FlowTable} {xs : List FlowRecord} {k : ℕ} {d e : FlowRecord} (i : ℕ) → t ≡ u → IsAscending t.operations
    → Some k ≡ position (owes i) xs → xs ≡ t.operations → d ≡ e
    → e ≡ get_or t.operations k e → Lowest i t u k d
lowest_owing {t} {u} {xs} {k} {d} i same rises is read here at =
    let at' = through t.operations k here at in
    let first = stands_there (owes i) t.operations k d (ap (position (owes i)) (sym read) ∙ sym is) in
    let finds = first.found ∙ ap (λ (r : FlowRecord). Some r) (sym at') in
    record {
      there = record {
        same = same;
        there = stands_there (is_number d.number) t.operations k d
            (sym (stands_rising (λ (r : FlowRecord). r.number.0) d.number.0 t.operations k d rises first.inside
            (ap (λ (r : FlowRecord). r.number.0) (sym at'))));
        at = at';
      };
      owing = found_passes (owes i) t.operations d finds;
      lowest = lowest_passes (λ (r : FlowRecord). r.number.0) (owes i) t.operations d rises finds;
    }

pub early_told : {t u : FlowTable} {k : ℕ} {d s : FlowRecord} {o : OpId} {completion : Completion} (i : InstanceId)
    → Lowest i.0 t u k d → o ≡ s.number → s ≡ drained_early i d
    → owed_to i.0 d ≡ Some completion → IsDrainedEarly i u o completion (record t { operations = set t.operations k s })
early_told {t} {u} {k} {d} {s} {o} {completion} i h number is gives =
    subst (λ p. IsDrainedEarly i u p completion (record t { operations = set t.operations k s }))
    (sym (number ∙ ap (λ (r : FlowRecord). r.number) is)) (record {
      owed = sym (told_some h.there (owed_to i.0) None (sym gives));
      lowest = subst (λ (w : FlowTable). All (λ (r : FlowRecord). owes i.0 r ≡ true → d.number.0 ≤ r.number.0) w.operations) h.there.same h.lowest;
      after = changed_some h.there (drained_early i) is;
    })

pub none_owing : {t u : FlowTable} {xs : List FlowRecord} (i : InstanceId) → t ≡ u → None ≡ position (owes i.0) xs → xs ≡ t.operations → DrainTaken i u None u
none_owing {t} {u} {xs} i same is read = (
  none_passes (owes i.0) u.operations (absent (owes i.0) u.operations (ap (λ (w : FlowTable). position (owes i.0) w.operations)
      (sym same) ∙ ap (position (owes i.0)) (sym read) ∙ sym is)),
  refl,
)

-- ---- in flight

opens_some : (i : ℕ) (es : List Entry) → one (list_any (is_at i) es) ≤ opens i es
opens_some i [] = omega arith
opens_some i (e ∷ es) = grind (arith, nat_tests, opens_some i es)

opens_none : (i : ℕ) (es : List Entry) → list_any (is_at i) es ≡ false → opens i es ≡ 0
opens_none i [] none = refl
opens_none i (e ∷ es) none = grind (arith, nat_tests, none, opens_none i es)

owes_none : (i : ℕ) (asks : List Ask) → list_any (is_of i) asks ≡ false → times i (instances asks) ≡ 0
owes_none i [] none = refl
owes_none i (ask ∷ asks) none = grind (arith, nat_tests, none, owes_none i asks)

pub flight_is : (i : ℕ) (r : FlowRecord) → IsSound r → flight i r ≡ one (flies i r)
flight_is i r h =
    let few = flight_few r.stage r.entries i h.course in
    elim (cases_Bool (owes i r)) [
      | inl owing ↦
          let is : one (flies i r) ≡ 1 = grind (arith, owing) in
          omega (arith, few, is, owes_counts i (owed r.entries) owing)
      | inr other ↦
          let is : one (flies i r) ≡ one (list_any (is_at i) r.entries) = grind (arith, other) in
          elim (cases_Bool (list_any (is_at i) r.entries)) [
            | inl there ↦ omega (arith, few, is, ap one there, opens_some i r.entries)
            | inr none ↦ omega (arith, is, ap one none, opens_none i r.entries none, owes_none i (owed r.entries) other)
          ]
    ]

pub in_flight_counted : (i : ℕ) (rs : List FlowRecord) → All IsSound rs → count_by (flies i) rs ≡ total (flight i) rs
in_flight_counted i [] sound = refl
in_flight_counted i (r ∷ rs) sound =
    omega (arith, count-cons (flies i) r rs, flight_is i r (All-head IsSound r rs sound), in_flight_counted i rs (All-tail IsSound r rs sound))

-- ---- all operations, where one gives a drain

module _ (t : FlowTable) (o : OpId) (i : InstanceId) (completion : Completion) (h : told (owed_to i.0) None o t ≡ Some completion) where
  told_owed : (m : Option FlowRecord) → unwrap_or (option_map (owed_to i.0) m) None ≡ Some completion → (r : FlowRecord) × (m ≡ Some r)
      × (owed_to i.0 r ≡ Some completion)
  told_owed None is = absurd (none-some completion is)
  told_owed (Some r) is = (r, refl, is)

  -- it is there, and owes
  pub owing_there : (r : FlowRecord) × (operation_at o t ≡ Some r) × (owed_to i.0 r ≡ Some completion)
  owing_there = told_owed (operation_at o t) h

  pub owing_so : owes i.0 owing_there.0 ≡ true
  owing_so = owed_so i.0 (owed owing_there.0.entries) completion owing_there.2

  pub flow_early : IsFlow t → IsFlow (changed o (drained_early i) t)
  flow_early flow =
      flow_changes t o (drained_early i) flow (λ x. refl) (λ x. refl) (λ x found.
      let same = same_Some owing_there.0 x (sym owing_there.1 ∙ found) in
      sound_early i x (ap (owes i.0) (sym same) ∙ owing_so) (found_holds IsSound (is_number o) t.operations x flow.sound found))
      (λ x found.
      let same = same_Some owing_there.0 x (sym owing_there.1 ∙ found) in
      needed_early i x (ap (owes i.0) (sym same) ∙ owing_so) (found_holds IsSound (is_number o) t.operations x flow.sound found))

  sound_there : IsFlow t → IsSound owing_there.0
  sound_there flow = found_holds IsSound (is_number o) t.operations owing_there.0 flow.sound owing_there.1

  pub early_carried : (c : CtxId) → IsFlow t → carried c t ≡ carried c (changed o (drained_early i) t) + carried_in c completion
  early_carried c flow =
      omega (
        arith,
        total_changed (carried_by c) (is_number o) (drained_early i) t.operations owing_there.0 owing_there.1,
        carries_early c i owing_there.0 completion owing_there.2 (sound_there flow),
      )

  pub early_in_flight : (j : ℕ) → IsFlow t → in_flight j (changed o (drained_early i) t) ≡ in_flight j t
  early_in_flight j flow =
      omega (
        arith,
        total_changed (flight j) (is_number o) (drained_early i) t.operations owing_there.0 owing_there.1,
        flies_early i owing_there.0 j owing_so (sound_there flow),
      )

  pub early_under_way : under_way (changed o (drained_early i) t).operations ≡ under_way t.operations
  early_under_way =
      omega (arith, count_changed (λ (x : FlowRecord). not x.collected) (is_number o) (drained_early i) t.operations owing_there.0 owing_there.1)

  pub early_creates : creates (changed o (drained_early i) t) ≡ creates t
  early_creates = omega (arith, count_changed is_creating (is_number o) (drained_early i) t.operations owing_there.0 owing_there.1)

-- ---- such a drain is over, and the record goes where nobody needs it any more

remove_set : {X : Type 0} (xs : List X) (k : ℕ) (x : X) → remove (set xs k x) k ≡ remove xs k
remove_set [] zero x = refl
remove_set [] (suc k) x = refl
remove_set (y ∷ xs) zero x = refl
remove_set (y ∷ xs) (suc k) x = ap (λ ys. y ∷ ys) (remove_set xs k x)

module _ {o : OpId} {t u : FlowTable} {k : ℕ} {d s : FlowRecord} (i : InstanceId) (h : Found o t u k d) (is : s ≡ early_over i d) where
  done_as : (b : Bool) → is_spent s ≡ b → drain_done_of o i u ≡ cond b (removed o t) (changed o (early_over i) t)
  done_as b spent =
      ap (drain_done_of o i) (sym h.same) ∙ ap (drain_done_in o i t) (operation_is h)
      ∙ ap (λ x. cond x (removed o t) (changed o (early_over i) t)) (ap is_spent (sym is) ∙ spent)

  pub done_stays : is_spent s ≡ false → record t { operations = set t.operations k s } ≡ drain_done_of o i u
  done_stays spent = changed_some (itself h) (early_over i) is ∙ sym (done_as false spent)

  gone : {xs : List FlowRecord} → xs ≡ remove (set t.operations k s) k → record t { operations = xs } ≡ removed o t
  gone left = ap (λ (rs : List FlowRecord). record t { operations = rs }) (left ∙ remove_set t.operations k s ∙ h.there.goes)

  pub done_goes : {xs : List FlowRecord} → is_spent s ≡ true → xs ≡ remove (set t.operations k s) k → record t { operations = xs } ≡ drain_done_of o i u
  done_goes spent left = gone left ∙ sym (done_as true spent)

  pub kept_gone : {xs : List FlowRecord} {flying creating : ℕ} {counts ns : List ℕ} → is_spent s ≡ true
      → xs ≡ remove (set t.operations k s) k → RunsEarly i (Some d)
      → Follows counts ns d s → IsKept flying creating counts t → IsKept flying creating ns (record t { operations = xs })
  kept_gone {xs} spent left runs follows kept =
      let parts = and_parts s.collected (not (list_any is_running_drain s.entries)) spent in
      let out : d.collected ≡ true = ap (λ (r : FlowRecord). r.collected) (sym is) ∙ parts.0 in
      let sound = found_holds IsSound (is_number o) t.operations d kept.0.sound (operation_is h) in
      let quiet : list_any is_running_drain s.entries ≡ false = grind (arith, parts.1) in
      let done = ap is_done is ∙ ap (done_at d.stage) (owed_over i d) ∙ sound.collected out in
      let calm = done_flies s (subst IsSound (sym is) (sound_over i d runs sound)) done quiet in
      let rest : xs ≡ remove t.operations k = left ∙ remove_set t.operations k s in (
        subst IsFlow (sym (gone left)) (flow_removed t o kept.0),
        rw rest (record {
          under_way = omega (
            arith,
            count_removed (λ (r : FlowRecord). not r.collected) t.operations k d h.there.inside h.at,
            ap (λ b. one (not b)) out,
            kept.1.under_way,
          );
          creates = omega (
            arith,
            count_removed is_creating t.operations k d h.there.inside h.at,
            ap one (done_uncreating d (sound.collected out)),
            kept.1.creates,
          );
          flights = λ j low. omega (arith, total_removed (flight j) t.operations k d h.there.inside h.at, follows.by j low, calm j, kept.1.flights j low);
        }),
      )

-- ---- the same of plain tables

number_apart : (f : FlowRecord → FlowRecord) (o : OpId) (rs : List FlowRecord) → ((x : FlowRecord) → (f x).number.0 ≡ x.number.0)
    → without_first (is_number o) (change_first (is_number o) f rs) ≡ without_first (is_number o) rs
number_apart f o [] same = refl
number_apart f o (x ∷ rs) same = grind (arith, same x, number_apart f o rs same)

pub done_carries : (r : FlowRecord) → is_done r ≡ true → (c : CtxId) → carried_by c r ≡ 0
done_carries r done c = ap (carried_among c) (done_calm r.stage (owed r.entries) done).0

total_gone : (f : FlowRecord → ℕ) (test : FlowRecord → Bool) (rs : List FlowRecord) (r : FlowRecord) → find test rs ≡ Some r
    → total f (without_first test rs) + f r ≡ total f rs
total_gone f test [] r is = absurd (none-some r is)
total_gone f test (x ∷ rs) r is = grind (arith, is, total_gone f test rs r)

count_gone : (p test : FlowRecord → Bool) (rs : List FlowRecord) (r : FlowRecord) → find test rs ≡ Some r
    → count_by p (without_first test rs) + one (p r) ≡ count_by p rs
count_gone p test [] r is = absurd (none-some r is)
count_gone p test (x ∷ rs) r is = elim (cases_Bool (test x)) [
  | inl e ↦ let same = same_Some x r (rw e at is) in rw e (omega (arith, count-cons p x rs, ap (λ (y : FlowRecord). one (p y)) same))
  | inr e ↦ rw e (omega (arith, count-cons p x rs, count-cons p x (without_first test rs), count_gone p test rs r (rw e at is)))
]

module _ (t : FlowTable) (o : OpId) (i : InstanceId) (r : FlowRecord) (at : operation_at o t ≡ Some r) (runs : RunsEarly i (Some r)) where
  -- either the drain is over and the record stays, or it goes after that: it was done, its answer was handed out and no drain of it runs any more
  pub drain_done_by : (P : FlowTable → Type 0) → IsFlow t → (is_spent (early_over i r) ≡ false → P (changed o (early_over i) t))
      → (is_done r ≡ true → r.collected ≡ true → list_any is_running_drain (early_over i r).entries ≡ false → P (removed o t)) → P (drain_done_of o i t)
  drain_done_by P flow stays goes =
      subst P (sym (ap (drain_done_in o i t) at)) (either_way P (is_spent (early_over i r)) (λ spent.
      let parts = and_parts r.collected (not (list_any is_running_drain (early_over i r).entries)) spent in
      goes ((found_holds IsSound (is_number o) t.operations r flow.sound at).collected parts.0) parts.0 (unset parts.1)) stays)
    where
      unset : {b : Bool} → not b ≡ true → b ≡ false
      unset {b} h = grind (arith, h)

  -- it goes from the operations as they are after the drain
  pub goes_after : removed o (changed o (early_over i) t) ≡ removed o t
  goes_after = ap (λ (rs : List FlowRecord). record t { operations = rs }) (number_apart (early_over i) o t.operations (λ x. refl))

  sound_now : IsFlow t → IsSound r
  sound_now flow = found_holds IsSound (is_number o) t.operations r flow.sound at

  -- where the record stays
  pub flow_over : is_spent (early_over i r) ≡ false → IsFlow t → IsFlow (changed o (early_over i) t)
  flow_over needed flow =
      flow_changes t o (early_over i) flow (λ x. refl) (λ x. refl) (λ x found.
      subst (λ (y : FlowRecord). IsSound (early_over i y)) (same_Some r x (sym at ∙ found)) (sound_over i r runs (sound_now flow)))
      (λ x found. subst (λ (y : FlowRecord). is_spent (early_over i y) ≡ false) (same_Some r x (sym at ∙ found)) needed)

  pub flow_drain_done : IsFlow t → IsFlow (drain_done_of o i t)
  flow_drain_done flow = drain_done_by IsFlow flow (λ needed. flow_over needed flow) (λ done out none. flow_removed t o flow)

  pub drain_done_carried : (c : CtxId) → IsFlow t → carried c (drain_done_of o i t) ≡ carried c t
  drain_done_carried c flow =
      drain_done_by (λ w. carried c w ≡ carried c t) flow
      (λ needed. omega (arith, total_changed (carried_by c) (is_number o) (early_over i) t.operations r at, carries_over i r c))
      (λ done out none. omega (arith, total_gone (carried_by c) (is_number o) t.operations r at, done_carries r done c))

  pub drain_done_in_flight : (j : ℕ) → IsFlow t → in_flight j t ≡ in_flight j (drain_done_of o i t) + one (i.0 == j)
  drain_done_in_flight j flow =
      drain_done_by (λ w. in_flight j t ≡ in_flight j w + one (i.0 == j)) flow
      (λ needed. omega (arith, total_changed (flight j) (is_number o) (early_over i) t.operations r at, flies_over i r j runs))
      (λ done out none.
      let over : is_done (early_over i r) ≡ true = ap (done_at r.stage) (owed_over i r) ∙ done in
      omega (
        arith,
        total_gone (flight j) (is_number o) t.operations r at,
        flies_over i r j runs,
        done_flies (early_over i r) (sound_over i r runs (sound_now flow)) over none j,
      ))

  pub drain_done_under_way : IsFlow t → under_way (drain_done_of o i t).operations ≡ under_way t.operations
  drain_done_under_way flow =
      drain_done_by (λ w. under_way w.operations ≡ under_way t.operations) flow
      (λ needed. omega (arith, count_changed (λ (x : FlowRecord). not x.collected) (is_number o) (early_over i) t.operations r at))
      (λ done out none. omega (arith, count_gone (λ (x : FlowRecord). not x.collected) (is_number o) t.operations r at, ap (λ b. one (not b)) out))

  pub drain_done_creates : IsFlow t → creates (drain_done_of o i t) ≡ creates t
  drain_done_creates flow =
      drain_done_by (λ w. creates w ≡ creates t) flow (λ needed. omega (arith, count_changed is_creating (is_number o) (early_over i) t.operations r at))
      (λ done out none. omega (arith, count_gone is_creating (is_number o) t.operations r at, ap one (done_uncreating r done)))

-- ---- how many drains of an instance run in an operation

abbrev told_at : (FlowRecord → ℕ) → ℕ → List FlowRecord → ℕ
told_at read n rs = unwrap_or (option_map read (find (λ (x : FlowRecord). x.number.0 == n) rs)) 0

apart_from : (o p : ℕ) (x : FlowRecord) → o ≢ p → (x.number.0 == o) ≡ true → (x.number.0 == p) ≡ false
apart_from o p x other is = grind (arith, nat_tests, other, is)

same_number_is : (n : ℕ) → (n == n) ≡ true
same_number_is n = grind (arith, nat_tests)

other_number_is : (n m : ℕ) → n ≢ m → (n == m) ≡ false
other_number_is n m other = grind (arith, nat_tests, other)

absent_above : (n : ℕ) (rs : List FlowRecord) → All (λ (x : FlowRecord). n < x.number.0) rs → find (λ (x : FlowRecord). x.number.0 == n) rs ≡ None
absent_above n [] above = refl
absent_above n (x ∷ rs) above =
    let here : n < x.number.0 = All-head (λ (y : FlowRecord). n < y.number.0) x rs above in
    let other : (x.number.0 == n) ≡ false = grind (arith, nat_tests, here) in
    rw other (absent_above n rs (All-tail (λ (y : FlowRecord). n < y.number.0) x rs above))

-- none of that number is left
left_none : (o : OpId) (rs : List FlowRecord) → IsAscending rs → find (is_number o) (without_first (is_number o) rs) ≡ None
left_none o [] rises = refl
left_none o (x ∷ rs) rises = elim (cases_Bool (is_number o x)) [
  | inl e ↦
      let same : x.number.0 ≡ o.0 = grind (arith, nat_tests, e) in
      rw e (absent_above o.0 rs (subst (λ n. All (λ (y : FlowRecord). n < y.number.0) rs) same (others_above (λ (y : FlowRecord). y.number.0) x rs rises)))
  | inr e ↦ rw e (rw e (left_none o rs (rest_rises (λ (y : FlowRecord). y.number.0) x rs rises)))
]

module _ (read : FlowRecord → ℕ) (t : FlowTable) (o p : OpId) (r : FlowRecord) (at : operation_at o t ≡ Some r) where
  told_step : (f : FlowRecord → FlowRecord) → ((x : FlowRecord) → (f x).number.0 ≡ x.number.0)
      → told read 0 p (changed o f t) + cond (o.0 == p.0) (read r) 0 ≡ told read 0 p t + cond (o.0 == p.0) (read (f r)) 0
  told_step f same = elim (cases_eq o.0 p.0) [
    | inl e ↦
        let tell = λ (m : Option FlowRecord). unwrap_or (option_map read m) 0 in
        let before : told_at read o.0 t.operations ≡ read r = ap tell at in
        let after : told_at read o.0 (change_first (is_number o) f t.operations) ≡ read (f r) =
        ap tell (find_changed (is_number o) f t.operations (λ x. ap (λ n. n == o.0) (same x)) ∙ ap (option_map f) at) in
        subst (λ n. told_at read n (change_first (is_number o) f t.operations) + cond (o.0 == n) (read r) 0
        ≡ told_at read n t.operations + cond (o.0 == n) (read (f r)) 0) e
        (rw (same_number_is o.0) (omega (arith, before, after)))
    | inr e ↦
        let rest = ap (λ (m : Option FlowRecord). unwrap_or (option_map read m) 0) (find_unchanged (is_number o) (is_number p) f t.operations
        (λ x is. (apart_from o.0 p.0 x e is, apart_from o.0 p.0 (f x) e (ap (λ n. n == o.0) (same x) ∙ is)))) in
        rw (other_number_is o.0 p.0 e) (omega (arith, rest))
  ]

  told_gone : IsAscending t.operations → told read 0 p (removed o t) + cond (o.0 == p.0) (read r) 0 ≡ told read 0 p t
  told_gone rises = elim (cases_eq o.0 p.0) [
    | inl e ↦
        let tell = λ (m : Option FlowRecord). unwrap_or (option_map read m) 0 in
        let before : told_at read o.0 t.operations ≡ read r = ap tell at in
        let after : told_at read o.0 (without_first (is_number o) t.operations) ≡ 0 = ap tell (left_none o t.operations rises) in
        subst (λ n. told_at read n (without_first (is_number o) t.operations) + cond (o.0 == n) (read r) 0
        ≡ told_at read n t.operations) e (rw (same_number_is o.0) (omega (arith, before, after)))
    | inr e ↦
        let rest = ap (λ (m : Option FlowRecord). unwrap_or (option_map read m) 0)
        (find_without (is_number o) (is_number p) t.operations (λ x is. apart_from o.0 p.0 x e is)) in
        rw (other_number_is o.0 p.0 e) (omega (arith, rest))
  ]

if_more : (b : Bool) (n m k : ℕ) → n ≡ m + k → cond b n 0 ≡ cond b m 0 + cond b k 0
if_more true n m k is = is
if_more false n m k is = refl

-- one more of the instance runs in the operation that gives it
pub early_drains : (t : FlowTable) (o p : OpId) (i : InstanceId) (r : FlowRecord) (j : ℕ) → operation_at o t ≡ Some r
    → told (λ x. drain_opens j x.entries) 0 p (changed o (drained_early i) t) ≡ told (λ x. drain_opens j x.entries) 0 p t + cond (o.0 == p.0) (one (i.0 == j)) 0
early_drains t o p i r j at =
    omega (arith, told_step (λ x. drain_opens j x.entries) t o p r at (drained_early i) (λ x. refl), if_more (o.0 == p.0) _ _ _ (drains_early i r j))

-- and one fewer where it is over
pub drain_done_drains : (t : FlowTable) (o p : OpId) (i : InstanceId) (r : FlowRecord) (j : ℕ) → operation_at o t ≡ Some r → RunsEarly i (Some r) → IsFlow t
    → told (λ x. drain_opens j x.entries) 0 p t ≡ told (λ x. drain_opens j x.entries) 0 p (drain_done_of o i t) + cond (o.0 == p.0) (one (i.0 == j)) 0
drain_done_drains t o p i r j at runs flow =
    let read : FlowRecord → ℕ = λ x. drain_opens j x.entries in
    drain_done_by t o i r at runs (λ w. told read 0 p t ≡ told read 0 p w + cond (o.0 == p.0) (one (i.0 == j)) 0) flow
    (λ needed. omega (arith, told_step read t o p r at (early_over i) (λ x. refl), if_more (o.0 == p.0) _ _ _ (drains_over i r j runs)))
    (λ done out none.
    let left : drain_opens j r.entries ≡ one (i.0 == j) = omega (arith, drains_over i r j runs, none_running j (early_over i r).entries none) in
    omega (arith, told_gone read t o p r at flow.ascending, ap (λ n. cond (o.0 == p.0) n 0) left))

pub over_leaves : (i : InstanceId) (r : FlowRecord) {s : FlowRecord} → RunsEarly i (Some r) → s ≡ early_over i r → Leaves (Some i) r s
over_leaves i r runs is j = omega (arith, ap (flight j) is, flies_over i r j runs)
