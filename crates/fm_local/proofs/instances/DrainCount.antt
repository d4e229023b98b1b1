-- Each drain leaves one operation fewer that wasn't drained of the instance.
use Rattle.fm_local.proofs.Words.{[], ◌∷◌, ◌≡◌, ◌≤◌, ◌<◌, ◌+◌, ◌++◌, ◌==◌, ◌||◌, ◌∙◌, Bool, Completion, FlowRecord, InstanceId, List, None, Ok, OpId, Option, Result, Some, Status, WorkerId, World, ap, arith, cond, count_by, false, find, map, not, refl, subst, sym, true, ℕ, list_any, none-some, cases_Bool, inl, inr}
use Rattle.fm_local.proofs.Words.{Ask, Entry, TakesDrain, DrainsWhere, is_number, is_stopping_at, owed, row_at, worker_at, Place, eq-eqb}
use Rattle.std.specs.Prelude.{All, filter, option_map, reverse, unwrap_or}
use Rattle.std.specs.List.{filter_map}
use Rattle.std.proofs.lemmas.Bool.{eqb-true, or_parts}
use Rattle.std.proofs.lemmas.List.Elements.{All-cons, All-nil, filter_map-append}
use Rattle.fm_types.specs.Lists.{change_first}
use Rattle.fm_types.proofs.Firsts.{count-cons, count_changed, count_without, found_holds, found_passes}
use Rattle.fm_operations.specs.declared.entry.Entry.TheVariants.{Drain, Post}
use Rattle.fm_operations.specs.Drains.{IsDrainedEarly, drain_done_in, drain_done_of, drained_early, early_over, is_of, owed_to}
use Rattle.fm_operations.specs.Entries.{answers, asked, is_answered, settle_drain}
use Rattle.fm_operations.specs.Table.{FlowTable, is_spent, operation_at, removed, changed}
use Rattle.fm_world.specs.EarlyDrains.{DrainReturns, DrainReturnsAt}
use Rattle.fm_filter.specs.Standing.{Shape, drain_of, shape_of}
use Rattle.fm_local.specs.Drains.{left_to_drain}
use Rattle.fm_local.specs.Places.{EndsFrom}
use Rattle.fm_local.proofs.instances.Rest.{happened}
use Rattle.fm_local.proofs.queues.Standing.{drained_same, map_changed}

-- ---- entries

-- one that was neither answered nor drained wasn't drained
not_drained : (i : ℕ) (es : List Entry) → list_any (answers i) es ≡ false → list_any (λ j. j == i) (filter_map drain_of es) ≡ false
not_drained i [] h = refl
not_drained i (Drain visit ∷ es) h =
    let parts = or_parts (visit.instance.0 == i) (list_any (answers i) es) h in
    rw parts.0 (not_drained i es parts.1)
not_drained i (Post visit ∷ es) h = not_drained i es (or_parts (visit.instance.0 == i) (list_any (answers i) es) h).1
not_drained i (_ ∷ es) h = not_drained i es h

any_last : (i : ℕ) (xs : List ℕ) → list_any (λ j. j == i) (xs ++ i ∷ []) ≡ true
any_last i [] = rw (eq-eqb i i refl) refl
any_last i (x ∷ xs) = elim (x == i) as (λ b. b || list_any (λ j. j == i) (xs ++ i ∷ []) ≡ true) [ true ↦ refl | false ↦ any_last i xs ]

-- what was kept of a list passes the test
all_kept : (p : Ask → Bool) (xs : List Ask) → All (λ x. p x ≡ true) (filter p xs)
all_kept p [] = All-nil (λ (x : Ask). p x ≡ true)
all_kept p (x ∷ xs) = elim (cases_Bool (p x)) [
  | inl e ↦ rw e (All-cons (λ (x : Ask). p x ≡ true) x (filter p xs) e (all_kept p xs))
  | inr e ↦ rw e (all_kept p xs)
]

-- ---- records

module _ (i : InstanceId) where
  abbrev is_left : Shape → Bool
  is_left x = not (list_any (λ j. j == i.0) x.drained)

  abbrev left_of : FlowRecord → Bool
  left_of r = is_left (shape_of r)

  counted : (rs : List FlowRecord) → count_by is_left (map shape_of rs) ≡ count_by left_of rs
  counted [] = refl
  counted (r ∷ rs) = omega (arith, count-cons is_left (shape_of r) (map shape_of rs), count-cons left_of r rs, counted rs)

  -- one that owes the instance a postoperation is left
  owing_left : (r : FlowRecord) (completion : Completion) → owed_to i.0 r ≡ Some completion → left_of r ≡ true
  owing_left r completion owing = by_found (find (is_of i.0) (owed r.entries)) refl owing
    where
      unanswered : (b : Bool) → not b ≡ true → b ≡ false
      unanswered true h = cc
      unanswered false h = refl

      by_found : (m : Option Ask) → find (is_of i.0) (owed r.entries) ≡ m → option_map (λ (ask : Ask). ask.completion) m ≡ Some completion → left_of r ≡ true
      by_found None at h = absurd (none-some completion h)
      by_found (Some ask) at h =
          let kept : not (is_answered r.entries ask.instance.0) ≡ true =
          found_holds (λ (x : Ask). not (is_answered r.entries x.instance.0) ≡ true) (is_of i.0) (owed r.entries) ask
          (all_kept (λ (x : Ask). not (is_answered r.entries x.instance.0)) (reverse (asked r.entries))) at in
          let own : ask.instance.0 ≡ i.0 = eqb-true ask.instance.0 i.0 (found_passes (is_of i.0) (owed r.entries) ask at) in
          ap not (not_drained i.0 r.entries (subst (λ (n : ℕ). is_answered r.entries n ≡ false) own (unanswered (is_answered r.entries ask.instance.0) kept)))

  -- and one that is drained of it isn't
  drained_left : (r : FlowRecord) → left_of (drained_early i r) ≡ false
  drained_left r =
      ap (λ js. not (list_any (λ j. j == i.0) js)) (filter_map-append drain_of r.entries (Drain (record { instance = i; is_running = true }) ∷ []))
      ∙ ap not (any_last i.0 (filter_map drain_of r.entries))

  -- ---- a drain that is taken
  taken_less : (old new : FlowTable) (o : OpId) (completion : Completion) → IsDrainedEarly i old o completion new
      → count_by left_of new.operations + 1 ≡ count_by left_of old.operations
  taken_less old new o completion h = by_record (operation_at o old) refl h.owed
    where
      by_record : (m : Option FlowRecord) → operation_at o old ≡ m → unwrap_or (option_map (owed_to i.0) m) None ≡ Some completion
          → count_by left_of new.operations + 1 ≡ count_by left_of old.operations
      by_record None at owing = absurd (none-some completion owing)
      by_record (Some r) at owing =
          let count = count_changed left_of (is_number o) (drained_early i) old.operations r at in
          let goes : count_by left_of new.operations ≡ count_by left_of (change_first (is_number o) (drained_early i) old.operations) =
          ap (λ t. count_by left_of t.operations) h.after in
          let before : ◌≡◌ {A = ℕ} (cond (left_of r) 1 0) 1 = ap (λ (b : Bool). cond {A = ℕ} b 1 0) (owing_left r completion owing) in
          let after : ◌≡◌ {A = ℕ} (cond (left_of (drained_early i r)) 1 0) 0 = ap (λ (b : Bool). cond {A = ℕ} b 1 0) (drained_left r) in
          omega (arith, count, goes, before, after)

  -- ---- a drain that is over
  over_shaped : (j : InstanceId) (r : FlowRecord) → shape_of (early_over j r) ≡ shape_of r
  over_shaped j r =
      ap (λ js. record { number = r.number; operation = r.operation; path = r.path; drained = js }) (drained_same (settle_drain j.0) same r.entries)
    where
      same : (e : Entry) → drain_of (settle_drain j.0 e) ≡ drain_of e
      same (Drain visit) = refl
      same _ = refl

  over_most : (j : InstanceId) (o : OpId) (t : FlowTable)
      → count_by is_left (map shape_of (drain_done_of o j t).operations) ≤ count_by is_left (map shape_of t.operations)
  over_most j o t = by_record (operation_at o t)
    where
      by_spent : (b : Bool) → count_by is_left (map shape_of (cond b (removed o t) (changed o (early_over j) t)).operations) ≤ count_by
          is_left (map shape_of t.operations)
      by_spent true = omega (arith, counted (removed o t).operations, counted t.operations, count_without left_of (is_number o) t.operations)
      by_spent false = omega (arith, ap (count_by is_left) (map_changed shape_of (is_number o) (early_over j) t.operations (over_shaped j)))

      by_record : (m : Option FlowRecord) → count_by is_left (map shape_of (drain_done_in o j t m).operations) ≤ count_by is_left (map shape_of t.operations)
      by_record None = omega arith
      by_record (Some r) = by_spent (is_spent (early_over j r))

module _ (k : WorkerId) (i : InstanceId) (old : World) (o : OpId) (completion : Completion) (mid : World)
    (takes : TakesDrain old k i (Ok (Some (o, completion))) mid) where
  taken : left_to_drain i mid + 1 ≡ left_to_drain i old
  unfolding TakesDrain
  taken = by_stopping (is_stopping_at (row_at old.stack i)) (happened old k (Some (o, completion)) mid _ takes).1
    where
      by_stopping : (b : Bool) → DrainsWhere b old k i (Some (o, completion)) mid → left_to_drain i mid + 1 ≡ left_to_drain i old
      by_stopping true d = omega (arith, counted i mid.flow.operations, counted i old.flow.operations, taken_less i old.flow mid.flow o completion d.0)
      by_stopping false d = absurd (none-some (o, completion) (sym d.0))

  returned : (before : World) (ended : Result (Unit {0}) Status) (new : World) → DrainReturns before k ended new → left_to_drain i new ≤ left_to_drain i before
  unfolding DrainReturns
  returned before ended new h = by_worker (worker_at before.workers k) h
    where
      stays : new ≡ before → left_to_drain i new ≤ left_to_drain i before
      stays same = omega (arith, ap (left_to_drain i) same)

      by_worker : (m : Option Place) → DrainReturnsAt before k ended new m → left_to_drain i new ≤ left_to_drain i before
      by_worker (Some (Place.EarlyDrain p j)) h = omega (arith, ap (left_to_drain i) h.2, over_most i j p before.flow)
      by_worker _ h = stays h.1

  pub drained_less : (ended : Result (Unit {0}) Status) (new : World) → EndsFrom mid (λ before. DrainReturns before k ended new)
      → left_to_drain i new < left_to_drain i old
  drained_less ended new (before, stands, returns) =
      let same : left_to_drain i before ≡ left_to_drain i mid =
      ap (λ s. count_by (λ (x : Shape). not (list_any (λ j. j == i.0) x.drained)) s.operations) stands in
      omega (arith, taken, same, returned before ended new returns)
