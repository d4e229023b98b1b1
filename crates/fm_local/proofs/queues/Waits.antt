-- Operations that wait: how they go on waiting, and how one comes and goes.
use Rattle.fm_local.proofs.Words.{[], ◌∷◌, ◌≡◌, Bool, FlowRecord, FlowTable, List, None, OpId, Option, Some, World, false, map, true, ℕ, ◌&&◌, ◌++◌, ◌==◌, ◌||◌, ◌∙◌, ◌<◌, ap, ap₂, arith, changed, cond, drop, find, Operation}
use Rattle.fm_local.proofs.Words.{inl, inr, is_number, list_any, not, nat_tests, operation_at, option_map, refl, subst, sym, told, true≢false, unwrap_or, cases_Bool}
use Rattle.std.specs.Prelude.{All, filter}
use Rattle.std.proofs.lemmas.List.Elements.{All-cons, All-head, All-nil, All-push, All-tail, All-weaker, filter_agree}
use Rattle.std.proofs.lemmas.List.Folds.{list_any-append}
use Rattle.std.proofs.Common.{get_or}
use Rattle.fm_types.specs.Lists.{change_first}
use Rattle.fm_types.proofs.Firsts.{find_changed, found_holds, found_passes}
use Rattle.fm_operations.specs.Table.{IsFlow, is_collectable}
use Rattle.fm_filter.specs.Standing.{Shape, Standing, standing_of}
use Rattle.fm_local.specs.Waits.{IsEnded, IsLoose, Wait, are_apart, are_loose, go_on_once, is_among, is_left, is_loose, shape_of_waiting, standing_with}
use Rattle.fm_local.proofs.queues.OtherRecords.{Stays, by_number, same_number, ended_loose, others_changed}

both : (a b : Bool) → a ≡ true → b ≡ true → a && b ≡ true
both a b h g = grind arith

parts : (a b : Bool) → a && b ≡ true → (a ≡ true) × (b ≡ true)
parts a b h = grind arith

pub none_of : (a b : Bool) → a || b ≡ false → (a ≡ false) × (b ≡ false)
none_of a b h = grind arith

neither : (a b : Bool) → a ≡ false → b ≡ false → a || b ≡ false
neither a b h g = grind arith

untrue : (a : Bool) → not a ≡ true → a ≡ false
untrue a h = grind arith

turned : (a : Bool) → a ≡ false → not a ≡ true
turned a h = grind arith

-- what ended is with nobody
pub ended_is_loose : (t : FlowTable) (o : OpId) → IsEnded t o → IsLoose t o
ended_is_loose t o h = by_found (operation_at o t) h
  where
    by_found : (m : Option FlowRecord) → unwrap_or (option_map is_collectable m) false ≡ true → unwrap_or (option_map is_loose m) false ≡ true
    by_found None h = cc
    by_found (Some r) h = ended_loose r h

-- ---- among others

-- what holds of each of a list is of another one than that of which it doesn't hold
not_loose_among : (t : FlowTable) (o : OpId) → told is_loose false o t ≡ false → (os : List OpId) → are_loose t os ≡ true → is_among o os ≡ false
not_loose_among t o busy [] h = refl
not_loose_among t o busy (x ∷ os) h =
    let k = parts (told is_loose false x t) (are_loose t os) h in
    neither (x.0 == o.0) (is_among o os) (by_number (λ q. told is_loose false q t ≡ true → (q.0 == o.0) ≡ false) o x
    (λ loose. absurd (true≢false (sym loose ∙ busy))) (λ other loose. other) k.0)
    (not_loose_among t o busy os k.1)

not_ended_among : (t : FlowTable) (o : OpId) → told is_loose false o t ≡ false → (os : List OpId) → All (IsEnded t) os → is_among o os ≡ false
not_ended_among t o busy [] h = refl
not_ended_among t o busy (x ∷ os) h =
    neither (x.0 == o.0) (is_among o os)
    (by_number (λ q. IsLoose t q → (q.0 == o.0) ≡ false) o x (λ loose. absurd (true≢false (sym loose ∙ busy))) (λ other loose. other)
    (ended_is_loose t x (All-head (IsEnded t) x os h)))
    (not_ended_among t o busy os (All-tail (IsEnded t) x os h))

-- an operation that somebody is inside of, or that a filter holds, doesn't wait
pub busy_apart : (t : FlowTable) (resumed ended : List OpId) (o : OpId) → told is_loose false o t ≡ false → Wait t resumed ended
    → (is_among o resumed ≡ false) × (is_among o ended ≡ false)
busy_apart t resumed ended o busy h =
    (not_loose_among t o busy resumed (parts (are_loose t resumed) (are_apart resumed) h.going).0, not_ended_among t o busy ended h.done)

-- ---- an event comes

loose_still : (t u : FlowTable) (os : List OpId) → ((p : OpId) → is_among p os ≡ true → IsLoose t p → IsLoose u p)
    → are_loose t os ≡ true → are_loose u os ≡ true
loose_still t u [] stays h = refl
loose_still t u (x ∷ os) stays h =
    let k = parts (told is_loose false x t) (are_loose t os) h in
    both (told is_loose false x u) (are_loose u os) (stays x (ap (λ b. b || is_among x os) (eq-eqb' x.0)) k.0)
    (loose_still t u os (λ p among. stays p (later (x.0 == p.0) (is_among p os) among)) k.1)
  where
    later : (a b : Bool) → b ≡ true → a || b ≡ true
    later a b h = grind arith

    eq-eqb' : (n : ℕ) → (n == n) ≡ true
    eq-eqb' n = grind (arith, nat_tests)

ended_still : (t u : FlowTable) (os : List OpId) → ((p : OpId) → is_among p os ≡ true → IsEnded t p → IsEnded u p) → All (IsEnded t) os → All (IsEnded u) os
ended_still t u [] stays h = All-nil (IsEnded u)
ended_still t u (x ∷ os) stays h =
    All-cons (IsEnded u) x os (stays x (ap (λ b. b || is_among x os) (same x.0)) (All-head (IsEnded t) x os h))
    (ended_still t u os (λ p among. stays p (later (x.0 == p.0) (is_among p os) among)) (All-tail (IsEnded t) x os h))
  where
    later : (a b : Bool) → b ≡ true → a || b ≡ true
    later a b h = grind arith

    same : (n : ℕ) → (n == n) ≡ true
    same n = grind (arith, nat_tests)

-- that leaves all that wait
pub waits_on : (t u : FlowTable) (resumed ended : List OpId) → ((p : OpId) → Stays p t u) → Wait t resumed ended → Wait u resumed ended
waits_on t u resumed ended stays h =
    let k = parts (are_loose t resumed) (are_apart resumed) h.going in
    record {
      going = both (are_loose u resumed) (are_apart resumed) (loose_still t u resumed (λ p among. (stays p).loose) k.0) k.1;
      done = All-weaker (IsEnded t) (IsEnded u) (λ p. (stays p).ended) ended h.done;
      others = h.others;
      once = h.once;
    }

-- or of one operation that doesn't wait
pub others_wait : (t u : FlowTable) (resumed ended : List OpId) (o : OpId) → ((p : OpId) → (p.0 == o.0) ≡ false → Stays p t u)
    → is_among o resumed ≡ false → is_among o ended ≡ false
    → Wait t resumed ended → Wait u resumed ended
others_wait t u resumed ended o stays going done h =
    let k = parts (are_loose t resumed) (are_apart resumed) h.going in
    record {
      going = both (are_loose u resumed) (are_apart resumed) (loose_still t u resumed (λ p among. (stays p (another resumed going p among)).loose) k.0) k.1;
      done = ended_still t u ended (λ p among. (stays p (another ended done p among)).ended) h.done;
      others = h.others;
      once = h.once;
    }
  where
    another : (os : List OpId) → is_among o os ≡ false → (p : OpId) → is_among p os ≡ true → (p.0 == o.0) ≡ false
    another os none p among = by_number (λ q. is_among q os ≡ true → (q.0 == o.0) ≡ false) o p
        (λ is. absurd (true≢false (sym is ∙ none))) (λ other is. other) among

-- ---- one comes, and one goes

-- the first of those that are to go on
pub taken : (t : FlowTable) (o : OpId) (resumed ended : List OpId) → Wait t (o ∷ resumed) ended → Wait t resumed ended
    × (is_among o resumed ≡ false) × (is_among o ended ≡ false)
taken t o resumed ended h =
    let k = parts (are_loose t (o ∷ resumed)) (are_apart (o ∷ resumed)) h.going in
    let loose = parts (told is_loose false o t) (are_loose t resumed) k.0 in
    let apart = parts (not (is_among o resumed)) (are_apart resumed) k.1 in (
      record {
        going = both (are_loose t resumed) (are_apart resumed) loose.1 apart.1;
        done = h.done;
        others = All-weaker (λ (p : OpId). is_among p (o ∷ resumed) ≡ false) (λ (p : OpId). is_among p resumed ≡ false)
            (λ p none. (none_of (o.0 == p.0) (is_among p resumed) none).1) ended h.others;
        once = h.once;
      },
      untrue (is_among o resumed) apart.0,
      not_among ended h.others,
    )
  where
    swapped : (a b : ℕ) → (a == b) ≡ false → (b == a) ≡ false
    swapped a b h = grind (arith, nat_tests)

    not_among : (os : List OpId) → All (λ (p : OpId). is_among p (o ∷ resumed) ≡ false) os → is_among o os ≡ false
    not_among [] h = refl
    not_among (x ∷ os) h =
        neither (x.0 == o.0) (is_among o os)
        (swapped o.0 x.0 (none_of (o.0 == x.0) (is_among x resumed) (All-head (λ (p : OpId). is_among p (o ∷ resumed) ≡ false) x os h)).0)
        (not_among os (All-tail (λ (p : OpId). is_among p (o ∷ resumed) ≡ false) x os h))

apart_push : (os : List OpId) (o : OpId) → is_among o os ≡ false → are_apart os ≡ true → are_apart (os ++ o ∷ []) ≡ true
apart_push [] o none h = refl
apart_push (x ∷ os) o none h =
    let k = parts (not (is_among x os)) (are_apart os) h in
    let n = none_of (x.0 == o.0) (is_among o os) none in
    both (not (is_among x (os ++ o ∷ []))) (are_apart (os ++ o ∷ []))
    (turned (is_among x (os ++ o ∷ [])) (list_any-append (λ (p : OpId). p.0 == x.0) os (o ∷ [])
    ∙ neither (is_among x os) ((o.0 == x.0) || false) (untrue (is_among x os) k.0) (last (x.0) (o.0) n.0)))
    (apart_push os o n.1 k.1)
  where
    last : (a b : ℕ) → (a == b) ≡ false → (b == a) || false ≡ false
    last a b h = grind (arith, nat_tests)

-- one that ended, behind the others
pub ended_more : (t : FlowTable) (o : OpId) (resumed ended : List OpId) → IsEnded t o → is_among o resumed ≡ false
    → is_among o ended ≡ false → Wait t resumed ended → Wait t resumed (ended ++ o ∷ [])
ended_more t o resumed ended is going done h = record {
  going = h.going;
  done = All-push (IsEnded t) ended o h.done is;
  others = All-push (λ (p : OpId). is_among p resumed ≡ false) ended o h.others going;
  once = apart_push ended o done h.once;
}

-- without the first of those that ended
pub ended_fewer : (t : FlowTable) (resumed ended : List OpId) → Wait t resumed ended → Wait t resumed (drop 1 ended)
ended_fewer t resumed [] h = h
ended_fewer t resumed (o ∷ ended) h = record {
  going = h.going;
  done = All-tail (IsEnded t) o ended h.done;
  others = All-tail (λ (p : OpId). is_among p resumed ≡ false) o ended h.others;
  once = (parts (not (is_among o ended)) (are_apart ended) h.once).1;
}

pub not_in_fewer : (o : OpId) (os : List OpId) → is_among o os ≡ false → is_among o (drop 1 os) ≡ false
not_in_fewer o [] h = h
not_in_fewer o (x ∷ os) h = (none_of (x.0 == o.0) (is_among o os) h).1

-- ---- a new one

below_next : (t : FlowTable) (o : OpId) → All (λ (r : FlowRecord). r.number.0 < t.next) t.operations → IsLoose t o → o.0 < t.next
below_next t o below h = by_found (operation_at o t) refl h
  where
    by_found : (m : Option FlowRecord) → operation_at o t ≡ m → unwrap_or (option_map is_loose m) false ≡ true → o.0 < t.next
    by_found None at h = cc
    by_found (Some r) at h =
        subst (λ n. n < t.next) (same_number r.number.0 o.0 (found_passes (is_number o) t.operations r at))
        (found_holds (λ (x : FlowRecord). x.number.0 < t.next) (is_number o) t.operations r below at)

pub new_apart : (t : FlowTable) (resumed ended : List OpId) (o : OpId) → IsFlow t → o.0 ≡ t.next → Wait t resumed ended
    → (is_among o resumed ≡ false) × (is_among o ended ≡ false)
new_apart t resumed ended o flow is h = busy_apart t resumed ended o (not_there (told is_loose false o t) refl) h
  where
    not_there : (b : Bool) → told is_loose false o t ≡ b → told is_loose false o t ≡ false
    not_there false at = at
    not_there true at = absurd (omega (arith, below_next t o flow.below at, is))

-- ---- one that was held goes on

module _ (t : FlowTable) (o : OpId) (r : FlowRecord) (f : FlowRecord → FlowRecord) (resumed : List OpId) (at : operation_at o t
    ≡ Some r) (busy : is_loose r ≡ false)
    (same : (x : FlowRecord) → (f x).number.0 ≡ x.number.0) (loose : is_loose (f r) ≡ true) where
  abbrev after : FlowTable
  after = changed o f t

  others : (p : OpId) → (p.0 == o.0) ≡ false → operation_at p after ≡ operation_at p t
  others p differ = others_changed p o f t differ same

  held : told is_loose false o t ≡ false
  held = ap (λ m. unwrap_or (option_map is_loose m) false) at ∙ busy

  goes : told is_loose false o after ≡ true
  goes = ap (λ m. unwrap_or (option_map is_loose m) false)
      (find_changed (is_number o) f t.operations (λ x. ap (λ n. n == o.0) (same x)) ∙ ap (option_map f) at) ∙ loose

  last : (a b : ℕ) (c : Bool) → (a == b) ≡ false → c || ((b == a) || false) ≡ c
  last a b c h = grind (arith, nat_tests)

  queued_among : (p : OpId) → (p.0 == o.0) ≡ false → is_among p (resumed ++ o ∷ []) ≡ is_among p resumed
  queued_among p differ = list_any-append (λ (q : OpId). q.0 == p.0) resumed (o ∷ []) ∙ last p.0 o.0 (is_among p resumed) differ

  own : (n : ℕ) (c : Bool) → c || ((n == n) || false) ≡ true
  own n c = grind (arith, nat_tests)

  -- whether one has ended and isn't to go on
  left_same : (n : ℕ) → is_left after (resumed ++ o ∷ []) n ≡ is_left t resumed n
  left_same n = by_number (λ q. is_left after (resumed ++ o ∷ []) q.0 ≡ is_left t resumed q.0) o (record { 0 = n })
      (ap (λ b. told is_collectable false o after && not b) (list_any-append (λ (q : OpId). q.0 == o.0) resumed (o ∷ [])
      ∙ own o.0 (is_among o resumed)) ∙ never (told is_collectable false o after)
      ∙ sym (ap (λ b. b && not (is_among o resumed)) not_ended))
      (λ differ. ap₂ (λ m b. unwrap_or (option_map is_collectable m) false && not b) (others (record { 0 = n }) differ)
      (queued_among (record { 0 = n }) differ))
    where
      never : (b : Bool) → b && false ≡ false
      never true = refl
      never false = refl

      by_end : (b : Bool) → told is_collectable false o t ≡ b → told is_collectable false o t ≡ false
      by_end false is = is
      by_end true is = absurd (true≢false (sym (ended_is_loose t o is) ∙ held))

      not_ended : told is_collectable false o t ≡ false
      not_ended = by_end (told is_collectable false o t) refl

  -- those that are to go on do so once
  loose_all : (os : List OpId) → are_loose after os ≡ true → told is_loose false o after ≡ true → are_loose after (os ++ o ∷ []) ≡ true
  loose_all [] h g = both (told is_loose false o after) true g refl
  loose_all (x ∷ os) h g =
      let k = parts (told is_loose false x after) (are_loose after os) h in
      both (told is_loose false x after) (are_loose after (os ++ o ∷ [])) k.0 (loose_all os k.1 g)

  loose_first : (os : List OpId) → are_loose after (os ++ o ∷ []) ≡ true → are_loose after os ≡ true
  loose_first [] h = refl
  loose_first (x ∷ os) h =
      let k = parts (told is_loose false x after) (are_loose after (os ++ o ∷ [])) h in
      both (told is_loose false x after) (are_loose after os) k.0 (loose_first os k.1)

  apart_first : (os : List OpId) → are_apart (os ++ o ∷ []) ≡ true → (are_apart os ≡ true) × (is_among o os ≡ false)
  apart_first [] h = (refl, refl)
  apart_first (x ∷ os) h =
      let k = parts (not (is_among x (os ++ o ∷ []))) (are_apart (os ++ o ∷ [])) h in
      let rest = apart_first os k.1 in
      let n = none_of (is_among x os) ((o.0 == x.0) || false) (sym (list_any-append (λ (q : OpId). q.0 == x.0) os (o ∷ []))
      ∙ untrue (is_among x (os ++ o ∷ [])) k.0) in
      (both (not (is_among x os)) (are_apart os) (turned (is_among x os) n.0) rest.0, neither (x.0 == o.0) (is_among o os) (swapped o.0 x.0 n.1) rest.1)
    where
      swapped : (a b : ℕ) → (a == b) || false ≡ false → (b == a) ≡ false
      swapped a b h = grind (arith, nat_tests)

  among_other : (os : List OpId) → is_among o os ≡ false → (p : OpId) → is_among p os ≡ true → (p.0 == o.0) ≡ false
  among_other os none p among = by_number (λ q. is_among q os ≡ true → (q.0 == o.0) ≡ false) o p
      (λ is. absurd (true≢false (sym is ∙ none))) (λ other is. other) among

  goes_once : go_on_once t resumed ≡ true → go_on_once after (resumed ++ o ∷ []) ≡ true
  goes_once h =
      let k = parts (are_loose t resumed) (are_apart resumed) h in
      let none = not_loose_among t o held resumed k.0 in
      both (are_loose after (resumed ++ o ∷ [])) (are_apart (resumed ++ o ∷ []))
      (loose_all resumed (loose_still t after resumed (λ p among is. ap (λ m. unwrap_or (option_map is_loose m) false)
      (others p (among_other resumed none p among)) ∙ is) k.0) goes)
      (apart_push resumed o none k.1)

  went_once : go_on_once after (resumed ++ o ∷ []) ≡ true → go_on_once t resumed ≡ true
  went_once h =
      let k = parts (are_loose after (resumed ++ o ∷ [])) (are_apart (resumed ++ o ∷ [])) h in
      let apart = apart_first resumed k.1 in
      both (are_loose t resumed) (are_apart resumed)
      (loose_still after t resumed (λ p among is. ap (λ m. unwrap_or (option_map is_loose m) false)
      (sym (others p (among_other resumed apart.1 p among))) ∙ is) (loose_first resumed k.0)) apart.0

  equal : (a b : Bool) → (a ≡ true → b ≡ true) → (b ≡ true → a ≡ true) → a ≡ b
  equal a b h g = grind arith

  numbers : (rs : List FlowRecord) → map (λ (x : FlowRecord). x.number.0) (change_first (is_number o) f rs) ≡ map (λ (x : FlowRecord). x.number.0) rs
  numbers [] = refl
  numbers (x ∷ rs) = elim (cases_Bool (x.number.0 == o.0)) [
    | inl e ↦ rw e (ap (λ (n : ℕ). n ∷ map (λ (y : FlowRecord). y.number.0) rs) (same x))
    | inr e ↦ rw e (ap (λ (ns : List ℕ). x.number.0 ∷ ns) (numbers rs))
  ]

  pub resumed_shape : shape_of_waiting after (resumed ++ o ∷ []) ≡ shape_of_waiting t resumed
  resumed_shape =
      ap₂ (λ b ns. record { number = record { 0 = 0 }; operation = Operation.Read; path = cond b (Some []) None; drained = ns })
      (equal (go_on_once after (resumed ++ o ∷ [])) (go_on_once t resumed) went_once goes_once)
      (filter_agree (is_left after (resumed ++ o ∷ [])) (is_left t resumed) left_same (map (λ (x : FlowRecord). x.number.0) after.operations)
      ∙ ap (filter (is_left t resumed)) (numbers t.operations))

-- ---- a callback runs

module _ (test : ℕ → Bool) where
  abbrev is_in : ℕ → List ℕ → Bool
  is_in n ns = list_any (λ m. m == n) ns

  kept_in : (n : ℕ) (ns : List ℕ) → is_in n ns ≡ true → test n ≡ true → is_in n (filter test ns) ≡ true
  kept_in n [] h is = h
  kept_in n (m ∷ ns) h is = elim (cases_Bool (test m)) [
    | inl e ↦ rw e (first_or (m == n) (is_in n ns) (is_in n (filter test ns)) h (λ g. kept_in n ns g is))
    | inr e ↦ rw e (kept_in n ns (later m n e is (is_in n ns) h) is)
  ]
    where
      first_or : (a b c : Bool) → a || b ≡ true → (b ≡ true → c ≡ true) → a || c ≡ true
      first_or a b c h g = grind arith

      later : (m n : ℕ) → test m ≡ false → test n ≡ true → (b : Bool) → (m == n) || b ≡ true → b ≡ true
      later m n fails passes b h = elim (cases_Bool (m == n)) [
        | inl e ↦ absurd (true≢false (sym passes ∙ ap test (sym (same_number m n e)) ∙ fails))
        | inr e ↦ sym (ap (λ a. a || b) e) ∙ h
      ]

  by_first : (m n : ℕ) (b : Bool) → test m ≡ true → (m == n) || b ≡ true → (b ≡ true → test n ≡ true) → test n ≡ true
  by_first m n b is h rest = elim (cases_Bool (m == n)) [
    | inl e ↦ ap test (sym (same_number m n e)) ∙ is
    | inr e ↦ rest (sym (ap (λ a. a || b) e) ∙ h)
  ]

  passed_in : (n : ℕ) (ns : List ℕ) → is_in n (filter test ns) ≡ true → test n ≡ true
  passed_in n [] h = cc
  passed_in n (m ∷ ns) h = elim (cases_Bool (test m)) [
    | inl e ↦ by_first m n (is_in n (filter test ns)) e (rw e at h) (passed_in n ns)
    | inr e ↦ passed_in n ns (rw e at h)
  ]

found_in : (o : OpId) (rs : List FlowRecord) → unwrap_or (option_map is_collectable (find (is_number o) rs)) false ≡ true
    → list_any (λ m. m == o.0) (map (λ (x : FlowRecord). x.number.0) rs) ≡ true
found_in o [] h = h
found_in o (x ∷ rs) h = elim (cases_Bool (x.number.0 == o.0)) [
  | inl e ↦ ap (λ b. b || list_any (λ m. m == o.0) (map (λ (y : FlowRecord). y.number.0) rs)) e
  | inr e ↦ ap (λ b. b || list_any (λ m. m == o.0) (map (λ (y : FlowRecord). y.number.0) rs)) e ∙ found_in o rs (rw e at h)
]

-- what stands with those that wait says that they wait
pub waits_standing : (old new : World) (resumed after ended : List OpId) → standing_with after new ≡ standing_with resumed old
    → Wait old.flow resumed ended → Wait new.flow after ended
waits_standing old new resumed after ended same h = record {
  going = once (go_on_once new.flow after) (go_on_once old.flow resumed) (ap path_of same) h.going;
  done = ended_all ended h.done h.others;
  others = others_all ended h.done h.others;
  once = h.once;
}
  where
    none : Shape
    none = record { number = record { 0 = 0 }; operation = Operation.Read; path = None; drained = [] }

    path_of : Standing → Option (List ℕ)
    path_of s = (get_or s.operations 0 none).path

    drained_of : Standing → List ℕ
    drained_of s = (get_or s.operations 0 none).drained

    once : (a b : Bool) → ◌≡◌ {A = Option (List ℕ)} (cond a (Some []) None) (cond b (Some []) None) → b ≡ true → a ≡ true
    once true b e h = refl
    once false true e h = cc
    once false false e h = h

    still : (o : OpId) → IsEnded old.flow o → is_among o resumed ≡ false → (IsEnded new.flow o) × (is_among o after ≡ false)
    still o ended going =
        let was : is_left old.flow resumed o.0 ≡ true = both (told is_collectable false o old.flow) (not (is_among o resumed)) ended
        (turned (is_among o resumed) going) in
        let there = kept_in (is_left old.flow resumed) o.0 (map (λ (x : FlowRecord). x.number.0) old.flow.operations)
        (found_in o old.flow.operations ended) was in
        let is = passed_in (is_left new.flow after) o.0 (map (λ (x : FlowRecord). x.number.0) new.flow.operations)
        (subst (λ ns. list_any (λ m. m == o.0) ns ≡ true) (sym (ap drained_of same)) there) in
        let k = parts (told is_collectable false o new.flow) (not (is_among o after)) is in
        (k.0, untrue (is_among o after) k.1)

    ended_all : (os : List OpId) → All (IsEnded old.flow) os → All (λ o. is_among o resumed ≡ false) os → All (IsEnded new.flow) os
    ended_all [] h g = All-nil (IsEnded new.flow)
    ended_all (o ∷ os) h g =
        All-cons (IsEnded new.flow) o os (still o (All-head (IsEnded old.flow) o os h) (All-head (λ (p : OpId). is_among p resumed ≡ false) o os g)).0
        (ended_all os (All-tail (IsEnded old.flow) o os h) (All-tail (λ (p : OpId). is_among p resumed ≡ false) o os g))

    others_all : (os : List OpId) → All (IsEnded old.flow) os → All (λ o. is_among o resumed ≡ false) os → All (λ o. is_among o after ≡ false) os
    others_all [] h g = All-nil (λ (p : OpId). is_among p after ≡ false)
    others_all (o ∷ os) h g =
        All-cons (λ (p : OpId). is_among p after ≡ false) o os
        (still o (All-head (IsEnded old.flow) o os h) (All-head (λ (p : OpId). is_among p resumed ≡ false) o os g)).1
        (others_all os (All-tail (IsEnded old.flow) o os h) (All-tail (λ (p : OpId). is_among p resumed ≡ false) o os g))

-- and that all else stands
pub stands_alone : (old new : World) (resumed after : List OpId) → standing_with after new ≡ standing_with resumed old → standing_of new ≡ standing_of old
stands_alone old new resumed after same = ap (λ s. record { stack = s.stack; workers = s.workers; operations = drop 1 s.operations }) same
