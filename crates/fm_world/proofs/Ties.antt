-- Workers and operations stay tied: a worker goes into an operation or leaves it as the operation's stage and its drains say.
use Rattle.fm_world.proofs.Words.{one_of_and, same_either, drain_opens, is_number, find_changed, find_unchanged, AtBase, AtDrain, AtPost, AtPre, Spot}
use Rattle.fm_world.proofs.Words.{drains_running, is_in_at, is_in_drain, is_spot, spot_at, spot_of, stands_at, HasWorkers, Entry, FlowRecord, FlowTable, InBase}
use Rattle.fm_world.proofs.Words.{InDrain, Instance, InstanceId, OpId, PostRunning, PreRunning, Stage, WorkerId, changed, last_posted, last_visited, one}
use Rattle.fm_world.proofs.Words.{operation_at, told, InstanceCallback, is_at, put, worker_at, Place, Bool, List, None, Option, Some, ap, arith, cond, count_by, false}
use Rattle.fm_world.proofs.Words.{find, inl, inr, option_map, refl, subst, sym, true, unwrap_or, ℕ, ◌&&◌, ◌+◌, ◌==◌, ◌∙◌, ◌≡◌, ◌≤◌, and_right, cases_eq, eq-eqb}
use Rattle.fm_world.proofs.Words.{eqb-true, ne_eqb, nat_tests, sum_by-set, get_or_from_slice_get, slice_get_within}
use Rattle.fm_world.proofs.Cases.{count-some, one_true}

-- ---- counts

-- a count after one worker went elsewhere
pub count_moves : (p : Place → Bool) (workers : List Place) (k : WorkerId) (a b : Place) → worker_at workers k ≡ Some a
    → count_by p (put workers k b) + one (p a) ≡ count_by p workers + one (p b)
count_moves p workers k a b h =
    let there = slice_get_within workers k.0 a h in
    let was = get_or_from_slice_get workers k.0 a a h in
    subst (λ x. count_by p (put workers k b) + one (p x) ≡ count_by p workers + one (p b)) was (sum_by-set (λ x. one (p x)) workers k.0 b a there)

-- and where it passes at neither place
pub count_stays : (p : Place → Bool) (workers : List Place) (k : WorkerId) (a b : Place) → worker_at workers k ≡ Some a → p a ≡ false → p b ≡ false
    → count_by p (put workers k b) ≡ count_by p workers
count_stays p workers k a b h na nb =
    let from : one (p a) ≡ 0 = ap one na in
    grind (arith, count_moves)

-- the instance whose callback a worker is in that doesn't belong to an operation, or whose routine
abbrev pub own_callback_of : Place → Option InstanceId
own_callback_of (Place.Setup i) = Some i
own_callback_of (Place.Query i) = Some i
own_callback_of (Place.Start i) = Some i
own_callback_of (Place.Complete i) = Some i
own_callback_of (Place.Routine i file) = Some i
own_callback_of _ = None

abbrev pub InNoCallback : Place → Type 0
InNoCallback a = (d : InstanceCallback) (i : ℕ) → is_at d i a ≡ false

pub at_none : (a : Place) → own_callback_of a ≡ None → InNoCallback a
at_none a h d i = grind arith

-- a worker goes from one such place to another
pub workers_still : (d : InstanceCallback) (i : ℕ) (workers : List Place) (k : WorkerId) (a b : Place) (m : Option Instance)
    → worker_at workers k ≡ Some a → InNoCallback a → InNoCallback b
    → HasWorkers d m (count_by (is_at d i) workers) → HasWorkers d m (count_by (is_at d i) (put workers k b))
workers_still d i workers k a b m at from to h = subst (HasWorkers d m) (sym (count_stays (is_at d i) workers k a b at (from d i) (to d i))) h

-- what is counted of an operation, after a change of one
told_changed : (read : FlowRecord → ℕ) (p : OpId) (t : FlowTable) (o : OpId) (r : FlowRecord) (f : FlowRecord → FlowRecord) → operation_at o t ≡ Some r
    → ((x : FlowRecord) → (f x).number.0 ≡ x.number.0)
    → told read 0 p (changed o f t) + cond (o.0 == p.0) (read r) 0 ≡ told read 0 p t + cond (o.0 == p.0) (read (f r)) 0
told_changed read p t o r f h same =
    let tell = λ (m : Option FlowRecord). unwrap_or (option_map read m) 0 in
    elim (cases_eq o.0 p.0) [
      | inl e ↦
          let there : find (is_number p) t.operations ≡ Some r = subst (λ n. find (λ x. x.number.0 == n) t.operations ≡ Some r) e h in
          let after : told read 0 p (changed o f t) ≡ read (f r) =
          subst (λ n. tell (find (λ x. x.number.0 == n) (changed o f t).operations) ≡ read (f r)) e
          (ap tell (find_changed (is_number o) f t.operations (λ x. ap (λ n. n == o.0) (same x)) ∙ ap (option_map f) h)) in
          let before : told read 0 p t ≡ read r = ap tell there in
          rw (after, before, eq-eqb o.0 p.0 e) (omega arith)
      | inr e ↦
          let apart : (x : FlowRecord) → (x.number.0 == o.0) ≡ true → ((x.number.0 == p.0) ≡ false) × (((f x).number.0 == p.0) ≡ false) =
          λ x k.
          let other : (x.number.0 == p.0) ≡ false = ne_eqb x.number.0 p.0 (λ q. e (sym (eqb-true x.number.0 o.0 k) ∙ q)) in
          (other, ap (λ n. n == p.0) (same x) ∙ other) in
          let after : told read 0 p (changed o f t) ≡ told read 0 p t = ap tell (find_unchanged (is_number o) (is_number p) f t.operations apart) in
          rw (after, ne_eqb o.0 p.0 e) (omega arith)
    ]

-- what a worker's place and an operation's record say of some way to be inside, before and after a step of both
abbrev pub Balances : (OpId → Place → Bool) → (FlowRecord → ℕ) → OpId → Place → Place → FlowRecord → FlowRecord → Type 0
Balances inside read o a b r s = (p : OpId) → one (inside p b) + cond (o.0 == p.0) (read r) 0 ≡ one (inside p a) + cond (o.0 == p.0) (read s) 0

-- the workers inside, and what is told of the operations, where one of each takes a step
pub tied_moves : (inside : OpId → Place → Bool) (read : FlowRecord → ℕ) (workers : List Place) (t : FlowTable) (k : WorkerId)
    (a b : Place) (o : OpId) (r : FlowRecord)
    (f : FlowRecord → FlowRecord) → worker_at workers k ≡ Some a → operation_at o t ≡ Some r → ((x : FlowRecord) → (f x).number.0 ≡ x.number.0)
    → Balances inside read o a b r (f r) → (p : OpId) → count_by (inside p) workers ≡ told read 0 p t
    → count_by (inside p) (put workers k b) ≡ told read 0 p (changed o f t)
tied_moves inside read workers t k a b o r f worker at same balance p tied = grind (arith, count_moves, told_changed)

-- an operation takes a step that changes nothing of what is told
pub told_same : (read : FlowRecord → ℕ) (p : OpId) (t : FlowTable) (o : OpId) (r : FlowRecord) (f : FlowRecord → FlowRecord) → operation_at o t ≡ Some r
    → ((x : FlowRecord) → (f x).number.0 ≡ x.number.0) → read (f r) ≡ read r → told read 0 p t ≡ told read 0 p (changed o f t)
told_same read p t o r f at same alike =
    let shared : cond (o.0 == p.0) (read (f r)) 0 ≡ cond (o.0 == p.0) (read r) 0 = ap (λ n. cond (o.0 == p.0) n 0) alike in
    omega (arith, told_changed read p t o r f at same, shared)

-- ---- spots

abbrev pub standing : Spot → FlowRecord → ℕ
standing s r = one (is_spot s (spot_of r))

-- the worker's place says that it is inside operation o at that spot, and inside no other
abbrev pub Matches : OpId → Place → Option Spot → Type 0
Matches o a spot = (p : OpId) (s : Spot) → is_in_at p s a ≡ ((o.0 == p.0) && is_spot s spot)

abbrev pub BalancesSpots : OpId → Place → Place → FlowRecord → FlowRecord → Type 0
BalancesSpots o a b r s = (x : Spot) → Balances (λ p. is_in_at p x) (standing x) o a b r s

pub spots_balance : (o : OpId) (a b : Place) (r s : FlowRecord) → Matches o a (spot_of r) → Matches o b (spot_of s) → BalancesSpots o a b r s
spots_balance o a b r s h5 h6 = grind arith

and_false : (b : Bool) → (b && false) ≡ false
and_false b = and_right b false refl

-- the places and spots that match

abbrev pub is_running : Stage → Bool
is_running PreRunning = true
is_running InBase = true
is_running PostRunning = true
is_running (InDrain i) = true
is_running _ = false

-- an operation that is with no worker is at no spot
pub quiet_is_nowhere : (stage : Stage) (entries : List Entry) → is_running stage ≡ false → spot_at stage entries ≡ None
quiet_is_nowhere stage entries h = grind arith

nowhere : (s : Spot) → is_spot s None ≡ false
nowhere s = grind arith

pub quiet_is_none : (stage : Stage) (entries : List Entry) → is_running stage ≡ false → (s : Spot) → is_spot s (spot_at stage entries) ≡ false
quiet_is_none stage entries h s = ap (is_spot s) (quiet_is_nowhere stage entries h) ∙ nowhere s

pub matches_idle : (o : OpId) (stage : Stage) (entries : List Entry) → is_running stage ≡ false → Matches o Place.Idle (spot_at stage entries)
matches_idle o stage entries h3 = grind arith

pub matches_pre : (o : OpId) (i : InstanceId) → Matches o (Place.Pre o i) (Some (AtPre i.0))
matches_pre o i = grind arith

pub matches_base : (o : OpId) → Matches o (Place.Base o) (Some AtBase)
matches_base o = grind arith

pub matches_post : (o : OpId) (i : InstanceId) → Matches o (Place.Post o i) (Some (AtPost i.0))
matches_post o i = grind arith

pub matches_drain : (o : OpId) (i : InstanceId) → Matches o (Place.Drain o i) (Some (AtDrain i.0))
matches_drain o i = grind arith

-- ---- drains

abbrev pub BalancesDrains : OpId → Place → Place → FlowRecord → FlowRecord → Type 0
BalancesDrains o a b r s = (i : ℕ) → Balances (λ p. is_in_drain p i) (λ x. drain_opens i x.entries) o a b r s

-- the worker's place counts for so many drains of operation o, and for none of any other
abbrev pub InDrains : OpId → Place → (ℕ → ℕ) → Type 0
InDrains o a n = (p : OpId) (i : ℕ) → one (is_in_drain p i a) ≡ cond (o.0 == p.0) (n i) 0

pub in_no_drain : (o : OpId) (a : Place) → ((p : OpId) (i : ℕ) → is_in_drain p i a ≡ false) → InDrains o a (λ i. 0)
in_no_drain o a h p i = ap one (h p i) ∙ sym (same_either (o.0 == p.0) 0)

pub in_a_drain : (o : OpId) (j : InstanceId) → InDrains o (Place.Drain o j) (λ i. one (j.0 == i))
in_a_drain o j p i = one_of_and (o.0 == p.0) (j.0 == i)

pub drains_balance : (o : OpId) (a b : Place) (r s : FlowRecord) (n m : ℕ → ℕ) → InDrains o a n → InDrains o b m
    → ((i : ℕ) → drain_opens i s.entries + n i ≡ drain_opens i r.entries + m i) → BalancesDrains o a b r s
drains_balance o a b r s n m h7 h8 h9 = grind (arith, nat_tests)

-- ---- the other way: where a worker is inside an operation, it is there, and its stage says so

abbrev pub AreTied : List Place → FlowTable → Type 0
AreTied workers t = (p : OpId) (s : Spot) → count_by (is_in_at p s) workers ≡ stands_at p s t

-- what is told of an operation that counts is told of one that is there
told_of : (read : FlowRecord → ℕ) (o : OpId) (t : FlowTable) → 1 ≤ told read 0 o t → (r : FlowRecord) × (operation_at o t ≡ Some r) × (1 ≤ read r)
told_of read o t h3 = grind arith

pub tied_there : (workers : List Place) (t : FlowTable) (k : WorkerId) (a : Place) (o : OpId) (s : Spot) → AreTied workers t
    → worker_at workers k ≡ Some a → is_in_at o s a ≡ true → (r : FlowRecord) × (operation_at o t ≡ Some r) × (is_spot s (spot_of r) ≡ true)
tied_there workers t k a o s tied h inside =
    let x = told_of (standing s) o t (omega (arith, count-some (is_in_at o s) workers k.0 a h inside, tied o s)) in
    (x.0, x.1, one_true (is_spot s (spot_of x.0)) x.2)

-- where a worker is in a drain, it runs
pub drained_there : (workers : List Place) (t : FlowTable) (k : WorkerId) (a : Place) (o : OpId) (i : ℕ)
    → ((p : OpId) (j : ℕ) → count_by (is_in_drain p j) workers ≡ drains_running p j t)
    → worker_at workers k ≡ Some a → is_in_drain o i a ≡ true → (r : FlowRecord) × (operation_at o t ≡ Some r) × (1 ≤ drain_opens i r.entries)
drained_there workers t k a o i tied h inside =
    told_of (λ (x : FlowRecord). drain_opens i x.entries) o t (omega (arith, count-some (is_in_drain o i) workers k.0 a h inside, tied o i))

pub spot_pre : (i : ℕ) (stage : Stage) (entries : List Entry) → is_spot (AtPre i) (spot_at stage entries) ≡ true → (stage ≡ PreRunning)
    × (last_visited entries ≡ Some i)
spot_pre i stage entries h = grind arith

pub spot_base : (stage : Stage) (entries : List Entry) → is_spot AtBase (spot_at stage entries) ≡ true → stage ≡ InBase
spot_base stage entries h = grind arith

pub spot_post : (i : ℕ) (stage : Stage) (entries : List Entry) → is_spot (AtPost i) (spot_at stage entries) ≡ true
    → (stage ≡ PostRunning) × (last_posted entries ≡ Some i)
spot_post i stage entries h = grind arith

pub spot_drain : (i : InstanceId) (stage : Stage) (entries : List Entry) → is_spot (AtDrain i.0) (spot_at stage entries) ≡ true → stage ≡ InDrain i
spot_drain i stage entries h = grind arith
