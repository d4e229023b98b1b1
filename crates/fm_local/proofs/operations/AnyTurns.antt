-- A manager that makes turn after turn of an operation goes on with it, whatever its filters.
use Rattle.fm_filter.specs.declared.minifilter.Minifilter as filter
use Rattle.fm_base.specs.declared.base.Base as base
use Rattle.fm_local.proofs.Words.{[], ◌∷◌, ◌≡◌, ◌≤◌, ◌⊎◌, Completion, Data, Err, Folder, InstanceId, List, Parts, None, Ok, OpId, Option}
use Rattle.fm_local.proofs.Words.{PostVerdict, PreVerdict, Result, Some, Status, WorkerId, World, false, length, slice_get, suc, true, ℕ, ◌++◌, ◌+◌}
use Rattle.fm_local.proofs.Words.{◌<◌, ◌∙◌, ap, ap₂, arith, drop, inl, inr, refl, subst, sym, none-some, same_Some, FileRequest, Reply, Request}
use Rattle.fm_local.proofs.Words.{Finishes, ContextKind, HandleId, IsDoneAt, closed_handle, BasesCarry, numbered, Filters, Turn}
use Rattle.std.specs.Result.{is_err}
use Rattle.std.specs.VecDeque.{deque_capacity}
use Rattle.fm_local.specs.Actions.{CallsBack, CarriesOn, CarriesOnAll, CarriesOnMany, EndsIfRefused, GoesOn, OnlyState, Requests, RequestsOne}
use Rattle.fm_local.specs.Actions.{TakesTurn, TakesTurns, WaitsAtEnd}
use Rattle.fm_local.specs.declared.bounded.Bounded.{Bounded}

module _ {F B : Type 0} (own : filter.Ghosts F) (below : base.Ghosts B) (k : WorkerId) (o : OpId) where
  -- of the filters that there were at first
  abbrev pub Turns : Parts F B → ℕ → Parts F B → Type 0
  Turns old n now = TakesTurns own.pre_may own.post_may own.drained (BasesCarry below.folder below.faults)
      (numbered old.filters) k o n old.work.state old.bases.all.items now.work.state now.bases.all.items

  abbrev Turned : Filters F → Turn → Parts F B → Parts F B → Type 0
  Turned filters ended old new = TakesTurn own.pre_may own.post_may own.drained (BasesCarry below.folder below.faults)
      (numbered filters) k o ended old.work.state old.bases.all.items new.work.state new.bases.all.items

  abbrev Goes : ℕ → Turn → Parts F B → Parts F B → Type 0
  Goes most ended old new = GoesOn own.pre_may own.post_may own.drained (BasesCarry below.folder below.faults)
      (numbered old.filters) k o most ended old.work.state old.bases.all.items new.work.state new.bases.all.items

  module _ (old now new : Parts F B) (same : now.filters ≡ old.filters) (n : ℕ) (taken : Turns old n now) (ended : Turn)
      (takes : Turned now.filters ended now new) where
    one : Turned old.filters ended now new
    one = subst (λ (fs : Filters F). Turned fs ended now new) same takes

    pub turns_more : ended ≡ Turn.Goes → Turns old (n + 1) new
    turns_more is =
        let more : suc n ≡ n + 1 = omega arith in
        subst (λ (j : ℕ). Turns old j new) more (now.work.state, now.bases.all.items, taken, subst (λ (t : Turn). Turned old.filters t now new) is one)

    pub goes_to_end : (most : ℕ) → Goes most ended old new
    goes_to_end most = (n, now.work.state, now.bases.all.items, taken, inl one)

  pub goes_too_far : (old now : Parts F B) (n most : ℕ) → Turns old n now → most ≤ n → Goes most Turn.Held old now
  goes_too_far old now n most taken many = (n, now.work.state, now.bases.all.items, taken, inr (many, refl, refl, refl))

-- ---- what callbacks leave as it was

pub calls_both : {F B : Type 0} (old mid new : Parts F B) → CallsBack old mid → CallsBack mid new → CallsBack old new
calls_both {F} {B} old mid new one other = other ∙ ap (λ (m : Parts F B). record m { work = new.work; trace = new.trace; leaks = new.leaks }) one

pub calls_untraced : {F B : Type 0} (old new : Parts F B) → new ≡ record old { work = new.work; leaks = new.leaks } → CallsBack old new
calls_untraced old new kept = kept ∙ ap (λ t. record old { work = new.work; trace = t; leaks = new.leaks }) (sym (ap (λ m. m.trace) kept))

-- ---- what was resumed, one after the other

pub head : (o : OpId) (xs ys : List OpId) → slice_get xs 0 ≡ Some o → ys ≡ drop 1 xs → xs ≡ o ∷ ys
head o [] ys first rest = absurd (none-some o first)
head o (x ∷ xs) ys first rest = ap₂ (λ (z : OpId) (zs : List OpId). z ∷ zs) (same_Some x o first) (sym rest)

pub none_left : (xs ys : List OpId) → slice_get xs 0 ≡ None → ys ≡ drop 1 xs → (xs ≡ []) × (ys ≡ [])
none_left [] ys none rest = (refl, rest)
none_left (x ∷ xs) ys none rest = absurd (none-some x (sym none))

module _ {F B : Type 0} (own : filter.Ghosts F) (below : base.Ghosts B) (k : WorkerId) (most : ℕ) (old now : Parts F B) (n : ℕ)
    (many : CarriesOnMany own below k most n old now) where
  pub carries_more : (o : OpId) (taken new : Parts F B) → slice_get now.work.resumed.items.items 0 ≡ Some o
      → taken.work.resumed.items.items ≡ drop 1 now.work.resumed.items.items
      → taken ≡ record now { work = record now.work { resumed = taken.work.resumed } } → CarriesOn own below k most o taken new
      → CarriesOnMany own below k most (n + 1) old new
  carries_more o taken new first rest is carries =
      let more : suc n ≡ n + 1 = omega arith in
      subst (λ (j : ℕ). CarriesOnMany own below k most j old new) more
      (now, many, (o, taken, head o now.work.resumed.items.items taken.work.resumed.items.items first rest, is, carries))

  pub carries_all : (limit : ℕ) (new : Parts F B) → slice_get now.work.resumed.items.items 0 ≡ None
      → new.work.resumed.items.items ≡ drop 1 now.work.resumed.items.items
      → new ≡ record now { work = record now.work { resumed = new.work.resumed } } → CarriesOnAll own below k most limit old new
  carries_all limit new none rest is =
      let empty = none_left now.work.resumed.items.items new.work.resumed.items.items none rest in
      (n, now, many, (is, empty.1 ∙ sym empty.0), inl empty.1)

  pub carries_most : (limit : ℕ) → limit ≤ n → CarriesOnAll own below k most limit old now
  carries_most limit far = (n, now, many, (refl, refl), inr far)

-- one that waits alone, of which nothing is left to do, is finished by the first of these
module _ {F B : Type 0} (own : filter.Ghosts F) (below : base.Ghosts B) (k : WorkerId) (old now taken new : Parts F B) (n : ℕ) where
  abbrev pub HasEnded : OpId → ℕ → Parts F B → Type 0
  HasEnded o m then = ((m ≡ 0) × (then ≡ old)) ⊎ ((then.finished.items.items ≡ old.finished.items.items ++ o ∷ []) × (then.work.resumed.items.items ≡ []))

  pub ends_first : (o p : OpId) → WaitsAtEnd own below k o old → HasEnded o n now → slice_get now.work.resumed.items.items 0 ≡ Some p
      → taken.work.resumed.items.items ≡ drop 1 now.work.resumed.items.items → taken ≡ record now { work = record now.work { resumed = taken.work.resumed } }
      → (IsDoneAt k p taken.work.state → length taken.finished.items.items < deque_capacity taken.finished.items
      → (new.work ≡ taken.work) × (new.finished.items.items ≡ taken.finished.items.items ++ p ∷ [])) → HasEnded o (n + 1) new
  ends_first o p waits (inl (none, same)) first rest is ends =
      let at : o ∷ [] ≡ p ∷ taken.work.resumed.items.items =
      sym waits.waits ∙ ap (λ (m : Parts F B). m.work.resumed.items.items) (sym same)
      ∙ head p now.work.resumed.items.items taken.work.resumed.items.items first rest in
      let it : o ≡ p = same_Some o p (ap (λ (xs : List OpId). slice_get xs 0) at) in
      let gone : taken.work.resumed.items.items ≡ [] = sym (ap (λ (xs : List OpId). drop 1 xs) at) in
      let state : taken.work.state ≡ old.work.state = ap (λ (m : Parts F B). m.work.state) is ∙ ap (λ (m : Parts F B). m.work.state) same in
      let finished : taken.finished ≡ old.finished = ap (λ (m : Parts F B). m.finished) is ∙ ap (λ (m : Parts F B). m.finished) same in
      let done : IsDoneAt k p taken.work.state = subst (λ (w : World). IsDoneAt k p w) (sym state)
      (subst (λ (q : OpId). IsDoneAt k q old.work.state) it waits.done) in
      let over = ends done (subst (λ (f : Bounded OpId). length f.items.items < deque_capacity f.items) (sym finished) waits.room) in
      inr (
        over.1 ∙ ap (λ (f : Bounded OpId). f.items.items ++ p ∷ []) finished ∙ ap (λ (q : OpId). old.finished.items.items ++ q ∷ []) (sym it),
        ap (λ d. d.resumed.items.items) over.0 ∙ gone,
      )
  ends_first o p waits (inr (finished, empty)) first rest is ends = absurd (none-some p (ap (λ (xs : List OpId). slice_get xs 0) (sym empty) ∙ first))

-- ---- requests

pub is_close : (what : Request) (h : HandleId) → closed_handle what ≡ Some h → Request.OnHandle h FileRequest.Close ≡ what
is_close (Request.OnHandle own FileRequest.Close) h is = ap (λ (x : HandleId). Request.OnHandle x FileRequest.Close) (sym (same_Some own h is))
is_close _ h is = absurd (none-some h is)

module _ {F B : Type 0} (own : filter.Ghosts F) (below : base.Ghosts B) (k : WorkerId) (most limit : ℕ) (old : Parts F B) (said : Reply) (new : Parts F B) where
  abbrev Asks : Request → Type 0
  Asks what = Requests own below k most limit what old said new

  pub requests_close : (what : Request) (h : HandleId) → closed_handle what ≡ Some h → Asks (Request.OnHandle h FileRequest.Close) → Asks what
  requests_close what h is asks = subst Asks (is_close what h is) asks

  pub requests_one : (what : Request) → closed_handle what ≡ None → RequestsOne own below k most limit what old said new → Asks what
  requests_one (Request.OnHandle h FileRequest.Close) none one = cc
  requests_one _ none one = one

-- ---- an instance that was set up

module _ {F B : Type 0} (own : filter.Ghosts F) (below : base.Ghosts B) (k : WorkerId) (most limit : ℕ) (i : InstanceId) (settled : Parts F B) where
  abbrev Ends : Result (Unit {0}) Status → Parts F B → Type 0
  Ends result new = EndsIfRefused own below k most limit result i settled new

  pub ends_refused : (new : Parts F B) (result : Result (Unit {0}) Status) → is_err result ≡ true
      → ((finished : Result (Unit {0}) Status) × Finishes settled.work.state i finished new.work.state × OnlyState settled new)
      → Ends result new
  ends_refused new (Err why) is ends = ends
  ends_refused new (Ok done) is ends = cc

  pub ends_accepted : (result : Result (Unit {0}) Status) → is_err result ≡ false → Ends result settled
  ends_accepted (Ok done) is = refl
  ends_accepted (Err why) is = cc
