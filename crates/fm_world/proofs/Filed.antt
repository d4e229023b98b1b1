-- What holds of streams and handles is kept by every step of an operation.
use Rattle.fm_world.proofs.Words.{is_success, is_unanswered, is_number, all_change, found_holds, is_created_on, IsCreatedOn, IsOnHandle, has_stream_of}
use Rattle.fm_world.proofs.Words.{FileTable, after_base, closed, empty_files, has_handle_on, is_on, left, opened, IsFileSound, IsFiled, FlowRecord, FlowTable}
use Rattle.fm_world.proofs.Words.{HandleId, OpId, Operation, Status, StreamId, change_first, changed, empty_table, has_create_on, is_create, is_creating}
use Rattle.fm_world.proofs.Words.{operation_at, FileHandle, All, Bool, List, None, Option, Some, ap, arith, cond, false, find, inl, inr, refl, subst, sym, true}
use Rattle.fm_world.proofs.Words.{ℕ, ◌<◌, ◌==◌, ◌||◌, ◌∙◌, ◌≡◌, ◌⊎◌, and_from, cases_Bool, false≢true, or_left, common_steps, same_Some, list_any}
use Rattle.fm_world.proofs.Cases.{by_bool}
use Rattle.fm_world.proofs.Filing.{answered_none, filed_answered, filed_closed, filed_step, shrinks_same}
use Rattle.fm_world.proofs.Streams.{IsOn, Stands, any_pushed, creating_ended, creating_same, is_creating_on, none_out, on_found, same_number, stands_among}
use Rattle.fm_world.proofs.Streams.{stands_closed, stands_left, stands_marked_where, stands_opened, that, uses}
use Rattle.fm_world.specs.Files as files

-- ---- the parts

pub stands_in : (f : FileTable) (t : FlowTable) → IsFileSound f t → Stands none_out f t.operations t.next
stands_in f t h = grind arith

pub sound_from : (f : FileTable) (t : FlowTable) → IsFiled f t → Stands none_out f t.operations t.next → IsFileSound f t
sound_from f t room h = grind arith

-- ---- one operation takes a step

stands_step : (out : StreamId → Bool) (f : FileTable) (rs : List FlowRecord) (n : ℕ) (test : FlowRecord → Bool) (step : FlowRecord
    → FlowRecord) (r : FlowRecord)
    → find test rs ≡ Some r → IsCreatedOn f (step r) → IsOn f (step r)
    → ((q : StreamId) → out q ≡ false → uses f rs q ≡ true → uses f (change_first test step rs) q ≡ true) → Stands none_out f rs n
    → Stands out f (change_first test step rs) n
stands_step out f rs n test step r at creates on uses_on h =
    stands_among none_out out f rs (change_first test step rs) n n
    (all_change (IsCreatedOn f) test step rs (λ x found. subst (λ y. IsCreatedOn f (step y)) (same_Some r x (sym at ∙ found)) creates) h.creates_on)
    (all_change (IsOn f) test step rs (λ x found. subst (λ y. IsOn f (step y)) (same_Some r x (sym at ∙ found)) on) h.operations_on)
    (omega arith) (λ q apart was. uses_on q apart (was refl)) h

-- an operation is on what it was on, and a create under way where it was one
pub record SameFile (r s : FlowRecord) : Type 0 where
  pub stream : s.stream ≡ r.stream
  pub handle : s.handle ≡ r.handle
  pub creating : is_creating s ≡ is_creating r

on_same : (f : FileTable) (r s : FlowRecord) → s.stream ≡ r.stream → s.handle ≡ r.handle → IsOnHandle f r.stream r.handle → IsOnHandle f s.stream s.handle
on_same f r s stream handle on = subst (λ m. IsOnHandle f m s.handle) (sym stream) (subst (IsOnHandle f r.stream) (sym handle) on)

pub stands_same : (f : FileTable) (rs : List FlowRecord) (n : ℕ) (test : FlowRecord → Bool) (step : FlowRecord
    → FlowRecord) (r : FlowRecord) → find test rs ≡ Some r
    → SameFile r (step r) → Stands none_out f rs n → Stands none_out f (change_first test step rs) n
stands_same f rs n test step r at same h =
    let creates = found_holds (IsCreatedOn f) test rs r h.creates_on at in
    stands_step none_out f rs n test step r at (λ c. subst (λ m. has_stream_of f m ≡ true) (sym same.stream) (creates (sym same.creating ∙ c)))
    (on_same f r (step r) same.stream same.handle (found_holds (IsOn f) test rs r h.operations_on at))
    (λ q apart used. ap (λ a. has_handle_on q f || a) (creating_same test step rs r at same.stream same.creating q) ∙ used) h

pub file_step : (f : FileTable) (t : FlowTable) (o : OpId) (r : FlowRecord) (step : FlowRecord → FlowRecord) → operation_at o t ≡ Some r → SameFile r (step r)
    → IsFileSound f t → IsFileSound f (changed o step t)
file_step f t o r step at same h =
    let counts : ◌≡◌ {A = ℕ} (cond (is_creating (step r)) 1 0) (cond (is_creating r) 1 0) = ap (λ b. cond b 1 0) same.creating in
    sound_from f (changed o step t) (filed_step f f t o r step at (omega (arith, counts)) (shrinks_same f) h.room)
    (stands_same f t.operations t.next (is_number o) step r at same (stands_in f t h))

-- ---- an operation is answered

-- it is no create under way any more, and has the handle that it had, or a create that succeeded the next
pub record IsAnswered (f : FileTable) (why : Status) (r s : FlowRecord) : Type 0 where
  pub stream : s.stream ≡ r.stream
  pub ended : is_creating s ≡ false
  pub handle : (s.handle ≡ r.handle) ⊎ ((s.handle ≡ Some (record { 0 = f.next })) × (is_success why ≡ true) × (is_create r.operation ≡ true))

not_created : (f : FileTable) (s : FlowRecord) → is_creating s ≡ false → IsCreatedOn f s
not_created f s ended = λ creating. absurd (false≢true (sym ended ∙ creating))

-- the handle that a create is given
on_given : (s : StreamId) (f : FileTable) → All (λ (x : FileHandle). x.number.0 < f.next) f.handles
    → IsOnHandle (opened s f) (Some s) (Some (record { 0 = f.next }))
on_given s f h2 = grind (arith, common_steps)

-- a create that succeeded
stands_given : (f : FileTable) (rs : List FlowRecord) (n : ℕ) (test : FlowRecord → Bool) (step : FlowRecord
    → FlowRecord) (r : FlowRecord) (s : StreamId) (why : Status)
    → find test rs ≡ Some r → r.stream ≡ Some s → is_creating r ≡ true → IsAnswered f why r (step r) → Stands none_out f rs n
    → Stands none_out (opened s f) (change_first test step rs) n
stands_given f rs n test step r s why at stream was answered h =
    let g = opened s f in
    let there = subst (λ m. has_stream_of f m ≡ true) stream (found_holds (IsCreatedOn f) test rs r h.creates_on at was) in
    let stands = stands_opened s f rs n there h in
    let on : IsOn g (step r) = elim answered.handle [
      | inl same ↦ on_same g r (step r) answered.stream same (found_holds (IsOn g) test rs r stands.operations_on at)
      | inr new ↦ subst (λ m. IsOnHandle g m (step r).handle) (sym (answered.stream ∙ stream))
          (subst (IsOnHandle g (Some s)) (sym new.0) (on_given s f h.handles.given))
    ] in
    stands_step none_out g rs n test step r at (not_created g (step r) answered.ended) on (λ q apart used.
    by_bool (λ c. (q.0 == s.0) ≡ c → uses g (change_first test step rs) q ≡ true) (q.0 == s.0)
    (λ _ e. or_left (has_handle_on q g) (list_any (is_creating_on q) (change_first test step rs))
    (any_pushed (is_on q) f.handles (files.fresh_handle s f.next) (same_number q.0 s.0 e)))
    (λ _ e. ap (λ a. has_handle_on q g || a) (creating_ended test step rs r s at stream answered.ended q e) ∙ used) refl) stands

-- a create that failed
pub stands_ended : (f : FileTable) (rs : List FlowRecord) (n : ℕ) (test : FlowRecord → Bool) (step : FlowRecord
    → FlowRecord) (r : FlowRecord) (s : StreamId) (b : Bool) → find test rs ≡ Some r
    → r.stream ≡ Some s → (step r).stream ≡ r.stream → (step r).handle ≡ r.handle → is_creating (step r) ≡ false
    → list_any (is_creating_on s) (change_first test step rs) ≡ b
    → Stands none_out f rs n → Stands none_out (left s b f) (change_first test step rs) n
stands_ended f rs n test step r s b at stream same handle ended is h =
    stands_left s b f (change_first test step rs) n is
    (stands_step (that s) f rs n test step r at (not_created f (step r) ended)
    (on_same f r (step r) same handle (found_holds (IsOn f) test rs r h.operations_on at))
    (λ q other used. ap (λ a. has_handle_on q f || a) (creating_ended test step rs r s at stream ended q other) ∙ used) h)

-- a close
stands_close : (f : FileTable) (rs : List FlowRecord) (n : ℕ) (test : FlowRecord → Bool) (step : FlowRecord
    → FlowRecord) (r : FlowRecord) (s : StreamId) (g : HandleId) (b : Bool)
    → find test rs ≡ Some r → r.stream ≡ Some s → r.handle ≡ Some g → SameFile r (step r) → list_any (is_creating_on s) (change_first test step rs) ≡ b
    → Stands none_out f rs n → Stands none_out (left s b (closed g f)) (change_first test step rs) n
stands_close f rs n test step r s g b at stream handle same is h =
    let on : IsOnHandle f (Some s) (Some g) =
    subst (λ m. IsOnHandle f m (Some g)) stream (subst (IsOnHandle f r.stream) handle (found_holds (IsOn f) test rs r h.operations_on at)) in
    stands_left s b (closed g f) (change_first test step rs) n is
    (stands_closed s g f (change_first test step rs) n on (stands_same f rs n test step r at same h))

-- a handle closes that no operation closes
pub file_closed : (f : FileTable) (t : FlowTable) (test : FileHandle → Bool) (x : FileHandle) → find test f.handles ≡ Some x → IsFileSound f t
    → IsFileSound (left x.stream (has_create_on x.stream t) (closed x.number f)) t
file_closed f t test x at h =
    let b = has_create_on x.stream t in
    let stands = stands_in f t h in
    sound_from (left x.stream b (closed x.number f)) t (filed_closed f t x.stream x.number b h.room)
    (stands_left x.stream b (closed x.number f) t.operations t.next refl
    (stands_closed x.stream x.number f t.operations t.next (on_found f t.operations t.next test x at stands) stands))

-- no create
same_answered : (f : FileTable) (why : Status) (r s : FlowRecord) → is_create r.operation ≡ false → IsAnswered f why r s → SameFile r s
same_answered f why r s h4 h5 = grind arith

-- a create under way is on a stream
pub create_on_none : (f : FileTable) (rs : List FlowRecord) (n : ℕ) (test : FlowRecord → Bool) (r : FlowRecord) → find test rs ≡ Some r
    → r.stream ≡ None → is_creating r ≡ true → Stands none_out f rs n → ⊥
create_on_none f rs n test r at none creating h =
    false≢true (subst (λ m. has_stream_of f m ≡ true) none (found_holds (IsCreatedOn f) test rs r h.creates_on at creating))

stands_answered : (f : FileTable) (t : FlowTable) (o : OpId) (r : FlowRecord) (step : FlowRecord → FlowRecord) (operation : Operation)
    (s : Option StreamId) (h : Option HandleId)
    (why : Status) (b : Bool) → operation_at o t ≡ Some r → r.operation ≡ operation → r.stream ≡ s → r.handle ≡ h
    → is_unanswered r.stage ≡ true → IsAnswered f why r (step r)
    → is_created_on s (changed o step t) ≡ b → Stands none_out f t.operations t.next
    → Stands none_out (after_base operation s h why b f) (changed o step t).operations t.next
stands_answered f t o r step Operation.Create (Some s) h why b at same stream handle unanswered answered is k =
    let was : is_creating r ≡ true = and_from (is_create r.operation) (is_unanswered r.stage) (ap is_create same) unanswered in
    elim (cases_Bool (is_success why)) [
      | inl e ↦ subst (λ c. Stands none_out (cond c (opened s f) (left s b f)) (changed o step t).operations t.next) (sym e)
          (stands_given f t.operations t.next (is_number o) step r s why at stream was answered k)
      | inr e ↦
          let kept : (step r).handle ≡ r.handle = elim answered.handle [ inl same ↦ same | inr new ↦ absurd (false≢true (sym e ∙ new.1)) ] in
          subst (λ c. Stands none_out (cond c (opened s f) (left s b f)) (changed o step t).operations t.next) (sym e)
          (stands_ended f t.operations t.next (is_number o) step r s b at stream answered.stream kept answered.ended is k)
    ]
stands_answered f t o r step Operation.Create None h why b at same stream handle unanswered answered is k =
    absurd (create_on_none f t.operations t.next (is_number o) r at stream
    (and_from (is_create r.operation) (is_unanswered r.stage) (ap is_create same) unanswered) k)
stands_answered f t o r step Operation.SetDelete (Some s) h why b at same stream handle unanswered answered is k =
    stands_marked_where true (is_success why) s f (changed o step t).operations t.next
    (stands_same f t.operations t.next (is_number o) step r at (same_answered f why r (step r) (ap is_create same) answered) k)
stands_answered f t o r step Operation.Restore (Some s) h why b at same stream handle unanswered answered is k =
    stands_marked_where false (is_success why) s f (changed o step t).operations t.next
    (stands_same f t.operations t.next (is_number o) step r at (same_answered f why r (step r) (ap is_create same) answered) k)
stands_answered f t o r step Operation.Close (Some s) (Some g) why b at same stream handle unanswered answered is k =
    stands_close f t.operations t.next (is_number o) step r s g b at stream handle (same_answered f why r (step r) (ap is_create same) answered) is k
stands_answered f t o r step _ _ _ why b at same stream handle unanswered answered is k =
    stands_same f t.operations t.next (is_number o) step r at (same_answered f why r (step r) (ap is_create same) answered) k

-- the base answers an operation
pub file_answered : (f : FileTable) (t : FlowTable) (o : OpId) (r : FlowRecord) (step : FlowRecord → FlowRecord) (why : Status) → operation_at o t ≡ Some r
    → is_unanswered r.stage ≡ true → IsAnswered f why r (step r) → IsFileSound f t
    → IsFileSound (after_base r.operation r.stream r.handle why (is_created_on r.stream (changed o step t)) f) (changed o step t)
file_answered f t o r step why at unanswered answered h =
    let b = is_created_on r.stream (changed o step t) in
    sound_from (after_base r.operation r.stream r.handle why b f) (changed o step t)
    (filed_answered f t o r step r.operation r.stream r.handle why b at refl unanswered answered.ended h.room)
    (stands_answered f t o r step r.operation r.stream r.handle why b at refl refl refl unanswered answered refl (stands_in f t h))

-- what has its answer keeps it
pub answered_same : (r s : FlowRecord) → s.stream ≡ r.stream → s.handle ≡ r.handle → is_unanswered r.stage ≡ false
    → is_unanswered s.stage ≡ false → SameFile r s
answered_same r s stream handle was is = record { stream = stream; handle = handle; creating = answered_none s is ∙ sym (answered_none r was) }

-- no stream, no handle
pub file_empty : IsFileSound empty_files empty_table
file_empty = grind arith
