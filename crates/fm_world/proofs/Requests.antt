-- What the events that begin an operation and collect one do.
use Rattle.fm_world.proofs.Words.{lawful_alike, are_on, is_within_limits, operation_of, Request, none_running, carried_by, drain_opens, flight}
use Rattle.fm_world.proofs.Words.{is_running_drain, done_at, is_done, begun_record, collected_in, is_number, marked, removed, total, all_change, all_without}
use Rattle.fm_world.proofs.Words.{count_changed, count_without, find_without, found_holds, length_change, CreateMode, Begins, Collects, after_begin}
use Rattle.fm_world.proofs.Words.{BeginsAt, asked_begun, asked_refused_at, begin_refused_at, begun_on, created_begun, has_no_handle_left, moved_on, or_else, IsCreatedOn}
use Rattle.fm_world.proofs.Words.{FileTable, created, handle_at, has_handle_on, stream_for, KeepsHands, names_there, AskCarries, IsAmong, IsFileSound, IsFiled}
use Rattle.fm_world.proofs.Words.{IsOwned, IsSound, IsUnderWay, Answer, Ask, CtxId, Descending, FlowRecord, FlowTable, HandleId, IsFlow, IsLawful, OpId}
use Rattle.fm_world.proofs.Words.{Operation, Params, Stage, Status, StreamId, VolumeId, begun, carried, changed, collected_of, creates, first_of, is_create}
use Rattle.fm_world.proofs.Words.{is_creating, is_full, is_on_stream, one, operation_at, owed, told, without_first, World, FileHandle, FileStream, HandlePhase}
use Rattle.fm_world.proofs.Words.{All, AllPairs, Bool, List, None, Option, Result, Some, [], ap, arith, cond, count_by, false, find, get_or, inl, inr, length}
use Rattle.fm_world.proofs.Words.{nat_le, option_map, refl, subst, suc, sym, true, unwrap_or, ℕ, ◌&&◌, ◌++◌, ◌+◌, ◌<◌, ◌==◌, ◌||◌, ◌∙◌, ◌∷◌, ◌≡◌, ◌≤◌, and_from}
use Rattle.fm_world.proofs.Words.{cases_eq, eq-eqb, eqb-true, ne_eqb, or_parts, or_right, common_steps, All-head, All-nil, All-push, All-tail, sum_by_push}
use Rattle.fm_world.proofs.Words.{none-some, same_Some, list_any}
use Rattle.std.proofs.Common.{◌-◌, ◌^◌}
use Rattle.fm_operations.proofs.Requests.{flow_begins, flow_collects}
use Rattle.fm_stack.proofs.Visits.{is_to_visit_few}
use Rattle.std.specs.Cmp.Lexicographic.{bytes_decides}
use Rattle.fm_world.proofs.Asking.{comes_asked, gone_asked, marked_asked}
use Rattle.fm_world.proofs.Amongs.{among_begins}
use Rattle.fm_world.proofs.Belonging.{AllPass}
use Rattle.fm_world.proofs.Cases.{by_bool}
use Rattle.fm_world.proofs.Events.{memory_by}
use Rattle.fm_world.proofs.Filed.{sound_from, stands_in, stands_same}
use Rattle.fm_world.proofs.Filing.{Shrinks, shrinks_same}
use Rattle.fm_callback_data.specs.Requests.{params_of}
use Rattle.fm_callback_data.specs.declared.request.FileRequest.{FileRequest}
use Rattle.fm_world.proofs.Flowing.{asks_of, carried_changed, carry_changed, flow_owned, quieter}
use Rattle.fm_world.proofs.Losing.{created_there, moved_there, named_more}
use Rattle.fm_world.proofs.Operations.{AreInStep, in_step}
use Rattle.fm_world.proofs.Staying.{Does, contexts_in, makes, nothing, still}
use Rattle.fm_world.proofs.Streams.{IsOn, Stands, any_pushed, any_without, fresh_there, is_creating_on, none_out, on_open, stands_among, stands_created}
use Rattle.fm_world.proofs.Streams.{stands_phased, uses}
use Rattle.fm_world.proofs.Ties.{is_running, quiet_is_none, standing, told_same}

-- ---- what begins

-- what doesn't refuse first, and what doesn't refuse then
pub none_else : (m n : Option Status) → or_else m n ≡ None → n ≡ None
none_else m n h = grind arith

pub asked_within : (within : Bool) (m : Option Status) → cond within m (Some Status.BadRequest) ≡ None → (within ≡ true) × (m ≡ None)
asked_within within m h = grind arith

pub full_from : (a b c : Bool) → first_of ((a, Status.NoVolume) ∷ (b, Status.Dismounting) ∷ (c, Status.TooMany) ∷ []) ≡ None → c ≡ false
full_from a b c h = grind arith

-- a create alone names a path
names_none : (path : Option (List ℕ)) (p : Params) → is_create (operation_of p) ≡ false → are_on path p ≡ true
names_none path p none = grind arith

-- what begins on a handle that is open, where nothing refuses it
asked_begun_by : (P : World → Type 0) (lower : Bool) (old : World) (h : HandleId) (p : Params) → asked_refused_at lower old h p ≡ None
    → ((x : FileHandle) (y : FileStream) → handle_at h old.files ≡ Some x → is_within_limits p ≡ true → is_full old.flow ≡ false
    → P (begun_on old h p x (Some y))) → P (asked_begun old h p)
asked_begun_by P lower old h p free event = grind arith

-- what is asked of a handle is no create
no_create : (asked : FileRequest) → is_create (operation_of (params_of asked)) ≡ false
no_create asked = grind arith

-- what begins without a file: a listing, or a major function of a volume
abbrev pub unnamed_begun : World → VolumeId → Params → World
unnamed_begun w v p = record w { flow = begun v None None w.stack.births None p w.flow }

-- what begins: without a file, a create, or an operation on a handle
pub begun_by : (P : World → Type 0) (lower : Bool) (old : World) (what : Request) → begin_refused_at lower old what ≡ None
    → ((v : VolumeId) (p : Params) → is_create (operation_of p) ≡ false → is_within_limits p ≡ true → is_full old.flow ≡ false → P (unnamed_begun old v p))
    → ((v : VolumeId) (path : List ℕ) (mode : CreateMode) → is_full old.flow || has_no_handle_left old ≡ false → P (created_begun old v path mode))
    → ((h : HandleId) (p : Params) (x : FileHandle) (y : FileStream) → is_create (operation_of p) ≡ false
    → handle_at h old.files ≡ Some x → is_within_limits p ≡ true
    → is_full old.flow ≡ false → P (begun_on old h p x (Some y))) → P (after_begin old what)
begun_by P lower old (Request.List v) free lists h5 asks = lists v Params.List refl refl (full_from _ _ (is_full old.flow) free)
begun_by P lower old (Request.OnVolume v m n) free lists h5 asks = lists v (Params.Other m n) refl refl (full_from _ _ (is_full old.flow) free)
begun_by P lower old (Request.Create v path mode) free lists h5 asks = h5 v path mode (full_from _ _ (is_full old.flow || has_no_handle_left old) free)
begun_by P lower old (Request.OnHandle h asked) free lists h5 asks =
    asked_begun_by P lower old h (params_of asked) free (λ x y at within room. asks h (params_of asked) x y (no_create asked) at within room)

-- ---- an operation comes

-- what is told of operations stays where one comes of which nothing is told
told_push : (read : FlowRecord → ℕ) (p : OpId) (rs : List FlowRecord) (r : FlowRecord) → read r ≡ 0
    → unwrap_or (option_map read (find (is_number p) (rs ++ r ∷ []))) 0 ≡ unwrap_or (option_map read (find (is_number p) rs)) 0
told_push read p [] r h = by_bool (λ b. unwrap_or (option_map read (cond b (Some r) None)) 0 ≡ 0) (is_number p r) (λ e. h) (λ e. refl)
told_push read p (x ∷ rs) r h = grind (arith, (told_push read p rs r))

-- an operation on a volume of which no more than 32 instances may be visited
operation_begins : (old : World) (v : VolumeId) (stream : Option StreamId) (handle : Option HandleId) (path : Option (List ℕ))
    (p : Params) → are_on path p ≡ true
    → is_within_limits p ≡ true → is_full old.flow ≡ false → IsUnderWay old
    → IsUnderWay (record old { flow = begun v stream handle old.stack.births path p old.flow })
operation_begins old v stream handle path p on within free s =
    let fresh = begun_record old.flow.next v stream handle old.stack.births path p in
    let quiet = quiet_is_none Descending [] refl in
    record {
      stack = s.stack;
      flow = flow_begins v stream handle old.stack.births path p old.flow on within s.flow free;
      among = All-push (IsAmong old.stack) old.flow.operations fresh s.among
          (among_begins old.stack v fresh.operation (is_to_visit_few old.stack s.stack v old.stack.births fresh.operation));
      hands = s.hands;
      workers = λ o x. s.workers o x ∙ sym (told_push (standing x) o old.flow.operations fresh (ap one (quiet x)));
      drains = λ o i. s.drains o i ∙ sym (told_push (λ (x : FlowRecord). drain_opens i x.entries) o old.flow.operations fresh refl);
      instance_callbacks = s.instance_callbacks;
    }

pub total_push : (f : FlowRecord → ℕ) (rs : List FlowRecord) (r : FlowRecord) → f r ≡ 0 → total f (rs ++ r ∷ []) ≡ total f rs
total_push f [] r none = omega (arith, none)
total_push f (x ∷ rs) r none = omega (arith, total_push f rs r none)

-- a new operation is owed nothing and in flight nowhere
operation_sound : (old : World) (v : VolumeId) (stream : Option StreamId) (handle : Option HandleId) (path : Option (List ℕ)) (p : Params) (files : FileTable)
    → are_on path p ≡ true → is_within_limits p ≡ true → is_full old.flow ≡ false → IsFileSound files (begun v stream handle old.stack.births path p old.flow)
    → AllPass (names_there files) old.contexts.slots → IsSound old
    → IsSound (record old { flow = begun v stream handle old.stack.births path p old.flow; files = files })
operation_sound old v stream handle path p files on within free filed links s =
    let r = begun_record old.flow.next v stream handle old.stack.births path p in
    record {
      under_way = operation_begins old v stream handle path p on within free s.under_way;
      owned = flow_owned old (begun v stream handle old.stack.births path p old.flow)
          (lawful_alike (λ c. sym (total_push (carried_by c) old.flow.operations r refl)) s.owned.lawful)
          (All-push (λ (x : FlowRecord). All (AskCarries old.stack old.contexts.slots) (owed x.entries)) old.flow.operations r s.owned.completions
          (All-nil (AskCarries old.stack old.contexts.slots)))
          (λ i rests. total_push (flight i.0) old.flow.operations r refl ∙ s.owned.quiet i rests) s.owned;
      begun = comes_asked old.stack old.flow r (old.flow.next + 1) refl s.begun;
      filed = filed;
      links = links;
    }

-- ---- streams and handles

moved_shrinks : (operation : Operation) (h : HandleId) (n : ℕ) (f : FileTable) → Shrinks f (moved_on operation h n f)
moved_shrinks operation h n f = grind (arith, length_change, shrinks_same)

creates_push : (t : FlowTable) (r : FlowRecord) → count_by is_creating (t.operations ++ r ∷ []) ≡ count_by is_creating t.operations + cond (is_creating r) 1 0
creates_push t r = sum_by_push (λ (x : FlowRecord). cond (is_creating x) 1 0) t.operations r

-- an operation that is no create begins
filed_begins : (f g : FileTable) (t : FlowTable) (v : VolumeId) (stream : Option StreamId) (handle : Option HandleId) (born : ℕ)
    (name : Option (List ℕ)) (p : Params)
    → is_create (operation_of p) ≡ false → Shrinks f g → IsFiled f t → IsFiled g (begun v stream handle born name p t)
filed_begins f g t v stream handle born name p none shrinks h = grind (arith, creates_push)

-- a create begins where there is room for its handle
filed_creates : (f : FileTable) (t : FlowTable) (v : VolumeId) (path : List ℕ) (stream : Option StreamId) (handle : Option HandleId)
    (born : ℕ) (name : Option (List ℕ)) (p : Params)
    → nat_le 4096 (length f.handles + creates t) ≡ false → IsFiled f t → IsFiled (created v path t.next f) (begun v stream handle born name p t)
filed_creates f t v path stream handle born name p room h = grind (arith, common_steps)

-- what was in use is so still where an operation comes
more_creates : (f : FileTable) (rs : List FlowRecord) (r : FlowRecord) (q : StreamId) → uses f rs q ≡ true → uses f (rs ++ r ∷ []) q ≡ true
more_creates f rs r q h4 = grind (arith, common_steps)

stands_moved : (operation : Operation) (g : HandleId) (n : ℕ) (f : FileTable) (rs : List FlowRecord) (m : ℕ) → Stands none_out f rs m
    → Stands none_out (moved_on operation g n f) rs m
stands_moved Operation.Cleanup g n f rs m h = stands_phased g (HandlePhase.CleaningUp (record { 0 = n })) f rs m h
stands_moved Operation.Close g n f rs m h = stands_phased g HandlePhase.Closing f rs m h
stands_moved _ g n f rs m h = h

stands_begins : (f : FileTable) (t : FlowTable) (r : FlowRecord) → is_creating r ≡ false → IsOn f r → Stands none_out f t.operations t.next
    → Stands none_out f (t.operations ++ r ∷ []) (t.next + 1)
stands_begins f t r none on h = grind (arith, common_steps)

-- what has no file begins
file_lists : (f : FileTable) (t : FlowTable) (v : VolumeId) (born : ℕ) (p : Params) → is_create (operation_of p) ≡ false → IsFileSound f t
    → IsFileSound f (begun v None None born None p t)
file_lists f t v born p none h = grind (arith, common_steps)

-- an operation on an open handle begins
file_begins : (f : FileTable) (t : FlowTable) (v : VolumeId) (g : HandleId) (x : FileHandle) (born : ℕ) (name : Option (List ℕ))
    (p : Params) → handle_at g f ≡ Some x
    → is_create (operation_of p) ≡ false
    → IsFileSound f t → IsFileSound (moved_on (operation_of p) g t.next f) (begun v (Some x.stream) (Some g) born name p t)
file_begins f t v g x born name p at none h =
    let stands = stands_in f t h in
    let r = begun_record t.next v (Some x.stream) (Some g) born name p in
    sound_from (moved_on (operation_of p) g t.next f) (begun v (Some x.stream) (Some g) born name p t)
    (filed_begins f (moved_on (operation_of p) g t.next f) t v (Some x.stream) (Some g) born name p none (moved_shrinks (operation_of p) g t.next f) h.room)
    (stands_moved (operation_of p) g t.next f (t.operations ++ r ∷ []) (t.next + 1)
    (stands_begins f t r (ap (λ b. b && true) none) (on_open f t.operations t.next g x at stands) stands))

-- a create begins
file_creates : (f : FileTable) (t : FlowTable) (v : VolumeId) (path : List ℕ) (born : ℕ) (name : Option (List ℕ)) (p : Params)
    → is_create (operation_of p) ≡ true
    → IsFiled (created v path t.next f) (begun v (Some (stream_for v path t.next f)) None born name p t) → IsFileSound f t
    → IsFileSound (created v path t.next f) (begun v (Some (stream_for v path t.next f)) None born name p t)
file_creates f t v path born name p create room h =
    let s = stream_for v path t.next f in
    let g = created v path t.next f in
    let r = begun_record t.next v (Some s) None born name p in
    let qs = t.operations ++ r ∷ [] in
    let stands = stands_created v path t.next f t.operations (stands_in f t h) in
    grind (arith, common_steps, and_from, eq-eqb, sound_from, stands_among, All-push, fresh_there, eqb-true, or_right, any_pushed, more_creates)

-- ---- begin

asks_sound : (old : World) (h : HandleId) (p : Params) (x : FileHandle) (y : FileStream) → is_create (operation_of p) ≡ false → handle_at h old.files ≡ Some x
    → is_within_limits p ≡ true → is_full old.flow ≡ false → IsSound old → IsSound (begun_on old h p x (Some y))
asks_sound old h p x y none at within free s =
    let files = moved_on (operation_of p) h old.flow.next old.files in
    operation_sound old y.volume (Some x.stream) (Some h) (Some y.path) p files (names_none (Some y.path) p none) within free
    (file_begins old.files old.flow y.volume h x old.stack.births (Some y.path) p at none s.filed)
    (named_more old.files files old.contexts.slots (moved_there (operation_of p) h old.flow.next old.files) s.links) s

creates_sound : (old : World) (v : VolumeId) (path : List ℕ) (mode : CreateMode) → is_full old.flow || has_no_handle_left old ≡ false → IsSound old
    → IsSound (created_begun old v path mode)
creates_sound old v path mode free s =
    let p = Params.Create path mode in
    let stream = Some (stream_for v path old.flow.next old.files) in
    let files = created v path old.flow.next old.files in
    let room = (or_parts (nat_le 4096 (length old.files.handles + creates old.flow)) (old.files.next == 2 ^ 64 - 1)
    (or_parts (is_full old.flow) (has_no_handle_left old) free).1).0 in
    operation_sound old v stream None (Some path) p files ((bytes_decides path path).1 refl) refl (or_parts (is_full old.flow) (has_no_handle_left old) free).0
    (file_creates old.files old.flow v path old.stack.births (Some path) p refl
    (filed_creates old.files old.flow v path stream None old.stack.births (Some path) p room s.filed.room) s.filed)
    (named_more old.files files old.contexts.slots (created_there v path old.flow.next old.files) s.links) s

-- an operation on a handle begins
pub asked_sound : (lower : Bool) (old : World) (h : HandleId) (p : Params) → asked_refused_at lower old h p ≡ None → is_create (operation_of p) ≡ false
    → IsSound old → IsSound (asked_begun old h p)
asked_sound lower old h p free none s = asked_begun_by IsSound lower old h p free (λ x y at within room. asks_sound old h p x y none at within room s)

-- what begins leaves all contexts, and a sound World
pub begun_sound : (lower : Bool) (old : World) (what : Request) → begin_refused_at lower old what ≡ None
    → ((after_begin old what).contexts ≡ old.contexts) × (IsSound old → IsSound (after_begin old what))
begun_sound lower old what free = begun_by (λ w. (w.contexts ≡ old.contexts) × (IsSound old → IsSound w)) lower old what free
    (λ v p none within room. (
      refl,
      λ s. operation_sound old v None None None p old.files (names_none None p none) within room
          (file_lists old.files old.flow v old.stack.births p none s.filed) s.links s,
    ))
    (λ v path mode room. (refl, λ s. creates_sound old v path mode room s))
    (λ h p x y none at within room. (refl, λ s. asks_sound old h p x y none at within room s))

pub begin_at_does : (lower : Bool) (old : World) (what : Request) (result : Result OpId Status) (new : World) → BeginsAt lower old what result new
    → Does old new × KeepsHands old new
begin_at_does lower old what result new h =
    memory_by (λ _ w. Does old w × KeepsHands old w) _ result old new _ h (λ why. (nothing old, λ n. refl)) (λ o free e.
    let begun = begun_sound lower old what free in
    let same = ap contexts_in e.1 ∙ begun.0 in grind arith)

pub begin_does : (old : World) (what : Request) (result : Result OpId Status) (new : World) → Begins old what result new → Does old new × KeepsHands old new
unfolding Begins
begin_does old what result new h = begin_at_does false old what result new h

-- ---- an operation goes

-- what a collect makes of the operations: nothing, or the operation is marked, as long as drains run, or it goes
collected_by : (P : FlowTable → Type 0) (o : OpId) (t : FlowTable) (m : Option FlowRecord) → operation_at o t ≡ m → P t
    → ((r : FlowRecord) → operation_at o t ≡ Some r → is_done r ≡ true → P (changed o marked t))
    → ((r : FlowRecord) → operation_at o t ≡ Some r → is_done r ≡ true → list_any is_running_drain r.entries ≡ false → P (removed o t)) → P (collected_in o t m)
collected_by P o t m at same marks goes = grind arith

-- a done operation is on its way up
done_stage : (s : Stage) (asks : List Ask) → done_at s asks ≡ true → is_running s ≡ false
done_stage s asks h = grind arith

-- where numbers ascend, none is found twice
none_above : (o : OpId) (rs : List FlowRecord) → All (λ (r : FlowRecord). o.0 < r.number.0) rs → find (is_number o) rs ≡ None
none_above o [] h = refl
none_above o (x ∷ rs) h =
    let above : o.0 < x.number.0 = All-head (λ (r : FlowRecord). o.0 < r.number.0) x rs h in
    let other : (x.number.0 == o.0) ≡ false = ne_eqb x.number.0 o.0 (λ e. absurd (omega arith)) in
    ap (λ b. cond b (Some x) (find (is_number o) rs)) other ∙ none_above o rs (All-tail (λ (r : FlowRecord). o.0 < r.number.0) x rs h)

abbrev Ascends : FlowRecord → FlowRecord → Type 0
Ascends r s = r.number.0 < s.number.0

found_once : (o : OpId) (rs : List FlowRecord) (r : FlowRecord) → AllPairs Ascends rs → find (is_number o) rs ≡ Some r
    → find (is_number o) (without_first (is_number o) rs) ≡ None
found_once o [] r pairs h = absurd (none-some r h)
found_once o (x ∷ rs) r pairs h =
    by_bool (λ b. cond b (Some x) (find (is_number o) rs) ≡ Some r → find (is_number o) (cond b rs (x ∷ without_first (is_number o) rs)) ≡ None) (is_number o x)
    (λ e _. none_above o rs (λ k d l. subst (λ n. n < (get_or rs k d).number.0) (eqb-true x.number.0 o.0 e) (pairs 0 (suc k) d (omega arith) (omega arith))))
    (λ e found. ap (λ b. cond b (Some x) (find (is_number o) (without_first (is_number o) rs))) e
    ∙ found_once o rs r (λ i j d p q. pairs (suc i) (suc j) d (omega arith) (omega arith)) found) h

-- what is told of operations stays where one goes of which nothing was told
pub told_without : (read : FlowRecord → ℕ) (p : OpId) (t : FlowTable) (o : OpId) (r : FlowRecord) → AllPairs Ascends t.operations → operation_at o t ≡ Some r
    → read r ≡ 0 → told read 0 p t ≡ told read 0 p (removed o t)
told_without read p t o r pairs at none =
    let tell = λ (m : Option FlowRecord). unwrap_or (option_map read m) 0 in
    elim (cases_eq o.0 p.0) [
      | inl e ↦
          let before : told read 0 p t ≡ 0 = ap tell (subst (λ n. find (λ (x : FlowRecord). x.number.0 == n) t.operations ≡ Some r) e at) ∙ none in
          let after : told read 0 p (removed o t) ≡ 0 =
          ap tell (subst (λ n. find (λ (x : FlowRecord). x.number.0 == n) (without_first (is_number o) t.operations) ≡ None) e
          (found_once o t.operations r pairs at)) in
          before ∙ sym after
      | inr e ↦ sym (ap tell (find_without (is_number o) (is_number p) t.operations
          (λ x k. ne_eqb x.number.0 p.0 (λ q. e (sym (eqb-true x.number.0 o.0 k) ∙ q)))))
    ]

filed_collects : (f : FileTable) (o : OpId) (t : FlowTable) → IsFiled f t → IsFiled f (collected_of o t)
filed_collects f o t h =
    let m = operation_at o t in
    let next = collected_by (λ u. u.next ≡ t.next) o t m refl refl (λ r at done. refl) (λ r at done d. refl) in
    let counts = collected_by (λ u. creates u ≤ creates t) o t m refl (omega arith)
    (λ r at done. let k = count_changed is_creating (is_number o) marked t.operations r at in omega (arith, k))
    (λ r at done d. count_without is_creating (is_number o) t.operations) in
    record { numbers = omega (arith, next, counts, h.numbers); few = omega (arith, counts, h.few) }

-- an operation that is done was no create under way
done_none : (r : FlowRecord) → is_done r ≡ true → is_creating r ≡ false
done_none r h1 = grind arith

stands_gone : (f : FileTable) (o : OpId) (t : FlowTable) (r : FlowRecord) → operation_at o t ≡ Some r → is_done r ≡ true → Stands none_out f t.operations t.next
    → Stands none_out f (removed o t).operations (removed o t).next
stands_gone f o t r at done h =
    let gone = λ (q : StreamId) (x : FlowRecord) (found : operation_at o t ≡ Some x).
    subst (λ (y : FlowRecord). is_creating_on q y ≡ false) (same_Some r x (sym at ∙ found)) (ap (λ b. b && is_on_stream q r.stream) (done_none r done)) in
    stands_among none_out none_out f t.operations (without_first (is_number o) t.operations) t.next t.next
    (all_without (IsCreatedOn f) (is_number o) t.operations h.creates_on)
    (all_without (IsOn f) (is_number o) t.operations h.operations_on) (omega arith)
    (λ q apart was. ap (λ a. has_handle_on q f || a) (any_without (is_creating_on q) (is_number o) t.operations (λ x found. gone q x found)) ∙ was refl) h

stands_collected : (f : FileTable) (o : OpId) (t : FlowTable) (m : Option FlowRecord) → operation_at o t ≡ m → Stands none_out f t.operations t.next
    → Stands none_out f (collected_in o t m).operations (collected_in o t m).next
stands_collected f o t m at h =
    collected_by (λ u. Stands none_out f u.operations u.next) o t m at h
    (λ r at done. stands_same f t.operations t.next (is_number o) marked r at
    (record { stream = refl; handle = refl; creating = refl }) h) (λ r at done d. stands_gone f o t r at done h)

file_collects : (f : FileTable) (o : OpId) (t : FlowTable) → IsFileSound f t → IsFileSound f (collected_of o t)
file_collects f o t h = sound_from f (collected_of o t) (filed_collects f o t h.room) (stands_collected f o t (operation_at o t) refl (stands_in f t h))

-- an operation that is done goes, and no drain of it runs
pub file_gone : (f : FileTable) (o : OpId) (t : FlowTable) (r : FlowRecord) → operation_at o t ≡ Some r → is_done r ≡ true
    → IsFileSound f t → IsFileSound f (removed o t)
file_gone f o t r at done h =
    let counts = count_without is_creating (is_number o) t.operations in
    sound_from f (removed o t) (record { numbers = omega (arith, counts, h.room.numbers); few = omega (arith, counts, h.room.few) })
    (stands_gone f o t r at done (stands_in f t h))

pub total_without : (f : FlowRecord → ℕ) (test : FlowRecord → Bool) (rs : List FlowRecord) (r : FlowRecord) → find test rs ≡ Some r
    → total f (without_first test rs) + f r ≡ total f rs
total_without f test [] r is = absurd (none-some r is)
total_without f test (x ∷ rs) r is = grind (arith, (total_without f test rs r))

pub goes_owned : (w : World) (o : OpId) (r : FlowRecord) → operation_at o w.flow ≡ Some r → IsLawful (λ c. carried c (removed o w.flow)) w.contexts → IsOwned w
    → IsOwned (record w { flow = removed o w.flow })
goes_owned w o r at lawful h =
    flow_owned w (removed o w.flow) lawful
    (all_without (λ (x : FlowRecord). All (AskCarries w.stack w.contexts.slots) (owed x.entries)) (is_number o) w.flow.operations h.completions)
    (λ i rests. omega (arith, total_without (flight i.0) (is_number o) w.flow.operations r at, h.quiet i rests)) h

pub goes_keeps : (w : World) (o : OpId) (r : FlowRecord) → operation_at o w.flow ≡ Some r → is_done r ≡ true
    → list_any is_running_drain r.entries ≡ false → IsFlow (removed o w.flow)
    → AreInStep w.stack w.flow w.workers → IsUnderWay (record w { flow = removed o w.flow })
goes_keeps w o r at done d flow u =
    let quiet = quiet_is_none r.stage r.entries (done_stage r.stage (owed r.entries) done) in
    record {
      stack = u.stack;
      flow = flow;
      among = all_without (IsAmong w.stack) (is_number o) w.flow.operations u.among;
      hands = u.hands;
      workers = λ p x. u.workers p x ∙ told_without (standing x) p w.flow o r u.ascending at (ap one (quiet x));
      drains = λ p i. u.drains p i ∙ told_without (λ (y : FlowRecord). drain_opens i y.entries) p w.flow o r u.ascending at (none_running i r.entries d);
      instance_callbacks = u.instance_callbacks;
    }

-- ---- collect

pub done_owes : (stage : Stage) (asks : List Ask) → done_at stage asks ≡ true → asks ≡ []
done_owes stage asks h = grind arith

-- a collected operation carried nothing any more
pub collect_balance : (t : FlowTable) (o : OpId) (m : Option FlowRecord) → operation_at o t ≡ m → (c : CtxId) → carried c t ≡ carried c (collected_in o t m)
collect_balance t o m at c = grind (arith, collected_by, carried_changed, done_owes, total_without)

pub collect_does : (old : World) (o : OpId) (result : Result Answer Status) (new : World) → Collects old o result new → Does old new
unfolding Collects
collect_does old o result new h = makes old (record old { flow = collected_of o old.flow }) new h.1 (still old.contexts) (λ s.
    let operations = old.flow.operations in
    let u = s.under_way in
    let opens = λ (i : ℕ) (y : FlowRecord). drain_opens i y.entries in
    collected_by (λ t. IsFlow t → IsLawful (λ c. carried c t) old.contexts → IsFileSound old.files t
    → IsSound (record old { flow = t })) o old.flow (operation_at o old.flow) refl
    (λ flow lawful filed. s)
    (λ r at done flow lawful filed. record {
      under_way = record {
        stack = u.stack;
        flow = flow;
        among = all_change (IsAmong old.stack) (is_number o) marked operations
            (λ x k. found_holds (IsAmong old.stack) (is_number o) operations x u.among k) u.among;
        hands = u.hands;
        workers = λ p x. u.workers p x ∙ told_same (standing x) p old.flow o r marked at (λ y. refl) refl;
        drains = λ p i. u.drains p i ∙ told_same (opens i) p old.flow o r marked at (λ y. refl) refl;
        instance_callbacks = u.instance_callbacks;
      };
      owned = flow_owned old (changed o marked old.flow) lawful
          (carry_changed old.stack old.contexts.slots old.flow o r marked at (asks_of old o r at s.owned) s.owned.completions)
          (quieter old o r marked at (λ i. omega arith) s.owned.quiet) s.owned;
      begun = marked_asked old.stack old.flow o r at s.begun;
      filed = filed;
      links = s.links;
    })
    (λ r at done d flow lawful filed. record {
      under_way = goes_keeps old o r at done d flow (in_step u);
      owned = goes_owned old o r at lawful s.owned;
      begun = gone_asked old.stack old.flow o s.begun;
      filed = filed;
      links = s.links;
    })
    (flow_collects old.flow o u.flow) (lawful_alike (collect_balance old.flow o (operation_at o old.flow) refl) s.owned.lawful)
    (file_collects old.files o old.flow s.filed))
