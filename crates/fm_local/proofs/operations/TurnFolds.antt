-- Each turn of an operation that is alone leaves no more of its fold than there was.
use Rattle.fm_local.proofs.Words.{[], ◌∷◌, ◌≡◌, Answer, BaseCall, Bool, Completion, Data, Err, FlowAction, FlowRecord, Instance, InstanceId, List}
use Rattle.fm_local.proofs.Words.{None, Ok, OpId, Operation, Option, Params, PostVerdict, PreVerdict, Result, Some, StackWorld, Status, WorkerId}
use Rattle.fm_local.proofs.Words.{World, bare_answer, false, length, slice_get, suc, true, worker_at, ℕ, ◌++◌, ◌∙◌, ap, ap₂, arith, cond}
use Rattle.fm_local.proofs.Words.{is_some, length-append, map, not, refl, subst, sym, unwrap_or, answered_data, fresh_data, fit, base_counted, times}
use Rattle.fm_local.proofs.Words.{sees, IsCourse, ascend, base_returned_of, call_base, call_of, call_post, call_pre, descend, give_post, lent_answer}
use Rattle.fm_local.proofs.Words.{next_at, next_of, post_returned_of, pre_returned_of, turn, unwound, is_number, verdict_counted, Below}
use Rattle.fm_local.proofs.Words.{Ascending, has_post, is_stopping_row, FileTable, IsSound, Ask, Descending, Entry, HandleId, PreState, Stage}
use Rattle.fm_local.proofs.Words.{is_create, last_visited, owed, visited, after_next, put, Place, IsPlainFilter, BaseMay, Subject, Under, chain_of}
use Rattle.fm_local.proofs.Words.{filter_in, filter_in_row, known_answer, subject_of, Chain, ArePlain, NoneStops, under, Does, Turns, Visits}
use Rattle.std.specs.Prelude.{IfSome}
use Rattle.std.proofs.lemmas.List.{length-map}
use Rattle.fm_types.proofs.Firsts.{found_holds}
use Rattle.fm_types.proofs.Lists.{all_at}
use Rattle.fm_operations.proofs.Soundness.{at_stage}
use Rattle.fm_operations.specs.Entries.{settle_pre, settle_post}
use Rattle.fm_operations.specs.Sound as flow
use Rattle.fm_operations.specs.Steps.{pre_entry, post_entry, with_visit, with_base, bare_ask, Turned as Turn}
use Rattle.fm_operations.specs.Verdict.{completed_as}
use Rattle.fm_operations.specs.declared.entry.PostState.{PostState}
use Rattle.fm_stack.specs.Next.{is_candidate, IsHighest, IsNextInstance}
use Rattle.fm_world.proofs.Descents.{last_of-push, room_visits}
use Rattle.fm_world.specs.Descent.{HasRoom, cursor_of}
use Rattle.fm_world.proofs.Turns.{may_visit}
use Rattle.fm_world.specs.Events.{base_known, filed_base, filed_next, filed_record, drains_next, LiesBelow, AnswersBelow, is_stopping_ask}
use Rattle.fm_world.specs.Files.{after_base, after_pre}
use Rattle.fm_world.specs.Sound.{IsAmong}
use Rattle.fm_filter.specs.Plain.{IsPlainPre, IsPlainPost}
use Rattle.fm_local.specs.Chains.{PreMay, PostMay, BaseMayBy}
use Rattle.fm_local.proofs.operations.Single.{Alone, found_alone, told_alone, known_alone, none_created}
use Rattle.fm_local.proofs.operations.Events.{next_leaves, IsLeft, pre_leaves, base_leaves, post_leaves, and_none, placed}
use Rattle.fm_local.proofs.operations.Fits.{fits_back, call_back}
use Rattle.fm_local.proofs.operations.WholeTurns.{Leaves, IsPlainState, left_asked, left_synchronized, left_passed, left_completed, left_bare, left_base, left_known, left_post}
use Rattle.fm_local.proofs.operations.Askers.{takes_own}
use Rattle.fm_local.proofs.operations.WholeTurns.{PutBack, put_back}
use Rattle.fm_local.proofs.operations.Visits.{visits_after}

-- the operation is between two callbacks
abbrev pub is_between : Stage → Bool
is_between Descending = true
is_between Ascending = true
is_between _ = false

-- a record that is still what the subject says; a create that was answered has a handle more
pub record IsOn (x : Subject) (r : FlowRecord) : Type 0 where
  pub kind : r.operation ≡ x.operation
  pub all : r.stage ≡ Descending → subject_of r ≡ x

-- an operation that is on its way from the top, alone, between two callbacks
pub record IsGoing (k : WorkerId) (o : OpId) (x : Subject) (r : FlowRecord) (w : World) : Type 0 where
  pub top : r.below ≡ None
  pub alone : Alone o r w.flow
  pub idle : worker_at w.workers k ≡ Some Place.Idle
  pub uncollected : r.collected ≡ false
  pub between : is_between r.stage ≡ true
  pub on : IsOn x r
  pub asks : ArePlain k (length r.kept) (owed r.entries)

-- no operation is drained then
none_drains : (s : StackWorld) → NoneStops s → (m : Option Ask) → is_stopping_ask s m ≡ false
none_drains s none None = refl
none_drains s none (Some ask) = by_row (slice_get s.instances ask.instance.0) refl
  where
    by_row : (m : Option Instance) → slice_get s.instances ask.instance.0 ≡ m → is_stopping_row m ≡ false
    by_row None at = refl
    by_row (Some row) at = none ask.instance.0 row at

-- what an operation that is sound has
module _ (w : World) (sound : IsSound w) (o : OpId) (r : FlowRecord) (alone : Alone o r w.flow) where
  pub record_sound : flow.IsSound r
  record_sound = found_holds flow.IsSound (is_number o) w.flow.operations r sound.under_way.flow.sound (found_alone o r w.flow alone)

  record_among : IsAmong w.stack r
  record_among = found_holds (IsAmong w.stack) (is_number o) w.flow.operations r sound.under_way.among (found_alone o r w.flow alone)

-- what a postoperation that is given leaves of the record
record GivenKeeps (u s : FlowRecord) : Type 0 where
  operation : s.operation ≡ u.operation
  path : s.path ≡ u.path
  volume : s.volume ≡ u.volume
  born : s.born ≡ u.born
  below : s.below ≡ u.below
  collected : s.collected ≡ u.collected

given_keeps : (k : WorkerId) (ask : Ask) (u : FlowRecord) (m : Option Params) → GivenKeeps u (give_post k ask u m).after
given_keeps k ask u None = record { operation = refl; path = refl; volume = refl; born = refl; below = refl; collected = refl }
given_keeps k ask u (Some q) = record { operation = refl; path = refl; volume = refl; born = refl; below = refl; collected = refl }

-- an entry more
one_more : (es : List Entry) (e : Entry) → length (es ++ e ∷ []) ≡ suc (length es)
one_more es e = omega (arith, length-append es (e ∷ []))

-- an entry more, and all settled
settled_more : (f : Entry → Entry) (es : List Entry) (e : Entry) → length (map f (es ++ e ∷ [])) ≡ suc (length es)
settled_more f es e = length-map (es ++ e ∷ []) f ∙ one_more es e

-- and an entry more, where parameters are at hand
given_more : (k : WorkerId) (ask : Ask) (u : FlowRecord) (m : Option Params) (q : Params) → m ≡ Some q
    → length (give_post k ask u m).after.entries ≡ suc (length u.entries)
given_more k ask u None q has = cc
given_more k ask u (Some p) q has = one_more u.entries (post_entry k ask.instance PostState.Running)

some_there : (m : Option Params) → is_some m ≡ true → (p : Params) × (m ≡ Some p)
some_there None is = cc
some_there (Some p) is = (p, refl)

module _ {F D : Type 0} (pre_may : F → Data → PreVerdict → Data → Type 0) (post_may : F → Data → Completion → PostVerdict → Data
    → Type 0) (is_quiet : F → Type 0)
    (carries : D → BaseCall → Answer → D → Type 0) (filters : ℕ → Option F) (plain : (n : ℕ) (f : F) → filters n ≡ Some f
    → IsPlainFilter pre_may post_may is_quiet f)
    (k : WorkerId) (o : OpId) (x : Subject) (s : StackWorld) (quiet : NoneStops s) where
  abbrev pub chain : Subject → Chain (Under D)
  chain y = chain_of pre_may post_may carries filters s y

  abbrev pub Meets : FlowRecord → Option ℕ → List ℕ → Type 0
  Meets r = Visits s r.volume r.born r.operation

  -- a turn leaves the operation going, and no more of its fold than there was
  pub record Turned (r : FlowRecord) (old : World) (d : D) (new : World) (e : D) : Type 0 where
    pub next : FlowRecord
    pub going : IsGoing k o x next new
    pub stays : new.stack ≡ old.stack
    pub same : (next.volume ≡ r.volume) × (next.born ≡ r.born)
    -- each turn leaves an entry more
    pub longer : length next.entries ≡ suc (length r.entries)
    pub less : Leaves k (chain x) (Meets r) r next (under d old) (under e new)

  -- so it is where the turn only moved it
  still_going : (next : FlowRecord) (mid new : World) → next.below ≡ None → new ≡ mid → Alone o next mid.flow → worker_at mid.workers k ≡ Some Place.Idle
      → next.collected ≡ false → is_between next.stage ≡ true
      → IsOn x next → ArePlain k (length next.kept) (owed next.entries) → IsGoing k o x next new
  still_going next mid new top same alone idle uncollected between on asks =
      subst (IsGoing k o x next) (sym same) (record { top = top; alone = alone; idle = idle; uncollected = uncollected; between = between; on = on; asks = asks })

  -- verdicts of filters that are there are plain
  pre_plain : (i : ℕ) (lent : Data) (given : PreVerdict) (back : Data) → PreMay pre_may (filter_in filters s i) lent given back → IsPlainPre given
  pre_plain i lent given back may = by_row (slice_get s.instances i) may
    where
      by_filter : (n : ℕ) (m : Option F) → filters n ≡ m → PreMay pre_may m lent given back → IsPlainPre given
      by_filter n None at may = subst IsPlainPre (sym may.0) tt
      by_filter n (Some f) at may = (plain n f at).descends lent given back may

      by_row : (m : Option Instance) → PreMay pre_may (filter_in_row filters m) lent given back → IsPlainPre given
      by_row None may = subst IsPlainPre (sym may.0) tt
      by_row (Some row) may = by_filter row.filter.0 (filters row.filter.0) refl may

  post_plain : (i : ℕ) (lent : Data) (completion : Completion) (given : PostVerdict) (back : Data)
      → PostMay post_may (filter_in filters s i) lent completion given back → given ≡ PostVerdict.Finished
  post_plain i lent completion given back may = by_row (slice_get s.instances i) may
    where
      finished : (given : PostVerdict) → IsPlainPost given → given ≡ PostVerdict.Finished
      finished PostVerdict.Finished p = refl
      finished PostVerdict.MoreProcessing p = absurd p

      by_filter : (n : ℕ) (m : Option F) → filters n ≡ m → PostMay post_may m lent completion given back → given ≡ PostVerdict.Finished
      by_filter n None at may = may.0
      by_filter n (Some f) at may = finished given ((plain n f at).ascends lent completion given back may)

      by_row : (m : Option Instance) → PostMay post_may (filter_in_row filters m) lent completion given back → given ≡ PostVerdict.Finished
      by_row None may = may.0
      by_row (Some row) may = by_filter row.filter.0 (filters row.filter.0) refl may

  -- a plain verdict that counts is plain
  state_plain : (given : PreVerdict) (operation : Operation) (has : Bool) → IsPlainPre given → IsPlainState (verdict_counted given operation has)
  state_plain (PreVerdict.WithCallback completion) operation true p = tt
  state_plain (PreVerdict.WithCallback completion) operation false p = tt
  state_plain (PreVerdict.Synchronize completion) operation true p = tt
  state_plain (PreVerdict.Synchronize completion) operation false p = tt
  state_plain PreVerdict.NoCallback operation has p = tt
  state_plain (PreVerdict.Complete why) operation has p = ended operation
    where
      ended : (operation : Operation) → IsPlainState (completed_as why operation)
      ended Operation.Cleanup = tt
      ended Operation.Close = tt
      ended Operation.Create = tt
      ended _ = tt
  state_plain PreVerdict.Pending operation has p = absurd p

  module _ (r : FlowRecord) (old : World) (d : D) (going : IsGoing k o x r old) (sound : IsSound old) (at_stack : old.stack ≡ s)
      (p : Params) (has : r.params ≡ Some p) where
    own : flow.IsSound r
    own = record_sound old sound o r going.alone

    among : IsAmong s r
    among = subst (λ (t : StackWorld). IsAmong t r) at_stack (record_among old sound o r going.alone)

    fits : fit r.operation r.path p ≡ true
    fits = subst (λ (m : Option Params). IfSome m (λ q. fit r.operation r.path q ≡ true)) has own.params

    -- what is looked for below its way is looked for below its last visit
    at_top : {A : Type 0} (P : Option ℕ → A → Type 0) (a : A) → P (cursor_of r.below (visited r.entries)) a → P (last_visited r.entries) a
    at_top P a h = subst (λ (m : Option InstanceId). P (cursor_of m (visited r.entries)) a) going.top h

    room : HasRoom s r.volume None r.born r.operation (visited r.entries)
    room = subst (λ (m : Option InstanceId). HasRoom s r.volume m r.born r.operation (visited r.entries)) going.top among.room

    next_one : (i : InstanceId) → IsNextInstance s r.volume (cursor_of r.below (visited r.entries)) r.born r.operation (Some i)
        → IsHighest (is_candidate s r.volume (last_visited r.entries) r.born r.operation) s.instances i.0
    next_one i lies = at_top (λ m n. IsHighest (is_candidate s r.volume m r.born r.operation) s.instances n) i.0 lies

    none_left : IsNextInstance s r.volume (cursor_of r.below (visited r.entries)) r.born r.operation None
        → Visits s r.volume r.born r.operation (last_visited r.entries) []
    none_left lies = at_top (λ m n. Visits s r.volume r.born r.operation m n) [] lies

    -- ---- a visit
    module _ (st : r.stage ≡ Descending) where
      course : IsCourse Descending r.entries
      course = (at_stage r Descending st own).0

      -- what is known of the chain of the record is known of the subject's
      of_subject : (next : FlowRecord) (w : Under D) → Leaves k (chain (subject_of r)) (Meets r) r next (under d old) w
          → Leaves k (chain x) (Meets r) r next (under d old) w
      of_subject next w h = subst (λ (y : Subject). Leaves k (chain y) (Meets r) r next (under d old) w) (going.on.all st) h

      module _ (i : InstanceId) (lies : LiesBelow s r (Below.Instance i true)) where
        fresh : times i.0 (visited r.entries) ≡ 0
        fresh = (may_visit s r (Below.Instance i true) among lies).0

        further : (below : List ℕ) × Visits s r.volume r.born r.operation (Some i.0) below
        further =
            let rest = visits_after s r.volume r.born r.operation (visited r.entries ++ i.0 ∷ [])
            (room_visits s r.volume None r.born r.operation (visited r.entries) i.0 room (next_one i lies.0)) in
            (rest.0, subst (λ (m : Option ℕ). Visits s r.volume r.born r.operation m rest.0) (last_of-push (visited r.entries) i.0) rest.1)

        meets : (below : List ℕ) → Visits s r.volume r.born r.operation (Some i.0) below
            → Visits s r.volume r.born r.operation (last_visited r.entries) (i.0 ∷ below)
        meets below v = (next_one i lies.0, v)

        module _ (given : PreVerdict) (back : Data) (may : PreMay pre_may (filter_in filters s i.0) (fresh_data p) given back)
            (same : back.received ≡ p) (new : World) (e : D) (end_is : e ≡ d) where
          abbrev after_verdict : PreState → FlowRecord
          after_verdict state = pre_returned_of state back (call_pre k i r (Some p)).after

          abbrev files_after : PreState → FileTable
          files_after state = after_pre state r.operation r.stream false old.files

          turned : (state : PreState) → is_between (after_verdict state).stage ≡ true → IsLeft k o (after_verdict state) s (files_after state) new
              → Leaves k (chain (subject_of r)) (Meets r) r (after_verdict state) (under d old)
              (record { device = d; files = files_after state }) → Turned r old d new e
          turned state between left less =
              let next = after_verdict state in
              let ends : record { device = d; files = files_after state } ≡ under e new =
              ap₂ (λ dev fs. record { device = dev; files = fs }) (sym end_is) (sym left.filed) in
              record {
                next = next;
                going = record {
                  top = going.top;
                  alone = left.alone;
                  idle = left.idle;
                  uncollected = going.uncollected;
                  between = between;
                  on =
                      record { kind = going.on.kind; all = λ h. going.on.all st };
                  asks = less.plain;
                };
                stays = left.stays ∙ sym at_stack;
                same = (refl, refl);
                longer = settled_more (settle_pre state) r.entries (pre_entry k i PreState.Running r);
                less = subst (λ (w : Under D). Leaves k (chain x) (Meets r) r next (under d old) w) ends
                    (of_subject next (record { device = d; files = files_after state }) less);
              }

          by_state : (state : PreState) → verdict_counted given r.operation (has_post s (slice_get s.instances i.0) r.operation) ≡ state → IsPlainState state
              → IsLeft k o (after_verdict state) s (files_after state) new → Turned r old d new e
          by_state (PreState.Asked completion) counted plain left =
              turned (PreState.Asked completion) refl left
              (left_asked (chain (subject_of r)) (Meets r) r p has (under d old) k i st course fresh going.asks meets given back
              (PreState.Asked completion) (sym lies.1) same may counted completion refl)
          by_state (PreState.Synchronized completion) counted plain left =
              turned (PreState.Synchronized completion) refl left
              (left_synchronized (chain (subject_of r)) (Meets r) r p has (under d old) k i st course fresh going.asks meets given back
              (PreState.Synchronized completion) (sym lies.1) same may counted completion refl)
          by_state PreState.Passed counted plain left =
              turned PreState.Passed refl left
              (left_passed (chain (subject_of r)) (Meets r) r p has (under d old) k i st course fresh going.asks meets given back
              PreState.Passed (sym lies.1) same may counted refl)
          by_state (PreState.Completed why) counted plain left =
              turned (PreState.Completed why) refl left
              (left_completed (chain (subject_of r)) (Meets r) r p has (under d old) k i st course fresh going.asks meets given back
              (PreState.Completed why) (sym lies.1) same may counted why refl further.0 further.1)
          by_state _ counted plain left = absurd plain

        visit_turn : (mid : World) → Alone o (call_pre k i r (Some p)).after mid.flow → worker_at mid.workers k ≡ Some (Place.Pre o i)
            → mid.stack ≡ s → mid.files ≡ old.files
            → (new : World) (e : D) → Does pre_may post_may carries filters k o (Ok (FlowAction.Pre i (fresh_data p))) mid d new e → Turned r old d new e
        visit_turn mid alone worker stack files new e does =
            let given = does.0 in
            let back = does.1 in
            let may : PreMay pre_may (filter_in filters s i.0) (fresh_data p) given back =
            subst (λ (t : StackWorld). PreMay pre_may (filter_in filters t i.0) (fresh_data p) given back) stack does.3 in
            let plainly = pre_plain i.0 (fresh_data p) given back may in
            let State : StackWorld → PreState = λ t. verdict_counted given r.operation (has_post t (slice_get t.instances i.0) r.operation) in
            let left = pre_leaves mid k o (call_pre k i r (Some p)).after alone i given back does.2 new worker
            (fits_back r.operation r.path p back fits does.4.received does.4.laws) plainly does.5 in
            let left' = subst (λ (t : StackWorld). IsLeft k o (pre_returned_of (State t) back (call_pre k i r (Some p)).after) t
            (after_pre (State t) r.operation r.stream false mid.files) new) stack left in
            by_state given back may does.4.received new e does.6 (State s) refl
            (state_plain given r.operation (has_post s (slice_get s.instances i.0) r.operation) plainly)
            (subst (λ (f : FileTable). IsLeft k o (pre_returned_of (State s) back (call_pre k i r (Some p)).after) s
            (after_pre (State s) r.operation r.stream false f) new) files left')

      -- ---- an instance that is passed without a call
      bare_turn : (i : InstanceId) → LiesBelow s r (Below.Instance i false) → (mid : World)
          → Alone o (with_visit k i bare_ask r) mid.flow → worker_at mid.workers k ≡ Some Place.Idle
          → mid.stack ≡ s → mid.files ≡ old.files → (new : World) (e : D) → new ≡ mid → e ≡ d → Turned r old d new e
      bare_turn i lies mid alone idle stack files new e same end_is =
          let next = with_visit k i bare_ask r in
          let fresh = (may_visit s r (Below.Instance i false) among lies).0 in
          let less = left_bare (chain (subject_of r)) (Meets r) r p has (under d old) k i st course fresh going.asks (λ below v. (next_one i lies.0, v)) (sym lies.1) in
          let ends : under d old ≡ under e new =
          ap₂ (λ dev fs. record { device = dev; files = fs }) (sym end_is) (sym (ap (λ (w : World). w.files) same ∙ files)) in
          record {
            next = next;
            going = still_going next mid new going.top same alone idle going.uncollected refl (record { kind = going.on.kind; all = λ h. going.on.all st }) less.plain;
            stays = ap (λ (w : World). w.stack) same ∙ stack ∙ sym at_stack;
            same = (refl, refl);
            longer = one_more r.entries (pre_entry k i bare_ask r);
            less = subst (λ (w : Under D). Leaves k (chain x) (Meets r) r next (under d old) w) ends (of_subject next (under d old) less);
          }

      -- ---- the base
      module _ (lies : Visits s r.volume r.born r.operation (last_visited r.entries) []) where
        base_turn : base_known old.files old.flow r ≡ None → (mid : World) → Alone o (call_base r (Some p)).after mid.flow
            → worker_at mid.workers k ≡ Some (Place.Base o)
            → mid.stack ≡ s → mid.files ≡ old.files → (new : World) (e : D)
            → Does pre_may post_may carries filters k o (Ok (FlowAction.Base (call_of r p))) mid d new e → Turned r old d new e
        base_turn unknown mid alone worker stack files new e does =
            let answer = does.0 in
            let handle : FileTable → HandleId = λ f. record { 0 = f.next } in
            let left = base_leaves mid k o (call_base r (Some p)).after alone (call_of r p) answer does.1 new worker
            (call_back r p answer fits does.3) does.4 in
            let left' = subst (λ (f : FileTable). IsLeft k o (base_returned_of (call_of r p) answer (handle f)
            (call_base r (Some p)).after) mid.stack (after_base r.operation r.stream r.handle answer.status false f) new) files left in
            let next = base_returned_of (call_of r p) answer (handle old.files) (call_base r (Some p)).after in
            let known : known_answer old.files (subject_of r) ≡ None = sym (known_alone o r old.flow going.alone old.files) ∙ unknown in
            let By : Option Status → Type 0 = λ m. BaseMayBy carries (subject_of r) p m (under d old)
            (base_counted p answer (handle old.files)) (under e new) in
            let may : BaseMay carries (subject_of r) p (under d old) (base_counted p answer (handle old.files)) (under e new) =
            subst By (sym known) (answer, does.2, refl, left'.filed) in
            let less = left_base (chain (subject_of r)) (Meets r) r p has (under d old) k st going.asks lies (under e new) answer (handle old.files) may in
            record {
              next = next;
              going = record {
                top = going.top;
                alone = left'.alone;
                idle = left'.idle;
                uncollected = going.uncollected;
                between = refl;
                on =
                    record { kind = going.on.kind; all = λ h. cc };
                asks = less.plain;
              };
              stays = left'.stays ∙ stack ∙ sym at_stack;
              same = (refl, refl);
              longer = one_more r.entries (Entry.Base (base_counted p answer (handle old.files)).status (base_counted p answer (handle old.files)).information);
              less = of_subject next (under e new) less;
            }

        known_turn : (why : Status) → base_known old.files old.flow r ≡ Some why → (mid : World)
            → Alone o (with_base (bare_answer why) r) mid.flow → worker_at mid.workers k ≡ Some Place.Idle
            → mid.stack ≡ s → mid.files ≡ filed_base old o mid.flow why → (new : World) (e : D) → new ≡ mid → e ≡ d → Turned r old d new e
        known_turn why knows mid alone idle stack files new e same end_is =
            let next = with_base (bare_answer why) r in
            let filing : new.files ≡ after_base r.operation r.stream r.handle why false old.files =
            ap (λ (w : World). w.files) same ∙ files ∙ told_alone o r old.flow going.alone (filed_record old.files mid.flow why) old.files
            ∙ ap (λ b. after_base r.operation r.stream r.handle why b old.files)
            (none_created o next mid.flow alone (and_none (is_create r.operation)) r.stream) in
            let known : known_answer old.files (subject_of r) ≡ Some why = sym (known_alone o r old.flow going.alone old.files) ∙ knows in
            let By : Option Status → Type 0 = λ m. BaseMayBy carries (subject_of r) p m (under d old) (bare_answer why) (under e new) in
            let ends : under e new ≡ record { device = d; files = after_base r.operation r.stream r.handle why false old.files } =
            ap₂ (λ dev fs. record { device = dev; files = fs }) end_is filing in
            let may : BaseMay carries (subject_of r) p (under d old) (bare_answer why) (under e new) = subst By (sym known) (refl, ends) in
            let less = left_known (chain (subject_of r)) (Meets r) r p has (under d old) k st going.asks lies (under e new) why may in
            record {
              next = next;
              going = still_going next mid new going.top same alone idle going.uncollected refl (record { kind = going.on.kind; all = λ h. cc }) less.plain;
              stays = ap (λ (w : World). w.stack) same ∙ stack ∙ sym at_stack;
              same = (refl, refl);
              longer = one_more r.entries (Entry.Base why 0);
              less = of_subject next (under e new) less;
            }

    -- ---- a postoperation
    module _ (st : r.stage ≡ Ascending) (ask : Ask) (rest : List Ask) (owes : owed r.entries ≡ ask ∷ rest) where
      abbrev saw : Params
      saw = sees r.kept ask.place p

      abbrev unwinds : PutBack ask.place r (unwound ask.place r) p
      unwinds = put_back ask.place r p (slice_get r.kept ask.place) refl has

      -- what it is given fits
      saw_fits : (m : Option Params) → slice_get r.kept ask.place ≡ m → fit r.operation r.path (unwrap_or m p) ≡ true
      saw_fits None at = fits
      saw_fits (Some q) at = all_at (λ v. fit r.operation r.path v ≡ true) r.kept ask.place q own.kept at

      post_turn : (mid : World) → Alone o (call_post k ask r).after mid.flow
          → worker_at mid.workers k ≡ Some (Place.Post o ask.instance) → mid.stack ≡ s → mid.files ≡ old.files
          → (new : World) (e : D) → Does pre_may post_may carries filters k o
          (Ok (FlowAction.Post ask.instance (answered_data saw (lent_answer r.operation r.answer)) ask.completion)) mid d new e
          → Turned r old d new e
      post_turn mid alone worker stack files new e does =
          let back = does.1 in
          let lent = answered_data saw (lent_answer r.operation r.answer) in
          let may : PostMay post_may (filter_in filters s ask.instance.0) lent ask.completion does.0 back =
          subst (λ (t : StackWorld). PostMay post_may (filter_in filters t ask.instance.0) lent ask.completion does.0 back) stack does.3 in
          let finished : does.0 ≡ PostVerdict.Finished = post_plain ask.instance.0 lent ask.completion does.0 back may in
          let s0 = (call_post k ask r).after in
          let keeps = given_keeps k ask (unwound ask.place r) (unwound ask.place r).params in
          let operation : s0.operation ≡ r.operation = keeps.operation ∙ unwinds.operation in
          let path : s0.path ≡ r.path = keeps.path ∙ unwinds.path in
          let fitting : fit s0.operation s0.path saw ≡ true = ap₂ (λ a b. fit a b saw) operation path ∙ saw_fits (slice_get r.kept ask.place) refl in
          let left = post_leaves mid k o s0 alone ask.instance does.0 back does.2 new worker
          (fits_back s0.operation s0.path saw back fitting does.4.received does.4.laws) does.5 in
          let next = post_returned_of PostVerdict.Finished back s0 in
          let left' : IsLeft k o next mid.stack mid.files new =
          subst (λ (v : PostVerdict). IsLeft k o (post_returned_of v back s0) mid.stack mid.files new) finished left in
          let ended : PostMay post_may (filter_in filters s ask.instance.0) (answered_data saw (lent_answer x.operation r.answer))
          ask.completion PostVerdict.Finished back =
          subst (λ (a : Operation). PostMay post_may (filter_in filters s ask.instance.0) (answered_data saw (lent_answer a r.answer))
          ask.completion PostVerdict.Finished back) going.on.kind
          (subst (λ (v : PostVerdict). PostMay post_may (filter_in filters s ask.instance.0) lent ask.completion v back) finished may) in
          let less = left_post (chain x) (Meets r) r p has (under d old) k ask rest owes st (at_stage r Ascending st own).0 going.asks
          (sym going.on.kind) back does.4.received ended in
          let ends : under d old ≡ under e new = ap₂ (λ dev fs. record { device = dev; files = fs }) (sym does.6) (sym (left'.filed ∙ files)) in
          record {
            next = next;
            going = record {
              top = keeps.below ∙ unwinds.below ∙ going.top;
              alone = left'.alone;
              idle = left'.idle;
              uncollected = keeps.collected ∙ unwinds.collected ∙ going.uncollected;
              between = refl;
              on = record { kind = operation ∙ going.on.kind; all = λ h. cc };
              asks = less.plain;
            };
            stays = left'.stays ∙ stack ∙ sym at_stack;
            same = (keeps.volume ∙ unwinds.volume, keeps.born ∙ unwinds.born);
            longer = length-map s0.entries (settle_post PostState.Finished)
                ∙ given_more k ask (unwound ask.place r) (unwound ask.place r).params saw unwinds.params
                ∙ ap (λ (es : List Entry). suc (length es)) unwinds.entries;
            less = subst (λ (w : Under D). Leaves k (chain x) (Meets r) r next (under d old) w) ends less;
          }

    -- ---- one turn, whatever is next
    module _ (reply : Result FlowAction Status) (mid new : World) (e : D) (workers : mid.workers ≡ after_next old.workers k o reply) (stack : mid.stack ≡ s)
        (does : Does pre_may post_may carries filters k o reply mid d new e) where
      abbrev Done : Result FlowAction Status → Type 0
      Done said = Does pre_may post_may carries filters k o said mid d new e

      -- the worker is where the answer of `next` brings it
      brought : (said : Result FlowAction Status) (at : Place) → reply ≡ said → after_next old.workers k o said ≡ put old.workers k at
          → worker_at mid.workers k ≡ Some at
      brought said at is puts = ap (λ ws. worker_at ws k) (workers ∙ ap (after_next old.workers k o) is ∙ puts) ∙ placed old.workers k Place.Idle at going.idle

      rested : (said : Result FlowAction Status) → reply ≡ said → after_next old.workers k o said ≡ old.workers → worker_at mid.workers k ≡ Some Place.Idle
      rested said is same = ap (λ ws. worker_at ws k) (workers ∙ ap (after_next old.workers k o) is ∙ same) ∙ going.idle

      down_by : r.stage ≡ Descending → (lies : Below) → LiesBelow s r lies → AnswersBelow old.files old.flow r lies → reply ≡ (descend k lies r).reply
          → Alone o (descend k lies r).after mid.flow → mid.files ≡ filed_next old o mid.flow reply lies → Turned r old d new e
      down_by st (Below.Instance i true) found answers said alone files =
          let is : reply ≡ Ok (FlowAction.Pre i (fresh_data p)) = said ∙ ap (λ m. (call_pre k i r m).reply) has in
          visit_turn st i found mid (subst (λ (m : Option Params). Alone o (call_pre k i r m).after mid.flow) has alone)
          (brought (Ok (FlowAction.Pre i (fresh_data p))) (Place.Pre o i) is refl) stack
          (files ∙ ap (λ a. filed_next old o mid.flow a (Below.Instance i true)) is) new e (subst Done is does)
      down_by st (Below.Instance i false) found answers said alone files =
          let moved : Done (Ok FlowAction.Moved) = subst Done said does in
          bare_turn st i found mid alone (rested (Ok FlowAction.Moved) said refl) stack (files
          ∙ ap (λ a. filed_next old o mid.flow a (Below.Instance i false)) said) new e moved.0 moved.1
      down_by st Below.Call found answers said alone files =
          let is : reply ≡ Ok (FlowAction.Base (call_of r p)) = said ∙ ap (λ m. (call_base r m).reply) has in
          base_turn st (none_left found) answers mid (subst (λ (m : Option Params). Alone o (call_base r m).after mid.flow) has alone)
          (brought (Ok (FlowAction.Base (call_of r p))) (Place.Base o) is refl) stack
          (files ∙ ap (λ a. filed_next old o mid.flow a Below.Call) is) new e (subst Done is does)
      down_by st (Below.Known why) found answers said alone files =
          let moved : Done (Ok FlowAction.Moved) = subst Done said does in
          known_turn st (none_left found) why answers mid alone (rested (Ok FlowAction.Moved) said refl) stack (files
          ∙ ap (λ a. filed_next old o mid.flow a (Below.Known why)) said) new e moved.0 moved.1

      up_by : r.stage ≡ Ascending → (asks : List Ask) → owed r.entries ≡ asks → (lies : Below) → reply ≡ (ascend k false r (slice_get asks 0)).reply
          → Alone o (ascend k false r (slice_get asks 0)).after mid.flow → mid.files ≡ filed_next old o mid.flow reply lies → Turned r old d new e
      up_by st [] owes lies said alone files = absurd (subst Done said does)
      up_by st (ask ∷ rest) owes lies said alone files =
          let plainly : ArePlain k (length r.kept) (ask ∷ rest) = subst (ArePlain k (length r.kept)) owes going.asks in
          let takes = takes_own k ask plainly.1 in
          let Is : Bool → Turn = λ b. cond b (call_post k ask r) (turn (Err Status.WrongStep) r) in
          let back = unwinds st ask rest owes in
          let given : reply ≡ Ok (FlowAction.Post ask.instance (answered_data (saw st ask rest owes) (lent_answer r.operation r.answer)) ask.completion) =
          said ∙ ap (λ b. (Is b).reply) takes ∙ ap (λ m. (give_post k ask (unwound ask.place r) m).reply) back.params
          ∙ ap₂ (λ a b. Ok (FlowAction.Post ask.instance (answered_data (saw st ask rest owes) (lent_answer a b)) ask.completion)) back.operation back.answer in
          let post = Ok (FlowAction.Post ask.instance (answered_data (saw st ask rest owes) (lent_answer r.operation r.answer)) ask.completion) in
          post_turn st ask rest owes mid (subst (λ (b : Bool). Alone o (Is b).after mid.flow) takes alone)
          (brought post (Place.Post o ask.instance) given refl) stack
          (files ∙ ap (λ a. filed_next old o mid.flow a lies) given) new e (subst Done given does)

      by_stage : (t : Stage) → r.stage ≡ t → is_between t ≡ true → (lies : Below)
          → (t ≡ Descending → LiesBelow s r lies × AnswersBelow old.files old.flow r lies)
          → reply ≡ (next_at k lies false r t).reply → Alone o (next_at k lies false r t).after mid.flow
          → mid.files ≡ filed_next old o mid.flow reply lies → Turned r old d new e
      by_stage Descending st between lies finds said alone files = down_by st lies (finds refl).0 (finds refl).1 said alone files
      by_stage Ascending st between lies finds said alone files = up_by st (owed r.entries) refl lies said alone files
      by_stage _ st between lies finds said alone files = cc

  between_here : (t : Stage) → is_between t ≡ true → not (flow.lends t) ≡ true
  between_here Descending h = refl
  between_here Ascending h = refl
  between_here _ h = cc

  module _ (r : FlowRecord) (old : World) (d : D) (going : IsGoing k o x r old) (sound : IsSound old) (at_stack : old.stack ≡ s) where
    -- its parameters are here
    pub has_params : (p : Params) × (r.params ≡ Some p)
    has_params = some_there r.params ((record_sound old sound o r going.alone).here ∙ between_here r.stage going.between)

    pub calm_here : drains_next old.stack r ≡ false
    calm_here = ap (λ t. drains_next t r) at_stack ∙ none_drains s quiet (slice_get (owed r.entries) 0)

    pub turn_leaves : (new : World) (e : D) → Turns pre_may post_may carries filters k o old d new e → Turned r old d new e
    turn_leaves new e h =
        let n = next_leaves old k o r going.alone h.0 h.1 going.idle calm_here h.2 in
        let is : next_of k n.lies false r ≡ next_at k n.lies false r r.stage =
        ap (λ b. cond b (turn (Err Status.WrongStep) r) (next_at k n.lies false r r.stage)) going.uncollected in
        by_stage r old d going sound at_stack has_params.0 has_params.1 h.0 h.1 new e n.workers (n.stack ∙ at_stack) h.3 r.stage refl going.between n.lies
        (λ st. let found = n.finds st in (subst (λ (t : StackWorld). LiesBelow t r n.lies) at_stack found.0, found.1))
        (n.said ∙ ap (λ (t : Turn). t.reply) is) (subst (λ (t : Turn). Alone o t.after h.1.flow) is n.alone) n.files
