-- What each whole turn of an operation leaves of its fold: of one record, and any chain.
use Rattle.fm_local.proofs.Words.{[], ⊤, ◌∷◌, ◌≡◌, Answer, Bool, Completion, Data, Finished, FlowRecord, InstanceId, List, None, Operation, Option}
use Rattle.fm_local.proofs.Words.{Params, PreVerdict, Some, Status, WorkerId, bare_answer, false, length, slice_get, suc, true, zero, ℕ, ◌++◌, ◌∙◌}
use Rattle.fm_local.proofs.Words.{ap, ap₂, arith, cond, length-append, map, refl, subst, sym, take, unwrap_or, answered_data, fresh_data}
use Rattle.fm_local.proofs.Words.{base_counted, times, sees, IsCourse, base_returned_of, call_base, call_of, call_post, call_pre, give_post}
use Rattle.fm_local.proofs.Words.{lent_answer, post_returned_of, pre_returned_of, returned_answer, unwound, verdict_counted, Ascending, Ask}
use Rattle.fm_local.proofs.Words.{Descending, Entry, HandleId, PreState, Stage, last_visited, owed, visited, Asker, Chain, Descends, Leads, Rises}
use Rattle.fm_local.proofs.Words.{Visit, asker, ArePlain}
use Rattle.std.proofs.lemmas.List.{map-append, length-take}
use Rattle.fm_callback_data.specs.Data.{current_of}
use Rattle.fm_operations.specs.declared.entry.Entry.TheVariants.{Base}
use Rattle.fm_operations.specs.Entries.{ask_in, settle_pre, settle_post}
use Rattle.fm_operations.specs.Steps.{unwound_to, with_visit, with_base, bare_ask, post_entry, pre_leads, answer_after, kept_of, stands, left_answer}
use Rattle.fm_operations.proofs.Course.{bare_ask_of, owed_answered}
use Rattle.fm_operations.proofs.Owed.{owed_push_none}
use Rattle.fm_operations.proofs.Walks.{settling_pre, settling_post}
use Rattle.fm_operations.specs.declared.entry.PostState.{PostState}
use Rattle.fm_local.specs.Folds.{bare_completion}
use Rattle.fm_local.specs.Left.{askers, LeftAt, LeftIn, LeftOf}
use Rattle.fm_local.proofs.operations.Askers.{closed_stay, askers_above, none_at_end, asker_now, entry_of, last_is, owed_asks, owed_goes}

-- a turn leaves no more than what was left before: any answer and end of what is left after it are those of what was left
pub record Leaves {W : Type 0} (k : WorkerId) (chain : Chain W) (Meets : Option ℕ → List ℕ → Type 0) (r s : FlowRecord) (old new : W) : Type 0 where
  pub plain : ArePlain k (length s.kept) (owed s.entries)
  pub left : (answer : Answer) (end : W) → LeftOf chain Meets s new answer end → LeftOf chain Meets r old answer end

-- what a filter that completes makes of what lies below
abbrev pub after_verdict : {W : Type 0} → Chain W → PreState → W → W
after_verdict chain (PreState.Completed status) old = chain.completes status old
after_verdict chain _ old = old

-- a verdict that holds nothing
abbrev pub IsPlainState : PreState → Type 0
IsPlainState (PreState.Asked completion) = ⊤
IsPlainState (PreState.Synchronized completion) = ⊤
IsPlainState PreState.Passed = ⊤
IsPlainState (PreState.Completed status) = ⊤
IsPlainState _ = ⊥

plain_above : (k : WorkerId) (asks : List Ask) (kept more : List Params) → ArePlain k (length kept) asks → ArePlain k (length (kept ++ more)) asks
plain_above k [] kept more fall = tt
plain_above k (ask ∷ asks) kept more fall = (omega (arith, fall.0, length-append kept more), fall.1, fall.2)

module _ {W : Type 0} (chain : Chain W) (Meets : Option ℕ → List ℕ → Type 0) (r : FlowRecord) (p : Params) (has : r.params ≡ Some p) (old : W) where
  left_of : (t : Stage) (answer : Answer) (end : W) → r.stage ≡ t → LeftAt chain Meets t r p old answer end → LeftOf chain Meets r old answer end
  left_of t answer end st h =
      subst (λ (m : Option Params). LeftIn chain Meets r m old answer end) (sym has) (subst (λ (u : Stage). LeftAt chain Meets u r p old answer end) (sym st) h)

  -- ---- a visit
  module _ (worker : WorkerId) (i : InstanceId) (st : r.stage ≡ Descending) (c : IsCourse Descending r.entries) (fresh : times i.0 (visited r.entries) ≡ 0)
      (plain : ArePlain worker (length r.kept) (owed r.entries)) (meets : (below : List ℕ) → Meets (Some i.0) below
      → Meets (last_visited r.entries) (i.0 ∷ below)) where
    abbrev asked : List Asker
    asked = askers (owed r.entries) r.kept p

    abbrev entries_as : PreState → List Entry
    entries_as state = r.entries ++ entry_of r.entries worker i (length r.kept) state ∷ []

    module _ (given : PreVerdict) (back : Data) (state : PreState) (called : chain.has_pre i.0 ≡ true) (same : back.received ≡ p)
        (may : chain.pre_may i.0 (fresh_data p) given back) (counted : verdict_counted given chain.operation (chain.has_post i.0) ≡ state) where
      abbrev pub visited_once : FlowRecord
      visited_once = pre_returned_of state back (call_pre worker i r (Some p)).after

      entries_are : visited_once.entries ≡ entries_as state
      entries_are =
          map-append (settle_pre state) r.entries (entry_of r.entries worker i (length r.kept) PreState.Running ∷ [])
          ∙ ap (λ es. es ++ entry_of r.entries worker i (length r.kept) state ∷ [])
          (closed_stay (settle_pre state) (settling_pre state) Descending r.entries Descending c.order refl refl)

      met : (below : List ℕ) (answer : Answer) (end : W) → Meets (Some i.0) below
          → Leads chain (Descends chain below) i.0 p back asked state old answer end → LeftOf chain Meets r old answer end
      met below answer end at led =
          left_of Descending answer end st (
            i.0 ∷ below,
            meets below at,
            subst (λ (b : Bool). Visit chain (Descends chain below) i.0 b p asked old answer end) (sym called) (
              given,
              back,
              may,
              subst (λ (s : PreState). Leads chain (Descends chain below) i.0 p back asked s old answer end) (sym counted) led,
            ),
          )

      last_here : last_visited visited_once.entries ≡ Some i.0
      last_here = ap last_visited entries_are ∙ last_is r.entries worker i (length r.kept) state

      -- what it received is what it was given
      asked_same : (asks : List Ask) → askers asks r.kept back.received ≡ askers asks r.kept p
      asked_same asks = ap (askers asks r.kept) same

      asked_goes : owed visited_once.entries ≡ owed r.entries → askers (owed visited_once.entries) visited_once.kept (current_of back) ≡ asked
      asked_goes goes =
          ap (λ asks. askers asks visited_once.kept (current_of back)) goes
          ∙ askers_above worker (owed r.entries) r.kept back.received back.changed plain ∙ asked_same (owed r.entries)

      -- it asks for its postoperation, of any worker or of its own
      left_asking : (completion : Completion) (bound : Bool)
          → ask_in (record { instance = i; worker = worker; state = state; place = length r.kept }) state
          ≡ Some (record { instance = i; worker = worker; completion = completion; is_synchronized = bound; place = length r.kept })
          → pre_leads state ≡ Descending
          → ((below : List ℕ) (answer : Answer) (end : W) → Descends chain below (current_of back) (asker i.0 p completion ∷ asked) old answer end
          → Leads chain (Descends chain below) i.0 p back asked state old answer end)
          → Leaves worker chain Meets r visited_once old old
      left_asking completion bound asks_in leads led =
          let ask : Ask = record { instance = i; worker = worker; completion = completion; is_synchronized = bound; place = length r.kept } in
          let owes : owed visited_once.entries ≡ ask ∷ owed r.entries =
          ap owed entries_are ∙ owed_asks r.entries worker i (length r.kept) state ask asks_in refl c fresh in
          let asks : askers (owed visited_once.entries) visited_once.kept (current_of back) ≡ asker i.0 p completion ∷ asked =
          ap (λ asks. askers asks visited_once.kept (current_of back)) owes
          ∙ asker_now i.0 completion ask (owed r.entries) r.kept back.received back.changed refl refl refl
          ∙ ap (λ q. asker i.0 q completion ∷ askers (owed r.entries) r.kept q) same in
          record {
            plain = subst (ArePlain worker (length visited_once.kept)) (sym owes)
                (omega (arith, length-append r.kept (kept_of back.received back.changed)), refl, plain);
            left = λ answer end h.
                let t : LeftAt chain Meets Descending visited_once (current_of back) old answer end =
                subst (λ (u : Stage). LeftAt chain Meets u visited_once (current_of back) old answer end) leads h in
                met t.0 answer end (subst (λ (m : Option ℕ). Meets m t.0) last_here t.1)
                (led t.0 answer end (subst (λ (xs : List Asker). Descends chain t.0 (current_of back) xs old answer end) asks t.2));
          }

      pub left_asked : (completion : Completion) → state ≡ PreState.Asked completion → Leaves worker chain Meets r visited_once old old
      left_asked completion is =
          left_asking completion false (ap (ask_in (record { instance = i; worker = worker; state = state; place = length r.kept })) is) (ap pre_leads is)
          (λ below answer end h. subst (λ (s : PreState). Leads chain (Descends chain below) i.0 p back asked s old answer end) (sym is) h)

      pub left_synchronized : (completion : Completion) → state ≡ PreState.Synchronized completion → Leaves worker chain Meets r visited_once old old
      left_synchronized completion is =
          left_asking completion true (ap (ask_in (record { instance = i; worker = worker; state = state; place = length r.kept })) is) (ap pre_leads is)
          (λ below answer end h. subst (λ (s : PreState). Leads chain (Descends chain below) i.0 p back asked s old answer end) (sym is) h)

      -- it lets the operation pass
      pub left_passed : state ≡ PreState.Passed → Leaves worker chain Meets r visited_once old old
      left_passed is =
          let goes : owed visited_once.entries ≡ owed r.entries =
          ap owed entries_are ∙ owed_goes r.entries worker i (length r.kept) state
          (ap (ask_in (record { instance = i; worker = worker; state = state; place = length r.kept })) is) in
          record {
            plain = subst (ArePlain worker (length visited_once.kept)) (sym goes)
                (plain_above worker (owed r.entries) r.kept (kept_of back.received back.changed) plain);
            left = λ answer end h.
                let t : LeftAt chain Meets Descending visited_once (current_of back) old answer end =
                subst (λ (u : Stage). LeftAt chain Meets u visited_once (current_of back) old answer end) (ap pre_leads is) h in
                met t.0 answer end (subst (λ (m : Option ℕ). Meets m t.0) last_here t.1)
                (subst (λ (s : PreState). Leads chain (Descends chain t.0) i.0 p back asked s old answer end) (sym is)
                (subst (λ (xs : List Asker). Descends chain t.0 (current_of back) xs old answer end) (asked_goes goes) t.2));
          }

      -- it completes the operation, which meets nobody below
      pub left_completed : (status : Status) → state ≡ PreState.Completed status → (below : List ℕ) → Meets (Some i.0) below
          → Leaves worker chain Meets r visited_once old (chain.completes status old)
      left_completed status is below at =
          let goes : owed visited_once.entries ≡ owed r.entries =
          ap owed entries_are ∙ owed_goes r.entries worker i (length r.kept) state
          (ap (ask_in (record { instance = i; worker = worker; state = state; place = length r.kept })) is) in
          let said : visited_once.answer ≡ bare_answer status = ap (λ s. answer_after s r.answer) is in
          record {
            plain = subst (ArePlain worker (length visited_once.kept)) (sym goes)
                (plain_above worker (owed r.entries) r.kept (kept_of back.received back.changed) plain);
            left = λ answer end h.
                let t : LeftAt chain Meets Ascending visited_once (current_of back) (chain.completes status old) answer end =
                subst (λ (u : Stage). LeftAt chain Meets u visited_once (current_of back) (chain.completes status old) answer end) (ap pre_leads is) h in
                met below answer end at
                (subst (λ (s : PreState). Leads chain (Descends chain below) i.0 p back asked s old answer end) (sym is) (
                  subst (λ (given : Answer). Rises chain asked given answer) said
                      (subst (λ (xs : List Asker). Rises chain xs visited_once.answer answer) (asked_goes goes) t.0),
                  t.1,
                ));
          }

    -- an instance is passed without a call
    pub left_bare : chain.has_pre i.0 ≡ false → Leaves worker chain Meets r (with_visit worker i bare_ask r) old old
    left_bare uncalled =
        let s = with_visit worker i bare_ask r in
        let owes : owed s.entries ≡ bare_ask_of worker i (length r.kept) ∷ owed r.entries =
        owed_asks r.entries worker i (length r.kept) bare_ask (bare_ask_of worker i (length r.kept)) refl refl c fresh in
        let asks : askers (owed s.entries) r.kept p ≡ asker i.0 p bare_completion ∷ asked =
        ap (λ asks. askers asks r.kept p) owes
        ∙ ap₂ (λ q ps. asker i.0 q bare_completion ∷ askers (owed r.entries) ps q) (none_at_end r.kept p).0 (none_at_end r.kept p).1 in
        record {
          plain = subst (ArePlain worker (length r.kept)) (sym owes) (omega arith, refl, plain);
          left = λ answer end h.
              let t : LeftAt chain Meets Descending s p old answer end = subst (λ (m : Option Params). LeftIn chain Meets s m old answer end) has h in
              left_of Descending answer end st (
                i.0 ∷ t.0,
                meets t.0 (subst (λ (m : Option ℕ). Meets m t.0) (last_is r.entries worker i (length r.kept) bare_ask) t.1),
                subst (λ (b : Bool). Visit chain (Descends chain t.0) i.0 b p asked old answer end) (sym uncalled)
                    (subst (λ (xs : List Asker). Descends chain t.0 p xs old answer end) asks t.2),
              );
        }

  -- ---- the base
  module _ (worker : WorkerId) (st : r.stage ≡ Descending) (plain : ArePlain worker (length r.kept) (owed r.entries))
      (last : Meets (last_visited r.entries) []) (new : W) where
    -- it answers
    at_base : (s : FlowRecord) (given : Answer) → chain.base_may p old given new → owed s.entries ≡ owed r.entries → s.kept ≡ r.kept
        → s.params ≡ Some p → s.stage ≡ Ascending → s.answer ≡ given
        → Leaves worker chain Meets r s old new
    at_base s given may owes kept params stage said = record {
      plain = subst (λ (ps : List Params). ArePlain worker (length ps) (owed s.entries)) (sym kept) (subst (ArePlain worker (length r.kept)) (sym owes) plain);
      left = λ answer end h.
          let t : LeftAt chain Meets Ascending s p new answer end =
          subst (λ (u : Stage). LeftAt chain Meets u s p new answer end) stage
          (subst (λ (m : Option Params). LeftIn chain Meets s m new answer end) params h) in
          let up : Rises chain (askers (owed r.entries) r.kept p) given answer =
          subst (λ (a : Answer). Rises chain (askers (owed r.entries) r.kept p) a answer) said
          (subst (λ (ps : List Params). Rises chain (askers (owed r.entries) ps p) s.answer answer) kept
          (subst (λ (xs : List Ask). Rises chain (askers xs s.kept p) s.answer answer) owes t.0)) in
          left_of Descending answer end st (
            [],
            last,
            subst (λ (w : W). (b : Answer) × chain.base_may p old b w × Rises chain (askers (owed r.entries) r.kept p) b answer) (sym t.1) (given, may, up),
          );
    }

    pub left_base : (answer : Answer) (handle : HandleId) → chain.base_may p old (base_counted p answer handle) new
        → Leaves worker chain Meets r (base_returned_of (call_of r p) answer handle (call_base r (Some p)).after) old new
    left_base answer handle may =
        let counts = base_counted p answer handle in
        at_base (base_returned_of (call_of r p) answer handle (call_base r (Some p)).after) counts may
        (owed_push_none r.entries (Base counts.status counts.information) refl (λ j. refl)) refl refl refl refl

    pub left_known : (status : Status) → chain.base_may p old (bare_answer status) new → Leaves worker chain Meets r (with_base (bare_answer status) r) old new
    left_known status may =
        at_base (with_base (bare_answer status) r) (bare_answer status) may (owed_push_none r.entries (Base status 0) refl (λ j. refl)) refl has refl refl

-- ---- a postoperation

-- where nothing was kept at a place, nothing goes
none_taken : (kept : List Params) (place : ℕ) → slice_get kept place ≡ None → take place kept ≡ kept
none_taken [] zero none = refl
none_taken [] (suc place) none = refl
none_taken (x ∷ kept) zero none = cc
none_taken (x ∷ kept) (suc place) none = ap (λ xs. x ∷ xs) (none_taken kept place none)

-- what the parameters are put back to
pub record PutBack (place : ℕ) (r s : FlowRecord) (p : Params) : Type 0 where
  pub params : s.params ≡ Some (sees r.kept place p)
  pub kept : s.kept ≡ take place r.kept
  pub entries : s.entries ≡ r.entries
  pub operation : s.operation ≡ r.operation
  pub answer : s.answer ≡ r.answer
  pub path : s.path ≡ r.path
  pub volume : s.volume ≡ r.volume
  pub born : s.born ≡ r.born
  pub below : s.below ≡ r.below
  pub collected : s.collected ≡ r.collected

pub put_back : (place : ℕ) (r : FlowRecord) (p : Params) (m : Option Params) → slice_get r.kept place ≡ m → r.params ≡ Some p
    → PutBack place r (unwound_to place r m) p
put_back place r p m at has = by_kept m at
  where
    with_both : (q : Option Params) (kept : List Params) → q ≡ Some (sees r.kept place p) → kept ≡ take place r.kept
        → PutBack place r (record r { params = q; kept = kept }) p
    with_both q kept is were =
        record { params = is; kept = were; entries = refl; operation = refl; answer = refl; path = refl; volume = refl; born = refl; below = refl; collected = refl }

    by_kept : (m : Option Params) → slice_get r.kept place ≡ m → PutBack place r (unwound_to place r m) p
    by_kept None at = with_both r.params r.kept (has ∙ ap (λ (m : Option Params). Some (unwrap_or m p)) (sym at)) (sym (none_taken r.kept place at))
    by_kept (Some q) at = with_both (Some q) (take place r.kept) (ap (λ (m : Option Params). Some (unwrap_or m p)) (sym at)) refl

-- the answer that stands meanwhile doesn't matter to the answer after it
returned_same : (operation : Operation) (answer : Answer) (back : Data) → returned_answer operation (left_answer operation answer) back
    ≡ returned_answer operation answer back
returned_same operation answer back =
    elim (stands operation) as (λ b. cond b (cond b answer (record answer { bytes = [] }))
    (record { status = back.status; information = back.information; bytes = back.out })
    ≡ cond b answer (record { status = back.status; information = back.information; bytes = back.out })) [ true ↦ refl | false ↦ refl ]

module _ {W : Type 0} (chain : Chain W) (Meets : Option ℕ → List ℕ → Type 0) (r : FlowRecord) (p : Params) (has : r.params ≡ Some p)
    (old : W) (worker : WorkerId) (ask : Ask)
    (rest : List Ask) (next : owed r.entries ≡ ask ∷ rest) (st : r.stage ≡ Ascending) (c : IsCourse Ascending r.entries)
    (plain : ArePlain worker (length r.kept) (owed r.entries))
    (kind : chain.operation ≡ r.operation) (back : Data) (same : back.received ≡ sees r.kept ask.place p)
    (may : chain.post_may ask.instance.0 (answered_data (sees r.kept ask.place p) (lent_answer chain.operation r.answer)) ask.completion Finished back) where
  abbrev pub posted_once : FlowRecord
  posted_once = post_returned_of Finished back (call_post worker ask r).after

  -- with the parameters at hand
  given_post : (u : FlowRecord) (m : Option Params) → PutBack ask.place r u p → m ≡ Some (sees r.kept ask.place p)
      → Leaves worker chain Meets r (post_returned_of Finished back (give_post worker ask u m).after) old old
  given_post u None back' is = cc
  given_post u (Some q) back' is =
      let s = post_returned_of Finished back (give_post worker ask u (Some q)).after in
      let entry : Entry = post_entry worker ask.instance PostState.Finished in
      let entries : s.entries ≡ r.entries ++ entry ∷ [] =
      map-append (settle_post PostState.Finished) u.entries (post_entry worker ask.instance PostState.Running ∷ [])
      ∙ ap (λ es. map (settle_post PostState.Finished) es ++ entry ∷ []) back'.entries
      ∙ ap (λ es. es ++ entry ∷ []) (closed_stay (settle_post PostState.Finished) (settling_post PostState.Finished) Descending
      r.entries Ascending c.order refl refl) in
      let owes : owed s.entries ≡ rest = ap owed entries ∙ owed_answered Ascending r.entries entry ask rest c next refl (λ j. refl) in
      let fall : ArePlain worker (length r.kept) (ask ∷ rest) = subst (ArePlain worker (length r.kept)) next plain in
      let long : length u.kept ≡ ask.place = ap length back'.kept ∙ omega (arith, length-take ask.place r.kept, fall.0) in
      let said : s.answer ≡ returned_answer chain.operation r.answer back =
      ap₂ (λ o a. returned_answer o (left_answer o a) back) (back'.operation ∙ sym kind) back'.answer ∙ returned_same chain.operation r.answer back in
      let asks : askers (owed s.entries) s.kept back.received ≡ askers rest (take ask.place r.kept) (sees r.kept ask.place p) =
      ap (λ xs. askers xs s.kept back.received) owes ∙ ap₂ (λ ps q. askers rest ps q) back'.kept same in
      record {
        plain = subst (λ (n : ℕ). ArePlain worker n (owed s.entries)) (sym long) (subst (ArePlain worker ask.place) (sym owes) fall.2);
        left = λ answer end h.
            let up : Rises chain (askers rest (take ask.place r.kept) (sees r.kept ask.place p)) (returned_answer chain.operation r.answer back) answer =
            subst (λ (a : Answer). Rises chain (askers rest (take ask.place r.kept) (sees r.kept ask.place p)) a answer) said
            (subst (λ (xs : List Asker). Rises chain xs s.answer answer) asks h.0) in
            left_of chain Meets r p has old Ascending answer end st
            (subst (λ (xs : List Ask). Rises chain (askers xs r.kept p) r.answer answer) (sym next) (back, may, up), h.1);
      }

  pub left_post : Leaves worker chain Meets r posted_once old old
  left_post =
      let u = put_back ask.place r p (slice_get r.kept ask.place) refl has in
      given_post (unwound ask.place r) (unwound ask.place r).params u u.params

-- ---- the ends

-- an operation that is done has nothing left but its answer
pub left_done : {W : Type 0} (chain : Chain W) (Meets : Option ℕ → List ℕ → Type 0) (r : FlowRecord) (p : Params) (old : W)
    → r.params ≡ Some p → r.stage ≡ Ascending → owed r.entries ≡ []
    → LeftOf chain Meets r old r.answer old
left_done chain Meets r p old has st none =
    left_of chain Meets r p has old Ascending r.answer old st
    (subst (λ (xs : List Ask). Rises chain (askers xs r.kept p) r.answer r.answer) (sym none) refl, refl)
