-- What a manager answers is what the fold says, and it is ready again.
use Rattle.fm_filter.specs.declared.minifilter.Minifilter as filter
use Rattle.fm_base.specs.declared.base.Base as base
use Rattle.fm_local.proofs.Words.{[], ◌≡◌, Answer, Completion, Data, Folder, List, Parts, None, Option, PostVerdict, PreVerdict, Some, Status}
use Rattle.fm_local.proofs.Words.{Bool, Begins, ContextKind, Err, IsBegun, Ok, OpId, Tidies, bare_answer}
use Rattle.fm_local.proofs.Words.{WorkerId, World, false, true, ℕ, ◌∙◌, ap, refl, subst, sym, FileRequest, Reply, Request, IsSound, HandleId}
use Rattle.fm_local.proofs.Words.{ArePlainFilters, IsReady, closed_handle, replied, BasesCarry, numbered, NoneStops, Filters}
use Rattle.fm_local.specs.Actions.{AnswersIn, ClosesIn, ClosesRefused, goes_on, is_over, PerformsIn, RunsIn}
use Rattle.fm_local.specs.Requests.{DoesTidily, DoesClose, DoesOne}
use Rattle.fm_local.proofs.operations.RequestLists.{RestsOver, one_tidily, one_done}
use Rattle.fm_local.proofs.operations.ManagerRequests.{performs_begun, performs_refused, performs_settled}

-- a request that closes a handle
pub is_close : (what : Request) (h : HandleId) → closed_handle what ≡ Some h → what ≡ Request.OnHandle h FileRequest.Close
is_close (Request.OnHandle g FileRequest.Close) h is = cc
is_close (Request.OnHandle g _) h is = cc
is_close (Request.List v) h is = cc
is_close (Request.OnVolume v m n) h is = cc
is_close (Request.Create v path mode) h is = cc

module _ {F B : Type 0} (own : filter.Ghosts F) (below : base.Ghosts B) (k : WorkerId) where
  abbrev Ready : Parts F B → Type 0
  Ready m = IsReady own below k m

  abbrev Performed : Request → Parts F B → Reply → Parts F B → Type 0
  Performed what old said new = PerformsIn own below k what old said new

  abbrev Answered : Request → Parts F B → Reply → Parts F B → Type 0
  Answered what old said new = AnswersIn own below k what old said new

  module _ (old : Parts F B) (ready : Ready old) (sound : IsSound old.work.state) where
    abbrev here : RestsOver own.pre_may own.post_may own.is_quiet (BasesCarry below.folder below.faults)
        (numbered old.filters) k ready.plain old.work.state.stack ready.calm old.work.state
    here = record { sound = sound; rests = ready.rests; stack = refl }

    -- all is ready again
    ready_again : (new : Parts F B) → RestsOver own.pre_may own.post_may own.is_quiet (BasesCarry below.folder below.faults)
        (numbered old.filters) k ready.plain old.work.state.stack ready.calm new.work.state
        → new.filters ≡ old.filters → new.work.resumed.items.items ≡ [] → Ready new
    ready_again new over filters settled = record {
      plain = subst (λ (fs : Filters F). ArePlainFilters own.pre_may own.post_may own.is_quiet (numbered fs)) (sym filters) ready.plain;
      rests = over.rests;
      calm = subst NoneStops (sym over.stack) ready.calm;
      settled = settled;
    }

    pub ready_after : (what : Request) (said : Reply) (new : Parts F B) → Performed what old said new → Ready new
    ready_after what said new p =
        let one = one_tidily own.pre_may own.post_may own.is_quiet (BasesCarry below.folder below.faults)
        (numbered old.filters) k ready.plain old.work.state.stack ready.calm what old.work.state old.bases.all.items p.answer
        new.work.state new.bases.all.items here p.does in
        ready_again new one.ready p.filters p.settled

    answers : (what : Request) (said : Reply) (new : Parts F B) (answer : Answer) → said ≡ replied answer
        → DoesOne own.pre_may own.post_may (BasesCarry below.folder below.faults) (numbered old.filters) k what old.work.state
        old.bases.all.items answer new.work.state new.bases.all.items
        → new.filters ≡ old.filters → new.work.resumed.items.items ≡ [] → Answered what old said new
    answers what said new answer says does filters settled =
        let one = one_done own.pre_may own.post_may own.is_quiet (BasesCarry below.folder below.faults)
        (numbered old.filters) k ready.plain old.work.state.stack ready.calm what old.work.state old.bases.all.items answer
        new.work.state new.bases.all.items here does in
        record {
          answer = answer;
          says = says;
          folds = one.holds;
          ready = ready_again new one.ready filters settled;
          stays = one.ready.stack;
          filters = filters;
        }

    as_one : (what : Request) → closed_handle what ≡ None → (w : World) (d : List B) (answer : Answer) (v : World) (e : List B)
        → DoesTidily own.pre_may own.post_may (BasesCarry below.folder below.faults) (numbered old.filters) k what w d answer v e
        → DoesOne own.pre_may own.post_may (BasesCarry below.folder below.faults) (numbered old.filters) k what w d answer v e
    as_one (Request.List v) no_close w d answer u e does = does
    as_one (Request.OnVolume v m n) no_close w d answer u e does = does
    as_one (Request.Create v path mode) no_close w d answer u e does = does
    as_one (Request.OnHandle h FileRequest.Close) no_close w d answer u e does = cc
    as_one (Request.OnHandle h _) no_close w d answer u e does = does

    -- a request that is no close
    pub answers_one : (what : Request) → closed_handle what ≡ None → (said : Reply) (new : Parts F B) → Performed what old said new → Answered what old said new
    answers_one what no_close said new p =
        answers what said new p.answer p.says (as_one what no_close old.work.state old.bases.all.items p.answer new.work.state
        new.bases.all.items p.does) p.filters p.settled

    -- ---- a close
    module _ (h : HandleId) (cleaned : Reply) (mid : Parts F B) (p : Performed (Request.OnHandle h FileRequest.Cleanup) old cleaned mid) where
      abbrev Closes : Status → Answer → Parts F B → Type 0
      Closes st answer new =
          DoesClose own.pre_may own.post_may (BasesCarry below.folder below.faults) (numbered old.filters) k st
          (Request.OnHandle h FileRequest.Close) mid.work.state mid.bases.all.items p.answer answer new.work.state new.bases.all.items

      -- after its cleanup, or where that began before
      closes_after : (st : Status) → is_over st ≡ true → (answer : Answer) (new : Parts F B)
          → DoesTidily own.pre_may own.post_may (BasesCarry below.folder below.faults) (numbered old.filters) k
          (Request.OnHandle h FileRequest.Close) mid.work.state mid.bases.all.items answer new.work.state new.bases.all.items
          → Closes st answer new
      closes_after Status.Success over answer new does = does
      closes_after Status.WrongStep over answer new does = does
      closes_after _ over answer new does = cc

      -- else its cleanup's refusal is the answer
      stops_at : (st : Status) → is_over st ≡ false → Closes st p.answer mid
      stops_at Status.Success over = cc
      stops_at Status.WrongStep over = cc
      stops_at _ over = (refl, refl, refl)

      closed : (said : Reply) (new : Parts F B) (answer : Answer) → said ≡ replied answer → Closes p.answer.status answer new
          → new.filters ≡ old.filters → new.work.resumed.items.items ≡ [] → Answered (Request.OnHandle h FileRequest.Close) old said new
      closed said new answer says does filters settled =
          answers (Request.OnHandle h FileRequest.Close) said new answer says (mid.work.state, mid.bases.all.items, p.answer, p.does, does) filters settled

      -- what was answered says which
      says_status : goes_on cleaned ≡ is_over p.answer.status
      says_status = ap goes_on p.says

      pub answers_close : goes_on cleaned ≡ true → (said : Reply) (new : Parts F B) → Performed (Request.OnHandle h FileRequest.Close) mid said new
          → Answered (Request.OnHandle h FileRequest.Close) old said new
      answers_close over said new q =
          let does = subst (λ (fs : Filters F). DoesTidily own.pre_may own.post_may (BasesCarry below.folder below.faults)
          (numbered fs) k (Request.OnHandle h FileRequest.Close) mid.work.state mid.bases.all.items q.answer
          new.work.state new.bases.all.items) p.filters q.does in
          closed said new q.answer q.says (closes_after p.answer.status (sym says_status ∙ over) q.answer new does) (q.filters ∙ p.filters) q.settled

      pub answers_cleanup : goes_on cleaned ≡ false → Answered (Request.OnHandle h FileRequest.Close) old cleaned mid
      answers_cleanup stops = closed cleaned mid p.answer p.says (stops_at p.answer.status (sym says_status ∙ stops)) p.filters p.settled

  -- ---- a close, as it is made
  closes_by : (old mid then new : Parts F B) (cleaned said : Reply) (h : HandleId)
      → (goes_on cleaned ≡ false → (said ≡ cleaned) × (then ≡ mid))
      → (Ready mid → goes_on cleaned ≡ true → Performed (Request.OnHandle h FileRequest.Close) mid said then)
      → (then.work.resumed.items.items ≡ [] → Tidies then.work.state new.work.state)
      → (then.work.resumed.items.items ≡ [] → (new.bases ≡ then.bases) × (new.filters ≡ then.filters) × (new.work.resumed.items.items ≡ []))
      → Ready mid → goes_on cleaned ≡ true → Performed (Request.OnHandle h FileRequest.Close) mid said new
  closes_by old mid then new cleaned said h stops does tidies settles ready over =
      performs_settled own below k mid then new said tidies settles (Request.OnHandle h FileRequest.Close) (does ready over)

  -- once its cleanup was carried to its answer
  module _ (o : OpId) (h : HandleId) (old mid then new : Parts F B) (cleaned said : Reply) (runs : RunsIn own below k o old cleaned mid)
      (stops : goes_on cleaned ≡ false → (said ≡ cleaned) × (then ≡ mid)) (does : Ready mid → goes_on cleaned ≡ true
      → Performed (Request.OnHandle h FileRequest.Close) mid said then)
      (tidies : then.work.resumed.items.items ≡ [] → Tidies then.work.state new.work.state)
      (settles : then.work.resumed.items.items ≡ [] → (new.bases ≡ then.bases) × (new.filters ≡ then.filters) × (new.work.resumed.items.items ≡ [])) where
    pub closes_in : ClosesIn own below k o h old said new
    closes_in = record {
      cleaned = cleaned;
      mid = mid;
      runs = runs;
      stops = λ ends.
          let (says, same) = stops ends in
          let none : then.work.resumed.items.items ≡ [] = ap (λ (m : Parts F B). m.work.resumed.items.items) same ∙ runs.settled in
          let s = settles none in (
            says,
            subst (λ (m : Parts F B). Tidies m.work.state new.work.state) same (tidies none),
            s.0 ∙ ap (λ (m : Parts F B). m.bases) same,
            s.1 ∙ ap (λ (m : Parts F B). m.filters) same,
            s.2,
          );
      closes = closes_by old mid then new cleaned said h stops does tidies settles;
    }

  module _ (old : Parts F B) (ready : Ready old) (sound : IsSound old.work.state) (h : HandleId) where
    abbrev cleanup_of : Request
    cleanup_of = Request.OnHandle h FileRequest.Cleanup

    abbrev close_of : Request
    close_of = Request.OnHandle h FileRequest.Close

    -- a close whose cleanup began
    pub answers_closed : (o : OpId) (begun : World) → Begins old.work.state cleanup_of (Ok o) begun → (said : Reply) (new : Parts F B)
        → (ArePlainFilters own.pre_may own.post_may own.is_quiet (numbered old.filters) → IsBegun k o begun → old.work.resumed.items.items ≡ []
        → ClosesIn own below k o h (record old { work = record old.work { state = begun } }) said new) → Answered close_of old said new
    answers_closed o begun begins said new closes_it =
        let began : IsBegun k o begun = record {
          what = cleanup_of;
          before = old.work.state;
          sound = sound;
          rests = ready.rests;
          calm =
              ready.calm;
          begins = begins;
        } in
        let x = closes_it ready.plain began ready.settled in
        let p = performs_begun own below k cleanup_of old ready begun o x.cleaned x.mid sound begins (λ plain is settled. x.runs) in
        by_cleanup (goes_on x.cleaned) x refl p
      where
        by_cleanup : (b : Bool) (x : ClosesIn own below k o h (record old { work = record old.work { state = begun } }) said new) → goes_on x.cleaned ≡ b
            → Performed cleanup_of old x.cleaned x.mid → Answered close_of old said new
        by_cleanup true x over p = answers_close old ready sound h x.cleaned x.mid p over said new
            (x.closes (ready_after old ready sound cleanup_of x.cleaned x.mid p) over)
        by_cleanup false x ends p =
            let s = x.stops ends in
            let q = performs_settled own below k old x.mid new x.cleaned (λ none. s.1) (λ none. (s.2, s.3, s.4)) cleanup_of p in
            subst (λ (r : Reply). Answered close_of old r new) (sym s.0) (answers_cleanup old ready sound h x.cleaned new q ends)

    -- one whose cleanup was refused
    pub answers_refused : (why : Status) (begun : World) → Begins old.work.state cleanup_of (Err why) begun → (said : Reply) (new : Parts F B)
        → (Ready (record old { work = record old.work { state = begun } }) → is_over why ≡ true
        → Performed close_of (record old { work = record old.work { state = begun } }) said new)
        → (most limit : ℕ)
        → ClosesRefused own below k most limit (is_over why) why h (record old { work = record old.work { state = begun } }) said new
        → Answered close_of old said new
    answers_refused why begun begins said new does most limit closes = by_status (is_over why) refl closes
      where
        now : Parts F B
        now = record old { work = record old.work { state = begun } }

        p : Performed cleanup_of old (replied (bare_answer why)) now
        p = performs_refused own below k cleanup_of old ready begun why begins

        by_status : (b : Bool) → is_over why ≡ b → ClosesRefused own below k most limit b why h now said new → Answered close_of old said new
        by_status true over closes =
            answers_close old ready sound h (replied (bare_answer why)) now p over said new
            (does (ready_after old ready sound cleanup_of (replied (bare_answer why)) now p) over)
        by_status false ends closes =
            let a = answers_cleanup old ready sound h (replied (bare_answer why)) now p ends in
            subst (λ (m : Parts F B). Answered close_of old said m) (sym closes.1) (subst (λ (r : Reply). Answered close_of old r now) (sym closes.0) a)
