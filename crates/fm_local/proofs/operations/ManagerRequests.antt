-- A request that a manager carries to its reply, by what its functions promise.
use Rattle.fm_filter.specs.declared.minifilter.Minifilter as filter
use Rattle.fm_base.specs.declared.base.Base as base
use Rattle.fm_local.proofs.Words.{[], ◌≡◌, Answer, BaseCall, Completion, Data, Err, Folder, List, Parts, Ok, OpId, Option, PostVerdict}
use Rattle.fm_local.proofs.Words.{PreVerdict, Result, Status, WorkerId, World, bare_answer, ℕ, ◌∙◌, ap, cond, refl, subst, sym, Reply, Request}
use Rattle.fm_local.proofs.Words.{step_keeps, Begins, Collects, IsSound, Step, StepReply, ArePlainFilters, IsBegun, IsReady, replied, BasesCarry}
use Rattle.fm_local.proofs.Words.{subject_of, numbered, Tidies, Carries, Turn}
use Rattle.fm_operations.specs.Table.{collect_reply}
use Rattle.fm_local.specs.Actions.{CarriesIn, ResumesNone, RunsIn, reply_of, PerformsIn}
use Rattle.fm_local.proofs.operations.Single.{told_alone}
use Rattle.fm_local.proofs.operations.FoldAnswer.{carried}
use Rattle.fm_local.proofs.operations.Beginnings.{start, first, going}
use Rattle.fm_local.proofs.operations.RequestFold.{collectable}
use Rattle.fm_local.proofs.operations.ManagerTurns.{Keeps}
use Rattle.fm_local.proofs.instances.Tidiness.{tidies_both, tidies_none}
use Rattle.fm_local.specs.Requests.{DoesTidily}

module _ {F D : Type 0} (pre : F → Data → PreVerdict → Data → Type 0) (post : F → Data → Completion → PostVerdict → Data → Type 0) (is_quiet : F → Type 0)
    (carries : D → BaseCall → Answer → D → Type 0) (filters : ℕ → Option F) (k : WorkerId)
    (plain : ArePlainFilters pre post is_quiet filters) (o : OpId) (begun : World)
    (began : IsBegun k o begun) (n : ℕ) (d : D) (done : World) (e : D) (carries_it : Carries pre post carries filters k o n begun d done e) where
  -- an operation that is carried to its end has an answer to be taken
  pub answer_there : (collected : Result Answer Status) (new : World) → Collects done o collected new → (answer : Answer) × (collected ≡ Ok answer)
  unfolding Collects
  answer_there collected new h =
      let here = began in
      let r = first k o here.what here.before here.rests begun here.begins in
      let ended = carried pre post is_quiet carries filters plain k o (subject_of r) here.before.stack here.calm n r begun d
      (going k o here.what here.before here.rests begun here.begins)
      (step_keeps here.before (Step.Begin here.what) (StepReply.Operation (Ok o)) begun here.begins here.sound)
      (start k o here.what here.before here.rests begun here.begins).stack done e carries_it in (
        ended.last.answer,
        h.0 ∙ told_alone o ended.last done.flow ended.alone collect_reply (Err Status.WrongStep)
            ∙ ap (λ b. cond b (Ok ended.last.answer) (Err Status.WrongStep)) (collectable ended.last ended.ascends ended.owes ended.uncollected),
      )

module _ {F B : Type 0} (own : filter.Ghosts F) (below : base.Ghosts B) (k : WorkerId) where
  -- what a reply is taken from
  abbrev Replies : OpId → Parts F B → Reply → Parts F B → Type 0
  Replies o old said new = (collected : Result Answer Status) × Collects old.work.state o collected new.work.state × (said ≡ reply_of collected)

  -- an operation is carried to its end, and its answer is taken
  module _ (o : OpId) (old now new : Parts F B) (ended : Turn) (said : Reply) (carried : CarriesIn own below k o old ended now)
      (calm : ResumesNone own below k old now) (kept : Keeps own below k o old now) (replies : ended ≡ Turn.Done → Replies o now said new)
      (keeps : new ≡ record now { work = record now.work { state = new.work.state }; trace = new.trace }) where
    pub runs : ArePlainFilters own.pre_may own.post_may own.is_quiet (numbered old.filters) → IsBegun k o old.work.state
        → old.work.resumed.items.items ≡ [] → RunsIn own below k o old said new
    runs plain began settled =
        let c = carried plain began in
        let r = replies c.0 in
        let bases : now.bases.all.items ≡ new.bases.all.items = ap (λ bs. bs.all.items) (sym (ap (λ (m : Parts F B). m.bases) keeps)) in
        let there = answer_there own.pre_may own.post_may own.is_quiet (BasesCarry below.folder below.faults)
        (numbered old.filters) k plain o old.work.state began c.1.0 old.bases.all.items now.work.state now.bases.all.items c.1.1
        r.0 new.work.state r.1 in
        record {
          answer = there.0;
          says = r.2 ∙ ap reply_of there.1;
          turns = c.1.0;
          done = now.work.state;
          mid = new.work.state;
          carries = subst (λ (bs : List B). Carries own.pre_may own.post_may (BasesCarry below.folder below.faults)
              (numbered old.filters) k o c.1.0 old.work.state old.bases.all.items now.work.state bs) bases c.1.1;
          collects = subst (λ (a : Result Answer Status). Collects now.work.state o a new.work.state) there.1 r.1;
          tidies = tidies_none new.work.state;
          filters = ap (λ (m : Parts F B). m.filters) keeps ∙ ap (λ (m : Parts F B). m.filters) kept;
          settled = ap (λ (m : Parts F B). m.work.resumed.items.items) keeps ∙ ap (λ q. q.items.items) (calm plain) ∙ settled;
        }

  -- behind that nothing waits, and what is due is cleaned up
  module _ (old mid new : Parts F B) (said : Reply) (tidies : mid.work.resumed.items.items ≡ [] → Tidies mid.work.state new.work.state)
      (settles : mid.work.resumed.items.items ≡ [] → (new.bases ≡ mid.bases) × (new.filters ≡ mid.filters) × (new.work.resumed.items.items ≡ [])) where
    pub runs_settled : (o : OpId) → RunsIn own below k o old said mid → RunsIn own below k o old said new
    runs_settled o r =
        let s = settles r.settled in
        record {
          answer = r.answer;
          says = r.says;
          turns = r.turns;
          done = r.done;
          mid = r.mid;
          carries = subst (λ (bs : List B). Carries own.pre_may own.post_may (BasesCarry below.folder below.faults)
              (numbered old.filters) k o r.turns old.work.state old.bases.all.items r.done bs) (sym (ap (λ bs. bs.all.items) s.0))
              r.carries;
          collects = r.collects;
          tidies = tidies_both r.mid mid.work.state new.work.state r.tidies (tidies r.settled);
          filters = s.1 ∙ r.filters;
          settled = s.2;
        }

    pub performs_settled : (what : Request) → PerformsIn own below k what old said mid → PerformsIn own below k what old said new
    performs_settled what p =
        let s = settles p.settled in
        record {
          answer = p.answer;
          says = p.says;
          does = subst (λ (bs : List B). DoesTidily own.pre_may own.post_may (BasesCarry below.folder below.faults)
              (numbered old.filters) k what old.work.state old.bases.all.items p.answer new.work.state bs)
              (sym (ap (λ bs. bs.all.items) s.0))
              (p.does.0, p.does.1, tidies_both p.does.0 mid.work.state new.work.state p.does.2 (tidies p.settled));
          filters = s.1 ∙ p.filters;
          settled = s.2;
        }

  module _ (what : Request) (old : Parts F B) (ready : IsReady own below k old) (begun : World) where
    abbrev now : Parts F B
    now = record old { work = record old.work { state = begun } }

    -- a request that begins
    pub performs_begun : (o : OpId) (said : Reply) (new : Parts F B) → IsSound old.work.state → Begins old.work.state what (Ok o) begun
        → (ArePlainFilters own.pre_may own.post_may own.is_quiet (numbered old.filters) → IsBegun k o begun
        → old.work.resumed.items.items ≡ [] → RunsIn own below k o now said new)
        → PerformsIn own below k what old said new
    performs_begun o said new sound begins runs_it =
        let began : IsBegun k o begun = record {
          what = what;
          before = old.work.state;
          sound = sound;
          rests = ready.rests;
          calm =
              ready.calm;
          begins = begins;
        } in
        let r = runs_it ready.plain began ready.settled in
        record {
          answer = r.answer;
          says = r.says;
          does = (r.mid, (Ok o, begun, begins, (r.turns, r.done, r.carries, r.collects)), r.tidies);
          filters = r.filters;
          settled = r.settled;
        }

    -- a request that can't begin
    pub performs_refused : (why : Status) → Begins old.work.state what (Err why) begun → PerformsIn own below k what old (replied (bare_answer why)) now
    performs_refused why begins = record {
      answer = bare_answer why;
      says = refl;
      does = (begun, (Err why, begun, begins, (refl, refl, refl)), tidies_none begun);
      filters = refl;
      settled = ready.settled;
    }
