-- A request that is carried to its end is answered as its fold says.
use Rattle.fm_local.proofs.Words.{[], ◌∷◌, ◌≡◌, Answer, BaseCall, Bool, Completion, Data, Err, FlowRecord, List, None, Ok, OpId, Option, Params}
use Rattle.fm_local.proofs.Words.{PostVerdict, PreVerdict, Result, Some, Status, WorkerId, World, bare_answer, false, slice_get, suc, true, worker_at}
use Rattle.fm_local.proofs.Words.{ℕ, ◌&&◌, ◌∙◌, ap, ap₂, arith, cond, count_by, inl, inr, not, refl, subst, sym, nat_tests, same_Some, list_any}
use Rattle.fm_local.proofs.Words.{params_of, Request, is_number, Ascending, step_keeps, after_begin, begin_refused, begun_at, begun_on, Begins}
use Rattle.fm_local.proofs.Words.{Collects, FileTable, handle_at, stream_at, IsSound, Entry, FlowTable, HandleId, changed, owed, FileHandle}
use Rattle.fm_local.proofs.Words.{FileStream, Step, StepReply, Place, IsPlainFilter, Under, subject_of, IsAtRest, NoneStops, under, Carries}
use Rattle.std.proofs.lemmas.Bool.{cases_eq}
use Rattle.fm_types.proofs.Firsts.{count-cons}
use Rattle.fm_types.specs.Refusals.{IsRefusalOrMemory}
use Rattle.fm_operations.specs.Counts.{drain_opens, is_running_drain}
use Rattle.fm_operations.specs.Steps.{done_at}
use Rattle.fm_operations.specs.Table.{collect_reply, collected_of, collected_in, is_collectable, removed, marked, without_first}
use Rattle.fm_operations.specs.declared.entry.Entry.TheVariants.{Pre, Base, Post, Drain}
use Rattle.fm_world.specs.Headline.{is_in_drain}
use Rattle.fm_local.specs.Requests.{at_rest, FoldsAlone, PerformsBy, DoesBegun, IsAnswered, CarriedIsFold}
use Rattle.fm_local.proofs.operations.Single.{Alone, found_alone, told_alone}
use Rattle.fm_local.proofs.operations.Beginnings as begin
use Rattle.fm_local.proofs.operations.Beginnings.{Started}
use Rattle.fm_local.proofs.operations.OtherWorkers.{KeepsRest, carries_beside}
use Rattle.fm_local.proofs.operations.FoldAnswer.{Ended, carried}
use Rattle.fm_local.proofs.operations.TurnFolds.{IsGoing}

-- ---- it begins

module _ (old : World) (rest : old.flow.operations ≡ []) where
  -- beginning looks at no more than what lies below and the next number
  flow_is : old.flow ≡ record { operations = []; next = old.flow.next }
  flow_is = ap (λ rs. record { operations = rs; next = old.flow.next }) rest

  refused_same : {D : Type 0} (d : D) (what : Request) → begin_refused old what ≡ begin_refused (at_rest old.stack old.flow.next (under d old)) what
  refused_same d (Request.List v) = ap (λ (t : FlowTable). begin_refused (record old { flow = t }) (Request.List v)) flow_is
  refused_same d (Request.OnVolume v m n) = ap (λ (t : FlowTable). begin_refused (record old { flow = t }) (Request.OnVolume v m n)) flow_is
  refused_same d (Request.Create v path mode) = ap (λ (t : FlowTable). begin_refused (record old { flow = t }) (Request.Create v path mode)) flow_is
  refused_same d (Request.OnHandle h asked) = ap (λ (t : FlowTable). begin_refused (record old { flow = t }) (Request.OnHandle h asked)) flow_is

  module _ {D : Type 0} (d : D) where
    abbrev resting : World
    resting = at_rest old.stack old.flow.next (under d old)

    abbrev emptied : World
    emptied = record old { flow = record { operations = []; next = old.flow.next } }

    on_stream : (h : HandleId) (p : Params) (x : FileHandle) (m : Option FileStream)
        → ((begun_on emptied h p x m).flow.operations ≡ (begun_on resting h p x m).flow.operations)
        × ((begun_on emptied h p x m).files ≡ (begun_on resting h p x m).files)
    on_stream h p x None = (refl, refl)
    on_stream h p x (Some y) = (refl, refl)

    on_found : (h : HandleId) (p : Params) (m : Option FileHandle)
        → ((begun_at emptied h p m).flow.operations ≡ (begun_at resting h p m).flow.operations)
        × ((begun_at emptied h p m).files ≡ (begun_at resting h p m).files)
    on_found h p None = (refl, refl)
    on_found h p (Some x) = on_stream h p x (stream_at x.stream old.files)

    begun_same : (what : Request)
        → ((after_begin emptied what).flow.operations ≡ (after_begin resting what).flow.operations)
        × ((after_begin emptied what).files ≡ (after_begin resting what).files)
    begun_same (Request.List v) = (refl, refl)
    begun_same (Request.OnVolume v m n) = (refl, refl)
    begun_same (Request.Create v path mode) = (refl, refl)
    begun_same (Request.OnHandle h asked) = on_found h (params_of asked) (handle_at h old.files)

    begun_so : (what : Request)
        → ((after_begin old what).flow.operations ≡ (after_begin resting what).flow.operations)
        × ((after_begin old what).files ≡ (after_begin resting what).files)
    begun_so what = (
      ap (λ (t : FlowTable). (after_begin (record old { flow = t }) what).flow.operations) flow_is ∙ (begun_same what).0,
      ap (λ (t : FlowTable). (after_begin (record old { flow = t }) what).files) flow_is ∙ (begun_same what).1,
    )

-- ---- it ends

-- where no drain is open, none runs
none_runs : (es : List Entry) → ((i : ℕ) → drain_opens i es ≡ 0) → list_any is_running_drain es ≡ false
none_runs [] none = refl
none_runs (Drain visit ∷ es) none =
    let here = none visit.instance.0 in
    let still : visit.is_running ≡ false = grind (arith, nat_tests, here) in
    rw still (none_runs es (λ i. omega (arith, none i)))
none_runs (Pre visit ∷ es) none = none_runs es (λ i. omega (arith, none i))
none_runs (Base why information ∷ es) none = none_runs es (λ i. omega (arith, none i))
none_runs (Post visit ∷ es) none = none_runs es (λ i. omega (arith, none i))

-- idle workers are counted by no test that an idle one doesn't pass
none_counted : (p : Place → Bool) → p Place.Idle ≡ false → (ws : List Place)
    → ((j : ℕ) (a : Place) → slice_get ws j ≡ Some a → a ≡ Place.Idle) → count_by p ws ≡ 0
none_counted p idle [] all = refl
none_counted p idle (a ∷ ws) all =
    let here : p a ≡ false = ap p (all 0 a refl) ∙ idle in
    let one : ◌≡◌ {A = ℕ} (cond (p a) 1 0) 0 = ap (λ b. cond b 1 0) here in
    omega (arith, count-cons p a ws, one, none_counted p idle ws (λ j b at. all (suc j) b at))

-- the answer of a done operation can be taken, once
pub collectable : (last : FlowRecord) → last.stage ≡ Ascending → owed last.entries ≡ [] → last.collected ≡ false → is_collectable last ≡ true
collectable last ascends owes uncollected = ap₂ (λ b c. not b && c) uncollected (ap₂ done_at ascends owes)

-- a done operation, alone, whose answer is taken, is gone
module _ (o : OpId) (last : FlowRecord) (done : World) (alone : Alone o last done.flow) (ascends : last.stage ≡ Ascending)
    (owes : owed last.entries ≡ []) (uncollected : last.collected ≡ false)
    (calm : list_any is_running_drain last.entries ≡ false) where
  removed_is : collected_of o done.flow ≡ removed o done.flow
  removed_is =
      ap (collected_in o done.flow) (found_alone o last done.flow alone)
      ∙ ap (λ b. cond b (cond (list_any is_running_drain last.entries) (changed o marked done.flow) (removed o done.flow)) done.flow)
      (collectable last ascends owes uncollected)
      ∙ ap (λ b. cond b (changed o marked done.flow) (removed o done.flow)) calm

  all_gone : (removed o done.flow).operations ≡ []
  all_gone = ap (without_first (is_number o)) alone.operations ∙ ap (λ b. cond b [] (last ∷ [])) alone.number

  pub answer_is : (answer : Answer) (new : World) → Collects done o (Ok answer) new → answer ≡ last.answer
  unfolding Collects
  answer_is answer new h =
      let is : Ok answer ≡ Ok last.answer =
      h.0 ∙ told_alone o last done.flow alone collect_reply (Err Status.WrongStep)
      ∙ ap (λ b. cond b (Ok last.answer) (Err Status.WrongStep)) (collectable last ascends owes uncollected) in
      cc

  pub flow_left : (answer : Answer) (new : World) → Collects done o (Ok answer) new → new ≡ record done { flow = removed o done.flow }
  unfolding Collects
  flow_left answer new h = h.1 ∙ ap (λ t. record done { flow = t }) removed_is

  pub rests_after : (answer : Answer) (new : World) → Collects done o (Ok answer) new → new.flow.operations ≡ []
  rests_after answer new h = ap (λ (w : World). w.flow.operations) (flow_left answer new h) ∙ all_gone

module _ {F D : Type 0} (pre_may : F → Data → PreVerdict → Data → Type 0) (post_may : F → Data → Completion → PostVerdict → Data
    → Type 0) (is_quiet : F → Type 0)
    (carries : D → BaseCall → Answer → D → Type 0) (filters : ℕ → Option F) (k : WorkerId) (plain : (n : ℕ) (f : F)
    → filters n ≡ Some f → IsPlainFilter pre_may post_may is_quiet f) where
  module _ (what : Request) (old : World) (d : D) (sound : IsSound old) (rest : IsAtRest k old) (quiet : NoneStops old.stack) where
    abbrev By : Option Status → Answer → Under D → ℕ → Type 0
    By m answer new after = PerformsBy pre_may post_may carries filters old.stack m old.flow.next what (under d old) answer new after

    refusal_is : begin_refused old what ≡ begin_refused (at_rest old.stack old.flow.next (under d old)) what
    refusal_is = refused_same old rest.operations d what

    -- it can't begin
    refused_by : (m : Option Status) (why : Status) → IsRefusalOrMemory m why → By m (bare_answer why) (under d old) old.flow.next
    refused_by (Some refusal) why is = (ap bare_answer is, refl, refl)
    refused_by None why is = inl (ap bare_answer is, refl, refl)

    refused : (why : Status) (begun : World) (answer : Answer) (new : World) (e : D) → Begins old what (Err why) begun
        → DoesBegun pre_may post_may carries filters k (Err why) begun d answer new e
        → IsAnswered pre_may post_may carries filters k what old d answer new e
    unfolding Begins
    refused why begun answer new e h does =
        let same : new ≡ old = does.1 ∙ h.1 in
        let ends : under d old ≡ under e new = ap₂ (λ dev fs. record { device = dev; files = fs }) (sym does.2) (ap (λ (w : World). w.files) (sym same)) in
        record {
          performs = subst (λ (m : Option Status). By m answer (under e new) new.flow.next) refusal_is
              (subst (λ (a : Answer). By (begin_refused old what) a (under e new) new.flow.next) (sym does.0)
              (subst (λ (u : Under D). By (begin_refused old what) (bare_answer why) u new.flow.next) ends
              (subst (λ (w : World). By (begin_refused old what) (bare_answer why) (under d old) w.flow.next) (sym same)
              (refused_by (begin_refused old what) why h.0))));
          rests = subst (IsAtRest k) (sym same) rest;
          sound = subst IsSound (sym same) sound;
          stays = ap (λ (w : World). w.stack) same;
        }

    -- it begins, and is carried to its end
    module _ (o : OpId) (begun : World) (n : ℕ) (done : World) (answer : Answer) (new : World) (e : D) (begins : Begins old what (Ok o) begun)
        (carries_it : Carries pre_may post_may carries filters k o n begun d done e) (collects : Collects done o (Ok answer) new) where
      begun_parts : (begin_refused old what ≡ None) × (o.0 ≡ old.flow.next) × (begun ≡ after_begin old what)
      begun_parts = begin.begun_parts k o what old rest begun begins

      abbrev start : Started old begun
      start = begin.start k o what old rest begun begins

      abbrev first : FlowRecord
      first = begin.first k o what old rest begun begins

      going : IsGoing k o (subject_of first) first begun
      going = begin.going k o what old rest begun begins

      ended : Ended pre_may post_may is_quiet carries filters plain k o (subject_of first) old.stack quiet first.volume first.born
          first.operation first begun d done e
      ended = carried pre_may post_may is_quiet carries filters plain k o (subject_of first) old.stack quiet n first begun d going
          (step_keeps old (Step.Begin what) (StepReply.Operation (Ok o)) begun begins sound) start.stack done e carries_it

      keeps : KeepsRest k begun done
      keeps = carries_beside k pre_may post_may carries filters o n begun d done e carries_it

      all_idle : (j : ℕ) (a : Place) → slice_get done.workers j ≡ Some a → a ≡ Place.Idle
      all_idle j a at = elim (cases_eq j k.0) [
        | inl own ↦ same_Some a Place.Idle (sym at ∙ ap (slice_get done.workers) own ∙ ended.idle)
        | inr other ↦ rest.all j a (ap (λ ws. slice_get ws j) (sym start.workers) ∙ sym (keeps.beside j other) ∙ at)
      ]

      calm : list_any is_running_drain ended.last.entries ≡ false
      calm = none_runs ended.last.entries (λ i.
          sym (told_alone o ended.last done.flow ended.alone (λ r. drain_opens i r.entries) 0) ∙ sym (ended.sound.under_way.drains o i)
          ∙ none_counted (is_in_drain o i) refl done.workers all_idle)

      gone : new ≡ record done { flow = removed o done.flow }
      gone = flow_left o ended.last done ended.alone ended.ascends ended.owes ended.uncollected calm answer new collects

      performed : IsAnswered pre_may post_may carries filters k what old d answer new e
      performed =
          let same = begun_so old rest.operations d what in
          let says : answer ≡ ended.last.answer = answer_is o ended.last done ended.alone ended.ascends ended.owes ended.uncollected calm answer new collects in
          let ops : (after_begin (at_rest old.stack old.flow.next (under d old)) what).flow.operations ≡ first ∷ [] =
          sym same.0 ∙ ap (λ (w : World). w.flow.operations) (sym begun_parts.2) ∙ start.operations in
          let files : (after_begin (at_rest old.stack old.flow.next (under d old)) what).files ≡ begun.files = sym same.1
          ∙ ap (λ (w : World). w.files) (sym begun_parts.2) in
          let Folded : Answer → Under D → Type 0 = λ a u. FoldsAlone pre_may post_may carries filters old.stack (first ∷ []) (under d begun) a u in
          let folds : Folded answer (under e new) =
          subst (λ (a : Answer). Folded a (under e new)) (sym says)
          (subst (λ (fs : FileTable). Folded ended.last.answer (record { device = e; files = fs }))
          (ap (λ (w : World). w.files) (sym gone)) ended.left) in
          let whole : FoldsAlone pre_may post_may carries filters old.stack (after_begin (at_rest old.stack old.flow.next (under d old)) what).flow.operations
          (record { device = d; files = (after_begin (at_rest old.stack old.flow.next (under d old)) what).files }) answer (under e new) =
          subst (λ (rs : List FlowRecord). FoldsAlone pre_may post_may carries filters old.stack rs
          (record { device = d; files = (after_begin (at_rest old.stack old.flow.next (under d old)) what).files }) answer
          (under e new)) (sym ops)
          (subst (λ (fs : FileTable). FoldsAlone pre_may post_may carries filters old.stack (first ∷ [])
          (record { device = d; files = fs }) answer (under e new)) (sym files) folds) in
          record {
            performs = subst (λ (m : Option Status). By m answer (under e new) new.flow.next) (sym begun_parts.0 ∙ refusal_is)
                (inr (whole, ap (λ (w : World). w.flow.next) gone ∙ keeps.next ∙ start.next));
            rests = record {
              operations = rests_after o ended.last done ended.alone ended.ascends ended.owes ended.uncollected calm answer new collects;
              idle = ap (λ (w : World). worker_at w.workers k) gone ∙ ended.idle;
              all = λ j a at. all_idle j a (ap (λ (w : World). slice_get w.workers j) (sym gone) ∙ at);
            };
            sound = step_keeps done (Step.Collect o) (StepReply.Answer (Ok answer)) new collects ended.sound;
            stays = ap (λ (w : World). w.stack) gone ∙ ended.stays;
          }

pub answered : {F D : Type 0} (pre : F → Data → PreVerdict → Data → Type 0) (post : F → Data → Completion → PostVerdict → Data → Type 0) (is_quiet : F → Type 0)
    (carries : D → BaseCall → Answer → D → Type 0) → CarriedIsFold pre post is_quiet carries
answered pre post is_quiet carries filters k what old d answer new e plain sound rest quiet h = by_result h.0 h.2 h.3
  where
    by_result : (result : Result OpId Status) → Begins old what result h.1
        → DoesBegun pre post carries filters k result h.1 d answer new e → IsAnswered pre post carries filters k what old d answer new e
    by_result (Err why) begins does = refused pre post is_quiet carries filters k plain what old d sound rest quiet why h.1 answer new e begins does
    by_result (Ok o) begins does = performed pre post is_quiet carries filters k plain what old d sound rest quiet o h.1 does.0 does.1
        answer new e begins does.2 does.3
