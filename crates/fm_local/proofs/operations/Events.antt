-- What each event of an operation leaves of the World, where it is the only one.
use Rattle.fm_local.proofs.Words.{◌≡◌, Answer, BaseCall, Bool, Data, Err, FlowAction, FlowRecord, InstanceId, List, Ok, OpId, Option, PostVerdict}
use Rattle.fm_local.proofs.Words.{PreVerdict, Result, Some, StackWorld, Status, WorkerId, World, false, slice_get, true, worker_at, ◌&&◌, ◌==◌, ◌∙◌}
use Rattle.fm_local.proofs.Words.{ap, refl, subst, sym, data_fits, base_fits, base_returned_of, next_of, post_returned_of, pre_returned_of}
use Rattle.fm_local.proofs.Words.{verdict_counted, Below, BaseReturnsAt, NextsAt, PostReturnsAt, PreReturnsAt, PreReturnsOver, ReturnsFrom, Unless}
use Rattle.fm_local.proofs.Words.{base_returned, drains_at, has_post, state_at, BaseReturns, Nexts, PostReturns, PreReturns, FileTable, LosesLinks}
use Rattle.fm_local.proofs.Words.{CtxId, Descending, FlowTable, PreState, changed, is_create, after_next, is_idle, put, Place}
use Rattle.std.proofs.lemmas.Option.{slice_get_within}
use Rattle.fm_types.proofs.Lists.{slice_get-set_same}
use Rattle.fm_operations.proofs.Next.{next_stays}
use Rattle.fm_ctx.specs.Bags.{hand_of}
use Rattle.fm_world.specs.Events.{FindsBelow, LiesBelow, AnswersBelow, LosesByKnown, drains_next, flow_after_next, filed_next, filed_record, of_hand}
use Rattle.fm_world.specs.Events.{held_context, state_given, base_step, is_created_on}
use Rattle.fm_world.specs.Files.{after_base, after_pre}
use Rattle.fm_filter.specs.Plain.{IsPlainPre}
use Rattle.fm_local.proofs.operations.Single.{Alone, found_alone, told_alone, changed_alone, none_created}

-- contexts may differ, and what was made of them alone
pub record SameBut (old new : World) : Type 0 where
  pub stack : new.stack ≡ old.stack
  pub flow : new.flow ≡ old.flow
  pub workers : new.workers ≡ old.workers
  pub files : new.files ≡ old.files

pub by_links : (old new : World) → LosesLinks old new → SameBut old new
by_links old new h = record {
  stack = ap (λ (w : World). w.stack) h.1;
  flow = ap (λ (w : World). w.flow) h.1;
  workers = ap (λ (w : World). w.workers) h.1;
  files = ap (λ (w : World). w.files) h.1;
}

by_same : (old new : World) → new ≡ old → SameBut old new
by_same old new h = record {
  stack = ap (λ (w : World). w.stack) h;
  flow = ap (λ (w : World). w.flow) h;
  workers = ap (λ (w : World). w.workers) h;
  files = ap (λ (w : World). w.files) h;
}

pub lost : (reply : Result FlowAction Status) (lies : Below) (old new : World) → LosesByKnown reply lies old new → SameBut old new
lost (Ok FlowAction.Moved) (Below.Known why) old new h = by_links old new h
lost reply lies old new h = by_same old new h

-- a worker that was there is where it was put
pub placed : (workers : List Place) (k : WorkerId) (was is : Place) → worker_at workers k ≡ Some was → worker_at (put workers k is) k ≡ Some is
placed workers k was is there = slice_get-set_same workers k.0 is (slice_get_within workers k.0 was there)

-- a verdict that sends no context along counts as it was given
plain_of_hand : (hand : List CtxId) (given : PreVerdict) → IsPlainPre given → of_hand hand given ≡ given
plain_of_hand hand (PreVerdict.WithCallback completion) plain =
    ap (λ c. PreVerdict.WithCallback (record completion { context = c })) (ap (held_context hand) plain ∙ sym plain)
plain_of_hand hand (PreVerdict.Synchronize completion) plain =
    ap (λ c. PreVerdict.Synchronize (record completion { context = c })) (ap (held_context hand) plain ∙ sym plain)
plain_of_hand hand PreVerdict.NoCallback plain = refl
plain_of_hand hand (PreVerdict.Complete status) plain = refl
plain_of_hand hand PreVerdict.Pending plain = refl

-- ---- `next`

pub record Nexted (old : World) (k : WorkerId) (o : OpId) (r : FlowRecord) (reply : Result FlowAction Status) (new : World) : Type 0 where
  pub lies : Below
  pub finds : r.stage ≡ Descending → LiesBelow old.stack r lies × AnswersBelow old.files old.flow r lies
  pub said : reply ≡ (next_of k lies false r).reply
  pub alone : Alone o (next_of k lies false r).after new.flow
  pub workers : new.workers ≡ after_next old.workers k o reply
  pub stack : new.stack ≡ old.stack
  pub files : new.files ≡ filed_next old o new.flow reply lies

pub and_none : (b : Bool) → b && false ≡ false
and_none true = refl
and_none false = refl

-- the operation as it is after a turn, with an idle worker, the stack and the files
pub record IsLeft (k : WorkerId) (o : OpId) (s : FlowRecord) (stack : StackWorld) (files : FileTable) (new : World) : Type 0 where
  pub alone : Alone o s new.flow
  pub idle : worker_at new.workers k ≡ Some Place.Idle
  pub stays : new.stack ≡ stack
  pub filed : new.files ≡ files

module _ (old : World) (k : WorkerId) (o : OpId) (r : FlowRecord) (alone : Alone o r old.flow) where
  pub next_leaves : (reply : Result FlowAction Status) (new : World) → worker_at old.workers k ≡ Some Place.Idle
      → drains_next old.stack r ≡ false → Nexts old k o reply new
      → Nexted old k o r reply new
  unfolding Nexts
  next_leaves reply new idle calm h =
      let at : NextsAt old k o reply new = subst (λ (b : Bool). Unless Status.WrongStep b reply old new (NextsAt old k o reply new)) (ap is_idle idle) h in
      let lies : Below = at.0 in
      let drains : drains_at old o ≡ false = told_alone o r old.flow alone (drains_next old.stack) false ∙ calm in
      let step : FlowRecord → FlowRecord = λ x. (next_of k lies (drains_at old o) x).after in
      let flow : Alone o (step r) (flow_after_next old k o lies) =
      changed_alone o r old.flow alone step (ap (λ n. n == o.0) (next_stays k lies (drains_at old o) r).number) in
      let same = lost reply lies at.2 new at.4 in
      let made = at.3.1 in
      record {
        lies = lies;
        finds = subst (λ (m : Option FlowRecord). FindsBelow old.stack old.files old.flow m lies) (found_alone o r old.flow alone) at.1;
        said = at.3.0 ∙ told_alone o r old.flow alone (λ x. (next_of k lies (drains_at old o) x).reply) (Err Status.WrongStep)
            ∙ ap (λ d. (next_of k lies d r).reply) drains;
        alone = subst (Alone o (next_of k lies false r).after) (sym (same.flow ∙ ap (λ (w : World). w.flow) made))
            (subst (λ (d : Bool). Alone o (next_of k lies d r).after (flow_after_next old k o lies)) drains flow);
        workers = same.workers ∙ ap (λ (w : World). w.workers) made;
        stack = same.stack ∙ ap (λ (w : World). w.stack) made;
        files = same.files ∙ ap (λ (w : World). w.files) made
            ∙ ap (λ t. filed_next old o t reply lies) (sym (same.flow ∙ ap (λ (w : World). w.flow) made));
      }

  -- ---- a preoperation returns

  -- only a create that is completed leaves anything, and none is under way then
  pre_files : (given : PreState) (lent : Data) (t : FlowTable) → Alone o (pre_returned_of given lent r) t
      → after_pre given r.operation r.stream (is_created_on r.stream t) old.files ≡ after_pre given r.operation r.stream false old.files
  pre_files (PreState.Completed why) lent t there =
      ap (λ b. after_pre (PreState.Completed why) r.operation r.stream b old.files)
      (none_created o (pre_returned_of (PreState.Completed why) lent r) t there (and_none (is_create r.operation)) r.stream)
  pre_files given lent t there = refl

  pub pre_leaves : (i : InstanceId) (given : PreVerdict) (lent : Data) (result : Result (Unit {0}) Status) (new : World)
      → worker_at old.workers k ≡ Some (Place.Pre o i)
      → data_fits r.operation r.path lent ≡ true → IsPlainPre given → PreReturns old k given lent result new
      → let state = verdict_counted given r.operation (has_post old.stack (slice_get old.stack.instances i.0) r.operation) in
      IsLeft k o (pre_returned_of state lent r) old.stack (after_pre state r.operation r.stream false old.files) new
  unfolding PreReturns
  pre_leaves i given lent result new at fits plain h =
      let state = verdict_counted given r.operation (has_post old.stack (slice_get old.stack.instances i.0) r.operation) in
      let is : state_at old k o i given ≡ state =
      told_alone o r old.flow alone (state_given old.stack (hand_of old.contexts.hands k.0) i given) PreState.Passed
      ∙ ap (λ v. verdict_counted v r.operation (has_post old.stack (slice_get old.stack.instances i.0) r.operation))
      (plain_of_hand (hand_of old.contexts.hands k.0) given plain) in
      let here : PreReturnsAt old k given lent result new (Some (Place.Pre o i)) = subst (PreReturnsAt old k given lent result new) at h in
      let fitting = told_alone o r old.flow alone (λ x. data_fits x.operation x.path lent) false ∙ fits in
      let Over : PreState → Type 0 = λ s. PreReturnsOver old k o (pre_returned_of s lent) s new in
      let ends = subst (λ (b : Bool). Unless Status.BadRequest b result old new ((result ≡ Ok tt) × Over (state_at old k o i given))) fitting here in
      let over : Over state = subst Over is ends.1 in
      let t = changed o (pre_returned_of state lent) old.flow in
      let there : Alone o (pre_returned_of state lent r) t = changed_alone o r old.flow alone (pre_returned_of state lent) refl in
      let made = over.1.1 in
      let same = by_links over.0 new over.2 in
      record {
        alone = subst (Alone o (pre_returned_of state lent r)) (sym (same.flow ∙ ap (λ (w : World). w.flow) made)) there;
        idle = ap (λ ws. worker_at ws k) (same.workers ∙ ap (λ (w : World). w.workers) made) ∙ placed old.workers k (Place.Pre o i) Place.Idle at;
        stays = same.stack ∙ ap (λ (w : World). w.stack) made;
        filed = same.files ∙ ap (λ (w : World). w.files) made
            ∙ told_alone o r old.flow alone (λ x. after_pre state x.operation x.stream (is_created_on x.stream t) old.files) old.files
            ∙ pre_files state lent t there;
      }

  -- ---- the base answers

  pub base_leaves : (call : BaseCall) (answer : Answer) (result : Result (Unit {0}) Status) (new : World) → worker_at old.workers k ≡ Some (Place.Base o)
      → base_fits call answer r ≡ true → BaseReturns old k call answer result new
      → IsLeft k o (base_returned_of call answer (record { 0 = old.files.next }) r) old.stack
      (after_base r.operation r.stream r.handle answer.status false old.files) new
  unfolding BaseReturns
  base_leaves call answer result new at fits h =
      let here : BaseReturnsAt old k call answer result new (Some (Place.Base o)) = subst (BaseReturnsAt old k call answer result new) at h in
      let fitting = told_alone o r old.flow alone (base_fits call answer) false ∙ fits in
      let ends = subst (λ (b : Bool). Unless Status.BadRequest b result old new ((result ≡ Ok tt)
      × LosesLinks (base_returned old k o call answer) new)) fitting here in
      let s = base_returned_of call answer (record { 0 = old.files.next }) r in
      let t = changed o (base_step old call answer) old.flow in
      let there : Alone o s t = changed_alone o r old.flow alone (base_step old call answer) refl in
      let same = by_links (base_returned old k o call answer) new ends.1 in
      record {
        alone = subst (Alone o s) (sym same.flow) there;
        idle = ap (λ ws. worker_at ws k) same.workers ∙ placed old.workers k (Place.Base o) Place.Idle at;
        stays = same.stack;
        filed = same.files ∙ told_alone o r old.flow alone (filed_record old.files t answer.status) old.files
            ∙ ap (λ b. after_base r.operation r.stream r.handle answer.status b old.files)
            (none_created o s t there (and_none (is_create r.operation)) r.stream);
      }

  -- ---- a postoperation returns

  pub post_leaves : (i : InstanceId) (given : PostVerdict) (lent : Data) (result : Result (Unit {0}) Status) (new : World)
      → worker_at old.workers k ≡ Some (Place.Post o i)
      → data_fits r.operation r.path lent ≡ true → PostReturns old k given (Some lent) result new
      → IsLeft k o (post_returned_of given lent r) old.stack old.files new
  unfolding PostReturns
  post_leaves i given lent result new at fits h =
      let here : PostReturnsAt old k given (Some lent) result new (Some (Place.Post o i)) = subst (PostReturnsAt old k given (Some lent) result new) at h in
      let fitting = told_alone o r old.flow alone (λ x. data_fits x.operation x.path lent) false ∙ fits in
      let ends = subst (λ (b : Bool). Unless Status.BadRequest b result old new ((result ≡ Ok tt)
      × ReturnsFrom old k o (post_returned_of given lent) old.contexts new)) fitting here in
      let made = ends.1.1 in
      record {
        alone = subst (Alone o (post_returned_of given lent r)) (sym (ap (λ (w : World). w.flow) made))
            (changed_alone o r old.flow alone (post_returned_of given lent) refl);
        idle = ap (λ (w : World). worker_at w.workers k) made ∙ placed old.workers k (Place.Post o i) Place.Idle at;
        stays = ap (λ (w : World). w.stack) made;
        filed = ap (λ (w : World). w.files) made;
      }
