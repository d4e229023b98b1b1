-- What each event leaves of the operations that nobody is inside of: they stay so, and those that ended stay ended, but for the operation of a `next` and the
-- one whose answer is handed out.
use Rattle.fm_local.proofs.Words.{[], ◌∷◌, ◌≡◌, ◌⊎◌, inl, inr, Answer, Ask, BaseCall, Below, Bool, Completion, Data, Err, FileHandle, FileStream, FlowAction, FlowRecord, FlowTable}
use Rattle.fm_local.proofs.Words.{InstanceId, List, None, Ok, OpId, Option, PostVerdict, PreVerdict, Request, Result, Some, Stage, Status, Place, WorkerId, World}
use Rattle.fm_local.proofs.Words.{◌&&◌, ◌==◌, ◌∙◌, ap, arith, changed, cond, false, find, not, operation_at, option_map, owed, refl, slice_get, subst, sym, true, unwrap_or, worker_at}
use Rattle.fm_local.proofs.Words.{BaseReturns, BaseReturnsAt, Begins, Collects, DrainsWhere, LosesLinks, Nexts, PostReturns, PostReturnsAt, PreReturns, PreReturnsAt, TakesDrain}
use Rattle.fm_local.proofs.Words.{after_begin, ascend, begun_at, begun_on, drains_at, handle_at, is_stopping_at, next_at, next_of, params_of, row_at, state_at, stream_at, turn, IsSound, PreReturnsOver, ReturnsFrom, base_returned, post_returned_of}
use Rattle.fm_types.specs.Refusals.{first_of}
use Rattle.fm_operations.proofs.Drains.{owed_over, owing_there}
use Rattle.fm_operations.proofs.Holds.{held_post, held_pre}
use Rattle.fm_operations.proofs.Next.{next_stays}
use Rattle.fm_operations.specs.Drains.{DrainTaken, drain_done_in, drained_early, early_over, is_of, owed_to}
use Rattle.fm_callback_data.specs.declared.params.Params.{Params}
use Rattle.fm_operations.proofs.Placing.{changed_stays}
use Rattle.fm_operations.specs.Steps.{done_at, takes}
use Rattle.fm_operations.specs.Table.{told, collected_in, is_collectable, is_number, is_spent, marked, removed}
use Rattle.fm_operations.specs.Counts.{is_running_drain}
use Rattle.fm_operations.specs.declared.hold.Hold.{Hold}
use Rattle.std.specs.List.{list_any}
use Rattle.fm_world.proofs.Cases.{by_bool}
use Rattle.fm_world.proofs.Events.{answers_by, idle_by, memory_by, refused_by, unless_by}
use Rattle.fm_world.proofs.Operations.{inside_base, inside_drain, inside_post, inside_pre}
use Rattle.fm_world.proofs.Resumes.{held_by}
use Rattle.fm_types.proofs.Firsts.{change_none}
use Rattle.fm_world.specs.Changes.{ChangesHeldAt}
unfoldable use Rattle.fm_world.specs.Changes.{ChangesHeld}
use Rattle.fm_world.specs.EarlyDrains.{DrainReturns, DrainReturnsAt}
use Rattle.fm_world.specs.Initiators.{BeginsLower, placed_at, placed_from}
use Rattle.fm_world.specs.declared.begins_from.BeginsFrom.{BeginsFrom}
use Rattle.fm_world.specs.Events.{ResumesPost, ResumesPostAt, ResumesPre, ResumesPreAt, base_step, is_held_by, lets_go, pre_step}
use Rattle.fm_world.specs.Owners.{place_in}
use Rattle.fm_local.specs.Waits.{IsEnded, is_between, is_loose}
use Rattle.fm_local.proofs.operations.Events.{by_links, lost}
use Rattle.fm_local.proofs.queues.OtherRecords.{Stays, alike_changed, busy_changed, by_number, by_record, by_same, one_more, others_changed, others_removed, spent_removed}

-- what stays of an operation in a World
abbrev pub Keeps : OpId → World → World → Type 0
Keeps p old new = Stays p old.flow new.flow

abbrev flow_of : World → FlowTable
flow_of w = w.flow

pub nothing : (p : OpId) (w : World) → Keeps p w w
nothing p w = by_same p w.flow w.flow refl

-- an operation at such a stage isn't with nobody
pub busy_at : (s : Stage) (r : FlowRecord) → r.stage ≡ s → is_between s ≡ false → is_loose r ≡ false
busy_at s r at busy = ap (λ t. not r.collected && is_between t) at ∙ ap (λ b. not r.collected && b) busy ∙ none (not r.collected)
  where
    none : (b : Bool) → b && false ≡ false
    none true = refl
    none false = refl

second : (a b : Bool) → a && b ≡ true → b ≡ true
second a b h = grind arith

first : (a b : Bool) → a && b ≡ true → a ≡ true
first a b h = grind arith

-- what isn't refused
pub granted : (a b : Bool) (s t : Status) → first_of ((not a, s) ∷ (not b, t) ∷ []) ≡ None → (a ≡ true) × (b ≡ true)
granted true true s t h = (refl, refl)
granted true false s t h = cc
granted false b s t h = cc

pub alone_granted : (b : Bool) (t : Status) → first_of ((not b, t) ∷ []) ≡ None → b ≡ true
alone_granted true t h = refl
alone_granted false t h = cc

-- ---- of one operation

-- the `next` of one that ended leaves it
ended_next : (k : WorkerId) (lies : Below) (stops : Bool) (r : FlowRecord) → is_collectable r ≡ true → (next_of k lies stops r).after ≡ r
ended_next k lies stops r h = by_collected r.collected
  where
    by_asks : (asks : List Ask) → done_at Stage.Ascending asks ≡ true → (ascend k stops r (slice_get asks 0)).after ≡ r
    by_asks [] h = refl
    by_asks (ask ∷ asks) h = cc

    by_stage : (s : Stage) → done_at s (owed r.entries) ≡ true → (next_at k lies stops r s).after ≡ r
    by_stage Stage.Ascending h = by_asks (owed r.entries) h
    by_stage _ h = cc

    by_collected : (b : Bool) → (cond b (turn (Err Status.WrongStep) r) (next_at k lies stops r r.stage)).after ≡ r
    by_collected true = refl
    by_collected false = by_stage r.stage (second (not r.collected) (done_at r.stage (owed r.entries)) h)

-- one that owes an instance something hasn't ended
owing_not_ended : (i : InstanceId) (r : FlowRecord) (completion : Completion) → owed_to i.0 r ≡ Some completion → is_collectable r ≡ true → ⊥
owing_not_ended i r completion owes h = by_asks r.stage (owed r.entries) (second (not r.collected) (done_at r.stage (owed r.entries)) h) owes
  where
    by_asks : (s : Stage) (asks : List Ask) → done_at s asks ≡ true → option_map (λ (ask : Ask). ask.completion) (find (is_of i.0) asks) ≡ Some completion → ⊥
    by_asks s [] done owes = cc
    by_asks Stage.Ascending (ask ∷ asks) done owes = cc
    by_asks _ (ask ∷ asks) done owes = cc

-- what stays in one step and in the next stays in both
after_stays : (p : OpId) (t u v : FlowTable) → Stays p t u → Stays p u v → Stays p t v
after_stays p t u v one other = record { loose = λ h. other.loose (one.loose h); ended = λ h. other.ended (one.ended h) }

-- an operation that goes to its place is told as before
placed_stays : (p : OpId) (from : BeginsFrom) (w : World) (o : OpId) → Stays p w.flow (placed_at o from w).flow
placed_stays p from w o = by_there (operation_at o w.flow) refl
  where
    by_there : (m : Option FlowRecord) → operation_at o w.flow ≡ m → Stays p w.flow (placed_at o from w).flow
    by_there None at = by_record p w.flow (placed_at o from w).flow
        (ap (λ rs. find (is_number p) rs) (change_none (is_number o) (placed_from w.stack.births from) w.flow.operations at))
    by_there (Some r) at = alike_changed p o r (placed_from w.stack.births from) w.flow at (λ x. refl) (λ h. h) (λ h. h)

module _ (p : OpId) (old : World) where
  abbrev After : (T : Type 0) → Result T Status → World → Type 0
  After T r w = Keeps p old w

  by_flow : (new : World) (t : FlowTable) → new.flow ≡ t → Stays p old.flow t → Keeps p old new
  by_flow new t is stays = subst (Stays p old.flow) (sym is) stays

  -- ---- an operation begins

  begun : (what : Request) → Keeps p old (after_begin old what)
  begun (Request.List v) = one_more p _ old.flow _
  begun (Request.OnVolume v m n) = one_more p _ old.flow _
  begun (Request.Create v path mode) = one_more p _ old.flow _
  begun (Request.OnHandle h asked) = by_handle (handle_at h old.files)
    where
      by_stream : (x : FileHandle) (m : Option FileStream) → Keeps p old (begun_on old h (params_of asked) x m)
      by_stream x None = nothing p old
      by_stream x (Some y) = one_more p _ old.flow _

      by_handle : (m : Option FileHandle) → Keeps p old (begun_at old h (params_of asked) m)
      by_handle None = nothing p old
      by_handle (Some x) = by_stream x (stream_at x.stream old.files)

  pub begins : (what : Request) (result : Result OpId Status) (new : World) → Begins old what result new → Keeps p old new
  unfolding Begins
  begins what result new h = memory_by (After OpId) _ result old new _ h (λ why. nothing p old) (λ o none event. subst (Keeps p old) (sym event.1) (begun what))

  -- a filter's own goes to its place besides
  pub begins_lower : (from : BeginsFrom) (what : Request) (result : Result OpId Status) (new : World) → BeginsLower old from what result new → Keeps p old new
  unfolding BeginsLower
  begins_lower from what result new h = memory_by (After OpId) _ result old new _ h (λ why. nothing p old) (λ o none event.
      subst (Keeps p old) (sym event.1) (after_stays p old.flow (after_begin old what).flow _ (begun what) (placed_stays p from (after_begin old what) _)))

  -- ---- what is next

  module _ (k : WorkerId) (o : OpId) (result : Result FlowAction Status) (new : World) where
    next_changes : Nexts old k o result new → (new ≡ old) ⊎ ((lies : Below) × (new.flow ≡ changed o (λ r. (next_of k lies (drains_at old o) r).after) old.flow))
    unfolding Nexts
    next_changes h = idle_by (λ r w. (w ≡ old) ⊎ ((lies : Below)
        × (w.flow ≡ changed o (λ r. (next_of k lies (drains_at old o) r).after) old.flow))) k result old new _ h (λ why. inl refl)
        (λ idle at. inr (at.0, (lost result at.0 at.2 new at.4).flow ∙ ap flow_of at.3.1))

    pub nexts_other : Nexts old k o result new → (p.0 == o.0) ≡ false → Keeps p old new
    nexts_other h differ = by_end (next_changes h)
      where
        by_end : (new ≡ old) ⊎ ((lies : Below) × (new.flow ≡ changed o (λ r. (next_of k lies (drains_at old o) r).after) old.flow)) → Keeps p old new
        by_end (inl same) = by_same p old.flow new.flow (ap flow_of same)
        by_end (inr (lies, is)) =
            by_flow new _ is (by_record p old.flow (changed o (λ r. (next_of k lies (drains_at old o) r).after) old.flow)
            (others_changed p o (λ r. (next_of k lies (drains_at old o) r).after) old.flow differ
            (λ r. (next_stays k lies (drains_at old o) r).number)))

    pub nexts_ended : Nexts old k o result new → IsEnded old.flow p → IsEnded new.flow p
    nexts_ended h ended = by_end (next_changes h)
      where
        step : Below → FlowRecord → FlowRecord
        step lies r = (next_of k lies (drains_at old o) r).after

        here : (lies : Below) (m : Option FlowRecord) → operation_at o old.flow ≡ m → unwrap_or (option_map is_collectable m) false
            ≡ true → IsEnded (changed o (step lies) old.flow) o
        here lies None at h = cc
        here lies (Some r) at h =
            let same = ended_next k lies (drains_at old o) r h in
            (alike_changed o o r (step lies) old.flow at (λ x. (next_stays k lies (drains_at old o) x).number)
            (λ l. subst (λ x. is_loose x ≡ true) (sym same) l)
            (λ l. subst (λ x. is_collectable x ≡ true) (sym same) l)).ended (ap (λ m. unwrap_or (option_map is_collectable m) false) at ∙ h)

        by_end : (new ≡ old) ⊎ ((lies : Below) × (new.flow ≡ changed o (λ r. (next_of k lies (drains_at old o) r).after) old.flow)) → IsEnded new.flow p
        by_end (inl same) = subst (λ (w : World). IsEnded w.flow p) (sym same) ended
        by_end (inr (lies, is)) = subst (λ (t : FlowTable). IsEnded t p) (sym is)
            (by_number (λ q. IsEnded old.flow q → IsEnded (changed o (step lies) old.flow) q) o p (here lies (operation_at o old.flow) refl)
            (λ differ. (by_record p old.flow (changed o (step lies) old.flow)
            (others_changed p o (step lies) old.flow differ (λ r. (next_stays k lies (drains_at old o) r).number))).ended) ended)

  -- ---- a callback, or the call of the base, is over

  module _ (k : WorkerId) (sound : IsSound old) (result : Result (Unit {0}) Status) (new : World) where
    refused : (why : Status) → After (Unit {0}) (Err why) old
    refused why = nothing p old

    pub pre_ends : (given : PreVerdict) (lent : Data) → PreReturns old k given lent result new → Keeps p old new
    unfolding PreReturns
    pre_ends given lent h = by_worker (worker_at old.workers k) refl h
      where
        by_worker : (m : Option Place) → worker_at old.workers k ≡ m → PreReturnsAt old k given lent result new m → Keeps p old new
        by_worker (Some (Place.Pre o i)) at h =
            let x = inside_pre old k o i at sound.under_way in
            unless_by (After (Unit {0})) Status.BadRequest _ result old new ((result ≡ Ok tt)
            × PreReturnsOver old k o (pre_step old k o i given lent) (state_at old k o i given) new) h refused (λ fits event.
            let over : PreReturnsOver old k o (pre_step old k o i given lent) (state_at old k o i given) new = event.1 in
            by_flow new (changed o (pre_step old k o i given lent) old.flow) ((by_links over.0 new over.2).flow ∙ ap flow_of over.1.1)
            (busy_changed p o x.0.row (pre_step old k o i given lent) old.flow x.0.at (busy_at Stage.PreRunning x.0.row x.1 refl) (λ r. refl)))
        by_worker _ at h = refused_by (After (Unit {0})) Status.WrongStep result old new h refused

    pub base_ends : (call : BaseCall) (answer : Answer) → BaseReturns old k call answer result new → Keeps p old new
    unfolding BaseReturns
    base_ends call answer h = by_worker (worker_at old.workers k) refl h
      where
        by_worker : (m : Option Place) → worker_at old.workers k ≡ m → BaseReturnsAt old k call answer result new m → Keeps p old new
        by_worker (Some (Place.Base o)) at h =
            let x = inside_base old k o at sound.under_way in
            unless_by (After (Unit {0})) Status.BadRequest _ result old new ((result ≡ Ok tt)
            × LosesLinks (base_returned old k o call answer) new) h refused (λ fits event.
            by_flow new (changed o (base_step old call answer) old.flow) (by_links (base_returned old k o call answer) new event.1).flow
            (busy_changed p o x.0.row (base_step old call answer) old.flow x.0.at (busy_at Stage.InBase x.0.row x.1 refl) (λ r. refl)))
        by_worker _ at h = refused_by (After (Unit {0})) Status.WrongStep result old new h refused

    pub post_ends : (given : PostVerdict) (lent : Option Data) → PostReturns old k given lent result new → Keeps p old new
    unfolding PostReturns
    post_ends given lent h = by_worker lent (worker_at old.workers k) refl h
      where
        by_worker : (lent : Option Data) (m : Option Place) → worker_at old.workers k ≡ m → PostReturnsAt old k given lent result new m → Keeps p old new
        by_worker (Some lent) (Some (Place.Post o i)) at h =
            let x = inside_post old k o i at sound.under_way in
            unless_by (After (Unit {0})) Status.BadRequest _ result old new ((result ≡ Ok tt)
            × ReturnsFrom old k o (post_returned_of given lent) old.contexts new) h refused (λ fits event.
            by_flow new (changed o (post_returned_of given lent) old.flow) (ap flow_of event.1.1)
            (busy_changed p o x.0.row (post_returned_of given lent) old.flow x.0.at (busy_at Stage.PostRunning x.0.row x.1 refl) (λ r. refl)))
        by_worker None (Some (Place.Drain o i)) at h =
            let x = inside_drain old k o i at sound.under_way in
            by_flow new _ (ap flow_of h.1.1)
            (busy_changed p o x.0.row _ old.flow x.0.at (busy_at (Stage.InDrain i) x.0.row x.1 refl) (λ r. refl))
        by_worker None (Some (Place.Post o i)) at h = refused_by (After (Unit {0})) Status.BadRequest result old new h refused
        by_worker (Some lent) (Some (Place.Drain o i)) at h = refused_by (After (Unit {0})) Status.BadRequest result old new h refused
        by_worker _ _ at h = refused_by (After (Unit {0})) Status.WrongStep result old new h refused

    -- ---- an operation that a filter holds goes on

    pub pre_resumes : (o : OpId) (given : PreVerdict) → ResumesPre old k o given result new → Keeps p old new
    unfolding ResumesPre
    pre_resumes o given h = by_place (place_in (worker_at old.workers k)) h
      where
        by_place : (m : Option InstanceId) → ResumesPreAt old k o given result new m → Keeps p old new
        by_place None h = refused_by (After (Unit {0})) Status.WrongStep result old new h refused
        by_place (Some i) h = answers_by (After (Unit {0})) _ result old new _ h refused (λ done none event.
            let x = held_by old Hold.Pre o i sound.under_way (granted (lets_go given) (is_held_by old Hold.Pre o i) Status.BadRequest
            Status.NotPended none).1 in
            by_flow new _ (by_links _ new event).flow
            (busy_changed p o x.row _ old.flow x.at (busy_at Stage.PreHeld x.row (held_pre i.0 x.row x.sound x.held).0 refl) (λ r. refl)))

    pub post_resumes : (o : OpId) → ResumesPost old k o result new → Keeps p old new
    unfolding ResumesPost
    post_resumes o h = by_place (place_in (worker_at old.workers k)) h
      where
        by_place : (m : Option InstanceId) → ResumesPostAt old o result new m → Keeps p old new
        by_place None h = refused_by (After (Unit {0})) Status.WrongStep result old new h refused
        by_place (Some i) h = answers_by (After (Unit {0})) _ result old new _ h refused (λ done none event.
            let x = held_by old Hold.Post o i sound.under_way (alone_granted (is_held_by old Hold.Post o i) Status.NotPended none) in
            by_flow new _ (ap flow_of event)
            (busy_changed p o x.row _ old.flow x.at (busy_at Stage.PostHeld x.row (held_post i.0 x.row x.sound x.held).0 refl) (λ r. refl)))

    pub held_changes : (o : OpId) (params : Params) → ChangesHeld old k o params result new → Keeps p old new
    unfolding ChangesHeld
    held_changes o params h = by_place (place_in (worker_at old.workers k)) h
      where
        by_place : (m : Option InstanceId) → ChangesHeldAt old o params result new m → Keeps p old new
        by_place None h = refused_by (After (Unit {0})) Status.WrongStep result old new h refused
        by_place (Some i) h = answers_by (After (Unit {0})) _ result old new _ h refused (λ done none event.
            let x = held_by old Hold.Pre o i sound.under_way (granted (is_held_by old Hold.Pre o i) (told (takes params) false o old.flow) Status.NotPended
            Status.BadRequest none).0 in
            by_flow new _ (ap flow_of event)
            (busy_changed p o x.row _ old.flow x.at (busy_at Stage.PreHeld x.row (held_pre i.0 x.row x.sound x.held).0 refl)
            (λ r. (changed_stays params r).number)))

  -- ---- drains before their turn

  pub drain_taken : (k : WorkerId) (i : InstanceId) (result : Result (Option (OpId × Completion)) Status) (new : World)
      → TakesDrain old k i result new → Keeps p old new
  unfolding TakesDrain
  drain_taken k i result new h =
      idle_by (After (Option (OpId × Completion))) k result old new _ h (λ why. nothing p old) (λ idle event.
      answers_by (After (Option (OpId × Completion))) _ result old new _ event (λ why. nothing p old)
      (λ drain free e. where_stopping (is_stopping_at (row_at old.stack i)) drain e))
    where
      given : (drain : Option (OpId × Completion)) → DrainTaken i old.flow drain new.flow → Keeps p old new
      given None taken = by_same p old.flow new.flow taken.1
      given (Some (o, completion)) taken =
          let there = owing_there old.flow o i completion taken.owed in
          by_flow new _ taken.after
          (alike_changed p o there.0 (drained_early i) old.flow there.1 (λ r. refl) (λ l. l)
          (λ ended. absurd (owing_not_ended i there.0 completion there.2 ended)))

      where_stopping : (b : Bool) (drain : Option (OpId × Completion)) → DrainsWhere b old k i drain new → Keeps p old new
      where_stopping true drain e = given drain e.0
      where_stopping false drain e = by_same p old.flow new.flow (ap flow_of e.1)

  pub drain_over : (k : WorkerId) (result : Result (Unit {0}) Status) (new : World) → DrainReturns old k result new → Keeps p old new
  unfolding DrainReturns
  drain_over k result new h = by_worker (worker_at old.workers k) h
    where
      over : (o : OpId) (i : InstanceId) (m : Option FlowRecord) → operation_at o old.flow ≡ m → Stays p old.flow (drain_done_in o i old.flow m)
      over o i None at = by_same p old.flow old.flow refl
      over o i (Some r) at =
          by_bool (λ b. Stays p old.flow (cond b (removed o old.flow) (changed o (early_over i) old.flow))) (is_spent (early_over i r))
          (λ spent. spent_removed p o r old.flow at (first r.collected _ spent))
          (λ needed. alike_changed p o r (early_over i) old.flow at (λ x. refl) (λ l. l)
          (λ ended. ap (λ asks. not r.collected && done_at r.stage asks) (owed_over i r) ∙ ended))

      by_worker : (m : Option Place) → DrainReturnsAt old k result new m → Keeps p old new
      by_worker (Some (Place.EarlyDrain o i)) h = by_flow new _ (ap flow_of h.2) (over o i (operation_at o old.flow) refl)
      by_worker _ h = by_same p old.flow new.flow (ap flow_of h.1)

  -- ---- an answer is handed out

  pub collects_other : (o : OpId) (result : Result Answer Status) (new : World) → Collects old o result new → (p.0 == o.0) ≡ false → Keeps p old new
  unfolding Collects
  collects_other o result new h differ = by_flow new _ (ap flow_of h.1) (by_found (operation_at o old.flow))
    where
      by_found : (m : Option FlowRecord) → Stays p old.flow (collected_in o old.flow m)
      by_found None = by_same p old.flow old.flow refl
      by_found (Some r) =
          by_bool (λ b. Stays p old.flow (cond b (cond (list_any is_running_drain r.entries) (changed o marked old.flow)
          (removed o old.flow)) old.flow)) (is_collectable r)
          (λ done. by_bool (λ b. Stays p old.flow (cond b (changed o marked old.flow) (removed o old.flow))) (list_any is_running_drain r.entries)
          (λ runs. by_record p old.flow (changed o marked old.flow) (others_changed p o marked old.flow differ (λ x. refl)))
          (λ runs. by_record p old.flow (removed o old.flow) (others_removed p o old.flow differ)))
          (λ undone. by_same p old.flow old.flow refl)
