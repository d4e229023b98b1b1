-- What lets held operations go on: a callback of the instance that holds one resumes it.
use Rattle.fm_world.proofs.Words.{lawful_alike, length-without, holds, without, PreVerdict, drains_post_settled, drains_pre_settled, owed_post_settled}
use Rattle.fm_world.proofs.Words.{owed_pre_settled, flow_changes, Stays, unspent, carried_in, drain_opens, is_unanswered, settle_post, settle_pre, IsCourse}
use Rattle.fm_world.proofs.Words.{is_done, post_settled, pre_leads, pre_settled, is_number, is_spent, Ascending, PostHeld, PreHeld, all_change, found_holds}
use Rattle.fm_world.proofs.Words.{none_refuses, FindsHeld, FindsHeldAt, ResumesPost, ResumesPostAt, ResumesPre, ResumesPreAt, carries_after, has_post}
use Rattle.fm_world.proofs.Words.{is_created_on, is_held_by, lets_go, of_hand, pre_resumed, resume_post_refused, resume_pre_refused, sent, sent_in, state_at}
use Rattle.fm_world.proofs.Words.{state_given, FileTable, after_pre, HoldsFewer, OnlyHandOf, given_with, taken_by_resume, Spot, LosesLinks, AskCarries}
use Rattle.fm_world.proofs.Words.{CarriesIn, HoldsIn, place_in, IsAmong, IsFileSound, IsSound, IsUnderWay, ContextTable, CtxId, FlowRecord, InstanceId, OpId}
use Rattle.fm_world.proofs.Words.{PreState, Status, WorkerId, changed, cleaning_of, hand_of, operation_at, owed, worker_at, World, carries, All, Err, List}
use Rattle.fm_world.proofs.Words.{None, Ok, Option, Result, Some, [], ap, arith, cond, false, length, not, option_map, refl, slice_get, slice_set, subst, sym}
use Rattle.fm_world.proofs.Words.{true, unwrap_or, ℕ, ◌+◌, ◌<◌, ◌∙◌, ◌∷◌, ◌≡◌, none-some, same_Some}
use Rattle.fm_operations.specs.declared.hold.Hold.{Hold}
use Rattle.fm_operations.specs.Holds.{is_held}
use Rattle.fm_operations.proofs.Holds.{held_pre, held_post}
use Rattle.fm_operations.proofs.Resumes.{sound_pre_resumed, pre_resumed_carries, pre_resumed_flies, sound_post_resumed, post_resumed_carries, post_resumed_flies}
use Rattle.fm_world.proofs.Asking.{goes_asked}
use Rattle.fm_world.proofs.Amongs.{among_settles, settle_post_keeps, settle_pre_keeps}
use Rattle.fm_world.proofs.Belonging.{AllCarry, AllFit, all_without, belongs_still, filters_same, owners_same}
use Rattle.fm_world.proofs.Callbacks.{not_false, owned_with, same_hands}
use Rattle.fm_world.proofs.Events.{answers_by, refused_by}
use Rattle.fm_world.proofs.Filed.{answered_same, file_step}
use Rattle.fm_world.proofs.Flowing.{asks_of, carried_changed, carry_changed, flow_owned, quieter}
use Rattle.fm_world.proofs.Keeps.{worker_below}
use Rattle.fm_world.proofs.Losing.{loses_sound}
use Rattle.fm_world.proofs.Operations.{not_base_of, told_there, undone_at}
use Rattle.fm_world.proofs.Returns.{asked_carries, counted_from, counted_quiet, file_decided, sent_is_held, sent_lawful, sent_owned, sent_rests, taken_sent}
use Rattle.fm_world.proofs.Staying.{Does, hand_written, loses_lasts, makes, nothing, still, table_same, unchanged}
use Rattle.fm_world.proofs.Ties.{is_running, quiet_is_none, standing, told_same}
use Rattle.fm_operations.specs.declared.entry.PostState.TheVariants as post
use Rattle.fm_operations.specs.Sound as flow

-- ---- the operation that is held

pub record HeldBy (w : World) (kind : Hold) (o : OpId) (i : InstanceId) : Type 0 where
  pub row : FlowRecord
  pub at : operation_at o w.flow ≡ Some row
  pub held : is_held kind i.0 row ≡ true
  pub sound : flow.IsSound row
  pub among : IsAmong w.stack row

pub held_by : (w : World) (kind : Hold) (o : OpId) (i : InstanceId) → IsUnderWay w → is_held_by w kind o i ≡ true → HeldBy w kind o i
held_by w kind o i s h = by_row (operation_at o w.flow) refl h
  where
    by_row : (m : Option FlowRecord) → operation_at o w.flow ≡ m → unwrap_or (option_map (is_held kind i.0) m) false ≡ true → HeldBy w kind o i
    by_row None at is = cc
    by_row (Some r) at is = record {
      row = r;
      at = at;
      held = is;
      sound = found_holds flow.IsSound (is_number o) w.flow.operations r s.flow.sound at;
      among = found_holds (IsAmong w.stack) (is_number o) w.flow.operations r s.among at;
    }

-- ---- one operation changes, and nobody goes anywhere

pub step_stays : (w : World) (o : OpId) (r : FlowRecord) (f : FlowRecord → FlowRecord) → operation_at o w.flow ≡ Some r
    → ((x : FlowRecord) → Stays x (f x)) → flow.IsSound (f r)
    → is_done r ≡ false → IsAmong w.stack (f r) → is_running r.stage ≡ false → is_running (f r).stage ≡ false
    → ((i : ℕ) → drain_opens i (f r).entries ≡ drain_opens i r.entries) → IsUnderWay w
    → IsUnderWay (record w { flow = changed o f w.flow })
step_stays w o r f at stays sound undone among before after drains s =
    let needed = unspent r (f r) (stays r) undone (found_holds flow.IsSound (is_number o) w.flow.operations r s.flow.sound at) in
    let number : (x : FlowRecord) → (f x).number.0 ≡ x.number.0 = λ x. (stays x).number in
    let nowhere : (p : Spot) → standing p (f r) ≡ standing p r = λ p.
    ap (λ b. cond b 1 0) (quiet_is_none (f r).stage (f r).entries after p ∙ sym (quiet_is_none r.stage r.entries before p)) in
    record {
      stack = s.stack;
      flow = flow_changes w.flow o f s.flow number (λ x. (stays x).collected)
          (λ x e. subst (λ y. flow.IsSound (f y)) (same_Some r x (sym at ∙ e)) sound)
          (λ x e. subst (λ y. is_spent (f y) ≡ false) (same_Some r x (sym at ∙ e)) needed);
      among = all_change (IsAmong w.stack) (is_number o) f w.flow.operations
          (λ x e. subst (λ y. IsAmong w.stack (f y)) (same_Some r x (sym at ∙ e)) among) s.among;
      hands = s.hands;
      workers = λ p x. s.workers p x ∙ told_same (standing x) p w.flow o r f at number (nowhere x);
      drains = λ p i. s.drains p i ∙ told_same (λ (y : FlowRecord). drain_opens i y.entries) p w.flow o r f at number (drains i);
      instance_callbacks = s.instance_callbacks;
    }

-- ---- a preoperation

-- the hand without what is sent along
abbrev hand_left : List CtxId → Option CtxId → List CtxId
hand_left hand None = hand
hand_left hand (Some c) = without c hand

sent_hands : (t : ContextTable) (k : WorkerId) (m : Option CtxId) → (sent t k m).hands ≡ slice_set t.hands k.0 (hand_left (hand_of t.hands k.0) m)
sent_hands t k None = same_hands t.hands k.0
sent_hands t k (Some c) = refl

left_held : (P : CtxId → Type 0) (hand : List CtxId) (m : Option CtxId) → All P hand → All P (hand_left hand m)
left_held P hand None h = h
left_held P hand (Some c) h = all_without P c hand h

left_length : (hand : List CtxId) (m : Option CtxId) → ((d : CtxId) → m ≡ Some d → holds hand d ≡ true) → length (hand_left hand m) + given_with m ≡ length hand
left_length hand None has = omega arith
left_length hand (Some c) has = length-without c hand (has c refl)

pub placed_below : (w : World) (k : WorkerId) (i : InstanceId) → place_in (worker_at w.workers k) ≡ Some i → IsSound w → k.0 < 48
placed_below w k i place s = grind (arith, none-some, worker_below)

-- what the completion takes along is carried from then on
pub resumed_balance : (w : World) (o : OpId) (i : InstanceId) (state : PreState) → is_held_by w Hold.Pre o i ≡ true → IsUnderWay w → (c : CtxId)
    → carries_after w o (pre_settled state) c ≡ carries w c + carried_in c (record { number = 0; context = sent_in state })
resumed_balance w o i state held s c =
    let x = held_by w Hold.Pre o i s held in
    omega (
      arith,
      carried_changed w.flow o x.row (pre_settled state) x.at c,
      pre_resumed_carries c state x.row (held_pre i.0 x.row x.sound x.held).0 x.sound,
      taken_sent c state,
    )

pre_resumed_sound : (old : World) (k : WorkerId) (o : OpId) (i : InstanceId) (given : PreVerdict) (new : World) → place_in (worker_at old.workers k) ≡ Some i
    → is_held_by old Hold.Pre o i ≡ true → LosesLinks (pre_resumed old k o (state_at old k o i given)) new → IsSound old → IsSound new
pre_resumed_sound old k o i given new place held loses s =
    let x = held_by old Hold.Pre o i s.under_way held in
    let r = x.row in
    let at = held_pre i.0 r x.sound x.held in
    let state = state_at old k o i given in
    let f = pre_settled state in
    let t = changed o f old.flow in
    let slots = old.contexts.slots in
    let hand = hand_of old.contexts.hands k.0 in
    let m = sent_in state in
    let has = sent_is_held old k o i given in
    let worker = placed_below old k i place s in
    let law = sent_lawful old o f k m worker s.owned.lawful (resumed_balance old o i state held s.under_way) has in
    let rests = sent_rests old.contexts k m in
    let settled = owed_pre_settled PreHeld r.entries state refl (subst (λ a. IsCourse a r.entries) at.0 x.sound.course) in
    let visited : settled.0.instance ≡ i = ap (λ n. record { 0 = n }) (same_Some settled.0.instance.0 i.0 (sym settled.1 ∙ at.1)) in
    let quiet : is_running (pre_leads state) ≡ false =
    ap (λ a. is_running (pre_leads a)) (told_there (state_given old.stack hand i given) PreState.Passed o old.flow r x.at)
    ∙ counted_quiet (of_hand hand given) r.operation (has_post old.stack (slice_get old.stack.instances i.0) r.operation) in
    loses_sound (pre_resumed old k o state) new loses
    (step_stays old o r f x.at (λ y. record { number = refl; collected = refl }) (sound_pre_resumed state r at.0 (counted_from state quiet) x.sound)
    (undone_at r PreHeld at.0 refl)
    (among_settles old.stack r.volume r.below r.born r.operation r.entries r.stage (pre_leads state) (settle_pre state)
    (settle_pre_keeps state) (not_base_of (pre_leads state) quiet) x.among)
    (ap is_running at.0) quiet (λ j. omega (arith, drains_pre_settled j state r.entries)) s.under_way)
    (owned_with old old.stack t old.workers (sent old.contexts k m) k (hand_left hand m)
    (belongs_still old.stack slots old.stack (sent old.contexts k m).slots (filters_same old.stack) (owners_same slots (sent old.contexts k m).slots rests.0))
    (λ j apart. refl) (λ n. ap (λ xs. cleaning_of xs n) rests.1 ∙ s.owned.cleaning n) law (sent_hands old.contexts k m) worker
    (subst (λ xs. All (HoldsIn old.stack xs (place_in (worker_at old.workers k))) (hand_left hand m)) (sym rests.0)
    (left_held (HoldsIn old.stack slots (place_in (worker_at old.workers k))) hand m (s.owned.holders k)))
    (subst (λ xs. AllCarry old.stack xs t.operations) (sym rests.0) (carry_changed old.stack slots old.flow o r f x.at
    (subst (All (AskCarries old.stack slots)) (sym settled.2)
    (asked_carries old.stack slots settled.0 state (owed r.entries)
    (subst (λ a. CarriesIn old.stack slots a m) (sym visited) (sent_owned old k i m place has s)) (asks_of old o r x.at s.owned)))
    s.owned.completions))
    (subst (AllFit old.stack) (sym rests.0) s.owned.fits)
    (quieter old o r f x.at (λ j. omega (arith, pre_resumed_flies j state r at.0 x.sound)) s.owned.quiet) s.owned)
    (goes_asked old.stack old.flow o r f x.at refl refl s.begun)
    (subst (λ (files : FileTable). IsFileSound files t)
    (sym (told_there (λ (y : FlowRecord). after_pre state y.operation y.stream (is_created_on y.stream t) old.files) old.files o old.flow r x.at))
    (file_decided old.files old.flow o r state f x.at (ap is_unanswered at.0) (record {
      operation = refl;
      stream = refl;
      handle = refl;
      stage = refl;
    }) s.filed))

-- what such an event does: its worker's hand loses what is sent along, and no other changes
abbrev Takes : World → WorkerId → OpId → PreVerdict → Result (Unit {0}) Status → World → Option InstanceId → Type 0
Takes old k o given result new place =
    Does old new × (IsSound old → OnlyHandOf k.0 old new × HoldsFewer k.0 result (taken_by_resume old k o given place) old new)

none_taken : (old : World) (k : WorkerId) (o : OpId) (given : PreVerdict) (place : Option InstanceId) (why : Status) → Takes old k o given (Err why) old place
none_taken old k o given place why = (nothing old, λ s. (refl, refl))

pub resume_pre_does : (old : World) (k : WorkerId) (o : OpId) (given : PreVerdict) (result : Result (Unit {0}) Status) (new : World)
    → ResumesPre old k o given result new
    → Does old new × (IsSound old → OnlyHandOf k.0 old new × HoldsFewer k.0 result (taken_by_resume old k o given (place_in (worker_at old.workers k))) old new)
unfolding ResumesPre
resume_pre_does old k o given result new h = by_place (place_in (worker_at old.workers k)) refl h
  where
    taken : (i : InstanceId) → place_in (worker_at old.workers k) ≡ Some i → is_held_by old Hold.Pre o i ≡ true
        → LosesLinks (pre_resumed old k o (state_at old k o i given)) new
        → Takes old k o given (Ok tt) new (Some i)
    taken i place held loses =
        let state = state_at old k o i given in
        let hand = hand_of old.contexts.hands k.0 in
        let rests = sent_rests old.contexts k (sent_in state) in (
          record {
            sound = λ s. pre_resumed_sound old k o i given new place held loses s;
            lasts = λ s. loses_lasts old (pre_resumed old k o state) new loses (table_same old.contexts (sent old.contexts k (sent_in state)) rests.0 rests.1);
          },
          λ s.
              let within = subst (λ n. k.0 < n) (sym s.owned.lawful.workers) (placed_below old k i place s) in
              let hands = hand_written k.0 old new (hand_left hand (sent_in state)) within (loses.0.hands ∙ sent_hands old.contexts k (sent_in state)) in
              (hands.0, omega (arith, hands.1, left_length hand (sent_in state) (sent_is_held old k o i given))),
        )

    by_place : (p : Option InstanceId) → place_in (worker_at old.workers k) ≡ p → ResumesPreAt old k o given result new p → Takes old k o given result new p
    by_place None place h = refused_by (λ r w. Takes old k o given r w None) Status.WrongStep result old new h (none_taken old k o given None)
    by_place (Some i) place h =
        answers_by (λ r w. Takes old k o given r w (Some i)) (resume_pre_refused old o i given) result old new _ h
        (none_taken old k o given (Some i)) (λ done free loses.
        let frees = none_refuses ((not (lets_go given), Status.BadRequest) ∷ (not (is_held_by old Hold.Pre o i), Status.NotPended) ∷ []) free in
        taken i place (not_false (is_held_by old Hold.Pre o i) frees.1.0) loses)

-- ---- a postoperation

pub post_resumed_balance : (w : World) (o : OpId) (i : InstanceId) → is_held_by w Hold.Post o i ≡ true → IsUnderWay w → (c : CtxId)
    → carries_after w o (post_settled post.Finished) c ≡ carries w c
post_resumed_balance w o i held s c =
    let x = held_by w Hold.Post o i s held in
    omega (
      arith,
      carried_changed w.flow o x.row (post_settled post.Finished) x.at c,
      post_resumed_carries c x.row (held_post i.0 x.row x.sound x.held).0 x.sound,
    )

post_resumed_sound : (old : World) (o : OpId) (i : InstanceId) → is_held_by old Hold.Post o i ≡ true → IsSound old
    → IsSound (record old { flow = changed o (post_settled post.Finished) old.flow })
post_resumed_sound old o i held s =
    let x = held_by old Hold.Post o i s.under_way held in
    let r = x.row in
    let stage = (held_post i.0 r x.sound x.held).0 in
    let f = post_settled post.Finished in
    let course = subst (λ a. IsCourse a r.entries) stage x.sound.course in
    record {
      under_way = step_stays old o r f x.at (λ y. record { number = refl; collected = refl }) (sound_post_resumed r stage x.sound)
          (undone_at r PostHeld stage refl)
          (among_settles old.stack r.volume r.below r.born r.operation r.entries r.stage Ascending (settle_post post.Finished)
          (settle_post_keeps post.Finished) (not_base_of Ascending refl) x.among)
          (ap is_running stage) refl (λ j. omega (arith, drains_post_settled j post.Finished r.entries)) s.under_way;
      owned = flow_owned old (changed o f old.flow) (lawful_alike (λ c. sym (post_resumed_balance old o i held s.under_way c)) s.owned.lawful)
          (carry_changed old.stack old.contexts.slots old.flow o r f x.at
          (subst (All (AskCarries old.stack old.contexts.slots)) (sym (owed_post_settled PostHeld r.entries post.Finished refl course))
          (asks_of old o r x.at s.owned)) s.owned.completions)
          (quieter old o r f x.at (λ j. omega (arith, post_resumed_flies j r stage x.sound)) s.owned.quiet) s.owned;
      begun = goes_asked old.stack old.flow o r f x.at refl refl s.begun;
      filed = file_step old.files old.flow o r f x.at (answered_same r (f r) refl refl (ap is_unanswered stage) refl) s.filed;
      links = s.links;
    }

pub resume_post_does : (old : World) (k : WorkerId) (o : OpId) (result : Result (Unit {0}) Status) (new : World) → ResumesPost old k o result new → Does old new
unfolding ResumesPost
resume_post_does old k o result new h = by_place (place_in (worker_at old.workers k)) h
  where
    by_place : (p : Option InstanceId) → ResumesPostAt old o result new p → Does old new
    by_place None h = unchanged old new h.1
    by_place (Some i) h =
        answers_by (λ r w. Does old w) (resume_post_refused old o i) result old new _ h (λ why. nothing old) (λ done free e.
        let frees = none_refuses ((not (is_held_by old Hold.Post o i), Status.NotPended) ∷ []) free in
        makes old (record old { flow = changed o (post_settled post.Finished) old.flow }) new e (still old.contexts)
        (post_resumed_sound old o i (not_false (is_held_by old Hold.Post o i) frees.0)))

-- ---- the first that is held

pub first_held_does : (old : World) (k : WorkerId) (kind : Hold) (result : Result (Option OpId) Status) (new : World)
    → FindsHeld old k kind result new → Does old new
unfolding FindsHeld
first_held_does old k kind result new h = by_place (place_in (worker_at old.workers k)) h
  where
    by_place : (p : Option InstanceId) → FindsHeldAt old kind result new p → Does old new
    by_place None h = unchanged old new h.1
    by_place (Some i) h = unchanged old new h.3
