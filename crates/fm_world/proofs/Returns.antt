-- What the ends of callbacks and of base calls of operations do.
use Rattle.fm_world.proofs.Words.{lawful_alike, carry_keeps, holds, BaseCall, Data, data_fits, operation_of, PostVerdict, PreVerdict, drains_drain_settled}
use Rattle.fm_world.proofs.Words.{drains_post_settled, drains_pre_settled, owed_drain_settled, owed_post_settled, owed_pre_settled, drains_push, base_counted}
use Rattle.fm_world.proofs.Words.{carried_in, drain_opens, flight, taken_by, is_unanswered, ask_in, settle_drain, settle_post, settle_pre, IsCourse, way_of}
use Rattle.fm_world.proofs.Words.{base_fits, base_returned_of, drain_returned_of, post_leads, post_returned_of, post_state, pre_leads, pre_returned_of}
use Rattle.fm_world.proofs.Words.{is_number, is_counted, verdict_counted, Base, PreVisit, Ascending, BaseReturns, BaseReturnsAt, PostReturns, PostReturnsAt}
use Rattle.fm_world.proofs.Words.{PreReturns, PreReturnsAt, base_returned, base_step, carries_after, filed_pre, filed_record, has_post, is_created_on, of_hand}
use Rattle.fm_world.proofs.Words.{pre_step, returned, sent, sent_in, state_at, state_given, FileTable, after_pre, HoldsNone, OnlyHandOf, AtPost, AtPre, spot_at}
use Rattle.fm_world.proofs.Words.{LosesLinks, names_there, AskCarries, CarriesIn, HoldsIn, fits, place_in, IsFileSound, IsOwned, IsSound, IsUnderWay, Answer}
use Rattle.fm_world.proofs.Words.{Ask, ContextTable, CtxId, FlowRecord, FlowTable, HandleId, InBase, InDrain, InstanceId, IsLawful, Leaves, OpId, Operation}
use Rattle.fm_world.proofs.Words.{PostRunning, PreRunning, PreState, Slot, StackWorld, Status, StreamId, WorkerId, changed, hand_of, is_create, one}
use Rattle.fm_world.proofs.Words.{operation_at, owed, told, cleanup_in, worker_at, World, carries, Place, All, Bool, Err, List, None, Ok, Option, Result, Some}
use Rattle.fm_world.proofs.Words.{[], ap, arith, cond, false, option_map, refl, slice_get, slice_set, subst, sym, true, ℕ, ◌++◌, ◌+◌, ◌<◌, ◌==◌, ◌∙◌, ◌≡◌, ◌≤◌}
use Rattle.fm_world.proofs.Words.{and_from, and_parts, are_on, common_steps, eqb-true, is_within_limits, length, nat_le, set-set, ◌&&◌, All-nil, same_Some}
use Rattle.std.proofs.Common.{option_to_list}
use Rattle.fm_callback_data.specs.Params.{are_for, call_fits, fit, same_operation, same_path}
use Rattle.fm_types.specs.Majors.{major_bit}
use Rattle.fm_types.specs.Masks.{operation_bit}
use Rattle.fm_types.specs.declared.major.Major.{Major}
use Rattle.fm_types.specs.declared.major.Major.TheVariants as major
use Rattle.fm_types.specs.declared.operation.Operation.TheVariants as kind
use Rattle.fm_operations.proofs.Returns.{base_returned_carries, base_returned_flies, drain_returned_carries, drain_returned_flies, post_returned_carries}
use Rattle.fm_operations.proofs.Returns.{post_returned_flies, pre_returned_carries, pre_returned_flies, sound_base, sound_drain_returned, sound_post_returned}
use Rattle.fm_operations.proofs.Returns.{sound_pre_returned}
use Rattle.fm_operations.proofs.Owed.{owed_push_none}
use Rattle.fm_world.specs.Events.{ReturnsFrom}
use Rattle.fm_world.specs.Sound.{NoneBegun}
use Rattle.fm_world.proofs.Asking.{goes_asked}
use Rattle.fm_world.proofs.Amongs.{among_base, among_settles, is_up, no_base, settle_drain_keeps, settle_post_keeps, settle_pre_keeps}
use Rattle.fm_world.proofs.Belonging.{AllPass, held_has}
use Rattle.fm_world.proofs.Callbacks.{same_hands}
use Rattle.fm_world.proofs.Events.{refused_by, unless_by}
use Rattle.fm_world.proofs.Filed.{IsAnswered, SameFile, answered_same, create_on_none, file_answered, file_step, sound_from, stands_ended, stands_in}
use Rattle.fm_world.proofs.Filed.{stands_same}
use Rattle.fm_world.proofs.Filing.{Shrinks, answered_none, filed_step, not_more_same}
use Rattle.fm_world.proofs.Flowing.{asks_of, carried_changed, left_owned, quieter, step_owned}
use Rattle.fm_world.proofs.Keeps.{worker_below}
use Rattle.fm_world.proofs.Losing.{loses_sound}
use Rattle.fm_world.proofs.Operations.{inside_base, inside_drain, inside_post, inside_pre, not_base_of, return_keeps, told_there, undone_at}
use Rattle.fm_world.proofs.Owning.{empty_hand}
use Rattle.fm_world.proofs.Staying.{Does, hand_emptied, loses_lasts, nothing, still, table_same, unchanged}
use Rattle.fm_world.proofs.Streams.{Stands, none_out}
use Rattle.fm_world.proofs.Ties.{at_none, Matches, in_a_drain, in_no_drain, is_running, matches_base, matches_drain, matches_post, matches_pre}
use Rattle.fm_operations.specs.Sound as flow

-- ---- a preoperation: the verdict that counts

-- a verdict that counts leaves the callback
pub counted_from : (state : PreState) → is_running (pre_leads state) ≡ false → is_counted state ≡ true
counted_from state h = grind arith

pub counted_quiet : (given : PreVerdict) (operation : Operation) (has_post : Bool) → is_running (pre_leads (verdict_counted given operation has_post)) ≡ false
counted_quiet given operation has_post = grind arith

pub taken_sent : (c : CtxId) (state : PreState) → taken_by c state ≡ carried_in c (record { number = 0; context = sent_in state })
taken_sent c state = grind arith

-- what the verdict asks for carries what it sends
pub asked_carries : (s : StackWorld) (slots : List Slot) (visit : PreVisit) (state : PreState) (asks : List Ask)
    → CarriesIn s slots visit.instance (sent_in state)
    → All (AskCarries s slots) asks → All (AskCarries s slots) (option_to_list (ask_in visit state) ++ asks)
asked_carries s slots visit state asks h5 h6 = grind arith

-- the table after a context was sent along
pub sent_rests : (t : ContextTable) (k : WorkerId) (m : Option CtxId)
    → ((sent t k m).slots ≡ t.slots) × ((sent t k m).cleaning ≡ t.cleaning) × (slice_set (sent t k m).hands k.0 [] ≡ slice_set t.hands k.0 [])
sent_rests t k m = grind (arith, set-set)

pub sent_lawful : (w : World) (o : OpId) (f : FlowRecord → FlowRecord) (k : WorkerId) (m : Option CtxId) → k.0 < 48 → IsLawful (carries w) w.contexts
    → ((c : CtxId) → carries_after w o f c ≡ carries w c + carried_in c (record { number = 0; context = m }))
    → ((d : CtxId) → m ≡ Some d → holds (hand_of w.contexts.hands k.0) d ≡ true) → IsLawful (carries_after w o f) (sent w.contexts k m)
sent_lawful w o f k None worker law balance has = lawful_alike (λ c. omega (arith, balance c)) law
sent_lawful w o f k (Some d) worker law balance has = carry_keeps (carries_after w o f) k.0 d law worker (has d refl) (λ c. balance c)

-- what a preoperation sends along is carried from then on
pub pre_balance : (w : World) (k : WorkerId) (o : OpId) (i : InstanceId) (state : PreState) (lent : Data)
    → worker_at w.workers k ≡ Some (Place.Pre o i) → IsUnderWay w → (c : CtxId)
    → carries_after w o (pre_returned_of state lent) c ≡ carries w c + carried_in c (record { number = 0; context = sent_in state })
pre_balance w k o i state lent at s c =
    let x = inside_pre w k o i at s in
    omega (
      arith,
      carried_changed w.flow o x.0.row (pre_returned_of state lent) x.0.at c,
      pre_returned_carries c state lent x.0.row x.1 x.0.sound,
      taken_sent c state,
    )

-- and it was in the hand
pub sent_is_held : (w : World) (k : WorkerId) (o : OpId) (i : InstanceId) (given : PreVerdict) (d : CtxId)
    → sent_in (state_at w k o i given) ≡ Some d → holds (hand_of w.contexts.hands k.0) d ≡ true
sent_is_held w k o i given d e = grind arith

-- a context that a preoperation sends along may be carried
pub sent_owned : (w : World) (k : WorkerId) (i : InstanceId) (m : Option CtxId) → place_in (worker_at w.workers k) ≡ Some i
    → ((d : CtxId) → m ≡ Some d → holds (hand_of w.contexts.hands k.0) d ≡ true) → IsSound w → CarriesIn w.stack w.contexts.slots i m
sent_owned w k i None at has s = tt
sent_owned w k i (Some d) at has s =
    subst (λ p. HoldsIn w.stack w.contexts.slots p d) at
    (held_has (HoldsIn w.stack w.contexts.slots (place_in (worker_at w.workers k))) (hand_of w.contexts.hands k.0) d (s.owned.holders k) (has d refl))

-- ---- its streams and handles

pre_shrinks : (given : PreState) (operation : Operation) (s : Option StreamId) (b : Bool) (f : FileTable) → Shrinks f (after_pre given operation s b f)
pre_shrinks given operation s b f = grind arith

-- what a verdict leaves of the operation: it is on what it was on, and stands where the verdict leads
pub record Decides (given : PreState) (r s : FlowRecord) : Type 0 where
  pub operation : s.operation ≡ r.operation
  pub stream : s.stream ≡ r.stream
  pub handle : s.handle ≡ r.handle
  pub stage : s.stage ≡ pre_leads given

pre_same : (given : PreState) (r s : FlowRecord) → is_unanswered r.stage ≡ true → is_unanswered (pre_leads given) ≡ true → Decides given r s → SameFile r s
pre_same given r s was unanswered d = grind arith

-- what is no create stays none
pre_other : (given : PreState) (r s : FlowRecord) → is_create r.operation ≡ false → Decides given r s → SameFile r s
pre_other given r s h3 d = grind arith

stands_pre : (f : FileTable) (t : FlowTable) (o : OpId) (r : FlowRecord) (given : PreState) (step : FlowRecord
    → FlowRecord) (operation : Operation) (s : Option StreamId) (b : Bool)
    → operation_at o t ≡ Some r → r.operation ≡ operation → r.stream ≡ s → is_unanswered r.stage ≡ true → Decides given r (step r)
    → is_created_on s (changed o step t) ≡ b
    → Stands none_out f t.operations t.next → Stands none_out (after_pre given operation s b f) (changed o step t).operations t.next
stands_pre f t o r (PreState.Completed why) step Operation.Create (Some s) b at same stream was d is h =
    stands_ended f t.operations t.next (is_number o) step r s b at stream d.stream d.handle (answered_none (step r) (ap is_unanswered d.stage)) is h
stands_pre f t o r (PreState.Completed why) step Operation.Create None b at same stream was d is h =
    absurd (create_on_none f t.operations t.next (is_number o) r at stream (and_from (is_create r.operation) (is_unanswered r.stage) (ap is_create same) was) h)
stands_pre f t o r (PreState.Completed why) step _ s b at same stream was d is h =
    stands_same f t.operations t.next (is_number o) step r at (pre_other (PreState.Completed why) r (step r) (ap is_create same) d) h
stands_pre f t o r given step _ _ b at same stream was d is h =
    stands_same f t.operations t.next (is_number o) step r at (pre_same given r (step r) was refl d) h

pub file_decided : (f : FileTable) (t : FlowTable) (o : OpId) (r : FlowRecord) (given : PreState) (step : FlowRecord → FlowRecord) → operation_at o t ≡ Some r
    → is_unanswered r.stage ≡ true → Decides given r (step r) → IsFileSound f t
    → IsFileSound (after_pre given r.operation r.stream (is_created_on r.stream (changed o step t)) f) (changed o step t)
file_decided f t o r given step at was d h =
    let b = is_created_on r.stream (changed o step t) in
    let g = after_pre given r.operation r.stream b f in
    sound_from g (changed o step t)
    (filed_step f g t o r step at (not_more_same r (step r) d.operation was) (pre_shrinks given r.operation r.stream b f) h.room)
    (stands_pre f t o r given step r.operation r.stream b at refl refl was d refl (stands_in f t h))

-- ---- the event

-- the World at the end of a preoperation, before links go
abbrev pub pre_made : World → WorkerId → OpId → InstanceId → PreVerdict → Data → ContextTable → World
pre_made old k o i given lent after = record (returned old k o (pre_step old k o i given lent)) {
  contexts = after;
  files = filed_pre old o (changed o (pre_step old k o i given lent) old.flow) (state_at old k o i given);
}

-- what such an event does: its worker's hand is empty then
abbrev Ends : World → WorkerId → Result (Unit {0}) Status → World → Type 0
Ends old k result new = Does old new × (OnlyHandOf k.0 old new × HoldsNone k.0 result old new)

none_ends : (old : World) (k : WorkerId) (why : Status) → Ends old k (Err why) old
none_ends old k why = (nothing old, (refl, refl))

pre_sound : (old : World) (k : WorkerId) (o : OpId) (i : InstanceId) (given : PreVerdict) (lent : Data) (after : ContextTable) (new : World)
    → worker_at old.workers k ≡ Some (Place.Pre o i) → told (λ r. data_fits r.operation r.path lent) false o old.flow ≡ true
    → Leaves (carries_after old o (pre_step old k o i given lent)) (sent old.contexts k (sent_in (state_at old k o i given))) after k.0
    → LosesLinks (pre_made old k o i given lent after) new → IsSound old → IsSound new
pre_sound old k o i given lent after new at fits leaves loses s =
    let x = inside_pre old k o i at s.under_way in
    let r = x.0.row in
    let state = state_at old k o i given in
    let f = pre_returned_of state lent in
    let t = changed o f old.flow in
    let slots = old.contexts.slots in
    let worker = worker_below old k (Place.Pre o i) at s.under_way in
    let has = sent_is_held old k o i given in
    let law = sent_lawful old o f k (sent_in state) worker s.owned.lawful (pre_balance old k o i state lent at s.under_way) has in
    let rests = sent_rests old.contexts k (sent_in state) in
    let settled = owed_pre_settled PreRunning r.entries state refl (subst (λ x. IsCourse x r.entries) x.1 x.0.sound.course) in
    let visited : settled.0.instance ≡ i = ap (λ n. record { 0 = n }) (same_Some settled.0.instance.0 i.0 (sym settled.1 ∙ x.2)) in
    let quiet : is_running (pre_leads state) ≡ false =
    ap (λ x. is_running (pre_leads x)) (told_there (state_given old.stack (hand_of old.contexts.hands k.0) i given) PreState.Passed o old.flow r x.0.at)
    ∙ counted_quiet (of_hand (hand_of old.contexts.hands k.0) given) r.operation (has_post old.stack (slice_get old.stack.instances i.0) r.operation) in
    loses_sound (pre_made old k o i given lent after) new loses
    (return_keeps old k (Place.Pre o i) o r f (λ j. 0) at x.0.at (λ x. record { number = refl; collected = refl })
    (subst (Matches o (Place.Pre o i)) (sym (ap (λ a. spot_at a r.entries) x.1 ∙ ap (option_map AtPre) x.2)) (matches_pre o i)) quiet
    (in_no_drain o (Place.Pre o i) (λ p j. refl)) (λ j. omega (arith, drains_pre_settled j state r.entries)) (at_none (Place.Pre o i) refl)
    (sound_pre_returned state lent r x.1 (counted_from state quiet)
    (sym (told_there (λ (x : FlowRecord). data_fits x.operation x.path lent) false o old.flow r x.0.at) ∙ fits) x.0.sound)
    (undone_at r PreRunning x.1 refl)
    (among_settles old.stack r.volume r.below r.born r.operation r.entries r.stage (pre_leads state) (settle_pre state) (settle_pre_keeps state)
    (not_base_of (pre_leads state) quiet) x.0.among) s.under_way)
    (left_owned old o r f k (Place.Pre o i) (sent old.contexts k (sent_in state)) after x.0.at at worker refl law rests.0 rests.1 rests.2 leaves
    (subst (All (AskCarries old.stack slots)) (sym settled.2)
    (asked_carries old.stack slots settled.0 state (owed r.entries)
    (subst (λ x. CarriesIn old.stack slots x (sent_in state)) (sym visited)
    (sent_owned old k i (sent_in state) (ap place_in at) has s)) (asks_of old o r x.0.at s.owned)))
    (λ j. omega (arith, pre_returned_flies j state lent r x.1 x.0.sound)) s.owned)
    (goes_asked old.stack old.flow o r f x.0.at refl refl s.begun)
    (subst (λ (files : FileTable). IsFileSound files t)
    (sym (told_there (λ (x : FlowRecord). after_pre state x.operation x.stream (is_created_on x.stream t) old.files) old.files o old.flow r x.0.at))
    (file_decided old.files old.flow o r state f x.0.at (ap is_unanswered x.1)
    (record { operation = refl; stream = refl; handle = refl; stage = refl }) s.filed))

pub pre_does : (old : World) (k : WorkerId) (given : PreVerdict) (lent : Data) (result : Result (Unit {0}) Status) (new : World)
    → PreReturns old k given lent result new
    → Does old new × (OnlyHandOf k.0 old new × HoldsNone k.0 result old new)
unfolding PreReturns
pre_does old k given lent result new h = by_place (worker_at old.workers k) refl h
  where
    ends : (o : OpId) (i : InstanceId) (after : ContextTable) → worker_at old.workers k ≡ Some (Place.Pre o i)
        → told (λ r. data_fits r.operation r.path lent) false o old.flow ≡ true
        → Leaves (carries_after old o (pre_step old k o i given lent)) (sent old.contexts k (sent_in (state_at old k o i given))) after k.0
        → LosesLinks (pre_made old k o i given lent after) new → Ends old k (Ok tt) new
    ends o i after at fitting leaves loses =
        let rests = sent_rests old.contexts k (sent_in (state_at old k o i given)) in
        let stay = table_same old.contexts after (leaves.slots ∙ rests.0) (leaves.cleaning ∙ rests.1) in (
          record {
            sound = λ s. pre_sound old k o i given lent after new at fitting leaves loses s;
            lasts = λ s. loses_lasts old (pre_made old k o i given lent after) new loses stay;
          },
          hand_emptied k.0 old new (loses.0.hands ∙ leaves.hands ∙ rests.2),
        )

    by_place : (m : Option Place) → worker_at old.workers k ≡ m → PreReturnsAt old k given lent result new m → Ends old k result new
    by_place (Some (Place.Pre o i)) at h =
        unless_by (λ r w. Ends old k r w) _ _ result old new _ h (none_ends old k) (λ fits e. subst (λ r. Ends old k r new) (sym e.0)
        (ends o i e.1.0.contexts at fits e.1.1.0 (subst (λ w. LosesLinks w new) e.1.1.1 e.1.2)))
    by_place _ at h = refused_by (λ r w. Ends old k r w) Status.WrongStep result old new h (none_ends old k)

-- ---- the base's call

-- a create is told by its bit
apart_create : (m : Major) → false ≡ (major_bit m == 1)
apart_create major.Pnp = refl
apart_create _ = refl

create_bit : (k : Operation) → is_create k ≡ (operation_bit k == 1)
create_bit (kind.Other m) = apart_create m
create_bit _ = refl

same_create : (a b : Operation) → same_operation a b ≡ true → is_create a ≡ is_create b
same_create a b same = create_bit a ∙ ap (λ (n : ℕ). n == 1) (eqb-true (operation_bit a) (operation_bit b) same) ∙ sym (create_bit b)

-- a call that fits an operation is a create's where that is one
fits_create : (call : BaseCall) (given : Answer) (r : FlowRecord) → base_fits call given r ≡ true → is_create (operation_of call.params) ≡ is_create r.operation
fits_create call given r fits =
    let whole = and_parts (call_fits r.operation r.volume r.path call) (nat_le (length given.bytes) 32768) fits in
    let own = and_parts (call.volume.0 == r.volume.0) (same_path call.path r.path && fit r.operation r.path call.params) whole.0 in
    let named = and_parts (same_path call.path r.path) (fit r.operation r.path call.params) own.1 in
    let kinds = and_parts (are_for r.operation r.path call.params) (is_within_limits call.params) named.1 in
    let alike = and_parts (same_operation (operation_of call.params) r.operation) (are_on r.path call.params) kinds.0 in
    same_create (operation_of call.params) r.operation alike.0

-- what the base's answer leaves of an operation
base_answered : (f : FileTable) (call : BaseCall) (given : Answer) (r : FlowRecord) → is_create (operation_of call.params) ≡ is_create r.operation
    → IsAnswered f given.status r (base_returned_of call given (record { 0 = f.next }) r)
base_answered f call given r same = grind arith

base_sound : (old : World) (k : WorkerId) (o : OpId) (call : BaseCall) (given : Answer) (new : World) → worker_at old.workers k ≡ Some (Place.Base o)
    → told (base_fits call given) false o old.flow ≡ true → LosesLinks (base_returned old k o call given) new → IsSound old → IsSound new
base_sound old k o call given new at fits loses s =
    let x = inside_base old k o at s.under_way in
    let r = x.0.row in
    let handle : HandleId = record { 0 = old.files.next } in
    let f = base_step old call given in
    let t = changed o f old.flow in
    let counts = base_counted call.params given handle in
    let slots = old.contexts.slots in
    let fitting = sym (told_there (base_fits call given) false o old.flow r x.0.at) ∙ fits in
    let no_base' = no_base r.stage r.entries x.0.sound.course.order (ap (λ x. is_up (way_of x)) x.1) in
    loses_sound (base_returned old k o call given) new loses
    (return_keeps old k (Place.Base o) o r f (λ j. 0) at x.0.at (λ x. record { number = refl; collected = refl })
    (subst (Matches o (Place.Base o)) (sym (ap (λ a. spot_at a r.entries) x.1)) (matches_base o)) refl
    (in_no_drain o (Place.Base o) (λ p j. refl)) (λ j. omega (arith, drains_push j r.entries (Base counts.status counts.information)))
    (at_none (Place.Base o) refl)
    (sound_base call given handle r x.1 fitting x.0.sound) (undone_at r InBase x.1 refl)
    (among_base old.stack r.volume r.below r.born r.operation r.entries r.stage counts.status counts.information no_base' (x.0.among.base x.1) x.0.among) s.under_way)
    (step_owned old o r f k (Place.Base o) Place.Idle old.contexts (hand_of old.contexts.hands k.0) x.0.at at
    (worker_below old k (Place.Base o) at s.under_way) refl refl
    (lawful_alike (λ c. omega (arith, carried_changed old.flow o r f x.0.at c, base_returned_carries c call given handle r))
    s.owned.lawful) refl (same_hands old.contexts.hands k.0) refl
    (subst (All (HoldsIn old.stack slots None)) (sym (empty_hand old k (Place.Base o) at refl s.owned)) (All-nil (HoldsIn old.stack slots None)))
    (subst (All (AskCarries old.stack slots)) (sym (owed_push_none r.entries (Base counts.status counts.information) refl (λ i. refl)))
    (asks_of old o r x.0.at s.owned))
    (quieter old o r f x.0.at (λ i. omega (arith, base_returned_flies i call given handle r)) s.owned.quiet) s.owned)
    (goes_asked old.stack old.flow o r f x.0.at refl refl s.begun)
    (subst (λ (files : FileTable). IsFileSound files t) (sym (told_there (filed_record old.files t given.status) old.files o old.flow r x.0.at))
    (file_answered old.files old.flow o r f given.status x.0.at (ap is_unanswered x.1)
    (base_answered old.files call given r (fits_create call given r fitting)) s.filed))

pub base_does : (old : World) (k : WorkerId) (call : BaseCall) (given : Answer) (result : Result (Unit {0}) Status) (new : World)
    → BaseReturns old k call given result new → Does old new
unfolding BaseReturns
base_does old k call given result new h = by_place (worker_at old.workers k) refl h
  where
    by_place : (m : Option Place) → worker_at old.workers k ≡ m → BaseReturnsAt old k call given result new m → Does old new
    by_place (Some (Place.Base o)) at h = unless_by (λ _ w. Does old w) _ _ result old new _ h (λ why. nothing old) (λ fits e. record {
      sound = λ s. base_sound old k o call given new at fits e.1 s;
      lasts = λ s. loses_lasts old (base_returned old k o call given) new e.1 (still old.contexts);
    })
    by_place _ at h = unchanged old new h.1

-- ---- postoperations and drains

post_quiet : (given : PostVerdict) → is_running (post_leads (post_state given)) ≡ false
post_quiet given = grind arith

pub post_balance : (w : World) (k : WorkerId) (o : OpId) (i : InstanceId) (given : PostVerdict) (lent : Data)
    → worker_at w.workers k ≡ Some (Place.Post o i) → IsUnderWay w
    → (c : CtxId) → carries_after w o (post_returned_of given lent) c ≡ carries w c
post_balance w k o i given lent at s c =
    let x = inside_post w k o i at s in
    omega (arith, carried_changed w.flow o x.0.row (post_returned_of given lent) x.0.at c, post_returned_carries c given lent x.0.row x.1 x.0.sound)

pub drain_balance : (w : World) (k : WorkerId) (o : OpId) (i : InstanceId) → worker_at w.workers k ≡ Some (Place.Drain o i) → IsUnderWay w
    → (c : CtxId) → carries_after w o (drain_returned_of i) c ≡ carries w c
drain_balance w k o i at s c =
    let x = (inside_drain w k o i at s).0 in
    omega (arith, carried_changed w.flow o x.row (drain_returned_of i) x.at c, drain_returned_carries c i x.row)

-- contexts, streams and handles, whatever is under way
abbrev pub AreKept : World → Type 0
AreKept w = IsOwned w × IsFileSound w.files w.flow × AllPass (names_there w.files) w.contexts.slots

-- a callback of an operation that has its answer returns: streams and handles stay, and what has a link has it still
pub returned_kept : (old : World) (k : WorkerId) (a : Place) (o : OpId) (r : FlowRecord) (f : FlowRecord
    → FlowRecord) (after : ContextTable) → operation_at o old.flow ≡ Some r
    → worker_at old.workers k ≡ Some a → cleanup_in (Some a) ≡ None → SameFile r (f r) → Leaves (carries_after old o f) old.contexts after k.0
    → ((c : CtxId) → carries_after old o f c ≡ carries old c) → owed (f r).entries ≡ owed r.entries → ((j : ℕ) → flight j (f r) ≤ flight j r)
    → IsSound old → AreKept (record (returned old k o f) { contexts = after })
returned_kept old k a o r f after at worker outside same leaves balance owes fewer s = (
  left_owned old o r f k a old.contexts after at worker (worker_below old k a worker s.under_way) outside (lawful_alike (λ c. sym (balance c)) s.owned.lawful)
      refl refl refl leaves (subst (All (AskCarries old.stack old.contexts.slots)) (sym owes) (asks_of old o r at s.owned)) fewer s.owned,
  file_step old.files old.flow o r f at same s.filed,
  subst (AllPass (names_there old.files)) (sym leaves.slots) s.links,
)

pub returned_sound : (old : World) (k : WorkerId) (a : Place) (o : OpId) (r : FlowRecord) (f : FlowRecord
    → FlowRecord) (after : ContextTable) → operation_at o old.flow ≡ Some r
    → worker_at old.workers k ≡ Some a → cleanup_in (Some a) ≡ None → SameFile r (f r) → Leaves (carries_after old o f) old.contexts after k.0
    → ((c : CtxId) → carries_after old o f c ≡ carries old c) → owed (f r).entries ≡ owed r.entries → ((j : ℕ) → flight j (f r) ≤ flight j r)
    → IsUnderWay (returned old k o f) → NoneBegun old.stack (changed o f old.flow) → IsSound old → IsSound (record (returned old k o f) { contexts = after })
returned_sound old k a o r f after at worker outside same leaves balance owes fewer under_way begun s =
    let kept = returned_kept old k a o r f after at worker outside same leaves balance owes fewer s in
    record { under_way = under_way; owned = kept.0; begun = begun; filed = kept.1; links = kept.2 }

pub post_does : (old : World) (k : WorkerId) (given : PostVerdict) (lent : Option Data) (result : Result (Unit {0}) Status)
    (new : World) → PostReturns old k given lent result new
    → Does old new × (OnlyHandOf k.0 old new × HoldsNone k.0 result old new)
unfolding PostReturns
post_does old k given lent result new h = by_place lent (worker_at old.workers k) refl h
  where
    ends : (o : OpId) (f : FlowRecord → FlowRecord) → (result ≡ Ok tt) × ReturnsFrom old k o f old.contexts new
        → (IsSound old → IsSound (record (returned old k o f) { contexts = new.contexts })) → Ends old k result new
    ends o f e sound = subst (λ r. Ends old k r new) (sym e.0) (grind (arith, common_steps))

    by_place : (lent : Option Data) (m : Option Place) → worker_at old.workers k ≡ m → PostReturnsAt old k given lent result new m → Ends old k result new
    by_place (Some back) (Some (Place.Post o i)) at h = unless_by (λ r w. Ends old k r w) _ _ result old new _ h (none_ends old k)
        (λ fits e. ends o (post_returned_of given back) e (λ s.
        let x = inside_post old k o i at s.under_way in
        let r = x.0.row in
        let f = post_returned_of given back in
        let state = post_state given in
        returned_sound old k (Place.Post o i) o r f new.contexts x.0.at at refl (answered_same r (f r) refl refl (ap is_unanswered x.1)
        (elim given as (λ g. is_unanswered (post_leads (post_state g)) ≡ false) [ PostVerdict.Finished ↦ refl | PostVerdict.MoreProcessing ↦ refl ])) e.1.0
        (post_balance old k o i given back at s.under_way)
        (owed_post_settled PostRunning r.entries state refl (subst (λ x. IsCourse x r.entries) x.1 x.0.sound.course))
        (λ j. omega (arith, post_returned_flies j given back r x.1 x.0.sound))
        (return_keeps old k (Place.Post o i) o r f (λ j. 0) at x.0.at (λ x. record { number = refl; collected = refl })
        (subst (Matches o (Place.Post o i)) (sym (ap (λ a. spot_at a r.entries) x.1 ∙ ap (option_map AtPost) x.2)) (matches_post o i)) (post_quiet given)
        (in_no_drain o (Place.Post o i) (λ p j. refl)) (λ j. omega (arith, drains_post_settled j state r.entries)) (at_none (Place.Post o i) refl)
        (sound_post_returned given back r x.1 (sym (told_there (λ (x : FlowRecord). data_fits x.operation x.path back) false o old.flow
        r x.0.at) ∙ fits) x.0.sound)
        (undone_at r PostRunning x.1 refl)
        (among_settles old.stack r.volume r.below r.born r.operation r.entries r.stage (post_leads state) (settle_post state) (settle_post_keeps state)
        (not_base_of (post_leads state) (post_quiet given)) x.0.among) s.under_way) (goes_asked old.stack old.flow o r f x.0.at refl refl s.begun) s))
    by_place None (Some (Place.Drain o i)) at e = ends o (drain_returned_of i) e (λ s.
        let x = inside_drain old k o i at s.under_way in
        let r = x.0.row in
        let f = drain_returned_of i in
        let runs = subst (λ x. flow.HasItsDrain x r.entries) x.1 x.0.sound.course.drain in
        let even : (j : ℕ) → drain_opens j (f r).entries + one (i.0 == j) ≡ drain_opens j r.entries = λ j.
        let ends : cond (i.0 == j) (drain_opens i.0 r.entries) 0 ≡ one (i.0 == j) = ap (λ n. cond (i.0 == j) n 0) runs in
        omega (arith, drains_drain_settled i.0 j r.entries, ends) in
        returned_sound old k (Place.Drain o i) o r f new.contexts x.0.at at refl (answered_same r (f r) refl refl (ap is_unanswered x.1) refl) e.1.0
        (drain_balance old k o i at s.under_way) (owed_drain_settled i.0 r.entries) (λ j. omega (arith, drain_returned_flies j i r x.1 x.0.sound))
        (return_keeps old k (Place.Drain o i) o r f (λ j. one (i.0 == j)) at x.0.at (λ x. record { number = refl; collected = refl })
        (subst (Matches o (Place.Drain o i)) (sym (ap (λ a. spot_at a r.entries) x.1)) (matches_drain o i)) refl (in_a_drain o i) even
        (at_none (Place.Drain o i) refl)
        (sound_drain_returned i r x.1 x.0.sound) (undone_at r (InDrain i) x.1 refl)
        (among_settles old.stack r.volume r.below r.born r.operation r.entries r.stage Ascending (settle_drain i.0) (settle_drain_keeps i.0)
        (not_base_of Ascending refl) x.0.among) s.under_way) (goes_asked old.stack old.flow o r f x.0.at refl refl s.begun) s)
    by_place None (Some (Place.Post o i)) at h = refused_by (λ r w. Ends old k r w) Status.BadRequest result old new h (none_ends old k)
    by_place (Some back) (Some (Place.Drain o i)) at h = refused_by (λ r w. Ends old k r w) Status.BadRequest result old new h (none_ends old k)
    by_place _ _ at h = refused_by (λ r w. Ends old k r w) Status.WrongStep result old new h (none_ends old k)
