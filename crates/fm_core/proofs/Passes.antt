-- An operation passes an instance in one event, which is two of the model: `next`, and the return of the callback that it calls.
use Rattle.fm_core.proofs.Words.{FindsAt, IsState, IsTied, Ends, back_in, kept_brought, Sweeping, is_lost_of, ComesDown, ComesUp, known_in, target_in, Target}
use Rattle.fm_core.proofs.Words.{ContextsKept, idle_there, told_there, post_does, pre_does, next_does, drains_next, Place, Bool, Err, IfSome, List, None, Ok}
use Rattle.fm_core.proofs.Words.{Option, Some, [], ap, arith, cond, false, inl, inr, is_some, refl, subst, suc, sym, true, ℕ, ◌<◌, ◌==◌, ◌∙◌, ◌∷◌, ◌≡◌, ◌≤◌}
use Rattle.fm_core.proofs.Words.{nat_tests, hand_of, Context, Slot, Data, data_fits, Params, PreVerdict, owed, FlowRecord, next_of, post_returned_of}
use Rattle.fm_core.proofs.Words.{pre_returned_of, FlowTable, changed, is_number, operation_at, told, Below, FlowAction, Ask, PreState, found_holds, InstanceId}
use Rattle.fm_core.proofs.Words.{OpId, WorkerId, Status, Nexts, PostReturns, PreReturns, drains_at, flow_after_next, state_at, state_given, FileTable}
use Rattle.fm_core.proofs.Words.{names_there, after_next, is_idle, put, worker_at, World, All, length, option_map, slice_get, slice_set, cases_Bool, false≢true}
use Rattle.fm_core.proofs.Words.{All-weaker, same_Some, slice_get_within}
use Rattle.fm_world.proofs.Words.{Turned, ascend, call_post, call_pre, done_at, give_post, is_done, next_at, turn, with_visit, Ascending, Descending}
use Rattle.fm_world.proofs.Words.{find_changed, slice_get-set_same, OnlyHandOf, nat_le}
use Rattle.std.proofs.Common.{zero}
use Rattle.fm_callback_data.specs.Data.{answered_data, fresh_data}
use Rattle.fm_callback_data.specs.Params.{fit}
use Rattle.fm_operations.specs.Steps.{lent_answer, passed_up, stands, unwound}
use Rattle.fm_operations.proofs.Next.{Unwinds, next_stays, unwinds}
use Rattle.fm_operations.proofs.Passing.{down_whole, up_whole, undone}
use Rattle.fm_operations.proofs.Soundness.{at_stage}
use Rattle.fm_world.specs.Events.{is_stopping_ask}
use Rattle.fm_core.specs.Passing.{PassesDown, PassesUp, numbered}
use Rattle.fm_core.proofs.Changes.{change_twice}
use Rattle.fm_core.proofs.Holding.{tied_ends}
use Rattle.fm_core.proofs.Losing.{Agrees, sweeps_none}
use Rattle.fm_core.proofs.Operated.{Goes, next_leads, next_tied, post_returns, post_tied, pre_returns, pre_tied}
use Rattle.fm_callback_data.specs.declared.verdict.PostVerdict.TheVariants as over
use Rattle.fm_operations.specs.Sound as flow

-- ---- workers

-- a worker that goes somewhere and comes back is where it was
put_back : (workers : List Place) (k : ℕ) (a b : Place) → slice_get workers k ≡ Some a → workers ≡ slice_set (slice_set workers k b) k a
put_back [] k a b at = cc
put_back (x ∷ workers) zero a b at = let e : x ≡ a = cc in ap (λ (y : Place). y ∷ workers) e
put_back (x ∷ workers) (suc k) a b at = ap (λ (ws : List Place). x ∷ ws) (put_back workers k a b at)

-- ---- operations

here_some : {A : Type 0} (m : Option A) → is_some m ≡ true → (a : A) × (m ≡ Some a)
here_some None h = absurd (false≢true h)
here_some (Some a) h = (a, refl)

-- one that isn't done wasn't collected
uncollected : (r : FlowRecord) → flow.IsSound r → is_done r ≡ false → r.collected ≡ false
uncollected r h undone = elim (cases_Bool r.collected) [
  | inl out ↦ absurd (false≢true (sym undone ∙ h.collected out))
  | inr kept ↦ kept
]

own_params : (r : FlowRecord) (p : Params) → r.params ≡ Some p → flow.IsSound r → fit r.operation r.path p ≡ true
own_params r p has h = subst (λ m. IfSome m (λ q. fit r.operation r.path q ≡ true)) has h.params

-- data that holds what it received, with a short answer
fits_plain : (r : FlowRecord) (d : Data) → fit r.operation r.path d.received ≡ true → d.changed ≡ None → length d.out < 32769
    → data_fits r.operation r.path d ≡ true
fits_plain r d own same short =
    let e : nat_le (length d.out) 32768 ≡ true = grind (arith, nat_tests, short) in
    rw (own, same, e) refl

number_kept : (o : OpId) (k : WorkerId) (lies : Below) (stops : Bool) (r : FlowRecord) → is_number o (next_of k lies stops r).after ≡ is_number o r
number_kept o k lies stops r = ap (λ n. n == o.0) (next_stays k lies stops r).number

-- two steps of one operation are one
whole_change : (t : FlowTable) (o : OpId) (r : FlowRecord) (f g h : FlowRecord → FlowRecord) → operation_at o t ≡ Some r
    → ((x : FlowRecord) → is_number o (f x) ≡ is_number o x)
    → g (f r) ≡ h r → changed o h t ≡ changed o g (changed o f t)
whole_change t o r f g h at same whole =
    ap (λ (rs : List FlowRecord). record t { operations = rs })
    (sym (change_twice (is_number o) f g h t.operations same (λ x is. subst (λ (y : FlowRecord). g (f y) ≡ h y) (same_Some r x (sym at ∙ is)) whole)))

-- ---- links

-- nothing that links name is gone, so a look for what is gone changes nothing
nothing_swept : (f : FileTable) (x : Target) (kept : ContextsKept)
    → All (λ (s : Slot). names_there f s.context ≡ true) kept.table.slots → Sweeping (is_lost_of f x) kept kept
nothing_swept f x kept links = record {
  sweeps = sweeps_none _ (is_lost_of f x) kept.table
      (All-weaker (λ (s : Slot). names_there f s.context ≡ true) (Agrees (λ y. false) (is_lost_of f x))
      (λ s there y is. here y (sym (ap (names_there f) is) ∙ there)) kept.table.slots links);
  carried = refl;
}
  where
    here : (y : Context) → names_there f (Some y) ≡ true → false ≡ is_lost_of f x y
    here y there = grind (arith, there)

-- ---- the first of the two

-- `next` calls a callback for an idle worker, and nothing comes back with it
record Calls (old : World) (kept : ContextsKept) (k : WorkerId) (o : OpId) (r : FlowRecord) (lies : Below) (a : FlowAction) (called : FlowRecord) : Type 0 where
  pub state : IsState old kept
  pub same : old.contexts ≡ kept.table
  pub matched : length kept.carried ≡ length kept.table.slots
  pub idle : is_idle (worker_at old.workers k) ≡ true
  pub there : operation_at o old.flow ≡ Some r
  pub finds : FindsAt old.stack old.files old.flow r lies
  pub turns : next_of k lies (drains_at old o) r ≡ turn (Ok a) called
  pub brings : kept ≡ kept_brought kept k.0 (back_in a)
  pub unknown : known_in a lies ≡ None

module _ {old : World} {kept : ContextsKept} {k : WorkerId} {o : OpId} {r : FlowRecord} {lies : Below} {a : FlowAction}
    {called : FlowRecord} (h : Calls old kept k o r lies a called) where
  abbrev flow_between : FlowTable
  flow_between = flow_after_next old k o lies

  goes_on : Goes old k o r lies (Ok a) flow_between
  goes_on = record {
    at = h.there;
    finds = h.finds;
    reply = sym (told_there (λ (x : FlowRecord). (next_of k lies (drains_at old o) x).reply)
        (Err Status.WrongStep) o old.flow r h.there ∙ ap (λ (t : Turned). t.reply) h.turns);
    after = refl;
  }

  abbrev between : World
  between = record old { flow = flow_between; workers = after_next old.workers k o (Ok a); contexts = kept.table }

  nexts : Nexts old k o (Ok a) between
  nexts = next_leads k o r lies a flow_between (after_next old.workers k o (Ok a)) kept h.state refl h.idle goes_on refl h.same h.brings h.unknown

  state_between : IsState between kept
  state_between = record {
    sound = (next_does _ _ _ _ _ nexts).0.sound h.state.sound;
    tied =
        next_tied k o r lies a flow_between kept h.state goes_on h.matched h.brings;
  }

  there_between : operation_at o flow_between ≡ Some called
  there_between =
      find_changed (is_number o) (λ x. (next_of k lies (drains_at old o) x).after) old.flow.operations (number_kept o k lies (drains_at old o))
      ∙ ap (option_map (λ (x : FlowRecord). (next_of k lies (drains_at old o) x).after)) h.there ∙ ap (λ (t : Turned). Some t.after) h.turns

  -- what the callback's return makes of the operation then, as one step from before
  flow_whole : (step whole : FlowRecord → FlowRecord) → step called ≡ whole r → changed o whole old.flow ≡ changed o step flow_between
  flow_whole step whole is =
      whole_change old.flow o r (λ x. (next_of k lies (drains_at old o) x).after) step whole h.there
      (number_kept o k lies (drains_at old o)) (ap (λ (t : Turned). step t.after) h.turns ∙ is)

  -- where the worker is
  within : k.0 < length old.workers
  within = slice_get_within old.workers k.0 Place.Idle (idle_there old.workers k h.idle)

-- ---- on the way down

module _ {old : World} {kept : ContextsKept} (k : WorkerId) (o : OpId) (i : InstanceId) (n : ℕ) (s : IsState old kept) (same : old.contexts ≡ kept.table)
    (matched : length kept.carried ≡ length kept.table.slots) (d : ComesDown old k o i) where
  sound_down : flow.IsSound d.operation
  sound_down = found_holds flow.IsSound (is_number o) old.flow.operations d.operation s.sound.under_way.flow.sound d.there

  has_down : (p : Params) × (d.operation.params ≡ Some p)
  has_down = here_some d.operation.params (at_stage d.operation Descending d.next.stage sound_down).1

  abbrev lent_down : Data
  lent_down = fresh_data has_down.0

  abbrev called_down : FlowRecord
  called_down = (call_pre k i d.operation (Some has_down.0)).after

  calls_pre : (stops : Bool) → next_of k (Below.Instance i true) stops d.operation ≡ call_pre k i d.operation (Some has_down.0)
  calls_pre stops =
      let r = d.operation in
      let undone : is_done r ≡ false = ap (λ st. done_at st (owed r.entries)) d.next.stage in
      ap (λ c. cond c (turn (Err Status.WrongStep) r) (next_at k (Below.Instance i true) stops r r.stage)) (uncollected r sound_down undone)
      ∙ ap (next_at k (Below.Instance i true) stops r) d.next.stage ∙ ap (call_pre k i r) has_down.1

  calls_down : Calls old kept k o d.operation (Below.Instance i true) (FlowAction.Pre i lent_down) called_down
  calls_down = record {
    state = s;
    same = same;
    matched = matched;
    idle = d.idle;
    there = d.there;
    finds = λ e. (d.next.lies, tt);
    turns = calls_pre (drains_at old o);
    brings = refl;
    unknown = refl;
  }

  at_down : worker_at (between calls_down).workers k ≡ Some (Place.Pre o i)
  at_down = slice_get-set_same old.workers k.0 (Place.Pre o i) (within calls_down)

  abbrev asked_down : PreState
  asked_down = PreState.Asked (numbered n)

  abbrev given_down : PreVerdict
  given_down = PreVerdict.WithCallback (numbered n)

  counts_down : asked_down ≡ state_at (between calls_down) k o i given_down
  counts_down =
      sym (told_there (state_given old.stack (hand_of kept.table.hands k.0) i given_down) PreState.Passed o
      (flow_between calls_down) called_down (there_between calls_down)
      ∙ ap (λ has. cond has asked_down PreState.Passed) d.next.asks)

  abbrev step_down : FlowRecord → FlowRecord
  step_down = pre_returned_of asked_down lent_down

  fits_down : told (λ (y : FlowRecord). data_fits y.operation y.path lent_down) false o (flow_between calls_down) ≡ true
  fits_down =
      told_there (λ (y : FlowRecord). data_fits y.operation y.path lent_down) false o (flow_between calls_down) called_down (there_between calls_down)
      ∙ fits_plain d.operation lent_down (own_params d.operation has_down.0 has_down.1 sound_down) refl (omega arith)

  whole_down : changed o (with_visit k i asked_down) old.flow ≡ changed o step_down (flow_between calls_down)
  whole_down = flow_whole calls_down step_down (with_visit k i asked_down)
      (down_whole k i (numbered n) d.operation has_down.0 d.next.stage has_down.1 sound_down)

  tied_down : IsTied kept (changed o step_down (flow_between calls_down))
  tied_down = pre_tied k o i given_down lent_down asked_down None (state_between calls_down) at_down counts_down refl refl matched

  module _ {now : World} {t : FlowTable} {after : ContextsKept} (now_is : old ≡ now)
      (flow_is : t ≡ changed o (with_visit k i asked_down) old.flow) (ends : Ends kept after k.0) where
    abbrev new_down : World
    new_down = record old { flow = t; contexts = after.table }

    returns_down : PreReturns (between calls_down) k given_down lent_down (Ok tt) new_down
    returns_down =
        let workers = put_back old.workers k.0 Place.Idle (Place.Pre o i) (idle_there old.workers k d.idle) in
        let flow = flow_is ∙ whole_down in
        let links = subst (λ (slots : List Slot). All (λ (x : Slot). names_there old.files x.context ≡ true) slots)
        (sym ends.leaves.slots) (state_between calls_down).sound.links in
        let new_is : ◌≡◌ {A = World} (record (between calls_down) {
          flow = changed o step_down (flow_between calls_down);
          workers = put (between calls_down).workers k Place.Idle;
          contexts = after.table;
          files = old.files;
        }) new_down = cc in
        subst (PreReturns (between calls_down) k given_down lent_down (Ok tt)) new_is
        (pre_returns k o i called_down given_down lent_down asked_down None (changed o step_down (flow_between calls_down))
        (put (between calls_down).workers k Place.Idle) after after
        old.files (target_in called_down) (state_between calls_down) refl at_down (there_between calls_down) counts_down refl
        (fits_down, refl) refl refl ends tied_down refl refl
        (nothing_swept old.files (target_in called_down) after links))

    pub passes_down : PassesDown now k o i (numbered n) new_down
    passes_down = subst (λ (w : World). PassesDown w k o i (numbered n) new_down) now_is (lent_down, between calls_down, nexts calls_down, returns_down)

    pub passed_down_hand : OnlyHandOf k.0 now new_down
    passed_down_hand =
        let goes = ((next_does _ _ _ _ _ (nexts calls_down)).1 s.sound).0 in
        let comes = (pre_does _ _ _ _ _ _ returns_down).1.0 in
        subst (λ (w : World). OnlyHandOf k.0 w new_down) now_is (omega (arith, goes, comes))

    pub passed_down_state : IsState new_down after
    passed_down_state = record {
      sound = (pre_does _ _ _ _ _ _ returns_down).0.sound (state_between calls_down).sound;
      tied = subst (IsTied after) (sym (flow_is ∙ whole_down)) (tied_ends kept after k.0 (changed o step_down (flow_between calls_down)) ends tied_down);
    }

-- ---- on the way up

module _ {old : World} {kept : ContextsKept} (k : WorkerId) (o : OpId) (ask : Ask) (s : IsState old kept) (same : old.contexts ≡ kept.table)
    (matched : length kept.carried ≡ length kept.table.slots) (d : ComesUp old k o ask) where
  sound_up : flow.IsSound d.operation
  sound_up = found_holds flow.IsSound (is_number o) old.flow.operations d.operation s.sound.under_way.flow.sound d.there

  -- with its parameters put back
  abbrev back_up : FlowRecord
  back_up = unwound ask.place d.operation

  unwinds_up : Unwinds d.operation back_up
  unwinds_up = unwinds ask.place d.operation (slice_get d.operation.kept ask.place) refl d.next.stage

  has_up : (p : Params) × (back_up.params ≡ Some p)
  has_up = here_some back_up.params (at_stage back_up Ascending (unwinds_up.stage ∙ d.next.stage) (unwinds_up.sound sound_up)).1

  abbrev lent_up : Data
  lent_up = answered_data has_up.0 (lent_answer back_up.operation back_up.answer)

  abbrev called_up : FlowRecord
  called_up = (give_post k ask back_up (Some has_up.0)).after

  calls_post : next_of k Below.Call (drains_at old o) d.operation ≡ give_post k ask back_up (Some has_up.0)
  calls_post =
      let r = d.operation in
      let stops : drains_at old o ≡ false =
      told_there (drains_next old.stack) false o old.flow r d.there ∙ ap (is_stopping_ask old.stack) d.next.owes ∙ d.next.runs in
      ap (λ c. cond c (turn (Err Status.WrongStep) r) (next_at k Below.Call (drains_at old o) r r.stage))
      (uncollected r sound_up (undone k ask r d.next.stage d.next.owes))
      ∙ ap (next_at k Below.Call (drains_at old o) r) d.next.stage ∙ ap (ascend k (drains_at old o) r) d.next.owes ∙ ap (λ b. ascend k b r (Some ask)) stops
      ∙ ap (λ b. cond b (call_post k ask r) (turn (Err Status.WrongStep) r)) d.next.may ∙ ap (give_post k ask back_up) has_up.1

  calls_up : Calls old kept k o d.operation Below.Call (FlowAction.Post ask.instance lent_up ask.completion) called_up
  calls_up = record {
    state = s;
    same = same;
    matched = matched;
    idle = d.idle;
    there = d.there;
    finds = λ e. let up = d.next.stage in cc;
    turns = calls_post;
    brings = sym (ap (kept_brought kept k.0) d.next.bare);
    unknown = refl;
  }

  at_up : worker_at (between calls_up).workers k ≡ Some (Place.Post o ask.instance)
  at_up = slice_get-set_same old.workers k.0 (Place.Post o ask.instance) (within calls_up)

  abbrev step_up : FlowRecord → FlowRecord
  step_up = post_returned_of over.Finished lent_up

  short_up : length (lent_answer back_up.operation back_up.answer).bytes < 32769
  short_up = let h = (unwinds_up.sound sound_up).bytes in by_test (stands back_up.operation) h
    where
      by_test : (b : Bool) → length back_up.answer.bytes ≤ 32768 → length (cond b (record back_up.answer { bytes = [] }) back_up.answer).bytes < 32769
      by_test true h = omega arith
      by_test false h = omega (arith, h)

  fits_up : told (λ (y : FlowRecord). data_fits y.operation y.path lent_up) false o (flow_between calls_up) ≡ true
  fits_up =
      told_there (λ (y : FlowRecord). data_fits y.operation y.path lent_up) false o (flow_between calls_up) called_up (there_between calls_up)
      ∙ fits_plain back_up lent_up (own_params back_up has_up.0 has_up.1 (unwinds_up.sound sound_up)) refl short_up

  whole_up : changed o (passed_up k ask) old.flow ≡ changed o step_up (flow_between calls_up)
  whole_up = flow_whole calls_up step_up (passed_up k ask) (up_whole k ask back_up has_up.0 (unwinds_up.stage ∙ d.next.stage) has_up.1
      (unwinds_up.sound sound_up))

  module _ {now : World} {t : FlowTable} {after : ContextsKept} (now_is : old ≡ now)
      (flow_is : t ≡ changed o (passed_up k ask) old.flow) (ends : Ends kept after k.0) where
    abbrev new_up : World
    new_up = record old { flow = t; contexts = after.table }

    returns_up : PostReturns (between calls_up) k over.Finished (Some lent_up) (Ok tt) new_up
    returns_up =
        let workers = put_back old.workers k.0 Place.Idle (Place.Post o ask.instance) (idle_there old.workers k d.idle) in
        let flow = flow_is ∙ whole_up in
        let new_is : ◌≡◌ {A = World} (record (between calls_up) {
          flow = changed o step_up (flow_between calls_up);
          workers = put (between calls_up).workers k Place.Idle;
          contexts = after.table;
        }) new_up = cc in
        subst (PostReturns (between calls_up) k over.Finished (Some lent_up) (Ok tt)) new_is
        (post_returns k o ask.instance over.Finished lent_up (changed o step_up (flow_between calls_up))
        (put (between calls_up).workers k Place.Idle) after (state_between calls_up) refl
        at_up (fits_up, refl) refl refl ends)

    pub passes_up : PassesUp now k o ask.instance new_up
    passes_up = subst (λ (w : World). PassesUp w k o ask.instance new_up) now_is (lent_up, ask.completion, between calls_up, nexts calls_up, returns_up)

    pub passed_up_hand : OnlyHandOf k.0 now new_up
    passed_up_hand =
        let goes = ((next_does _ _ _ _ _ (nexts calls_up)).1 s.sound).0 in
        let comes = (post_does _ _ _ _ _ _ returns_up).1.0 in
        subst (λ (w : World). OnlyHandOf k.0 w new_up) now_is (omega (arith, goes, comes))

    pub passed_up_state : IsState new_up after
    passed_up_state = record {
      sound = (post_does _ _ _ _ _ _ returns_up).0.sound (state_between calls_up).sound;
      tied = subst (IsTied after) (sym (flow_is ∙ whole_up))
          (tied_ends kept after k.0 (changed o step_up (flow_between calls_up)) ends
          (post_tied k o ask.instance over.Finished lent_up (state_between calls_up) at_up));
    }
