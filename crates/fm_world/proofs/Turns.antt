-- What `next` does.
use Rattle.fm_world.proofs.Words.{lawful_alike, bring_keeps, Completion, drains_given, next_drains, bare_answer, carried_in, handed, is_unanswered, times}
use Rattle.fm_world.proofs.Words.{way_of, MayLieBelow, Turned, ascend, bare_ask, call_base, call_post, call_pre, descend, give_post, may_take, next_at, next_of}
use Rattle.fm_world.proofs.Words.{turn, unwound_to, with_base, with_drain, with_visit, is_number, is_spent, Below, Drain, Post, PostState, PostVisit, PreVisit}
use Rattle.fm_world.proofs.Words.{Ascending, PostHeld, PreHeld, IsStack, change_none, found_holds, is_among, FindsBelow, LiesBelow, LosesByKnown, Nexts}
use Rattle.fm_world.proofs.Words.{NextsAt, NextsOver, brought, carries_after, drains_at, filed_next, flow_after_next, received, FileTable, HoldsMore}
use Rattle.fm_world.proofs.Words.{OnlyHandOf, given_by_next, given_with, AtPost, AtPre, Spot, is_in_at, is_spot, spot_of, LosesLinks, AskCarries, CarriesIn}
use Rattle.fm_world.proofs.Words.{HoldsIn, is_flown_by, place_in, row_at, AreUnderWay, IsAmong, IsFileSound, IsOwned, IsSound, IsUnderWay, Ask, ContextTable}
use Rattle.fm_world.proofs.Words.{CtxId, Descending, FlowAction, FlowRecord, FlowTable, InBase, InDrain, InstanceId, OpId, Params, PostRunning, PreRunning}
use Rattle.fm_world.proofs.Words.{PreState, Slot, StackWorld, Stage, Status, WorkerId, change_first, changed, grabbed, hand_of, has_base, in_flight, is_create}
use Rattle.fm_world.proofs.Words.{is_creating, one, operation_at, owed, visited, after_next, cleanup_in, gives_nothing, put, worker_at, World, carries, Place}
use Rattle.fm_world.proofs.Words.{All, Bool, Err, List, None, Ok, Option, Result, Some, [], ap, arith, cond, false, find, length, option_map, refl, slice_get}
use Rattle.fm_world.proofs.Words.{slice_set, subst, sym, take, true, unwrap_or, ℕ, ◌&&◌, ◌++◌, ◌+◌, ◌<◌, ◌==◌, ◌∙◌, ◌∷◌, ◌≡◌, false≢true, set-get_or, All-cons}
use Rattle.fm_world.proofs.Words.{All-nil, get_or_from_slice_get, none-some, slice_get_within}
use Rattle.fm_operations.proofs.Next.{next_carries, next_enters, next_flies, next_needed, next_stays, sound_next, MayAsk, WasOwed, next_owes}
use Rattle.fm_world.proofs.Asking.{goes_asked}
use Rattle.fm_world.proofs.Amongs.{among_base, among_other, among_visits, is_up, no_base, post_last, visit_last}
use Rattle.fm_world.proofs.Callbacks.{same_hands}
use Rattle.fm_world.proofs.Cases.{by_option}
use Rattle.fm_world.proofs.Descents.{next_unseen, room_is}
use Rattle.fm_world.proofs.Events.{idle_by, refused_by}
use Rattle.fm_world.proofs.Filed.{IsAnswered, SameFile, file_answered, file_step}
use Rattle.fm_world.proofs.Flowing.{asks_of, carried_changed, carry_changed, flight_changed, flow_owned, step_owned}
use Rattle.fm_world.proofs.Keeps.{FiledIn, worker_below}
use Rattle.fm_world.proofs.Losing.{loses_sound}
use Rattle.fm_world.proofs.Operations.{step_keeps, told_there}
use Rattle.fm_world.proofs.Owning.{empty_hand}
use Rattle.fm_world.proofs.Staying.{Does, Gives, HandMore, hand_given, loses_lasts, nothing, table_same}
use Rattle.fm_world.proofs.Ties.{InNoCallback, at_none, BalancesSpots, InDrains, Matches, drains_balance, in_a_drain, in_no_drain, is_running, matches_drain}
use Rattle.fm_world.proofs.Ties.{matches_idle, matches_post, matches_pre, quiet_is_nowhere, spots_balance, standing}
use Rattle.fm_operations.specs.Sound as flow

-- ---- what it makes of an operation, decided once

-- P of each thing that it may answer and make of the operation
pub record EachTurn (P : Turned → Type 0) (k : WorkerId) (lies : Below) (r : FlowRecord) : Type 0 where
  -- nothing to do
  pub rests : (reply : Result FlowAction Status) → gives_nothing reply ≡ true → P (turn reply r)
  -- on the way down: the instance is called, or passes; the base is called, or its answer is known
  pub calls : (i : InstanceId) (p : Params) → r.stage ≡ Descending → lies ≡ Below.Instance i true → P (call_pre k i r (Some p))
  pub skips : (i : InstanceId) → r.stage ≡ Descending → lies ≡ Below.Instance i false → P (turn (Ok FlowAction.Moved) (with_visit k i bare_ask r))
  pub asks : (p : Params) → r.stage ≡ Descending → lies ≡ Below.Call → P (call_base r (Some p))
  pub knows : (why : Status) → r.stage ≡ Descending → lies ≡ Below.Known why → P (turn (Ok FlowAction.Moved) (with_base (bare_answer why) r))
  -- on the way up: a drain, or a postoperation over the parameters that were put back
  pub drains : (ask : Ask) → r.stage ≡ Ascending → P (turn (Ok (FlowAction.Drain ask.instance ask.completion))
      (with_drain ask.instance (InDrain ask.instance) r))
  pub posts : (ask : Ask) (m : Option Params) (kept : List Params) (p : Params) → r.stage ≡ Ascending
      → P (give_post k ask (record r { params = m; kept = kept }) (Some p))

each_turn : (P : Turned → Type 0) (k : WorkerId) (lies : Below) (stops : Bool) (r : FlowRecord) → EachTurn P k lies r → P (next_of k lies stops r)
each_turn P k lies stops r each = elim r.collected as (λ b. P (cond b (turn (Err Status.WrongStep) r) (next_at k lies stops r r.stage))) [
  | true ↦ each.rests (Err Status.WrongStep) refl
  | false ↦ at r.stage refl
]
  where
    called : (i : InstanceId) (m : Option Params) → r.stage ≡ Descending → lies ≡ Below.Instance i true → P (call_pre k i r m)
    called i (Some p) e is = each.calls i p e is
    called i None e is = each.rests (Err Status.WrongStep) refl

    asked : (m : Option Params) → r.stage ≡ Descending → lies ≡ Below.Call → P (call_base r m)
    asked (Some p) e is = each.asks p e is
    asked None e is = each.rests (Err Status.WrongStep) refl

    down : (l : Below) → r.stage ≡ Descending → lies ≡ l → P (descend k l r)
    down (Below.Instance i true) e is = called i r.params e is
    down (Below.Instance i false) e is = each.skips i e is
    down Below.Call e is = asked r.params e is
    down (Below.Known why) e is = each.knows why e is

    kept : (ask : Ask) (m : Option Params) → r.stage ≡ Ascending → P (give_post k ask r m)
    kept ask (Some p) e = each.posts ask r.params r.kept p e
    kept ask None e = each.rests (Err Status.WrongStep) refl

    posted : (ask : Ask) (m : Option Params) → r.stage ≡ Ascending → P (give_post k ask (unwound_to ask.place r m) (unwound_to ask.place r m).params)
    posted ask (Some p) e = each.posts ask (Some p) (take ask.place r.kept) p e
    posted ask None e = kept ask r.params e

    taken : (ask : Ask) (b : Bool) → r.stage ≡ Ascending → P (cond b (call_post k ask r) (turn (Err Status.WrongStep) r))
    taken ask true e = posted ask (slice_get r.kept ask.place) e
    taken ask false e = each.rests (Err Status.WrongStep) refl

    up : (b : Bool) (m : Option Ask) → r.stage ≡ Ascending → P (ascend k b r m)
    up b None e = each.rests (Ok FlowAction.Done) refl
    up true (Some ask) e = each.drains ask e
    up false (Some ask) e = taken ask (may_take k ask) e

    at : (stage : Stage) → r.stage ≡ stage → P (next_at k lies stops r stage)
    at Descending e = down lies e refl
    at Ascending e = up stops (slice_get (owed r.entries) 0) e
    at PreHeld e = each.rests (Ok FlowAction.Held) refl
    at PostHeld e = each.rests (Ok FlowAction.Held) refl
    at _ e = each.rests (Err Status.WrongStep) refl

-- ---- what it makes of a World

-- the context that comes back with a completion
abbrev pub back_by : Result FlowAction Status → Option CtxId
back_by (Ok (FlowAction.Post i lent completion)) = completion.context
back_by (Ok (FlowAction.Drain i completion)) = completion.context
back_by _ = None

-- a table after `next` is as before, or has one more in the worker's hand
received_by : (P : Option CtxId → ContextTable → Type 0) (t : ContextTable) (k : WorkerId) (result : Result FlowAction Status) → P None t
    → ((c : CtxId) → P (Some c) (grabbed t k.0 c)) → P (back_by result) (received t k result)
received_by P t k result h4 h5 = grind arith

-- what `next` makes of an operation, and of the World before links go
abbrev pub turned_by : World → WorkerId → OpId → Below → FlowRecord → Turned
turned_by old k o lies r = next_of k lies (drains_at old o) r

abbrev pub nexted : World → WorkerId → OpId → Below → Result FlowAction Status → World
nexted old k o lies reply = record old {
  flow = flow_after_next old k o lies;
  workers = after_next old.workers k o reply;
  contexts = received old.contexts k reply;
  files = filed_next old o (flow_after_next old k o lies) reply lies;
}

-- a `next` by an idle worker that found its operation
pub record Turns (old : World) (k : WorkerId) (o : OpId) (new : World) : Type 0 where
  pub lies : Below
  pub row : FlowRecord
  pub idle : worker_at old.workers k ≡ Some Place.Idle
  pub at : operation_at o old.flow ≡ Some row
  pub finds : row.stage ≡ Descending → LiesBelow old.stack row lies
  pub loses : LosesByKnown (turned_by old k o lies row).reply lies (nexted old k o lies (turned_by old k o lies row).reply) new

pub unchanged_flow : (t : FlowTable) (o : OpId) (f : FlowRecord → FlowRecord) → operation_at o t ≡ None → changed o f t ≡ t
unchanged_flow t o f h = ap (λ (rs : List FlowRecord). record t { operations = rs }) (change_none (λ r. r.number.0 == o.0) f t.operations h)

-- nothing changes where there is no such operation
not_there : (old : World) (k : WorkerId) (o : OpId) (lies : Below) → operation_at o old.flow ≡ None → nexted old k o lies (Err Status.WrongStep) ≡ old
not_there old k o lies at = ap (λ t. record old { flow = t }) (unchanged_flow old.flow o (λ (x : FlowRecord). (next_of k lies (drains_at old o) x).after) at)

-- where links go by a known answer; and where nothing goes, and streams and handles stay
known_cases : (P : World → Type 0) (old : World) (o : OpId) (t : FlowTable) (result : Result FlowAction Status) (lies : Below) (mid new : World)
    → LosesByKnown result lies mid new → (LosesLinks mid new → P new) → (filed_next old o t result lies ≡ old.files → P mid) → P new
known_cases P old o t result lies mid new h lost same = grind arith

-- ---- where nothing is to do

next_rests : (k : WorkerId) (lies : Below) (drains : Bool) (r : FlowRecord) → gives_nothing (next_of k lies drains r).reply ≡ true
    → (next_of k lies drains r).after ≡ r
next_rests k lies drains r h4 = grind arith

-- the first that passes stays as it is
change_same : {A : Type 0} (test : A → Bool) (f : A → A) (rs : List A) (r : A) → find test rs ≡ Some r → f r ≡ r → change_first test f rs ≡ rs
change_same test f [] r found same = absurd (none-some r found)
change_same test f (x ∷ rs) r found same = grind (arith, (change_same test f rs r))

over_rests : (old : World) (k : WorkerId) (o : OpId) (lies : Below) (result : Result FlowAction Status) (new : World)
    → LosesByKnown result lies (nexted old k o lies result) new
    → gives_nothing result ≡ true → flow_after_next old k o lies ≡ old.flow → new ≡ old
over_rests old k o lies result new loses h same = grind arith

-- ---- what is under way

abbrev pub placed_by : OpId → Result FlowAction Status → Place
placed_by o (Ok (FlowAction.Pre i lent)) = Place.Pre o i
placed_by o (Ok (FlowAction.Base call)) = Place.Base o
placed_by o (Ok (FlowAction.Post i lent completion)) = Place.Post o i
placed_by o (Ok (FlowAction.Drain i completion)) = Place.Drain o i
placed_by o _ = Place.Idle

pub record Placed (o : OpId) (reply : Result FlowAction Status) : Type 0 where
  pub drains : InDrains o (placed_by o reply) (λ i. drains_given i reply)
  pub outside : InNoCallback (placed_by o reply)
  pub puts : (workers : List Place) (k : WorkerId) → worker_at workers k ≡ Some Place.Idle → after_next workers k o reply ≡ put workers k (placed_by o reply)

pub placed : (o : OpId) (reply : Result FlowAction Status) → Placed o reply
placed o (Ok (FlowAction.Drain i completion)) = record { drains = in_a_drain o i; outside = at_none (Place.Drain o i) refl; puts = λ workers k idle. refl }
placed o (Ok (FlowAction.Pre i lent)) = record {
  drains = in_no_drain o (Place.Pre o i) (λ p j. refl);
  outside =
      at_none (Place.Pre o i) refl;
  puts = λ workers k idle. refl;
}
placed o (Ok (FlowAction.Base call)) = record {
  drains = in_no_drain o (Place.Base o) (λ p j. refl);
  outside =
      at_none (Place.Base o) refl;
  puts = λ workers k idle. refl;
}
placed o (Ok (FlowAction.Post i lent completion)) = record {
  drains = in_no_drain o (Place.Post o i) (λ p j. refl);
  outside =
      at_none (Place.Post o i) refl;
  puts = λ workers k idle. refl;
}
placed o _ = record {
  drains = in_no_drain o Place.Idle (λ p j. refl);
  outside = at_none Place.Idle refl;
  puts = λ workers k idle. sym (ap (put workers k) (sym (get_or_from_slice_get workers k.0 Place.Idle Place.Idle idle)) ∙ set-get_or workers k.0 Place.Idle);
}

abbrev is_in_base : Stage → Bool
is_in_base InBase = true
is_in_base _ = false

-- what `next` makes of an operation and of an idle worker
record Leads (s : StackWorld) (o : OpId) (r : FlowRecord) (turned : Turned) : Type 0 where
  pub among : IsAmong s turned.after
  pub spots : BalancesSpots o Place.Idle (placed_by o turned.reply) r turned.after

-- the worker goes in
leads_in : (s : StackWorld) (o : OpId) (r : FlowRecord) (turned : Turned) → is_running r.stage ≡ false
    → Matches o (placed_by o turned.reply) (spot_of turned.after)
    → IsAmong s turned.after → Leads s o r turned
leads_in s o r turned quiet matches among = record {
  among = among;
  spots = spots_balance o Place.Idle (placed_by o turned.reply) r turned.after (matches_idle o r.stage r.entries quiet) matches;
}

leads_of : (s : StackWorld) (k : WorkerId) (o : OpId) (r : FlowRecord) (lies : Below) (drains : Bool) → IsStack s → flow.IsSound r
    → (r.stage ≡ Descending → LiesBelow s r lies) → IsAmong s r → Leads s o r (next_of k lies drains r)
leads_of s k o r lies drains stack sound finds h = each_turn (Leads s o r) k lies drains r (record {
  rests = λ reply nothing. record { among = h; spots = subst (λ b. BalancesSpots o Place.Idle b r r) (sym (nobody_goes reply nothing)) (λ x p. refl) };
  calls = λ i p e is.
      let visit : PreVisit = record { instance = i; worker = k; state = PreState.Running; place = length r.kept } in
      leads_in s o r (call_pre k i r (Some p)) (ap is_running e)
      (subst (Matches o (Place.Pre o i)) (sym (ap (option_map AtPre) (visit_last r.entries visit))) (matches_pre o i))
      (among_visits s r.volume r.below r.born r.operation r.entries r.stage PreRunning visit stack (none e) (λ x. absurd (apart PreRunning refl x)) (below e is).0 h);
  skips = λ i e is. record {
    among = among_visits s r.volume r.below r.born r.operation r.entries r.stage Descending
        (record { instance = i; worker = k; state = bare_ask; place = length r.kept }) stack (none e)
        (λ x. absurd (apart Descending refl x)) (below e is).0 h;
    spots = nowhere e;
  };
  asks = grind arith;
  knows = λ why e is. record {
    among = among_base s r.volume r.below r.born r.operation r.entries r.stage why 0 (none e) (below e is) h;
    spots = nowhere e;
  };
  drains = λ ask e.
      leads_in s o r (turn (Ok (FlowAction.Drain ask.instance ask.completion)) (with_drain ask.instance (InDrain ask.instance) r)) (ap is_running e)
      (matches_drain o ask.instance)
      (among_other s r.volume r.below r.born r.operation r.entries r.stage (InDrain ask.instance)
      (Drain (record { instance = ask.instance; is_running = true })) refl refl
      (λ x. absurd (apart (InDrain ask.instance) refl x)) h);
  posts = λ ask m kept p e.
      let visit : PostVisit = record { instance = ask.instance; worker = k; state = PostState.Running } in
      leads_in s o r (give_post k ask (record r { params = m; kept = kept }) (Some p)) (ap is_running e)
      (subst (Matches o (Place.Post o ask.instance)) (sym (ap (option_map AtPost) (post_last r.entries visit))) (matches_post o ask.instance))
      (among_other s r.volume r.below r.born r.operation r.entries r.stage PostRunning (Post visit) refl refl (λ x. absurd (apart PostRunning refl x)) h);
})
  where
    nobody_goes : (reply : Result FlowAction Status) → gives_nothing reply ≡ true → placed_by o reply ≡ Place.Idle
    nobody_goes (Ok FlowAction.Held) nothing = refl
    nobody_goes (Ok FlowAction.Done) nothing = refl
    nobody_goes (Err why) nothing = refl
    nobody_goes _ nothing = absurd (false≢true nothing)

    none : r.stage ≡ Descending → has_base r.entries ≡ false
    none e = no_base r.stage r.entries sound.course.order (ap (λ x. is_up (way_of x)) e)

    below : {l : Below} → r.stage ≡ Descending → lies ≡ l → LiesBelow s r l
    below e is = subst (LiesBelow s r) is (finds e)

    -- a stage that isn't the base's
    apart : (stage : Stage) → is_in_base stage ≡ false → stage ≡ InBase → ⊥
    apart stage other x = false≢true (sym other ∙ ap is_in_base x)

    -- an operation that is with no worker, before and after
    nowhere : r.stage ≡ Descending → (x : Spot) (p : OpId)
        → one (is_in_at p x Place.Idle) + cond (o.0 == p.0) (standing x r) 0 ≡ one (is_in_at p x Place.Idle) + cond (o.0 == p.0) (one (is_spot x None)) 0
    nowhere e x p = ap (λ m. one (is_in_at p x Place.Idle) + cond (o.0 == p.0) (one (is_spot x m)) 0) (quiet_is_nowhere r.stage r.entries (ap is_running e))

times_unseen : (i : ℕ) (xs : List ℕ) → is_among xs i ≡ false → times i xs ≡ 0
times_unseen i [] h = refl
times_unseen i (x ∷ xs) h = grind (arith, (times_unseen i xs))

pub may_visit : (s : StackWorld) (r : FlowRecord) (lies : Below) → IsAmong s r → LiesBelow s r lies → MayLieBelow lies r.entries
may_visit s r (Below.Instance i is_called) h lies = (
  times_unseen i.0 (visited r.entries) (next_unseen s r.volume r.below r.born r.operation (visited r.entries) i.0 (has_base r.entries) h.descent lies.0),
  room_is s r.volume r.below r.born r.operation (visited r.entries) i.0 h.room lies.0,
)
may_visit s r Below.Call h lies = tt
may_visit s r (Below.Known status) h lies = tt

next_keeps : (old : World) (k : WorkerId) (o : OpId) (new : World) (e : Turns old k o new) → IsUnderWay old
    → IsUnderWay (nexted old k o e.lies (turned_by old k o e.lies e.row).reply)
next_keeps old k o new e s =
    let r = e.row in
    let d = drains_at old o in
    let f = λ (x : FlowRecord). (next_of k e.lies d x).after in
    let reply = (next_of k e.lies d r).reply in
    let place = placed o reply in
    let sound = found_holds flow.IsSound (is_number o) old.flow.operations r s.flow.sound e.at in
    let among = found_holds (IsAmong old.stack) (is_number o) old.flow.operations r s.among e.at in
    let leads = leads_of old.stack k o r e.lies d s.stack sound e.finds among in
    subst (AreUnderWay old.stack (changed o f old.flow)) (sym (place.puts old.workers k e.idle))
    (step_keeps old o r f k Place.Idle (placed_by o reply) e.at e.idle (next_stays k e.lies d)
    (sound_next k e.lies d r sound (λ down. may_visit old.stack r e.lies among (e.finds down)))
    (next_needed k e.lies d r (found_holds (λ (x : FlowRecord). is_spent x ≡ false) (is_number o) old.flow.operations r s.flow.needed
    e.at)) leads.among leads.spots
    (drains_balance o Place.Idle (placed_by o reply) r (f r) (λ i. 0) (λ i. drains_given i reply) (in_no_drain o Place.Idle (λ p i. refl)) place.drains
    (λ i. omega (arith, next_drains i k e.lies d r))) (at_none Place.Idle refl) place.outside s)

-- ---- contexts

-- what lies below on the way down is attached
lies_attached : (s : StackWorld) (r : FlowRecord) (lies : Below) (i : InstanceId) → LiesBelow s r lies → is_flown_by (row_at s i) ≡ false
    → (j : InstanceId) (called : Bool) → lies ≡ Below.Instance j called → (j.0 == i.0) ≡ false
lies_attached s r lies i h4 h5 j called h8 = grind arith

may_ask : (s : StackWorld) (slots : List Slot) (k : WorkerId) (lies : Below) (r : FlowRecord) → MayAsk (AskCarries s slots) k lies r
may_ask s slots k lies r = grind arith

-- what `next` hands out is carried no more
pub next_balance : (w : World) (o : OpId) (k : WorkerId) (lies : Below) (d : Bool) (r : FlowRecord) → operation_at o w.flow ≡ Some r
    → (r.stage ≡ Descending → LiesBelow w.stack r lies) → IsSound w → (c : CtxId)
    → carries w c ≡ carries_after w o (λ (x : FlowRecord). (next_of k lies d x).after) c + handed c (next_of k lies d r).reply
next_balance w o k lies d r at finds s c =
    let sound = found_holds flow.IsSound (is_number o) w.flow.operations r s.under_way.flow.sound at in
    let among = found_holds (IsAmong w.stack) (is_number o) w.flow.operations r s.under_way.among at in
    omega (
      arith,
      carried_changed w.flow o r (λ (x : FlowRecord). (next_of k lies d x).after) at c,
      next_carries c k lies d r (λ e. may_visit w.stack r lies among (finds e)) sound,
    )

-- a completion comes back to the worker that it is given to
pub brought_owned : (w : World) (o : OpId) (r : FlowRecord) (f : FlowRecord → FlowRecord) (k : WorkerId) (b : Place) (i : InstanceId) (m : Option CtxId)
    → operation_at o w.flow ≡ Some r → worker_at w.workers k ≡ Some Place.Idle → k.0 < 48 → cleanup_in (Some b) ≡ None → place_in (Some b) ≡ Some i
    → ((c : CtxId) → carries w c ≡ carries_after w o f c + carried_in c (record { number = 0; context = m })) → CarriesIn w.stack w.contexts.slots i m
    → All (AskCarries w.stack w.contexts.slots) (owed (f r).entries)
    → ((j : InstanceId) → is_flown_by (row_at w.stack j) ≡ false → in_flight j.0 (changed o f w.flow) ≡ 0) → IsOwned w
    → IsOwned (record w { flow = changed o f w.flow; workers = put w.workers k b; contexts = brought w.contexts k m })
brought_owned w o r f k b i None at idle worker nb pl balance own owes quiet h =
    step_owned w o r f k Place.Idle b w.contexts [] at idle worker refl nb (lawful_alike (λ c. omega (arith, balance c)) h.lawful)
    refl (same_hands w.contexts.hands k.0 ∙ ap (slice_set w.contexts.hands k.0) (empty_hand w k Place.Idle idle refl h)) refl
    (All-nil (HoldsIn w.stack w.contexts.slots (place_in (Some b)))) owes quiet h
brought_owned w o r f k b i (Some d) at idle worker nb pl balance own owes quiet h =
    let none = empty_hand w k Place.Idle idle refl h in
    let room : length (hand_of w.contexts.hands k.0) < 16 = subst (λ (ids : List CtxId). length ids < 16) (sym none) (omega arith) in
    let Holds = HoldsIn w.stack w.contexts.slots (place_in (Some b)) in
    step_owned w o r f k Place.Idle b (grabbed w.contexts k.0 d) (d ∷ []) at idle worker refl nb
    (bring_keeps (carries_after w o f) k.0 d h.lawful worker (λ c. balance c) room) refl
    (ap (λ (ids : List CtxId). slice_set w.contexts.hands k.0 (ids ++ d ∷ [])) none) refl
    (All-cons Holds d [] (subst (λ p. HoldsIn w.stack w.contexts.slots p d) (sym pl) own) (All-nil Holds)) owes quiet h

-- the same, by what `next` answers
next_by_reply : (w : World) (o : OpId) (r : FlowRecord) (f : FlowRecord → FlowRecord) (k : WorkerId) (reply : Result FlowAction Status)
    → operation_at o w.flow ≡ Some r → worker_at w.workers k ≡ Some Place.Idle → k.0 < 48
    → ((c : CtxId) → carries w c ≡ carries_after w o f c + handed c reply) → WasOwed (AskCarries w.stack w.contexts.slots) reply
    → All (AskCarries w.stack w.contexts.slots) (owed (f r).entries)
    → ((j : InstanceId) → is_flown_by (row_at w.stack j) ≡ false → in_flight j.0 (changed o f w.flow) ≡ 0) → IsOwned w
    → IsOwned (record w { flow = changed o f w.flow; workers = after_next w.workers k o reply; contexts = received w.contexts k reply })
next_by_reply w o r f k (Ok (FlowAction.Pre i lent)) at idle worker balance was owes quiet h =
    brought_owned w o r f k (Place.Pre o i) i None at idle worker refl refl balance tt owes quiet h
next_by_reply w o r f k (Ok (FlowAction.Base call)) at idle worker balance was owes quiet h =
    let none = empty_hand w k Place.Idle idle refl h in
    step_owned w o r f k Place.Idle (Place.Base o) w.contexts (hand_of w.contexts.hands k.0) at idle worker refl refl
    (lawful_alike (λ c. omega (arith, balance c)) h.lawful)
    refl (same_hands w.contexts.hands k.0) refl
    (subst (All (HoldsIn w.stack w.contexts.slots None)) (sym none) (All-nil (HoldsIn w.stack w.contexts.slots None))) owes quiet h
next_by_reply w o r f k (Ok (FlowAction.Post i lent completion)) at idle worker balance was owes quiet h =
    brought_owned w o r f k (Place.Post o i) i completion.context at idle worker refl refl (λ c. balance c)
    (subst (λ (x : InstanceId). CarriesIn w.stack w.contexts.slots x completion.context) was.2
    (subst (λ (x : Completion). CarriesIn w.stack w.contexts.slots was.0.instance x.context) was.3 was.1)) owes quiet h
next_by_reply w o r f k (Ok (FlowAction.Drain i completion)) at idle worker balance was owes quiet h =
    brought_owned w o r f k (Place.Drain o i) i completion.context at idle worker refl refl (λ c. balance c)
    (subst (λ (x : InstanceId). CarriesIn w.stack w.contexts.slots x completion.context) was.2
    (subst (λ (x : Completion). CarriesIn w.stack w.contexts.slots was.0.instance x.context) was.3 was.1)) owes quiet h
next_by_reply w o r f k _ at idle worker balance was owes quiet h =
    flow_owned w (changed o f w.flow) (lawful_alike (λ c. omega (arith, balance c)) h.lawful)
    (carry_changed w.stack w.contexts.slots w.flow o r f at owes h.completions) quiet h

next_owned : (old : World) (k : WorkerId) (o : OpId) (new : World) (e : Turns old k o new) → IsSound old
    → IsOwned (nexted old k o e.lies (turned_by old k o e.lies e.row).reply)
next_owned old k o new e s =
    let r = e.row in
    let d = drains_at old o in
    let f = λ (x : FlowRecord). (next_of k e.lies d x).after in
    let sound = found_holds flow.IsSound (is_number o) old.flow.operations r s.under_way.flow.sound e.at in
    let among = found_holds (IsAmong old.stack) (is_number o) old.flow.operations r s.under_way.among e.at in
    let below = λ (down : r.stage ≡ Descending). may_visit old.stack r e.lies among (e.finds down) in
    let owes = next_owes (AskCarries old.stack old.contexts.slots) k e.lies d r
    (λ down. (below down, may_ask old.stack old.contexts.slots k e.lies r)) sound (asks_of old o r e.at s.owned) in
    next_by_reply old o r f k (next_of k e.lies d r).reply e.at e.idle (worker_below old k Place.Idle e.idle s.under_way)
    (next_balance old o k e.lies d r e.at e.finds s)
    owes.hands owes.owes
    (λ i rests. omega (
      arith,
      flight_changed old.flow o r f e.at i.0,
      next_flies i.0 k e.lies d r below sound,
      next_enters i.0 k e.lies d r (λ down. lies_attached old.stack r e.lies i (e.finds down) rests),
      s.owned.quiet i rests,
    )) s.owned

-- ---- streams and handles

-- what an operation is where `next` answers that it moved over a known answer
pub record WasKnown (r : FlowRecord) (turned : Turned) : Type 0 where
  pub unanswered : is_unanswered r.stage ≡ true
  pub none : is_creating turned.after ≡ false

pub was_known : (k : WorkerId) (why : Status) (drains : Bool) (r : FlowRecord) → Ok FlowAction.Moved ≡ (next_of k (Below.Known why) drains r).reply
    → WasKnown r (next_of k (Below.Known why) drains r)
was_known k why drains r h4 = grind arith

abbrev pub is_known : Below → Bool
is_known (Below.Known why) = true
is_known _ = false

-- what an operation is on stays
abbrev KeepsFile : FlowRecord → FlowRecord → Type 0
KeepsFile r s = (s.stream ≡ r.stream) × (s.handle ≡ r.handle)

-- and unless it moves over an answer that is known, a create under way stays one
next_file : (k : WorkerId) (lies : Below) (drains : Bool) (r : FlowRecord) → KeepsFile r (next_of k lies drains r).after
    × ((is_known lies ≡ true → Ok FlowAction.Moved ≡ (next_of k lies drains r).reply → ⊥) → is_creating (next_of k lies drains r).after ≡ is_creating r)
next_file k lies drains r =
    each_turn (λ t. KeepsFile r t.after × ((is_known lies ≡ true → Ok FlowAction.Moved ≡ t.reply → ⊥)
    → is_creating t.after ≡ is_creating r)) k lies drains r (grind arith)
  where
    down : r.stage ≡ Descending → is_create r.operation && true ≡ is_creating r
    down e = sym (ap (λ x. is_create r.operation && is_unanswered x) e)

-- so does who asked for it
next_below : (k : WorkerId) (lies : Below) (drains : Bool) (r : FlowRecord) → (next_of k lies drains r).after.below ≡ r.below
next_below k lies drains r = each_turn (λ t. t.after.below ≡ r.below) k lies drains r (grind arith)

-- unless it moves over an answer that is known, a create under way stays one
next_same_file : (k : WorkerId) (lies : Below) (drains : Bool) (r : FlowRecord)
    → (is_known lies ≡ true → Ok FlowAction.Moved ≡ (next_of k lies drains r).reply → ⊥)
    → SameFile r (next_of k lies drains r).after
next_same_file k lies drains r other =
    let file = next_file k lies drains r in
    record { stream = file.0.0; handle = file.0.1; creating = file.1 other }

-- a known answer gives no handle
known_answered : (f : FileTable) (k : WorkerId) (why : Status) (drains : Bool) (r : FlowRecord)
    → is_creating (next_of k (Below.Known why) drains r).after ≡ false
    → IsAnswered f why r (next_of k (Below.Known why) drains r).after
known_answered f k why drains r ended = grind (arith, next_file)

-- an answer that was known counts at once
known_filed : (old : World) (k : WorkerId) (o : OpId) (r : FlowRecord) (lies : Below) (drains : Bool)
    (result : Result FlowAction Status) → operation_at o old.flow ≡ Some r
    → result ≡ (next_of k lies drains r).reply → FiledIn old
    → IsFileSound (filed_next old o (changed o (λ (x : FlowRecord). (next_of k lies drains x).after) old.flow) result lies)
    (changed o (λ (x : FlowRecord). (next_of k lies drains x).after) old.flow)
known_filed old k o r lies drains result at reply s = by_result result lies reply
  where
    step : Below → FlowRecord → FlowRecord
    step lies x = (next_of k lies drains x).after

    by_result : (result : Result FlowAction Status) (lies : Below) → result ≡ (next_of k lies drains r).reply
        → IsFileSound (filed_next old o (changed o (step lies) old.flow) result lies) (changed o (step lies) old.flow)
    by_result (Ok FlowAction.Moved) (Below.Known why) reply = grind (arith, was_known, told_there, file_answered, known_answered)
    by_result (Ok FlowAction.Moved) lies reply = file_step old.files old.flow o r (step lies) at
        (next_same_file k lies drains r (λ known moved. false≢true known)) s
    by_result _ lies reply = file_step old.files old.flow o r (step lies) at (next_same_file k lies drains r (λ known moved. (cc))) s

-- ---- the event

-- what it does, and what it leaves in the worker's hand; where it gives nothing to do, it does nothing
abbrev NextDoes : World → WorkerId → Result FlowAction Status → World → Type 0
NextDoes old k result new =
    Does old new × (IsSound old → OnlyHandOf k.0 old new × HoldsMore k.0 result given_by_next old new) × (gives_nothing result ≡ true → new ≡ old)

next_on : (old : World) (k : WorkerId) (o : OpId) (new : World) (e : Turns old k o new) → NextDoes old k (turned_by old k o e.lies e.row).reply new
next_on old k o new e =
    let d = drains_at old o in
    let f = λ (x : FlowRecord). (next_of k e.lies d x).after in
    let reply = (turned_by old k o e.lies e.row).reply in
    let mid = nexted old k o e.lies reply in
    let table = old.contexts in
    let got = received_by (λ m t. (t.slots ≡ table.slots) × (t.cleaning ≡ table.cleaning) × Gives k.0 table.hands m t.hands) table k reply
    (refl, refl, same_hands table.hands k.0) (λ c. (refl, refl, refl)) in
    let stay = table_same table mid.contexts got.0 got.1 in
    let under_way = λ (s : IsSound old). next_keeps old k o new e s.under_way in
    let owned = λ (s : IsSound old). next_owned old k o new e s in
    let begun = λ (s : IsSound old). goes_asked old.stack old.flow o e.row f e.at (next_below k e.lies d e.row) (next_stays k e.lies d e.row).collected s.begun in
    let filed = λ (s : IsSound old). known_filed old k o e.row e.lies d reply e.at refl s.filed in
    let does = known_cases (λ w. Does old w × Gives k.0 table.hands (back_by reply) w.contexts.hands) old o mid.flow reply e.lies mid new e.loses
    (λ loses. (
      record { sound = λ s. loses_sound mid new loses (under_way s) (owned s) (begun s) (filed s); lasts = λ s. loses_lasts old mid new loses stay },
      loses.0.hands ∙ got.2,
    )) (λ files. grind arith) in (
      does.0,
      λ s. by_reply reply (hand_given k.0 old new (back_by reply)
          (subst (λ n. k.0 < n) (s.under_way.hands ∙ sym s.owned.lawful.workers) (slice_get_within old.workers k.0 Place.Idle e.idle)) does.1),
      λ rests. over_rests old k o e.lies reply new e.loses rests (ap (λ (rs : List FlowRecord). record old.flow { operations = rs })
          (change_same (is_number o) f old.flow.operations e.row e.at (next_rests k e.lies d e.row rests))),
    )
  where
    by_reply : (result : Result FlowAction Status) → HandMore k.0 old new (given_with (back_by result)) → OnlyHandOf k.0 old new
        × HoldsMore k.0 result given_by_next old new
    by_reply (Ok (FlowAction.Post i lent completion)) h = h
    by_reply (Ok (FlowAction.Drain i completion)) h = h
    by_reply (Ok _) h = h
    by_reply (Err why) h = (h.0, omega (arith, h.1))

pub next_does : (old : World) (k : WorkerId) (o : OpId) (result : Result FlowAction Status) (new : World) → Nexts old k o result new
    → Does old new × (IsSound old → OnlyHandOf k.0 old new × HoldsMore k.0 result given_by_next old new) × (gives_nothing result ≡ true → new ≡ old)
unfolding Nexts
next_does old k o result new h =
    idle_by (λ r w. NextDoes old k r w) k result old new (NextsAt old k o result new) h refused
    (λ idle e. by_operation idle e.0 e.1 e.2 e.3 e.4 (operation_at o old.flow) refl)
  where
    refused : (why : Status) → NextDoes old k (Err why) old
    refused why = (nothing old, λ s. (refl, refl), λ rests. refl)

    by_operation : worker_at old.workers k ≡ Some Place.Idle → (lies : Below) → FindsBelow old.stack old.files old.flow (operation_at o old.flow) lies
        → (mid : World) → NextsOver old k o lies result mid → LosesByKnown result lies mid new → (m : Option FlowRecord)
        → operation_at o old.flow ≡ m → NextDoes old k result new
    by_operation idle lies finds mid over loses m at =
        let reply = over.0 ∙ ap (λ x. unwrap_or (option_map (λ (r : FlowRecord). (turned_by old k o lies r).reply) x) (Err Status.WrongStep)) at in
        let lost = λ (r : Result FlowAction Status) (e : result ≡ r). subst (λ x. LosesByKnown x lies (nexted old k o lies x) new) e
        (subst (λ w. LosesByKnown result lies w new) over.1 loses) in
        by_option (λ x. operation_at o old.flow ≡ x → result
        ≡ unwrap_or (option_map (λ (r : FlowRecord). (turned_by old k o lies r).reply) x) (Err Status.WrongStep)
        → NextDoes old k result new) m
        (λ _ at reply. refused_by (λ r w. NextDoes old k r w) Status.WrongStep result old new (
          reply,
          lost (Err Status.WrongStep) reply
              ∙ not_there old k o lies at,
        ) refused)
        (λ r _ at reply. subst (λ x. NextDoes old k x new) (sym reply) (next_on old k o new (grind arith))) at reply
