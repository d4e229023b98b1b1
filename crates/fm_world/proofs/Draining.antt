-- Drains that are taken before their turn, and that return.
use Rattle.fm_world.proofs.Words.{lawful_alike, Completion, drains_open, carried_by, drain_opens, is_running_drain, done_at, is_done, is_number, is_spent}
use Rattle.fm_world.proofs.Words.{removed, count-cons, find_changed, found_holds, brought, carries_after, HoldsMore, HoldsNone, OnlyHandOf, AtDrain, Spot}
use Rattle.fm_world.proofs.Words.{drains_running, is_in_at, is_in_drain, is_spot, spot_at, spot_of, stands_at, names_there, AskCarries, CarriesIn, row_at}
use Rattle.fm_world.proofs.Words.{IsAmong, IsSound, IsUnderWay, ContextTable, CtxId, Entry, FlowRecord, FlowTable, InDrain, InstanceId, Leaves, OpId, Stage}
use Rattle.fm_world.proofs.Words.{Status, WorkerId, changed, last_posted, last_visited, one, operation_at, owed, put, worker_at, World, carries, Place, Bool}
use Rattle.fm_world.proofs.Words.{Err, List, None, Ok, Option, Result, Some, [], ap, arith, cond, count_by, false, option_map, refl, slice_get, subst, suc, sym}
use Rattle.fm_world.proofs.Words.{true, unwrap_or, zero, ℕ, ◌+◌, ◌<◌, ◌==◌, ◌∙◌, ◌∷◌, ◌≡◌, ◌≤◌, same_Some, slice_get_within, list_any}
use Rattle.fm_ctx.proofs.Alike.{leaves_alike}
use Rattle.fm_operations.specs.Drains.{DrainTaken, RunsEarly, drain_done_of, drained_early, early_over, owed_to}
use Rattle.fm_operations.proofs.Drains.{carries_early, carries_over, done_carries, drain_done_by, drains_early, drains_over, early_uncreated, flies_early, flies_over}
use Rattle.fm_operations.proofs.Drains.{goes_after, handed_early, over_uncreated, owed_over, owed_so, owes_early, owing_there, flow_over, needed_early, sound_early}
use Rattle.fm_operations.proofs.Drains.{stays_early, stays_over}
use Rattle.fm_operations.proofs.Counting.{flight_few}
use Rattle.fm_world.specs.EarlyDrains.{DrainReturns, DrainReturnsAt, DrainsWhere, GivesDrain, TakesDrain, is_stopping_at}
use Rattle.fm_world.specs.Hands.{given_by_drain}
use Rattle.fm_world.specs.Sound.{NoneBegun}
use Rattle.fm_world.proofs.Asking.{goes_asked, gone_asked}
use Rattle.fm_world.proofs.Amongs.{among_drain, among_over, drain_unseen, over_unseen}
use Rattle.fm_world.proofs.Belonging.{AllPass}
use Rattle.fm_world.proofs.Callbacks.{same_hands}
use Rattle.fm_world.proofs.Events.{answers_by, idle_by, refused_by}
use Rattle.fm_world.proofs.Filed.{file_step}
use Rattle.fm_world.proofs.Flowing.{asks_of, carried_changed, quieter}
use Rattle.fm_world.proofs.Keeps.{worker_below}
use Rattle.fm_world.proofs.Operations.{AreInStep, both_same, step_keeps, step_moves, with_laws}
use Rattle.fm_operations.proofs.Requests.{flow_removed}
use Rattle.fm_operations.specs.Table.{IsFlow}
use Rattle.fm_world.proofs.Requests.{file_gone, goes_keeps, goes_owned, total_without}
use Rattle.fm_world.proofs.Returns.{AreKept, returned_kept}
use Rattle.fm_world.proofs.Staying.{Does, Gives, TableStays, hand_emptied, hand_given, makes, nothing, table_same}
use Rattle.fm_world.proofs.Ties.{BalancesSpots, InDrains, at_none, drained_there, drains_balance, in_no_drain, standing}
use Rattle.fm_world.proofs.Turns.{brought_owned}
use Rattle.fm_operations.specs.Sound as flow

-- ---- spots: a worker in such a drain is at none, and the operation's stays where it was

spot_stays : (stage : Stage) (es fs : List Entry) → last_visited fs ≡ last_visited es → last_posted fs ≡ last_posted es → spot_at stage fs ≡ spot_at stage es
spot_stays stage es fs visited posted = grind arith

idle_unseen : (p : OpId) (x : Spot) → is_in_at p x Place.Idle ≡ false
idle_unseen p x = grind arith

early_unseen : (o : OpId) (i : InstanceId) (p : OpId) (x : Spot) → is_in_at p x (Place.EarlyDrain o i) ≡ false
early_unseen o i p x = grind arith

spots_stay : (o : OpId) (a b : Place) (r s : FlowRecord) → ((p : OpId) (x : Spot) → is_in_at p x a ≡ false) → ((p : OpId) (x : Spot) → is_in_at p x b ≡ false)
    → spot_of s ≡ spot_of r → BalancesSpots o a b r s
spots_stay o a b r s na nb same x p =
    let before : one (is_in_at p x a) ≡ 0 = ap one (na p x) in
    let after : one (is_in_at p x b) ≡ 0 = ap one (nb p x) in
    let alike : cond (o.0 == p.0) (standing x s) 0 ≡ cond (o.0 == p.0) (standing x r) 0 = ap (λ m. cond (o.0 == p.0) (one (is_spot x m)) 0) same in
    omega (arith, before, after, alike)

in_early : (o : OpId) (i : InstanceId) → InDrains o (Place.EarlyDrain o i) (λ j. one (i.0 == j))
in_early o i p j = grind arith

-- ---- a drain is taken

module _ (old : World) (k : WorkerId) (o : OpId) (i : InstanceId) (r : FlowRecord) (completion : Completion) (at : operation_at o old.flow ≡ Some r)
    (idle : worker_at old.workers k ≡ Some Place.Idle) (owing : owed_to i.0 r ≡ Some completion) where
  early_sound : IsSound old → IsSound (record old {
    flow = changed o (drained_early i) old.flow;
    workers = put old.workers k (Place.EarlyDrain o i);
    contexts = brought old.contexts k completion.context;
  })
  early_sound s =
      let f = drained_early i in
      let u = s.under_way in
      let asks = asks_of old o r at s.owned in
      let sound = found_holds flow.IsSound (is_number o) old.flow.operations r u.flow.sound at in
      let owes = owed_so i.0 (owed r.entries) completion owing in
      let had = handed_early (AskCarries old.stack old.contexts.slots) i.0 (owed r.entries) completion owing asks in
      record {
        under_way = step_keeps old o r f k Place.Idle (Place.EarlyDrain o i) at idle (λ x. stays_early i x)
            (sound_early i r owes sound) (needed_early i r owes sound)
            (among_drain old.stack r.volume r.below r.born r.operation r.entries r.stage _
            (found_holds (IsAmong old.stack) (is_number o) old.flow.operations r u.among at))
            (spots_stay o Place.Idle (Place.EarlyDrain o i) r (f r) idle_unseen (early_unseen o i)
            (let same = drain_unseen r.entries (record { instance = i; is_running = true }) in spot_stays r.stage r.entries (f r).entries same.0 same.1))
            (drains_balance o Place.Idle (Place.EarlyDrain o i) r (f r) (λ j. 0) (λ j. one (i.0 == j)) (in_no_drain o Place.Idle (λ p j. refl)) (in_early o i)
            (λ j. omega (arith, drains_early i r j)))
            (at_none Place.Idle refl) (at_none (Place.EarlyDrain o i) refl) u;
        owned = brought_owned old o r f k (Place.EarlyDrain o i) i completion.context at idle (worker_below old k Place.Idle idle u) refl refl
            (λ c. omega (arith, carried_changed old.flow o r f at c, carries_early c i r completion owing sound))
            (subst (λ (x : InstanceId). CarriesIn old.stack old.contexts.slots x completion.context) (ap (λ n. record { 0 = n }) had.2)
            (subst (λ (x : Completion). CarriesIn old.stack old.contexts.slots had.0.instance x.context) had.3 had.1))
            (owes_early (AskCarries old.stack old.contexts.slots) i r asks)
            (quieter old o r f at (λ j. omega (arith, flies_early i r j owes sound)) s.owned.quiet) s.owned;
        begun = goes_asked old.stack old.flow o r f at refl refl s.begun;
        filed = file_step old.files old.flow o r f at (record { stream = refl; handle = refl; creating = early_uncreated i r (f r) refl }) s.filed;
        links = subst (AllPass (names_there old.files)) (sym (brought_same completion.context).0) s.links;
      }
    where
      brought_same : (m : Option CtxId) → ((brought old.contexts k m).slots ≡ old.contexts.slots)
          × ((brought old.contexts k m).cleaning ≡ old.contexts.cleaning)
      brought_same None = (refl, refl)
      brought_same (Some c) = (refl, refl)

brought_gives : (t : ContextTable) (k : WorkerId) (m : Option CtxId) → TableStays t (brought t k m) × Gives k.0 t.hands m (brought t k m).hands
brought_gives t k None = (table_same t t refl refl, same_hands t.hands k.0)
brought_gives t k (Some c) = (table_same t (brought t k (Some c)) refl refl, refl)

-- what such an event does: the worker's hand has what the completion carries
abbrev Takes : World → WorkerId → Result (Option (OpId × Completion)) Status → World → Type 0
Takes old k result new = Does old new × (IsSound old → OnlyHandOf k.0 old new × HoldsMore k.0 result given_by_drain old new)

nothing_taken : (old : World) (k : WorkerId) → Takes old k (Ok None) old
nothing_taken old k = (nothing old, λ s. (refl, omega arith))

pub drain_take_does : (old : World) (k : WorkerId) (i : InstanceId) (result : Result (Option (OpId × Completion)) Status) (new : World)
    → TakesDrain old k i result new
    → Does old new × (IsSound old → OnlyHandOf k.0 old new × HoldsMore k.0 result given_by_drain old new)
unfolding TakesDrain
drain_take_does old k i result new h =
    idle_by (λ r w. Takes old k r w) k result old new _ h refused (λ idle event.
    answers_by (λ r w. Takes old k r w) _ result old new _ event refused (λ drain free e.
    where_stopping idle (is_stopping_at (row_at old.stack i)) drain e))
  where
    refused : (why : Status) → Takes old k (Err why) old
    refused why = (nothing old, λ s. (refl, refl))

    given : worker_at old.workers k ≡ Some Place.Idle → (drain : Option (OpId × Completion)) → DrainTaken i old.flow drain new.flow
        → GivesDrain old k i drain new → Takes old k (Ok drain) new
    given idle None taken same = subst (λ (w : World). Takes old k (Ok None) w) (sym same) (nothing_taken old k)
    given idle (Some (o, completion)) taken gives =
        let there = owing_there old.flow o i completion taken.owed in
        let mid = record old {
          flow = changed o (drained_early i) old.flow;
          workers = put old.workers k (Place.EarlyDrain o i);
          contexts = brought old.contexts k completion.context;
        } in
        let is : new ≡ mid = gives ∙ ap (λ (t : FlowTable). record old {
          flow = t;
          workers = put old.workers k (Place.EarlyDrain o i);
          contexts = brought old.contexts k completion.context;
        }) taken.after in
        let brings = brought_gives old.contexts k completion.context in (
          makes old mid new is brings.0 (early_sound old k o i there.0 completion there.1 idle there.2),
          λ s. subst (λ (w : World). OnlyHandOf k.0 old w × HoldsMore k.0 (Ok (Some (o, completion))) given_by_drain old w) (sym is)
              (hand_given k.0 old mid completion.context
              (subst (λ n. k.0 < n) (s.under_way.hands ∙ sym s.owned.lawful.workers) (slice_get_within old.workers k.0 Place.Idle idle)) brings.1),
        )

    where_stopping : worker_at old.workers k ≡ Some Place.Idle → (b : Bool) (drain : Option (OpId × Completion))
        → DrainsWhere b old k i drain new → Takes old k (Ok drain) new
    where_stopping idle true drain e = given idle drain e.0 e.1
    where_stopping idle false drain e = subst (λ d. Takes old k (Ok d) new) (sym e.0)
        (subst (λ (w : World). Takes old k (Ok None) w) (sym e.1) (nothing_taken old k))

-- ---- it returns

-- where one test passes wherever another does
count_less : (p q : Place → Bool) (ws : List Place) → ((x : Place) → p x ≡ true → q x ≡ true) → count_by p ws ≤ count_by q ws
count_less p q [] implies = omega arith
count_less p q (x ∷ ws) implies = grind (arith, count-cons p x ws, count-cons q x ws, count_less p q ws implies, implies x)

-- and at one place more
count_apart : (p q : Place → Bool) (ws : List Place) (n : ℕ) (a : Place) → ((x : Place) → p x ≡ true → q x ≡ true)
    → slice_get ws n ≡ Some a → p a ≡ false → q a ≡ true
    → count_by p ws + 1 ≤ count_by q ws
count_apart p q [] n a implies at fails passes = absurd (cc)
count_apart p q (x ∷ ws) zero a implies at fails passes =
    let same : x ≡ a = same_Some x a at in
    let out : one (p x) ≡ 0 = ap (λ y. one (p y)) same ∙ ap one fails in
    let here : one (q x) ≡ 1 = ap (λ y. one (q y)) same ∙ ap one passes in
    omega (arith, count-cons p x ws, count-cons q x ws, count_less p q ws implies, out, here)
count_apart p q (x ∷ ws) (suc n) a implies at fails passes =
    grind (arith, count-cons p x ws, count-cons q x ws, count_apart p q ws n a implies at fails passes, implies x)

-- who is in the drain that has the operation is in a drain of it
drains_at_once : (o : OpId) (i : ℕ) (x : Place) → is_in_at o (AtDrain i) x ≡ true → is_in_drain o i x ≡ true
drains_at_once o i x h = grind arith

-- the drain runs, and it isn't the one that has the operation: another worker is in that
pub early_there : (w : World) (k : WorkerId) (o : OpId) (i : InstanceId) → worker_at w.workers k ≡ Some (Place.EarlyDrain o i) → IsUnderWay w
    → (r : FlowRecord) × (operation_at o w.flow ≡ Some r) × RunsEarly i (Some r)
early_there w k o i at s =
    let there = drained_there w.workers w.flow k (Place.EarlyDrain o i) o i.0 s.drains at (both_same o i) in
    let r = there.0 in
    let sound = found_holds flow.IsSound (is_number o) w.flow.operations r s.flow.sound there.1 in
    let once : drain_opens i.0 r.entries ≡ 1 = omega (arith, there.2, drains_open i.0 r.entries, flight_few r.stage r.entries i.0 sound.course) in (
      r,
      there.1,
      (
        once,
        λ (e : r.stage ≡ InDrain i).
            let running : drains_running o i.0 w.flow ≡ 1 = ap (λ m. told_in m) there.1 ∙ once in
            let standing' : stands_at o (AtDrain i.0) w.flow ≡ 1 = ap (λ m. stood_in m) there.1 ∙ in_drain r e in
            let more = count_apart (is_in_at o (AtDrain i.0)) (is_in_drain o i.0) w.workers k.0 (Place.EarlyDrain o i)
            (drains_at_once o i.0) at (early_unseen o i o (AtDrain i.0)) (both_same o i) in
            absurd (omega (arith, more, s.workers o (AtDrain i.0), s.drains o i.0, running, standing')),
      ),
    )
  where
    told_in : Option FlowRecord → ℕ
    told_in m = unwrap_or (option_map (λ (x : FlowRecord). drain_opens i.0 x.entries) m) 0

    stood_in : Option FlowRecord → ℕ
    stood_in m = unwrap_or (option_map (standing (AtDrain i.0)) m) 0

    in_drain : (r : FlowRecord) → r.stage ≡ InDrain i → standing (AtDrain i.0) r ≡ 1
    in_drain r e = grind arith

module _ (old : World) (k : WorkerId) (o : OpId) (i : InstanceId) (r : FlowRecord) (after : ContextTable) (at : operation_at o old.flow ≡ Some r)
    (worker : worker_at old.workers k ≡ Some (Place.EarlyDrain o i)) (runs : RunsEarly i (Some r)) (leaves : Leaves (carries old) old.contexts after k.0) where
  abbrev over_with : FlowTable → World
  over_with t = record old { flow = t; workers = put old.workers k Place.Idle; contexts = after }

  -- the drain is over
  over_kept : IsSound old → AreKept (over_with (changed o (early_over i) old.flow))
  over_kept s =
      let f = early_over i in
      let balance : (c : CtxId) → carries_after old o f c ≡ carries old c = λ c. omega (arith, carried_changed old.flow o r f at c, carries_over i r c) in
      returned_kept old k (Place.EarlyDrain o i) o r f after at worker refl (record { stream = refl; handle = refl; creating = over_uncreated i r (f r) refl })
      (leaves_alike (λ c. sym (balance c)) leaves) balance (owed_over i r) (λ j. omega (arith, flies_over i r j runs)) s

  over_moves : IsSound old → AreInStep old.stack (changed o (early_over i) old.flow) (put old.workers k Place.Idle)
  over_moves s =
      let f = early_over i in
      let u = s.under_way in
      step_moves old o r f k (Place.EarlyDrain o i) Place.Idle at worker (λ x. stays_over i x)
      (among_over old.stack r.volume r.below r.born r.operation r.entries r.stage i.0 (found_holds (IsAmong old.stack) (is_number o) old.flow.operations r u.among at))
      (spots_stay o (Place.EarlyDrain o i) Place.Idle r (f r) (early_unseen o i) idle_unseen
      (let same = over_unseen i.0 r.entries in spot_stays r.stage r.entries (f r).entries same.0 same.1))
      (drains_balance o (Place.EarlyDrain o i) Place.Idle r (f r) (λ j. one (i.0 == j)) (λ j. 0) (in_early o i) (in_no_drain o Place.Idle (λ p j. refl))
      (λ j. omega (arith, drains_over i r j runs)))
      (at_none (Place.EarlyDrain o i) refl) (at_none Place.Idle refl) u

  over_asked : IsSound old → NoneBegun old.stack (changed o (early_over i) old.flow)
  over_asked s = goes_asked old.stack old.flow o r (early_over i) at refl refl s.begun

  -- the operation stays
  over_stays : is_spent (early_over i r) ≡ false → IsSound old → IsSound (over_with (changed o (early_over i) old.flow))
  over_stays needed s =
      let kept = over_kept s in
      record {
        under_way = with_laws (over_moves s) (flow_over old.flow o i r at runs needed s.under_way.flow);
        owned = kept.0;
        begun = over_asked s;
        filed = kept.1;
        links = kept.2;
      }

  -- it goes after that
  over_goes : is_done r ≡ true → list_any is_running_drain (early_over i r).entries ≡ false → IsSound old
      → IsSound (over_with (removed o (changed o (early_over i) old.flow)))
  over_goes done none s =
      let f = early_over i in
      let mid = over_with (changed o f old.flow) in
      let kept = over_kept s in
      let here : operation_at o mid.flow ≡ Some (f r) = find_changed (is_number o) f old.flow.operations (λ x. refl) ∙ ap (option_map f) at in
      let over : is_done (f r) ≡ true = ap (done_at r.stage) (owed_over i r) ∙ done in
      record {
        under_way = goes_keeps mid o (f r) here over none (subst IsFlow (sym (goes_after old.flow o i r at runs))
            (flow_removed old.flow o s.under_way.flow)) (over_moves s);
        owned = goes_owned mid o (f r) here
            (lawful_alike (λ c. omega (
              arith,
              total_without (λ (x : FlowRecord). carried_by c x) (is_number o) mid.flow.operations
                  (f r) here,
              done_carries (f r) over c,
            )) kept.0.lawful) kept.0;
        begun = gone_asked old.stack mid.flow o (over_asked s);
        filed = file_gone old.files o mid.flow (f r) here over kept.1;
        links = kept.2;
      }

  over_sound : IsSound old → IsSound (over_with (drain_done_of o i old.flow))
  over_sound s =
      drain_done_by old.flow o i r at runs (λ t. IsSound (over_with t)) s.under_way.flow (λ needed. over_stays needed s)
      (λ done out none. subst (λ t. IsSound (over_with t)) (goes_after old.flow o i r at runs) (over_goes done none s))

abbrev Ends : World → WorkerId → Result (Unit {0}) Status → World → Type 0
Ends old k result new = Does old new × (OnlyHandOf k.0 old new × HoldsNone k.0 result old new)

pub drain_done_does : (old : World) (k : WorkerId) (result : Result (Unit {0}) Status) (new : World) → DrainReturns old k result new
    → Does old new × (OnlyHandOf k.0 old new × HoldsNone k.0 result old new)
unfolding DrainReturns
drain_done_does old k result new h = by_place (worker_at old.workers k) refl h
  where
    refused : (why : Status) → Ends old k (Err why) old
    refused why = (nothing old, (refl, refl))

    by_place : (m : Option Place) → worker_at old.workers k ≡ m → DrainReturnsAt old k result new m → Ends old k result new
    by_place (Some (Place.EarlyDrain o i)) at h = subst (λ r. Ends old k r new) (sym h.0) (
      makes old (record old { flow = drain_done_of o i old.flow; workers = put old.workers k Place.Idle; contexts = new.contexts }) new h.2
          (table_same old.contexts new.contexts h.1.slots h.1.cleaning)
          (λ s. let there = early_there old k o i at s.under_way in over_sound old k o i there.0 new.contexts there.1 at there.2 h.1 s),
      hand_emptied k.0 old new h.1.hands,
    )
    by_place _ at h = refused_by (Ends old k) Status.WrongStep result old new h refused
