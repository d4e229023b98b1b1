-- What the events of cleanups, and the end of an instance, do.
use Rattle.fm_world.proofs.Words.{hand_counted, references_cons, references_none, cleaned_keeps, count_cleaning, take_due_keeps, context_at-here}
use Rattle.fm_world.proofs.Words.{context_at-other, held, is_id, references, cleaned, emptied, taken_due, taken_of, is_open, change_context, context_at}
use Rattle.fm_world.proofs.Words.{carried_among, carried_by, carried_in, total, finish_row, is_emptying, length-updated, updated-other, none_refuses, Cleans}
use Rattle.fm_world.proofs.Words.{CleansAt, Finishes, TakesDue, after_due, filter_of, is_gone_at, totalled_for, names_there, AskCarries, CarriesIn, HoldsIn}
use Rattle.fm_world.proofs.Words.{belongs, fits, is_flown, is_flown_by, is_left_by, place_in, row_at, IsOwned, IsSound, HasWorkers, IsUnderWay, Ask, Context, ContextTable}
use Rattle.fm_world.proofs.Words.{CtxId, Due, FilterId, FlowRecord, Instance, InstanceId, Owner, Phase, Slot, StackWorld, Status, WorkerId, cleaning_of}
use Rattle.fm_world.proofs.Words.{finished, hand_of, is_emptying_at, one, open_of, owed, InstanceCallback, cleanup_in, put, worker_at, World, Place, All, Bool, Err, List}
use Rattle.fm_world.proofs.Words.{None, Ok, Option, Result, Some, [], ap, arith, false, get_or, inl, length, nat_lt, not, option_map, refl, slice_get}
use Rattle.fm_world.proofs.Words.{slice_set, subst, sym, true, ℕ, ◌+◌, ◌<◌, ◌∙◌, ◌∷◌, ◌≡◌, ◌≤◌, and_from, and_parts, cases_eq, eq-eqb, ltb-false, ltb-true, common_steps}
use Rattle.fm_world.proofs.Words.{get_or-set_other, get_or-set_same, All-cons, All-nil, none-some, slice_get_within}
use Rattle.fm_operations.specs.Initiators.{begun_by}
use Rattle.fm_world.specs.ContextEvents.{left_over}
use Rattle.fm_stack.proofs.Finishing.{emptying_row, finished_follows, finished_keeps}
use Rattle.fm_world.proofs.Belonging.{all_carry_still, all_hold_still, belongs_still, filters_same, filters_updated, link_stays, others_link, owner_stays}
use Rattle.fm_world.proofs.Belonging.{owners_changed, owners_same, passes_changed}
use Rattle.fm_world.proofs.Callbacks.{not_false, same_hands}
use Rattle.fm_world.proofs.Cases.{at_updated, at_written, none_pass}
use Rattle.fm_world.proofs.Events.{idle_by}
use Rattle.fm_world.proofs.Keeps.{Outside, follows_same, outside_of, stack_changes, worker_below, worker_moves}
use Rattle.fm_world.proofs.Owning.{empty_hand, owned_moves}
use Rattle.fm_world.proofs.Staying.{CleansOn, Does, Lasts, SlotsStay, contexts_in, lasts, makes, nothing, slots_changed, still, unchanged}
use Rattle.fm_world.proofs.Ties.{InNoCallback, at_none, workers_still}

-- ---- a worker goes into a cleanup, or comes out of it

-- a worker goes between idleness and a cleanup
goes_keeps : (w : World) (k : WorkerId) (a b : Place) → worker_at w.workers k ≡ Some a → Outside a → Outside b → InNoCallback a → InNoCallback b
    → IsUnderWay w → IsUnderWay (record w { workers = put w.workers k b })
goes_keeps w k a b at from to off on s =
    worker_moves w w.stack k a b at from to s.stack (follows_same w.stack)
    (λ d i. workers_still d i w.workers k a b (slice_get w.stack.instances i) at off on (s.instance_callbacks d i)) s

-- the tie of cleanups and places, where one worker goes elsewhere
cleaning_moves : (w : World) (k : WorkerId) (o : Option CtxId) (b : Place) → k.0 < length w.workers → k.0 < length w.contexts.cleaning → o ≡ cleanup_in (Some b)
    → ((n : ℕ) → cleaning_of w.contexts.cleaning n ≡ cleanup_in (slice_get w.workers n))
    → (n : ℕ) → cleaning_of (slice_set w.contexts.cleaning k.0 o) n ≡ cleanup_in (slice_get (put w.workers k b) n)
cleaning_moves w k o b worker within is h =
    at_written (λ j m. cleaning_of (slice_set w.contexts.cleaning k.0 o) j ≡ cleanup_in m) w.workers k.0 b worker
    (get_or-set_same w.contexts.cleaning k.0 o None within ∙ is)
    (λ j apart. get_or-set_other w.contexts.cleaning k.0 j o None apart ∙ h j)

-- ---- take_due

take_due_at : (old : World) (k : WorkerId) (m : Option CtxId) → worker_at old.workers k ≡ Some Place.Idle → slice_get old.contexts.due 0 ≡ m → IsSound old
    → IsSound (record old { workers = after_due old.workers k m; contexts = taken_of old.contexts k.0 m })
take_due_at old k None at first s = s
take_due_at old k (Some c) at first s =
    let h = s.owned in
    let slots = old.contexts.slots in
    let worker = worker_below old k Place.Idle at s.under_way in
    let t = taken_due old.contexts k.0 c in
    let owners = owners_changed emptied slots c (λ x. (refl, refl)) in
    let cleans = cleaning_moves old k (Some c) (Place.Cleanup c) (slice_get_within old.workers k.0 Place.Idle at)
    (subst (λ n. k.0 < n) (sym h.lawful.cleaners) worker) refl h.cleaning in
    record {
      under_way = goes_keeps old k Place.Idle (Place.Cleanup c) at (outside_of Place.Idle refl) (outside_of (Place.Cleanup c) refl) (at_none Place.Idle refl)
          (at_none (Place.Cleanup c) refl) s.under_way;
      owned = owned_moves old old.stack old.flow t k Place.Idle (Place.Cleanup c) [] at worker cleans (filters_same old.stack) owners
          (take_due_keeps k.0 c h.lawful worker first (h.cleaning k.0 ∙ ap cleanup_in at))
          (same_hands old.contexts.hands k.0 ∙ ap (slice_set old.contexts.hands k.0) (empty_hand old k Place.Idle at refl h))
          (All-nil (HoldsIn old.stack t.slots None))
          (all_carry_still old.stack slots old.stack t.slots old.flow.operations
          (belongs_still old.stack slots old.stack t.slots (filters_same old.stack) owners) h.completions)
          (passes_changed (fits old.stack) (option_map emptied) slots c refl (λ x there fit. fit) h.fits) h.quiet h;
      begun = s.begun;
      filed = s.filed;
      links = passes_changed (names_there old.files) (option_map emptied) slots c refl (λ x there named. named) s.links;
    }

-- what a worker cleans up it cleans up still, where an idle one takes what is due
taken_lasts : (old new : World) (w : ℕ) (m : Option CtxId) → new.contexts ≡ taken_of old.contexts w m
    → cleaning_of old.contexts.cleaning w ≡ None → Lasts old new
taken_lasts old new w None made idle = lasts old new old.contexts made (still old.contexts)
taken_lasts old new w (Some d) made idle = (
  subst (λ (t : ContextTable). SlotsStay old.contexts.slots t.slots) (sym made) (slots_changed (option_map emptied) old.contexts.slots d refl),
  λ k c busy. inl (ap (λ (t : ContextTable). cleaning_of t.cleaning k) made
      ∙ get_or-set_other old.contexts.cleaning w k (Some d) None (λ is. none-some c (sym (ap (cleaning_of old.contexts.cleaning) is ∙ idle) ∙ busy)) ∙ busy),
)

pub take_due_does : (old : World) (k : WorkerId) (result : Result (Option Due) Status) (new : World) → TakesDue old k result new → Does old new
unfolding TakesDue
take_due_does old k result new h =
    idle_by (λ _ w. Does old w) k result old new _ h (λ why. nothing old) (λ at e. record {
      sound = λ s. subst IsSound (sym e.1) (take_due_at old k (slice_get old.contexts.due 0) at refl s);
      lasts = λ s. taken_lasts old new k.0 _ (ap contexts_in e.1) (s.owned.cleaning k.0 ∙ ap cleanup_in at);
    })

-- ---- cleaned

pub none_one : (b : Bool) → one b ≡ 0 → b ≡ false
none_one b h = grind arith

-- a list without a reference to a context
none_in : (c : CtxId) (ids : List CtxId) → references ids c ≡ 0 → All (λ d. is_id c d ≡ false) ids
none_in c [] h = All-nil (λ d. is_id c d ≡ false)
none_in c (d ∷ ids) h = grind (arith, All-nil, references_cons, All-cons, none_one, (none_in c ids))

turned : (c d : CtxId) → is_id c d ≡ false → is_id d c ≡ false
turned c d h = grind arith

none_among : (c : CtxId) (asks : List Ask) → carried_among c asks ≡ 0 → All (λ (ask : Ask). carried_in c ask.completion ≡ 0) asks
none_among c [] h = All-nil (λ (ask : Ask). carried_in c ask.completion ≡ 0)
none_among c (ask ∷ asks) h = All-cons (λ (ask : Ask). carried_in c ask.completion ≡ 0) ask asks (omega (arith, h)) (none_among c asks (omega (arith, h)))

none_carry : (c : CtxId) (rs : List FlowRecord) → total (carried_by c) rs ≡ 0
    → All (λ (r : FlowRecord). All (λ (ask : Ask). carried_in c ask.completion ≡ 0) (owed r.entries)) rs
none_carry c [] h = All-nil (λ (r : FlowRecord). All (λ (ask : Ask). carried_in c ask.completion ≡ 0) (owed r.entries))
none_carry c (r ∷ rs) h = grind (arith, All-nil, All-cons, none_among, (none_carry c rs))

-- the id names nothing any more; all others do
abbrev gone_slots : List Slot → CtxId → List Slot
gone_slots slots c = change_context (λ (x : Option Context). None) slots c

belongs_other : (s : StackWorld) (slots : List Slot) (c d : CtxId) (i : InstanceId) → is_id c d ≡ false → belongs s slots i d ≡ true
    → belongs s (gone_slots slots c) i d ≡ true
belongs_other s slots c d i apart h = grind (arith, context_at-other, turned)

ask_other : (s : StackWorld) (slots : List Slot) (c : CtxId) (ask : Ask) → AskCarries s slots ask → carried_in c ask.completion ≡ 0
    → AskCarries s (gone_slots slots c) ask
ask_other s slots c ask =
    elim ask.completion.context as (λ o. CarriesIn s slots ask.instance o → carried_in c (record { number = 0; context = o }) ≡ 0
    → CarriesIn s (gone_slots slots c) ask.instance o) [
      | None ↦ λ h none. tt
      | Some d ↦ λ h none. belongs_other s slots c d ask.instance (none_one (is_id c d) none) h
    ]

-- no hand has a reference to a context that has none
none_in_hand : (hands : List (List CtxId)) (c : CtxId) (n : ℕ) → held hands c ≡ 0 → references (hand_of hands n) c ≡ 0
none_in_hand hands c n h3 = grind (arith, common_steps, hand_counted, ltb-true, ltb-false, references_none)

totals_kept : (o : Option FilterId) (number : ℕ) (totals : List ℕ) → length totals ≡ 16 → length (totalled_for o number totals) ≡ 16
totals_kept o number totals h = grind (arith, length-updated)

cleaned_owned : (w : World) (k : WorkerId) (c : CtxId) (number : ℕ) → worker_at w.workers k ≡ Some (Place.Cleanup c) → IsSound w
    → IsOwned (record w {
      workers = put w.workers k Place.Idle;
      contexts = cleaned w.contexts k.0 c;
      totals = totalled_for (filter_of w.stack (context_at w.contexts.slots c)) number w.totals;
    })
cleaned_owned w k c number at s =
    let h = s.owned in
    let within = slice_get_within w.workers k.0 (Place.Cleanup c) at in
    let worker : k.0 < 48 = subst (λ n. k.0 < n) s.under_way.hands within in
    let hands = w.contexts.hands in
    let slots = gone_slots w.contexts.slots c in
    let busy : cleaning_of w.contexts.cleaning k.0 ≡ Some c = h.cleaning k.0 ∙ ap cleanup_in at in
    let none = (count_cleaning k.0 c h.lawful worker busy).1 in
    let held_none : held hands c ≡ 0 = omega (arith, none) in
    let carried_none : total (carried_by c) w.flow.operations ≡ 0 = omega (arith, none) in
    let place_same = at_written (λ j m. place_in m ≡ place_in (slice_get w.workers j)) w.workers k.0 Place.Idle within
    (sym (ap place_in at)) (λ j apart. refl) in
    record {
      lawful = cleaned_keeps k.0 c h.lawful worker busy;
      cleaning = cleaning_moves w k None Place.Idle within (subst (λ n. k.0 < n) (sym h.lawful.cleaners) worker) refl h.cleaning;
      holders = λ n i d l.
          let id = get_or (hand_of hands n.0) i d in
          let other = none_in c (hand_of hands n.0) (none_in_hand hands c n.0 held_none) i d l in
          subst (λ p. HoldsIn w.stack slots p id) (sym (place_same n.0))
          (elim (place_in (worker_at w.workers n)) as (λ p. HoldsIn w.stack w.contexts.slots p id → HoldsIn w.stack slots p id) [
            | None ↦ λ held. held
            | Some j ↦ belongs_other w.stack w.contexts.slots c id j other
          ] (h.holders n i d l));
      completions = λ i d l j a m.
          ask_other w.stack w.contexts.slots c (get_or (owed (get_or w.flow.operations i d).entries) j a) (h.completions i d l j a m)
          (none_carry c w.flow.operations carried_none i d l j a m);
      fits = passes_changed (fits w.stack) (λ (x : Option Context). None) w.contexts.slots c refl (λ x there fit. refl) h.fits;
      quiet = h.quiet;
      totals = totals_kept (filter_of w.stack (context_at w.contexts.slots c)) number w.totals h.totals;
    }

cleaned_on : (old : World) (w : WorkerId) (d : CtxId) (new : World) → new.contexts ≡ cleaned old.contexts w.0 d
    → cleaning_of old.contexts.cleaning w.0 ≡ Some d → CleansOn old new
cleaned_on old w d new made own = grind (arith, cases_eq, context_at-here, get_or-set_other)

pub cleaned_does : (old : World) (k : WorkerId) (number : ℕ) (result : Result (Unit {0}) Status) (new : World) → Cleans old k number result new → Does old new
unfolding Cleans
cleaned_does old k number result new h = by_place (worker_at old.workers k) refl h
  where
    by_place : (m : Option Place) → worker_at old.workers k ≡ m → CleansAt old k number result new m → Does old new
    by_place (Some (Place.Cleanup c)) at e = record {
      sound = λ s. subst IsSound (sym e.1) (record {
        under_way = goes_keeps old k (Place.Cleanup c) Place.Idle at (outside_of (Place.Cleanup c) refl) (outside_of Place.Idle refl)
            (at_none (Place.Cleanup c) refl)
            (at_none Place.Idle refl) s.under_way;
        owned = cleaned_owned old k c number at s;
        begun = s.begun;
        filed = s.filed;
        links = passes_changed (names_there old.files) (λ (x : Option Context). None) old.contexts.slots c refl (λ x there named. refl) s.links;
      });
      lasts = λ s.
          let made = ap contexts_in e.1 in (
            subst (λ (t : ContextTable). SlotsStay old.contexts.slots t.slots) (sym made)
                (slots_changed (λ (x : Option Context). None) old.contexts.slots c refl),
            cleaned_on old k c new made (s.owned.cleaning k.0 ∙ ap cleanup_in at),
          );
    }
    by_place _ at h = unchanged old new h.1

-- ---- the end of an instance

emptying_is : (p : Phase) → is_emptying p ≡ true → p ≡ Phase.Emptying
emptying_is p h = grind arith

finish_workers : (d : InstanceCallback) (row : Instance) (n : ℕ) → row.phase ≡ Phase.Emptying → HasWorkers d (Some row) n → HasWorkers d (Some (finish_row row)) n
finish_workers d row n was h = grind arith

finish_fits : (s : StackWorld) (i : InstanceId) (o : Option Context) → fits s o ≡ true → is_open (Owner.Instance i) o ≡ false → fits (finished s i) o ≡ true
finish_fits s i o fit closed = grind (arith, and_parts, updated-other, and_from, owner_stays, eq-eqb, link_stays, others_link)

none_over : (n m : ℕ) → n + m ≤ 0 → (n ≡ 0) × (m ≡ 0)
none_over n m h = (omega (arith, h), omega (arith, h))

pub finish_does : (old : World) (i : InstanceId) (result : Result (Unit {0}) Status) (new : World) → Finishes old i result new → Does old new
unfolding Finishes
finish_does old i (Err why) new h = unchanged old new h.1
finish_does old i (Ok done) new h =
    makes old (record old { stack = finished old.stack i }) new h.1 (still old.contexts) (λ s.
    let open' = left_over old i in
    let at = row_at old.stack i in
    let frees = none_refuses ((is_gone_at at, Status.NoInstance) ∷ (not (is_emptying_at at), Status.WrongStep)
    ∷ (nat_lt 0 open', Status.Busy open') ∷ []) h.0 in
    let row = emptying_row at (not_false (is_emptying_at at) frees.1.0) in
    let emptying = emptying_is row.0.phase row.2 in
    let t = finished old.stack i in
    let rows = old.stack.instances in
    let slots = old.contexts.slots in
    let k = s.owned in
    let none = none_over (open_of old.contexts.slots (Owner.Instance i)) (begun_by i.0 old.flow) (ltb-false 0 open' frees.1.1.0) in
    let belongs = belongs_still old.stack slots t slots (filters_updated old.stack t finish_row i.0 refl (λ row. refl)) (owners_same slots slots refl) in
    record {
      under_way = stack_changes old t (finished_keeps old.stack i s.under_way.stack row.0 row.1 row.2) (finished_follows old.stack i)
          (λ d j n. at_updated (λ x m. HasWorkers d (slice_get rows x) n → HasWorkers d m n) finish_row rows i.0 row.0 row.1
          (λ h. finish_workers d row.0 n emptying (subst (λ m. HasWorkers d m n) row.1 h)) (λ x apart h. h) j) s.under_way;
      begun = λ j gone. at_updated (λ n m. is_left_by m ≡ false → begun_by n old.flow ≡ 0) finish_row rows i.0 row.0 row.1 (λ _. none.1)
          (λ n apart gone. s.begun (record { 0 = n }) gone) j.0 gone;
      filed = s.filed;
      links = s.links;
      owned = record {
        lawful = k.lawful;
        cleaning = k.cleaning;
        holders = all_hold_still old.stack slots t slots old.workers old.contexts.hands belongs k.holders;
        completions = all_carry_still old.stack slots t slots old.flow.operations belongs k.completions;
        fits = λ n d l. finish_fits old.stack i (get_or slots n d).context (k.fits n d l)
            (none_pass (λ (x : Slot). is_open (Owner.Instance i) x.context) slots none.0 n d l);
        quiet = λ j rests. k.quiet j (at_updated (λ n m. is_flown_by m ≡ false → is_flown_by (slice_get rows n) ≡ false) finish_row rows i.0 row.0 row.1
            (λ _. ap is_flown_by row.1 ∙ ap is_flown emptying) (λ n apart h. h) j.0 rests);
        totals = k.totals;
      };
    })
