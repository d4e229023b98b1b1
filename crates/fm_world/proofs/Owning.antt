-- What the events on filters, volumes and instances do.
use Rattle.fm_world.proofs.Words.{leave_keeps, sweep_keeps, swept, swept_slot, accept_row, refuse_row, Follows, IsStack, Volume, slice_get-kept}
use Rattle.fm_world.proofs.Words.{slice_get-set_other, slice_get-set_same, updated-other, Attaches, EmptiesUnless, Mounts, Registers, SetsUp, SetsUpAt}
use Rattle.fm_world.proofs.Words.{hand_len, left_by_setup, names_there, HoldsIn, fits, holds_links_by, is_flown, is_flown_by, is_left_by, keeps_links}
use Rattle.fm_world.proofs.Words.{keeps_links_by, place_in, row_at, IsOwned, IsSound, HasWorkers, Context, ContextTable, CtxId, FilterId, FlowTable, Instance}
use Rattle.fm_world.proofs.Words.{InstanceId, IsLawful, Leaves, Owner, Phase, Slot, StackWorld, Status, Sweeps, VolumeId, WorkerId, carried, cleaning_of}
use Rattle.fm_world.proofs.Words.{hand_of, in_flight, is_detached, is_linked_of, is_setup, after_attach, cleanup_in, put, worker_at, World, carries, Place}
use Rattle.fm_world.proofs.Words.{All, Bool, Err, List, None, Ok, Option, Result, Some, [], ap, arith, false, inl, inr, length, map, not, refl, slice_get}
use Rattle.fm_world.proofs.Words.{slice_set, subst, sym, true, ℕ, ◌++◌, ◌<◌, ◌∙◌, ◌∷◌, ◌≡◌, ◌≤◌, ◌⊎◌, and_from, and_parts, cases_eq, length-append, All-head}
use Rattle.fm_world.proofs.Words.{All-nil, same_Some, slice_get_within}
use Rattle.fm_stack.proofs.Registering.{mounted_follows, mounted_keeps, registered_follows, registered_keeps}
use Rattle.fm_types.specs.declared.registration.Registration.{Registration}
use Rattle.fm_world.specs.Sound.{NoneBegun}
use Rattle.fm_world.proofs.Asking.{left_asks}
use Rattle.fm_world.proofs.Belonging.{AllCarry, AllFit, AllPass, FiltersStay, OwnersStay, VolumesStay, all_carry_still, all_hold_still, belongs_still}
use Rattle.fm_world.proofs.Belonging.{filters_updated, fits_on, link_stays, others_link, owner_stays, owners_after, owners_same, owners_swept, passes_swept}
use Rattle.fm_world.proofs.Callbacks.{owned_with, same_hands}
use Rattle.fm_world.proofs.Cases.{at_updated, at_written, by_option, some_of}
use Rattle.fm_world.proofs.Events.{idle_by}
use Rattle.fm_world.proofs.Keeps.{FiledIn, RowChanges, attach_keeps, row_updated, setup_keeps, setup_place, stack_changes, worker_below}
use Rattle.fm_world.proofs.Losing.{NamedIn, passes_unlinked}
use Rattle.fm_world.proofs.Staying.{Does, SlotsStay, TableStays, hand_emptied, lasts, makes, nothing, slots_swept, still, table_after, table_same, unchanged}
use Rattle.fm_stack.specs.Events as stack

-- ---- instances go on

-- x is instance j, y what becomes of it: it has its filter, what was there of it is there, and where operations may not be in flight, none is
pub record GoesOnAt (w : World) (j : ℕ) (x y : Instance) : Type 0 where
  pub filter : y.filter ≡ x.filter
  pub left : not (is_detached x.phase) ≡ true → not (is_detached y.phase) ≡ true
  pub keeps : keeps_links x.phase ≡ true → keeps_links y.phase ≡ true
  pub quiet : is_flown y.phase ≡ false → (is_flown x.phase ≡ false) ⊎ (in_flight j w.flow ≡ 0)

abbrev pub RowsGoOn : World → StackWorld → Type 0
RowsGoOn w t = (j : ℕ) (row : Instance) → slice_get w.stack.instances j ≡ Some row → (after : Instance)
    × (slice_get t.instances j ≡ Some after) × GoesOnAt w j row after

pub goes_same : (w : World) (j : ℕ) (x y : Instance) → y.filter ≡ x.filter → y.phase ≡ x.phase → GoesOnAt w j x y
goes_same w j x y filter phase = record {
  filter = filter;
  left = λ h. ap (λ p. not (is_detached p)) phase ∙ h;
  keeps = λ h. ap keeps_links phase ∙ h;
  quiet = λ h. inl (sym (ap is_flown phase) ∙ h);
}

pub rows_same : (w : World) (t : StackWorld) → t.instances ≡ w.stack.instances → RowsGoOn w t
rows_same w t same j row there = (row, ap (λ (xs : List Instance). slice_get xs j) same ∙ there, goes_same w j row row refl refl)

pub row_goes : (w : World) (t : StackWorld) (i : ℕ) (x y : Instance) → RowChanges w.stack t i x y → GoesOnAt w i x y → RowsGoOn w t
row_goes w t i x y row on j was there = elim (cases_eq j i) [
  | inl is ↦
      let same : x ≡ was = same_Some x was (sym row.was ∙ ap (slice_get w.stack.instances) (sym is) ∙ there) in
      (y, ap (slice_get t.instances) is ∙ row.now, subst (λ n. GoesOnAt w n was y) (sym is) (subst (λ z. GoesOnAt w i z y) same on))
  | inr apart ↦ (was, row.others j apart ∙ there, goes_same w j was was refl refl)
]

rows_filters : (w : World) (t : StackWorld) → RowsGoOn w t → FiltersStay w.stack t
rows_filters w t on j row there = let after = on j row there in (after.0, after.1, after.2.filter)

-- a test on the row of an instance
row_test : (w : World) (t : StackWorld) (read : Option Instance → Bool) → read None ≡ false
    → ((j : ℕ) (x y : Instance) → GoesOnAt w j x y → read (Some x) ≡ true → read (Some y) ≡ true) → RowsGoOn w t
    → (j : InstanceId) → read (row_at w.stack j) ≡ true → read (row_at t j) ≡ true
row_test w t read none test on j h =
    let row = some_of read (row_at w.stack j) none h in
    let after = on j.0 row.0 row.1 in
    ap read after.1 ∙ test j.0 row.0 after.0 after.2 (sym (ap read row.1) ∙ h)

pub rows_left : (w : World) (t : StackWorld) → RowsGoOn w t → (j : InstanceId) → is_left_by (row_at w.stack j) ≡ true → is_left_by (row_at t j) ≡ true
rows_left w t on = row_test w t is_left_by refl (λ j x y goes h. goes.left h) on

rows_keep : (w : World) (t : StackWorld) → RowsGoOn w t → (j : InstanceId) → keeps_links_by (row_at w.stack j) ≡ true → keeps_links_by (row_at t j) ≡ true
rows_keep w t on = row_test w t keeps_links_by refl (λ j x y goes h. goes.keeps h) on

rows_quiet : (w : World) (t : StackWorld) → RowsGoOn w t → ((j : InstanceId) → is_flown_by (row_at w.stack j) ≡ false → in_flight j.0 w.flow ≡ 0)
    → (j : InstanceId) → is_flown_by (row_at t j) ≡ false → in_flight j.0 w.flow ≡ 0
rows_quiet w t on quiet j rests =
    by_option (λ m. row_at w.stack j ≡ m → in_flight j.0 w.flow ≡ 0) (row_at w.stack j) (λ _ none. quiet j (ap is_flown_by none)) (λ row _ there.
    let after = on j.0 row there in
    elim (after.2.quiet (sym (ap is_flown_by after.1) ∙ rests)) [ inl was ↦ quiet j (ap is_flown_by there ∙ was) | inr none ↦ none ]) refl

goes_fit : (w : World) (t : StackWorld) → RowsGoOn w t → length w.stack.filters ≤ length t.filters → VolumesStay w.stack t → IsOwned w
    → AllFit t w.contexts.slots
goes_fit w t on filters volumes h =
    fits_on w.stack t w.contexts.slots (record { filters = filters; volumes = volumes; left = rows_left w t on; keeps = rows_keep w t on }) h.fits

-- instances go on, and contexts and workers stay
pub stack_owned : (w : World) (t : StackWorld) → RowsGoOn w t → length w.stack.filters ≤ length t.filters → VolumesStay w.stack t
    → IsOwned w → IsOwned (record w { stack = t })
stack_owned w t on filters volumes h =
    let slots = w.contexts.slots in
    let still = belongs_still w.stack slots t slots (rows_filters w t on) (owners_same slots slots refl) in
    record {
      lawful = h.lawful;
      cleaning = h.cleaning;
      holders = all_hold_still w.stack slots t slots w.workers w.contexts.hands still h.holders;
      completions = all_carry_still w.stack slots t slots w.flow.operations still h.completions;
      fits = goes_fit w t on filters volumes h;
      quiet = rows_quiet w t on h.quiet;
      totals = h.totals;
    }

-- ---- register and mount

volumes_push : (xs : List Volume) (x : Volume) (v : ℕ) → holds_links_by (slice_get xs v) ≡ true → holds_links_by (slice_get (xs ++ x ∷ []) v) ≡ true
volumes_push xs x v h = grind (arith, some_of, slice_get-kept)

-- filters or volumes come, and the instances stay
stack_does : (old new : World) (t : StackWorld) → new.stack ≡ t → new ≡ record old { stack = new.stack } → t.instances ≡ old.stack.instances
    → (IsStack old.stack → IsStack t × Follows old.stack t) → length old.stack.filters ≤ length t.filters → VolumesStay old.stack t → Does old new
stack_does old new t is e same keeps filters volumes =
    makes old (record old { stack = t }) new (e ∙ ap (λ x. record old { stack = x }) is) (still old.contexts) (λ s.
    let stack = keeps s.under_way.stack in
    record {
      under_way = stack_changes old t stack.0 stack.1 (λ d j n h. subst (λ (xs : List Instance). HasWorkers d (slice_get xs j) n) (sym same) h) s.under_way;
      owned = stack_owned old t (rows_same old t same) filters volumes s.owned;
      begun = left_asks old.stack t old.flow (rows_left old t (rows_same old t same)) s.begun;
      filed = s.filed;
      links = s.links;
    })

pub register_does : (old : World) (name : List ℕ) (registration : Registration) (result : Result FilterId Status) (new : World)
    → Registers old name registration result new → Does old new
unfolding Registers stack.Registers
register_does old name registration (Err why) new h = unchanged old new (h.1 ∙ ap (λ x. record old { stack = x }) h.0.1)
register_does old name registration (Ok f) new h =
    stack_does old new (stack.registered old.stack name registration) h.0.1.1 h.1 refl
    (λ s. (registered_keeps old.stack name registration s h.0.0, registered_follows old.stack name registration s))
    (omega (arith, length-append old.stack.filters (stack.new_filter name registration ∷ []))) (λ v h. h)

pub mount_does : (old : World) (name : List ℕ) (result : Result VolumeId Status) (new : World) → Mounts old name result new → Does old new
unfolding Mounts stack.Mounts
mount_does old name (Err why) new h = unchanged old new (h.1 ∙ ap (λ x. record old { stack = x }) h.0.1)
mount_does old name (Ok v) new h =
    stack_does old new (stack.mounted old.stack name) h.0.1.1 h.1 refl (λ s. (mounted_keeps old.stack name s h.0.0, mounted_follows old.stack name s))
    (omega arith) (volumes_push old.stack.volumes (stack.new_volume name))

-- ---- workers go into callbacks and come back

-- a worker outside of callbacks holds nothing
holds_nothing : (s : StackWorld) (slots : List Slot) (m : Option InstanceId) (ids : List CtxId) → m ≡ None → All (HoldsIn s slots m) ids → ids ≡ []
holds_nothing s slots m [] e h = refl
holds_nothing s slots m (c ∷ ids) e h = absurd (subst (λ p. HoldsIn s slots p c) e (All-head (HoldsIn s slots m) c ids h))

pub empty_hand : (w : World) (k : WorkerId) (a : Place) → worker_at w.workers k ≡ Some a → place_in (Some a) ≡ None → IsOwned w
    → hand_of w.contexts.hands k.0 ≡ []
empty_hand w k a at outside h = holds_nothing w.stack w.contexts.slots (place_in (worker_at w.workers k))
    (hand_of w.contexts.hands k.0) (ap place_in at ∙ outside) (h.holders k)

-- no cleanup begins or ends
pub cleaning_stays : (w : World) (cleaning : List (Option CtxId)) (k : WorkerId) (a b : Place) → worker_at w.workers k ≡ Some a → cleaning ≡ w.contexts.cleaning
    → cleanup_in (Some a) ≡ None → cleanup_in (Some b) ≡ None
    → ((n : ℕ) → cleaning_of w.contexts.cleaning n ≡ cleanup_in (slice_get w.workers n))
    → (n : ℕ) → cleaning_of cleaning n ≡ cleanup_in (slice_get (put w.workers k b) n)
cleaning_stays w cleaning k a b at same na nb h n =
    ap (λ xs. cleaning_of xs n) same
    ∙ at_written (λ j m. cleaning_of w.contexts.cleaning j ≡ cleanup_in m) w.workers k.0 b (slice_get_within w.workers k.0 a at)
    (h k.0 ∙ ap cleanup_in at ∙ na ∙ sym nb) (λ j apart. h j) n

-- a worker goes elsewhere, with another hand; instances keep their filters, and contexts their owners
pub owned_moves : (w : World) (t : StackWorld) (u : FlowTable) (c : ContextTable) (k : WorkerId) (a b : Place) (hand : List CtxId)
    → worker_at w.workers k ≡ Some a → k.0 < 48
    → ((n : ℕ) → cleaning_of c.cleaning n ≡ cleanup_in (slice_get (put w.workers k b) n)) → FiltersStay w.stack t → OwnersStay w.contexts.slots c.slots
    → IsLawful (λ id. carried id u) c → c.hands ≡ slice_set w.contexts.hands k.0 hand → All (HoldsIn t c.slots (place_in (Some b))) hand
    → AllCarry t c.slots u.operations → AllFit t c.slots → ((j : InstanceId) → is_flown_by (row_at t j) ≡ false → in_flight j.0 u ≡ 0) → IsOwned w
    → IsOwned (record w { stack = t; flow = u; workers = put w.workers k b; contexts = c })
owned_moves w t u c k a b hand at worker cleans filters owners lawful hands here carry fit quiet h =
    let is : slice_get (put w.workers k b) k.0 ≡ Some b = slice_get-set_same w.workers k.0 b (slice_get_within w.workers k.0 a at) in
    owned_with w t u (put w.workers k b) c k hand (belongs_still w.stack w.contexts.slots t c.slots filters owners)
    (λ j apart. slice_get-set_other w.workers k.0 j b apart) cleans lawful
    hands worker (subst (λ m. All (HoldsIn t c.slots (place_in m)) hand) (sym is) here) carry fit quiet h

-- a worker goes from one place to another, neither of which is a cleanup, and held nothing; instances go on
pub goes_owned : (old : World) (k : WorkerId) (a b : Place) (t : StackWorld) → worker_at old.workers k ≡ Some a → place_in (Some a) ≡ None
    → cleanup_in (Some a) ≡ None → cleanup_in (Some b) ≡ None → RowsGoOn old t → length old.stack.filters ≤ length t.filters
    → VolumesStay old.stack t → IsSound old
    → IsOwned (record old { stack = t; workers = put old.workers k b })
goes_owned old k a b t at outside na nb on filters volumes s =
    let slots = old.contexts.slots in
    let base = stack_owned old t on filters volumes s.owned in
    owned_moves old t old.flow old.contexts k a b [] at (worker_below old k a at s.under_way)
    (cleaning_stays old old.contexts.cleaning k a b at refl na nb s.owned.cleaning)
    (rows_filters old t on) (owners_same slots slots refl) s.owned.lawful
    (same_hands old.contexts.hands k.0 ∙ ap (slice_set old.contexts.hands k.0) (empty_hand old k a at outside s.owned))
    (All-nil (HoldsIn t slots (place_in (Some b))))
    base.completions base.fits base.quiet s.owned

-- ---- attach

pub attach_does : (old : World) (k : WorkerId) (f : FilterId) (v : VolumeId) (name altitude : List ℕ) (result : Result InstanceId Status) (new : World)
    → Attaches old k f v name altitude result new → Does old new
unfolding Attaches stack.Attaches
attach_does old k f v name altitude result new h =
    idle_by (λ _ w. Does old w) k result old new _ h (λ why. nothing old) (λ at event. by_result result at event.0 event.1)
  where
    by_result : (result : Result InstanceId Status) → worker_at old.workers k ≡ Some Place.Idle → stack.Attaches old.stack f v name altitude result new.stack
        → new ≡ record old { stack = new.stack; workers = after_attach old.workers k result } → Does old new
    by_result (Err why) at h e = unchanged old new (e ∙ ap (λ x. record old { stack = x }) h.1)
    by_result (Ok i) at h e =
        let t = stack.attached old.stack f v name altitude in
        let on : RowsGoOn old t =
        λ j row there. (row, slice_get-kept old.stack.instances (stack.new_instance f v name altitude ∷ []) j row there, goes_same old j row row refl refl) in
        makes old (record old { stack = t; workers = put old.workers k (Place.Setup i) }) new
        (e ∙ ap (λ x. record old { stack = x; workers = put old.workers k (Place.Setup i) }) h.1.1) (still old.contexts) (λ s. record {
          under_way = attach_keeps old k f v name altitude i at h.0 h.1.0 s.under_way;
          owned = goes_owned old k Place.Idle (Place.Setup i) t at refl refl refl on (omega arith) (λ v h. h) s;
          begun = left_asks old.stack t old.flow (rows_left old t on) s.begun;
          filed = s.filed;
          links = s.links;
        })

-- ---- a callback returns: what it held is gone, and its worker is idle

callback_returns : (old : World) (k : WorkerId) (a : Place) (t : StackWorld) (c : ContextTable) → worker_at old.workers k ≡ Some a → cleanup_in (Some a) ≡ None
    → FiltersStay old.stack t → OwnersStay old.contexts.slots c.slots → IsSound old
    → c.hands ≡ slice_set old.contexts.hands k.0 [] → c.cleaning ≡ old.contexts.cleaning
    → IsLawful (carries old) c → AllFit t c.slots → ((j : InstanceId) → is_flown_by (row_at t j) ≡ false → in_flight j.0 old.flow ≡ 0)
    → IsOwned (record old { stack = t; workers = put old.workers k Place.Idle; contexts = c })
callback_returns old k a t c at na filters owners s hands cleaning lawful fit quiet =
    owned_moves old t old.flow c k a Place.Idle [] at (worker_below old k a at s.under_way)
    (cleaning_stays old c.cleaning k a Place.Idle at cleaning na refl s.owned.cleaning)
    filters owners lawful hands (All-nil (HoldsIn t c.slots None))
    (all_carry_still old.stack old.contexts.slots t c.slots old.flow.operations
    (belongs_still old.stack old.contexts.slots t c.slots filters owners) s.owned.completions) fit
    quiet s.owned

-- contexts fit what instances are then, and name what is there
abbrev pub OwnsAndNames : World → Type 0
OwnsAndNames w = IsOwned w × NamedIn w

-- and instances go on
pub returns_owned : (old : World) (k : WorkerId) (a : Place) (t : StackWorld) (left : ContextTable) → worker_at old.workers k ≡ Some a
    → cleanup_in (Some a) ≡ None
    → RowsGoOn old t → length old.stack.filters ≤ length t.filters → VolumesStay old.stack t → Leaves (carries old) old.contexts left k.0 → IsSound old
    → OwnsAndNames (record old { stack = t; workers = put old.workers k Place.Idle; contexts = left })
returns_owned old k a t left at na on filters volumes leaves s = (
  callback_returns old k a t left at na (rows_filters old t on) (owners_same old.contexts.slots left.slots leaves.slots) s leaves.hands leaves.cleaning
      (leave_keeps k.0 s.owned.lawful leaves) (subst (AllFit t) (sym leaves.slots) (goes_fit old t on filters volumes s.owned))
      (rows_quiet old t on s.owned.quiet),
  subst (AllPass (names_there old.files)) (sym leaves.slots) s.links,
)

pub emptied_left : (s : StackWorld) (i j : InstanceId) (row : Instance) → slice_get s.instances i.0 ≡ Some row
    → is_left_by (row_at s j) ≡ true → is_left_by (row_at (stack.refused s i) j) ≡ true
emptied_left s i j row there =
    at_updated (λ n m. is_left_by (slice_get s.instances n) ≡ true → is_left_by m ≡ true) refuse_row s.instances i.0 row there (λ h. refl) (λ n apart h. h) j.0

emptied_flown : (s : StackWorld) (i j : InstanceId) (row : Instance) → slice_get s.instances i.0 ≡ Some row → is_flown row.phase ≡ false
    → is_flown_by (row_at (stack.refused s i) j) ≡ false → is_flown_by (row_at s j) ≡ false
emptied_flown s i j row there rests =
    at_updated (λ n m. is_flown_by m ≡ false → is_flown_by (slice_get s.instances n) ≡ false) refuse_row s.instances i.0 row there
    (λ h. ap is_flown_by there ∙ rests) (λ n apart h. h) j.0

-- the instance's contexts lost their links, so none is to it
emptied_fits : (s : StackWorld) (i : InstanceId) (row : Instance) (x : Context) → slice_get s.instances i.0 ≡ Some row → fits s (Some x) ≡ true
    → fits (stack.refused s i) (Some (swept (is_linked_of (Owner.Instance i)) x)) ≡ true
emptied_fits s i row x h4 h5 = grind (arith, and_parts, owner_stays, emptied_left, and_from, link_stays, others_link, updated-other)

-- and the instance is to be emptied: its contexts lose their links
pub emptied_owned : (old : World) (k : WorkerId) (a : Place) (i : InstanceId) (row : Instance) (left after : ContextTable)
    → worker_at old.workers k ≡ Some a → cleanup_in (Some a) ≡ None
    → slice_get old.stack.instances i.0 ≡ Some row → is_flown row.phase ≡ false → Leaves (carries old) old.contexts left k.0
    → Sweeps (carries old) (is_linked_of (Owner.Instance i)) left after → IsSound old
    → OwnsAndNames (record old { stack = stack.refused old.stack i; workers = put old.workers k Place.Idle; contexts = after })
emptied_owned old k a i row left after at na there rests leaves empties s =
    let t = stack.refused old.stack i in
    let test = is_linked_of (Owner.Instance i) in
    let old_slots = old.contexts.slots in
    let slots : after.slots ≡ map (swept_slot test) old_slots = empties.slots ∙ ap (map (swept_slot test)) leaves.slots in
    let owners = owners_after old_slots (map (swept_slot test) old_slots) after.slots (owners_swept test old_slots)
    (owners_same (map (swept_slot test) old_slots) after.slots slots) in
    let fit = passes_swept (fits old.stack) (fits t) test old_slots refl (λ x fit. emptied_fits old.stack i row x there fit) s.owned.fits in
    let named = passes_swept (names_there old.files) (names_there old.files) test old_slots refl
    (λ x. passes_unlinked (names_there old.files) test x (λ was. refl)) s.links in (
      callback_returns old k a t after at na (filters_updated old.stack t refuse_row i.0 refl (λ row. refl)) owners s (empties.hands
          ∙ leaves.hands) (empties.cleaning ∙ leaves.cleaning)
          (sweep_keeps test (leave_keeps k.0 s.owned.lawful leaves) empties) (subst (AllFit t) (sym slots) fit)
          (λ j flown. s.owned.quiet j (emptied_flown old.stack i j row there rests flown)),
      subst (AllPass (names_there old.files)) (sym slots) named,
    )

-- ---- the end of a setup callback

setup_is : (p : Phase) → is_setup p ≡ true → p ≡ Phase.Setup
setup_is p h = grind arith

accepted_goes : (w : World) (i : InstanceId) (row : Instance) → is_setup row.phase ≡ true → GoesOnAt w i.0 row (accept_row w.stack.births row)
accepted_goes w i row setup = record { filter = refl; left = λ h. refl; keeps = λ h. refl; quiet = λ h. inl (ap is_flown (setup_is row.phase setup)) }

setup_owned : (old : World) (k : WorkerId) (i : InstanceId) (accept : Bool) (result : Result (Unit {0}) Status) (new : World) (left : ContextTable)
    → worker_at old.workers k ≡ Some (Place.Setup i) → stack.SetsUp old.stack i accept result new.stack → Leaves (carries old) old.contexts left k.0
    → EmptiesUnless result i old left new.contexts → new ≡ record old { stack = new.stack; workers = put old.workers k Place.Idle; contexts = new.contexts }
    → IsSound old → OwnsAndNames new
unfolding stack.SetsUp
setup_owned old k i accept (Ok done) new left at h leaves empties e s =
    let row = setup_place old k i s.under_way at in
    let t = stack.accepted old.stack i in
    let made = e ∙ ap (λ x. record old { stack = x; workers = put old.workers k Place.Idle; contexts = new.contexts }) h.1
    ∙ ap (λ c. record old { stack = t; workers = put old.workers k Place.Idle; contexts = c }) empties in
    subst OwnsAndNames (sym made)
    (returns_owned old k (Place.Setup i) t left at refl
    (row_goes old t i.0 row.0 (accept_row old.stack.births row.0)
    (row_updated old.stack t (accept_row old.stack.births) i.0 row.0 refl row.1) (accepted_goes old i row.0 row.2))
    (omega arith) (λ v h. h) leaves s)
setup_owned old k i accept (Err why) new left at h leaves empties e s =
    let row = setup_place old k i s.under_way at in
    subst OwnsAndNames (sym (e ∙ ap (λ x. record old { stack = x; workers = put old.workers k Place.Idle; contexts = new.contexts }) h.1))
    (emptied_owned old k (Place.Setup i) i row.0 left new.contexts at refl row.1 (ap is_flown (setup_is row.0.phase row.2)) leaves empties s)

setup_asked : (old : World) (k : WorkerId) (i : InstanceId) (accept : Bool) (result : Result (Unit {0}) Status) (new : World)
    → worker_at old.workers k ≡ Some (Place.Setup i) → stack.SetsUp old.stack i accept result new.stack
    → new ≡ record old { stack = new.stack; workers = put old.workers k Place.Idle; contexts = new.contexts } → IsSound old → NoneBegun new.stack new.flow
unfolding stack.SetsUp
setup_asked old k i accept (Ok done) new at h e s =
    let row = setup_place old k i s.under_way at in
    let t = stack.accepted old.stack i in
    let on = row_goes old t i.0 row.0 (accept_row old.stack.births row.0)
    (row_updated old.stack t (accept_row old.stack.births) i.0 row.0 refl row.1) (accepted_goes old i row.0 row.2) in
    subst (λ (w : World). NoneBegun w.stack w.flow)
    (sym (e ∙ ap (λ x. record old { stack = x; workers = put old.workers k Place.Idle; contexts = new.contexts }) h.1))
    (left_asks old.stack t old.flow (rows_left old t on) s.begun)
setup_asked old k i accept (Err why) new at h e s =
    let row = setup_place old k i s.under_way at in
    subst (λ (w : World). NoneBegun w.stack w.flow)
    (sym (e ∙ ap (λ x. record old { stack = x; workers = put old.workers k Place.Idle; contexts = new.contexts }) h.1))
    (left_asks old.stack (stack.refused old.stack i) old.flow (λ j. emptied_left old.stack i j row.0 row.1) s.begun)

emptied : (old : World) (i : InstanceId) (left after : ContextTable) (result : Result (Unit {0}) Status) → EmptiesUnless result i old left after
    → TableStays left after × (after.hands ≡ left.hands)
emptied old i left after (Ok done) same = (subst (TableStays left) (sym same) (still left), ap (λ (t : ContextTable). t.hands) same)
emptied old i left after (Err why) sweeps = ((subst (SlotsStay left.slots) (sym sweeps.slots) (slots_swept _ left.slots), sweeps.cleaning), sweeps.hands)

pub setup_does : (old : World) (k : WorkerId) (accept : Bool) (result : Result (Unit {0}) Status) (new : World) → SetsUp old k accept result new
    → Does old new × (hand_len k.0 new ≡ left_by_setup (worker_at old.workers k) (hand_len k.0 old))
unfolding SetsUp
setup_does old k accept result new h = by_place (worker_at old.workers k) refl h
  where
    by_place : (m : Option Place) → worker_at old.workers k ≡ m → SetsUpAt old k accept result new m
        → Does old new × (hand_len k.0 new ≡ left_by_setup m (hand_len k.0 old))
    by_place (Some (Place.Setup i)) at e =
        let ends = emptied old i e.1 new.contexts result e.3 in (
          record {
            sound = λ s.
                let owned = setup_owned old k i accept result new e.1 at e.0 e.2 e.3 e.4 s in
                record {
                  under_way = setup_keeps old k i accept result new at e.0 e.4 s.under_way;
                  owned = owned.0;
                  begun = setup_asked old k i accept result new at e.0 e.4 s;
                  filed =
                      subst FiledIn (sym e.4) s.filed;
                  links = owned.1;
                };
            lasts = λ s. lasts old new new.contexts refl (table_after old.contexts e.1 new.contexts
                (table_same old.contexts e.1 e.2.slots e.2.cleaning) ends.0);
          },
          (hand_emptied k.0 old new (ends.1 ∙ e.2.hands)).1,
        )
    by_place _ at h = (unchanged old new h.1, ap (hand_len k.0) h.1)
