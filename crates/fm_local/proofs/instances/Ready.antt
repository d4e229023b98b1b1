-- A manager that was ready is ready again behind a call that makes the events that it names.
use Rattle.fm_filter.specs.declared.minifilter.Minifilter as filter
use Rattle.fm_base.specs.declared.base.Base as base
use Rattle.fm_local.proofs.Words.{[], ◌≡◌, Bool, Completion, Data, Err, FilterId, Folder, InstanceId, List, Parts, None, Ok, Option}
use Rattle.fm_local.proofs.Words.{PostVerdict, PreVerdict, Result, Some, Status, VolumeId, WorkerId, World, option_and_then, slice_get, suc, true}
use Rattle.fm_local.proofs.Words.{worker_at, zero, ℕ, ◌&&◌, ◌+◌, ◌∙◌, IsOk, ap, arith, inr, option_map, refl, subst, sym, none-some, same_Some}
use Rattle.fm_local.proofs.Words.{Attaches, IsSound, AsksDetach, Place, IsPlainFilter, ArePlainFilters, IsReady, is_leaving, is_to_go, numbered}
use Rattle.fm_local.proofs.Words.{StartsQuietly, TearsDownFirst, TearsDownQuietly, IsAtRest, NoneStops, Tidies, Filters}
use Rattle.std.specs.Prelude.{replicate}
use Rattle.fm_world.specs.World.{empty_world}
use Rattle.fm_local.specs.Calls.{Asks, AsksToUnload, QueryEnds, is_of_row}
use Rattle.fm_filter.specs.Handed.{handed_in, place_of}
use Rattle.fm_local.specs.Quietly.{AsksQuietly, EndsQuietly, LeavesReady, SetUpQuietly, WasTold, IsSettled, TearsDownIf}
use Rattle.fm_local.specs.Actions.{OnlyState}
use Rattle.fm_local.proofs.instances.Detaches.{asked_leaves, declined_leaves, one_goes, starts_leaves, torn_leaves, was_told}
use Rattle.fm_local.proofs.instances.Unloads.{agreed_leaves, ends_leaves, first_gone, own_go, unload_refused}
use Rattle.fm_local.proofs.instances.Rest.{CalmAfter, attach_refused, calm_none, calm_same, rests_on, set_up_leaves, Undisturbed}

pub settled_both : {F B : Type 0} (old mid new : Parts F B) → IsSettled old mid → IsSettled mid new → IsSettled old new
settled_both old mid new a b = record { bases = b.bases ∙ a.bases; filters = b.filters ∙ a.filters; settled = b.settled }

-- a detach asks the filter, and that ends so
pub asks_by : (may : World → InstanceId → Bool → Type 0) (old : World) (k : WorkerId) (i : InstanceId) (result : Result (Unit {0}) Status) (asked : World)
    → AsksDetach old k i (Ok tt) asked → QueryEnds (may asked i) k asked result → Asks may old k i result
asks_by may old k i (Err why) asked asks ends = inr (asked, asks, ends)
asks_by may old k i (Ok done) asked asks ends = (asked, asks, ends)

pub not_ok : (why : Status) → IsOk {T = Unit {0}} {E = Status} (Err why) → ⊥
not_ok why h = cc

-- nothing changed but the state
pub settled_state : {F B : Type 0} (old new : Parts F B) → OnlyState old new → old.work.resumed.items.items ≡ [] → IsSettled old new
settled_state old new kept settled = record {
  bases = ap (λ m. m.bases) kept;
  filters = ap (λ m. m.filters) kept;
  settled =
      ap (λ m. m.work.resumed.items.items) kept ∙ settled;
}

-- ---- filters that are plain, where all is at rest

module _ {F B : Type 0} (pre : F → Data → PreVerdict → Data → Type 0) (post : F → Data → Completion → PostVerdict → Data → Type 0) (is_quiet : F → Type 0) where
  pub record RestsPlainly (k : WorkerId) (m : Parts F B) : Type 0 where
    pub plain : ArePlainFilters pre post is_quiet (numbered m.filters)
    pub rests : IsAtRest k m.work.state
    pub settled : m.work.resumed.items.items ≡ []

module _ {F B : Type 0} {pre : F → Data → PreVerdict → Data → Type 0} {post : F → Data → Completion → PostVerdict → Data
    → Type 0} {is_quiet : F → Type 0} (k : WorkerId)
    (old mid : Parts F B) (plain : ArePlainFilters pre post is_quiet (numbered old.filters)) (rests : IsAtRest k old.work.state) where
  still : IsAtRest k mid.work.state → IsSettled old mid → RestsPlainly pre post is_quiet k mid
  still again settles = record {
    plain = subst (λ (fs : Filters F). ArePlainFilters pre post is_quiet (numbered fs)) (sym settles.filters) plain;
    rests = again;
    settled = settles.settled;
  }

  -- behind the start of a teardown, of which the filter was told
  pub started_still : (i : InstanceId) → IsSound old.work.state → StartsQuietly k i old.work.state mid.work.state × IsSettled old mid
      → RestsPlainly pre post is_quiet k mid × WasTold i mid.work.state.stack
  started_still i sound (starts, settles) = (
    still (rests_on k old.work.state mid.work.state (starts_leaves k i old.work.state mid.work.state rests.idle starts).undisturbed rests) settles,
    was_told k i old.work.state mid.work.state sound rests starts,
  )

  -- behind the first instances of a filter
  pub first_still : (f : FilterId) (n : ℕ) → TearsDownFirst k f n old.work.state mid.work.state × IsSettled old mid → RestsPlainly pre post is_quiet k mid
  first_still f n (first, settles) = still (rests_on k old.work.state mid.work.state
      (first_gone f k n old.work.state mid.work.state rests first).calm.undisturbed rests) settles

-- ---- the numbers of filters, and workers that are new

all_idle : (n j : ℕ) (a : Place) → slice_get (replicate n Place.Idle) j ≡ Some a → a ≡ Place.Idle
all_idle zero j a at = absurd (none-some a at)
all_idle (suc n) zero a at = sym (same_Some Place.Idle a at)
all_idle (suc n) (suc j) a at = all_idle n j a at

no_place : (m n : ℕ) → option_and_then (λ (place : Option ℕ). place) (slice_get (replicate m None) n) ≡ None
no_place zero n = refl
no_place (suc m) zero = refl
no_place (suc m) (suc n) = no_place m n

none_loaded : {F : Type 0} (fs : Filters F) → fs.loaded ≡ replicate 16 None → (n : ℕ) (f : F) → numbered fs n ≡ Some f → ⊥
none_loaded fs none n f there =
    none-some f (sym (ap (option_and_then (handed_in fs))
    (ap (λ xs. option_and_then (λ (place : Option ℕ). place) (slice_get xs n)) none ∙ no_place 16 n)) ∙ there)

-- which number stands for which filter may change, where all that were handed in are plain
plain_numbered : {F : Type 0} (pre : F → Data → PreVerdict → Data → Type 0) (post : F → Data → Completion → PostVerdict → Data
    → Type 0) (is_quiet : F → Type 0) (old new : Filters F)
    → new.all ≡ old.all → ArePlainFilters pre post is_quiet (handed_in old) → ArePlainFilters pre post is_quiet (numbered new)
plain_numbered {F} pre post is_quiet old new same plain n f there = by_place (place_of new n) there
  where
    by_place : (m : Option ℕ) → option_and_then (handed_in new) m ≡ Some f → IsPlainFilter pre post is_quiet f
    by_place None there = absurd (none-some f there)
    by_place (Some place) there = plain place f (sym (ap (λ all. option_map (λ row. row.1) (slice_get all.items place)) same) ∙ there)

module _ {F B : Type 0} {own : filter.Ghosts F} {below : base.Ghosts B} {k : WorkerId} where
  pub ready_again : (old new : Parts F B) → IsReady own below k old → IsSettled old new → CalmAfter old.work.state new.work.state
      → LeavesReady own below k old new
  ready_again old new ready settles calm = record {
    settles = settles;
    ready = record {
      plain = subst (λ (fs : Filters F). ArePlainFilters own.pre_may own.post_may own.is_quiet (numbered fs)) (sym settles.filters) ready.plain;
      rests = rests_on k old.work.state new.work.state calm.undisturbed ready.rests;
      calm = calm_none old.work.state new.work.state calm ready.calm;
      settled = settles.settled;
    };
  }

  -- ---- new, load and mount

  pub new_ready : (m : Parts F B) → worker_at empty_world.workers k ≡ Some Place.Idle → m.work.state ≡ empty_world
      → m.filters.loaded ≡ replicate 16 None → m.work.resumed.items.items ≡ [] → IsReady own below k m
  new_ready m idle empty none settled = record {
    plain = λ n f there. absurd (none_loaded m.filters none n f there);
    rests = subst (IsAtRest k) (sym empty) (record { operations = refl; idle = idle; all = λ j a at. all_idle 48 j a at });
    calm = subst (λ (w : World). NoneStops w.stack) (sym empty) (λ i row at. absurd (none-some row at));
    settled = settled;
  }

  pub loaded_ready : (old new : Parts F B) → IsReady own below k old
      → ArePlainFilters own.pre_may own.post_may own.is_quiet (handed_in old.filters) → new.filters.all ≡ old.filters.all
      → new.work.resumed ≡ old.work.resumed
      → CalmAfter old.work.state new.work.state → IsReady own below k new
  loaded_ready old new ready plain same resumed calm = record {
    plain = plain_numbered own.pre_may own.post_may own.is_quiet old.filters new.filters same plain;
    rests = rests_on k old.work.state new.work.state calm.undisturbed ready.rests;
    calm = calm_none old.work.state new.work.state calm ready.calm;
    settled = ap (λ q. q.items.items) resumed ∙ ready.settled;
  }

  pub mounted_ready : (old new : Parts F B) → IsReady own below k old → new.filters ≡ old.filters → new.work.resumed ≡ old.work.resumed
      → CalmAfter old.work.state new.work.state → IsReady own below k new
  mounted_ready old new ready same resumed calm = record {
    plain = subst (λ (fs : Filters F). ArePlainFilters own.pre_may own.post_may own.is_quiet (numbered fs)) (sym same) ready.plain;
    rests = rests_on k old.work.state new.work.state calm.undisturbed ready.rests;
    calm = calm_none old.work.state new.work.state calm ready.calm;
    settled = ap (λ q. q.items.items) resumed ∙ ready.settled;
  }

  -- ---- attach

  module _ (old : Parts F B) (ready : IsReady own below k old) (f : FilterId) (v : VolumeId) (name altitude : List ℕ) where
    -- it was refused at once
    pub attach_leaves_none : (why : Status) (refused : World) → Attaches old.work.state k f v name altitude (Err why) refused
        → LeavesReady own below k old (record old { work = record old.work { state = refused } })
    attach_leaves_none why refused h =
        ready_again old (record old { work = record old.work { state = refused } }) ready (record { bases = refl; filters = refl; settled = ready.settled })
        (calm_same old.work.state refused (attach_refused old.work.state k f v name altitude why refused h))

    -- the new instance was set up, or refused
    pub attach_leaves : (i : InstanceId) (born : World) (may : Bool → Type 0) (ended : Result (Unit {0}) Status) (new : Parts F B)
        → Attaches old.work.state k f v name altitude (Ok i) born
        → SetUpQuietly k i may born ended new.work.state × IsSettled (record old { work = record old.work { state = born } }) new
        → LeavesReady own below k old new
    attach_leaves i born may ended new attaches (sets, settles) =
        ready_again old new ready (record { bases = settles.bases; filters = settles.filters; settled = settles.settled })
        (set_up_leaves k i old.work.state ready.rests.idle f v name altitude born may ended new.work.state attaches sets)

  -- ---- detach

  module _ (i : InstanceId) (old : Parts F B) (ready : IsReady own below k old) where
    -- its filter, or a refusal before it was asked, keeps it
    pub kept_leaves : (may : World → InstanceId → Bool → Type 0) (why : Status) (new : Parts F B)
        → AsksQuietly k i may old.work.state (Err why) new.work.state × IsSettled old new → LeavesReady own below k old new
    kept_leaves may why new (asks, settles) = ready_again old new ready settles
        (declined_leaves k i old.work.state ready.rests.idle may why new.work.state asks)

    -- its teardown was under way
    pub torn_leaves_ready : (result : Result (Unit {0}) Status) (new : Parts F B)
        → TearsDownQuietly k i old.work.state result new.work.state × IsSettled old new → LeavesReady own below k old new
    torn_leaves_ready result new (tears, settles) = ready_again old new ready settles (torn_leaves k i old.work.state result new.work.state ready.rests tears).0

    -- it was asked, and agreed
    module _ (may : World → InstanceId → Bool → Type 0) (asked : Parts F B)
        (asks : AsksQuietly k i may old.work.state (Ok tt) asked.work.state × IsSettled old asked) where
      asked_calm : Undisturbed old.work.state asked.work.state
      asked_calm = (asked_leaves k i old.work.state ready.rests.idle may asked.work.state asks.0).undisturbed

      pub asked_still : RestsPlainly own.pre_may own.post_may own.is_quiet k asked
      asked_still = still k old asked ready.plain ready.rests (rests_on k old.work.state asked.work.state asked_calm ready.rests) asks.1

      pub detached_leaves : (result : Result (Unit {0}) Status) (new : Parts F B)
          → TearsDownQuietly k i asked.work.state result new.work.state × IsSettled asked new → LeavesReady own below k old new
      detached_leaves result new (tears, settles) =
          let torn = torn_leaves k i asked.work.state result new.work.state asked_still.rests tears in
          ready_again old new ready (settled_both old asked new asks.1 settles)
          (one_goes k i old.work.state asked.work.state new.work.state
          (asked_leaves k i old.work.state ready.rests.idle may asked.work.state asks.0) torn.0 torn.1)

  -- ---- unload

  module _ (f : FilterId) (old : Parts F B) (ready : IsReady own below k old) where
    -- its filter, or a refusal before it was asked, keeps it
    pub loaded_leaves : (may : Bool → Type 0) (why : Status) (new : Parts F B)
        → AsksToUnload may old.work.state k f (Err why) new.work.state → IsSettled old new → LeavesReady own below k old new
    loaded_leaves may why new asks settles = ready_again old new ready settles (unload_refused f k old.work.state ready.rests.idle may why new.work.state asks)

    -- its end was under way
    pub ends_ready : (result : Result (Unit {0}) Status) (new : Parts F B) → EndsQuietly k f old.work.state result new.work.state
        × IsSettled old new → LeavesReady own below k old new
    ends_ready result new (ends, settles) = ready_again old new ready settles (ends_leaves f k old.work.state result new.work.state ready.rests ends).0

    -- it was asked, and agreed
    module _ (may : Bool → Type 0) (asked : Parts F B) (asks : AsksToUnload may old.work.state k f (Ok tt) asked.work.state)
        (settled : IsSettled old asked) where
      pub agreed_still : RestsPlainly own.pre_may own.post_may own.is_quiet k asked
      agreed_still = still k old asked ready.plain ready.rests
          (rests_on k old.work.state asked.work.state (agreed_leaves f k old.work.state ready.rests.idle may asked.work.state
          asks).undisturbed ready.rests) settled

      pub unloaded_leaves : (result : Result (Unit {0}) Status) (new : Parts F B)
          → EndsQuietly k f asked.work.state result new.work.state × IsSettled asked new → LeavesReady own below k old new
      unloaded_leaves result new (ends, settles) =
          ready_again old new ready (settled_both old asked new settled settles)
          (own_go f k old.work.state ready.rests.idle may asked.work.state result new.work.state
          (agreed_leaves f k old.work.state ready.rests.idle may asked.work.state asks) agreed_still.rests ends)

-- an instance of the filter that is to go is torn down
pub torn_ok : (k : WorkerId) (i : InstanceId) (old : World) (result : Result (Unit {0}) Status) (new : World) → IsOk result
    → TearsDownQuietly k i old result new → TearsDownQuietly k i old (Ok tt) new
torn_ok k i old (Ok done) new ok tears = tears
torn_ok k i old (Err why) new ok tears = cc

pub goes_on_leaving : (f : FilterId) (w : World) (i : InstanceId) → is_to_go f w i ≡ true → is_leaving w i ≡ true
goes_on_leaving f w i h = both_true (is_of_row f (slice_get w.stack.instances i.0)) (is_leaving w i) h
  where
    both_true : (a b : Bool) → a && b ≡ true → b ≡ true
    both_true a b h = grind arith

pub torn_first : (k : WorkerId) (f : FilterId) (n : ℕ) (old mid new : World) → TearsDownFirst k f n old mid
    → TearsDownIf k f (is_to_go f mid (record { 0 = n })) (record { 0 = n }) mid new
    → TearsDownFirst k f (n + 1) old new
torn_first k f n old mid new first step = subst (λ (m : ℕ). TearsDownFirst k f m old new) (one_more n) (mid, first, step)
  where
    one_more : (n : ℕ) → suc n ≡ n + 1
    one_more n = omega arith

-- what is settled behind a callback that resumed nothing
pub settled_after : {F B : Type 0} (old mid new : Parts F B) → mid.work.resumed ≡ old.work.resumed → mid.bases ≡ old.bases → mid.filters ≡ old.filters
    → old.work.resumed.items.items ≡ [] → (mid.work.resumed.items.items ≡ [] → Tidies mid.work.state new.work.state)
    → (mid.work.resumed.items.items ≡ [] → (new.bases ≡ mid.bases) × (new.filters ≡ mid.filters) × (new.work.resumed.items.items ≡ []))
    → Tidies mid.work.state new.work.state × IsSettled old new
settled_after old mid new resumed bases filters settled tidies keeps =
    let none : mid.work.resumed.items.items ≡ [] = ap (λ q. q.items.items) resumed ∙ settled in
    let k = keeps none in
    (tidies none, record { bases = k.0 ∙ bases; filters = k.1 ∙ filters; settled = k.2 })
