-- What a manager's calls answer, by the events of its state that they make.
use Rattle.std.specs.Prelude.{◌≡◌, ◌⊎◌, Bool, Err, IsErr, List, None, Ok, Option, Result, Some, false, option_and_then, slice_get, true, ℕ, ◌&&◌}
use Rattle.std.specs.Prelude.{option_map, ◌≢◌, ◌++◌, ◌∷◌, [], cond, nat_lt, vec_len, vec_capacity}
use Rattle.fm_local.specs.Words.{Finishes, Attaches, AsksDetach, CompletesTeardown, EmptiesFilter, FinishesFilter, FilterId, Instance, InstanceId}
use Rattle.fm_local.specs.Words.{Status, VolumeId, WorkerId, World}
use Rattle.fm_types.specs.declared.registration.Registration.{Registration}
use Rattle.fm_types.specs.declared.status.Status.TheVariants.{NoFilter}
use Rattle.fm_stack.specs.Unloading.{is_of}
use Rattle.fm_stack.specs.declared.filter.Filter.{Filter}
use Rattle.fm_stack.specs.declared.filter.FilterPhase.{FilterPhase}
use Rattle.fm_stack.specs.declared.instance.Phase.{Phase}
use Rattle.fm_world.specs.Events.{Registers, SetsUp}
use Rattle.fm_world.specs.Teardowns.{QueryReturns, AsksUnload, UnloadReturns}
use Rattle.fm_filter.specs.declared.filters.Filters.{Filters}
use Rattle.fm_local.specs.declared.parts.Parts.{Parts}
use Rattle.fm_local.specs.Chains.{filter_in}
use Rattle.fm_local.specs.Cleanups.{HasNoneDue}
use Rattle.fm_filter.specs.Handed.{handed_in, numbered, place_called}
use Rattle.fm_local.specs.Places.{EndsFrom}

-- a filter is loaded: none has that name, or it registers for what it says
abbrev pub LoadsBy : Option Registration → World → List ℕ → Result FilterId Status → World → Type 0
LoadsBy None old name result new = (result ≡ Err NoFilter) × (new ≡ old)
LoadsBy (Some registration) old name result new = Registers old name registration result new

abbrev pub LoadsAs : {F : Type 0} → (F → Registration) → Filters F → World → List ℕ → Result FilterId Status → World → Type 0
LoadsAs registers filters old name result new =
    LoadsBy (option_map registers (option_and_then (handed_in filters) (place_called name filters.all.items))) old name result new

-- the number that was given stands for the filter of that name, and all others stand for what they stood for
pub record Numbers {F : Type 0} (old : Filters F) (name : List ℕ) (f : FilterId) (new : Filters F) : Type 0 where
  pub own : numbered new f.0 ≡ option_and_then (handed_in old) (place_called name old.all.items)
  pub others : (n : ℕ) → n ≢ f.0 → numbered new n ≡ numbered old n

-- the file systems after one more is placed, if there is room for it
abbrev pub placed : {F B : Type 0} → Parts F B → B → List B
placed m base = cond (nat_lt (vec_len m.bases.all) (vec_capacity m.bases.all)) (m.bases.all.items ++ base ∷ []) m.bases.all.items

-- what a callback that agrees or refuses may answer, if there is one; no filter refuses
abbrev pub MayAgree : {F : Type 0} → (F → Bool → Type 0) → Option F → Bool → Type 0
MayAgree may None agrees = agrees ≡ false
MayAgree may (Some f) agrees = may f agrees

-- of an instance
abbrev pub AgreesAt : {F : Type 0} → (F → Bool → Type 0) → Filters F → World → InstanceId → Bool → Type 0
AgreesAt may filters w i agrees = MayAgree may (filter_in (numbered filters) w.stack i.0) agrees

-- the end of a setup callback, with an answer that its filter may give
abbrev pub SetsUpWith : (Bool → Type 0) → WorkerId → World → Result (Unit {0}) Status → World → Type 0
SetsUpWith may k before ended after = (accepts : Bool) × may accepts × SetsUp before k accepts ended after

-- it runs, and ends so
abbrev pub SetupEnds : (Bool → Type 0) → WorkerId → World → Result (Unit {0}) Status → Type 0
SetupEnds may k born ended = (after : World) × EndsFrom born (λ before. SetsUpWith may k before ended after)

-- once nothing is due any more an instance that was refused ends
abbrev pub EndsTidily : WorkerId → InstanceId → World → Type 0
EndsTidily k i new = (tidy : World) × (finished : Result (Unit {0}) Status) × HasNoneDue k tidy × Finishes tidy i finished new

-- an instance is attached: that is refused at once, or its setup callback is called, and then its end refuses it or not
abbrev pub AttachesAs : (World → InstanceId → Bool → Type 0) → World → WorkerId → FilterId → VolumeId → List ℕ → List ℕ
    → Result InstanceId Status → World → Type 0
AttachesAs may old k f v name altitude (Err status) new =
    Attaches old k f v name altitude (Err status) new
    ⊎ ((i : InstanceId) × (born : World) × Attaches old k f v name altitude (Ok i) born × SetupEnds (may born i) k born (Err status) × EndsTidily k i new)
AttachesAs may old k f v name altitude (Ok i) new = (born : World) × Attaches old k f v name altitude (Ok i) born × SetupEnds (may born i) k born (Ok tt)

-- the end of a query callback, with an answer that its filter may give
abbrev pub QueriesWith : (Bool → Type 0) → WorkerId → World → Result (Unit {0}) Status → World → Type 0
QueriesWith may k before ended after = (allows : Bool) × may allows × QueryReturns before k allows ended after

-- it runs, and ends so
abbrev pub QueryEnds : (Bool → Type 0) → WorkerId → World → Result (Unit {0}) Status → Type 0
QueryEnds may k asked ended = (after : World) × EndsFrom asked (λ before. QueriesWith may k before ended after)

-- the teardown of an instance stopped with the first event that was refused, or ended with its last one
abbrev pub TornDown : WorkerId → InstanceId → Result (Unit {0}) Status → World → Type 0
TornDown k i (Err status) new = ((before : World) × CompletesTeardown before k i (Err status) new) ⊎ ((before : World) × Finishes before i (Err status) new)
TornDown k i (Ok done) new = (before : World) × Finishes before i (Ok done) new

-- whether a teardown is under way
abbrev pub is_leaving_phase : Option Phase → Bool
is_leaving_phase (Some Phase.Stopping) = true
is_leaving_phase (Some Phase.Completing) = true
is_leaving_phase (Some Phase.Emptying) = true
is_leaving_phase _ = false

abbrev pub is_leaving : World → InstanceId → Bool
is_leaving w i = is_leaving_phase (option_map (λ (row : Instance). row.phase) (slice_get w.stack.instances i.0))

module _ (f : FilterId) where
  abbrev pub is_of_row : Option Instance → Bool
  is_of_row None = false
  is_of_row (Some row) = is_of f row

  -- an instance of the filter whose teardown is under way
  abbrev pub is_to_go : World → InstanceId → Bool
  is_to_go w i = is_of_row (slice_get w.stack.instances i.0) && is_leaving w i

-- a detach asks first: that is refused at once, or the query callback is called, and then its end refuses it or not
abbrev pub Asks : (World → InstanceId → Bool → Type 0) → World → WorkerId → InstanceId → Result (Unit {0}) Status → Type 0
Asks may old k i (Err status) =
    ((new : World) × AsksDetach old k i (Err status) new)
    ⊎ ((asked : World) × AsksDetach old k i (Ok tt) asked × QueryEnds (may asked i) k asked (Err status))
Asks may old k i (Ok done) = (asked : World) × AsksDetach old k i (Ok tt) asked × QueryEnds (may asked i) k asked (Ok tt)

-- a detach asks where no teardown is under way, and then the teardown says how it ends
abbrev pub DetachesBy : Bool → (World → InstanceId → Bool → Type 0) → World → WorkerId → InstanceId → Result (Unit {0}) Status → World → Type 0
DetachesBy true may old k i result new = TornDown k i result new
DetachesBy false may old k i result new = (IsErr result × Asks may old k i result) ⊎ (Asks may old k i (Ok tt) × TornDown k i result new)

abbrev pub DetachesAs : (World → InstanceId → Bool → Type 0) → World → WorkerId → InstanceId → Result (Unit {0}) Status → World → Type 0
DetachesAs may old k i result new = DetachesBy (is_leaving old i) may old k i result new

-- the end of an unload callback, with an answer that its filter may give
abbrev pub UnloadsWith : (Bool → Type 0) → WorkerId → World → Result (Unit {0}) Status → World → Type 0
UnloadsWith may k before ended after = (allows : Bool) × may allows × UnloadReturns before k allows ended after

-- an unload asks first: that is refused at once, or the unload callback is called, and then its end refuses it or not
abbrev pub AsksToUnload : (Bool → Type 0) → World → WorkerId → FilterId → Result (Unit {0}) Status → World → Type 0
AsksToUnload may old k f (Err status) new =
    AsksUnload old k f (Err status) new ⊎ ((asked : World) × AsksUnload old k f (Ok tt) asked × UnloadsWith may k asked (Err status) new)
AsksToUnload may old k f (Ok done) new = (asked : World) × AsksUnload old k f (Ok tt) asked × UnloadsWith may k asked (Ok tt) new

-- the end of a filter stopped with the first event that was refused, of an instance's teardown or of its own, or ended with its last one
abbrev pub FilterEnds : WorkerId → FilterId → Result (Unit {0}) Status → World → Type 0
FilterEnds k f (Err status) new =
    ((i : InstanceId) × TornDown k i (Err status) new)
    ⊎ (((before : World) × EmptiesFilter before f (Err status) new) ⊎ ((before : World) × FinishesFilter before f (Err status) new))
FilterEnds k f (Ok done) new = (before : World) × FinishesFilter before f (Ok done) new

-- whether a filter's end is under way
abbrev pub is_unloading_phase : Option FilterPhase → Bool
is_unloading_phase (Some FilterPhase.Unloading) = true
is_unloading_phase (Some FilterPhase.Emptied) = true
is_unloading_phase _ = false

abbrev pub is_unloading : World → FilterId → Bool
is_unloading w f = is_unloading_phase (option_map (λ (row : Filter). row.phase) (slice_get w.stack.filters f.0))

-- an unload asks where no end is under way, and then the end says how it ends
abbrev pub UnloadsBy : Bool → (Bool → Type 0) → World → WorkerId → FilterId → Result (Unit {0}) Status → World → Type 0
UnloadsBy true may old k f result new = FilterEnds k f result new
UnloadsBy false may old k f result new =
    (IsErr result × AsksToUnload may old k f result new) ⊎ ((asked : World) × AsksToUnload may old k f (Ok tt) asked × FilterEnds k f result new)

abbrev pub UnloadsAs : {F : Type 0} → (F → Bool → Type 0) → Filters F → World → WorkerId → FilterId → Result (Unit {0}) Status → World → Type 0
UnloadsAs may filters old k f result new = UnloadsBy (is_unloading old f) (MayAgree may (numbered filters f.0)) old k f result new
