-- What an instance's filter is told while it is torn down, and how it lets go of what it is owed: one operation after the other, until nothing is owed to it.
use Rattle.std.specs.Prelude.{⊤, ◌≡◌, ◌==◌, ◌⊎◌, Bool, Err, None, Ok, Option, Result, Some, false, not, suc, true, zero, ℕ}
use Rattle.std.specs.List.{count_by, list_any}
use Rattle.fm_filter.specs.Standing.{standing_of}
use Rattle.fm_local.specs.Words.{Completion, StartsTeardown, InstanceId, OpId, Status, WorkerId, World}
use Rattle.fm_world.specs.EarlyDrains.{TakesDrain, DrainReturns}
use Rattle.fm_world.specs.Teardowns.{StartReturns}
use Rattle.fm_local.specs.Chains.{filter_in}
use Rattle.fm_local.specs.Places.{EndsFrom}

-- what holds once a callback that answers nothing was called, where there is a filter
abbrev pub WasCalled : {F : Type 0} → (F → Type 0) → Option F → Type 0
WasCalled holds None = ⊤
WasCalled holds (Some f) = holds f

module _ (k : WorkerId) (i : InstanceId) where
  -- who asks for a drain gets none
  abbrev pub OwesNone : World → Type 0
  OwesNone w = TakesDrain w k i (Ok None) w ⊎ ((why : Status) × TakesDrain w k i (Err why) w)

-- how many operations weren't drained of an instance
abbrev pub left_to_drain : InstanceId → World → ℕ
left_to_drain i w = count_by (λ x. not (list_any (λ j. j == i.0) x.drained)) (standing_of w).operations

module _ {F : Type 0} (drained : F → Completion → Type 0) (filters : ℕ → Option F) (k : WorkerId) (i : InstanceId) where
  -- a drain is taken, the filter is called, and the drain ends
  abbrev pub DrainsOne : World → World → Type 0
  DrainsOne old new =
      (o : OpId) × (completion : Completion) × (mid : World) × (ended : Result (Unit {0}) Status) × TakesDrain old k i (Ok (Some (o, completion))) mid
      × WasCalled (λ f. drained f completion) (filter_in filters mid.stack i.0) × EndsFrom mid (λ before. DrainReturns before k ended new)

  abbrev pub DrainsSome : Bool → World → World → Type 0
  DrainsSome true old new = DrainsOne old new
  DrainsSome false old new = (new ≡ old) × OwesNone k i old

  -- so many, one after the other
  abbrev pub DrainsMany : ℕ → World → World → Type 0
  DrainsMany zero old new = new ≡ old
  DrainsMany (suc n) old new = (mid : World) × DrainsMany n old mid × DrainsOne mid new

  -- until nothing is owed any more
  abbrev pub DrainsAll : World → World → Type 0
  DrainsAll old new = (n : ℕ) × DrainsMany n old new × OwesNone k i new

  -- a teardown starts, unless it can't: the filter is told, and behind that all that is owed is let go of
  abbrev pub StartsAndDrains : (F → Type 0) → Bool → World → World → Type 0
  StartsAndDrains begins true old new =
      (started returned : World) × StartsTeardown old k i (Ok tt) started × WasCalled begins (filter_in filters started.stack i.0)
      × EndsFrom started (λ before. StartReturns before k (Ok tt) returned) × DrainsAll returned new
  StartsAndDrains begins false old new = (why : Status) × StartsTeardown old k i (Err why) new
