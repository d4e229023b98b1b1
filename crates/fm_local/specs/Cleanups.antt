-- How contexts are cleaned up: each by the cleanup callback of the filter that it belongs to, the longest due first.
use Rattle.std.specs.Prelude.{[], ◌≡◌, Bool, List, None, Ok, Option, Result, Some, false, length, suc, true, zero, ℕ}
use Rattle.fm_local.specs.Words.{StackWorld, Status, WorkerId, worker_at, World}
use Rattle.fm_types.specs.declared.context_kind.ContextKind.{ContextKind}
use Rattle.fm_ctx.specs.declared.due.Due.{Due}
use Rattle.fm_ctx.specs.declared.owner.Owner.{Owner}
use Rattle.fm_world.specs.ContextEvents.{TakesDue, Cleans}
use Rattle.fm_world.specs.Workers.{is_idle}
use Rattle.fm_local.specs.Chains.{filter_in}

-- the filter that cleans up what an owner owned
abbrev pub cleaner_of : {F : Type 0} → (ℕ → Option F) → StackWorld → Owner → Option F
cleaner_of filters s (Owner.Instance i) = filter_in filters s i.0
cleaner_of filters s (Owner.Filter f) = filters f.0

-- which number counts for a context: one that its filter may return, and nothing where there is none
abbrev pub MayReturn : {F : Type 0} → (F → ContextKind → List ℕ → ℕ → Type 0) → Option F → Due → ℕ → Type 0
MayReturn may None due number = number ≡ 0
MayReturn may (Some f) due number = may f due.kind due.body number

module _ {F : Type 0} (may : F → ContextKind → List ℕ → ℕ → Type 0) (filters : ℕ → Option F) (k : WorkerId) where
  -- the context that is due longest is cleaned up
  abbrev pub CleansOne : World → World → Type 0
  CleansOne old new =
      (due : Due) × (mid : World) × (number : ℕ) × (cleaned : Result (Unit {0}) Status) × TakesDue old k (Ok (Some due)) mid
      × MayReturn may (cleaner_of filters mid.stack due.owner) due number × Cleans mid k number cleaned new

  -- it is, or none is due, or the worker isn't idle
  abbrev pub CleansSome : Bool → World → World → Type 0
  CleansSome true old new = CleansOne old new × (length old.contexts.due ≡ suc (length new.contexts.due))
  CleansSome false old new = (new ≡ old) × (is_idle (worker_at old.workers k) ≡ true → old.contexts.due ≡ [])

  -- so many contexts are cleaned up, one after the other
  abbrev pub CleansMany : ℕ → World → World → Type 0
  CleansMany zero old new = new ≡ old
  CleansMany (suc n) old new = (mid : World) × CleansMany n old mid × CleansOne mid new

  abbrev pub CleansAll : World → World → Type 0
  CleansAll old new = (n : ℕ) × CleansMany n old new

-- nothing is due, unless the worker is in a callback
abbrev pub HasNoneDue : WorkerId → World → Type 0
HasNoneDue k w = is_idle (worker_at w.workers k) ≡ true → w.contexts.due ≡ []

-- where that was so it is so again
abbrev pub LeavesNoneDue : WorkerId → World → World → Type 0
LeavesNoneDue k old new = HasNoneDue k old → HasNoneDue k new
