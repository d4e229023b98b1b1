-- What is owed to a stopping instance is let go of, one operation after the other.
use Rattle.fm_local.proofs.Words.{◌≡◌, Bool, Completion, Err, InstanceId, None, Ok, OpId, Option, Result, Some, Status, WorkerId, World, false}
use Rattle.fm_local.proofs.Words.{suc, true, ℕ, ◌+◌, arith, inl, inr, subst, sym, DrainsWhere, is_stopping_at, TakesDrain, row_at, filter_in}
use Rattle.fm_world.specs.EarlyDrains.{DrainReturns}
use Rattle.fm_local.specs.Drains.{DrainsAll, DrainsMany, DrainsSome, OwesNone, WasCalled}
use Rattle.fm_local.specs.Places.{EndsFrom}
use Rattle.fm_local.proofs.instances.Rest.{happened, refused_same}

module _ (k : WorkerId) (i : InstanceId) where
  -- ---- one drain

  taken_none : (old new : World) → TakesDrain old k i (Ok None) new → new ≡ old
  unfolding TakesDrain
  taken_none old new h = by_stopping (is_stopping_at (row_at old.stack i)) (happened old k None new _ h).1
    where
      by_stopping : (b : Bool) → DrainsWhere b old k i None new → new ≡ old
      by_stopping true d = d.1
      by_stopping false d = d.1

  taken_refused : (old : World) (why : Status) (new : World) → TakesDrain old k i (Err why) new → new ≡ old
  unfolding TakesDrain
  taken_refused old why new h = refused_same (Option (OpId × Completion)) old k why new _ h (λ event. event.1)

module _ {F : Type 0} (drained : F → Completion → Type 0) (filters : ℕ → Option F) (k : WorkerId) (i : InstanceId) where
  pub drains_none : (old : World) (m : Option (OpId × Completion)) (new : World) → TakesDrain old k i (Ok m) new → m ≡ None
      → DrainsSome drained filters k i false old new
  drains_none old m new h none =
      let event = subst (λ (m : Option (OpId × Completion)). TakesDrain old k i (Ok m) new) none h in
      let same = taken_none k i old new event in
      (same, inl (subst (λ (w : World). TakesDrain old k i (Ok None) w) same event))

  pub drains_refused : (old : World) (why : Status) (new : World) → TakesDrain old k i (Err why) new → DrainsSome drained filters k i false old new
  drains_refused old why new h =
      let same = taken_refused k i old why new h in
      (same, inr (why, subst (λ (w : World). TakesDrain old k i (Err why) w) same h))

  pub drains_one : (old : World) (m : Option (OpId × Completion)) (mid : World) → TakesDrain old k i (Ok m) mid
      → (o : OpId) (completion : Completion) → m ≡ Some (o, completion)
      → WasCalled (λ f. drained f completion) (filter_in filters mid.stack i.0)
      → (ended : Result (Unit {0}) Status) (new : World) → EndsFrom mid (λ before. DrainReturns before k ended new)
      → DrainsSome drained filters k i true old new
  drains_one old m mid h o completion is called ended new ends =
      (o, completion, mid, ended, subst (λ (m : Option (OpId × Completion)). TakesDrain old k i (Ok m) mid) is h, called, ends)

  -- ---- one after the other

  pub drains_more : (n : ℕ) (old mid new : World) → DrainsMany drained filters k i n old mid → (b : Bool) → b ≡ true
      → DrainsSome drained filters k i b mid new → DrainsMany drained filters k i (n + 1) old new
  drains_more n old mid new many true is step = subst (λ (m : ℕ). DrainsMany drained filters k i m old new) (one_more n) (mid, many, step)
    where
      one_more : (n : ℕ) → suc n ≡ n + 1
      one_more n = omega arith
  drains_more n old mid new many false is step = cc

  pub drains_end : (n : ℕ) (old mid new : World) → DrainsMany drained filters k i n old mid → (b : Bool) → b ≡ false
      → DrainsSome drained filters k i b mid new → DrainsAll drained filters k i old new
  drains_end n old mid new many true is step = cc
  drains_end n old mid new many false is (same, none) = (n, subst (DrainsMany drained filters k i n old) (sym same) many, subst (OwesNone k i) (sym same) none)
