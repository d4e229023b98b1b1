-- A request that is refused is answered with its refusal, and nothing changes.
use Rattle.fm_filter.specs.declared.minifilter.Minifilter as filter
use Rattle.fm_base.specs.declared.base.Base as base
use Rattle.fm_local.proofs.Words.{◌≡◌, Bool, Err, Parts, None, Ok, OpId, Some, Status, World, bare_answer, false, true, ◌∙◌, ap, not, subst}
use Rattle.fm_local.proofs.Words.{Completion, ContextKind, Data, Folder, List, Option, PostVerdict, PreVerdict, WorkerId, ℕ}
use Rattle.fm_local.proofs.Words.{sym, none-some, FileRequest, Reply, Request, begin_refused, Begins, HandleId, closed_handle, replied}
use Rattle.fm_types.specs.Refusals.{IsRefusalOrMemory}
use Rattle.fm_local.specs.Actions.{ClosesRefused, RefusesIn, RefusesOne, is_over}

-- what is refused doesn't begin
pub not_begun : (old : World) (what : Request) (o : OpId) (new : World) → Begins old what (Ok o) new → (why : Status) → begin_refused old what ≡ Some why → ⊥
unfolding Begins
not_begun old what o new h why refused = none-some why (sym h.0 ∙ refused)

-- and is told that refusal
pub refused_as : (old : World) (what : Request) (status : Status) (new : World) → Begins old what (Err status) new → (why : Status)
    → begin_refused old what ≡ Some why → (status ≡ why) × (new ≡ old)
unfolding Begins
refused_as old what status new h why refused = (subst (λ m. IsRefusalOrMemory m status) refused h.0, h.1)

module _ {F B : Type 0} (old : Parts F B) where
  pub refuses_one : (what : Request) (status : Status) (new : World) → Begins old.work.state what (Err status) new → (said : Reply)
      → said ≡ replied (bare_answer status)
      → RefusesOne what old said (record old { work = record old.work { state = new } })
  refuses_one what status new h said says why refused =
      let (is, same) = refused_as old.work.state what status new h why refused in
      (says ∙ ap (λ s. replied (bare_answer s)) is, ap (λ (w : World). record old { work = record old.work { state = w } }) same)

  -- a request that is no close
  pub refuses_in : (what : Request) → closed_handle what ≡ None → (said : Reply) (new : Parts F B) → RefusesOne what old said new → RefusesIn what old said new
  refuses_in (Request.List v) no_close said new h why refused ends = h why refused
  refuses_in (Request.OnVolume v m n) no_close said new h why refused ends = h why refused
  refuses_in (Request.Create v path mode) no_close said new h why refused ends = h why refused
  refuses_in (Request.OnHandle x FileRequest.Close) no_close said new h why refused ends = cc
  refuses_in (Request.OnHandle x _) no_close said new h why refused ends = h why refused

-- a close: its cleanup's refusal is the answer, or it goes on
module _ {F B : Type 0} (own : filter.Ghosts F) (below : base.Ghosts B) (k : WorkerId) (most limit : ℕ) (old : Parts F B) (x : HandleId) where
  pub refuses_close : (status : Status) (begun : World) → Begins old.work.state (Request.OnHandle x FileRequest.Cleanup)
      (Err status) begun → (said : Reply) (new : Parts F B)
      → ClosesRefused own below k most limit (is_over status) status x (record old { work = record old.work { state = begun } }) said new
      → RefusesIn (Request.OnHandle x FileRequest.Close) old said new
  refuses_close status begun begins said new closes why refused ends =
      let (is, same) = refused_as old.work.state (Request.OnHandle x FileRequest.Cleanup) status begun begins why refused in
      let back : record old { work = record old.work { state = begun } } ≡ old = ap (λ (w : World). record old { work = record old.work { state = w } }) same in
      let (says, stays) = stops (is_over status) (ap is_over is) closes in
      (says ∙ ap (λ s. replied (bare_answer s)) is, stays ∙ back)
    where
      stops : (b : Bool) → b ≡ is_over why → ClosesRefused own below k most limit b status x (record old { work = record old.work { state = begun } }) said new
          → (said ≡ replied (bare_answer status)) × (new ≡ record old { work = record old.work { state = begun } })
      stops true over h = let n : not true ≡ true = subst (λ b. not b ≡ true) (sym over) ends in cc
      stops false over h = h
