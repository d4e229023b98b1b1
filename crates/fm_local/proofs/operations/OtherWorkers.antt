-- Events of one worker leave the others where they are.
use Rattle.fm_local.proofs.Words.{◌≡◌, Answer, BaseCall, Bool, Completion, Data, Err, FlowAction, List, Ok, OpId, Option, PostVerdict, PreVerdict}
use Rattle.fm_local.proofs.Words.{Result, Some, Status, WorkerId, World, false, slice_get, suc, true, worker_at, zero, ℕ, ◌∙◌, ap, data_fits}
use Rattle.fm_local.proofs.Words.{base_fits, post_returned_of, BaseReturnsAt, NextsAt, PostReturnsAt, PreReturnsAt, PreReturnsOver, ReturnsFrom}
use Rattle.fm_local.proofs.Words.{Unless, base_returned, state_at, BaseReturns, Nexts, PostReturns, PreReturns, LosesLinks, told, after_next, is_idle}
use Rattle.fm_local.proofs.Words.{put, Place, Carries, Does}
use Rattle.std.specs.Prelude.{◌≢◌}
use Rattle.fm_types.proofs.Lists.{slice_get-set_other}
use Rattle.fm_world.specs.Events.{pre_step}
use Rattle.fm_local.proofs.operations.Events.{lost, by_links}

-- the other workers are where they were
abbrev pub Beside : WorkerId → List Place → List Place → Type 0
Beside k old new = (j : ℕ) → j ≢ k.0 → slice_get new j ≡ slice_get old j

-- and the next operation's number is what it was
pub record KeepsRest (k : WorkerId) (old new : World) : Type 0 where
  pub beside : Beside k old.workers new.workers
  pub next : new.flow.next ≡ old.flow.next

module _ (k : WorkerId) where
  put_beside : (old new : List Place) (a : Place) → new ≡ put old k a → Beside k old new
  put_beside old new a is j other = ap (λ ws. slice_get ws j) is ∙ slice_get-set_other old k.0 j a other

  same_beside : (old new : List Place) → new ≡ old → Beside k old new
  same_beside old new is j other = ap (λ ws. slice_get ws j) is

  world_beside : (old new : World) → new ≡ old → KeepsRest k old new
  world_beside old new is = record {
    beside = same_beside old.workers new.workers (ap (λ (w : World). w.workers) is);
    next =
        ap (λ (w : World). w.flow.next) is;
  }

  after_one : (old new : World) → KeepsRest k old new → (last : World) → KeepsRest k new last → KeepsRest k old last
  after_one old new h last g = record { beside = λ j other. g.beside j other ∙ h.beside j other; next = g.next ∙ h.next }

  after_beside : (o : OpId) (old new : List Place) (reply : Result FlowAction Status) → new ≡ after_next old k o reply → Beside k old new
  after_beside o old new (Ok (FlowAction.Pre i lent)) is = put_beside old new (Place.Pre o i) is
  after_beside o old new (Ok (FlowAction.Base call)) is = put_beside old new (Place.Base o) is
  after_beside o old new (Ok (FlowAction.Post i lent completion)) is = put_beside old new (Place.Post o i) is
  after_beside o old new (Ok (FlowAction.Drain i completion)) is = put_beside old new (Place.Drain o i) is
  after_beside o old new (Ok FlowAction.Moved) is = same_beside old new is
  after_beside o old new (Ok FlowAction.Held) is = same_beside old new is
  after_beside o old new (Ok FlowAction.Done) is = same_beside old new is
  after_beside o old new (Err why) is = same_beside old new is

  -- an event that is refused leaves all
  unless_beside : {T : Type 0} (why : Status) (b : Bool) (result : Result T Status) (old new : World) (Event : Type 0) → (Event → KeepsRest k old new)
      → Unless why b result old new Event → KeepsRest k old new
  unless_beside why true result old new Event does h = does h
  unless_beside why false result old new Event does h = world_beside old new h.1

  pub next_beside : (o : OpId) (reply : Result FlowAction Status) (old new : World) → Nexts old k o reply new → KeepsRest k old new
  unfolding Nexts
  next_beside o reply old new h = unless_beside Status.WrongStep (is_idle (worker_at old.workers k)) reply old new (NextsAt old k o reply new)
      (λ at.
      let same = lost reply at.0 at.2 new at.4 in
      record {
        beside = after_beside o old.workers new.workers reply (same.workers ∙ ap (λ (w : World). w.workers) at.3.1);
        next = ap (λ t. t.next) same.flow ∙ ap (λ (w : World). w.flow.next) at.3.1;
      }) h

  pre_at : (given : PreVerdict) (lent : Data) (result : Result (Unit {0}) Status) (old new : World) (m : Option Place)
      → PreReturnsAt old k given lent result new m → KeepsRest k old new
  pre_at given lent result old new (Some (Place.Pre o i)) h =
      unless_beside Status.BadRequest (told (λ r. data_fits r.operation r.path lent) false o old.flow) result old new
      ((result ≡ Ok tt) × PreReturnsOver old k o (pre_step old k o i given lent) (state_at old k o i given) new)
      (λ over.
      let same = by_links over.1.0 new over.1.2 in
      record {
        beside = put_beside old.workers new.workers Place.Idle (same.workers ∙ ap (λ (w : World). w.workers) over.1.1.1);
        next = ap (λ t. t.next) same.flow ∙ ap (λ (w : World). w.flow.next) over.1.1.1;
      }) h
  pre_at given lent result old new _ h = world_beside old new h.1

  pub pre_beside : (given : PreVerdict) (lent : Data) (result : Result (Unit {0}) Status) (old new : World)
      → PreReturns old k given lent result new → KeepsRest k old new
  unfolding PreReturns
  pre_beside given lent result old new h = pre_at given lent result old new (worker_at old.workers k) h

  base_at : (call : BaseCall) (answer : Answer) (result : Result (Unit {0}) Status) (old new : World) (m : Option Place)
      → BaseReturnsAt old k call answer result new m → KeepsRest k old new
  base_at call answer result old new (Some (Place.Base o)) h =
      unless_beside Status.BadRequest (told (base_fits call answer) false o old.flow) result old new ((result ≡ Ok tt)
      × LosesLinks (base_returned old k o call answer) new)
      (λ over.
      let same = by_links (base_returned old k o call answer) new over.1 in
      record { beside = put_beside old.workers new.workers Place.Idle same.workers; next = ap (λ t. t.next) same.flow }) h
  base_at call answer result old new _ h = world_beside old new h.1

  pub base_beside : (call : BaseCall) (answer : Answer) (result : Result (Unit {0}) Status) (old new : World)
      → BaseReturns old k call answer result new → KeepsRest k old new
  unfolding BaseReturns
  base_beside call answer result old new h = base_at call answer result old new (worker_at old.workers k) h

  post_at : (given : PostVerdict) (lent : Data) (result : Result (Unit {0}) Status) (old new : World) (m : Option Place)
      → PostReturnsAt old k given (Some lent) result new m
      → KeepsRest k old new
  post_at given lent result old new (Some (Place.Post o i)) h =
      unless_beside Status.BadRequest (told (λ r. data_fits r.operation r.path lent) false o old.flow) result old new
      ((result ≡ Ok tt) × ReturnsFrom old k o (post_returned_of given lent) old.contexts new)
      (λ over. record {
        beside = put_beside old.workers new.workers Place.Idle (ap (λ (w : World). w.workers) over.1.1);
        next = ap (λ (w : World). w.flow.next) over.1.1;
      }) h
  post_at given lent result old new _ h = world_beside old new h.1

  pub post_beside : (given : PostVerdict) (lent : Data) (result : Result (Unit {0}) Status) (old new : World)
      → PostReturns old k given (Some lent) result new → KeepsRest k old new
  unfolding PostReturns
  post_beside given lent result old new h = post_at given lent result old new (worker_at old.workers k) h

  module _ {F D : Type 0} (pre : F → Data → PreVerdict → Data → Type 0) (post : F → Data → Completion → PostVerdict → Data
      → Type 0) (carries : D → BaseCall → Answer → D → Type 0)
      (filters : ℕ → Option F) (o : OpId) where
    does_beside : (reply : Result FlowAction Status) (mid : World) (d : D) (new : World) (e : D)
        → Does pre post carries filters k o reply mid d new e → KeepsRest k mid new
    does_beside (Ok (FlowAction.Pre i lent)) mid d new e h = pre_beside h.0 h.1 h.2 mid new h.5
    does_beside (Ok (FlowAction.Base call)) mid d new e h = base_beside call h.0 h.1 mid new h.4
    does_beside (Ok (FlowAction.Post i lent completion)) mid d new e h = post_beside h.0 h.1 h.2 mid new h.5
    does_beside (Ok FlowAction.Moved) mid d new e h = world_beside mid new h.0
    does_beside _ mid d new e h = absurd h

    pub carries_beside : (n : ℕ) (old : World) (d : D) (new : World) (e : D) → Carries pre post carries filters k o n old d new e → KeepsRest k old new
    carries_beside zero old d new e h = next_beside o (Ok FlowAction.Done) old new h.0
    carries_beside (suc n) old d new e h =
        after_one old h.2.1 (next_beside o h.2.0 old h.2.1 h.2.2) new
        (after_one h.2.1 h.0 (does_beside h.2.0 h.2.1 d h.0 h.1 h.2.3) new (carries_beside n h.0 h.1 new e h.3))
