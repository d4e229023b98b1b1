-- An operation that begins at rest is alone, and goes on its way.
use Rattle.fm_local.proofs.Words.{[], ◌∷◌, ◌≡◌, Bool, FlowRecord, List, None, Ok, OpId, Option, Params, Some, Status, VolumeId, WorkerId, World}
use Rattle.fm_local.proofs.Words.{false, true, worker_at, ℕ, ◌++◌, ◌+◌, ◌∙◌, ap, cond, eq-eqb, refl, subst, sym, is_within_limits, params_of, Request}
use Rattle.fm_local.proofs.Words.{after_begin, begin_refused, begun_at, begun_on, Begins, handle_at, stream_at, HandleId, StreamId, FileHandle}
use Rattle.fm_local.proofs.Words.{FileStream, subject_of, IsAtRest}
use Rattle.fm_operations.specs.Table.{begun, begun_record}
use Rattle.fm_world.specs.Events.{refused_at_by, refused_on_at}
use Rattle.fm_world.specs.Files.{stream_for}
use Rattle.fm_local.proofs.operations.TurnFolds.{IsGoing}

-- what begins, at rest: one operation, which has the next number
pub record Started (old after : World) : Type 0 where
  pub volume : VolumeId
  pub stream : Option StreamId
  pub handle : Option HandleId
  pub path : Option (List ℕ)
  pub asks : Params
  pub operations : after.flow.operations ≡ begun_record old.flow.next volume stream handle old.stack.births path asks ∷ []
  pub next : after.flow.next ≡ old.flow.next + 1
  pub workers : after.workers ≡ old.workers
  pub stack : after.stack ≡ old.stack

module _ (old : World) (rest : old.flow.operations ≡ []) where
  on_handle : (h : HandleId) (p : Params) (m : Option FileHandle) → refused_at_by false old p m ≡ None → Started old (begun_at old h p m)
  on_handle h p None none = cc
  on_handle h p (Some x) none = by_stream (stream_at x.stream old.files) none
    where
      by_stream : (m : Option FileStream) → refused_on_at false old p x m ≡ None → Started old (begun_on old h p x m)
      by_stream None none = cc
      by_stream (Some y) none = record {
        volume = y.volume;
        stream = Some x.stream;
        handle = Some h;
        path = Some y.path;
        asks = p;
        operations = ap (λ rs. rs ++ begun_record old.flow.next y.volume (Some x.stream) (Some h) old.stack.births (Some y.path) p ∷ []) rest;
        next = refl;
        workers = refl;
        stack = refl;
      }

  within : (b : Bool) (m : Option Status) → cond b m (Some Status.BadRequest) ≡ None → m ≡ None
  within true m none = none
  within false m none = cc

  -- without a file
  started_unnamed : (v : VolumeId) (p : Params) → Started old (record old { flow = begun v None None old.stack.births None p old.flow })
  started_unnamed v p = record {
    volume = v;
    stream = None;
    handle = None;
    path = None;
    asks = p;
    operations = ap (λ rs. rs ++ begun_record old.flow.next v None None old.stack.births None p ∷ []) rest;
    next = refl;
    workers = refl;
    stack = refl;
  }

  started : (what : Request) → begin_refused old what ≡ None → Started old (after_begin old what)
  started (Request.List v) none = started_unnamed v Params.List
  started (Request.OnVolume v m n) none = started_unnamed v (Params.Other m n)
  started (Request.Create v path mode) none = record {
    volume = v;
    stream = Some (stream_for v path old.flow.next old.files);
    handle = None;
    path = Some path;
    asks = Params.Create path mode;
    operations = ap (λ rs. rs ++ begun_record old.flow.next v (Some (stream_for v path old.flow.next old.files)) None old.stack.births
        (Some path) (Params.Create path mode) ∷ []) rest;
    next = refl;
    workers = refl;
    stack = refl;
  }
  started (Request.OnHandle h asked) none =
      on_handle h (params_of asked) (handle_at h old.files)
      (within (is_within_limits (params_of asked)) (refused_at_by false old (params_of asked) (handle_at h old.files)) none)

-- it is on its way, alone, before its first turn
module _ (k : WorkerId) (o : OpId) (what : Request) (old : World) (rest : IsAtRest k old) (begun : World) (begins : Begins old what (Ok o) begun) where
  pub begun_parts : (begin_refused old what ≡ None) × (o.0 ≡ old.flow.next) × (begun ≡ after_begin old what)
  unfolding Begins
  begun_parts = (begins.0, begins.1.0, begins.1.1)

  pub start : Started old begun
  start = subst (Started old) (sym begun_parts.2) (started old rest.operations what begun_parts.0)

  abbrev pub first : FlowRecord
  first = begun_record old.flow.next start.volume start.stream start.handle old.stack.births start.path start.asks

  pub going : IsGoing k o (subject_of first) first begun
  going = record {
    top = refl;
    alone = record { operations = start.operations; number = eq-eqb old.flow.next o.0 (sym begun_parts.1) };
    idle = ap (λ ws. worker_at ws k) start.workers ∙ rest.idle;
    uncollected = refl;
    between = refl;
    on = record { kind = refl; all = λ st. refl };
    asks = tt;
  }
