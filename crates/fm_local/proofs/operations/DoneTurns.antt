-- What is done is said to be done, however often that is asked.
use Rattle.fm_local.proofs.Words.{◌≡◌, Bool, Err, FlowAction, FlowRecord, InstanceId, None, Ok, OpId, Option, Params, Result, Some, Status, WorkerId}
use Rattle.fm_local.proofs.Words.{World, false, true, worker_at, ◌∙◌, cond, option_map, sym, unwrap_or, call_base, call_pre, descend, next_at}
use Rattle.fm_local.proofs.Words.{next_of, turn, Below, Ascending, NextsAt, Unless, drains_at, Nexts, Descending, Stage, operation_at, is_idle}
use Rattle.fm_local.proofs.Words.{IsDoneAt}

abbrev Done : Result FlowAction Status
Done = Ok FlowAction.Done

-- on the way down nothing is done
pre_goes : (k : WorkerId) (i : InstanceId) (r : FlowRecord) (m : Option Params) → Done ≡ (call_pre k i r m).reply → ⊥
pre_goes k i r None h = cc
pre_goes k i r (Some p) h = cc

base_goes : (r : FlowRecord) (m : Option Params) → Done ≡ (call_base r m).reply → ⊥
base_goes r None h = cc
base_goes r (Some p) h = cc

pub down_goes : (k : WorkerId) (lies : Below) (r : FlowRecord) → Done ≡ (descend k lies r).reply → ⊥
down_goes k (Below.Instance i true) r h = pre_goes k i r r.params h
down_goes k (Below.Instance i false) r h = cc
down_goes k Below.Call r h = base_goes r r.params h
down_goes k (Below.Known why) r h = cc

-- and on the way up it doesn't matter what lies below
module _ (k : WorkerId) (lies other : Below) (stops : Bool) (r : FlowRecord) where
  by_stage : (t : Stage) → Done ≡ (next_at k lies stops r t).reply → (next_at k other stops r t).reply ≡ Done
  by_stage Descending h = absurd (down_goes k lies r h)
  by_stage Ascending h = sym h
  by_stage _ h = cc

  by_collected : (b : Bool) → Done ≡ (cond b (turn (Err Status.WrongStep) r) (next_at k lies stops r r.stage)).reply
      → (cond b (turn (Err Status.WrongStep) r) (next_at k other stops r r.stage)).reply ≡ Done
  by_collected true h = cc
  by_collected false h = by_stage r.stage h

module _ (k : WorkerId) (lies other : Below) (stops : Bool) where
  by_record : (m : Option FlowRecord) → Done ≡ unwrap_or (option_map (λ r. (next_of k lies stops r).reply) m) (Err Status.WrongStep)
      → unwrap_or (option_map (λ r. (next_of k other stops r).reply) m) (Err Status.WrongStep) ≡ Done
  by_record None h = cc
  by_record (Some r) h = by_collected k lies other stops r r.collected h

module _ (old : World) (k : WorkerId) (o : OpId) (reply : Result FlowAction Status) (same new : World) where
  by_idle : (b : Bool) → Unless Status.WrongStep b Done old same (NextsAt old k o Done same)
      → Unless Status.WrongStep b reply old new (NextsAt old k o reply new) → reply ≡ Done
  by_idle false h g = cc
  by_idle true h g = g.3.0 ∙ by_record k h.0 g.0 (drains_at old o) (operation_at o old.flow) h.3.0

-- where nothing is left to do, `next` says so
pub says_done : (old : World) (k : WorkerId) (o : OpId) (reply : Result FlowAction Status) (new : World) → IsDoneAt k o old
    → Nexts old k o reply new → reply ≡ Ok FlowAction.Done
unfolding Nexts
says_done old k o reply new done h = by_idle old k o reply done.0 new (is_idle (worker_at old.workers k)) done.1 h
