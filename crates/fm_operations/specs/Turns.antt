-- Whose turn a synchronized postoperation is.
use Rattle.std.specs.Prelude.{◌≡◌, ◌≢◌, ⊤, Bool, Some, None, Result, Ok, Err}
use Rattle.fm_types.specs.declared.ids.WorkerId.{WorkerId}
use Rattle.fm_types.specs.declared.status.Status.{Status}
use Rattle.fm_types.specs.declared.status.Status.TheVariants.{WrongStep}
use Rattle.fm_operations.specs.declared.action.Below.{Below}
use Rattle.fm_operations.specs.declared.action.FlowAction.{FlowAction}
use Rattle.fm_operations.specs.declared.action.FlowAction.TheVariants as action
use Rattle.fm_operations.specs.Record.{FlowRecord}
use Rattle.fm_operations.specs.Sound.{IsSound}
use Rattle.fm_operations.specs.Steps.{next_of}
use Rattle.fm_operations.specs.Holds.{sync_of}

-- a postoperation is given
abbrev pub GivesPost : Result FlowAction Status → Type 0
GivesPost (Ok (action.Post i lent completion)) = ⊤
GivesPost _ = ⊥

pub record SynchronizedTurn : Type 0 where
  -- one worker is given the postoperation that comes next, and any other is refused
  pub own : (own : WorkerId) (worker : WorkerId) (lies : Below) (stops : Bool) (r : FlowRecord) → IsSound r → sync_of stops r ≡ Some own
      → (worker.0 ≡ own.0 → GivesPost (next_of worker lies stops r).reply) × (worker.0 ≢ own.0 → (next_of worker lies stops r).reply ≡ Err WrongStep)
  -- or `next` tells every worker the same
  pub any : (worker other : WorkerId) (lies : Below) (stops : Bool) (r : FlowRecord) → sync_of stops r ≡ None
      → (next_of worker lies stops r).reply ≡ (next_of other lies stops r).reply
