-- Which verdict of a preoperation counts.
use Rattle.std.specs.Prelude.{Bool, true, false, cond}
use Rattle.fm_types.specs.declared.operation.Operation.{Operation}
use Rattle.fm_types.specs.declared.operation.Operation.TheVariants as kind
use Rattle.fm_types.specs.declared.status.Status.{Status}
use Rattle.fm_types.specs.declared.status.Status.TheVariants.{Success, AccessDenied}
use Rattle.fm_callback_data.specs.declared.verdict.PreVerdict.{PreVerdict}
use Rattle.fm_callback_data.specs.declared.verdict.PreVerdict.TheVariants.{WithCallback, Synchronize, NoCallback, Complete, Pending}
use Rattle.fm_operations.specs.declared.entry.PreState.{PreState}
use Rattle.fm_operations.specs.declared.entry.PreState.TheVariants as pre

-- a create that a filter completes has no handle, so it can't have succeeded
abbrev pub create_completed : Status → Status
create_completed Success = AccessDenied
create_completed status = status

-- nothing keeps a handle from ending; everything else ends with the status given
abbrev pub completed_as : Status → Operation → PreState
completed_as status kind.Cleanup = pre.Passed
completed_as status kind.Close = pre.Passed
completed_as status kind.Create = pre.Completed (create_completed status)
completed_as status _ = pre.Completed status

-- the verdict that counts, of a filter that has a postoperation callback for the operation or hasn't
abbrev pub verdict_counted : PreVerdict → Operation → Bool → PreState
verdict_counted (WithCallback completion) operation has_post = cond has_post (pre.Asked completion) pre.Passed
verdict_counted (Synchronize completion) operation has_post = cond has_post (pre.Synchronized completion) pre.Passed
verdict_counted NoCallback operation has_post = pre.Passed
verdict_counted (Complete status) operation has_post = completed_as status operation
verdict_counted Pending operation has_post = pre.Held

-- a verdict, and not a callback that still runs
abbrev pub is_counted : PreState → Bool
is_counted pre.Running = false
is_counted _ = true
