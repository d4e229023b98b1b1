-- When a handle may be asked.
use Rattle.std.specs.Prelude.{Bool, true, false, cond, ◌&&◌, Option, Some, None}
use Rattle.fm_types.specs.Roles.{role_of}
use Rattle.fm_types.specs.declared.operation.Role.{Role}
use Rattle.fm_types.specs.declared.operation.Role.TheVariants.{Uses}
use Rattle.fm_world.specs.Words.{Operation, Status, FlowTable, is_over}
use Rattle.fm_types.specs.declared.operation.Operation.TheVariants as kind
use Rattle.fm_types.specs.declared.status.Status.TheVariants as status
use Rattle.fm_world.specs.declared.file.HandlePhase.{HandlePhase}
use Rattle.fm_world.specs.declared.file.HandlePhase.TheVariants as phase

-- what a handle's phase refuses: a close before the cleanup is done, and a second cleanup, come at the wrong step; all else has no handle
-- once the cleanup has begun
abbrev pub phase_refusal : FlowTable → Operation → HandlePhase → Option Status
phase_refusal t kind.Cleanup phase.Open = None
phase_refusal t kind.Cleanup _ = Some status.WrongStep
phase_refusal t kind.Close phase.Open = Some status.WrongStep
phase_refusal t kind.Close (phase.CleaningUp o) = cond (is_over o t) None (Some status.WrongStep)
phase_refusal t kind.Close phase.Closing = Some status.NoHandle
phase_refusal t _ phase.Open = None
phase_refusal t _ _ = Some status.NoHandle

-- an operation that only uses the file that its handle is on
abbrev pub is_of_use : Role → Bool
is_of_use Uses = true
is_of_use _ = false

abbrev pub is_use : Operation → Bool
is_use operation = is_of_use (role_of operation)

-- such a one that a filter asks for itself, between a handle's cleanup and its close
abbrev pub is_late_use : Bool → Operation → HandlePhase → Bool
is_late_use lower operation (phase.CleaningUp o) = lower && is_use operation
is_late_use lower operation _ = false

-- what a handle's phase refuses of an operation that a client asks for, or, lower, one that a filter asks for itself
abbrev pub phase_refusal_at : Bool → FlowTable → Operation → HandlePhase → Option Status
phase_refusal_at lower t operation p = cond (is_late_use lower operation p) None (phase_refusal t operation p)
