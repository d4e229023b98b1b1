-- An answer of a kind, read off a reply; what isn't of that kind, and what was refused first of all, is WrongStep.
use Rattle.std.specs.Prelude.{ℕ, List, Option, Result, Ok, Err}
use Rattle.fm_callback_data.specs.declared.verdict.Completion.{Completion}
use Rattle.fm_types.specs.declared.status.Status.TheVariants as status
use Rattle.fm_world.specs.Words.{VolumeId, InstanceId, OpId, HandleId, CtxId, Status, Due}
use Rattle.fm_world.specs.declared.refused.Refused.{Refused}
use Rattle.fm_world.specs.declared.set_answer.SetAnswer.{SetAnswer}
use Rattle.fm_world.specs.declared.set_answer.SetAnswer.TheVariants as answer
use Rattle.fm_world.specs.declared.step.Step.{Step}
use Rattle.fm_world.specs.declared.step.StepReply.{StepReply}
use Rattle.fm_world.specs.declared.step.StepReply.TheVariants as reply

abbrev pub volume_in : Result StepReply (Refused Step) → Result VolumeId Status
volume_in (Ok (reply.Volume r)) = r
volume_in _ = Err status.WrongStep

abbrev pub instance_in : Result StepReply (Refused Step) → Result InstanceId Status
instance_in (Ok (reply.Instance r)) = r
instance_in _ = Err status.WrongStep

abbrev pub operation_in : Result StepReply (Refused Step) → Result OpId Status
operation_in (Ok (reply.Operation r)) = r
operation_in _ = Err status.WrongStep

abbrev pub done_in : Result StepReply (Refused Step) → Result (Unit {0}) Status
done_in (Ok (reply.Done r)) = r
done_in _ = Err status.WrongStep

abbrev pub held_in : Result StepReply (Refused Step) → Result (Option OpId) Status
held_in (Ok (reply.Held r)) = r
held_in _ = Err status.WrongStep

abbrev pub drained_in : Result StepReply (Refused Step) → Result (Option (OpId × Completion)) Status
drained_in (Ok (reply.Drained r)) = r
drained_in _ = Err status.WrongStep

abbrev pub dropped_in : Result StepReply (Refused Step) → Result (Option HandleId) Status
dropped_in (Ok (reply.Dropped r)) = r
dropped_in _ = Err status.WrongStep

abbrev pub context_in : Result StepReply (Refused Step) → Result CtxId Status
context_in (Ok (reply.Context r)) = r
context_in _ = Err status.WrongStep

abbrev pub set_in : Result StepReply (Refused Step) → SetAnswer
set_in (Ok (reply.Set r)) = r
set_in _ = answer.Refused status.WrongStep

abbrev pub old_in : Result StepReply (Refused Step) → Result (Option CtxId) Status
old_in (Ok (reply.Old r)) = r
old_in _ = Err status.WrongStep

abbrev pub body_in : Result StepReply (Refused Step) → Result (List ℕ) Status
body_in (Ok (reply.Body r)) = r
body_in _ = Err status.WrongStep

abbrev pub number_in : Result StepReply (Refused Step) → Result ℕ Status
number_in (Ok (reply.Number r)) = r
number_in _ = Err status.WrongStep

abbrev pub due_in : Result StepReply (Refused Step) → Result (Option Due) Status
due_in (Ok (reply.Due r)) = r
due_in _ = Err status.WrongStep
