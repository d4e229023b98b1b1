-- What ended stays ended in every event but the one that hands its answer out.
use Rattle.fm_local.proofs.Words.{◌≡◌, OpId, Step, StepReply, World, false, IsSound}
use Rattle.fm_world.specs.Steps.{Steps}
use Rattle.fm_local.specs.Waits.{IsEnded, hands_out}
use Rattle.fm_local.proofs.queues.LooseOperations.{base_ends, begins, begins_lower, collects_other, drain_over, drain_taken, held_changes, nexts_ended, post_ends, post_resumes, pre_ends, pre_resumes}
use Rattle.fm_local.proofs.queues.OtherRecords.{by_same}
use Rattle.fm_local.proofs.queues.SameOperations as unmoved

pub ended_lasts : (old : World) (s : Step) (r : StepReply) (new : World) (p : OpId) → IsSound old → Steps old s r new
    → hands_out s p ≡ false → IsEnded old.flow p → IsEnded new.flow p
ended_lasts old (Step.Register name registration) (StepReply.Filter r) new p s h other =
    (by_same p old.flow new.flow (unmoved.registered old new name registration r h)).ended
ended_lasts old (Step.Mount name) (StepReply.Volume r) new p s h other = (by_same p old.flow new.flow (unmoved.mounted old new name r h)).ended
ended_lasts old (Step.Attach k f v name altitude) (StepReply.Instance r) new p s h other =
    (by_same p old.flow new.flow (unmoved.attached old new k f v name altitude r h)).ended
ended_lasts old (Step.SetupDone k accept) (StepReply.Done r) new p s h other = (by_same p old.flow new.flow (unmoved.set_up old new k accept r h)).ended
ended_lasts old (Step.Begin what) (StepReply.Operation r) new p s h other = (begins p old what r new h).ended
ended_lasts old (Step.BeginFrom from what) (StepReply.Operation r) new p s h other = (begins_lower p old from what r new h).ended
ended_lasts old (Step.Next k o) (StepReply.Action r) new p s h other = nexts_ended p old k o r new h
ended_lasts old (Step.PreReturned k verdict lent) (StepReply.Done r) new p s h other = (pre_ends p old k s r new verdict lent h).ended
ended_lasts old (Step.BaseReturned k call given) (StepReply.Done r) new p s h other = (base_ends p old k s r new call given h).ended
ended_lasts old (Step.PostReturned k verdict lent) (StepReply.Done r) new p s h other = (post_ends p old k s r new verdict lent h).ended
ended_lasts old (Step.ResumePre k o verdict) (StepReply.Done r) new p s h other = (pre_resumes p old k s r new o verdict h).ended
ended_lasts old (Step.ResumePost k o) (StepReply.Done r) new p s h other = (post_resumes p old k s r new o h).ended
ended_lasts old (Step.FirstHeld k kind) (StepReply.Held r) new p s h other = (by_same p old.flow new.flow (unmoved.held_found old new k kind r h)).ended
ended_lasts old (Step.Collect o) (StepReply.Answer r) new p s h other = (collects_other p old o r new h other).ended
ended_lasts old (Step.Allocate k what body) (StepReply.Context r) new p s h other =
    (by_same p old.flow new.flow (unmoved.allocated old new k what body r h)).ended
ended_lasts old (Step.Set k c mode wants) (StepReply.Set r) new p s h other = (by_same p old.flow new.flow (unmoved.set old new k c mode wants r h)).ended
ended_lasts old (Step.Get k kind) (StepReply.Context r) new p s h other = (by_same p old.flow new.flow (unmoved.got old new k kind r h)).ended
ended_lasts old (Step.Delete k kind wants) (StepReply.Old r) new p s h other = (by_same p old.flow new.flow (unmoved.deleted old new k kind wants r h)).ended
ended_lasts old (Step.Reference k c) (StepReply.Done r) new p s h other = (by_same p old.flow new.flow (unmoved.referenced old new k c r h)).ended
ended_lasts old (Step.Release k c) (StepReply.Done r) new p s h other = (by_same p old.flow new.flow (unmoved.released old new k c r h)).ended
ended_lasts old (Step.ReadBody k c) (StepReply.Body r) new p s h other = (by_same p old.flow new.flow (unmoved.body_read old new k c r h)).ended
ended_lasts old (Step.WriteBody k c bytes) (StepReply.Done r) new p s h other = (by_same p old.flow new.flow (unmoved.body_written old new k c bytes r h)).ended
ended_lasts old (Step.Bump k c at by) (StepReply.Number r) new p s h other = (by_same p old.flow new.flow (unmoved.bumped old new k c at by r h)).ended
ended_lasts old (Step.TakeDue k) (StepReply.Due r) new p s h other = (by_same p old.flow new.flow (unmoved.due_taken old new k r h)).ended
ended_lasts old (Step.Cleaned k number) (StepReply.Done r) new p s h other = (by_same p old.flow new.flow (unmoved.cleaned old new k number r h)).ended
ended_lasts old (Step.AskDetach k i) (StepReply.Done r) new p s h other = (by_same p old.flow new.flow (unmoved.asked old new k i r h)).ended
ended_lasts old (Step.QueryReturned k allow) (StepReply.Done r) new p s h other = (by_same p old.flow new.flow (unmoved.queried old new k allow r h)).ended
ended_lasts old (Step.StartTeardown k i) (StepReply.Done r) new p s h other = (by_same p old.flow new.flow (unmoved.starting old new k i r h)).ended
ended_lasts old (Step.StartReturned k) (StepReply.Done r) new p s h other = (by_same p old.flow new.flow (unmoved.started old new k r h)).ended
ended_lasts old (Step.DrainTake k i) (StepReply.Drained r) new p s h other = (drain_taken p old k i r new h).ended
ended_lasts old (Step.DrainDone k) (StepReply.Done r) new p s h other = (drain_over p old k r new h).ended
ended_lasts old (Step.CompleteTeardown k i) (StepReply.Done r) new p s h other = (by_same p old.flow new.flow (unmoved.completing old new k i r h)).ended
ended_lasts old (Step.CompleteReturned k) (StepReply.Done r) new p s h other = (by_same p old.flow new.flow (unmoved.completed old new k r h)).ended
ended_lasts old (Step.EnterRoutine k i handle) (StepReply.Done r) new p s h other = (by_same p old.flow new.flow (unmoved.entered_routine old new k i handle r h)).ended
ended_lasts old (Step.RoutineReturned k) (StepReply.Done r) new p s h other = (by_same p old.flow new.flow (unmoved.routine_returned old new k r h)).ended
ended_lasts old (Step.Finish i) (StepReply.Done r) new p s h other = (by_same p old.flow new.flow (unmoved.finished old new i r h)).ended
ended_lasts old (Step.AskUnload k f) (StepReply.Done r) new p s h other = (by_same p old.flow new.flow (unmoved.unload_asked old new k f r h)).ended
ended_lasts old (Step.UnloadReturned k allow) (StepReply.Done r) new p s h other = (by_same p old.flow new.flow (unmoved.unloaded old new k allow r h)).ended
ended_lasts old (Step.ForceUnload f) (StepReply.Done r) new p s h other = (by_same p old.flow new.flow (unmoved.unload_forced old new f r h)).ended
ended_lasts old (Step.EmptyFilter f) (StepReply.Done r) new p s h other = (by_same p old.flow new.flow (unmoved.filter_emptied old new f r h)).ended
ended_lasts old (Step.FinishFilter f) (StepReply.Done r) new p s h other = (by_same p old.flow new.flow (unmoved.filter_finished old new f r h)).ended
ended_lasts old (Step.StartDismount v) (StepReply.Done r) new p s h other = (by_same p old.flow new.flow (unmoved.dismount_started old new v r h)).ended
ended_lasts old (Step.DropHandle v) (StepReply.Dropped r) new p s h other = (by_same p old.flow new.flow (unmoved.handle_dropped old new v r h)).ended
ended_lasts old (Step.EmptyVolume v) (StepReply.Done r) new p s h other = (by_same p old.flow new.flow (unmoved.volume_emptied old new v r h)).ended
ended_lasts old (Step.FinishVolume v) (StepReply.Done r) new p s h other = (by_same p old.flow new.flow (unmoved.volume_finished old new v r h)).ended
ended_lasts old (Step.ChangeHeld k o params) (StepReply.Done r) new p s h other = (held_changes p old k s r new o params h).ended
ended_lasts old _ _ new p s h other = absurd h
