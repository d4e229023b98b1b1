-- The words that the definitions share, passed on from the crates below.
pub use Rattle.fm_callback_data.specs.Calls.{BaseCall}
pub use Rattle.fm_callback_data.specs.Data.{Data}
pub use Rattle.fm_callback_data.specs.declared.verdict.Completion.{Completion}
pub use Rattle.fm_callback_data.specs.declared.verdict.PostVerdict.{PostVerdict}
pub use Rattle.fm_callback_data.specs.declared.verdict.PostVerdict.TheVariants.{Finished}
pub use Rattle.fm_callback_data.specs.declared.verdict.PreVerdict.{PreVerdict}
pub use Rattle.fm_base.specs.Folders.{Folder}
pub use Rattle.fm_operations.specs.Answered.{bare_answer}
pub use Rattle.fm_world.specs.ContextEvents.{Finishes}
pub use Rattle.fm_world.specs.Events.{Attaches}
pub use Rattle.fm_world.specs.Teardowns.{AsksDetach, CompletesTeardown, EmptiesFilter, FinishesFilter, StartsTeardown}
pub use Rattle.fm_world.specs.Words.{Answer, FilterId, FlowAction, FlowRecord, Instance, InstanceId, OpId, Operation, Params, StackWorld, Status}
pub use Rattle.fm_world.specs.Words.{VolumeId, WorkerId}
pub use Rattle.fm_world.specs.Workers.{worker_at}
pub use Rattle.fm_world.specs.World.{World}
pub use Rattle.fm_local.specs.declared.parts.Parts.{Parts}
