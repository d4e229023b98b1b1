-- The words that the files of the crate share.
pub use Rattle.fm_types.specs.declared.ids.CtxId.{CtxId}
pub use Rattle.fm_types.specs.declared.ids.FilterId.{FilterId}
pub use Rattle.fm_types.specs.declared.ids.HandleId.{HandleId}
pub use Rattle.fm_types.specs.declared.ids.InstanceId.{InstanceId}
pub use Rattle.fm_types.specs.declared.ids.OpId.{OpId}
pub use Rattle.fm_types.specs.declared.ids.VolumeId.{VolumeId}
pub use Rattle.fm_types.specs.declared.ids.WorkerId.{WorkerId}
pub use Rattle.fm_types.specs.declared.status.Status.{Status}
pub use Rattle.fm_types.specs.declared.status.Status.TheVariants.{BadRequest}
pub use Rattle.fm_callback_data.specs.Data.{Data}
pub use Rattle.fm_callback_data.specs.Calls.{BaseCall}
pub use Rattle.fm_callback_data.specs.declared.answer.Answer.{Answer}
pub use Rattle.fm_callback_data.specs.declared.verdict.Completion.{Completion}
pub use Rattle.fm_callback_data.specs.declared.verdict.PreVerdict.{PreVerdict}
pub use Rattle.fm_callback_data.specs.declared.verdict.PostVerdict.{PostVerdict}
pub use Rattle.fm_world.specs.World.{World}
pub use Rattle.fm_world.specs.declared.step.Step.{Step}
pub use Rattle.fm_world.specs.declared.step.StepReply.{StepReply}
pub use Rattle.fm_session.specs.declared.lent.Given.{Given}
pub use Rattle.fm_script.specs.declared.keyword.Keyword.{Keyword}
pub use Rattle.fm_script.specs.declared.task.Task.{Task}
pub use Rattle.fm_words.specs.Numbers.{id_read}
unfoldable pub use Rattle.fm_words.specs.Numbers.{number_read}
pub use Rattle.fm_words.specs.Words.{words_of}
pub use Rattle.fm_script.specs.Reading.{◌>>=◌, Either}
