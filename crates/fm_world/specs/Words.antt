-- The words that the definitions share, passed on from the crates below.
pub use Rattle.fm_types.specs.Lists.{updated, change_first, without_first}
pub use Rattle.fm_types.specs.Refusals.{first_of, Answers, AnswersOrMemory}
pub use Rattle.fm_types.specs.declared.context_kind.ContextKind.{ContextKind}
pub use Rattle.fm_types.specs.declared.ids.CtxId.{CtxId}
pub use Rattle.fm_types.specs.declared.ids.FilterId.{FilterId}
pub use Rattle.fm_types.specs.declared.ids.HandleId.{HandleId}
pub use Rattle.fm_types.specs.declared.ids.InstanceId.{InstanceId}
pub use Rattle.fm_types.specs.declared.ids.OpId.{OpId}
pub use Rattle.fm_types.specs.declared.ids.StreamId.{StreamId}
pub use Rattle.fm_types.specs.declared.ids.VolumeId.{VolumeId}
pub use Rattle.fm_types.specs.declared.ids.WorkerId.{WorkerId}
pub use Rattle.fm_types.specs.declared.operation.Operation.{Operation}
pub use Rattle.fm_types.specs.declared.status.Status.{Status}
pub use Rattle.fm_callback_data.specs.declared.answer.Answer.{Answer}
pub use Rattle.fm_callback_data.specs.declared.params.Params.{Params}
pub use Rattle.fm_stack.specs.Events.{is_emptying_at, finished, is_mounted}
pub use Rattle.fm_stack.specs.Instances.{is_detached, is_lower_at, clashes, is_setup, is_attached, is_stopping, is_completing}
pub use Rattle.fm_stack.specs.Next.{is_to_visit, is_below_cursor, is_candidate, IsNextInstance, has_pre_in, has_post_in, NonePasses}
pub use Rattle.fm_stack.specs.StackWorld.{StackWorld}
pub use Rattle.fm_stack.specs.declared.instance.Instance.{Instance}
pub use Rattle.fm_stack.specs.declared.instance.Phase.{Phase}
pub use Rattle.fm_ctx.specs.Bags.{holds, hand_of, one, places, cleaning_of}
pub use Rattle.fm_ctx.specs.Counting.{open_of}
pub use Rattle.fm_ctx.specs.Laws.{has_link, is_waiting, IsLawful}
pub use Rattle.fm_ctx.specs.References.{grabbed, released, reference_refusal, release_refusal, handed_on}
pub use Rattle.fm_ctx.specs.Settling.{Leaves, Sweeps, is_linked_of}
pub use Rattle.fm_ctx.specs.Table.{Context, ContextTable, context_at, link_at, Slot, owner_at, count_in}
pub use Rattle.fm_ctx.specs.declared.due.Due.{Due}
pub use Rattle.fm_ctx.specs.declared.object.Object.{Object}
pub use Rattle.fm_ctx.specs.declared.owner.Owner.{Owner}
pub use Rattle.fm_operations.specs.Creates.{creates, has_create_on, is_create, is_creating, is_on_stream, is_over}
pub use Rattle.fm_operations.specs.Entries.{owed, last_visited, visited, last_posted, has_base, posted, undrained, instances}
pub use Rattle.fm_operations.specs.Record.{FlowRecord}
pub use Rattle.fm_operations.specs.Table.{FlowTable, carried, operation_at, changed, told, begun, is_full, collect_reply, collected_of, in_flight, IsFlow}
pub use Rattle.fm_operations.specs.Table.{empty_table}
pub use Rattle.fm_operations.specs.declared.action.FlowAction.{FlowAction}
pub use Rattle.fm_operations.specs.declared.entry.Ask.{Ask}
pub use Rattle.fm_operations.specs.declared.entry.Entry.{Entry}
pub use Rattle.fm_operations.specs.declared.entry.PreState.{PreState}
pub use Rattle.fm_operations.specs.declared.stage.Stage.{Stage}
pub use Rattle.fm_operations.specs.declared.stage.Stage.TheVariants.{Descending, PreRunning, InBase, PostRunning, InDrain}
