-- The words that the proofs share.
pub use Rattle.std.specs.Prelude.{[], ⊤, ◌∷◌, ◌≡◌, ◌≤◌, ◌⊎◌, Bool, Err, List, None, Ok, Option, Result, Some, false, length, option_and_then}
pub use Rattle.std.specs.Prelude.{slice_get, suc, true, zero, ℕ}
pub use Rattle.fm_local.specs.Words.{Answer, BaseCall, Completion, Data, FilterId, Finished, FlowAction, FlowRecord, Folder, Instance, InstanceId}
pub use Rattle.fm_local.specs.Words.{Parts, OpId, Operation, Params, PostVerdict, PreVerdict, StackWorld, Status, VolumeId, WorkerId, World}
pub use Rattle.fm_local.specs.Words.{bare_answer, worker_at}
pub use Rattle.std.proofs.Common.{◌&&◌, ◌++◌, ◌+◌, ◌<◌, ◌==◌, ◌||◌, ◌∙◌, IsOk, ap, ap₂, arith, cond, count_by, drop, eq-eqb, find, inl, inr, is_some}
pub use Rattle.std.proofs.Common.{length-append, map, nat_lt, not, option_map, refl, subst, sym, take, true≢false, unwrap_or}
pub use Rattle.std.proofs.lemmas.Bool.{cases_Bool, false≢true}
pub use Rattle.std.proofs.lemmas.Bool.Decides.{nat_tests}
pub use Rattle.std.proofs.lemmas.Option.{none-some, same_Some}
pub use Rattle.std.proofs.lemmas.Result.{err_from_is_err_and}
pub use Rattle.std.specs.List.{list_any}
pub use Rattle.fm_types.specs.declared.registration.Registration.{Registration}
pub use Rattle.fm_types.specs.declared.status.Status.TheVariants.{Success}
pub use Rattle.fm_callback_data.specs.Data.{answered_data, data_fits, fresh_data}
pub use Rattle.fm_callback_data.specs.Params.{call_fits, fit, is_within_limits}
pub use Rattle.fm_callback_data.specs.Requests.{params_of}
pub use Rattle.fm_callback_data.specs.declared.request.FileRequest.{FileRequest}
pub use Rattle.fm_callback_data.specs.declared.request.Reply.{Reply}
pub use Rattle.fm_callback_data.specs.declared.request.Request.{Request}
pub use Rattle.fm_stack.specs.declared.instance.StartMark.{StartMark}
pub use Rattle.fm_operations.specs.Answered.{base_counted}
pub use Rattle.fm_operations.specs.Entries.{times}
pub use Rattle.fm_operations.specs.Seen.{sees}
pub use Rattle.fm_operations.specs.Sound.{IsCourse}
pub use Rattle.fm_operations.specs.Steps.{ascend, base_fits, base_returned_of, call_base, call_of, call_post, call_pre, descend, give_post, lent_answer}
pub use Rattle.fm_operations.specs.Steps.{may_take, next_at, next_of, post_returned_of, pre_returned_of, returned_answer, turn, unwound}
pub use Rattle.fm_operations.specs.Table.{is_number}
pub use Rattle.fm_operations.specs.Verdict.{verdict_counted}
pub use Rattle.fm_operations.specs.declared.action.Below.{Below}
pub use Rattle.fm_operations.specs.declared.stage.Stage.TheVariants.{Ascending}
unfoldable pub use Rattle.fm_ctx.specs.Table.{context_at}
pub use Rattle.fm_world.proofs.Events.{idle_by}
pub use Rattle.fm_world.proofs.Runs.{step_keeps}
unfoldable pub use Rattle.fm_world.specs.ContextEvents.{Finishes}
pub use Rattle.fm_world.specs.EarlyDrains.{DrainsWhere, is_stopping_at}
unfoldable pub use Rattle.fm_world.specs.EarlyDrains.{TakesDrain}
pub use Rattle.fm_world.specs.Events.{BaseReturnsAt, NextsAt, PostReturnsAt, PreReturnsAt, PreReturnsOver, ReturnsFrom, Unless, after_begin}
pub use Rattle.fm_world.specs.Events.{base_returned, begin_refused, begun_at, begun_on, drains_at, has_post, is_stopping_phase, is_stopping_row}
pub use Rattle.fm_world.specs.Events.{state_at}
unfoldable pub use Rattle.fm_world.specs.Events.{Attaches, BaseReturns, Begins, Collects, Mounts, Nexts, PostReturns, PreReturns, Registers}
pub use Rattle.fm_world.specs.Files.{FileTable, handle_at, stream_at}
pub use Rattle.fm_world.specs.Links.{LosesLinks}
pub use Rattle.fm_world.specs.Owners.{row_at}
pub use Rattle.fm_world.specs.Sound.{IsSound}
pub use Rattle.fm_world.specs.Teardowns.{UnloadReturnsAt}
unfoldable pub use Rattle.fm_world.specs.Teardowns.{AsksDetach, AsksUnload, CompleteReturns, CompletesTeardown, EmptiesFilter, FinishesFilter}
unfoldable pub use Rattle.fm_world.specs.Teardowns.{StartReturns, StartsTeardown, UnloadReturns}
pub use Rattle.fm_world.specs.Words.{Ask, ContextKind, CtxId, Descending, Entry, FlowTable, HandleId, Phase, PreState, Stage, StreamId, changed}
pub use Rattle.fm_world.specs.Words.{is_create, last_visited, operation_at, owed, told, updated, visited}
pub use Rattle.fm_world.specs.Workers.{after_next, is_idle, put}
pub use Rattle.fm_world.specs.declared.file.FileHandle.{FileHandle}
pub use Rattle.fm_world.specs.declared.file.FileStream.{FileStream}
pub use Rattle.fm_world.specs.declared.step.Step.{Step}
pub use Rattle.fm_world.specs.declared.step.StepReply.{StepReply}
pub use Rattle.fm_world.specs.declared.place.Place.{Place}
pub use Rattle.fm_filter.specs.Plain.{IsPlainFilter}
pub use Rattle.fm_local.specs.Actions.{ArePlainFilters, IsBegun, IsDoneAt, IsReady, closed_handle, replied}
pub use Rattle.fm_device.specs.Bases.{BasesCarry}
pub use Rattle.fm_local.specs.Calls.{AgreesAt, is_leaving, is_leaving_phase, is_to_go}
pub use Rattle.fm_local.specs.Chains.{BaseMay, Subject, Under, chain_of, filter_in, filter_in_row, known_answer, subject_of}
pub use Rattle.fm_local.specs.Cleanups.{HasNoneDue}
pub use Rattle.fm_local.specs.Folds.{Asker, Chain, Descends, Leads, Rises, Visit, asker}
pub use Rattle.fm_local.specs.Left.{ArePlain}
pub use Rattle.fm_filter.specs.Handed.{numbered}
pub use Rattle.fm_local.specs.Places.{StaysOut}
pub use Rattle.fm_local.specs.Quietly.{CompletesQuietly, StartsQuietly, TearsDownFirst, TearsDownQuietly}
pub use Rattle.fm_local.specs.Requests.{IsAtRest, NoneStops, Tidies, under}
pub use Rattle.fm_local.specs.Turns.{Carries, Does, Turns}
pub use Rattle.fm_local.specs.Visits.{Visits}
pub use Rattle.fm_filter.specs.declared.filters.Filters.{Filters}
pub use Rattle.fm_local.specs.declared.parts.TheConstants.{WORKER}
pub use Rattle.fm_local.specs.declared.requests.TheConstants.{RESUMPTIONS}
pub use Rattle.fm_types.specs.declared.limits.TheConstants.{TURNS}
pub use Rattle.fm_local.specs.declared.requests.Turn.{Turn}
