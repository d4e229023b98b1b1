-- The words that the proofs share.
pub use Rattle.fm_core.specs.Begun.{Asks, IsAsked}
pub use Rattle.fm_core.specs.Callers.{caller_of, has_kind_at, owner_for, refused_in}
pub use Rattle.fm_core.specs.Descent.{FindsAt}
pub use Rattle.fm_core.specs.Fields.{IsState, IsTied}
pub use Rattle.fm_core.specs.FilesKept.{AreCounted, FilesKept, IsBefore, IsOlder, changed_at, is_own, stream_or}
pub use Rattle.fm_core.specs.Hands.{Ends, MayBring, MaySend, SweptWhere, back_in, kept_brought, kept_sent}
pub use Rattle.fm_core.specs.Lost.{Sweeping, file_lost, handle_lost, is_lost, is_lost_of, stream_lost, torn}
pub use Rattle.fm_core.specs.Passing.{ComesDown, ComesUp}
pub use Rattle.fm_core.specs.Places.{base_of, complete_of, drain_of, drains_in, early_drain_of, post_of, pre_of, query_of, setup_of, start_of, unload_of}
pub use Rattle.fm_core.specs.Targets.{answered, decided, known_in, target_in}
pub use Rattle.fm_core.specs.contracts.state.State.{the_view}
pub use Rattle.fm_core.specs.declared.caller.Caller.{Caller}
pub use Rattle.fm_core.specs.declared.target.Target.{Target}
pub use Rattle.fm_ctx.proofs.Alike.{leaves_alike, sweeps_alike}
pub use Rattle.fm_ctx.proofs.Carried.{carried_equal, carried_there}
pub use Rattle.fm_ctx.proofs.Slots.{there_changed}
pub use Rattle.fm_ctx.specs.Births.{new_context}
pub use Rattle.fm_ctx.specs.Kept.{ContextsKept, carried_of}
pub use Rattle.fm_ctx.specs.Settling.{is_linked_to}
pub use Rattle.fm_operations.specs.Drains.{DrainTaken}
pub use Rattle.fm_operations.specs.Steps.{base_after}
pub use Rattle.fm_operations.specs.Table.{StandsAt}
pub use Rattle.fm_types.proofs.Firsts.{absent, found_read, stands_there, without_none}
pub use Rattle.fm_types.proofs.Rising.{found_rising, stands_rising}
pub use Rattle.fm_types.specs.Refusals.{IsRefusalOrMemory}
pub use Rattle.fm_world.proofs.Callbacks.{reference_does, release_does}
pub use Rattle.fm_world.proofs.Events.{idle_there}
pub use Rattle.fm_world.proofs.Operations.{told_there}
pub use Rattle.fm_world.proofs.Owning.{empty_hand}
pub use Rattle.fm_world.proofs.Requests.{begin_does}
pub use Rattle.fm_world.proofs.Resumes.{placed_below}
pub use Rattle.fm_world.proofs.Returns.{post_does, pre_does, sent_is_held}
pub use Rattle.fm_world.proofs.Runs.{headline_from}
pub use Rattle.fm_world.proofs.Turns.{next_does}
pub use Rattle.fm_world.specs.Events.{drains_next, volume_refusals}
pub use Rattle.fm_world.specs.Files.{fresh_handle}
pub use Rattle.fm_world.specs.Requests.{phase_refusal_at}
pub use Rattle.fm_world.specs.declared.file.FileHandle.{FileHandle}
pub use Rattle.fm_world.specs.declared.file.FileStream.{FileStream}
pub use Rattle.fm_world.specs.declared.file.HandlePhase.{HandlePhase}
pub use Rattle.fm_world.specs.declared.place.Place.{Place}
pub use Rattle.std.proofs.Common.{Bool, Err, IfSome, List, None, Ok, Option, Result, Some, [], ap, arith, cond, false, inl, inr, is_ok, is_some, map, nat_lt}
pub use Rattle.std.proofs.Common.{not, position, refl, rules, subst, suc, sym, true, ℕ, ◌%◌, ◌&&◌, ◌++◌, ◌+◌, ◌-◌, ◌<◌, ◌==◌, ◌^◌, ◌||◌, ◌∙◌, ◌∷◌, ◌≡◌, ◌≤◌}
pub use Rattle.std.proofs.lemmas.Bool.Decides.{nat_tests}
pub use Rattle.std.proofs.lemmas.List.Sorted.{answers_always}
pub use Rattle.std.proofs.lemmas.List.Sums.{count_by-le-length}
pub use Rattle.std.specs.Option.{option_and_then, option_copied}
pub use Rattle.fm_world.proofs.Words.{within_hands, hand_of, holds, allocate_refusal, open_of, IsLawful, holder, grabbed, Leaves, Sweeps, is_linked_of, Context}
pub use Rattle.fm_world.proofs.Words.{ContextTable, Slot, context_at, Object, Owner, BaseCall, Data, data_fits, operation_of, Answer, Params, Request}
pub use Rattle.fm_world.proofs.Words.{PreVerdict, carried_by, carried_in, handed, owed, FlowRecord, base_fits, drain_returned_of, next_of, post_returned_of}
pub use Rattle.fm_world.proofs.Words.{pre_returned_of, pre_settled, FlowTable, IsFlow, carried, changed, is_full, is_number, operation_at, told, Below}
pub use Rattle.fm_world.proofs.Words.{FlowAction, Ask, PreState, InBase, InDrain, PostRunning, PreRunning, StackWorld, Instance, change_none, count-cons}
pub use Rattle.fm_world.proofs.Words.{found_holds, change_first, without_first, Answers, AnswersOrMemory, first_of, ContextKind, CtxId, FilterId, HandleId}
pub use Rattle.fm_world.proofs.Words.{InstanceId, OpId, StreamId, VolumeId, WorkerId, Operation, Status, Callback, before, callback_of, is_gone_at}
pub use Rattle.fm_world.proofs.Words.{totalled_for, with_contexts, Begins, Nexts, PostReturns, PreReturns, Unless, asked_refused_at, base_step, drains_at}
pub use Rattle.fm_world.proofs.Words.{filed_pre, flow_after_next, has_no_handle_left, is_created_on, moved_on, received, sent, sent_in, state_at, state_given}
pub use Rattle.fm_world.proofs.Words.{FileTable, after_pre, created, handle_at, has_handle_on, is_at_path, is_handle, is_on, is_stream, stream_for, with_mark}
pub use Rattle.fm_world.proofs.Words.{with_phase, Headline, LosesLinks, is_there, names_there, object_by, place_in, row_at, IsSound, RunThrough, after_next}
pub use Rattle.fm_world.proofs.Words.{cleanup_in, is_idle, put, worker_at, World, carries, empty_world, All, AllPairs, count_by, find, length, option_map}
pub use Rattle.fm_world.proofs.Words.{slice_get, slice_set, and_parts, cases_Bool, false≢true, All-cons, All-head, All-nil, All-tail, All-weaker, none-some}
pub use Rattle.fm_world.proofs.Words.{same_Some, slice_get_within}
