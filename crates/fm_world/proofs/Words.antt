-- The words that the proofs share, passed on from the specs and from the crates below.
pub use Rattle.fm_ctx.proofs.Alike.{lawful_alike}
pub use Rattle.fm_ctx.proofs.Bags.{by_id, first_placed, hand_counted, is_id-refl, is_id-same, length-without, none_if_not_held, places_cleaned, references_cons}
pub use Rattle.fm_ctx.proofs.Bags.{references_none}
pub use Rattle.fm_ctx.proofs.Leaving.{context_at-swept, leave_keeps, sweep_keeps}
pub use Rattle.fm_ctx.proofs.Lives.{allocate_keeps, cleaned_keeps, count_cleaning, take_due_keeps}
pub use Rattle.fm_ctx.proofs.Moves.{body_keeps, bring_keeps, carry_keeps, reference_keeps, release_keeps, within_hands}
pub use Rattle.fm_ctx.proofs.Slots.{context_at-here, context_at-other, context_at-placed, context_at-placed_other, new_absent}
pub use Rattle.fm_ctx.specs.Bags.{is_hand_full, is_id, references}
unfoldable pub use Rattle.fm_ctx.specs.Bags.{held, holds, without}
pub use Rattle.fm_ctx.specs.Births.{IsNew, allocate_refusal, allocated, is_out_of_slots, new_slot, placed}
pub use Rattle.fm_ctx.specs.Bodies.{rewritten, with_body}
pub use Rattle.fm_ctx.specs.Cleanup.{cleaned, due_of, emptied, taken_due, taken_of}
pub use Rattle.fm_ctx.specs.Counting.{is_open}
pub use Rattle.fm_ctx.specs.Links.{IsUnlinkedOf, delete_after, delete_refusal, delete_reply, get_refusal, holder, linked, set_after, set_reply, unlinked_for}
pub use Rattle.fm_ctx.specs.Links.{wanted, with_link}
pub use Rattle.fm_ctx.specs.Objects.{is_to, same_owner}
pub use Rattle.fm_ctx.specs.Settling.{swept, swept_slot}
pub use Rattle.fm_ctx.specs.Table.{change_context, changed_slot, context_in, link_count}
unfoldable pub use Rattle.fm_ctx.specs.Table.{context_at}
pub use Rattle.fm_ctx.specs.declared.set_reply.SetMode.{SetMode}
pub use Rattle.fm_ctx.specs.declared.set_reply.SetReply.{SetReply}
pub use Rattle.fm_callback_data.specs.Calls.{BaseCall}
pub use Rattle.fm_callback_data.specs.Data.{Data, data_fits}
pub use Rattle.fm_callback_data.specs.Params.{are_on, is_within_limits, operation_of}
pub use Rattle.fm_callback_data.specs.declared.request.Request.{Request}
pub use Rattle.fm_callback_data.specs.declared.verdict.Completion.{Completion}
pub use Rattle.fm_callback_data.specs.declared.verdict.PostVerdict.{PostVerdict}
pub use Rattle.fm_callback_data.specs.declared.verdict.PreVerdict.{PreVerdict}
pub use Rattle.fm_operations.proofs.Counting.{drains_drain_settled, drains_open, drains_post_settled, drains_pre_settled, flight_post_settled, flight_pre_settled}
pub use Rattle.fm_operations.proofs.Counting.{none_running, one_of_and, owed_drain_settled, owed_post_settled, owed_pre_settled, same_either}
pub use Rattle.fm_operations.proofs.Course.{drains_push}
pub use Rattle.fm_operations.proofs.Flows.{flow_changes}
pub use Rattle.fm_operations.proofs.Next.{drains_given, next_drains}
pub use Rattle.fm_operations.proofs.Soundness.{Stays, unspent}
pub use Rattle.fm_operations.specs.Answered.{bare_answer, base_counted, is_success}
pub use Rattle.fm_operations.specs.Counts.{carried_among, carried_by, carried_in, drain_opens, flight, handed, is_running_drain, leaves_at, taken_by}
pub use Rattle.fm_operations.specs.Creates.{is_unanswered}
pub use Rattle.fm_operations.specs.Entries.{ask_in, is_base, post_of, settle_drain, settle_post, settle_pre, times, visit_of}
pub use Rattle.fm_operations.specs.Sound.{IsCourse, after, if_down, walk, way_of}
pub use Rattle.fm_operations.specs.Steps.{MayLieBelow, Turned, ascend, bare_ask, base_fits, base_returned_of, call_base, call_post, call_pre, descend, done_at}
pub use Rattle.fm_operations.specs.Steps.{drain_returned_of, give_post, is_done, may_take, next_at, next_of, post_leads, post_returned_of, post_settled, post_state}
pub use Rattle.fm_operations.specs.Steps.{pre_leads, pre_returned_of, pre_settled, turn, unwound_to, with_base, with_drain, with_visit}
pub use Rattle.fm_operations.specs.Table.{begun_record, collected_in, is_number, is_spent, marked, removed, total}
pub use Rattle.fm_operations.specs.Verdict.{is_counted, verdict_counted}
pub use Rattle.fm_operations.specs.declared.action.Below.{Below}
pub use Rattle.fm_operations.specs.declared.entry.Entry.TheVariants.{Base, Drain, Post, Pre}
pub use Rattle.fm_operations.specs.declared.entry.PostState.{PostState}
pub use Rattle.fm_operations.specs.declared.entry.PostVisit.{PostVisit}
pub use Rattle.fm_operations.specs.declared.entry.PreVisit.{PreVisit}
pub use Rattle.fm_operations.specs.declared.stage.Stage.TheVariants.{Ascending, PostHeld, PreHeld}
pub use Rattle.fm_stack.proofs.GoingOn.{goes_on_follows, goes_on_keeps}
pub use Rattle.fm_stack.specs.Events.{accept_row, finish_row, refuse_row}
pub use Rattle.fm_stack.specs.Follows.{Follows}
pub use Rattle.fm_stack.specs.Instances.{altitude_at, is_emptying, is_live_on, is_lower, is_lower_option, same_altitude, same_name}
pub use Rattle.fm_stack.specs.Next.{IsHighest}
pub use Rattle.fm_stack.specs.Stacks.{IsPlaced, IsStack}
pub use Rattle.fm_stack.specs.declared.filter.Filter.{Filter}
pub use Rattle.fm_stack.specs.declared.volume.Volume.{Volume}
pub use Rattle.fm_types.proofs.Firsts.{all_change, all_without, change_none, count-cons, count_changed, count_without, find_changed, find_unchanged}
pub use Rattle.fm_types.proofs.Firsts.{find_without, found_counts, found_holds, found_passes, length_change, length_without}
pub use Rattle.fm_types.proofs.Lists.{All-updated, all_at, length-updated, pair_at, slice_get-kept, slice_get-push, slice_get-set_other, slice_get-set_same}
pub use Rattle.fm_types.proofs.Lists.{updated-other, updated-same}
pub use Rattle.fm_types.proofs.Refusals.{none_refuses}
pub use Rattle.fm_types.specs.declared.operation.CreateMode.{CreateMode}
pub use Rattle.fm_world.specs.ContextEvents.{Callback, CleansAt, InCallback, SetsIn, SetsOn, SetsUnless, after_due, before, callback_in, callback_of}
pub use Rattle.fm_world.specs.ContextEvents.{context_by, filter_of, is_gone_at, is_past, object_for, object_refused, set_answer, set_refused, there_at}
pub use Rattle.fm_world.specs.ContextEvents.{totalled_for, with_contexts}
unfoldable pub use Rattle.fm_world.specs.ContextEvents.{Allocates, Bumps, Cleans, Deletes, Finishes, Gets, ReadsBody, References, Releases, Sets, TakesDue}
unfoldable pub use Rattle.fm_world.specs.ContextEvents.{WritesBody}
pub use Rattle.fm_world.specs.Descent.{HasRoom, IsDescent, begins_below, cursor_of, is_among, last_of, trail}
pub use Rattle.fm_world.specs.Dismounts.{Drops, dropped, is_handle_on, lowest_on}
unfoldable pub use Rattle.fm_world.specs.Dismounts.{DropsHandle, EmptiesVolume, FinishesVolume, StartsDismount}
pub use Rattle.fm_world.specs.Events.{BaseReturnsAt, BeginsAt, EmptiesUnless, FindsBelow, FindsHeldAt, LiesBelow, LosesByKnown, NextsAt, NextsOver, PostReturnsAt}
pub use Rattle.fm_world.specs.Events.{PreReturnsAt, ResumesPostAt, ResumesPreAt, SetsUpAt, Unless, after_begin, asked_begun, asked_refused_at, base_returned}
pub use Rattle.fm_world.specs.Events.{base_step, begin_refused, begin_refused_at, begun_on, brought, carries_after, created_begun, drains_at, filed_next, filed_pre, filed_record}
pub use Rattle.fm_world.specs.Events.{flow_after_next, has_no_handle_left, has_post, is_created_on, is_held_by, lets_go, moved_on, of_hand, or_else}
pub use Rattle.fm_world.specs.Events.{pre_resumed, pre_step, received, resume_post_refused, resume_pre_refused, returned, sent, sent_in, state_at, state_given}
unfoldable pub use Rattle.fm_world.specs.Events.{Attaches, BaseReturns, Begins, Collects, FindsHeld, Mounts, Nexts, PostReturns, PreReturns, Registers}
unfoldable pub use Rattle.fm_world.specs.Events.{ResumesPost, ResumesPre, SetsUp}
pub use Rattle.fm_world.specs.FileLaws.{IsCreatedOn, IsOnHandle, has_stream, has_stream_of}
pub use Rattle.fm_world.specs.Files.{FileTable, after_base, after_pre, closed, created, created_in, empty_files, fresh_stream, handle_at, has_handle_on}
pub use Rattle.fm_world.specs.Files.{is_at_path, is_handle, is_on, is_stream, left, opened, phased, stream_for, stream_of_path, torn_down, with_mark}
pub use Rattle.fm_world.specs.Files.{with_phase}
pub use Rattle.fm_world.specs.Hands.{HoldsFewer, HoldsMore, HoldsNone, KeepsHands, OnlyHandOf, given_by_next, given_by_set, given_with, hand_len, left_by}
pub use Rattle.fm_world.specs.Hands.{left_by_setup, pairs_in, taken_by_resume}
pub use Rattle.fm_world.specs.Headline.{AtBase, AtDrain, AtPost, AtPre, DescendsIn, Headline, IsAscent, IsInOrder, IsSynchronized, RulesKeepHeadline, Spot}
pub use Rattle.fm_world.specs.Headline.{collected_records, drains_running, is_in_at, is_in_drain, is_spot, spot_at, spot_of, stands_at}
pub use Rattle.fm_world.specs.Lasting.{IsGone}
pub use Rattle.fm_world.specs.Links.{LosesLinks, is_on_gone, is_there, names_there}
pub use Rattle.fm_world.specs.Owners.{AskCarries, CarriesIn, HoldsIn, belongs, belongs_by, file_of, fits, has_kind, holds_links_by, is_closing, is_flown}
pub use Rattle.fm_world.specs.Owners.{is_flown_by, is_left_by, keeps_links, keeps_links_by, link_fits, may_link, object_by, owner_by, owner_fits, place_in}
pub use Rattle.fm_world.specs.Owners.{row_at}
pub use Rattle.fm_world.specs.Sound.{AreOwned, AreUnderWay, IsAmong, IsAmongAt, IsFileSound, IsFiled, IsOwned, IsSound, HasWorkers, IsUnderWay, NoneLeft}
pub use Rattle.fm_world.specs.Sound.{is_made, most_at}
pub use Rattle.fm_world.specs.Steps.{Run, RunThrough, Steps}
pub use Rattle.fm_world.specs.Routines.{RoutineReturnsAt, file_by, routine_refusals}
unfoldable pub use Rattle.fm_world.specs.Routines.{EntersRoutine, RoutineReturns}
pub use Rattle.fm_world.specs.Initiators.{after_begin_from, from_refusals, is_off_volume, placed_at, placed_from, requested_volume}
unfoldable pub use Rattle.fm_world.specs.Initiators.{BeginsLower}
pub use Rattle.fm_world.specs.declared.begins_from.BeginsFrom.{BeginsFrom}
pub use Rattle.fm_world.specs.Teardowns.{CompleteReturnsAt, QueryReturnsAt, StartReturnsAt, UnloadReturnsAt, unfinished_at}
unfoldable pub use Rattle.fm_world.specs.Teardowns.{AsksDetach, AsksUnload, CompleteReturns, CompletesTeardown, EmptiesFilter, FinishesFilter, ForcesUnload}
unfoldable pub use Rattle.fm_world.specs.Teardowns.{QueryReturns, StartReturns, StartsTeardown, UnloadReturns}
pub use Rattle.fm_world.specs.Words.{Answer, Answers, AnswersOrMemory, Ask, Context, ContextKind, ContextTable, CtxId, Descending, Due, Entry, FilterId}
pub use Rattle.fm_world.specs.Words.{FlowAction, FlowRecord, FlowTable, HandleId, InBase, InDrain, Instance, InstanceId, IsFlow, IsLawful, Leaves, NonePasses}
pub use Rattle.fm_world.specs.Words.{Object, OpId, Operation, Owner, Params, Phase, PostRunning, PreRunning, PreState, Slot, StackWorld, Stage, Status}
pub use Rattle.fm_world.specs.Words.{StreamId, Sweeps, VolumeId, WorkerId, begun, carried, change_first, changed, clashes, cleaning_of, collected_of, creates}
pub use Rattle.fm_world.specs.Words.{empty_table, finished, first_of, grabbed, hand_of, has_base, has_create_on, in_flight, instances, is_attached}
pub use Rattle.fm_world.specs.Words.{is_below_cursor, is_candidate, is_completing, is_create, is_creating, is_detached, is_emptying_at, is_full, is_linked_of}
pub use Rattle.fm_world.specs.Words.{is_lower_at, is_mounted, is_on_stream, is_setup, is_stopping, is_to_visit, last_posted, last_visited, link_at, one}
pub use Rattle.fm_world.specs.Words.{open_of, operation_at, owed, owner_at, posted, released, told, updated, visited, without_first}
pub use Rattle.fm_world.specs.Workers.{AtComplete, AtQuery, AtRoutine, AtSetup, AtStart, InstanceCallback, after_attach, after_entering, after_next, cleanup_in, gives_nothing, is_at}
pub use Rattle.fm_world.specs.Workers.{is_idle, is_queried, put, routines_at, worker_at}
pub use Rattle.fm_world.specs.World.{World, carries, empty_stack, empty_world, reference_count}
pub use Rattle.fm_world.specs.declared.file.FileHandle.{FileHandle}
pub use Rattle.fm_world.specs.declared.file.FileObject.{FileObject}
pub use Rattle.fm_world.specs.declared.file.FileStream.{FileStream}
pub use Rattle.fm_world.specs.declared.file.HandlePhase.{HandlePhase}
pub use Rattle.fm_world.specs.declared.set_answer.SetAnswer.{SetAnswer}
pub use Rattle.fm_world.specs.declared.step.Step.{Step}
pub use Rattle.fm_world.specs.declared.step.StepReply.{StepReply}
pub use Rattle.fm_world.specs.declared.place.Place.{Place}
pub use Rattle.std.proofs.Common.{All, AllPairs, Bool, Err, IfOk, List, None, Ok, Option, Result, Some, [], ap, arith, cond, count_by, false, filter_map, find}
pub use Rattle.std.proofs.Common.{get_or, inl, inr, is_some, length, length-set, map, nat_le, nat_lt, not, option_and_then, option_map, refl, slice_get}
pub use Rattle.std.proofs.Common.{slice_set, subst, suc, sym, take, true, unwrap_or, zero, ℕ, ◌&&◌, ◌++◌, ◌+◌, ◌<◌, ◌==◌, ◌||◌, ◌∙◌, ◌∷◌, ◌≡◌, ◌≢◌, ◌≤◌, ◌⊎◌}
pub use Rattle.std.proofs.lemmas.Bool.{and_from, and_parts, and_right, cases_Bool, cases_eq, cases_order, eq-eqb, eqb-true, false≢true, leb-false, lt-ltb}
pub use Rattle.std.proofs.lemmas.Bool.{ltb-false, ltb-true, ne_eqb, or_left, or_parts, or_right, true≢false}
pub use Rattle.std.proofs.lemmas.Bool.Decides.{nat_tests}
pub use Rattle.std.proofs.lemmas.Grind.{common_steps}
pub use Rattle.std.proofs.lemmas.List.{append-nil, get_or-set_other, get_or-set_same, length-append, length-replicate, reverse-append, set-get_or, set-set}
pub use Rattle.std.proofs.lemmas.List.Elements.{All-cons, All-head, All-map, All-nil, All-push, All-tail, All-weaker, filter_map-append}
pub use Rattle.std.proofs.lemmas.List.Folds.{list_any-append}
pub use Rattle.std.proofs.lemmas.List.Quantifiers.{all_pairs_push}
pub use Rattle.std.proofs.lemmas.List.Sums.{sum_by-cons, sum_by-set, sum_by_push}
pub use Rattle.std.proofs.lemmas.Option.{get_or_from_slice_get, none-some, same_Some, slice_get-get_or, slice_get-map, slice_get_within}
pub use Rattle.std.specs.List.{cons_option, list_any}
