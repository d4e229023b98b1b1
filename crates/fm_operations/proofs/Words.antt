-- The words that the proofs share.
pub use Rattle.fm_callback_data.specs.Data.{Data, answered_data, change_passes, current_of, data_fits}
pub use Rattle.fm_callback_data.specs.declared.answer.Answer.{Answer}
pub use Rattle.fm_callback_data.specs.Calls.{BaseCall}
pub use Rattle.fm_callback_data.specs.declared.params.Params.{Params}
pub use Rattle.fm_callback_data.specs.declared.verdict.PostVerdict.{PostVerdict}
pub use Rattle.fm_operations.specs.Answered.{bare_answer, base_counted, handle_given}
pub use Rattle.fm_operations.specs.Counts.{drain_opens, is_due, is_running_drain, is_running_drain_of, opens}
pub use Rattle.fm_operations.specs.Entries.{answers, ask_at, ask_in, ask_of, asked, asks, drains, instances, is_answered, is_drained, is_open, is_post_open, is_pre_open}
pub use Rattle.fm_operations.specs.Entries.{last_place, last_posted, last_visited, one, place_of, owed, post_of, posted, settle, settle_drain, settle_post, settle_pre, times}
pub use Rattle.fm_operations.specs.Entries.{undrained, visit_of, visited, without}
pub use Rattle.fm_operations.specs.Noted.{IsNoted}
pub use Rattle.fm_operations.specs.Record.{FlowRecord}
pub use Rattle.fm_operations.specs.Sound.{HasItsDrain, HasPath, HasPlace, IsCourse, IsPlaced, IsSound, MadeAsAsked, after, answer_count, keeps_more, lends, slack, walk, way_of}
pub use Rattle.fm_operations.specs.Steps.{MayLieBelow, Turned, answer_after, ascend, bare_ask, base_after, base_fits, base_reply}
pub use Rattle.fm_operations.specs.Steps.{base_returned_of, call_base, call_post, call_pre, changed_from, changed_held, data_reply, descend, done_at, drain_returned_of}
pub use Rattle.fm_operations.specs.Steps.{give_post, is_done, kept_held, kept_of, left_answer, lent_answer, may_take, next_at, next_of, post_after}
pub use Rattle.fm_operations.specs.Steps.{post_entry, post_leads, post_returned_of, post_state, pre_after, pre_entry, pre_leads, pre_returned_of}
pub use Rattle.fm_operations.specs.Steps.{returned_answer, turn, unwound, unwound_to, with_base, with_drain, with_entry, with_visit, takes}
pub use Rattle.fm_operations.specs.Table.{FlowTable, IsFlow, MayLieBelowOf, StandsAt, begun, begun_record, change_first, changed, collect_reply}
pub use Rattle.fm_operations.specs.Table.{collected_in, collected_of, is_collectable, is_full, is_number, marked, operation_at, placed, removed, told}
pub use Rattle.fm_operations.specs.Table.{is_spent, total, under_way, without_first}
pub use Rattle.fm_operations.specs.Creates.{is_creating}
pub use Rattle.fm_operations.specs.Tallied.{IsAscending, IsTallied}
pub use Rattle.fm_operations.specs.declared.action.Below.{Below}
pub use Rattle.fm_operations.specs.declared.action.FlowAction.{FlowAction}
pub use Rattle.fm_operations.specs.declared.entry.Ask.{Ask}
pub use Rattle.fm_operations.specs.declared.entry.Entry.{Entry}
pub use Rattle.fm_operations.specs.declared.entry.Entry.TheVariants.{Base, Drain, Post, Pre}
pub use Rattle.fm_operations.specs.declared.entry.PostState.{PostState}
pub use Rattle.fm_operations.specs.declared.entry.PostVisit.{PostVisit}
pub use Rattle.fm_operations.specs.declared.entry.PreState.{PreState}
pub use Rattle.fm_operations.specs.declared.entry.PreVisit.{PreVisit}
pub use Rattle.fm_operations.specs.declared.stage.Stage.{Stage}
pub use Rattle.fm_operations.specs.declared.stage.Stage.TheVariants.{Ascending, Descending, InBase, InDrain, PostHeld, PostRunning, PreHeld}
pub use Rattle.fm_operations.specs.declared.stage.Stage.TheVariants.{PreRunning}
pub use Rattle.fm_types.proofs.Lists.{all_at, count_by-push}
pub use Rattle.fm_types.specs.declared.ids.CtxId.{CtxId}
pub use Rattle.fm_types.specs.declared.ids.HandleId.{HandleId}
pub use Rattle.fm_types.specs.declared.ids.InstanceId.{InstanceId}
pub use Rattle.fm_types.specs.declared.ids.WorkerId.{WorkerId}
pub use Rattle.fm_types.specs.declared.status.Status.{Status}
pub use Rattle.fm_types.specs.declared.status.Status.TheVariants.{WrongStep}
pub use Rattle.std.proofs.Common.{Bool, Err, List, None, Ok, Option, Some, [], ap, append-nil, ap₂, arith, cond, drop, false, filter, find}
pub use Rattle.std.proofs.Common.{get_or, inl, inr, length, map, not, option_map, option_to_list, refl, reverse, slice_get, subst, sym}
pub use Rattle.std.proofs.Common.{take, true, ℕ}
pub use Rattle.std.proofs.lemmas.Bool.{and_from, and_parts, cases_Bool, eq-eqb, false≢true}
pub use Rattle.std.proofs.lemmas.Bool.Decides.{nat_tests}
pub use Rattle.std.proofs.lemmas.Grind.{common_steps}
pub use Rattle.std.proofs.lemmas.List.{get_or_default, length-append, length-map, length-take, map-append, reverse-append, take_more}
pub use Rattle.std.proofs.lemmas.List.Elements.{All-append, All-cons, All-head, All-map, All-nil, All-push, All-tail, All-take, All-weaker}
pub use Rattle.std.proofs.lemmas.List.Elements.{filter-append, filter_agree, filter_map-append}
pub use Rattle.std.proofs.lemmas.Option.{none-some, same_Some}
pub use Rattle.std.specs.List.{cons_option, list_any}
pub use Rattle.std.specs.Prelude.{All, AllPairs, IfSome, count_by, nat_le, unwrap_or, ⊤}
