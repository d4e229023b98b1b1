-- The words that the proofs share.
pub use Rattle.fm_ctx.specs.Bags.{cleaning_of, cleans, hand_of, is_id, one}
unfoldable pub use Rattle.fm_ctx.specs.Bags.{held, holds, places, references, without}
pub use Rattle.fm_ctx.specs.Births.{IsNew, kept_allocated, new_slot, placed}
unfoldable pub use Rattle.fm_ctx.specs.Births.{is_out_of_slots}
pub use Rattle.fm_ctx.specs.Bodies.{body_at, rewritten, with_body, with_number}
pub use Rattle.fm_ctx.specs.Cleanup.{after_take_due, cleaned, emptied, taken_due, taken_of}
pub use Rattle.fm_ctx.specs.Counting.{born, was_given}
pub use Rattle.fm_ctx.specs.Kept.{ContextsKept, carried_fewer, carried_more, carried_none}
unfoldable pub use Rattle.fm_ctx.specs.Kept.{carried_of}
pub use Rattle.fm_ctx.specs.Laws.{IsLawful, has_link, links}
pub use Rattle.fm_ctx.specs.Links.{IsFree, delete_after, id_at, linked, set_after, unlinked, unlinked_for, unlinked_into, with_link}
unfoldable pub use Rattle.fm_ctx.specs.Links.{holder}
pub use Rattle.fm_ctx.specs.Objects.{same_object, same_owner}
pub use Rattle.fm_ctx.specs.References.{due_after, grabbed, handed_on, released}
pub use Rattle.fm_ctx.specs.Rows.{IsFresh, IsPut, life_of, lives_of, put_row}
pub use Rattle.fm_ctx.specs.Rows.{IsIndexed, IsSound, brought_back, carried_away, carried_in, cleaned_row, context_of, count_of_row}
pub use Rattle.fm_ctx.specs.Rows.{kept_in, linked_row, lowered, raised, row_in, row_with, seat_in, seats_of, slot_of, slots_of, stored, unlinked_row}
unfoldable pub use Rattle.fm_ctx.specs.Rows.{row_at}
pub use Rattle.fm_ctx.specs.Seats.{IsAbove, IsChained, chain_of, end_of, is_on, is_seat, stands}
unfoldable pub use Rattle.fm_ctx.specs.Seats.{last_below}
pub use Rattle.fm_ctx.specs.Settling.{Leaves, Settles, Sweeps, newly, swept_slot}
pub use Rattle.fm_ctx.specs.Sweep.{context_of_slot, link_test, passes}
pub use Rattle.fm_ctx.specs.Table.{Context, ContextTable, Slot, change_context, changed_slot, context_in, count_in, link_at, link_count}
unfoldable pub use Rattle.fm_ctx.specs.Table.{context_at}
pub use Rattle.fm_ctx.specs.declared.object.Object.{Object}
pub use Rattle.fm_ctx.specs.declared.owner.Owner.{Owner}
pub use Rattle.fm_ctx.specs.Rows.{IsOpenAt, Row}
pub use Rattle.fm_ctx.specs.declared.seat.Seat.{Seat}
pub use Rattle.fm_ctx.specs.declared.tally.Tally.{Tally}
pub use Rattle.fm_ctx.specs.declared.set_reply.SetMode.{SetMode}
pub use Rattle.fm_types.proofs.Lists.{count_by-updated, length-updated, set_is_updated, slice_get-append_left, slice_get-push, slice_get-some}
pub use Rattle.fm_types.proofs.Lists.{updated-other, updated-same}
pub use Rattle.fm_types.specs.Lists.{updated}
pub use Rattle.fm_types.specs.declared.ids.CtxId.{CtxId}
pub use Rattle.std.proofs.Common.{All, Bool, IfSome, List, None, Option, Some, [], ap, append-nil, ap₂, arith, cond, count_by, deque_capacity, eq-eqb}
pub use Rattle.std.proofs.Common.{eqb, eqb-true, false, get_or, inl, inr, is_none, is_some, le-ltb, length, length-append, length-set, lit≤, lt-ltb}
pub use Rattle.std.proofs.Common.{ltb, map, ne_eqb, option_and_then, option_map, position, refl, remove, replicate, set, slice_get, subst, suc, sym}
pub use Rattle.std.proofs.Common.{true, unwrap_or, zero, ℕ}
pub use Rattle.std.proofs.lemmas.Bool.{and_parts, cases_Bool, cases_eq, cases_lt, cases_order, true≢false}
pub use Rattle.std.proofs.lemmas.Bool.Decides.{nat_tests}
pub use Rattle.std.proofs.lemmas.List.{get_or-set_same, get_or_default, length-map, length-replicate, map_push}
pub use Rattle.std.proofs.lemmas.List.Elements.{All-set}
pub use Rattle.std.proofs.lemmas.List.Sums.{count_by-le-length, get_or-le-sum_by, sum_by-cons, sum_by-set}
pub use Rattle.std.proofs.lemmas.Option.{get_or_from_slice_get, none-some, same_Some, slice_get-map, slice_get_past, slice_get_within}
pub use Rattle.std.proofs.lemmas.Option.{unwrap_or-slice_get}
pub use Rattle.std.specs.List.{position_or_len}
