-- The words that the proofs share.
pub use Rattle.fm_stack.specs.Events.{accept_row, accepted, attach_refusals, attached, finish_row, finished, has_altitude_on, has_name_on}
pub use Rattle.fm_stack.specs.Events.{is_emptying_at, is_setup_at, mount_refusals, mounted, new_filter, new_instance, new_volume}
pub use Rattle.fm_stack.specs.Events.{refuse_row, refused, register_refusals, registered}
pub use Rattle.fm_stack.specs.Dismounting.{is_on}
pub use Rattle.fm_stack.specs.Unloading.{is_of, stop_where}
pub use Rattle.fm_stack.specs.Follows.{Follows}
pub use Rattle.fm_stack.specs.Instances.{clashes, is_attached, is_completing, is_detached, is_emptying, is_live_on, is_lower, is_setup, is_stopping}
pub use Rattle.fm_stack.specs.Instances.{same_altitude, same_name}
pub use Rattle.fm_stack.specs.Instances.{is_lower_option, passes, registration_in}
pub use Rattle.fm_stack.specs.Next.{IsNextInstance, has_post_in, has_pre_in, is_below_cursor, is_candidate, is_registered, is_to_visit}
pub use Rattle.fm_stack.specs.Orders.{HasSeat, IsAbove, SitsOnce, IsKept, IsOrder, IsSeated, altitude_in, is_called_for, is_in_time, is_seat_of}
pub use Rattle.fm_stack.specs.Orders.{is_under, is_visited, place_behind, place_behind_at, place_behind_row, place_under}
pub use Rattle.fm_stack.specs.Orders.{instance_of, seat_passes, seats_at}
pub use Rattle.fm_stack.specs.StackWorld.{StackWorld}
pub use Rattle.fm_stack.specs.Stacks.{IsPlaced, IsStack}
pub use Rattle.fm_stack.specs.declared.filter.Filter.{Filter}
pub use Rattle.fm_stack.specs.declared.instance.Instance.{Instance}
pub use Rattle.fm_stack.specs.declared.instance.Phase.{Phase}
pub use Rattle.fm_stack.specs.declared.order.Seat.{Seat}
pub use Rattle.fm_types.proofs.Lists.{All-updated, all_at, all_from_slice_get, all_pairs_alike, all_pairs_from_slice_get, all_pairs_pushed}
pub use Rattle.fm_types.proofs.Lists.{count_by-push, pair_at, slice_get-push}
pub use Rattle.fm_types.specs.Masks.{has_operation}
pub use Rattle.fm_types.proofs.Lists.{count_by-updated, count_by_weaker, length-updated, set_is_updated, slice_get-append_left}
pub use Rattle.fm_types.proofs.Lists.{slice_get-kept, slice_get-push_cases, updated-other, updated-same, updated_cases}
pub use Rattle.fm_types.proofs.Refusals.{none_refuses}
pub use Rattle.fm_types.specs.Refusals.{first_of}
pub use Rattle.fm_types.specs.declared.ids.FilterId.{FilterId}
pub use Rattle.fm_types.specs.declared.ids.InstanceId.{InstanceId}
pub use Rattle.fm_types.specs.declared.ids.VolumeId.{VolumeId}
pub use Rattle.fm_types.specs.declared.operation.Operation.{Operation}
pub use Rattle.std.proofs.lemmas.Bool.{and_from, and_parts, cases_Bool, cases_eq, eq-eqb, false≢true, le-leb, leb-false, leb-true, lt-leb}
pub use Rattle.std.proofs.lemmas.Bool.{ltb-true, ne_eqb, or_parts}
pub use Rattle.std.proofs.lemmas.List.{length_push}
pub use Rattle.std.specs.Option.{option_map}
