-- The words that the proofs share.
pub use Rattle.atomic_table.proofs.Lists.{at_map, set_again}
pub use Rattle.fm_rundown.specs.Counts.{Fits, IsCounted, NobodyHolds, is_closed, is_seen_drained, passes_of}
pub use Rattle.fm_rundown.specs.Kinds.{Kind, closed, closes, entered, enters, gained, is_closing_word, leaves, looks, lost, most_passes}
pub use Rattle.fm_rundown.specs.Kinds.{one_less, one_more, saw_closing, saw_drained, took_look, tried, undoes, undone}
pub use Rattle.fm_rundown.specs.Rule.{GateState, IsKept, Tells, column, most_seats}
pub use Rattle.fm_rundown.specs.Tables.{IsAt}
pub use Rattle.fm_rundown.specs.Views.{changed, fresh_seat, most_volumes, no_pass, one_made, volume_of}
pub use Rattle.fm_rundown.specs.declared.view.SeatView.{SeatView}
pub use Rattle.fm_rundown.specs.declared.view.VolumeView.{VolumeView}
pub use Rattle.std.proofs.lemmas.Bool.{cases_eq, cond-false, cond-true, cond_both, eq-eqb, eqb-true, false_from_ne_true, le-ltb, ltb-true}
pub use Rattle.std.proofs.lemmas.Bool.{ne_eqb, or_cases, or_from, or_left, or_right, true_from_ne_false, true≢false}
pub use Rattle.std.proofs.lemmas.List.{get_or-set_other, get_or-set_same, length-map, map-set, map_push, set-get_or, set-set, take_all}
pub use Rattle.std.proofs.lemmas.List.Sums.{get_or-le-sum_by, sum_by-cons, sum_by-le, sum_by-set, sum_by_push}
pub use lib.ListN.{get_elem?, length-append}
pub use mathlib.Core.Option.{some, some-injective, some-ne-none}
