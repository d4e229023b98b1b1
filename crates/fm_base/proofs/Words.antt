-- The words that the proofs share.
pub use Rattle.fm_base.specs.Answers.{Makes, MakesKnown, Tells, TellsKnown}
pub use Rattle.fm_base.specs.Folders.{Folder, bytes_from, change_at, changed, create_at, created, listed, listing_of, presence_of, size_of, tell_at}
pub use Rattle.fm_base.specs.Folders.{told, unlink_at, unlinked}
pub use Rattle.fm_base.specs.Pages.{Cuts, HasRoom, IsZeroFrom, NoneShorter, Overwrites, Pages, SameBytes, byte_at, byte_in, contents, page_of}
pub use Rattle.fm_base.specs.Stored.{Entries, folder_of}
pub use Rattle.fm_types.specs.ByteLists.{resized, written}
pub use Rattle.fm_types.specs.declared.status.Status.{Status}
pub use Rattle.fm_types.specs.declared.status.Status.TheVariants.{AlreadyExists, DeviceFault, FileNotFound, NoMemory, TooMany}
pub use Rattle.std.proofs.Common.{ap, arith, inl, inr, length-append, length-drop, refl, sym}
pub use Rattle.std.proofs.lemmas.Bool.{cases_eq, cases_lt, cond-false, cond-true, eq-eqb, le-ltb, lt-leb, lt-ltb, ne_eqb}
pub use Rattle.std.proofs.lemmas.List.{get_or-append_right, get_or-drop, get_or-replicate, get_or-take, get_or_append_left, get_or_past}
pub use Rattle.std.proofs.lemmas.List.{length-replicate, length-take}
pub use Rattle.std.specs.BTreeMap.{get_by, is_at, keys}
pub use Rattle.std.specs.Cmp.{eq_by_cmp_equiv}
pub use Rattle.std.specs.Cmp.Lexicographic.{nat_list_cmp_total, slice_cmp}
pub use Rattle.std.specs.FinMap.{empty, entries, entries-insert, find, get, get-from_entries, get-insert, get-remove, insert, len-empty, len-entries}
pub use Rattle.std.specs.FinMap.{nat_cmp-IsAntisymmetric, put, remove, same_map, slice_cmp-IsAntisymmetric}
pub use Rattle.std.specs.List.{range_with_len}
pub use Rattle.std.specs.Map.{keys_of, lookup, set_value}
pub use Rattle.std.specs.Ordering.{nat_cmp}
pub use Rattle.std.specs.Prelude.{Err, IsSome, List, None, Ok, Option, Result, Some, [], cond, drop, false, get_or, length, map, max, min, nat_lt}
pub use Rattle.std.specs.Prelude.{replicate, suc, take, true, ℕ}
