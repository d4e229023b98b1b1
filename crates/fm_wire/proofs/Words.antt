-- The words that the proofs share.
pub use Rattle.fm_callback_data.specs.declared.request.Request.{Request}
pub use Rattle.fm_types.specs.Statuses.{information_of, number_of}
pub use Rattle.fm_types.specs.declared.operation.CreateMode.{CreateMode}
pub use Rattle.fm_types.specs.declared.operation.CreateMode.TheVariants.{Always, Existing, New}
pub use Rattle.fm_types.specs.declared.status.Status.{Status}
pub use Rattle.fm_wire.specs.Spelling.{body_of, bytes_of_u16, bytes_of_u32, bytes_of_u64, code_of, control_code, control_fields, fields_of, file_code, file_fields}
pub use Rattle.fm_wire.specs.Spelling.{framed, mode_number, reply_code, reply_fields, request_code, request_fields, spelling_of}
pub use Rattle.fm_wire.specs.Stream.{Begins, IsFault, IsPartial, Splits}
pub use Rattle.fm_wire.specs.declared.frame.Body.{Body}
pub use Rattle.fm_wire.specs.declared.frame.Body.TheVariants.{Control, Operation, Reply}
pub use Rattle.fm_wire.specs.declared.frame.Frame.{Frame}
pub use Rattle.std.proofs.Common.{Bool, Err, Fits, Fits-lit, IsTrue, List, Ok, Result, [], ap, append_assoc, arith, cond, drop, false}
pub use Rattle.std.proofs.Common.{get_or, inl, inr, length, length-append, refl, sym, take, true, w8, ℕ}
pub use Rattle.std.proofs.lemmas.List.{append-nil, drop_at, get_or-take, get_or_past, length-take, nil_from_length, take-append-drop}
pub use Rattle.std.specs.Int.{from_be_bytes, to_be_bytes, w16, w32, w64}
