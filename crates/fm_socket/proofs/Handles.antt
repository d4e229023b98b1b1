-- What a refusal makes of a connection's handles: nothing, whatever was asked.
use Rattle.std.proofs.Common.{◌≡◌, ◌≢◌, ℕ, Bool, true, false, List, MatchBool, inl}
use Rattle.fm_callback_data.specs.declared.request.Request.{Request}
use Rattle.fm_callback_data.specs.declared.request.Request.TheVariants as request
use Rattle.fm_types.specs.declared.ids.HandleId.{HandleId}
use Rattle.fm_types.specs.declared.status.Status.{Status}
use Rattle.fm_types.specs.declared.status.Status.TheVariants.{Success}
use Rattle.fm_socket.specs.Answering.{EndsHandle, HandlesAfter, is_close}

on_handle : (closes : Bool) (handle : HandleId) (status : Status) (old new : List HandleId) → status ≢ Success → new ≡ old
    → MatchBool closes (EndsHandle handle status old new) (new ≡ old)
on_handle true handle status old new refused same = record { closed = λ is. absurd (refused is); refused = λ _. inl same }
on_handle false handle status old new refused same = same

pub refused_keeps : (asked : Request) (status : Status) (information : ℕ) (old new : List HandleId) → status ≢ Success → new ≡ old
    → HandlesAfter asked status information old new
refused_keeps (request.Create volume path mode) status information old new refused same = record { opened = λ is. absurd (refused is); refused = λ _. same }
refused_keeps (request.OnHandle handle what) status information old new refused same = on_handle (is_close what) handle status old new refused same
refused_keeps (request.List volume) status information old new refused same = same
refused_keeps (request.OnVolume volume major number) status information old new refused same = same
