-- How frames are spelled: the table of codes and fields.
use Rattle.std.specs.Prelude.{ℕ, List, [], ◌∷◌, ◌++◌, length}
use Rattle.std.specs.Int.{w16, w32, w64, to_be_bytes}
use Rattle.fm_types.specs.Statuses.{number_of}
use Rattle.fm_types.specs.declared.operation.CreateMode.{CreateMode}
use Rattle.fm_types.specs.declared.operation.CreateMode.TheVariants.{Existing, New, Always}
use Rattle.fm_callback_data.specs.declared.request.FileRequest.{FileRequest}
use Rattle.fm_callback_data.specs.declared.request.FileRequest.TheVariants as file
use Rattle.fm_callback_data.specs.declared.request.Request.{Request}
use Rattle.fm_callback_data.specs.declared.request.Request.TheVariants as request
use Rattle.fm_callback_data.specs.declared.request.Reply.{Reply}
use Rattle.fm_callback_data.specs.declared.request.Reply.TheVariants as reply
use Rattle.fm_wire.specs.declared.frame.Control.{Control}
use Rattle.fm_wire.specs.declared.frame.Control.TheVariants as control
use Rattle.fm_wire.specs.declared.frame.Body.{Body}
use Rattle.fm_wire.specs.declared.frame.Body.TheVariants as body
use Rattle.fm_wire.specs.declared.frame.Frame.{Frame}

-- a number in two, four or eight bytes, the highest byte first
unfoldable pub bytes_of_u16 : ℕ → List ℕ
bytes_of_u16 n = to_be_bytes w16 n

unfoldable pub bytes_of_u32 : ℕ → List ℕ
bytes_of_u32 n = to_be_bytes w32 n

unfoldable pub bytes_of_u64 : ℕ → List ℕ
bytes_of_u64 n = to_be_bytes w64 n

abbrev pub mode_number : CreateMode → ℕ
mode_number Existing = 0
mode_number New = 1
mode_number Always = 2

-- what is asked of a handle: its code, which a cleanup and a major function without a kind of its own have none of, and the fields behind the handle
abbrev pub file_code : FileRequest → ℕ
file_code (file.Read offset len) = 2
file_code (file.Write offset bytes) = 3
file_code file.QuerySize = 4
file_code (file.SetSize size) = 5
file_code file.Flush = 6
file_code file.SetDelete = 8
file_code file.Close = 9
file_code file.Restore = 10
file_code file.Cleanup = 0
file_code (file.Other major number) = 0

abbrev pub file_fields : FileRequest → List ℕ
file_fields (file.Read offset len) = bytes_of_u64 offset ++ bytes_of_u32 len
file_fields (file.Write offset bytes) = bytes_of_u64 offset ++ bytes
file_fields (file.SetSize size) = bytes_of_u64 size
file_fields _ = []

abbrev pub request_code : Request → ℕ
request_code (request.Create volume path mode) = 1
request_code (request.List volume) = 7
request_code (request.OnVolume volume major number) = 0
request_code (request.OnHandle handle asked) = file_code asked

abbrev pub request_fields : Request → List ℕ
request_fields (request.Create volume path mode) = volume.0 ∷ mode_number mode ∷ path
request_fields (request.List volume) = volume.0 ∷ []
request_fields (request.OnVolume volume major number) = volume.0 ∷ []
request_fields (request.OnHandle handle asked) = bytes_of_u64 handle.0 ++ file_fields asked

abbrev pub control_code : Control → ℕ
control_code (control.Load name) = 16
control_code (control.Attach filter volume name altitude) = 17
control_code (control.Detach instance) = 18
control_code (control.Unload filter) = 19
control_code (control.Dismount volume) = 20
control_code control.Stop = 21

abbrev pub control_fields : Control → List ℕ
control_fields (control.Load name) = name
control_fields (control.Attach filter volume name altitude) = filter.0 ∷ volume.0 ∷ length name ∷ name ++ altitude
control_fields (control.Detach instance) = bytes_of_u16 instance.0
control_fields (control.Unload filter) = filter.0 ∷ []
control_fields (control.Dismount volume) = volume.0 ∷ []
control_fields control.Stop = []

abbrev pub reply_code : Reply → ℕ
reply_code (reply.Done status information bytes) = 128
reply_code (reply.Held operation) = 129

abbrev pub reply_fields : Reply → List ℕ
reply_fields (reply.Done status information bytes) = number_of status ∷ bytes_of_u64 information ++ bytes
reply_fields (reply.Held operation) = bytes_of_u64 operation.0

-- the code of what a frame says; a refused frame says nothing, and has none
abbrev pub code_of : Body → ℕ
code_of (body.Operation r) = request_code r
code_of (body.Control c) = control_code c
code_of (body.Reply r) = reply_code r
code_of (body.Refused status) = 0

-- and its fields
abbrev pub fields_of : Body → List ℕ
fields_of (body.Operation r) = request_fields r
fields_of (body.Control c) = control_fields c
fields_of (body.Reply r) = reply_fields r
fields_of (body.Refused status) = []

-- a frame's body: its code, its number and its fields
abbrev pub body_of : Frame → List ℕ
body_of frame = code_of frame.body ∷ bytes_of_u32 frame.number ++ fields_of frame.body

-- a body behind its length
abbrev pub framed : List ℕ → List ℕ
framed bytes = bytes_of_u32 (length bytes) ++ bytes

-- the whole of a frame
abbrev pub spelling_of : Frame → List ℕ
spelling_of frame = framed (body_of frame)
