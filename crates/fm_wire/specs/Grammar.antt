-- Which bytes are which frame.
use Rattle.std.specs.Prelude.{◌≡◌, ℕ, ◌<◌, ◌≤◌, ◌^◌, ◌⊎◌, List, ◌∷◌, ◌++◌, length, Result, Ok, Err}
use Rattle.fm_types.specs.Names.{IsName}
use Rattle.fm_types.specs.Paths.{IsPath}
use Rattle.fm_types.specs.Statuses.{number_of, information_of}
use Rattle.fm_types.specs.declared.status.Status.{Status}
use Rattle.fm_types.specs.declared.status.Status.TheVariants.{BadAltitude, BadName, BadPath, BadRequest}
use Rattle.fm_altitude.specs.Grammar.{IsAltitude, canonical}
use Rattle.fm_callback_data.specs.declared.request.FileRequest.{FileRequest}
use Rattle.fm_callback_data.specs.declared.request.FileRequest.TheVariants as file
use Rattle.fm_callback_data.specs.declared.request.Request.{Request}
use Rattle.fm_callback_data.specs.declared.request.Request.TheVariants as request
use Rattle.fm_callback_data.specs.declared.request.Reply.{Reply}
use Rattle.fm_callback_data.specs.declared.request.Reply.TheVariants as reply
use Rattle.fm_wire.specs.declared.frame.Control.{Control}
use Rattle.fm_wire.specs.declared.frame.Control.TheVariants as control
use Rattle.fm_wire.specs.declared.frame.Body.{Body}
use Rattle.fm_wire.specs.declared.frame.Body.TheVariants as body
use Rattle.fm_wire.specs.declared.frame.Frame.{Frame}
use Rattle.fm_wire.specs.Spelling.{bytes_of_u32, code_of, fields_of, body_of, framed}

-- ---- forms: each number fits its field, and no more bytes are read or written than operations may

abbrev pub FitsFile : FileRequest → Type 0
FitsFile (file.Read offset len) = (offset < 2 ^ 64) × (len < 2 ^ 32)
FitsFile (file.Write offset bytes) = offset < 2 ^ 64
FitsFile (file.SetSize size) = size < 2 ^ 64
FitsFile _ = Unit {0}

abbrev pub FitsRequest : Request → Type 0
FitsRequest (request.Create volume path mode) = volume.0 < 256
FitsRequest (request.List volume) = volume.0 < 256
FitsRequest (request.OnVolume volume major number) = volume.0 < 256
FitsRequest (request.OnHandle handle asked) = (handle.0 < 2 ^ 64) × FitsFile asked

abbrev pub FitsControl : Control → Type 0
FitsControl (control.Load name) = Unit {0}
FitsControl (control.Attach filter volume name altitude) = (filter.0 < 256) × (volume.0 < 256) × (length name < 256)
FitsControl (control.Detach instance) = instance.0 < 2 ^ 16
FitsControl (control.Unload filter) = filter.0 < 256
FitsControl (control.Dismount volume) = volume.0 < 256
FitsControl control.Stop = Unit {0}

abbrev pub FitsReply : Reply → Type 0
FitsReply (reply.Done status information bytes) = information < 2 ^ 64
FitsReply (reply.Held operation) = operation.0 < 2 ^ 64

-- the numbers fit their fields, as in a frame of the program's types they always do
abbrev pub Fits : Body → Type 0
Fits (body.Operation r) = FitsRequest r
Fits (body.Control c) = FitsControl c
Fits (body.Reply r) = FitsReply r
Fits (body.Refused status) = Unit {0}

-- a cleanup may not be said, since a close brings it, and no major function without a kind of its own
abbrev pub KeepsFileLimits : FileRequest → Type 0
KeepsFileLimits (file.Read offset len) = len ≤ 32768
KeepsFileLimits (file.Write offset bytes) = length bytes ≤ 32768
KeepsFileLimits file.Cleanup = ⊥
KeepsFileLimits (file.Other major number) = ⊥
KeepsFileLimits _ = Unit {0}

abbrev pub KeepsRequestLimits : Request → Type 0
KeepsRequestLimits (request.OnHandle handle asked) = KeepsFileLimits asked
KeepsRequestLimits (request.OnVolume volume major number) = ⊥
KeepsRequestLimits _ = Unit {0}

-- the information beside Busy is Busy's count
abbrev pub HasCount : Status → ℕ → Type 0
HasCount status information = number_of status ≡ 34 → information_of status ≡ information

abbrev pub KeepsReplyLimits : Reply → Type 0
KeepsReplyLimits (reply.Done status information bytes) = HasCount status information
KeepsReplyLimits (reply.Held operation) = Unit {0}

-- what is said may be said in a frame, which of a refused frame is nothing
abbrev pub KeepsLimits : Body → Type 0
KeepsLimits (body.Operation r) = KeepsRequestLimits r
KeepsLimits (body.Control c) = Unit {0}
KeepsLimits (body.Reply r) = KeepsReplyLimits r
KeepsLimits (body.Refused status) = ⊥

-- a code and a field text say that, whatever the texts in it are
pub record Says (code : ℕ) (fields : List ℕ) (said : Body) : Type 0 where
  pub code_is : code_of said ≡ code
  pub fields_are : fields_of said ≡ fields
  pub fits : Fits said
  pub limits : KeepsLimits said

-- ---- texts: a path, a name and an altitude are such, or else their readers refuse them; a name is read before an altitude

abbrev pub HasRequestTexts : Request → Type 0
HasRequestTexts (request.Create volume path mode) = IsPath path
HasRequestTexts _ = Unit {0}

abbrev pub HasControlTexts : Control → Type 0
HasControlTexts (control.Load name) = IsName name
HasControlTexts (control.Attach filter volume name altitude) = IsName name × IsAltitude altitude
HasControlTexts _ = Unit {0}

abbrev pub HasTexts : Body → Type 0
HasTexts (body.Operation r) = HasRequestTexts r
HasTexts (body.Control c) = HasControlTexts c
HasTexts _ = Unit {0}

abbrev pub RefusesRequestText : Request → Status → Type 0
RefusesRequestText (request.Create volume path mode) status = (status ≡ BadPath) × (IsPath path → ⊥)
RefusesRequestText _ status = ⊥

abbrev pub RefusesControlText : Control → Status → Type 0
RefusesControlText (control.Load name) status = (status ≡ BadName) × (IsName name → ⊥)
RefusesControlText (control.Attach filter volume name altitude) status =
    ((status ≡ BadName) × (IsName name → ⊥)) ⊎ ((status ≡ BadAltitude) × IsName name × (IsAltitude altitude → ⊥))
RefusesControlText _ status = ⊥

abbrev pub RefusesText : Body → Status → Type 0
RefusesText (body.Operation r) status = RefusesRequestText r status
RefusesText (body.Control c) status = RefusesControlText c status
RefusesText _ status = ⊥

-- an altitude is known by its canonical text
abbrev pub canonical_control : Control → Control
canonical_control (control.Attach filter volume name altitude) = control.Attach filter volume name (canonical altitude)
canonical_control c = c

abbrev pub canonical_body : Body → Body
canonical_body (body.Control c) = body.Control (canonical_control c)
canonical_body b = b

-- ---- reading

-- no form has that code and those fields
abbrev pub IsFormless : ℕ → List ℕ → Type 0
IsFormless code fields = (said : Body) → Says code fields said → ⊥

-- what a code and a field text are read as: what they say, with its altitude known by the canonical text; or why they are refused
abbrev pub Reading : ℕ → List ℕ → Result Body Status → Type 0
Reading code fields (Ok read) = (said : Body) × Says code fields said × HasTexts said × (read ≡ canonical_body said)
Reading code fields (Err status) = ((status ≡ BadRequest) × IsFormless code fields) ⊎ ((said : Body) × Says code fields said × RefusesText said status)

abbrev pub outcome_of : Body → Result Body Status
outcome_of (body.Refused status) = Err status
outcome_of b = Ok b

-- a body is read as a frame: a code, the frame's number, and a field text
pub record IsBody (bytes : List ℕ) (frame : Frame) : Type 0 where
  pub code : ℕ
  pub fields : List ℕ
  pub parts : bytes ≡ code ∷ bytes_of_u32 frame.number ++ fields
  pub number : frame.number < 2 ^ 32
  pub reading : Reading code fields (outcome_of frame.body)

-- how long bodies may be
abbrev pub IsBodyLength : ℕ → Type 0
IsBodyLength len = (5 ≤ len) × (len ≤ 33000)

-- the bytes are that frame: a body behind its length
pub record IsFrame (text : List ℕ) (frame : Frame) : Type 0 where
  pub bytes : List ℕ
  pub length_in_front : text ≡ framed bytes
  pub length_in_range : IsBodyLength (length bytes)
  pub body : IsBody bytes frame

-- a frame of the program's types has a spelling: it may be said, and is short enough
pub record IsSpelled (frame : Frame) : Type 0 where
  pub limits : KeepsLimits frame.body
  pub short : length (body_of frame) ≤ 33000

-- no bytes are that frame, unless it is a refused one, which is read from bytes that say nothing
abbrev pub HasNoBytes : Frame → Type 0
HasNoBytes frame = (text : List ℕ) → IsFrame text frame → (status : Status) × (frame.body ≡ body.Refused status)
