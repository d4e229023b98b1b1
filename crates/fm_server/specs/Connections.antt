-- A connection that is being served: what was read and sent so far.
use Rattle.std.specs.Prelude.{◌≡◌, ◌≢◌, ◌<◌, ◌≤◌, ℕ, false, true, List, [], ◌++◌, Option, Some, None, Result, Ok, Err, MatchResult, length, take}
use Rattle.std.specs.Io.KnownBytes.{Appends, Consumes, IsAtEnd}
use Rattle.fm_wire.specs.declared.frame.Frame.{Frame}
use Rattle.fm_wire.specs.Stream.{IsPartial, Keeps, Splits}
use Rattle.fm_server.specs.Replies.{Answered, AnswersTo, IsPrefix, RepliesTo, Sends, is_stop}
use Rattle.fm_server.specs.Serving.{IsLast, Leaves, Serves, Until, fault_text}
use Rattle.fm_server.specs.declared.got.Got.{Got}
use Rattle.fm_server.specs.declared.got.Got.TheVariants.{Piece, End, Fault}
use Rattle.fm_server.specs.declared.serve_end.ServeEnd.{ServeEnd}
use Rattle.fm_server.specs.declared.serve_end.ServeEnd.TheVariants.{BadFrame, Ended, NoMemory, Stopped, Truncated, WriteFault}

-- what was sent of a text, if all went well, and if not
abbrev pub SendsText : Result (Unit {0}) ServeEnd → List ℕ → List ℕ → Type 0
SendsText (Ok _) text output = output ≡ text
SendsText (Err WriteFault) text output = IsPrefix output text
SendsText (Err _) text output = ⊥

-- what holds once all that a sink was given was handed on holds at this end if it held before, unless the sink failed
abbrev pub HandsOnAt : ServeEnd → Type 0 → Type 0 → Type 0
HandsOnAt WriteFault old new = Unit {0}
HandsOnAt _ old new = old → new

abbrev pub HandsOn : Result (Unit {0}) ServeEnd → Type 0 → Type 0 → Type 0
HandsOn (Ok _) old new = old → new
HandsOn (Err end) old new = HandsOnAt end old new

-- the answer to a request was sent
abbrev pub SendsAnswer : Result (Unit {0}) ServeEnd → ℕ → Frame → List ℕ → Type 0
SendsAnswer (Err NoMemory) number answer output = output ≡ []
SendsAnswer result number answer output = (text : List ℕ) × Sends number answer text × SendsText result text output

-- a frame fault was answered
abbrev pub TellsFault : ServeEnd → List ℕ → Type 0
TellsFault BadFrame output = output ≡ fault_text
TellsFault WriteFault output = IsPrefix output fault_text
TellsFault NoMemory output = output ≡ []
TellsFault _ output = ⊥

-- the fault that a decoder met was answered; nothing was sent if it met none
abbrev pub TellsBehind : Result (Unit {0}) ServeEnd → Option (List ℕ) → List ℕ → Type 0
TellsBehind (Ok _) decoder output = (decoder ≢ None) × (output ≡ [])
TellsBehind (Err end) decoder output = (decoder ≡ None) × TellsFault end output

-- serving may end so at a piece; the others are ends at a read
abbrev pub EndsPiece : ServeEnd → Type 0
EndsPiece BadFrame = Unit {0}
EndsPiece WriteFault = Unit {0}
EndsPiece NoMemory = Unit {0}
EndsPiece Stopped = Unit {0}
EndsPiece _ = ⊥

-- at the end of the input: whether the decoder holds part of a frame
abbrev pub LastEnd : Option (List ℕ) → ServeEnd → Type 0
LastEnd (Some held) Ended = held ≡ []
LastEnd (Some held) Truncated = held ≢ []
LastEnd (Some held) _ = ⊥
LastEnd None end = IsLast end

-- what a read gave: bytes in front of the buffer, the end, or a fault
abbrev pub Receives : Got → Option (List ℕ) → Option (List ℕ) → List ℕ → Type 0
Receives (Piece count) old new buffer = (0 < count) × (count ≤ length buffer) × Consumes old new (take count buffer)
Receives End old new buffer = Consumes old new [] × IsAtEnd new
Receives Fault old new buffer = Consumes old new []

module _ {S : Type 0} (answers : S → Frame → Frame → S → Type 0) where
  -- one frame was answered, and the answer sent
  abbrev pub Does : Result (Unit {0}) ServeEnd → S → Frame → List ℕ → S → Type 0
  Does (Ok _) old frame output new = RepliesTo answers old frame output new × (is_stop frame.body ≡ false)
  Does (Err Stopped) old frame output new = RepliesTo answers old frame output new × (is_stop frame.body ≡ true)
  Does (Err WriteFault) old frame output new = (text : List ℕ) × RepliesTo answers old frame text new × IsPrefix output text
  Does (Err NoMemory) old frame output new = (output ≡ []) × (answer : Frame) × AnswersTo answers old frame answer new
  Does (Err _) old frame output new = ⊥

  -- frames were answered, and the answers sent
  abbrev pub DoesAll : Result (Unit {0}) ServeEnd → S → List Frame → List ℕ → S → Type 0
  DoesAll (Ok _) old frames output new = Answered answers old frames output new
  DoesAll (Err end) old frames output new = Until answers end old frames output new

  -- all frames that were read are answered, and the decoder keeps the rest
  pub record Stands (first : S) (decoder : Option (List ℕ)) (input output : List ℕ) (now : S) : Type 0 where
    pub frames : List Frame
    pub rest : List ℕ
    pub splits : Splits input frames rest
    pub keeps : Keeps decoder rest
    pub answered : Answered answers first frames output now

  -- the connection stands after a piece, or serving ended
  abbrev pub Takes : Result (Unit {0}) ServeEnd → S → Option (List ℕ) → List ℕ → List ℕ → S → Type 0
  Takes (Ok _) first decoder input output now = Stands first decoder input output now
  Takes (Err end) first decoder input output now = EndsPiece end × Serves answers end first input output now

  -- the same, with less than a frame left
  abbrev pub TakesWhole : Result (Unit {0}) ServeEnd → S → Option (List ℕ) → List ℕ → List ℕ → S → Type 0
  TakesWhole (Ok _) first decoder input output now = (stands : Stands first decoder input output now) × IsPartial stands.rest
  TakesWhole (Err end) first decoder input output now = EndsPiece end × Serves answers end first input output now

  -- it waits for more: less than a frame is held
  pub record Waits (first : S) (read_old written_old : Option (List ℕ)) (decoder read_now written_now : Option (List ℕ)) (now : S) : Type 0 where
    pub input : List ℕ
    pub output : List ℕ
    pub frames : List Frame
    pub rest : List ℕ
    pub read : Consumes read_old read_now input
    pub written : Appends written_old written_now output
    pub splits : Splits input frames rest
    pub held : decoder ≡ Some rest
    pub partial : IsPartial rest
    pub answered : Answered answers first frames output now

  -- it waits for more, or serving ended
  abbrev pub Goes : Result (Unit {0}) ServeEnd → S → Option (List ℕ) → Option (List ℕ) → Option (List ℕ) → Option (List ℕ) → Option (List ℕ) → S → Type 0
  Goes (Ok _) first read_old written_old decoder read_now written_now now = Waits first read_old written_old decoder read_now written_now now
  Goes (Err end) first read_old written_old decoder read_now written_now now = Leaves answers end read_old written_old first read_now written_now now

  -- ---- of any connection that stood, or waited, so far

  -- a piece is taken in, and what is sent of the answers to its frames is appended
  abbrev pub TakesPiece : Result (Unit {0}) ServeEnd → List ℕ → Option (List ℕ) → S → Option (List ℕ) → S → Option (List ℕ) → Option (List ℕ) → Type 0
  TakesPiece result piece decoder_old old decoder_new new written_old written_new =
      (first : S) (input before : List ℕ) → Stands first decoder_old input before old
      → (output : List ℕ) × Appends written_old written_new output × Takes result first decoder_new (input ++ piece) (before ++ output) new

  -- the same, with less than a frame left behind it
  abbrev pub TakesAll : Result (Unit {0}) ServeEnd → List ℕ → Option (List ℕ) → S → Option (List ℕ) → S → Option (List ℕ) → Option (List ℕ) → Type 0
  TakesAll result piece decoder_old old decoder_new new written_old written_new =
      (first : S) (input before : List ℕ) → Stands first decoder_old input before old
      → (output : List ℕ) × Appends written_old written_new output × TakesWhole result first decoder_new (input ++ piece) (before ++ output) new

  -- one read, and what comes of it
  abbrev pub GoesOn : Result (Unit {0}) ServeEnd → Option (List ℕ) → Option (List ℕ) → Option (List ℕ) → S
      → Option (List ℕ) → Option (List ℕ) → Option (List ℕ) → S → Type 0
  GoesOn result decoder_old read_old written_old old decoder_new read_new written_new new =
      (first : S) (read written : Option (List ℕ)) → Waits first read written decoder_old read_old written_old old
      → Goes result first read written decoder_new read_new written_new new

  -- reads until serving ends
  abbrev pub LeavesAt : ServeEnd → Option (List ℕ) → Option (List ℕ) → Option (List ℕ) → S → Option (List ℕ) → Option (List ℕ) → S → Type 0
  LeavesAt end decoder_old read_old written_old old read_new written_new new =
      (first : S) (read written : Option (List ℕ)) → Waits first read written decoder_old read_old written_old old
      → Leaves answers end read written first read_new written_new new

-- a sink took that many bytes from the front of a text, or failed and took none
abbrev pub AppendsFront : {E : Type 0} → Result ℕ E → List ℕ → Option (List ℕ) → Option (List ℕ) → Type 0
AppendsFront result text old new = MatchResult result (λ count. Appends old new (take count text)) (λ _. Appends old new [])

-- what a sink took is such a text
abbrev pub AppendsSuch : Option (List ℕ) → Option (List ℕ) → (List ℕ → Type 0) → Type 0
AppendsSuch old new IsSuch = (output : List ℕ) × Appends old new output × IsSuch output
