-- What a server answers to frames, and what it sends.
use Rattle.std.specs.Prelude.{◌≡◌, ◌⊎◌, ℕ, Bool, true, false, List, [], ◌∷◌, ◌++◌}
use Rattle.fm_types.specs.Statuses.{information_of}
use Rattle.fm_types.specs.declared.status.Status.{Status}
use Rattle.fm_types.specs.declared.status.Status.TheVariants.{BadRequest}
use Rattle.fm_callback_data.specs.declared.request.Request.{Request}
use Rattle.fm_callback_data.specs.declared.request.Reply.{Reply}
use Rattle.fm_callback_data.specs.declared.request.Reply.TheVariants as reply
use Rattle.fm_wire.specs.declared.frame.Control.{Control}
use Rattle.fm_wire.specs.declared.frame.Control.TheVariants as control
use Rattle.fm_wire.specs.declared.frame.Body.{Body}
use Rattle.fm_wire.specs.declared.frame.Body.TheVariants as body
use Rattle.fm_wire.specs.declared.frame.Frame.{Frame}
use Rattle.fm_wire.specs.Grammar.{IsSpelled}
use Rattle.fm_wire.specs.Spelling.{spelling_of}

-- a status alone; of Busy its count goes out as the information
abbrev pub status_reply : Status → Reply
status_reply status = reply.Done status (information_of status) []

-- a reply under the number of its request
abbrev pub replied : ℕ → Reply → Frame
replied number said = record { number = number; body = body.Reply said }

abbrev pub bare_reply : ℕ → Status → Frame
bare_reply number status = replied number (status_reply status)

abbrev pub is_stop : Body → Bool
is_stop (body.Control control.Stop) = true
is_stop _ = false

-- what goes out for an answer: its one spelling; or if it has none, 32 under the request's number
abbrev pub Sends : ℕ → Frame → List ℕ → Type 0
Sends number answer text =
    (IsSpelled answer × (text ≡ spelling_of answer)) ⊎ ((IsSpelled answer → ⊥) × (text ≡ spelling_of (bare_reply number BadRequest)))

-- part stands in front of text
abbrev pub IsPrefix : List ℕ → List ℕ → Type 0
IsPrefix part text = (more : List ℕ) × (part ++ more ≡ text)

abbrev pub NoneStops : List Frame → Type 0
NoneStops [] = Unit {0}
NoneStops (frame ∷ frames) = (is_stop frame.body ≡ false) × NoneStops frames

-- what answers operations and controls answers a frame by the one that it asks for, under its number
module _ {S : Type 0} (operates : S → Request → Reply → S → Type 0) (controls : S → Control → Reply → S → Type 0) where
  abbrev pub SaysBody : S → Body → Reply → S → Type 0
  SaysBody old (body.Operation request) said new = operates old request said new
  SaysBody old (body.Control control) said new = controls old control said new
  SaysBody old _ said new = ⊥

  abbrev pub Says : S → Frame → Frame → S → Type 0
  Says old frame answer new = (said : Reply) × SaysBody old frame.body said new × (answer ≡ replied frame.number said)

-- what answers frames
module _ {S : Type 0} (answers : S → Frame → Frame → S → Type 0) where
  -- a refused frame is answered with its status, and one that only a server sends with 32; all others are answered by what answers
  abbrev pub AnswersBody : S → ℕ → Body → Frame → S → Type 0
  AnswersBody old number (body.Refused status) answer new = (answer ≡ bare_reply number status) × (new ≡ old)
  AnswersBody old number (body.Reply r) answer new = (answer ≡ bare_reply number BadRequest) × (new ≡ old)
  AnswersBody old number (body.Operation r) answer new = answers old (record { number = number; body = body.Operation r }) answer new
  AnswersBody old number (body.Control c) answer new = answers old (record { number = number; body = body.Control c }) answer new

  abbrev pub AnswersTo : S → Frame → Frame → S → Type 0
  AnswersTo old frame answer new = AnswersBody old frame.number frame.body answer new

  -- the frame was answered, and that text is what goes out for it
  abbrev pub RepliesTo : S → Frame → List ℕ → S → Type 0
  RepliesTo old frame text new = (answer : Frame) × AnswersTo old frame answer new × Sends frame.number answer text

  -- the frames were answered one after the other, and the output is what goes out for them, in order and with nothing else
  abbrev pub RepliesAll : S → List Frame → List ℕ → S → Type 0
  RepliesAll old [] output new = (output ≡ []) × (new ≡ old)
  RepliesAll old (frame ∷ frames) output new =
      (text : List ℕ) × (more : List ℕ) × (mid : S) × RepliesTo old frame text mid × RepliesAll mid frames more new × (output ≡ text ++ more)

  -- none of them was a Stop
  pub record Answered (old : S) (frames : List Frame) (output : List ℕ) (new : S) : Type 0 where
    pub replies : RepliesAll old frames output new
    pub none_stops : NoneStops frames
