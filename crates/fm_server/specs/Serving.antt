-- What serving one connection comes to, for each of its ends.
use Rattle.std.specs.Prelude.{◌≡◌, ◌≢◌, ◌⊎◌, ℕ, true, List, [], ◌∷◌, ◌++◌, Option}
use Rattle.std.specs.Io.KnownBytes.{Appends, Consumes, IsAtEnd}
use Rattle.fm_types.specs.declared.status.Status.TheVariants.{BadRequest}
use Rattle.fm_wire.specs.declared.frame.Frame.{Frame}
use Rattle.fm_wire.specs.Spelling.{spelling_of}
use Rattle.fm_wire.specs.Stream.{Begins, IsFault, IsPartial, Splits}
use Rattle.fm_server.specs.Replies.{Answered, AnswersTo, IsPrefix, RepliesTo, bare_reply, is_stop}
use Rattle.fm_server.specs.declared.serve_end.ServeEnd.{ServeEnd}
use Rattle.fm_server.specs.declared.serve_end.ServeEnd.TheVariants.{Ended, Truncated, BadFrame, ReadFault, WriteFault, NoMemory, Stopped}

-- what a frame fault is answered with
abbrev pub fault_text : List ℕ
fault_text = spelling_of (bare_reply 0 BadRequest)

-- the input was read to its end
abbrev pub IsLast : ServeEnd → Type 0
IsLast Ended = Unit {0}
IsLast Truncated = Unit {0}
IsLast _ = ⊥

module _ {S : Type 0} (answers : S → Frame → Frame → S → Type 0) where
  -- the first of the frames may have been answered, with nothing sent
  abbrev pub MayAnswer : S → List Frame → S → Type 0
  MayAnswer old [] new = new ≡ old
  MayAnswer old (frame ∷ left) new = (answer : Frame) × AnswersTo answers old frame answer new

  -- the reply to one frame is the last that was sent, and that frame is the first that is a Stop
  pub record StopsAt (old : S) (frames : List Frame) (output : List ℕ) (new : S) : Type 0 where
    pub before : List Frame
    pub stop : Frame
    pub left : List Frame
    pub told : List ℕ
    pub last : List ℕ
    pub mid : S
    pub parts : frames ≡ before ++ stop ∷ left
    pub answered : Answered answers old before told mid
    pub replies : RepliesTo answers mid stop last new
    pub stops : is_stop stop.body ≡ true
    pub sent : output ≡ told ++ last

  -- the reply to one frame wasn't taken whole; the replies to those before it were
  pub record FailsAt (old : S) (frames : List Frame) (output : List ℕ) (new : S) : Type 0 where
    pub before : List Frame
    pub failed : Frame
    pub left : List Frame
    pub told : List ℕ
    pub last : List ℕ
    pub part : List ℕ
    pub mid : S
    pub parts : frames ≡ before ++ failed ∷ left
    pub answered : Answered answers old before told mid
    pub replies : RepliesTo answers mid failed last new
    pub in_part : IsPrefix part last
    pub sent : output ≡ told ++ part

  -- memory was refused: the replies to the first frames were sent, and the next frame may have been answered
  pub record RefusedAt (old : S) (frames : List Frame) (output : List ℕ) (new : S) : Type 0 where
    pub before : List Frame
    pub left : List Frame
    pub mid : S
    pub parts : frames ≡ before ++ left
    pub answered : Answered answers old before output mid
    pub may_answer : MayAnswer mid left new

  -- serving ended among whole frames
  abbrev pub Until : ServeEnd → S → List Frame → List ℕ → S → Type 0
  Until Stopped old frames output new = StopsAt old frames output new
  Until WriteFault old frames output new = FailsAt old frames output new
  Until NoMemory old frames output new = RefusedAt old frames output new
  Until _ old frames output new = ⊥

  -- the input begins with these frames, among which serving ended
  pub record EndsWithin (end : ServeEnd) (old : S) (input output : List ℕ) (new : S) : Type 0 where
    pub frames : List Frame
    pub rest : List ℕ
    pub begins : Begins input frames rest
    pub until : Until end old frames output new

  -- the input is these frames and that rest, and all frames were answered
  pub record AnswersAll (old : S) (input rest output : List ℕ) (new : S) : Type 0 where
    pub frames : List Frame
    pub splits : Splits input frames rest
    pub answered : Answered answers old frames output new

  -- after the frames a frame fault stands in the input; its reply came last, or as much of it as the sink took
  pub record EndsAtFault (old : S) (input output : List ℕ) (new : S) (told : List ℕ → Type 0) : Type 0 where
    pub rest : List ℕ
    pub text : List ℕ
    pub last : List ℕ
    pub all : AnswersAll old input rest text new
    pub fault : IsFault rest
    pub is_told : told last
    pub sent : output ≡ text ++ last

  -- what was read, what was sent, and how what answers went on, for each end
  abbrev pub Serves : ServeEnd → S → List ℕ → List ℕ → S → Type 0
  Serves Ended old input output new = AnswersAll old input [] output new
  Serves Truncated old input output new = (rest : List ℕ) × (rest ≢ []) × IsPartial rest × AnswersAll old input rest output new
  Serves ReadFault old input output new = (rest : List ℕ) × IsPartial rest × AnswersAll old input rest output new
  Serves BadFrame old input output new = EndsAtFault old input output new (λ last. last ≡ fault_text)
  Serves Stopped old input output new = EndsWithin Stopped old input output new
  Serves WriteFault old input output new =
      EndsWithin WriteFault old input output new ⊎ EndsAtFault old input output new (λ last. IsPrefix last fault_text)
  Serves NoMemory old input output new =
      EndsWithin NoMemory old input output new ⊎ EndsAtFault old input output new (λ last. last ≡ [])

  -- the same of a source and a sink: what they give and take is what was read and sent, so far as that is known
  pub record Leaves (end : ServeEnd) (read_old written_old : Option (List ℕ)) (old : S) (read_new written_new : Option (List ℕ)) (new : S) : Type 0 where
    pub input : List ℕ
    pub output : List ℕ
    pub read : Consumes read_old read_new input
    pub written : Appends written_old written_new output
    pub serves : Serves end old input output new
    pub last : IsLast end → IsAtEnd read_new
