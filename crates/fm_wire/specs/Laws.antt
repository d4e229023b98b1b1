-- What holds of all frames and streams.
use Rattle.std.specs.Prelude.{◌≡◌, ◌⊎◌, ℕ, List, [], ◌++◌}
use Rattle.fm_types.specs.declared.status.Status.{Status}
use Rattle.fm_wire.specs.declared.frame.Body.TheVariants.{Refused}
use Rattle.fm_wire.specs.declared.frame.Frame.{Frame}
use Rattle.fm_wire.specs.Spelling.{spelling_of}
use Rattle.fm_wire.specs.Grammar.{IsFrame, IsSpelled}
use Rattle.fm_wire.specs.Stream.{Splits}

-- no frame's bytes are a prefix of another's
abbrev pub NoPrefix : Type 0
NoPrefix = (a b more : List ℕ) (frame other : Frame) → IsFrame a frame → IsFrame b other → a ++ more ≡ b → more ≡ []

-- bytes are one frame at most
abbrev pub OneFrame : Type 0
OneFrame = (text : List ℕ) (frame other : Frame) → IsFrame text frame → IsFrame text other → frame ≡ other

-- a stream has one list of frames and one rest
abbrev pub OneReading : Type 0
OneReading = (stream : List ℕ) (frames others : List Frame) (rest other : List ℕ) → Splits stream frames rest
    → Splits stream others other → (frames ≡ others) × (rest ≡ other)

-- where a piece follows, the frames of what was left with the piece follow those in front
abbrev pub Pieces : Type 0
Pieces = (stream piece : List ℕ) (frames later : List Frame) (held rest : List ℕ) → Splits stream frames held
    → Splits (held ++ piece) later rest → Splits (stream ++ piece) (frames ++ later) rest

-- only what has a spelling is read from bytes, but for refused frames; and its own spelling is that frame too
abbrev pub OnlySpelled : Type 0
OnlySpelled = (text : List ℕ) (frame : Frame) → IsFrame text frame → ((status : Status) × (frame.body ≡ Refused status))
    ⊎ (IsSpelled frame × IsFrame (spelling_of frame) frame)
