-- Streams of frames.
use Rattle.std.specs.Prelude.{◌≡◌, ℕ, ◌<◌, ◌^◌, ◌⊎◌, List, [], ◌∷◌, ◌++◌, length, Option, Some, None}
use Rattle.fm_wire.specs.declared.frame.Frame.{Frame}
use Rattle.fm_wire.specs.Spelling.{bytes_of_u32}
use Rattle.fm_wire.specs.Grammar.{IsFrame, IsBodyLength}

-- a length in range, and fewer bytes behind it than it says
pub record IsBegun (bytes : List ℕ) : Type 0 where
  pub len : ℕ
  pub behind : List ℕ
  pub parts : bytes ≡ bytes_of_u32 len ++ behind
  pub in_range : IsBodyLength len
  pub short : length behind < len

-- less than a whole frame: not even a length, or a frame that is begun
abbrev pub IsPartial : List ℕ → Type 0
IsPartial bytes = (length bytes < 4) ⊎ IsBegun bytes

-- a frame fault: a length out of range stands in front
pub record IsFault (bytes : List ℕ) : Type 0 where
  pub len : ℕ
  pub behind : List ℕ
  pub parts : bytes ≡ bytes_of_u32 len ++ behind
  pub fits : len < 2 ^ 32
  pub out_of_range : IsBodyLength len → ⊥

-- the stream is these frames, and then that rest
abbrev pub Begins : List ℕ → List Frame → List ℕ → Type 0
Begins stream [] rest = stream ≡ rest
Begins stream (frame ∷ frames) rest = (text : List ℕ) × (more : List ℕ) × (stream ≡ text ++ more) × IsFrame text frame × Begins more frames rest

-- the stream is these frames, and then less than a whole one, or a frame fault
pub record Splits (stream : List ℕ) (frames : List Frame) (rest : List ℕ) : Type 0 where
  pub begins : Begins stream frames rest
  pub ends : IsPartial rest ⊎ IsFault rest

-- what a decoder keeps of the rest: all of it, or nothing any more behind a fault
abbrev pub Keeps : Option (List ℕ) → List ℕ → Type 0
Keeps (Some held) rest = IsPartial rest × (held ≡ rest)
Keeps None rest = IsFault rest

-- a decoder gives these frames for the next piece: with what it kept they are the stream, and it keeps what is left; a fault with no frame
-- in front of it isn't passed over
pub record Gives (old : Option (List ℕ)) (piece : List ℕ) (frames : List Frame) (new : Option (List ℕ)) : Type 0 where
  pub held : List ℕ
  pub rest : List ℕ
  pub was : old ≡ Some held
  pub splits : Splits (held ++ piece) frames rest
  pub keeps : Keeps new rest
  pub told : frames ≡ [] → IsPartial rest

-- a decoder refuses the next piece: a fault was met before, or stands in front now
abbrev pub Refuses : Option (List ℕ) → List ℕ → Type 0
Refuses None piece = Unit {0}
Refuses (Some held) piece = IsFault (held ++ piece)
