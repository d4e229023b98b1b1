-- How an altitude is kept: its canonical text in an array, with zeros behind it.
use Rattle.std.specs.Prelude.{◌≡◌, ℕ, List, length, take}
use Rattle.fm_altitude.specs.Grammar.{IsAltitude, canonical, whole_of}
use Rattle.fm_types.specs.Texts.{padded}

pub record IsKept (buffer : List ℕ) (len whole : ℕ) : Type 0 where
  pub exact : length (take len buffer) ≡ len
  pub zeros : buffer ≡ padded 64 (take len buffer)
  pub front : length (whole_of (take len buffer)) ≡ whole
  pub grammar : IsAltitude (take len buffer)
  pub spelling : canonical (take len buffer) ≡ take len buffer
