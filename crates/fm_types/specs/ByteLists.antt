-- What writes and cuts make of bytes.
use Rattle.std.specs.Prelude.{ℕ, ◌+◌, ◌-◌, List, [], ◌∷◌, ◌++◌, length, take, drop, replicate}

-- the bytes cut to a length, or filled up to it with zeros
abbrev pub resized : ℕ → List ℕ → List ℕ
resized len bytes = take len bytes ++ replicate (len - length bytes) 0

-- the bytes with others written over them from a place on: a gap is filled with zeros, what lies
-- behind the written ones stays, and a write of no bytes changes nothing
abbrev pub written : ℕ → List ℕ → List ℕ → List ℕ
written offset [] old = old
written offset (byte ∷ bytes) old =
    resized offset old ++ byte ∷ bytes ++ drop (offset + length (byte ∷ bytes)) old
