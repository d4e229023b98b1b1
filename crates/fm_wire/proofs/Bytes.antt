-- Numbers as bytes: what was taken from the front is spelled so, and a spelling is of one number.
use Rattle.fm_wire.proofs.Words.{ℕ, List, length, get_or, take, drop, refl, arith, inl, inr, Fits, w8, Fits-lit, w16, w32, w64}
use Rattle.fm_wire.proofs.Words.{from_be_bytes, to_be_bytes, take-append-drop, length-take, get_or-take, get_or_past}
use Rattle.std.proofs.Common.{◌≡◌, ◌^◌, ◌<◌, ◌≤◌, ◌++◌}
use Rattle.std.proofs.lemmas.Bool.{cases_lt}
use Rattle.std.proofs.lemmas.Nat.{be_bytes_2, be_bytes_4, be_bytes_8, from_be_bytes-to_be_bytes_2, from_be_bytes-to_be_bytes_4}
use Rattle.std.proofs.lemmas.Nat.{from_be_bytes-to_be_bytes_8}
use Rattle.fm_wire.specs.Spelling.{bytes_of_u16, bytes_of_u32, bytes_of_u64}

abbrev pub IsBytes : List ℕ → Type 0
IsBytes bytes = (i : ℕ) → Fits w8 (get_or bytes i 0)

IsBytes-take : (n : ℕ) (bytes : List ℕ) → IsBytes bytes → IsBytes (take n bytes)
IsBytes-take n bytes fits i =
    elim (cases_lt i n) [
      | inl lt ↦ rw (get_or-take n bytes i 0 lt) (fits i)
      | inr le ↦ rw (get_or_past (take n bytes) i 0 (omega (arith, length-take n bytes))) (Fits-lit tt)
    ]

-- what lies in front is a spelling, where bytes of that length have one number
taken : (size : ℕ) (spelled bytes front rest : List ℕ) → IsBytes bytes → size ≤ length bytes → front ≡ take size bytes → rest ≡ drop size bytes
    → (length front ≡ size → ((i : ℕ) → get_or front i 0 < 256) → spelled ≡ front) → bytes ≡ spelled ++ rest
taken size spelled bytes front rest fits long fi ri spells =
    let len : length front ≡ size = rw fi (omega (arith, length-take size bytes)) in
    let fit : IsBytes front = rw fi (IsBytes-take size bytes fits) in
    rw (spells len (λ i. omega (arith, fit i)), fi, ri, take-append-drop size bytes) refl

pub taken_u16 : (n : ℕ) (bytes front rest : List ℕ) → IsBytes bytes → 2 ≤ length bytes → front ≡ take 2 bytes → rest ≡ drop 2 bytes
    → n ≡ from_be_bytes w16 front
    → bytes ≡ bytes_of_u16 n ++ rest
unfolding bytes_of_u16
taken_u16 n bytes front rest fits long fi ri e = taken 2 (to_be_bytes w16 n) bytes front rest fits long fi ri (λ len fit. be_bytes_2 front n len fit e)

pub taken_u32 : (n : ℕ) (bytes front rest : List ℕ) → IsBytes bytes → 4 ≤ length bytes → front ≡ take 4 bytes → rest ≡ drop 4 bytes
    → n ≡ from_be_bytes w32 front
    → bytes ≡ bytes_of_u32 n ++ rest
unfolding bytes_of_u32
taken_u32 n bytes front rest fits long fi ri e = taken 4 (to_be_bytes w32 n) bytes front rest fits long fi ri (λ len fit. be_bytes_4 front n len fit e)

pub taken_u64 : (n : ℕ) (bytes front rest : List ℕ) → IsBytes bytes → 8 ≤ length bytes → front ≡ take 8 bytes → rest ≡ drop 8 bytes
    → n ≡ from_be_bytes w64 front
    → bytes ≡ bytes_of_u64 n ++ rest
unfolding bytes_of_u64
taken_u64 n bytes front rest fits long fi ri e = taken 8 (to_be_bytes w64 n) bytes front rest fits long fi ri (λ len fit. be_bytes_8 front n len fit e)

pub length-u16 : (n : ℕ) → length (bytes_of_u16 n) ≡ 2
unfolding bytes_of_u16
length-u16 n = refl

pub length-u32 : (n : ℕ) → length (bytes_of_u32 n) ≡ 4
unfolding bytes_of_u32
length-u32 n = refl

pub length-u64 : (n : ℕ) → length (bytes_of_u64 n) ≡ 8
unfolding bytes_of_u64
length-u64 n = refl

-- the number that was spelled
pub from-u16 : (n : ℕ) → n < 2 ^ 16 → from_be_bytes w16 (bytes_of_u16 n) ≡ n
unfolding bytes_of_u16
from-u16 n lt = from_be_bytes-to_be_bytes_2 n lt

pub from-u32 : (n : ℕ) → n < 2 ^ 32 → from_be_bytes w32 (bytes_of_u32 n) ≡ n
unfolding bytes_of_u32
from-u32 n lt = from_be_bytes-to_be_bytes_4 n lt

pub from-u64 : (n : ℕ) → n < 2 ^ 64 → from_be_bytes w64 (bytes_of_u64 n) ≡ n
unfolding bytes_of_u64
from-u64 n lt = from_be_bytes-to_be_bytes_8 n lt
