-- What a file's pages hold, against what the calls of a file are to make of its bytes.
use Rattle.fm_base.proofs.Words.{cases_lt, get_or-take, get_or-drop, get_or_past, length-take, range_with_len, resized, written, Pages}
use Rattle.fm_base.proofs.Words.{byte_at, contents, IsZeroFrom, SameBytes, Overwrites, Cuts}
use Rattle.std.specs.Prelude.{◌≡◌, ◌⊎◌, ℕ, ◌+◌, ◌-◌, ◌*◌, ◌/◌, ◌%◌, ◌<◌, ◌≤◌, ◌==◌, min, max, false, List, [], ◌∷◌, length, take, drop, map}
use Rattle.std.specs.Prelude.{get_or}
use Rattle.std.proofs.Common.{sym, ap, ◌∙◌, inl, inr, arith, length-drop}
use Rattle.std.proofs.lemmas.List.FromFn.{length-map-range_with_len, get_or-map-range_with_len}
use Rattle.fm_base.proofs.Writes.{length-resized}
use Rattle.fm_base.proofs.Reading.{run_of, get_or-resized, length-written, get_or-written_inside, get_or-written_outside}

pub length-contents : (size : ℕ) (pages : Pages) → length (contents size pages) ≡ size
length-contents size pages = length-map-range_with_len (byte_at pages) 0 size

-- each byte of the file is that of its page, past the end too
pub get_or-contents : (size : ℕ) (pages : Pages) → IsZeroFrom size pages → (k : ℕ) → get_or (contents size pages) k 0 ≡ byte_at pages k
get_or-contents size pages zero k = elim (cases_lt k size) [
  | inl within ↦ get_or-map-range_with_len (byte_at pages) 0 size k k 0 within (omega arith)
  | inr past ↦ get_or_past (contents size pages) k 0 (omega (arith, length-contents size pages))
      ∙ sym (zero.past (k / 4096) (k % 4096) (omega arith) (omega arith))
]

-- bytes that are the pages' at each place are the file's
pub contents_is : (size : ℕ) (pages : Pages) (bytes : List ℕ) → length bytes ≡ size → ((k : ℕ) → k < size → get_or bytes k 0 ≡ byte_at pages k)
    → bytes ≡ contents size pages
contents_is size pages bytes long is = run_of (byte_at pages) 0 size bytes long (λ k below. is k below ∙ ap (byte_at pages) (omega arith))

-- a read gives the run of the pages
pub read_run : (size offset len : ℕ) (pages : Pages) → IsZeroFrom size pages
    → map (byte_at pages) (range_with_len offset (min (size - offset) len)) ≡ take len (drop offset (contents size pages))
read_run size offset len pages zero =
    let long : length (take len (drop offset (contents size pages))) ≡ min (size - offset) len =
    omega (arith, length-take len (drop offset (contents size pages)), length-drop offset (contents size pages), length-contents size pages) in
    sym (run_of (byte_at pages) offset (min (size - offset) len) _ long (λ k below.
    get_or-take len (drop offset (contents size pages)) k 0 (omega arith) ∙ get_or-drop offset (contents size pages) k 0
    ∙ get_or-contents size pages zero (offset + k)))

-- a write over pages that were made long enough
module _ (size offset byte : ℕ) (bytes : List ℕ) (old grown new : Pages) (zero : IsZeroFrom size old) (same : SameBytes old grown)
    (over : Overwrites offset (byte ∷ bytes) grown new) where
  abbrev end : ℕ
  end = offset + length (byte ∷ bytes)

  outside : (k : ℕ) → (k < offset) ⊎ (offset + length (byte ∷ bytes) ≤ k) → byte_at new k ≡ byte_at old k
  outside k apart =
      let whole : 4096 * (k / 4096) + k % 4096 ≡ k = omega arith in
      over.outside (k / 4096) (k % 4096) (omega arith) (rw whole apart) ∙ same (k / 4096) (k % 4096)

  byte_written : (k : ℕ) → get_or (written offset (byte ∷ bytes) (contents size old)) k 0 ≡ byte_at new k
  byte_written k = elim (cases_lt k offset) [
    | inl below ↦ kept (inl below)
    | inr from ↦ elim (cases_lt k end) [
      | inl inside ↦
          let small : k - offset < length (byte ∷ bytes) = omega arith in
          get_or-written_inside offset byte bytes (contents size old) (k - offset) k small (omega arith)
          ∙ sym (over.inside (k / 4096) (k % 4096) (k - offset) (omega arith) small (omega arith))
      | inr past ↦ kept (inr past)
    ]
  ] where
    kept : (k < offset) ⊎ (offset + length (byte ∷ bytes) ≤ k) → get_or (written offset (byte ∷ bytes) (contents size old)) k 0 ≡ byte_at new k
    kept apart = get_or-written_outside offset byte bytes (contents size old) k apart ∙ get_or-contents size old zero k ∙ sym (outside k apart)

  pub written_contents : contents (max size end) new ≡ written offset (byte ∷ bytes) (contents size old)
  written_contents = sym (contents_is (max size end) new _ (omega
      (arith, length-written offset byte bytes (contents size old), length-contents size old)) (λ k below. byte_written k))

-- a cut, and a growth
pub cut_contents : (size cut : ℕ) (old new : Pages) → IsZeroFrom size old → Cuts cut old new → contents cut new ≡ resized cut (contents size old)
cut_contents size cut old new zero cuts = sym (contents_is cut new _ (length-resized cut _) (λ k below.
    get_or-resized cut _ k below ∙ get_or-contents size old zero k ∙ sym (cuts.below (k / 4096) (k % 4096) (omega arith) (omega arith))))

pub grown_contents : (size grown : ℕ) (pages : Pages) → IsZeroFrom size pages → contents grown pages ≡ resized grown (contents size pages)
grown_contents size grown pages zero = sym (contents_is grown pages _ (length-resized grown _) (λ k below. get_or-resized grown _ k below
    ∙ get_or-contents size pages zero k))

pub written_file : (size offset : ℕ) (bytes : List ℕ) (old grown new : Pages) → false ≡ (length bytes == 0) → IsZeroFrom size old
    → SameBytes old grown → Overwrites offset bytes grown new
    → contents (max size (offset + length bytes)) new ≡ written offset bytes (contents size old)
written_file size offset [] old grown new some zero same over = cc
written_file size offset (byte ∷ bytes) old grown new some zero same over = written_contents size offset byte bytes old grown new zero same over
