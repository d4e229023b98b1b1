-- Lists of bytes read at each place, where places past the end read as zeros.
use Rattle.fm_base.proofs.Words.{cases_lt, get_or_append_left, get_or-append_right, get_or-take, get_or-drop, get_or-replicate, get_or_past}
use Rattle.fm_base.proofs.Words.{length-take, length-replicate, range_with_len, resized, written}
use Rattle.std.specs.Prelude.{◌≡◌, ◌⊎◌, ℕ, suc, ◌+◌, ◌-◌, ◌<◌, ◌≤◌, max, List, [], ◌∷◌, ◌++◌, length, take, drop, map, replicate, get_or}
use Rattle.std.specs.Prelude.{refl}
use Rattle.std.proofs.Common.{sym, ap, ◌∙◌, inl, inr, arith, length-append, length-drop}
use Rattle.fm_base.proofs.Writes.{length-resized}

-- bytes that are those of a function at each place from one on are its run from there
pub run_is : (f : ℕ → ℕ) (from : ℕ) (bytes : List ℕ) → ((k : ℕ) → k < length bytes → get_or bytes k 0 ≡ f (from + k))
    → bytes ≡ map f (range_with_len from (length bytes))
run_is f from [] h = refl
run_is f from (byte ∷ bytes) h =
    let first : byte ≡ f from = h 0 (omega arith) ∙ ap f (omega arith) in
    let rest = run_is f (from + 1) bytes (λ k below. h (suc k) (omega arith) ∙ ap f (omega arith)) in
    ap (λ b. b ∷ bytes) first ∙ ap (λ bs. f from ∷ bs) rest

pub run_of : (f : ℕ → ℕ) (from n : ℕ) (bytes : List ℕ) → length bytes ≡ n → ((k : ℕ) → k < n → get_or bytes k 0 ≡ f (from + k))
    → bytes ≡ map f (range_with_len from n)
run_of f from n bytes long h = rw (← long) (run_is f from bytes (λ k below. h k (omega arith)))

-- zeros read as zeros, within them and past them
zeros : (n k : ℕ) → ◌≡◌ {A = ℕ} (get_or (replicate n 0) k 0) 0
zeros n k = elim (cases_lt k n) [
  | inl within ↦ get_or-replicate n k 0 0 within
  | inr past ↦ get_or_past (replicate n 0) k 0 (omega (arith, length-replicate {A = ℕ} n 0))
]

-- bytes with zeros behind them read as before
pub get_or-grown : (bytes : List ℕ) (n k : ℕ) → get_or (bytes ++ replicate n 0) k 0 ≡ get_or bytes k 0
get_or-grown bytes n k = elim (cases_lt k (length bytes)) [
  | inl within ↦ get_or_append_left bytes (replicate n 0) 0 k within
  | inr past ↦ get_or-append_right bytes (replicate n 0) (length bytes) k 0 refl past ∙ zeros n (k - length bytes) ∙ sym (get_or_past bytes k 0 past)
]

pub get_or-resized : (n : ℕ) (bytes : List ℕ) (k : ℕ) → k < n → get_or (resized n bytes) k 0 ≡ get_or bytes k 0
get_or-resized n bytes k below = get_or-grown (take n bytes) (n - length bytes) k ∙ get_or-take n bytes k 0 below

-- bytes behind a front, over a part of others that the front reads as
module _ (from : ℕ) (front chunk page : List ℕ) (long : length front ≡ from) (alike : (k : ℕ) → k < from → get_or front k 0 ≡ get_or page k 0) where
  abbrev back : List ℕ
  back = drop (from + length chunk) page

  get_or-inside : (k i : ℕ) → k < length chunk → i ≡ from + k → get_or (front ++ chunk ++ back) i 0 ≡ get_or chunk k 0
  get_or-inside k i below is =
      get_or_append_left (front ++ chunk) back 0 i (omega (arith, long, length-append front chunk))
      ∙ get_or-append_right front chunk (length front) i 0 refl (omega (arith, long)) ∙ ap (λ j. get_or chunk j 0) (omega (arith, long))

  get_or-outside : (i : ℕ) → (i < from) ⊎ (from + length chunk ≤ i) → get_or (front ++ chunk ++ back) i 0 ≡ get_or page i 0
  get_or-outside i (inl below) =
      get_or_append_left (front ++ chunk) back 0 i (omega (arith, long, length-append front chunk)) ∙ get_or_append_left front chunk 0 i (omega (arith, long))
      ∙ alike i below
  get_or-outside i (inr past) =
      get_or-append_right (front ++ chunk) back (from + length chunk) i 0 (omega (arith, long, length-append front chunk)) past
      ∙ get_or-drop (from + length chunk) page (i - (from + length chunk)) 0 ∙ ap (λ j. get_or page j 0) (omega (arith, past))

-- bytes written over a part of others
module _ (from : ℕ) (chunk page : List ℕ) (fits : from + length chunk ≤ length page) where
  abbrev pub pasted : List ℕ
  pasted = take from page ++ chunk ++ drop (from + length chunk) page

  front_long : length (take from page) ≡ from
  front_long = omega (arith, length-take from page, fits)

  pub length-pasted : length pasted ≡ length page
  length-pasted = simp (length-append, front_long, length-drop) (omega (arith, fits))

  pub get_or-pasted_inside : (k i : ℕ) → k < length chunk → i ≡ from + k → get_or pasted i 0 ≡ get_or chunk k 0
  get_or-pasted_inside = get_or-inside from (take from page) chunk page front_long (λ k below. get_or-take from page k 0 below)

  pub get_or-pasted_outside : (i : ℕ) → (i < from) ⊎ (from + length chunk ≤ i) → get_or pasted i 0 ≡ get_or page i 0
  get_or-pasted_outside = get_or-outside from (take from page) chunk page front_long (λ k below. get_or-take from page k 0 below)

-- the bytes that a write of some bytes leaves
module _ (offset byte : ℕ) (bytes old : List ℕ) where
  pub length-written : length (written offset (byte ∷ bytes) old) ≡ max (length old) (offset + length (byte ∷ bytes))
  length-written = simp (length-append, length-take, length-replicate, length-drop) (omega arith)

  pub get_or-written_inside : (k i : ℕ) → k < length (byte ∷ bytes) → i ≡ offset + k
      → get_or (written offset (byte ∷ bytes) old) i 0 ≡ get_or (byte ∷ bytes) k 0
  get_or-written_inside = get_or-inside offset (resized offset old) (byte ∷ bytes) old (length-resized offset old) (get_or-resized offset old)

  pub get_or-written_outside : (i : ℕ) → (i < offset) ⊎ (offset + length (byte ∷ bytes) ≤ i)
      → get_or (written offset (byte ∷ bytes) old) i 0 ≡ get_or old i 0
  get_or-written_outside = get_or-outside offset (resized offset old) (byte ∷ bytes) old (length-resized offset old) (get_or-resized offset old)
