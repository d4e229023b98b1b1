-- What one turn of the loops over a file's pages does.
use Rattle.fm_base.proofs.Words.{cases_lt, cases_eq, eq-eqb, ne_eqb, cond-true, cond-false, get_or-take, get_or-drop, length-take}
use Rattle.fm_base.proofs.Words.{range_with_len, resized, Pages, page_of, byte_in, byte_at, NoneShorter, HasRoom, Overwrites}
use Rattle.std.specs.Prelude.{◌≡◌, ◌≢◌, ◌⊎◌, ℕ, suc, zero, ◌+◌, ◌-◌, ◌*◌, ◌/◌, ◌%◌, ◌<◌, ◌≤◌, ◌==◌, min, cond, List, ◌∷◌, ◌++◌, length}
use Rattle.std.specs.Prelude.{take, drop, map, get_or, refl}
use Rattle.std.proofs.Common.{sym, ap, ◌∙◌, inl, inr, arith, length-drop}
use Rattle.fm_base.proofs.Writes.{length-resized}
use Rattle.fm_base.proofs.Reading.{run_of, get_or-resized, pasted, length-pasted, get_or-pasted_inside, get_or-pasted_outside}

-- one more page has room
pub room_more : (from end number : ℕ) (old new : Pages)
    → ((q place : ℕ) → place < 4096 → from ≤ 4096 * q + place → 4096 * q + place < end → q < number → place < length (page_of old q))
    → NoneShorter old new → min (end - number * 4096) 4096 ≤ length (page_of new number)
    → (q place : ℕ) → place < 4096 → from ≤ 4096 * q + place → 4096 * q + place < end → q < number + 1 → place < length (page_of new q)
room_more from end number old new room longer long q place small past below so_far = elim (cases_lt q number) [
  | inl before ↦ let there : place < length (page_of old q) = room q place small past below before in let kept = longer q in omega arith
  | inr at ↦
      let is : q ≡ number = omega arith in
      let same : length (page_of new q) ≡ length (page_of new number) = ap (λ n. length (page_of new n)) is in
      omega arith
]

-- the part of the bytes that goes to one page is as long as it was counted
pub chunk_long : (done count : ℕ) (bytes : List ℕ) → done + count ≤ length bytes → length (take (done + count - done) (drop done bytes)) ≡ count
chunk_long done count bytes fits = omega (arith, length-take (done + count - done) (drop done bytes), length-drop done bytes)

pub chunk_is : (done count : ℕ) (bytes : List ℕ) (k : ℕ) → k < count
    → get_or (take (done + count - done) (drop done bytes)) k 0 ≡ get_or bytes (done + k) 0
chunk_is done count bytes k below =
    get_or-take (done + count - done) (drop done bytes) k 0 (omega arith) ∙ get_or-drop done bytes k 0

-- and that page is long enough for it
pub chunk_fits : (offset done count : ℕ) (bytes : List ℕ) (initial now : Pages)
    → HasRoom offset (offset + length bytes) initial → ((q : ℕ) → length (page_of now q) ≡ length (page_of initial q))
    → done < length bytes → count ≡ min (4096 - (offset + done) % 4096) (length bytes - done)
    → (offset + done) % 4096 + length (take (done + count - done) (drop done bytes)) ≤ length (page_of now ((offset + done) / 4096))
chunk_fits offset done count bytes initial now room long left is =
    let fits : done + count ≤ length bytes = omega arith in
    let small : (offset + done) % 4096 + (count - 1) < 4096 = omega arith in
    let last : (offset + done) % 4096 + (count - 1) < length (page_of initial ((offset + done) / 4096)) =
    room ((offset + done) / 4096) ((offset + done) % 4096 + (count - 1)) small (omega arith) (omega arith) in
    omega (arith, long ((offset + done) / 4096), chunk_long done count bytes fits)

-- one turn of a write
module _ (offset done count : ℕ) (bytes chunk : List ℕ) (initial old new : Pages)
    (number from : ℕ) (at : offset + done ≡ 4096 * number + from) (on_page : from + count ≤ 4096) (within : done + count ≤ length bytes)
    (long : length chunk ≡ count) (is : (k : ℕ) → k < count
    → get_or chunk k 0 ≡ get_or bytes (done + k) 0) (fits : from + length chunk ≤ length (page_of old number))
    (wrote : (q : ℕ) → page_of new q ≡ cond (q == number) (pasted from chunk (page_of old number) fits) (page_of old q)) where
  here : page_of new number ≡ pasted from chunk (page_of old number) fits
  here = wrote number ∙ cond-true (number == number) _ _ (eq-eqb number number refl)

  elsewhere : (q : ℕ) → q ≢ number → page_of new q ≡ page_of old q
  elsewhere q other = wrote q ∙ cond-false (q == number) _ _ (ne_eqb q number other)

  pub long_more : (q : ℕ) → length (page_of new q) ≡ length (page_of old q)
  long_more q = elim (cases_eq q number) [
    | inl same ↦ rw same (ap length here ∙ length-pasted from chunk (page_of old number) fits)
    | inr other ↦ ap length (elsewhere q other)
  ]

  -- a place of the page that was written
  pub written_here : (place k : ℕ) → place ≡ from + k → k < count → byte_in (page_of new number) place ≡ get_or bytes (done + k) 0
  written_here place k same below = ap (λ page. byte_in page place) here
      ∙ get_or-pasted_inside from chunk (page_of old number) fits k place (omega arith) same ∙ is k below

  -- a place that wasn't
  pub kept_there : (q place : ℕ) → place < 4096 → (4096 * q + place < offset + done) ⊎ (offset + done + count ≤ 4096 * q + place)
      → byte_in (page_of new q) place ≡ byte_in (page_of old q) place
  kept_there q place small apart = elim (cases_eq q number) [
    | inl same ↦ rw same (ap (λ page. byte_in page place) here ∙ get_or-pasted_outside from chunk (page_of old number) fits place (beside apart same))
    | inr other ↦ ap (λ page. byte_in page place) (elsewhere q other)
  ] where
    beside : (4096 * q + place < offset + done) ⊎ (offset + done + count ≤ 4096 * q + place) → q ≡ number
        → (place < from) ⊎ (from + length chunk ≤ place)
    beside (inl below) same = inl (omega arith)
    beside (inr past) same = inr (omega arith)

  taken : (n : ℕ) → n ≤ done + count → length (take n bytes) ≡ n
  taken n few = omega (arith, length-take n bytes, within)

  inside_more : Overwrites offset (take done bytes) initial old → (q place k : ℕ) → place < 4096 → k < done + count
      → offset + k ≡ 4096 * q + place → byte_in (page_of new q) place ≡ get_or bytes k 0
  inside_more so_far q place k small below there = elim (cases_lt k done) [
    | inl before ↦ kept_there q place small (inl (omega arith)) ∙ so_far.inside q place k small (omega (arith, taken done)) there
        ∙ get_or-take done bytes k 0 before
    | inr now ↦
        let same : q ≡ number = omega arith in
        ap (λ n. byte_in (page_of new n) place) same ∙ written_here place (k - done) (omega arith) (omega arith) ∙ ap (λ j. get_or bytes j 0) (omega arith)
  ]

  outside_more : Overwrites offset (take done bytes) initial old → (q place : ℕ) → place < 4096
      → (4096 * q + place < offset) ⊎ (offset + (done + count) ≤ 4096 * q + place) → byte_in (page_of new q) place ≡ byte_in (page_of initial q) place
  outside_more so_far q place small (inl below) = kept_there q place small (inl (omega arith)) ∙ so_far.outside q place small (inl below)
  outside_more so_far q place small (inr past) = kept_there q place small (inr (omega arith))
      ∙ so_far.outside q place small (inr (omega (arith, taken done)))

  pub over_more : Overwrites offset (take done bytes) initial old → Overwrites offset (take (done + count) bytes) initial new
  over_more so_far = record {
    inside = λ q place k small below there.
        let counted : k < done + count = omega (arith, taken (done + count)) in
        inside_more so_far q place k small counted there ∙ sym (get_or-take (done + count) bytes k 0 counted);
    outside = λ q place small apart. outside_more so_far q place small (rw (taken (done + count) (omega arith)) at apart);
  }

-- a part of one page is the file's from there on
pub page_run : (pages : Pages) (at count : ℕ) → at % 4096 + count ≤ 4096
    → resized count (drop (at % 4096) (page_of pages (at / 4096))) ≡ map (byte_at pages) (range_with_len at count)
page_run pages at count fits =
    run_of (byte_at pages) at count _ (length-resized count _) (λ k below.
    let page : (at + k) / 4096 ≡ at / 4096 = omega arith in
    let place : (at + k) % 4096 ≡ at % 4096 + k = omega arith in
    get_or-resized count _ k below ∙ get_or-drop (at % 4096) (page_of pages (at / 4096)) k 0
    ∙ sym (ap (λ n. byte_in (page_of pages n) ((at + k) % 4096)) page ∙ ap (byte_in (page_of pages (at / 4096))) place))

-- a run, and another one behind it
pub run_more : (f : ℕ → ℕ) (from n m : ℕ) → map f (range_with_len from n) ++ map f (range_with_len (from + n) m) ≡ map f (range_with_len from (n + m))
run_more f from zero m =
    let start : from + 0 ≡ from = omega arith in
    let none : 0 + m ≡ m = omega arith in
    rw (start, none) refl
run_more f from (suc n) m =
    let start : from + suc n ≡ (from + 1) + n = omega arith in
    let long : suc n + m ≡ suc (n + m) = omega arith in
    rw (start, long) (ap (λ bs. f from ∷ bs) (run_more f (from + 1) n m))
