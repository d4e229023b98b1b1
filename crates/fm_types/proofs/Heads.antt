-- Two texts are compared by the numbers of their first bytes, and whole where these are alike.
use Rattle.std.proofs.Common.{◌≡◌, ◌≢◌, ℕ, zero, suc, ◌+◌, ◌*◌, ◌<◌, List, [], ◌∷◌, ◌++◌, All, get_or, replicate, refl, sym, ap, ◌∙◌, arith, get_or-drop}
use Rattle.std.proofs.lemmas.List.Elements.{All-head, All-tail}
use Rattle.std.proofs.lemmas.Cmp.{ranked}
use Rattle.std.specs.Cmp.{nat_cmp_is}
use Rattle.std.specs.Cmp.Derive.{then_next}
use Rattle.std.specs.Cmp.Lexicographic.{slice_cmp}
use Rattle.std.proofs.Common.{Ordering}
use Rattle.std.specs.declared.cmp.Ordering.TheVariants.{Less, Equal, Greater}
use Rattle.std.specs.Int.{w64, from_be_bytes}
use Rattle.std.specs.Ordering.{nat_cmp, ordering_then, MatchOrdering}
use Rattle.std.specs.Slice.Scan.{big_endian}
use Rattle.fm_types.specs.Paths.{IsPathByte}
use Rattle.fm_types.specs.Texts.{head_of, IsPadded}

-- zeros read as what is past the end of a list does
zeros_read : (n k : ℕ) → ◌≡◌ {A = ℕ} (get_or (replicate n 0) k 0) 0
zeros_read zero k = refl
zeros_read (suc n) zero = refl
zeros_read (suc n) (suc k) = zeros_read n k

-- so zeros behind a text change nothing that is read
with_zeros : (text : List ℕ) (n k : ℕ) → get_or (text ++ replicate n 0) k 0 ≡ get_or text k 0
with_zeros [] n k = zeros_read n k
with_zeros (x ∷ text) n zero = refl
with_zeros (x ∷ text) n (suc k) = with_zeros text n k

-- a buffer reads as its text does
pub padded_read : {size : ℕ} {buffer text : List ℕ} {len : ℕ} → IsPadded size buffer text len → (k : ℕ) → get_or buffer k 0 ≡ get_or text k 0
padded_read kept k = rw kept.zeros (with_zeros _ _ k)

-- what `from_be_bytes` makes of a text's first eight bytes
pub head_number : (text : List ℕ) → from_be_bytes w64 text ≡ big_endian 0 (head_of 8 text)
head_number text = simp get_or-drop (omega arith)

-- how two numbers lie, from how they lie without their last digits and how these lie
lie_as : (a b x y : ℕ) (r s : Ordering) → x < 256 → y < 256 → MatchOrdering r (a < b) (a ≡ b) (b < a) → MatchOrdering s (x < y) (x ≡ y) (y < x)
    → MatchOrdering (ordering_then r s) (a * 256 + x < b * 256 + y) (a * 256 + x ≡ b * 256 + y) (b * 256 + y < a * 256 + x)
lie_as a b x y Less s low high first next = omega arith
lie_as a b x y Equal Less low high first next = omega arith
lie_as a b x y Equal Equal low high first next = omega arith
lie_as a b x y Equal Greater low high first next = omega arith
lie_as a b x y Greater s low high first next = omega arith

-- one more byte decides only where the bytes before it are alike
next_byte : (a b x y : ℕ) (o : Ordering) → x < 256 → y < 256 → ordering_then (nat_cmp (a * 256 + x) (b * 256 + y)) o
    ≡ ordering_then (nat_cmp a b) (ordering_then (nat_cmp x y) o)
next_byte a b x y o low high =
    let is = nat_cmp_is _ _ _ (lie_as a b x y _ _ low high (ranked a b _ refl) (ranked x y _ refl)) in
    sym (then_next (nat_cmp a b) (nat_cmp x y) o (sym is) refl)

-- an answer that is not `Equal` needs no second
only_first : (first whole : Ordering) → first ≢ Equal → first ≡ ordering_then first whole
only_first Less whole differ = refl
only_first Equal whole differ = absurd (differ refl)
only_first Greater whole differ = refl

-- numbers of first bytes that differ lie as the texts do, after the numbers a and b of the bytes before
numbers_first : (n a b : ℕ) (xs ys : List ℕ) → All IsPathByte xs → All IsPathByte ys
    → nat_cmp (big_endian a (head_of n xs)) (big_endian b (head_of n ys)) ≢ Equal
    → nat_cmp (big_endian a (head_of n xs)) (big_endian b (head_of n ys)) ≡ ordering_then (nat_cmp a b) (slice_cmp nat_cmp xs ys)
numbers_first zero a b xs ys these those differ = only_first (nat_cmp a b) (slice_cmp nat_cmp xs ys) differ
numbers_first (suc n) a b [] [] these those differ =
    numbers_first n (a * 256 + 0) (b * 256 + 0) [] [] these those differ ∙ next_byte a b 0 0 Equal (omega arith) (omega arith)
numbers_first (suc n) a b [] (y ∷ ys) these those differ =
    let high : IsPathByte y = All-head IsPathByte y ys those in
    let below : Less ≡ nat_cmp 0 y = nat_cmp_is 0 y Less (omega (arith, high)) in
    numbers_first n (a * 256 + 0) (b * 256 + y) [] ys these (All-tail IsPathByte y ys those) differ
    ∙ next_byte a b 0 y (slice_cmp nat_cmp [] ys) (omega arith) (omega (arith, high))
    ∙ ap (λ r. ordering_then (nat_cmp a b) (ordering_then r (slice_cmp nat_cmp [] ys))) (sym below)
numbers_first (suc n) a b (x ∷ xs) [] these those differ =
    let high : IsPathByte x = All-head IsPathByte x xs these in
    let above : Greater ≡ nat_cmp x 0 = nat_cmp_is x 0 Greater (omega (arith, high)) in
    numbers_first n (a * 256 + x) (b * 256 + 0) xs [] (All-tail IsPathByte x xs these) those differ
    ∙ next_byte a b x 0 (slice_cmp nat_cmp xs []) (omega (arith, high)) (omega arith)
    ∙ ap (λ r. ordering_then (nat_cmp a b) (ordering_then r (slice_cmp nat_cmp xs []))) (sym above)
numbers_first (suc n) a b (x ∷ xs) (y ∷ ys) these those differ =
    let left : IsPathByte x = All-head IsPathByte x xs these in
    let right : IsPathByte y = All-head IsPathByte y ys those in
    numbers_first n (a * 256 + x) (b * 256 + y) xs ys (All-tail IsPathByte x xs these) (All-tail IsPathByte y ys those) differ
    ∙ next_byte a b x y (slice_cmp nat_cmp xs ys) (omega (arith, left)) (omega (arith, right))

-- and so they decide where they differ
pub decided_first : (n : ℕ) (xs ys : List ℕ) (first : Ordering) → All IsPathByte xs → All IsPathByte ys
    → first ≡ nat_cmp (big_endian 0 (head_of n xs)) (big_endian 0 (head_of n ys))
    → first ≢ Equal → first ≡ slice_cmp nat_cmp xs ys
decided_first n xs ys first these those is differ = is ∙ numbers_first n 0 0 xs ys these those (λ e. differ (is ∙ e))
