-- The lines for an instance that an operation passes are short.
use Rattle.std.proofs.Common.{◌≤◌, ◌<◌, ◌+◌, ◌*◌, ◌/◌, ◌%◌, ◌++◌, ◌≡◌, ℕ, List, [], ◌∷◌, ap, arith, codes, decimal, length, length-append, inl, inr, lit≤}
use Rattle.std.proofs.lemmas.Bool.{cases_lt}
use Rattle.std.proofs.lemmas.Fmt.{decimal_step}
use Rattle.fm_script.specs.Passed.{down_text, up_text}
use Rattle.fm_script.proofs.Lengths.{one_long}

-- the numbers below that one have so many digits at most
abbrev AreFew : ℕ → ℕ → Type 0
AreFew b d = (n : ℕ) → n < 65536 → n < b → length (decimal n) ≤ d

-- ten times as many numbers need one digit more
one_more : (b d : ℕ) → 1 ≤ d → AreFew b d → AreFew (b * 10) (d + 1)
one_more b d some few n small below =
    elim (cases_lt n 10) [
      | inl one ↦ omega (arith, some, one_long n one)
      | inr more ↦
          let step = ap length (decimal_step n (omega (arith, more)) (omega (arith, small))) in
          omega (arith, step, length-append (decimal (n / 10)) ((48 + n % 10) ∷ []), few (n / 10) (omega (arith, small)) (omega (arith, below)))
    ]

five_long : (n : ℕ) → n < 65536 → length (decimal n) ≤ 5
five_long n below =
    let one : AreFew 10 1 = λ q small under. omega (arith, one_long q under) in
    let two : AreFew 100 2 = one_more 10 1 (lit≤ tt) one in
    let three : AreFew 1000 3 = one_more 100 2 (lit≤ tt) two in
    let four : AreFew 10000 4 = one_more 1000 3 (lit≤ tt) three in
    one_more 10000 4 (lit≤ tt) four n below (omega (arith, below))

-- a line of four pieces
four_pieces : (a b c d : List ℕ) → length (((a ++ b) ++ c) ++ d) ≡ length a + length b + length c + length d
four_pieces a b c d = omega (arith, length-append ((a ++ b) ++ c) d, length-append (a ++ b) c, length-append a b)

pub down_long : (n : ℕ) → n < 65536 → length (down_text n) ≤ 16
down_long n below = omega (arith, five_long n below, four_pieces (codes "pre i") (decimal n) (codes " with") (10 ∷ []))

pub up_long : (n : ℕ) → n < 65536 → length (up_text n) ≤ 16
up_long n below =
    let before : List ℕ = ((codes "post" ++ 32 ∷ []) ++ 105 ∷ []) ++ decimal n in
    omega (arith, five_long n below, four_pieces (codes "post") (32 ∷ []) (105 ∷ []) (decimal n), length-append before (10 ∷ []))
