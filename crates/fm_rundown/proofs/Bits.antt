-- What the exchanges do to a word's lowest bit.
use Rattle.fm_rundown.proofs.Words.{eq-eqb, ne_eqb}
use Rattle.std.proofs.Common.{◌≡◌, ◌+◌, ◌*◌, ◌%◌, ◌^◌, ◌==◌, ℕ, Bool, true, false, cond, bit_or, ap, sym, ◌∙◌, arith}
use lib.Bits.{or_shifted, or_block}

-- the lowest bit of twice a number and a bit is the bit
pub lowest_bit : (n : ℕ) (b : Bool) → (2 * n + cond b 1 0) % 2 == 1 ≡ b
lowest_bit n true = eq-eqb ((2 * n + 1) % 2) 1 (omega arith)
lowest_bit n false = ne_eqb ((2 * n + 0) % 2) 1 (λ is. omega (arith, is))

twice : (n : ℕ) → n * 2 ^ 1 ≡ 2 * n
twice n = omega arith

or_none : (n : ℕ) → bit_or n 0 ≡ n
or_none n = ap (λ m. bit_or m 0) (omega arith) ∙ or_shifted n 0 0 (omega arith) ∙ omega arith

-- after an or of 1 the lowest bit is set, and the others are as they were
pub or_one : (n : ℕ) (b : Bool) → bit_or (2 * n + cond b 1 0) 1 ≡ 2 * n + 1
or_one n true =
    ap (λ m. bit_or (m + 1) 1) (sym (twice n)) ∙ or_block 1 n 0 1 1 (omega arith) (omega arith)
    ∙ ap (λ m. m * 2 ^ 1 + bit_or 1 1) (or_none n) ∙ ap (λ m. m + 1) (twice n)
or_one n false =
    ap (λ m. bit_or m 1) (omega (arith, twice n)) ∙ or_shifted n 1 1 (omega arith) ∙ ap (λ m. m + 1) (twice n)
