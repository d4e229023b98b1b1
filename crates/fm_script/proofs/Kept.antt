-- A list of which only the first places are kept, as it grows.
use Rattle.std.proofs.Common.{◌≡◌, ◌+◌, ◌-◌, ◌≤◌, ℕ, min, List, ◌++◌, length, take, sym, ap, ◌∙◌, arith}
use Rattle.std.proofs.Math.Seq.{take-append-add}
use Rattle.std.proofs.lemmas.List.{take_min}

pub kept_more : (most : ℕ) (old piece : List ℕ) (count : ℕ) → length old ≤ most → count ≡ min (most - length old) (length piece) →
    old ++ take count piece ≡ take most (old ++ piece)
kept_more most old piece count few is =
    let room : length old + (most - length old) ≡ most = omega arith in
    rw is (rw take_min (sym (take-append-add old piece (most - length old)) ∙ ap (λ (n : ℕ). take n (old ++ piece)) room))
