-- One part after another put into an array of zeros.
use Rattle.std.proofs.Common.{◌≡◌, ◌+◌, ◌-◌, ℕ, List, ◌++◌, length, take, drop, replicate, refl, sym, ◌∙◌, arith, length-append, zero-add}
use Rattle.std.proofs.Math.Seq.{drop-append-add}
use Rattle.std.proofs.lemmas.List.{drop-replicate, take_at}
use Rattle.fm_types.specs.Texts.{padded}

put_behind : (size : ℕ) (text part : List ℕ) →
    take (length text) (padded size text) ++ part ++ drop (length text + length part) (padded size text) ≡ padded size (text ++ part)
put_behind size text part =
    let zeros : List ℕ = replicate (size - length text) 0 in
    let fewer = drop-replicate {X = ℕ} (length part) (size - length text) 0 in
    let count : size - length text - length part ≡ size - length (text ++ part) = omega (arith, length-append text part) in
    rw (take_at text zeros (length text) refl, drop-append-add text zeros (length part), fewer, count) refl

pub put_three : (size : ℕ) (first second third start middle end : List ℕ) →
    start ≡ first ++ drop (0 + length first) (replicate size 0) →
    middle ≡ take (length first) start ++ second ++ drop (length first + length second) start →
    end ≡ take (length first + length second) middle ++ third ++ drop (length first + length second + length third) middle →
    end ≡ padded size (first ++ second ++ third)
put_three size first second third start middle end a b c =
    let one : start ≡ padded size first = a ∙ rw (drop-replicate {X = ℕ} (0 + length first) size 0, zero-add (length first)) refl in
    let two : middle ≡ padded size (first ++ second) = b ∙ rw one (put_behind size first second) in
    c ∙ rw (two, sym (length-append first second)) (put_behind size (first ++ second) third)
