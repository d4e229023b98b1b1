-- Where the first point of a text stands.
use Rattle.std.proofs.Common.{◌≡◌, ◌+◌, ◌≤◌, ◌==◌, ℕ, suc, Some, None, List, [], ◌∷◌, length, take, drop, refl, sym, ◌∙◌, inl, inr, arith}
use Rattle.std.proofs.lemmas.Bool.{cases_Bool}
use Rattle.std.proofs.lemmas.Bool.Decides.{nat_tests}
use Rattle.std.proofs.lemmas.List.{take_all, drop_all}
use Rattle.std.specs.List.{position, position_or_len}
use Rattle.fm_altitude.specs.Grammar.{after_point, before_point}

place-before_point : (text : List ℕ) → position_or_len (λ b. b == 46) text ≡ length (before_point text)
place-before_point [] = refl
place-before_point (b ∷ bs) = grind (arith, nat_tests, place-before_point bs)

take-before_point : (text : List ℕ) → take (length (before_point text)) text ≡ before_point text
take-before_point [] = refl
take-before_point (b ∷ bs) = grind (arith, nat_tests, take-before_point bs)

drop-before_point : (text : List ℕ) → drop (length (before_point text) + 1) text ≡ after_point text
drop-before_point [] = refl
drop-before_point (b ∷ bs) =
    let longer : suc (length (before_point bs)) + 1 ≡ suc (length (before_point bs) + 1) = omega arith in
    elim (cases_Bool (b == 46)) [ inl is ↦ rw is refl | inr is ↦ rw (is, longer) (drop-before_point bs) ]

pub split_at_some : (text : List ℕ) (at : ℕ) → position (λ b. b == 46) text ≡ Some at →
    (take at text ≡ before_point text) × (drop (at + 1) text ≡ after_point text)
split_at_some text at found =
    let same : at ≡ length (before_point text) = grind (arith, nat_tests, place-before_point text) in
    (rw same (take-before_point text), rw same (drop-before_point text))

pub split_at_none : (text : List ℕ) → position (λ b. b == 46) text ≡ None → (text ≡ before_point text) × ([] ≡ after_point text)
split_at_none text missed =
    let all : length text ≤ length (before_point text) = grind (arith, nat_tests, place-before_point text) in (
      sym (take_all (length (before_point text)) text all) ∙ take-before_point text,
      sym (drop_all (length (before_point text) + 1) text (omega (arith, all))) ∙ drop-before_point text,
    )
