-- A list that is read place by place.
use Rattle.std.proofs.Common.{◌≡◌, ◌∙◌, ℕ, zero, suc, ◌+◌, ◌++◌, List, [], ◌∷◌, Some, None, length, take, refl, sym, ap, arith}
use Rattle.std.specs.List.{slice_get}
use Rattle.std.proofs.lemmas.List.{take_more}
use Rattle.std.proofs.lemmas.Option.{get_or_from_slice_get, none-some, slice_get_within}

next : (k : ℕ) → k + 1 ≡ suc k
next k = omega arith

-- the next one is there
pub take_next : {A : Type 0} (xs : List A) (k : ℕ) (x : A) → slice_get xs k ≡ Some x → take (k + 1) xs ≡ take k xs ++ x ∷ []
take_next xs k x there =
    take_more xs k x (slice_get_within xs k x there) ∙ ap (λ y. take k xs ++ y ∷ []) (get_or_from_slice_get xs k x x there)

past : {A : Type 0} (xs : List A) (k : ℕ) → slice_get xs k ≡ None → take (suc k) xs ≡ take k xs
past [] zero none = refl
past [] (suc k) none = refl
past (x ∷ xs) zero none = absurd (none-some x (sym none))
past (x ∷ xs) (suc k) none = ap (λ rest. x ∷ rest) (past xs k none)

-- the next one isn't
pub take_none : {A : Type 0} (xs : List A) (k : ℕ) → slice_get xs k ≡ None → take (k + 1) xs ≡ take k xs
take_none xs k none = ap (λ n. take n xs) (next k) ∙ past xs k none

whole : {A : Type 0} (xs : List A) → take (length xs) xs ≡ xs
whole [] = refl
whole (x ∷ xs) = ap (λ rest. x ∷ rest) (whole xs)

-- all were read
pub take_all : {A : Type 0} (xs : List A) (n : ℕ) → n ≡ length xs → take n xs ≡ xs
take_all xs n all = ap (λ n. take n xs) all ∙ whole xs
