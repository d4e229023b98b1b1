-- Paths of a search grow.
use Rattle.std.proofs.Common.{◌≡◌, ◌∙◌, ◌+◌, ◌<◌, ◌⊎◌, ◌++◌, ◌∷◌, [], ℕ, zero, suc, List, Option, Some, None, inl, inr, map, slice_get, take, refl, sym, ap, subst, arith}
use Rattle.std.proofs.lemmas.Option.{none-some, same_Some}
use Rattle.fm_choice.specs.Choices.{Follows, IsBefore, IsLastOpen, IsNextPath, taken_of}
use Rattle.fm_choice.specs.declared.choice.Choice.{Choice}

-- the head and the tail of equal lists
abbrev head_or : ℕ → List ℕ → ℕ
head_or n [] = n
head_or n (x ∷ xs) = x

abbrev tail_of : List ℕ → List ℕ
tail_of [] = []
tail_of (x ∷ xs) = xs

turns : (path others : List ℕ) (choices : List Choice) (at : ℕ) (choice : Choice) → slice_get choices at ≡ Some choice → taken_of choices ≡ path ++ others
    → IsBefore path (taken_of (take at choices) ++ (choice.taken + 1) ∷ [])
turns path others [] at choice there took = absurd (none-some choice there)
turns [] others (c ∷ choices) zero choice there took = tt
turns [] others (c ∷ choices) (suc at) choice there took = tt
turns (x ∷ path) others (c ∷ choices) zero choice there took =
    let same : c ≡ choice = same_Some c choice there in
    let first : c.taken ≡ x = ap (head_or 0) took in
    let taken : c.taken ≡ choice.taken = ap (λ (d : Choice). d.taken) same in
    inl (omega (arith, first, taken))
turns (x ∷ path) others (c ∷ choices) (suc at) choice there took =
    inr (sym (ap (head_or 0) took), turns path others choices at choice there (ap tail_of took))

pub grows : (path next : List ℕ) (choices : List Choice) → Follows path choices → IsNextPath choices next → IsBefore path next
grows path next choices follows on = subst (IsBefore path) (sym on.goes) (turns path follows.others choices on.at on.choice on.turn.there follows.took)

pub never_itself : (path : List ℕ) → IsBefore path path → ⊥
never_itself [] before = before
never_itself (x ∷ path) (inl less) = omega (arith, less)
never_itself (x ∷ path) (inr same) = never_itself path same.1

pub goes_on : (one two three : List ℕ) → IsBefore one two → IsBefore two three → IsBefore one three
goes_on one two [] first second = second
goes_on [] two (z ∷ three) first second = tt
goes_on (x ∷ one) [] (z ∷ three) first second = absurd first
goes_on (x ∷ one) (y ∷ two) (z ∷ three) (inl less) (inl more) = inl (omega (arith, less, more))
goes_on (x ∷ one) (y ∷ two) (z ∷ three) (inl less) (inr same) = inl (subst (λ (n : ℕ). x < n) same.0 less)
goes_on (x ∷ one) (y ∷ two) (z ∷ three) (inr same) (inl more) = inl (subst (λ (n : ℕ). n < z) (sym same.0) more)
goes_on (x ∷ one) (y ∷ two) (z ∷ three) (inr first) (inr second) = inr (first.0 ∙ second.0, goes_on one two three first.1 second.1)
