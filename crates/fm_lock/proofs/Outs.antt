-- How many hands are out.
use Rattle.fm_lock.proofs.Words.{Bool, HandView, List, [], and_parts, ap, arith, cond, count_by, false, are_hired, length, list_all, not, refl, slice_index_or}
use Rattle.fm_lock.proofs.Words.{slice_set, suc, true, zero, ℕ, ◌+◌, ◌<◌, ◌∷◌, ◌≡◌, ap, false≢true, sum_by-set}

abbrev one : Bool → ℕ
one b = cond b 1 0

nobody_out : (hired : List Bool) → list_all not hired ≡ true → count_by (λ b. b) hired ≡ 0
nobody_out [] h = refl
nobody_out (b ∷ hired) h = grind (arith, nobody_out hired)

within_out : (hired : List Bool) (k : ℕ) → slice_index_or hired k false ≡ true → k < length hired
within_out [] k out = absurd (false≢true out)
within_out (b ∷ hired) zero out = omega arith
within_out (b ∷ hired) (suc k) out = omega (arith, within_out hired k out)

-- one that comes in
pub one_fewer : (hired : List Bool) (k : ℕ) → slice_index_or hired k false ≡ true → count_by (λ b. b) (slice_set hired k false) + 1 ≡ count_by (λ b. b) hired
one_fewer hired k out =
    omega (arith, sum_by-set one hired k false false (within_out hired k out), ap one out)

-- hands that are all that are out are as many
pub hired_counts : (hired : List Bool) (hands : List HandView) → are_hired hired hands ≡ true → length hands ≡ count_by (λ b. b) hired
hired_counts hired [] h = grind (arith, nobody_out hired)
hired_counts hired (hand ∷ hands) h =
    let parts = and_parts (slice_index_or hired hand.worker.0 false) (are_hired (slice_set hired hand.worker.0 false) hands) h in
    grind (arith, one_fewer hired hand.worker.0 parts.0, hired_counts (slice_set hired hand.worker.0 false) hands parts.1)
