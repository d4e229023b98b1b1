-- The passes that a seat counts are those that it holds.
use Rattle.fm_rundown.proofs.Words.{sum_by-cons, VolumeView, SeatView, no_pass}
use Rattle.std.proofs.Common.{◌≡◌, ◌+◌, ◌<◌, ℕ, suc, List, [], ◌∷◌, length, get_or, sum, sum_by, refl, sym, ◌∙◌, arith}
use Rattle.fm_rundown.specs.Rest.{IsAtRest}

abbrev held_of : VolumeView → ℕ
held_of p = p.held

counts_agree : (ps : List VolumeView) (counts : List ℕ) → length ps ≡ length counts
    → ((v : ℕ) → v < length ps → (get_or ps v no_pass).held ≡ get_or counts v 0) → sum counts ≡ sum_by held_of ps
counts_agree [] [] long same = refl
counts_agree [] (n ∷ counts) long same = absurd (omega (arith, long))
counts_agree (p ∷ ps) [] long same = absurd (omega (arith, long))
counts_agree (p ∷ ps) (n ∷ counts) long same =
    let first : p.held ≡ n = same 0 (omega arith) in
    let rest = counts_agree ps counts (omega (arith, long)) (λ v within. same (suc v) (omega (arith, within))) in
    let left : sum (n ∷ counts) ≡ n + sum counts = sum_by-cons (λ m. m) n counts in
    omega (arith, first, rest, left, sum_by-cons held_of p ps)

pub count_is_held : (counts : List ℕ) (seat : SeatView) → length counts ≡ 8 → IsAtRest counts seat → sum counts ≡ sum_by held_of seat.volumes
count_is_held counts seat long rests =
    counts_agree seat.volumes counts (rests.0 ∙ sym long) (λ v within. (rests.1 v (omega (arith, within, rests.0))).0)
