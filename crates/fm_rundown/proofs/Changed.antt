-- What a seat knows after one step, and after `enter` took its pass back.
use Rattle.fm_rundown.proofs.Words.{cond-true, cond-false, le-ltb, false_from_ne_true, true≢false, get_or-set_same, set-set, set-get_or}
use Rattle.fm_rundown.proofs.Words.{VolumeView, SeatView, no_pass, volume_of, changed, is_closing_word, gained, tried, undone, saw_closing}
use Rattle.fm_rundown.proofs.Words.{most_passes, entered}
use Rattle.std.proofs.Common.{◌≡◌, ◌+◌, ◌-◌, ◌<◌, ◌≤◌, ℕ, Bool, true, false, nat_lt, length, set, ap, sym, ◌∙◌, arith, subst}

-- the changed volume
pub volume_changed : (v : ℕ) (change : VolumeView → VolumeView) (seat : SeatView) → v < length seat.volumes
    → volume_of v (changed v change seat) ≡ change (volume_of v seat)
volume_changed v change seat within = get_or-set_same seat.volumes v (change (volume_of v seat)) no_pass within

-- two changes of one volume are one
changed_again : (v : ℕ) (first second both : VolumeView → VolumeView) (seat : SeatView) → v < length seat.volumes
    → second (first (volume_of v seat)) ≡ both (volume_of v seat)
    → changed v second (changed v first seat) ≡ changed v both seat
changed_again v first second both seat within same =
    let once = set seat.volumes v (first (volume_of v seat)) in
    ap (λ p. record { volumes = set once v (second p); to_make = seat.to_make }) (volume_changed v first seat within)
    ∙ ap (λ volumes. record { volumes = volumes; to_make = seat.to_make })
    (set-set seat.volumes v (first (volume_of v seat)) (second (first (volume_of v seat))))
    ∙ ap (λ p. record { volumes = set seat.volumes v p; to_make = seat.to_make }) same

-- a change to what was there is none
unchanged : (v : ℕ) (seat : SeatView) → changed v (λ p. p) seat ≡ seat
unchanged v seat = ap (λ volumes. record { volumes = volumes; to_make = seat.to_make }) (set-get_or seat.volumes v no_pass)

undone_tried : (p : VolumeView) → undone (tried p) ≡ p
undone_tried p = let back : p.tentative + 1 - 1 ≡ p.tentative = omega arith in ap (λ n. record p { tentative = n }) back

-- ---- `enter`, by what it found ----

entered_closing : (found : ℕ) (p : VolumeView) → is_closing_word found ≡ true → entered found p ≡ saw_closing (tried p)
entered_closing found p is = cond-true (is_closing_word found) _ _ is

entered_full : (found : ℕ) (p : VolumeView) → is_closing_word found ≡ false → most_passes ≤ p.held → entered found p ≡ tried p
entered_full found p is full =
    cond-false (is_closing_word found) _ _ is ∙ cond-false (nat_lt p.held most_passes) (gained p) (tried p) (le-ltb p.held most_passes full)

-- its pass is tentative where it is refused
pub tried_at_closing : (v found : ℕ) (seat : SeatView) → v < length seat.volumes → is_closing_word found ≡ true
    → 0 < (volume_of v (changed v (entered found) seat)).tentative
tried_at_closing v found seat within is =
    let p = volume_of v seat in
    subst (λ (q : VolumeView). 0 < q.tentative) (sym (volume_changed v (entered found) seat within ∙ entered_closing found p is)) (omega arith)

pub tried_at_full : (v found : ℕ) (seat : SeatView) → v < length seat.volumes → is_closing_word found ≡ false → most_passes ≤ (volume_of v seat).held
    → 0 < (volume_of v (changed v (entered found) seat)).tentative
tried_at_full v found seat within is full =
    let p = volume_of v seat in
    subst (λ (q : VolumeView). 0 < q.tentative) (sym (volume_changed v (entered found) seat within ∙ entered_full found p is full)) (omega arith)

-- taken back, only what was seen stays
pub undone_at_closing : (v found : ℕ) (seat : SeatView) → v < length seat.volumes → is_closing_word found ≡ true
    → changed v undone (changed v (entered found) seat) ≡ changed v saw_closing seat
undone_at_closing v found seat within is =
    let p = volume_of v seat in
    changed_again v (entered found) undone saw_closing seat within (ap undone (entered_closing found p is) ∙ ap saw_closing (undone_tried p))

pub undone_at_full : (v found : ℕ) (seat : SeatView) → v < length seat.volumes → is_closing_word found ≡ false → most_passes ≤ (volume_of v seat).held
    → changed v undone (changed v (entered found) seat) ≡ seat
undone_at_full v found seat within is full =
    let p = volume_of v seat in
    changed_again v (entered found) undone (λ q. q) seat within (ap undone (entered_full found p is full) ∙ undone_tried p) ∙ unchanged v seat

-- a volume that wasn't found closing hadn't been seen closing
pub unseen : (found : ℕ) (seen : Bool) → (seen ≡ true → is_closing_word found ≡ true) → is_closing_word found ≡ false → seen ≡ false
unseen found seen tells is = false_from_ne_true seen (λ was. true≢false (sym (tells was) ∙ is))
