-- Altitudes compare by the length of their whole numbers, then by these digit by digit, and then by their fractions digit by digit; and
-- so their order is total, and altitudes that it doesn't tell apart have one text.
use Rattle.std.proofs.Common.{◌≡◌, ◌+◌, ◌*◌, ◌^◌, ◌<◌, ℕ, List, length, sym, ap, ◌∙◌, subst, arith}
use Rattle.std.proofs.Math.Nat.{mul-lt-mul_of_pos_right}
use Rattle.std.specs.Cmp.{IsTotalOrder, nat_cmp_total, on_total, then_total}
use Rattle.std.specs.Cmp.Lexicographic.{nat_list_cmp_total, slice_cmp}
use Rattle.std.specs.Ordering.{nat_cmp, ordering_then}
use Rattle.std.specs.declared.cmp.Ordering.{Ordering}
use Rattle.fm_altitude.specs.Comparing.{cmp_parts}
use Rattle.fm_altitude.specs.Order.{altitude_cmp, number, number_of, places_of}
use Rattle.fm_altitude.specs.Fractions.{fraction_cmp}
use Rattle.fm_altitude.specs.Grammar.{after_point, before_point, digits, fraction_of, trim_front, whole_of}
use Rattle.fm_altitude.specs.Numbers.{AreDigits-digits, digits-parts, number-append, number-below, ten_positive}
use Rattle.fm_altitude.specs.Wholes.{AreDigits-trim_front, LeadsWell-trim_front, number-trim_front, whole_cmp}

abbrev pub parts_cmp : List ℕ → List ℕ → Ordering
parts_cmp a b =
    ordering_then
    (ordering_then (nat_cmp (length (whole_of a)) (length (whole_of b))) (slice_cmp nat_cmp (whole_of a) (whole_of b)))
    (slice_cmp nat_cmp (fraction_of a) (fraction_of b))

number_of-parts : (text : List ℕ) →
    number_of text ≡ number (digits (before_point text)) * 10 ^ places_of text + number (digits (after_point text))
unfolding number_of places_of
number_of-parts text = ap number (digits-parts text) ∙ number-append (digits (before_point text)) (digits (after_point text))

spread : (w f p q : ℕ) → (w * p + f) * q ≡ w * (p * q) + f * q
spread w f p q = omega arith

spread_back : (w f p q : ℕ) → (w * q + f) * p ≡ w * (p * q) + f * p
spread_back w f p q = omega arith

-- the whole numbers first
whole_parts : (a b : List ℕ) →
    nat_cmp (number (digits (before_point a))) (number (digits (before_point b)))
    ≡ ordering_then (nat_cmp (length (whole_of a)) (length (whole_of b))) (slice_cmp nat_cmp (whole_of a) (whole_of b))
unfolding whole_of
whole_parts a b =
    let u = digits (before_point a) in
    let v = digits (before_point b) in
    rw (sym (number-trim_front u), sym (number-trim_front v))
    (whole_cmp (trim_front u) (trim_front v)
    (AreDigits-trim_front u (AreDigits-digits (before_point a))) (AreDigits-trim_front v (AreDigits-digits (before_point b)))
    (LeadsWell-trim_front u (AreDigits-digits (before_point a))) (LeadsWell-trim_front v (AreDigits-digits (before_point b))))

-- then the fractions
fraction_parts : (a b : List ℕ) →
    nat_cmp (number (digits (after_point a)) * 10 ^ places_of b) (number (digits (after_point b)) * 10 ^ places_of a)
    ≡ slice_cmp nat_cmp (fraction_of a) (fraction_of b)
unfolding fraction_of places_of
fraction_parts a b =
    fraction_cmp (digits (after_point a)) (digits (after_point b)) (AreDigits-digits (after_point a)) (AreDigits-digits (after_point b))

below_places : (text : List ℕ) → number (digits (after_point text)) < 10 ^ places_of text
unfolding places_of
below_places text = number-below (digits (after_point text)) (AreDigits-digits (after_point text))

pub altitude_cmp-parts : (a b : List ℕ) → altitude_cmp a b ≡ parts_cmp a b
unfolding altitude_cmp
altitude_cmp-parts a b =
    let wa = number (digits (before_point a)) in
    let wb = number (digits (before_point b)) in
    let fa = number (digits (after_point a)) in
    let fb = number (digits (after_point b)) in
    let p = 10 ^ places_of a in
    let q = 10 ^ places_of b in
    let low : fa * q < p * q = mul-lt-mul_of_pos_right (below_places a) (ten_positive (places_of b)) in
    let high_turned : fb * p < q * p = mul-lt-mul_of_pos_right (below_places b) (ten_positive (places_of a)) in
    let high : fb * p < p * q = omega arith in
    let left : number_of a * q ≡ wa * (p * q) + fa * q = rw (number_of-parts a) (spread wa fa p q) in
    let right : number_of b * p ≡ wb * (p * q) + fb * p = rw (number_of-parts b) (spread_back wb fb p q) in
    rw (left, right)
    (cmp_parts wa wb (p * q) (fa * q) (fb * p) low high
    ∙ ap (λ (o : Ordering). ordering_then o (nat_cmp (fa * q) (fb * p))) (whole_parts a b)
    ∙ ap (ordering_then (ordering_then (nat_cmp (length (whole_of a)) (length (whole_of b))) (slice_cmp nat_cmp (whole_of a) (whole_of b))))
    (fraction_parts a b))

parts_total : IsTotalOrder parts_cmp
parts_total =
    then_total
    (then_total (on_total (λ (text : List ℕ). length (whole_of text)) nat_cmp_total) (on_total whole_of nat_list_cmp_total))
    (on_total fraction_of nat_list_cmp_total)

pub altitude_total : IsTotalOrder altitude_cmp
altitude_total = subst IsTotalOrder (λ i a b. sym (altitude_cmp-parts a b) i) parts_total
