-- What `cmp` of two numbers answers, when they are shifted, scaled or put together of a high and a low part.
use Rattle.std.proofs.Common.{◌≡◌, ◌+◌, ◌*◌, ◌≤◌, ◌<◌, ℕ, refl, arith}
use Rattle.std.proofs.Math.Nat.{mul-le-mul_right, mul-lt-mul_of_pos_right}
use Rattle.std.proofs.lemmas.Bool.Decides.{nat_tests}
use Rattle.std.proofs.lemmas.Cmp.{by_ranked, ranked}
use Rattle.std.specs.Ordering.{nat_cmp, ordering_then}
use Rattle.std.specs.declared.cmp.Ordering.TheVariants.{Less, Equal, Greater}

pub nat_cmp_less : (a b : ℕ) → a < b → nat_cmp a b ≡ Less
nat_cmp_less a b h = grind (arith, nat_tests)

pub nat_cmp_equal : (a b : ℕ) → a ≡ b → nat_cmp a b ≡ Equal
nat_cmp_equal a b h = grind (arith, nat_tests)

pub nat_cmp_greater : (a b : ℕ) → b < a → nat_cmp a b ≡ Greater
nat_cmp_greater a b h = grind (arith, nat_tests)

-- two comparisons answer the same where their numbers stand alike
pub same_cmp : (a b x y : ℕ) → (a < b → x < y) → (a ≡ b → x ≡ y) → (b < a → y < x) → nat_cmp x y ≡ nat_cmp a b
same_cmp a b x y less equal greater =
    by_ranked (a < b) (a ≡ b) (b < a) (nat_cmp a b) (ranked a b _ refl)
    (λ is h. rw is (nat_cmp_less x y (less h)))
    (λ is h. rw is (nat_cmp_equal x y (equal h)))
    (λ is h. rw is (nat_cmp_greater x y (greater h)))

-- a high part counts before a low part
pub cmp_parts : (a b p r s : ℕ) → r < p → s < p → nat_cmp (a * p + r) (b * p + s) ≡ ordering_then (nat_cmp a b) (nat_cmp r s)
cmp_parts a b p r s low high =
    by_ranked (a < b) (a ≡ b) (b < a) (nat_cmp a b) (ranked a b _ refl)
    (λ is h. rw is (let step : (a + 1) * p ≤ b * p = mul-le-mul_right p (omega arith) in nat_cmp_less (a * p + r) (b * p + s) (omega arith)))
    (λ is h. rw is (same_cmp r s (a * p + r) (b * p + s) (λ k. rw h (omega arith)) (λ k. rw h (omega arith)) (λ k. rw h (omega arith))))
    (λ is h. rw is (let step : (b + 1) * p ≤ a * p = mul-le-mul_right p (omega arith) in nat_cmp_greater (a * p + r) (b * p + s) (omega arith)))

-- a common factor doesn't count
pub cmp_scale : (p r s : ℕ) → 0 < p → nat_cmp (r * p) (s * p) ≡ nat_cmp r s
cmp_scale p r s positive =
    same_cmp r s _ _ (λ h. mul-lt-mul_of_pos_right h positive) (λ h. rw h refl) (λ h. mul-lt-mul_of_pos_right h positive)
