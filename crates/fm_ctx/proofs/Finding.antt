-- A seat is found along its chain.
use Rattle.fm_ctx.proofs.Words.{ℕ, zero, suc, Bool, true, false, List, [], length, get_or, position, count_by, Option, Some, None, refl, sym, ap}
use Rattle.fm_ctx.proofs.Words.{arith, inl, inr, lt-ltb, le-ltb, IfSome, position_or_len, cases_order, sum_by-cons, get_or-le-sum_by, Seat, one}
use Rattle.fm_ctx.proofs.Words.{chain_of, is_seat, stands, last_below, end_of, nat_tests, is_on, IsAbove}
use Rattle.std.proofs.Common.{◌≡◌, ◌<◌, ◌≤◌, ◌∷◌, ◌∙◌}
use Rattle.std.proofs.lemmas.List.Sums.{position_or_len_is}
use Rattle.fm_ctx.proofs.Objects.{same_object-same}
use Rattle.fm_ctx.proofs.Lasts.{IsLast, last_some, last_none}

-- where one is counted at most, the place that passes is the one that is found
found_at : {X : Type 0} (p : X → Bool) (xs : List X) (k : ℕ) (d : X) → count_by p xs ≤ 1 → k < length xs → p (get_or xs k d) ≡ true → position_or_len p xs ≡ k
found_at p [] k d few within passes = grind arith
found_at p (x ∷ xs) zero d few within passes = grind (arith, nat_tests)
found_at p (x ∷ xs) (suc k) d few within passes =
    grind (arith, nat_tests, sum_by-cons (λ y. one (p y)) x xs, get_or-le-sum_by (λ y. one (p y)) xs k d, found_at p xs k d)

pub position_at : {X : Type 0} (p : X → Bool) (xs : List X) (k : ℕ) (d : X) → count_by p xs ≤ 1 → k < length xs
    → p (get_or xs k d) ≡ true → Some k ≡ position p xs
position_at p xs k d few within passes = rw (found_at p xs k d few within passes, lt-ltb k (length xs) within) refl

pub position_none : {X : Type 0} (p : X → Bool) (xs : List X) (d : X) → ((k : ℕ) → k < length xs → p (get_or xs k d) ≡ false) → None ≡ position p xs
position_none p xs d fails =
    rw (position_or_len_is p xs (length xs) d (omega arith) fails (λ within. absurd (omega (arith, within))), le-ltb (length xs) (length xs) (omega arith)) refl

-- a slot that isn't on the chain of a seat hasn't the seat
not_there : (seat : Seat) (o : Option Seat) → is_on (chain_of seat) o ≡ false → is_seat seat o ≡ false
not_there seat None off = refl
not_there seat (Some other) off = grind (arith, nat_tests, same_object-same seat.object other.object)

-- how far a walk along the chain of a seat came: nothing that it passed has the seat
pub record IsPassed (seats : List (Option Seat)) (seat : Seat) (next : Option ℕ) : Type 0 where
  pub upto : ℕ
  pub within : upto ≤ length seats
  pub next_is : next ≡ last_below (stands seats (chain_of seat)) upto
  pub passed : (k : ℕ) → upto ≤ k → k < length seats → is_seat seat (get_or seats k None) ≡ false

-- the slot that comes next
pub passed_slot : {seats : List (Option Seat)} {seat : Seat} {next : Option ℕ} (slot : ℕ) → (p : IsPassed seats seat next) → next ≡ Some slot
    → IsLast (stands seats (chain_of seat)) p.upto slot
passed_slot {seats} {seat} slot p is = last_some (stands seats (chain_of seat)) p.upto slot (sym p.next_is ∙ is)

pub passed_within : {seats : List (Option Seat)} {seat : Seat} {next : Option ℕ} (slot : ℕ) → IsPassed seats seat next → next ≡ Some slot → slot < length seats
passed_within slot p is = omega (arith, (passed_slot slot p is).below, p.within)

-- it hasn't the seat
pub passed_more : {seats : List (Option Seat)} {seat : Seat} {next : Option ℕ} (slot : ℕ) (next' : Option ℕ) → IsPassed seats seat next → next ≡ Some slot
    → is_seat seat (get_or seats slot None) ≡ false → next' ≡ last_below (stands seats (chain_of seat)) slot → IsPassed seats seat next'
passed_more {seats} {seat} slot next' p is lacks leads = record {
  upto = slot;
  within = omega (arith, passed_within slot p is);
  next_is = leads;
  passed = λ k past under.
      elim (cases_order k slot) [
        | inl same ↦ ap (λ n. is_seat seat (get_or seats n None)) same ∙ lacks
        | inr (inl below) ↦ absurd (omega (arith, past, below))
        | inr (inr above) ↦ grind (arith, not_there seat (get_or seats k None), (passed_slot slot p is).after k above, p.passed k)
      ];
}

-- none comes next
pub passed_all : {seats : List (Option Seat)} {seat : Seat} {next : Option ℕ} → IsPassed seats seat next → next ≡ None → None ≡ position (is_seat seat) seats
passed_all {seats} {seat} p is =
    let none = last_none (stands seats (chain_of seat)) p.upto (sym p.next_is ∙ is) in
    position_none (is_seat seat) seats None (λ k within. grind (arith, not_there seat (get_or seats k None), none k, p.passed k))

-- ---- the walk to what is above a slot

end_within : (test : ℕ → Bool) (slot all : ℕ) (above : Option ℕ) → IfSome above (λ (a : ℕ). (slot < a) × (a < all) × (test a ≡ true)) → end_of above all ≤ all
end_within test slot all None there = omega arith
end_within test slot all (Some a) there = omega (arith, there.1)

module _ (test : ℕ → Bool) (slot all : ℕ) (above : Option ℕ) (there : IfSome above (λ (a : ℕ). (slot < a) × (a < all) × (test a ≡ true)))
    {next : Option ℕ} (leads : next ≡ last_below test (end_of above all)) where
  pub climbed : (place : ℕ) → next ≡ Some place → (place < all) × (test place ≡ true)
  climbed place is =
      let l = last_some test (end_of above all) place (sym leads ∙ is) in
      (omega (arith, l.below, end_within test slot all above there), l.passes)

  -- it ends at a slot that isn't above
  pub above_found : (place : ℕ) → next ≡ Some place → place ≤ slot → IsAbove test slot all above
  above_found place is under = record {
    there = there;
    between = λ k past before. (last_some test (end_of above all) place (sym leads ∙ is)).after k (omega (arith, past, under)) before;
  }

  -- or at the chain's end
  pub above_last : next ≡ None → IsAbove test slot all above
  above_last is = record { there = there; between = λ k past before. last_none test (end_of above all) (sym leads ∙ is) k before }
