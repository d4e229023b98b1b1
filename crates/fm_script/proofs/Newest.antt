-- The number of a context that is the last one of its slot.
use Rattle.std.proofs.Common.{◌≡◌, ◌<◌, ◌≤◌, ◌+◌, ◌-◌, ◌∙◌, ℕ, Bool, true, false, cond, nat_lt, List, length, reverse, Some, None, sym, ap, refl, arith, get_or}
use Rattle.std.proofs.lemmas.Bool.Decides.{nat_tests}
use Rattle.std.proofs.lemmas.Grind.{common_steps}
use Rattle.std.proofs.lemmas.List.{get_or-reverse, length-reverse}
use Rattle.std.proofs.lemmas.List.Sums.{position_or_len_is}
use Rattle.std.proofs.lemmas.Option.{get_or_from_slice_get, slice_get-get_or, slice_get_within}
use Rattle.std.specs.List.{position, position_or_len, slice_get}
use Rattle.fm_types.specs.declared.ids.CtxId.{CtxId}
use Rattle.fm_script.specs.ContextLists.{AreNewest, is_context, number_in}

same_slot : (c own : CtxId) → is_context c own ≡ true → own.slot ≡ c.slot
same_slot c own is = grind (arith, nat_tests, common_steps)

within_some : (i len : ℕ) → i < len → cond (nat_lt i len) (Some i) None ≡ Some i
within_some i len in_it = grind (arith, nat_tests, common_steps)

false_unless_true : (b : Bool) → (b ≡ true → ⊥) → b ≡ false
false_unless_true true isnt = absurd (isnt refl)
false_unless_true false isnt = refl

-- what a look-up found in a list that is another one
pub found_at : {X : Type 0} (xs ys : List X) (k : ℕ) (x : X) → ys ≡ xs → true ≡ nat_lt k (length ys) → x ≡ get_or ys k x → slice_get xs k ≡ Some x
found_at xs ys k x is inside at =
    let low : k < length ys = grind (arith, nat_tests) in
    rw (← is) (slice_get-get_or ys k x low ∙ ap Some (sym at))

module _ (c own : CtxId) (ids : List CtxId) (newest : List ℕ) (n : ℕ) (are : AreNewest ids newest)
    (kept : slice_get newest c.slot ≡ Some n) (there : slice_get ids n ≡ Some own) (is : is_context c own ≡ true) where
  -- what came later has another slot
  later_differs : (k : ℕ) → k < length ids → n < k → is_context c (get_or ids k own) ≡ false
  later_differs k in_it later =
      false_unless_true (is_context c (get_or ids k own))
      (λ same.
      let slot = same_slot c (get_or ids k own) same in
      let low : k ≤ n = are k (get_or ids k own) n (slice_get-get_or ids k own in_it) (rw slot kept) in
      omega (arith, low, later))

  found : position_or_len (is_context c) (reverse ids) ≡ length ids - (n + 1)
  found =
      let in_it : n < length ids = slice_get_within ids n own there in
      position_or_len_is (is_context c) (reverse ids) (length ids - (n + 1)) own (omega (arith, length-reverse ids))
      (λ k before.
      rw (get_or-reverse ids k own (omega (arith, before))) (later_differs (length ids - 1 - k) (omega (arith, before, in_it)) (omega (arith, before, in_it))))
      (λ inside.
      let at : length ids - 1 - (length ids - (n + 1)) ≡ n = omega (arith, in_it) in
      rw (get_or-reverse ids (length ids - (n + 1)) own (omega (arith, in_it)), at, get_or_from_slice_get ids n own own there) is)

  pub newest_is : number_in c ids ≡ Some n
  newest_is =
      let in_it : n < length ids = slice_get_within ids n own there in
      let back : length ids - ((length ids - (n + 1)) + 1) ≡ n = omega (arith, in_it) in
      let place_is : position (is_context c) (reverse ids) ≡ Some (length ids - (n + 1)) =
      rw (found, length-reverse ids) (within_some (length ids - (n + 1)) (length ids) (omega (arith, in_it))) in
      rw (place_is, back) refl
