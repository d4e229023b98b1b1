-- The context of an owner that is linked to an object.
use Rattle.fm_ctx.proofs.Words.{ℕ, zero, suc, Bool, true, false, List, [], length, get_or, slice_get, position, count_by, Option, Some, None, is_some}
use Rattle.fm_ctx.proofs.Words.{option_map, unwrap_or, refl, sym, ap, subst, arith, eq-eqb, position_or_len, true≢false, none-some, same_Some}
use Rattle.fm_ctx.proofs.Words.{get_or_from_slice_get, CtxId, slice_get-some, count_by-updated, Object, Owner, one, is_id, references, without}
use Rattle.fm_ctx.proofs.Words.{Context, Slot, context_at, link_at, changed_slot, change_context, has_link, links, id_at, holder, with_link}
use Rattle.fm_ctx.proofs.Words.{nat_tests, sum_by-cons}
use Rattle.std.proofs.Common.{◌≡◌, ◌<◌, ◌≤◌, ◌∷◌, ◌∙◌, remove}
use Rattle.std.proofs.lemmas.List.Quantifiers.{position-Some}
use Rattle.fm_ctx.proofs.Bags.{counted_if_held, without_none}

-- where no place passes, none is counted
none_counted : {X : Type 0} (p : X → Bool) (xs : List X) → length xs ≤ position_or_len p xs → count_by p xs ≡ 0
none_counted p [] past = refl
none_counted p (x ∷ xs) past = grind (arith, nat_tests, sum_by-cons (λ y. one (p y)) x xs, none_counted p xs)

pub none_passes : {X : Type 0} (p : X → Bool) (xs : List X) → position p xs ≡ None → count_by p xs ≡ 0
none_passes p xs none = grind (arith, nat_tests, none_counted p xs)

-- what is linked there
pub record HeldBy (slots : List Slot) (owner : Owner) (object : Object) (c : CtxId) : Type 0 where
  pub slot : Slot
  pub there : slice_get slots c.slot ≡ Some slot
  pub named : c.generation ≡ slot.generation
  pub context : Context
  pub has : slot.context ≡ Some context
  pub links_there : links owner object (Some context) ≡ true

linked_context : (owner : Owner) (object : Object) (o : Option Context) → links owner object o ≡ true → (x : Context) × (o ≡ Some x)
linked_context owner object None has = absurd (true≢false (sym has))
linked_context owner object (Some x) has = (x, refl)

module _ (slots : List Slot) (owner : Owner) (object : Object) where
  -- nobody is linked there
  pub holder_none : holder slots owner object ≡ None → count_by (has_link owner object) slots ≡ 0
  unfolding holder
  holder_none none = none_passes (has_link owner object) slots (grind arith)

  held_at : (k : ℕ) → position (has_link owner object) slots ≡ Some k → HeldBy slots owner object (id_at slots k)
  held_at k found =
      let within : k < length slots = (position-Some (has_link owner object) slots k (record { generation = 0; context = None }) found).0 in
      let s = slice_get-some slots k within in
      let passes : has_link owner object s.0 ≡ true =
      ap (has_link owner object) (sym (get_or_from_slice_get slots k s.0 s.0 s.1)) ∙ (position-Some (has_link owner object) slots k s.0 found).1 in
      let x = linked_context owner object s.0.context passes in
      record {
        slot = s.0;
        there = s.1;
        named = ap (λ (o : Option Slot). unwrap_or (option_map (λ (r : Slot). r.generation) o) 0) s.1;
        context = x.0;
        has = x.1;
        links_there = sym (ap (links owner object) x.1) ∙ passes;
      }

  pub holder_some : (c : CtxId) → holder slots owner object ≡ Some c → HeldBy slots owner object c
  unfolding holder
  holder_some c is = unmapped (position (has_link owner object) slots) refl is
    where
      unmapped : (o : Option ℕ) → position (has_link owner object) slots ≡ o → option_map (id_at slots) o ≡ Some c → HeldBy slots owner object c
      unmapped None found is = absurd (none-some c is)
      unmapped (Some k) found is = subst (HeldBy slots owner object) (same_Some (id_at slots k) c is) (held_at k found)

  pub holder_context : (c : CtxId) (h : HeldBy slots owner object c) → context_at slots c ≡ Some h.context
  unfolding context_at
  holder_context c h = rw (h.there, eq-eqb c.generation h.slot.generation h.named) h.has

  -- it has a link
  pub holder_linked : (c : CtxId) → holder slots owner object ≡ Some c → is_some (link_at slots c) ≡ true
  holder_linked c is = let h = holder_some c is in grind (arith, nat_tests, holder_context c h, h.links_there)

  -- once its link is gone, nobody is linked there
  pub none_after_unlink : (c : CtxId) → holder slots owner object ≡ Some c → count_by (has_link owner object) slots ≤ 1
      → count_by (has_link owner object) (change_context (option_map (with_link None)) slots c) ≡ 0
  none_after_unlink c is once =
      let h = holder_some c is in
      let step = count_by-updated (has_link owner object) (changed_slot (option_map (with_link None)) c) slots c.slot h.slot h.there in
      grind (arith, nat_tests, step, h.has, h.links_there, h.named)

-- ---- where a reference stands in a list

without_at : (c : CtxId) (ids : List CtxId) (k : ℕ) (d : CtxId) → k < length ids → is_id c (get_or ids k d) ≡ true
    → ((j : ℕ) → j < k → is_id c (get_or ids j d) ≡ false)
    → remove ids k ≡ without c ids
unfolding without
without_at c [] k d within is before = grind arith
without_at c (e ∷ ids) zero d within is before = grind (arith, nat_tests)
without_at c (e ∷ ids) (suc k) d within is before =
    rw (before 0 (omega arith)) (ap (λ rest. e ∷ rest) (without_at c ids k d (omega (arith, within)) is (λ j below. before (suc j) (omega (arith, below)))))

-- the one that was found goes
pub without_found : (c : CtxId) (ids : List CtxId) (k : ℕ) → position (is_id c) ids ≡ Some k → remove ids k ≡ without c ids
without_found c ids k found =
    let at = position-Some (is_id c) ids k c found in
    without_at c ids k c at.0 at.1 at.2

-- where none was found nothing goes
pub without_absent : (c : CtxId) (ids : List CtxId) → position (is_id c) ids ≡ None → without c ids ≡ ids
unfolding references
without_absent c ids none = grind (arith, nat_tests, none_passes (is_id c) ids none, counted_if_held ids c, without_none c ids)
