-- New contexts, and contexts that are cleaned up, keep the laws.
use Rattle.std.proofs.Common.{◌≡◌, ◌+◌, ◌<◌, ◌≤◌}
use Rattle.fm_ctx.proofs.Words.{ℕ, true, length, count_by, slice_get, Option, Some, None, is_some, option_map, refl, arith, nat_tests, length-set}
use Rattle.fm_ctx.proofs.Words.{CtxId, Object, Owner, one, is_id, hand_of, places, cleaning_of, Context, ContextTable, context_at, count_in, IsLawful}
use Rattle.fm_ctx.proofs.Words.{has_link, IsNew, placed, emptied, cleaned, taken_due}
use Rattle.fm_ctx.specs.Births.{allocated}
use Rattle.fm_ctx.proofs.Bags.{is_id-same, held_push, first_placed, places_taken, places_cleaned}
use Rattle.fm_ctx.proofs.Slots.{new_absent, context_at-placed, context_at-placed_other, count_placed, few_placed, context_at-here, context_at-other, there_changed}
use Rattle.fm_ctx.proofs.Counts.{links_kept}
use Rattle.fm_ctx.proofs.Moves.{lawful_by, hand_more, slot_weaker, within_hands}

-- ---- a new context

pub count_allocated : (carried : CtxId → ℕ) (t : ContextTable) (w : ℕ) (c : CtxId) (x : Context) → w < length t.hands → IsNew t.slots c
    → x.link ≡ None → (d : CtxId)
    → count_in carried (allocated t w c x) d ≡ count_in carried t d + one (is_id d c)
count_allocated carried t w c x within new bare d =
    let here = context_at-placed t.slots c x new in
    grind (arith, nat_tests, context_at-placed_other t.slots c x d new, new_absent t.slots c new, held_push t.hands w c within d, is_id-same d c)

abbrev gone : Option Context → Option Context
gone o = None

module _ {carried : CtxId → ℕ} {t : ContextTable} where
  pub allocate_keeps : (w : ℕ) (c : CtxId) (x : Context) → IsLawful carried t → w < 48 → IsNew t.slots c → x.link ≡ None
      → length (hand_of t.hands w) < 16 → IsLawful carried (allocated t w c x)
  allocate_keeps w c x law worker new bare room =
      let once : (owner : Owner) (object : Object) → count_by (has_link owner object) (placed t.slots c x) ≤ 1 = λ owner object.
      omega (arith, count_placed (has_link owner object) t.slots c x (grind (arith, nat_tests)), law.once owner object) in
      lawful_by law (once, few_placed t.slots c x new law.few) (hand_more w c law room) refl refl
      (λ d was. grind (
        arith,
        nat_tests,
        context_at-placed t.slots c x new,
        context_at-placed_other t.slots c x d new,
        new_absent t.slots c new,
        is_id-same d c,
        count_allocated carried t w c x (within_hands w law worker) new bare d,
        law.alive c,
      ))

  -- ---- cleaning up

  pub take_due_keeps : (w : ℕ) (c : CtxId) → IsLawful carried t → w < 48 → slice_get t.due 0 ≡ Some c → cleaning_of t.cleaning w ≡ None
      → IsLawful carried (taken_due t w c)
  take_due_keeps w c law worker first idle =
      let places_now = places_taken t.due t.cleaning w c first (omega (arith, law.cleaners, worker)) idle in
      let slots = slot_weaker (option_map emptied) c law (λ owner object o. grind (arith, nat_tests)) in
      lawful_by law slots (law.workers, law.small) (length-set t.cleaning w (Some c)) refl
      (λ d was. grind (arith, nat_tests, links_kept emptied t.slots c (λ x. refl) d, there_changed emptied t.slots c d, places_now d))

  -- what stands among the due, or is cleaned up, has no references
  placed_waits : (c : CtxId) → IsLawful carried t → 0 < places t.due t.cleaning c → (is_some (context_at t.slots c) ≡ true) × (count_in carried t c ≡ 0)
  placed_waits c law some = grind (arith, nat_tests, law.waits c)

  pub count_cleaning : (w : ℕ) (c : CtxId) → IsLawful carried t → w < 48 → cleaning_of t.cleaning w ≡ Some c
      → (is_some (context_at t.slots c) ≡ true) × (count_in carried t c ≡ 0)
  count_cleaning w c law worker busy =
      placed_waits c law (grind (arith, nat_tests, places_cleaned t.due t.cleaning w c (omega (arith, law.cleaners, worker)) busy c))

  -- what is due is there
  pub due_there : (c : CtxId) → IsLawful carried t → slice_get t.due 0 ≡ Some c → is_some (context_at t.slots c) ≡ true
  due_there c law first = (placed_waits c law (first_placed t.due t.cleaning c first)).0

  pub count_cleaned : (w : ℕ) (c : CtxId) → IsLawful carried t → w < 48 → cleaning_of t.cleaning w ≡ Some c → (d : CtxId)
      → count_in carried (cleaned t w c) d ≡ count_in carried t d
  count_cleaned w c law worker busy d =
      grind (arith, nat_tests, (count_cleaning w c law worker busy).1, context_at-here gone t.slots c refl, context_at-other gone t.slots c d, is_id-same d c)

  pub cleaned_keeps : (w : ℕ) (c : CtxId) → IsLawful carried t → w < 48 → cleaning_of t.cleaning w ≡ Some c → IsLawful carried (cleaned t w c)
  cleaned_keeps w c law worker busy =
      lawful_by law (slot_weaker gone c law (λ owner object o. grind (arith, nat_tests))) (law.workers, law.small) (length-set t.cleaning w None) refl (λ d was.
      grind (
        arith,
        nat_tests,
        count_cleaned w c law worker busy d,
        count_cleaning w c law worker busy,
        places_cleaned t.due t.cleaning w c (omega (arith, law.cleaners, worker)) busy d,
        context_at-here gone t.slots c refl,
        context_at-other gone t.slots c d,
        is_id-same d c,
      ))
