-- Changes that keep the laws of contexts.
use Rattle.fm_ctx.proofs.Words.{ℕ, true, eqb, List, [], length, All, count_by, Option, Some, None, is_some, option_map, refl, ap₂, arith, nat_tests}
use Rattle.fm_ctx.proofs.Words.{inl, inr, length-set, cases_Bool, and_parts, CtxId, Object, Owner, one, is_id, holds, hand_of, without, places}
use Rattle.fm_ctx.proofs.Words.{same_object, same_owner, Context, Slot, ContextTable, context_at, link_at, count_in, changed_slot, change_context}
use Rattle.fm_ctx.proofs.Words.{due_after, IsLawful, has_link, links, grabbed, handed_on, released, with_link, IsFree, IfSome, linked, unlinked}
use Rattle.fm_ctx.proofs.Words.{unlinked_into, newly, with_body, rewritten, length-updated}
use Rattle.std.proofs.Common.{◌≡◌, ◌+◌, ◌<◌, ◌≤◌, ◌&&◌, ◌∷◌, ◌++◌, ◌∙◌}
use Rattle.fm_ctx.proofs.Bags.{is_id-same, IsSmall, small_push, small_without, places_push, held_push, held_without}
use Rattle.fm_ctx.proofs.Objects.{same_object-same, same_owner-same}
use Rattle.fm_ctx.proofs.Slots.{there_changed, count_changed, count_changed_one, slot_of_context}
use Rattle.fm_ctx.proofs.Counts.{count_grabbed, count_released, count_linked, count_unlinked, links_unlinked, links_kept, due_after_fresh, fresh_after, fresh_each}

-- what the laws say of one id: of its context, its count and its places
abbrev pub Rests : Option Context → ℕ → ℕ → Type 0
Rests o n places_now = (o ≡ None → n ≡ 0) × (places_now ≡ one (is_some o && eqb n 0))

-- of the slots and of the hands, whatever the counts
abbrev pub SlotsFit : List Slot → Type 0
SlotsFit slots = ((owner : Owner) (object : Object) → count_by (has_link owner object) slots ≤ 1) × (length slots ≤ 65536)

abbrev pub HandsFit : List (List CtxId) → Type 0
HandsFit hands = (length hands ≡ 48) × All IsSmall hands

pub lawful_by : {carried carried' : CtxId → ℕ} {t t' : ContextTable} → IsLawful carried t → SlotsFit t'.slots → HandsFit t'.hands
    → length t'.cleaning ≡ length t.cleaning → length t'.left ≡ length t.left
    → ((d : CtxId) → Rests (context_at t.slots d) (count_in carried t d) (places t.due t.cleaning d)
    → Rests (context_at t'.slots d) (count_in carried' t' d) (places t'.due t'.cleaning d))
    → IsLawful carried' t'
lawful_by law slots hands cleaners leavers each = record {
  alive = λ d. (each d (law.alive d, law.waits d)).0;
  waits = λ d. (each d (law.alive d, law.waits d)).1;
  once = slots.0;
  workers = hands.0;
  cleaners = cleaners ∙ law.cleaners;
  leavers = leavers ∙ law.leavers;
  small = hands.1;
  few = slots.1;
}

-- the places where one reference to a context goes
due_places : (carried : CtxId → ℕ) (t : ContextTable) (carried' : CtxId → ℕ) (t' : ContextTable) (c : CtxId)
    → ((d : CtxId) → count_in carried' t' d + one (is_id d c) ≡ count_in carried t d) → (d : CtxId)
    → places (due_after carried t c) t.cleaning d ≡ places t.due t.cleaning d + newly (count_in carried t d) (count_in carried' t' d)
due_places carried t carried' t' c step d =
    let fresh = fresh_after (count_in carried t c) c in
    rw (due_after_fresh carried t c) (omega (arith, places_push t.due t.cleaning fresh d, fresh_each carried t carried' t' c step d))

-- what making a link requires, as equations
pub record FreeLink (t : ContextTable) (c : CtxId) (object : Object) : Type 0 where
  pub context : Context
  pub there : context_at t.slots c ≡ Some context
  pub bare : context.link ≡ None
  pub none : count_by (has_link context.owner object) t.slots ≡ 0

module _ {carried : CtxId → ℕ} {t : ContextTable} where
  -- ---- the lists

  pub hand_more : (w : ℕ) (c : CtxId) → IsLawful carried t → length (hand_of t.hands w) < 16 → HandsFit (grabbed t w c).hands
  hand_more w c law room = (length-set t.hands w (hand_of t.hands w ++ c ∷ []) ∙ law.workers, small_push t.hands w c law.small room)

  hand_fewer : (w : ℕ) (c : CtxId) → IsLawful carried t → w < length t.hands → holds (hand_of t.hands w) c ≡ true → HandsFit (handed_on t w c).hands
  hand_fewer w c law within has =
      (length-set t.hands w (without c (hand_of t.hands w)) ∙ law.workers, small_without t.hands w c law.small within has)

  few_changed : (f : Option Context → Option Context) (c : CtxId) → IsLawful carried t → length (change_context f t.slots c) ≤ 65536
  few_changed f c law = omega (arith, length-updated (changed_slot f c) t.slots c.slot, law.few)

  -- a change that makes no link
  pub slot_weaker : (f : Option Context → Option Context) (c : CtxId) → IsLawful carried t
      → ((owner : Owner) (object : Object) (o : Option Context) → links owner object (f o) ≡ true → links owner object o ≡ true)
      → SlotsFit (change_context f t.slots c)
  slot_weaker f c law weaker = (
    λ owner object. let less = count_changed (has_link owner object) f t.slots c (λ s there. grind (arith, nat_tests, weaker owner object s.context)) in
        omega (arith, law.once owner object, less),
    few_changed f c law,
  )

  pub within_hands : (w : ℕ) → IsLawful carried t → w < 48 → w < length t.hands
  within_hands w law worker = omega (arith, law.workers, worker)

  -- ---- references

  -- one more reference to a context that has one
  pub reference_keeps : (w : ℕ) (c : CtxId) → IsLawful carried t → w < 48 → 0 < count_in carried t c
      → length (hand_of t.hands w) < 16 → IsLawful carried (grabbed t w c)
  reference_keeps w c law worker live room =
      let counts = count_grabbed carried t w c (within_hands w law worker) in
      lawful_by law (law.once, law.few) (hand_more w c law room) refl refl (λ d was. grind (arith, nat_tests, counts d, is_id-same d c))

  -- a completion takes a reference along
  pub carry_keeps : (carried' : CtxId → ℕ) (w : ℕ) (c : CtxId) → IsLawful carried t → w < 48 → holds (hand_of t.hands w) c ≡ true
      → ((d : CtxId) → carried' d ≡ carried d + one (is_id d c)) → IsLawful carried' (handed_on t w c)
  carry_keeps carried' w c law worker has more =
      let within = within_hands w law worker in
      lawful_by law (law.once, law.few) (hand_fewer w c law within has) refl refl
      (λ d was. grind (arith, nat_tests, held_without t.hands w c within has d, more d))

  -- and brings it back
  pub bring_keeps : (carried' : CtxId → ℕ) (w : ℕ) (c : CtxId) → IsLawful carried t → w < 48
      → ((d : CtxId) → carried d ≡ carried' d + one (is_id d c)) → length (hand_of t.hands w) < 16 → IsLawful carried' (grabbed t w c)
  bring_keeps carried' w c law worker fewer room =
      let more = held_push t.hands w c (within_hands w law worker) in
      lawful_by law (law.once, law.few) (hand_more w c law room) refl refl (λ d was. grind (arith, nat_tests, more d, fewer d))

  -- a reference goes
  pub release_keeps : (w : ℕ) (c : CtxId) → IsLawful carried t → w < 48 → holds (hand_of t.hands w) c ≡ true
      → IsLawful carried (released carried t w c)
  release_keeps w c law worker has =
      let within = within_hands w law worker in
      let counts = count_released carried t w c within has in
      lawful_by law (law.once, law.few) (hand_fewer w c law within has) refl refl
      (λ d was. grind (arith, nat_tests, counts d, due_places carried t carried (released carried t w c) c counts d))

  -- ---- links

  -- a link goes, and with it a reference
  pub unlink_keeps : (c : CtxId) → IsLawful carried t → is_some (link_at t.slots c) ≡ true
      → IsLawful carried (unlinked carried t c)
  unlink_keeps c law has =
      let counts = count_unlinked carried t c has in
      lawful_by law (slot_weaker (option_map (with_link None)) c law (λ owner object o. grind (arith, nat_tests))) (law.workers, law.small) refl refl
      (λ d was. grind (arith, nat_tests, counts d, there_changed (with_link None) t.slots c d, due_places carried t carried (unlinked carried t c) c counts d))

  -- a link goes, and its reference goes to a hand
  pub unlink_into_keeps : (w : ℕ) (c : CtxId) → IsLawful carried t → w < 48 → is_some (link_at t.slots c) ≡ true
      → length (hand_of t.hands w) < 16 → IsLawful carried (unlinked_into t w c)
  unlink_into_keeps w c law worker has room =
      let more = held_push t.hands w c (within_hands w law worker) in
      lawful_by law (slot_weaker (option_map (with_link None)) c law (λ owner object o. grind (arith, nat_tests))) (hand_more w c law room) refl refl
      (λ d was. grind (arith, nat_tests, links_unlinked t.slots c has d, more d, there_changed (with_link None) t.slots c d))

  -- a body is written
  pub body_keeps : (c : CtxId) (bytes : List ℕ) → IsLawful carried t → IsLawful carried (rewritten t c bytes)
  body_keeps c bytes law =
      lawful_by law (slot_weaker (option_map (with_body bytes)) c law (λ owner object o. grind (arith, nat_tests))) (law.workers, law.small) refl refl
      (λ d was. grind (arith, nat_tests, links_kept (with_body bytes) t.slots c (λ x. refl) d, there_changed (with_body bytes) t.slots c d))

  pub free_link : (c : CtxId) (object : Object) → IsLawful carried t → 0 < count_in carried t c → IsFree t c object → FreeLink t c object
  free_link c object law live free = at_option (context_at t.slots c) refl free
    where
      at_option : (o : Option Context) → context_at t.slots c ≡ o
          → IfSome o (λ (x : Context). (x.link ≡ None) × (count_by (has_link x.owner object) t.slots ≡ 0)) → FreeLink t c object
      at_option None there free = absurd (omega (arith, live, law.alive c there))
      at_option (Some x) there free = record { context = x; there = there; bare = free.0; none = free.1 }

  -- of the owner's contexts none was linked to the object
  once_linked : (c : CtxId) (object : Object) → IsLawful carried t → (free : FreeLink t c object) → (owner : Owner) (other : Object)
      → count_by (has_link owner other) (change_context (option_map (with_link (Some object))) t.slots c) ≤ 1
  once_linked c object law free owner other =
      let x = free.context in
      elim (cases_Bool (links owner other (Some (with_link (Some object) x)))) [
        | inl is ↦
            let parts = and_parts (same_object other object) (same_owner owner x.owner) is in
            let here : count_by (has_link owner other) t.slots ≡ 0 =
            ap₂ (λ (o : Owner) (b : Object). count_by (has_link o b) t.slots) (same_owner-same owner x.owner parts.1) (same_object-same other object parts.0)
            ∙ free.none in
            omega (arith, here, count_changed_one (has_link owner other) (option_map (with_link (Some object))) t.slots c)
        | inr unlike ↦
            omega (
              arith,
              law.once owner other,
              count_changed (has_link owner other) (option_map (with_link (Some object))) t.slots c
                  (λ s slot has. grind (arith, nat_tests, slot_of_context t.slots c x s free.there slot)),
            )
      ]

  -- a link is made
  pub link_keeps : (c : CtxId) (object : Object) → IsLawful carried t → 0 < count_in carried t c → IsFree t c object → IsLawful carried (linked t c object)
  link_keeps c object law live is_free =
      let free = free_link c object law live is_free in
      let g = with_link (Some object) in
      lawful_by law (once_linked c object law free, few_changed (option_map g) c law) (law.workers, law.small) refl refl
      (λ d was. grind (arith, nat_tests, count_linked carried t c free.context object free.there free.bare d, there_changed g t.slots c d, is_id-same d c))
