-- Setting, finding and deleting contexts keep the laws.
use Rattle.std.proofs.Common.{◌≡◌, ◌<◌, ◌&&◌, ◌∙◌}
use Rattle.fm_ctx.proofs.Words.{ℕ, Bool, true, false, cond, length, count_by, Option, Some, None, is_some, IfSome, option_map, refl, sym, ap, subst}
use Rattle.fm_ctx.proofs.Words.{arith, CtxId, Object, Owner, holds, hand_of, held, Context, ContextTable, context_at, link_at, count_in}
use Rattle.fm_ctx.proofs.Words.{change_context, IsLawful, has_link, grabbed, with_link, holder, unlinked_for, IsFree, List, Slot, nat_tests}
use Rattle.fm_ctx.specs.declared.set_reply.SetMode.{SetMode}
use Rattle.fm_ctx.specs.declared.set_reply.SetMode.TheVariants.{Keep, Replace}
use Rattle.fm_ctx.specs.Bags.{is_hand_full}
use Rattle.fm_ctx.specs.Links.{kept_after, set_mode_after, set_after, delete_after, IsUnlinkedOf}
use Rattle.fm_ctx.proofs.Bags.{is_id-same, held_push, counted_in_hand}
use Rattle.fm_ctx.proofs.Slots.{context_at-other}
use Rattle.fm_ctx.proofs.Counts.{count_linked_one, count_held}
use Rattle.fm_ctx.proofs.Moves.{within_hands, reference_keeps, unlink_keeps, unlink_into_keeps, link_keeps}
use Rattle.fm_ctx.proofs.Holders.{holder_none, holder_linked, none_after_unlink}

-- there is room in the hand for what is wanted
abbrev pub HasRoom : Bool → ContextTable → ℕ → Type 0
HasRoom wants t w = wants ≡ true → length (hand_of t.hands w) < 16

pub room_if_wanted : (wants : Bool) (t : ContextTable) (w : ℕ) → (wants && is_hand_full t.hands w) ≡ false → HasRoom wants t w
room_if_wanted wants t w lacks is = grind (arith, nat_tests)

module _ {carried : CtxId → ℕ} {t : ContextTable} where
  -- the linked one stays
  pub kept_keeps : (w : ℕ) (wants : Bool) (old : CtxId) → IsLawful carried t → w < 48 → is_some (link_at t.slots old) ≡ true → HasRoom wants t w
      → IsLawful carried (kept_after t w wants old)
  kept_keeps w true old law worker has room = reference_keeps w old law worker (count_linked_one carried t old has) (room refl)
  kept_keeps w false old law worker has room = law

  -- the linked one loses its link
  pub unlink_for_keeps : (w : ℕ) (wants : Bool) (old : CtxId) → IsLawful carried t → w < 48 → is_some (link_at t.slots old) ≡ true → HasRoom wants t w
      → IsLawful carried (unlinked_for carried t w wants old)
  unlink_for_keeps w true old law worker has room = unlink_into_keeps w old law worker has (room refl)
  unlink_for_keeps w false old law worker has room = unlink_keeps old law has

-- what a context without a link is after another one lost its own
pub unlinked_slots : (carried : CtxId → ℕ) (t : ContextTable) (w : ℕ) (wants : Bool) (old : CtxId)
    → (unlinked_for carried t w wants old).slots ≡ change_context (option_map (with_link None)) t.slots old
unlinked_slots carried t w true old = refl
unlinked_slots carried t w false old = refl

pub still_there : (carried : CtxId → ℕ) (t : ContextTable) (w : ℕ) (wants : Bool) (old c : CtxId) (x : Context) → is_some (link_at t.slots old) ≡ true
    → context_at t.slots c ≡ Some x → x.link ≡ None → context_at (unlinked_for carried t w wants old).slots c ≡ Some x
still_there carried t w wants old c x has there bare =
    grind (arith, nat_tests, unlinked_slots carried t w wants old, context_at-other (option_map (with_link None)) t.slots old c, is_id-same c old)

pub still_held : (carried : CtxId → ℕ) (t : ContextTable) (w : ℕ) (wants : Bool) (old c : CtxId) → w < length t.hands → holds (hand_of t.hands w) c ≡ true
    → 0 < held (unlinked_for carried t w wants old).hands c
still_held carried t w true old c within has = omega (arith, held_push t.hands w old within c, counted_in_hand t.hands w c within has)
still_held carried t w false old c within has = counted_in_hand t.hands w c within has

-- ---- what the calls that link require

free_if : (o : Option Context) (slots : List Slot) (owner : Owner) (object : Object) → IsUnlinkedOf owner o → count_by (has_link owner object) slots ≡ 0
    → IfSome o (λ (x : Context). (x.link ≡ None) × (count_by (has_link x.owner object) slots ≡ 0))
free_if None slots owner object is none = absurd is
free_if (Some x) slots owner object is none = (is.0, ap (λ o. count_by (has_link o object) slots) is.1 ∙ none)

-- where nobody was linked there
pub free_at_first : (t : ContextTable) (c : CtxId) (owner : Owner) (object : Object) → IsUnlinkedOf owner (context_at t.slots c)
    → None ≡ holder t.slots owner object → IsFree t c object
free_at_first t c owner object is none = free_if (context_at t.slots c) t.slots owner object is (holder_none t.slots owner object (sym none))

module _ {carried : CtxId → ℕ} {t : ContextTable} where
  -- and where the old one lost its link
  pub free_at_last : (w : ℕ) (wants : Bool) (old c : CtxId) (owner : Owner) (object : Object) → IsLawful carried t
      → IsUnlinkedOf owner (context_at t.slots c) → Some old ≡ holder t.slots owner object → IsFree (unlinked_for carried t w wants old) c object
  free_at_last w wants old c owner object law is there = at_option (context_at t.slots c) refl is
    where
      after : List Slot
      after = (unlinked_for carried t w wants old).slots

      none : count_by (has_link owner object) after ≡ 0
      none =
          ap (count_by (has_link owner object)) (unlinked_slots carried t w wants old)
          ∙ none_after_unlink t.slots owner object old (sym there) (law.once owner object)

      at_option : (o : Option Context) → context_at t.slots c ≡ o → IsUnlinkedOf owner o → IsFree (unlinked_for carried t w wants old) c object
      at_option None was is = absurd is
      at_option (Some x) was is =
          let now = still_there carried t w wants old c x (holder_linked t.slots owner object old (sym there)) was is.0 in
          subst (λ o. IfSome o (λ (y : Context). (y.link ≡ None) × (count_by (has_link y.owner object) after ≡ 0))) (sym now)
          (free_if (Some x) after owner object is none)

  pub live_at_last : (carried' : CtxId → ℕ) (w : ℕ) (wants : Bool) (old c : CtxId) → IsLawful carried t → w < 48 → holds (hand_of t.hands w) c ≡ true
      → 0 < count_in carried' (unlinked_for carried t w wants old) c
  live_at_last carried' w wants old c law worker has =
      omega (arith, still_held carried t w wants old c (within_hands w law worker) has)

  -- ---- set

  set_by : (w : ℕ) (c : CtxId) (owner : Owner) (object : Object) (mode : SetMode) (wants : Bool) (there : Option CtxId) → there ≡ holder t.slots owner object
      → IsLawful carried t → w < 48 → holds (hand_of t.hands w) c ≡ true → IsUnlinkedOf owner (context_at t.slots c)
      → IsLawful carried (set_after carried t w c object mode wants there)
  set_by w c owner object mode wants None is law worker has bare =
      link_keeps c object law (count_held carried t w c (within_hands w law worker) has) (free_at_first t c owner object bare is)
  set_by w c owner object mode wants (Some old) is law worker has bare = split (wants && is_hand_full t.hands w) refl
    where
      has_old : is_some (link_at t.slots old) ≡ true
      has_old = holder_linked t.slots owner object old (sym is)

      by_mode : (m : SetMode) → HasRoom wants t w → IsLawful carried (set_mode_after carried t w c object m wants old)
      by_mode Keep room = kept_keeps w wants old law worker has_old room
      by_mode Replace room =
          link_keeps c object (unlink_for_keeps w wants old law worker has_old room) (live_at_last carried w wants old c law worker has)
          (free_at_last w wants old c owner object law bare is)

      split : (b : Bool) → (wants && is_hand_full t.hands w) ≡ b → IsLawful carried (cond b t (set_mode_after carried t w c object mode wants old))
      split true full = law
      split false full = by_mode mode (room_if_wanted wants t w full)

  pub set_keeps : (w : ℕ) (c : CtxId) (owner : Owner) (object : Object) (mode : SetMode) (wants : Bool) → IsLawful carried t → w < 48
      → holds (hand_of t.hands w) c ≡ true → IsUnlinkedOf owner (context_at t.slots c)
      → IsLawful carried (set_after carried t w c object mode wants (holder t.slots owner object))
  set_keeps w c owner object mode wants = set_by w c owner object mode wants (holder t.slots owner object) refl

  -- ---- get and delete

  pub get_keeps : (w : ℕ) (c : CtxId) (owner : Owner) (object : Object) → IsLawful carried t → w < 48 → holder t.slots owner object ≡ Some c
      → length (hand_of t.hands w) < 16 → IsLawful carried (grabbed t w c)
  get_keeps w c owner object law worker is room =
      reference_keeps w c law worker (count_linked_one carried t c (holder_linked t.slots owner object c is)) room

  pub delete_keeps : (w : ℕ) (owner : Owner) (object : Object) (wants : Bool) → IsLawful carried t → w < 48 → HasRoom wants t w
      → IsLawful carried (delete_after carried t w wants (holder t.slots owner object))
  delete_keeps w owner object wants law worker room = by_holder (holder t.slots owner object) refl
    where
      by_holder : (there : Option CtxId) → holder t.slots owner object ≡ there → IsLawful carried (delete_after carried t w wants there)
      by_holder None is = law
      by_holder (Some old) is = unlink_for_keeps w wants old law worker (holder_linked t.slots owner object old is) room
