-- What allocating, setting, getting and deleting contexts do.
use Rattle.fm_world.proofs.Words.{allocate_keeps, context_at-placed, holds, is_hand_full, allocate_refusal, allocated, is_out_of_slots, IsUnlinkedOf}
use Rattle.fm_world.proofs.Words.{delete_after, delete_refusal, delete_reply, get_refusal, holder, linked, set_after, set_reply, unlinked_for, wanted}
use Rattle.fm_world.proofs.Words.{with_link, is_to, same_owner, change_context, context_at, SetMode, SetReply, all_at, none_refuses, Allocates, Callback}
use Rattle.fm_world.proofs.Words.{Deletes, Gets, Sets, SetsIn, SetsOn, SetsUnless, before, callback_of, context_by, is_past, object_for, object_refused}
use Rattle.fm_world.proofs.Words.{set_answer, set_refused, there_at, with_contexts, HoldsMore, OnlyHandOf, given_by_set, given_with, is_there, names_there}
use Rattle.fm_world.proofs.Words.{belongs, belongs_by, fits, has_kind, is_closing, link_fits, object_by, owner_by, owner_fits, IsOwned, IsSound, Context}
use Rattle.fm_world.proofs.Words.{ContextKind, ContextTable, CtxId, Instance, InstanceId, IsLawful, Object, Owner, Slot, StackWorld, Status, WorkerId, grabbed}
use Rattle.fm_world.proofs.Words.{hand_of, is_attached, is_mounted, is_setup, link_at, World, carries, SetAnswer, Bool, List, None, Option, Result, Some, []}
use Rattle.fm_world.proofs.Words.{ap, arith, false, is_some, length, nat_lt, not, option_and_then, option_map, refl, slice_get, subst, sym, true, ℕ, ◌&&◌, ◌++◌}
use Rattle.fm_world.proofs.Words.{◌<◌, ◌||◌, ◌∙◌, ◌∷◌, ◌≡◌, and_from, and_parts, leb-false, lt-ltb, or_parts, same_Some}
use Rattle.std.proofs.Common.{is_none}
use Rattle.fm_ctx.proofs.Holders.{holder_context, holder_linked, holder_some}
use Rattle.fm_ctx.proofs.Objects.{same_owner-same}
use Rattle.fm_ctx.proofs.Sets.{delete_keeps, get_keeps, room_if_wanted, set_keeps, still_there}
use Rattle.fm_world.proofs.Belonging.{AllFit, AllPass, OwnersStay, belongs_still, filters_same, fits_linked, fits_unlinked, owners_changed, owners_placed}
use Rattle.fm_world.proofs.Belonging.{passes_changed, passes_placed}
use Rattle.fm_world.proofs.Callbacks.{Brings, IsIn, Makes, brings, callback_left, contexts_sound, grabbed_makes, hands_out, in_hand, none_of, not_false}
use Rattle.fm_world.proofs.Callbacks.{one_more, same_hand, same_hands}
use Rattle.fm_world.proofs.Cases.{by_option}
use Rattle.fm_world.proofs.Events.{asked_by, taken_by}
use Rattle.fm_world.proofs.Staying.{Does, HandMore, SlotsStay, nothing, slots_changed, slots_placed, still, table_after}

owner_refl : (o : Owner) → same_owner o o ≡ true
owner_refl o = grind arith

-- ---- allocate

pub allocate_does : (old : World) (k : WorkerId) (what : ContextKind) (body : List ℕ) (result : Result CtxId Status) (new : World)
    → Allocates old k what body result new
    → Brings k old result new
unfolding Allocates
allocate_does old k what body result new h =
    taken_by (λ r w. Brings k old r w) old k result new _ _ h (λ why. (nothing old, λ s. refl)) (λ at is c free event.
    let x = context_by at what body in
    let t = allocated old.contexts k.0 c x in
    brings old new k at t c c is event.1 (λ i s.
    let full = is_hand_full old.contexts.hands k.0 in
    let many = is_out_of_slots old.contexts.slots in
    let listed = none_of (not (has_kind old.stack at.row what)) Status.NotRegistered (allocate_refusal old.contexts k.0 body) free in
    let frees = none_refuses ((nat_lt 4096 (length body) || many, Status.TooMany) ∷ (full, Status.HandFull) ∷ []) listed.1 in
    let fresh = event.0 in
    let owners = owners_placed old.contexts.slots c x fresh in
    let own : belongs old.stack t.slots at.instance c ≡ true =
    ap (λ m. belongs_by m at.instance (context_at t.slots c)) i.there
    ∙ ap (belongs_by (Some at.row) at.instance) (context_at-placed old.contexts.slots c x fresh)
    ∙ owner_refl (owner_by at.row at.instance what) in
    let fit : fits old.stack (Some x) ≡ true =
    and_from (owner_fits old.stack what (owner_by at.row at.instance what)) true
    (elim what as (λ a. owner_fits old.stack a (owner_by at.row at.instance a) ≡ true) [
      | ContextKind.Volume ↦ lt-ltb at.row.filter.0 (length old.stack.filters) i.placed.filter
      | _ ↦ (callback_left old k at.instance at.row s i.place i.there).0
    ]) refl in (
      contexts_sound old t k (hand_of old.contexts.hands k.0 ++ c ∷ [])
          (allocate_keeps k.0 c x s.owned.lawful i.worker fresh refl
          (leb-false 16 (length (hand_of old.contexts.hands k.0)) frees.1.0)) refl owners refl i.worker
          (one_more old t k at c i s.owned owners own) (passes_placed (fits old.stack) old.contexts.slots c x fit s.owned.fits)
          (passes_placed (names_there old.files) old.contexts.slots c x refl s.links) s,
      (slots_placed old.contexts.slots c x fresh, refl),
      refl,
    )))

-- ---- get

-- a context of the owner that the callback's instance has for some kind: the callback may hold it
owner_belongs : (s : StackWorld) (row : Instance) (i : InstanceId) (a b : ContextKind) → owner_fits s b (owner_by row i a) ≡ true
    → same_owner (owner_by row i b) (owner_by row i a) ≡ true
owner_belongs s row i a b h5 = grind arith

-- what is set for that owner, the callback may hold
held_for : (w : World) (k : WorkerId) (at : Callback) (a : ContextKind) (o : Object) (c : CtxId) → IsIn w k at → IsOwned w
    → holder w.contexts.slots (owner_by at.row at.instance a) o ≡ Some c → belongs w.stack w.contexts.slots at.instance c ≡ true
held_for w k at a o c i h is =
    let set = holder_some w.contexts.slots (owner_by at.row at.instance a) o c is in
    let x = set.context in
    let own = (and_parts (is_to o x.link) (same_owner (owner_by at.row at.instance a) x.owner) set.links_there).1 in
    let same : owner_by at.row at.instance a ≡ x.owner = same_owner-same (owner_by at.row at.instance a) x.owner own in
    let there = holder_context w.contexts.slots (owner_by at.row at.instance a) o c set in
    let fit : fits w.stack (Some x) ≡ true =
    sym (ap (fits w.stack) set.has) ∙ all_at (λ (y : Slot). fits w.stack y.context ≡ true) w.contexts.slots c.slot set.slot h.fits set.there in
    grind (arith, and_parts, owner_belongs)

-- the object of the callback's kind, and who is set there
found_there : (w : World) (what : ContextKind) (at : Callback) (m : Option Object) (c : CtxId)
    → option_and_then (holder w.contexts.slots (owner_by at.row at.instance what)) m ≡ Some c
    → (o : Object) × (m ≡ Some o) × (holder w.contexts.slots (owner_by at.row at.instance what) o ≡ Some c)
found_there w what at m c h5 = grind arith

-- the refusals of get and delete
asked_for : (w : World) (what : ContextKind) (at : Callback) (others : Option Status) → object_refused w what at others ≡ None → others ≡ None
asked_for w what at others h4 = grind arith

pub get_does : (old : World) (k : WorkerId) (what : ContextKind) (result : Result CtxId Status) (new : World)
    → Gets old k what result new → Brings k old result new
unfolding Gets
get_does old k what result new h =
    asked_by (λ r w. Brings k old r w) old k result new _ _ h (λ why. (nothing old, λ s. refl)) (λ at is c free event.
    brings old new k at (grabbed old.contexts k.0 c) c c is event.1 (λ i s.
    let full = is_hand_full old.contexts.hands k.0 in
    let there = there_at old what at in
    let object' = object_by at.row at.instance at.file what in
    let asked = asked_for old what at (before (not (is_there old.files object')) Status.DeletingObject (get_refusal old.contexts k.0 there)) free in
    let refusal = (none_of (not (is_there old.files object')) Status.DeletingObject (get_refusal old.contexts k.0 there) asked).1 in
    let frees = none_refuses ((is_none there, Status.NoContext) ∷ (full, Status.HandFull) ∷ []) refusal in
    let found = found_there old what at object' c event.0 in
    grabbed_makes old k at c i s
    (get_keeps k.0 c (owner_by at.row at.instance what) found.0 s.owned.lawful i.worker found.2
    (leb-false 16 (length (hand_of old.contexts.hands k.0)) frees.1.0))
    (held_for old k at what found.0 c i s.owned found.2)))

-- ---- delete

-- a context that is set loses its link: its reference goes to the hand where it is wanted
unlinked_makes : (w : World) (k : WorkerId) (at : Callback) (wants : Bool) (owner : Owner) (object : Object) (d : CtxId) → IsIn w k at → IsSound w
    → holder w.contexts.slots owner object ≡ Some d → belongs w.stack w.contexts.slots at.instance d ≡ true
    → (wants && is_hand_full w.contexts.hands k.0) ≡ false
    → Makes w k (unlinked_for (carries w) w.contexts k.0 wants d) (wanted wants d)
unlinked_makes w k at wants owner object d i s is own room =
    by_wants wants (subst (λ m. IsLawful (carries w) (delete_after (carries w) w.contexts k.0 wants m)) is
    (delete_keeps k.0 owner object wants s.owned.lawful i.worker (room_if_wanted wants w.contexts k.0 room)))
  where
    slots : List Slot
    slots = change_context (option_map (with_link None)) w.contexts.slots d

    owners : OwnersStay w.contexts.slots slots
    owners = owners_changed (with_link None) w.contexts.slots d (λ x. (refl, refl))

    fit : AllFit w.stack slots
    fit = passes_changed (fits w.stack) (option_map (with_link None)) w.contexts.slots d refl (λ x there fit. fits_unlinked w.stack x fit) s.owned.fits

    links : AllPass (names_there w.files) slots
    links = passes_changed (names_there w.files) (option_map (with_link None)) w.contexts.slots d refl (λ x there named. refl) s.links

    stay : SlotsStay w.contexts.slots slots
    stay = slots_changed (option_map (with_link None)) w.contexts.slots d refl

    by_wants : (b : Bool) → IsLawful (carries w) (unlinked_for (carries w) w.contexts k.0 b d)
        → Makes w k (unlinked_for (carries w) w.contexts k.0 b d) (wanted b d)
    by_wants true lawful =
        let t = unlinked_for (carries w) w.contexts k.0 true d in
        let here = one_more w t k at d i s.owned owners (belongs_still w.stack w.contexts.slots w.stack slots
        (filters_same w.stack) owners at.instance d own) in
        (contexts_sound w t k (hand_of w.contexts.hands k.0 ++ d ∷ []) lawful refl owners refl i.worker here fit links s, (stay, refl), refl)
    by_wants false lawful =
        let t = unlinked_for (carries w) w.contexts k.0 false d in
        let same = same_hands w.contexts.hands k.0 in
        (contexts_sound w t k (hand_of w.contexts.hands k.0) lawful refl owners same i.worker (same_hand w t k s.owned owners) fit links s, (stay, refl), same)

pub delete_does : (old : World) (k : WorkerId) (what : ContextKind) (wants : Bool) (result : Result (Option CtxId) Status) (new : World)
    → Deletes old k what wants result new → Does old new × (IsSound old → OnlyHandOf k.0 old new × HoldsMore k.0 result given_with old new)
unfolding Deletes
delete_does old k what wants result new h =
    asked_by (λ r w. Does old w × (IsSound old → OnlyHandOf k.0 old w × HoldsMore k.0 r given_with old w)) old k result new _ _ h
    (λ why. (nothing old, λ s. (refl, refl))) (λ at is c free event.
    let there = there_at old what at in
    subst (λ m. Does old new × (IsSound old → HandMore k.0 old new (given_with m))) (sym event.0)
    (hands_out old new k at (delete_after (carries old) old.contexts k.0 wants there) (delete_reply wants there) is event.1 (λ i s.
    let full = wants && is_hand_full old.contexts.hands k.0 in
    let frees = none_refuses ((is_none there, Status.NoContext) ∷ (full, Status.HandFull) ∷ [])
    (asked_for old what at (delete_refusal old.contexts k.0 wants there) free) in
    by_option (λ m. Makes old k (delete_after (carries old) old.contexts k.0 wants m) (delete_reply wants m)) there
    (λ none. (s, still old.contexts, same_hands old.contexts.hands k.0)) (λ d found.
    let o = found_there old what at (object_by at.row at.instance at.file what) d found in
    unlinked_makes old k at wants (owner_by at.row at.instance what) o.0 d i s o.2 (held_for old k at what o.0 d i s.owned o.2) frees.1.0))))

-- ---- set

-- the context, which nothing links, gets its link
linked_makes : (w : World) (k : WorkerId) (c : CtxId) (x : Context) (o : Object) → IsLawful (carries w) (linked w.contexts c o) → IsSound w → k.0 < 48
    → context_at w.contexts.slots c ≡ Some x → link_fits w.stack x (Some o) ≡ true → is_there w.files (Some o) ≡ true → Makes w k (linked w.contexts c o) None
linked_makes w k c x o lawful s worker there link here =
    let t = linked w.contexts c o in
    let slots = w.contexts.slots in
    let owners = owners_changed (with_link (Some o)) slots c (λ x. (refl, refl)) in
    let same = same_hands w.contexts.hands k.0 in (
      contexts_sound w t k (hand_of w.contexts.hands k.0) lawful refl owners same worker (same_hand w t k s.owned owners)
          (passes_changed (fits w.stack) (option_map (with_link (Some o))) slots c refl
          (λ y found fit. fits_linked w.stack y o (subst (λ z. link_fits w.stack z (Some o) ≡ true) (same_Some x y (sym there ∙ found)) link) fit) s.owned.fits)
          (passes_changed (names_there w.files) (option_map (with_link (Some o))) slots c refl (λ x there named. here) s.links) s,
      (slots_changed (option_map (with_link (Some o))) slots c refl, refl),
      same,
    )

-- what set requires of the callback and its context
record MaySet (w : World) (k : WorkerId) (at : Callback) (c : CtxId) (x : Context) (o : Object) : Type 0 where
  pub has : holds (hand_of w.contexts.hands k.0) c ≡ true
  pub there : context_at w.contexts.slots c ≡ Some x
  pub bare : x.link ≡ None
  pub own : same_owner (owner_by at.row at.instance x.kind) x.owner ≡ true
  pub link : link_fits w.stack x (Some o) ≡ true
  pub here : is_there w.files (Some o) ≡ true

may_set : (w : World) (k : WorkerId) (at : Callback) (c : CtxId) (x : Context) (o : Object) → IsIn w k at → IsSound w → set_refused w k c at ≡ None
    → context_at w.contexts.slots c ≡ Some x → object_for at (Some x) ≡ Some o → MaySet w k at c x o
may_set w k at c x o i s free there of =
    let object' = object_for at (context_at w.contexts.slots c) in
    let hand = hand_of w.contexts.hands k.0 in
    let frees = none_refuses ((not (holds hand c), Status.NotHeld) ∷ (is_some (link_at w.contexts.slots c), Status.AlreadyLinked)
    ∷ (is_none object', Status.NoObject)
    ∷ (is_past w at object', Status.DeletingObject) ∷ []) free in
    let past = frees.1.1.1.0 in
    let used = is_mounted (slice_get w.stack.volumes at.row.volume.0) in
    let live = (or_parts (not (is_setup at.row.phase || is_attached at.row.phase)) (not used)
    (or_parts (is_closing w.stack at.row) (not (is_there w.files object')) past).0).1 in
    let has = not_false (holds hand c) frees.0 in
    let own : same_owner (owner_by at.row at.instance x.kind) x.owner ≡ true =
    sym (ap (belongs_by (Some at.row) at.instance) there)
    ∙ sym (ap (λ m. belongs_by m at.instance (context_at w.contexts.slots c)) i.there) ∙ in_hand w k at c i s.owned has in
    grind arith

-- what is set at the object for the owner of the context, the callback may hold too
other_belongs : (w : World) (k : WorkerId) (at : Callback) (c d : CtxId) (x : Context) (o : Object) → IsIn w k at → IsSound w → MaySet w k at c x o
    → holder w.contexts.slots x.owner o ≡ Some d → belongs w.stack w.contexts.slots at.instance d ≡ true
other_belongs w k at c d x o i s may is =
    let same = same_owner-same (owner_by at.row at.instance x.kind) x.owner may.own in
    held_for w k at x.kind o d i s.owned (ap (λ own. holder w.contexts.slots own o) same ∙ is)

-- what set makes of a table, and answers: the context is linked, or the hand is full, or Keep leaves the link that is there, or Replace takes it away
set_each : (P : ContextTable → SetReply → Type 0) (carried : CtxId → ℕ) (t : ContextTable) (w : ℕ) (c : CtxId) (object : Object) (mode : SetMode) (wants : Bool)
    (m : Option CtxId) → (m ≡ None → P (linked t c object) (SetReply.Linked None)) → P t SetReply.HandFull → P t (SetReply.AlreadyDefined None)
    → ((old : CtxId) → m ≡ Some old → P (grabbed t w old) (SetReply.AlreadyDefined (Some old)))
    → ((old : CtxId) → m ≡ Some old → wants && is_hand_full t.hands w ≡ false
    → P (linked (unlinked_for carried t w wants old) c object) (SetReply.Linked (wanted wants old)))
    → P (set_after carried t w c object mode wants m) (set_reply t w mode wants m)
set_each P carried t w c object mode wants m fresh full kept grabs replaces = grind arith

abbrev given_reply : SetReply → Option CtxId
given_reply (SetReply.Linked old) = old
given_reply (SetReply.AlreadyDefined old) = old
given_reply SetReply.HandFull = None

reply_gives : (r : SetReply) → given_with (given_reply r) ≡ given_by_set (set_answer r)
reply_gives r = grind arith

abbrev SetDoes : World → WorkerId → SetAnswer → World → Type 0
SetDoes old k result new = Does old new × (IsSound old → HandMore k.0 old new (given_by_set result))

set_on : (old : World) (k : WorkerId) (c : CtxId) (mode : SetMode) (wants : Bool) (result : SetAnswer) (new : World) (at : Callback) (x : Context) (o : Object)
    → callback_of old k ≡ Some at → set_refused old k c at ≡ None → context_at old.contexts.slots c ≡ Some x → object_for at (Some x) ≡ Some o
    → SetsOn old k c mode wants result new (Some x) (Some o) → SetDoes old k result new
set_on old k c mode wants result new at x o is free there of e =
    let held = holder old.contexts.slots x.owner o in
    let reply = set_reply old.contexts k.0 mode wants held in
    let out = hands_out old new k at (set_after (carries old) old.contexts k.0 c o mode wants held) (given_reply reply) is e.1 (λ i s.
    let may = may_set old k at c x o i s free there of in
    let bare : IsUnlinkedOf x.owner (context_at old.contexts.slots c) = subst (IsUnlinkedOf x.owner) (sym there) (may.bare, refl) in
    let own = λ (d : CtxId) (is : held ≡ Some d). other_belongs old k at c d x o i s may is in
    let same : Makes old k old.contexts None = (s, still old.contexts, same_hands old.contexts.hands k.0) in
    set_each (λ t r. IsLawful (carries old) t → Makes old k t (given_reply r)) (carries old) old.contexts k.0 c o mode wants held
    (λ e law. linked_makes old k c x o law s i.worker there may.link may.here) (λ law. same) (λ law. same)
    (λ d e law. grabbed_makes old k at d i s law (own d e))
    (λ d e room law.
    let t = unlinked_for (carries old) old.contexts k.0 wants d in
    let unlinks = unlinked_makes old k at wants x.owner o d i s e (own d e) room in
    let left = still_there (carries old) old.contexts k.0 wants d c x (holder_linked old.contexts.slots x.owner o d e) there may.bare in
    let links = linked_makes (with_contexts old t) k c x o law unlinks.0 i.worker left may.link may.here in
    (links.0, table_after old.contexts t (linked t c o) unlinks.1 links.1, unlinks.2))
    (set_keeps k.0 c x.owner o mode wants s.owned.lawful i.worker may.has bare)) in
    (out.0, λ s. subst (HandMore k.0 old new) (reply_gives reply ∙ sym (ap given_by_set e.0)) (out.1 s))

pub set_does : (old : World) (k : WorkerId) (c : CtxId) (mode : SetMode) (wants : Bool) (result : SetAnswer) (new : World) → Sets old k c mode wants result new
    → Does old new × (IsSound old → HandMore k.0 old new (given_by_set result))
unfolding Sets
set_does old k c mode wants result new h =
    by_option (λ m. SetsIn old k c mode wants result new m → SetDoes old k result new) (callback_of old k) (λ _ h. refused Status.WrongStep h) (λ at is h.
    by_option (λ m. SetsUnless old k c mode wants result new at m → SetDoes old k result new) (set_refused old k c at)
    (λ free h. on at is free (context_at old.contexts.slots c) refl (object_for at (context_at old.contexts.slots c)) refl h) (λ why _ h. refused why h) h) h
  where
    refused : (why : Status) → (result ≡ SetAnswer.Refused why) × (new ≡ old) → SetDoes old k result new
    refused why h = grind arith

    on : (at : Callback) → callback_of old k ≡ Some at → set_refused old k c at ≡ None → (m : Option Context) → context_at old.contexts.slots c ≡ m
        → (o : Option Object) → object_for at m ≡ o → SetsOn old k c mode wants result new m o → SetDoes old k result new
    on at is free (Some x) there (Some o) of h = set_on old k c mode wants result new at x o is free there of h
    on at is free _ there _ of h = absurd h
