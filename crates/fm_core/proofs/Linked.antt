-- Setting, getting and deleting contexts, from what the layer of contexts did.
use Rattle.fm_core.proofs.Words.{caller_of, has_kind_at, owner_for, IsTied, Caller, there_changed, ContextsKept, carried_of, Bool, List, None, Option, Some, []}
use Rattle.fm_core.proofs.Words.{ap, arith, cond, false, is_some, not, refl, subst, sym, true, ℕ, ◌&&◌, ◌||◌, ◌∙◌, ◌∷◌, ◌≡◌, option_and_then, hand_of, holds}
use Rattle.fm_core.proofs.Words.{holder, grabbed, Context, ContextTable, Slot, context_at, Object, Owner, first_of, ContextKind, CtxId, WorkerId, Status}
use Rattle.fm_core.proofs.Words.{Callback, before, callback_of, with_contexts, is_there, object_by, World, carries, option_map, slice_get, none-some, same_Some}
use Rattle.fm_world.proofs.Words.{is_hand_full, delete_after, linked, set_after, set_reply, unlinked_for, with_link, link_at, SetMode, SetReply, Sets, SetsIn}
use Rattle.fm_world.proofs.Words.{SetsOn, SetsUnless, object_for, object_refused, set_answer, set_refused, there_at}
use Rattle.fm_world.specs.declared.set_answer.SetAnswer.{SetAnswer}
use Rattle.fm_ctx.specs.Links.{set_mode_after}
use Rattle.fm_core.specs.Callers.{is_closing_at}
use Rattle.std.proofs.Common.{is_none}
use Rattle.fm_ctx.specs.declared.set_reply.SetMode.TheVariants.{Keep, Replace}
use Rattle.fm_ctx.proofs.Alike.{set_alike}
use Rattle.fm_ctx.proofs.Sets.{unlinked_slots}
use Rattle.fm_core.specs.Setting.{is_past_at, object_of, set_refusal, find_refusal, IsSettable, IsFound}
use Rattle.fm_core.proofs.Called.{called_in, owner_same, object_same, callback_row}
use Rattle.fm_core.specs.Callers as caller

-- ---- get and delete

-- the same tests
find_same : (w : World) (k : WorkerId) (at : Callback) (what : ContextKind) (others : Option Status) → callback_of w k ≡ Some at
    → cond (not (has_kind_at w.stack (slice_get w.stack.instances at.instance.0) what)) (Some Status.NotRegistered)
    (cond (is_none (object_by at.row at.instance at.file what)) (Some Status.NoObject) others) ≡ object_refused w what at others
find_same w k at what others is =
    ap (λ m. cond (not (has_kind_at w.stack m what)) (Some Status.NotRegistered) (cond (is_none (object_by at.row at.instance at.file what))
    (Some Status.NoObject) others))
    (callback_row w k at is)

find_of : (w : World) (k : WorkerId) (at : Callback) (x : Caller) (what : ContextKind) (m : Option Status) → caller_of at ≡ x → find_refusal w x what ≡ m
    → cond (not (has_kind_at w.stack (slice_get w.stack.instances at.instance.0) what)) (Some Status.NotRegistered)
    (cond (is_none (object_by at.row at.instance at.file what)) (Some Status.NoObject) None) ≡ m
find_of w k at x what m e h =
    ap (λ o. cond (not (has_kind_at w.stack (slice_get w.stack.instances at.instance.0) what)) (Some Status.NotRegistered)
    (cond (is_none o) (Some Status.NoObject) None))
    (sym (object_same at what))
    ∙ ap (λ (y : Caller). find_refusal w y what) e ∙ h

pub refused_as : (w : World) (k : WorkerId) (at : Callback) (x : Caller) (what : ContextKind) (others : Option Status) (why : Status)
    → callback_of w k ≡ Some at → caller_of at ≡ x
    → find_refusal w x what ≡ Some why → object_refused w what at others ≡ Some why
refused_as w k at x what others why is e h =
    sym (find_same w k at what others is) ∙ grind (arith, find_of w k at x what (Some why) e h)

pub found_free : (w : World) (k : WorkerId) (at : Callback) (x : Caller) (what : ContextKind) (others : Option Status)
    → callback_of w k ≡ Some at → caller_of at ≡ x
    → find_refusal w x what ≡ None → object_refused w what at others ≡ others
found_free w k at x what others is e h =
    sym (find_same w k at what others is) ∙ grind (arith, find_of w k at x what None e h)

pub found_there : (w : World) (at : Callback) (x : Caller) (what : ContextKind) (o : Owner × Object) → caller_of at ≡ x → IsFound w x what o
    → there_at w what at ≡ holder w.contexts.slots o.0 o.1
found_there w at x what o e h =
    ap (λ own. option_and_then (holder w.contexts.slots own) (object_by at.row at.instance at.file what))
    (sym (owner_same at what) ∙ ap (λ (y : Caller). owner_for y what) e ∙ h.owner)
    ∙ ap (option_and_then (holder w.contexts.slots o.0)) (sym (object_same at what) ∙ ap (λ (y : Caller). caller.object_for y what) e ∙ h.object)

-- the tests of a get on an object of the callback's
pub get_free : (w : World) (k : WorkerId) (at : Callback) (x : Caller) (what : ContextKind) (o : Owner × Object) (others : Option Status) (b : Bool)
    → callback_of w k ≡ Some at → caller_of at ≡ x
    → IsFound w x what o → is_there w.files (Some o.1) ≡ b
    → object_refused w what at (before (not (is_there w.files (object_by at.row at.instance at.file what))) Status.DeletingObject
    others) ≡ before (not b) Status.DeletingObject others
get_free w k at x what o others b is e found here =
    let object' : object_by at.row at.instance at.file what ≡ Some o.1 = sym (object_same at what) ∙ ap (λ (y : Caller). caller.object_for y what) e ∙
    found.object in
    found_free w k at x what (before (not (is_there w.files (object_by at.row at.instance at.file what))) Status.DeletingObject others) is e found.free
    ∙ ap (λ c. before (not c) Status.DeletingObject others) (ap (is_there w.files) object' ∙ here)

unlinked_there : (by : CtxId → ℕ) (t : ContextTable) (w : ℕ) (wants : Bool) (d : CtxId) (c : CtxId)
    → is_some (context_at (unlinked_for by t w wants d).slots c) ≡ is_some (context_at t.slots c)
unlinked_there by t w wants d c =
    ap (λ (slots : List Slot). is_some (context_at slots c)) (unlinked_slots by t w wants d) ∙ there_changed (with_link None) t.slots d c

pub deleted_there : (by : CtxId → ℕ) (t : ContextTable) (w : ℕ) (wants : Bool) (m : Option CtxId) (c : CtxId)
    → is_some (context_at (delete_after by t w wants m).slots c) ≡ is_some (context_at t.slots c)
deleted_there by t w wants None c = refl
deleted_there by t w wants (Some d) c = unlinked_there by t w wants d c

-- ---- set

pub object_here : (at : Callback) (m : Option Context) → object_of (caller_of at) m ≡ object_for at m
object_here at None = refl
object_here at (Some x) = object_same at x.kind

pub set_same : (w : World) (k : WorkerId) (c : CtxId) (at : Callback) (x : Caller) → callback_of w k ≡ Some at → caller_of at ≡ x
    → set_refusal w k c x ≡ set_refused w k c at
set_same w k c at x is e =
    ap (set_refusal w k c) (sym e)
    ∙ ap (λ o. first_of ((not (holds (hand_of w.contexts.hands k.0) c), Status.NotHeld) ∷ (is_some (link_at w.contexts.slots c), Status.AlreadyLinked)
    ∷ (is_none o, Status.NoObject) ∷ (is_past_at w (caller_of at) o, Status.DeletingObject) ∷ [])) (object_here at (context_at w.contexts.slots c))
    ∙ ap (λ m. first_of ((not (holds (hand_of w.contexts.hands k.0) c), Status.NotHeld) ∷ (is_some (link_at w.contexts.slots c), Status.AlreadyLinked)
    ∷ (is_none (object_for at (context_at w.contexts.slots c)), Status.NoObject)
    ∷ (is_closing_at w.stack m || not (is_there w.files (object_for at (context_at w.contexts.slots c))), Status.DeletingObject) ∷ [])) (callback_row w k at is)

-- the context is there, with its owner
pub there_with : (m : Option Context) (own : Owner) → option_map (λ (x : Context). x.owner) m ≡ Some own → (x : Context) × (m ≡ Some x) × (x.owner ≡ own)
there_with None own h = absurd (none-some own h)
there_with (Some x) own h = (x, refl, same_Some x.owner own h)

pub set_up : (w : World) {now : World} (k : WorkerId) (c : CtxId) (mode : SetMode) (wants : Bool) (x : Caller) (o : Owner × Object) (reply : SetReply)
    (result : SetAnswer) (kept after : ContextsKept)
    → with_contexts w kept.table ≡ now → option_map caller_of (callback_of now k) ≡ Some x → IsSettable now k c x o
    → IsTied kept w.flow → result ≡ set_answer reply
    → reply ≡ set_reply kept.table k.0 mode wants (holder kept.table.slots o.0 o.1)
    → after ≡ record kept { table = set_after (carried_of kept) kept.table k.0 c o.1 mode wants (holder kept.table.slots o.0 o.1) }
    → Sets now k c mode wants result (with_contexts w after.table)
unfolding Sets
set_up w k c mode wants x o reply result kept after now_is is able tied answers replies step =
    let old = with_contexts w kept.table in
    let new = with_contexts w after.table in
    let at = called_in k x now_is is in
    let h = subst (λ (v : World). IsSettable v k c x o) (sym now_is) able in
    let y = there_with (context_at kept.table.slots c) o.0 h.owner in
    let here : object_for at.0 (Some y.0) ≡ Some o.1 =
    sym (object_here at.0 (Some y.0)) ∙ ap (λ z. object_of z (Some y.0)) at.2 ∙ ap (object_of x) (sym y.1) ∙ h.object in
    let there = ap (λ own. holder kept.table.slots own o.1) (sym y.2) in
    subst (λ (v : World). Sets v k c mode wants result new) now_is
    (subst (SetsIn old k c mode wants result new) (sym at.1)
    (subst (SetsUnless old k c mode wants result new at.0) (sym (sym (set_same old k c at.0 x at.1 at.2) ∙ h.free))
    (subst (λ m. SetsOn old k c mode wants result new m (object_for at.0 m)) (sym y.1)
    (subst (SetsOn old k c mode wants result new (Some y.0)) (sym here) (
      answers ∙ ap set_answer (replies ∙ ap (set_reply kept.table k.0 mode wants) there),
      ap (λ (z : ContextsKept). with_contexts w z.table) step
          ∙ ap (with_contexts w) (set_alike (carried_of kept) (carries w) kept.table k.0 c o.1 mode wants (holder kept.table.slots o.0 o.1) tied
          ∙ ap (set_after (carries w) kept.table k.0 c o.1 mode wants) there),
    )))))

linked_there : (t : ContextTable) (c : CtxId) (o : Object) (d : CtxId) → is_some (context_at (linked t c o).slots d) ≡ is_some (context_at t.slots d)
linked_there t c o d = there_changed (with_link (Some o)) t.slots c d

pub set_there : (by : CtxId → ℕ) (t : ContextTable) (w : ℕ) (c : CtxId) (o : Object) (mode : SetMode) (wants : Bool) (m : Option CtxId) (d : CtxId)
    → is_some (context_at (set_after by t w c o mode wants m).slots d) ≡ is_some (context_at t.slots d)
set_there by t w c o mode wants None d = linked_there t c o d
set_there by t w c o mode wants (Some e) d = by_room (wants && is_hand_full t.hands w)
  where
    by_mode : (a : SetMode) → is_some (context_at (set_mode_after by t w c o a wants e).slots d) ≡ is_some (context_at t.slots d)
    by_mode Keep = elim wants as (λ b. is_some (context_at (cond b (grabbed t w e) t).slots d) ≡ is_some (context_at t.slots d)) [ true ↦ refl | false ↦ refl ]
    by_mode Replace = linked_there (unlinked_for by t w wants e) c o d ∙ unlinked_there by t w wants e d

    by_room : (b : Bool) → is_some (context_at (cond b t (set_mode_after by t w c o mode wants e)).slots d) ≡ is_some (context_at t.slots d)
    by_room true = refl
    by_room false = by_mode mode
