-- What the code finds before it sets, gets or deletes a context.
use Rattle.std.specs.Prelude.{◌≡◌, Option, Some, None, option_map, slice_get}
use Rattle.fm_types.specs.declared.context_kind.ContextKind.{ContextKind}
use Rattle.fm_types.specs.declared.ids.CtxId.{CtxId}
use Rattle.fm_types.specs.declared.ids.WorkerId.{WorkerId}
use Rattle.fm_types.specs.declared.status.Status.{Status}
use Rattle.fm_types.specs.declared.status.Status.TheVariants as status
use Rattle.fm_types.specs.Refusals.{first_of}
use Rattle.fm_ctx.specs.declared.object.Object.{Object}
use Rattle.fm_ctx.specs.declared.owner.Owner.{Owner}
use Rattle.fm_ctx.specs.Bags.{holds, hand_of}
use Rattle.fm_ctx.specs.Table.{Context, context_at, link_at}
use Rattle.fm_world.specs.Links.{is_there}
use Rattle.fm_world.specs.World.{World}
use Rattle.fm_core.specs.declared.caller.Caller.{Caller}
use Rattle.fm_core.specs.Callers.{object_for, owner_for, has_kind_at, is_closing_at}
use Rattle.std.specs.Prelude.{Bool, ◌||◌, true, not, is_some, is_none, [], ◌∷◌, cond}

abbrev pub object_of : Caller → Option Context → Option Object
object_of caller None = None
object_of caller (Some x) = object_for caller x.kind

-- whether nothing more may be set there
abbrev pub is_past_at : World → Caller → Option Object → Bool
is_past_at w caller o = is_closing_at w.stack (slice_get w.stack.instances caller.instance.0) || not (is_there w.files o)

-- the refusals of a set, but for those of the layer of contexts
abbrev pub set_refusal : World → WorkerId → CtxId → Caller → Option Status
set_refusal w k c caller =
    first_of ((not (holds (hand_of w.contexts.hands k.0) c), status.NotHeld)
    ∷ (is_some (link_at w.contexts.slots c), status.AlreadyLinked)
    ∷ (is_none (object_of caller (context_at w.contexts.slots c)), status.NoObject)
    ∷ (is_past_at w caller (object_of caller (context_at w.contexts.slots c)), status.DeletingObject)
    ∷ [])

pub record IsSettable (w : World) (k : WorkerId) (c : CtxId) (caller : Caller) (found : Owner × Object) : Type 0 where
  pub free : set_refusal w k c caller ≡ None
  pub held : holds (hand_of w.contexts.hands k.0) c ≡ true
  pub owner : option_map (λ (x : Context). x.owner) (context_at w.contexts.slots c) ≡ Some found.0
  pub object : object_of caller (context_at w.contexts.slots c) ≡ Some found.1
  pub bare : link_at w.contexts.slots c ≡ None

abbrev pub IsUnsettable : World → WorkerId → CtxId → Caller → Status → Type 0
IsUnsettable w k c caller why = set_refusal w k c caller ≡ Some why

-- the refusals of get and delete that come first
abbrev pub find_refusal : World → Caller → ContextKind → Option Status
find_refusal w caller kind =
    cond (not (has_kind_at w.stack (slice_get w.stack.instances caller.instance.0) kind)) (Some status.NotRegistered)
    (cond (is_none (object_for caller kind)) (Some status.NoObject) None)

pub record IsFound (w : World) (caller : Caller) (kind : ContextKind) (found : Owner × Object) : Type 0 where
  pub free : find_refusal w caller kind ≡ None
  pub owner : owner_for caller kind ≡ found.0
  pub object : object_for caller kind ≡ Some found.1

abbrev pub IsNotFound : World → Caller → ContextKind → Status → Type 0
IsNotFound w caller kind why = find_refusal w caller kind ≡ Some why
