-- Whose callback a worker is in, as the code reads it.
use Rattle.std.specs.Prelude.{ℕ, List, Bool, true, false, Option, Some, None, option_map, option_and_then}
use Rattle.fm_types.specs.declared.context_kind.ContextKind.{ContextKind}
use Rattle.fm_types.specs.declared.context_kind.ContextKind.TheVariants as kind
use Rattle.fm_types.specs.declared.ids.FilterId.{FilterId}
use Rattle.fm_types.specs.declared.ids.OpId.{OpId}
use Rattle.fm_types.specs.declared.ids.WorkerId.{WorkerId}
use Rattle.fm_callback_data.specs.declared.verdict.PreVerdict.{PreVerdict}
use Rattle.fm_types.specs.declared.status.Status.{Status}
use Rattle.fm_types.specs.declared.status.Status.TheVariants as status
use Rattle.fm_stack.specs.declared.instance.Instance.{Instance}
use Rattle.fm_stack.specs.declared.instance.Phase.{Phase}
use Rattle.fm_stack.specs.declared.instance.Phase.TheVariants as phase
use Rattle.fm_stack.specs.StackWorld.{StackWorld}
use Rattle.fm_ctx.specs.declared.object.Object.{Object}
use Rattle.fm_ctx.specs.declared.object.Object.TheVariants as object
use Rattle.fm_ctx.specs.declared.owner.Owner.{Owner}
use Rattle.fm_ctx.specs.declared.owner.Owner.TheVariants as owner
use Rattle.fm_operations.specs.Table.{FlowTable}
use Rattle.fm_world.specs.About.{about_operation}
use Rattle.fm_world.specs.Hands.{taken_by_resume}
use Rattle.fm_world.specs.Owners.{has_kind, is_closing, filter_by, place_in}
use Rattle.fm_world.specs.Workers.{worker_at}
use Rattle.fm_world.specs.World.{World}
use Rattle.fm_world.specs.ContextEvents.{Callback}
use Rattle.fm_world.specs.declared.about.AboutOperation.{AboutOperation}
use Rattle.fm_core.specs.declared.caller.Caller.{Caller}

abbrev pub caller_of : Callback → Caller
caller_of at = record { instance = at.instance; filter = at.row.filter; volume = at.row.volume; file = at.file }

-- who owns what it allocates, and what it sets contexts of that kind on
abbrev pub owner_for : Caller → ContextKind → Owner
owner_for caller kind.Volume = owner.Filter caller.filter
owner_for caller _ = owner.Instance caller.instance

abbrev pub object_for : Caller → ContextKind → Option Object
object_for caller kind.Volume = Some (object.Volume caller.volume)
object_for caller kind.Instance = Some (object.Instance caller.instance)
object_for caller kind.Stream = option_map (λ f. object.Stream f.stream) caller.file
object_for caller kind.Handle = option_map (λ f. object.Handle f.handle) caller.file
object_for caller kind.File = option_map (λ f. object.File f.stream) caller.file

abbrev pub has_kind_at : StackWorld → Option Instance → ContextKind → Bool
has_kind_at s None kind = false
has_kind_at s (Some row) kind = has_kind s row kind

abbrev pub is_closing_at : StackWorld → Option Instance → Bool
is_closing_at s None = true
is_closing_at s (Some row) = is_closing s row

-- the filter of an owner, if it is there
abbrev pub filter_at : StackWorld → Option Owner → Option FilterId
filter_at s None = None
filter_at s (Some o) = filter_by s o

-- what an instance in that phase refuses its end with
abbrev pub refused_in : Option Phase → Option Status
refused_in None = Some status.NoInstance
refused_in (Some phase.Detached) = Some status.NoInstance
refused_in (Some phase.Emptying) = None
refused_in (Some _) = Some status.WrongStep

-- the path of the operation of that number
abbrev pub path_about : FlowTable → Option OpId → Option (List ℕ)
path_about t number = option_and_then (λ (o : AboutOperation). o.path) (about_operation t number)

-- how many contexts a verdict for a held preoperation takes from the hand of a worker that is in a callback
abbrev pub taken_at : World → WorkerId → OpId → PreVerdict → ℕ
taken_at w k o given = taken_by_resume w k o given (place_in (worker_at w.workers k))
