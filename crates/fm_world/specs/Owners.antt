-- Whose contexts are whose: in which instance's callback a worker is, who owns what is allocated there, and which object each kind is set on.
use Rattle.std.specs.Prelude.{◌≡◌, Bool, true, false, not, ◌&&◌, ◌||◌, List, length, nat_lt, Option, Some, None, option_map, option_and_then, slice_get}
use Rattle.fm_world.specs.Words.{ContextKind, CtxId, FilterId, HandleId, InstanceId, OpId, StreamId, Instance, Phase, StackWorld, is_setup, is_attached}
use Rattle.fm_world.specs.Words.{is_detached, is_mounted, Object, Owner, Context, Slot, context_at, Ask, FlowTable, told}
use Rattle.fm_types.specs.Masks.{has_context}
use Rattle.fm_stack.specs.declared.filter.Filter.{Filter}
use Rattle.fm_stack.specs.declared.volume.Volume.{Volume}
use Rattle.fm_stack.specs.declared.volume.VolumePhase.{VolumePhase}
use Rattle.fm_ctx.specs.Objects.{same_owner}
use Rattle.fm_types.specs.declared.context_kind.ContextKind.TheVariants as kind
use Rattle.fm_stack.specs.declared.instance.Phase.TheVariants as phase
use Rattle.fm_stack.specs.declared.volume.VolumePhase.TheVariants as volume_phase
use Rattle.fm_ctx.specs.declared.object.Object.TheVariants as object
use Rattle.fm_ctx.specs.declared.owner.Owner.TheVariants as owner
use Rattle.fm_world.specs.declared.file.FileObject.{FileObject}
use Rattle.fm_world.specs.declared.place.Place.{Place}
use Rattle.fm_world.specs.declared.place.Place.TheVariants as place

-- the instance whose callback a worker is in: for an operation, for its setup, for its teardown, or a routine of its filter
abbrev pub instance_in : Place → Option InstanceId
instance_in (place.Setup i) = Some i
instance_in (place.Pre o i) = Some i
instance_in (place.Post o i) = Some i
instance_in (place.Drain o i) = Some i
instance_in (place.EarlyDrain o i) = Some i
instance_in (place.Query i) = Some i
instance_in (place.Start i) = Some i
instance_in (place.Complete i) = Some i
instance_in (place.Routine i file) = Some i
instance_in place.Idle = None
instance_in (place.Base o) = None
instance_in (place.Cleanup c) = None
instance_in (place.Unload f) = None

abbrev pub place_in : Option Place → Option InstanceId
place_in m = option_and_then instance_in m

-- the file that an operation is on: a create has none before it succeeded, and a listing has none
abbrev pub file_object : Option StreamId → Option HandleId → Option FileObject
file_object (Some s) (Some h) = Some (record { stream = s; handle = h })
file_object (Some s) None = None
file_object None h = None

-- the operation whose callback a worker is in
abbrev pub operation_in : Place → Option OpId
operation_in (place.Pre o i) = Some o
operation_in (place.Post o i) = Some o
operation_in (place.Drain o i) = Some o
operation_in (place.EarlyDrain o i) = Some o
operation_in place.Idle = None
operation_in (place.Setup i) = None
operation_in (place.Base o) = None
operation_in (place.Cleanup c) = None
operation_in (place.Query i) = None
operation_in (place.Start i) = None
operation_in (place.Complete i) = None
operation_in (place.Routine i file) = None
operation_in (place.Unload f) = None

abbrev pub file_at : FlowTable → Option OpId → Option FileObject
file_at t None = None
file_at t (Some o) = told (λ r. file_object r.stream r.handle) None o t

-- a routine says itself which file it is on, a callback by its operation
abbrev pub file_of : FlowTable → Option Place → Option FileObject
file_of t (Some (place.Routine i file)) = file
file_of t m = file_at t (option_and_then operation_in m)

-- what a callback of an instance may work on: the instance is there
abbrev pub row_at : StackWorld → InstanceId → Option Instance
row_at s i = slice_get s.instances i.0

-- ---- kinds

abbrev pub has_kind_in : Option Filter → ContextKind → Bool
has_kind_in None kind = false
has_kind_in (Some filter) kind = has_context filter.registration.contexts.0 kind

-- whether the filter of an instance registered a kind
abbrev pub has_kind : StackWorld → Instance → ContextKind → Bool
has_kind s row kind = has_kind_in (slice_get s.filters row.filter.0) kind

abbrev pub is_volume : ContextKind → Bool
is_volume kind.Volume = true
is_volume _ = false

abbrev pub is_instance : ContextKind → Bool
is_instance kind.Instance = true
is_instance _ = false

abbrev pub is_of_stream : ContextKind → Bool
is_of_stream kind.Stream = true
is_of_stream _ = false

abbrev pub is_of_handle : ContextKind → Bool
is_of_handle kind.Handle = true
is_of_handle _ = false

abbrev pub is_of_file : ContextKind → Bool
is_of_file kind.File = true
is_of_file _ = false

-- what a callback allocates belongs to its instance; a volume context to its filter
abbrev pub owner_by : Instance → InstanceId → ContextKind → Owner
owner_by row i kind.Volume = owner.Filter row.filter
owner_by row i _ = owner.Instance i

-- what the callback sets a context of that kind on, if it has such an object: a stream, a handle and a file come with an operation on a file. A file has one stream, whose number names it
abbrev pub object_by : Instance → InstanceId → Option FileObject → ContextKind → Option Object
object_by row i file kind.Volume = Some (object.Volume row.volume)
object_by row i file kind.Instance = Some (object.Instance i)
object_by row i file kind.Stream = option_map (λ f. object.Stream f.stream) file
object_by row i file kind.Handle = option_map (λ f. object.Handle f.handle) file
object_by row i file kind.File = option_map (λ f. object.File f.stream) file

-- nothing more is set on an instance that is being torn down, or where its volume is dismounted
abbrev pub is_closing : StackWorld → Instance → Bool
is_closing s row = not (is_setup row.phase || is_attached row.phase) || not (is_mounted (slice_get s.volumes row.volume.0))

-- ---- what a context names is there

-- an instance that isn't detached
abbrev pub is_left_by : Option Instance → Bool
is_left_by None = false
is_left_by (Some row) = not (is_detached row.phase)

-- an instance whose contexts weren't unlinked
abbrev pub keeps_links : Phase → Bool
keeps_links phase.Emptying = false
keeps_links phase.Detached = false
keeps_links _ = true

abbrev pub keeps_links_by : Option Instance → Bool
keeps_links_by None = false
keeps_links_by (Some row) = keeps_links row.phase

-- a volume whose contexts a dismount didn't unlink
abbrev pub holds_links : VolumePhase → Bool
holds_links volume_phase.Mounted = true
holds_links volume_phase.Dismounting = true
holds_links volume_phase.Emptied = false
holds_links volume_phase.Finished = false

abbrev pub holds_links_by : Option Volume → Bool
holds_links_by None = false
holds_links_by (Some volume) = holds_links volume.phase

-- a filter owns volume contexts, an instance all others
abbrev pub owner_fits : StackWorld → ContextKind → Owner → Bool
owner_fits s kind.Volume (owner.Filter f) = nat_lt f.0 (length s.filters)
owner_fits s kind.Volume (owner.Instance i) = false
owner_fits s _ (owner.Filter f) = false
owner_fits s _ (owner.Instance i) = is_left_by (row_at s i)

-- whose contexts may be linked: a filter's, and those of an instance that isn't being emptied
abbrev pub may_link : StackWorld → Owner → Bool
may_link s (owner.Filter f) = true
may_link s (owner.Instance i) = keeps_links_by (row_at s i)

-- an object of the context's kind: a volume that is there and wasn't emptied, the owner itself, a stream, a handle or a file
abbrev pub suits : StackWorld → Context → Object → Bool
suits s x (object.Volume v) = is_volume x.kind && holds_links_by (slice_get s.volumes v.0)
suits s x (object.Instance i) = is_instance x.kind && same_owner (owner.Instance i) x.owner
suits s x (object.Stream r) = is_of_stream x.kind
suits s x (object.Handle h) = is_of_handle x.kind
suits s x (object.File r) = is_of_file x.kind

abbrev pub link_fits : StackWorld → Context → Option Object → Bool
link_fits s x None = true
link_fits s x (Some o) = may_link s x.owner && suits s x o

abbrev pub fits : StackWorld → Option Context → Bool
fits s None = true
fits s (Some x) = owner_fits s x.kind x.owner && link_fits s x x.link

-- operations may be in flight at an instance
abbrev pub is_flown : Phase → Bool
is_flown phase.Attached = true
is_flown phase.Stopping = true
is_flown _ = false

abbrev pub is_flown_by : Option Instance → Bool
is_flown_by None = false
is_flown_by (Some row) = is_flown row.phase

-- ---- who may hold what

-- a context that a callback of the instance may hold: it belongs to the instance, or is a volume context of its filter
abbrev pub belongs_by : Option Instance → InstanceId → Option Context → Bool
belongs_by (Some row) i (Some x) = same_owner (owner_by row i x.kind) x.owner
belongs_by _ i _ = false

abbrev pub belongs : StackWorld → List Slot → InstanceId → CtxId → Bool
belongs s slots i c = belongs_by (row_at s i) i (context_at slots c)

-- what a worker holds: contexts that the callback which it is in may hold, and none outside of callbacks
abbrev pub HoldsIn : StackWorld → List Slot → Option InstanceId → CtxId → Type 0
HoldsIn s slots None c = ⊥
HoldsIn s slots (Some i) c = belongs s slots i c ≡ true

-- what a completion carries: a context that its instance's callbacks may hold
abbrev pub CarriesIn : StackWorld → List Slot → InstanceId → Option CtxId → Type 0
CarriesIn s slots i None = Unit {0}
CarriesIn s slots i (Some c) = belongs s slots i c ≡ true

abbrev pub AskCarries : StackWorld → List Slot → Ask → Type 0
AskCarries s slots ask = CarriesIn s slots ask.instance ask.completion.context

-- the filter whose cleanup callback a context gets
abbrev pub filter_by : StackWorld → Owner → Option FilterId
filter_by s (owner.Filter f) = Some f
filter_by s (owner.Instance i) = filter_in (row_at s i)
  where
    filter_in : Option Instance → Option FilterId
    filter_in None = None
    filter_in (Some row) = Some row.filter
