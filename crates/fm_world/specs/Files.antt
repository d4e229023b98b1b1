-- Streams and handles, and what operations make of them.
use Rattle.std.specs.Prelude.{ℕ, ◌+◌, ◌==◌, ◌&&◌, ◌||◌, Bool, true, false, cond, not, List, [], ◌∷◌, ◌++◌, find, Option, Some, None}
use Rattle.std.specs.List.{list_any}
use Rattle.std.specs.Cmp.Lexicographic.{pointwise}
use Rattle.fm_world.specs.Words.{change_first, without_first, HandleId, StreamId, VolumeId, Status, Operation, PreState}
use Rattle.fm_operations.specs.Answered.{is_success}
use Rattle.fm_types.specs.declared.operation.Operation.TheVariants as kind
use Rattle.fm_operations.specs.declared.entry.PreState.TheVariants as state
use Rattle.fm_world.specs.declared.file.FileStream.{FileStream}
use Rattle.fm_world.specs.declared.file.FileHandle.{FileHandle}
use Rattle.fm_world.specs.declared.file.HandlePhase.{HandlePhase}
use Rattle.fm_world.specs.declared.file.HandlePhase.TheVariants as phase

-- streams in the order of their creates, handles in the order of their numbers, and the next handle's number
pub record FileTable : Type 0 where
  pub streams : List FileStream
  pub handles : List FileHandle
  pub next : ℕ

abbrev pub empty_files : FileTable
empty_files = record { streams = []; handles = []; next = 0 }

-- ---- who is there

abbrev pub is_stream : StreamId → FileStream → Bool
is_stream s x = x.number.0 == s.0

abbrev pub is_handle : HandleId → FileHandle → Bool
is_handle h x = x.number.0 == h.0

abbrev pub is_on : StreamId → FileHandle → Bool
is_on s x = x.stream.0 == s.0

abbrev pub is_at_path : VolumeId → List ℕ → FileStream → Bool
is_at_path v path x = (x.volume.0 == v.0) && pointwise ◌==◌ x.path path

abbrev pub stream_at : StreamId → FileTable → Option FileStream
stream_at s t = find (is_stream s) t.streams

abbrev pub stream_of_path : VolumeId → List ℕ → FileTable → Option FileStream
stream_of_path v path t = find (is_at_path v path) t.streams

-- an open handle
abbrev pub handle_at : HandleId → FileTable → Option FileHandle
handle_at h t = find (is_handle h) t.handles

abbrev pub has_handle_on : StreamId → FileTable → Bool
has_handle_on s t = list_any (is_on s) t.handles

-- a handle but that one is on the stream
abbrev pub has_other_handle : StreamId → HandleId → FileTable → Bool
has_other_handle s h t = list_any (λ x. is_on s x && not (is_handle h x)) t.handles

abbrev pub is_marked_in : Option FileStream → Bool
is_marked_in None = false
is_marked_in (Some x) = x.is_marked

abbrev pub is_marked : StreamId → FileTable → Bool
is_marked s t = is_marked_in (stream_at s t)

-- ---- operations begin

-- a create of number n is on its path's stream, which it brings along where there is none
abbrev pub number_or : ℕ → Option FileStream → StreamId
number_or n None = record { 0 = n }
number_or n (Some x) = x.number

abbrev pub stream_for : VolumeId → List ℕ → ℕ → FileTable → StreamId
stream_for v path n t = number_or n (stream_of_path v path t)

abbrev pub fresh_stream : VolumeId → List ℕ → ℕ → FileStream
fresh_stream v path n = record { number = record { 0 = n }; volume = v; path = path; is_marked = false }

abbrev pub created_in : VolumeId → List ℕ → ℕ → FileTable → Option FileStream → FileTable
created_in v path n t None = record t { streams = t.streams ++ fresh_stream v path n ∷ [] }
created_in v path n t (Some x) = t

abbrev pub created : VolumeId → List ℕ → ℕ → FileTable → FileTable
created v path n t = created_in v path n t (stream_of_path v path t)

-- a handle's end goes on
abbrev pub with_phase : HandlePhase → FileHandle → FileHandle
with_phase where' x = record x { phase = where' }

abbrev pub phased : HandleId → HandlePhase → FileTable → FileTable
phased h where' t = record t { handles = change_first (is_handle h) (with_phase where') t.handles }

-- ---- operations reach the base

-- a file is to be unlinked, or isn't any more
abbrev pub with_mark : Bool → FileStream → FileStream
with_mark b x = record x { is_marked = b }

abbrev pub marked : Bool → StreamId → FileTable → FileTable
marked b s t = record t { streams = change_first (is_stream s) (with_mark b) t.streams }

-- a create succeeded: a handle is given, of the next number
abbrev pub fresh_handle : StreamId → ℕ → FileHandle
fresh_handle s n = record { number = record { 0 = n }; stream = s; phase = phase.Open }

abbrev pub opened : StreamId → FileTable → FileTable
opened s t = record t { handles = t.handles ++ fresh_handle s t.next ∷ []; next = t.next + 1 }

abbrev pub closed : HandleId → FileTable → FileTable
closed h t = record t { handles = without_first (is_handle h) t.handles }

abbrev pub torn_down : StreamId → FileTable → FileTable
torn_down s t = record t { streams = without_first (is_stream s) t.streams }

-- a stream with neither a handle nor a create under way is torn down; `is_created` says whether another create of it is under way
abbrev pub left : StreamId → Bool → FileTable → FileTable
left s is_created t = cond (has_handle_on s t || is_created) t (torn_down s t)

-- what the base's answer makes of them: a create's success gives a handle, and a create that failed leaves its stream; a marking and its
-- taking back count where they succeeded, and a close whatever it is answered
abbrev pub after_base : Operation → Option StreamId → Option HandleId → Status → Bool → FileTable → FileTable
after_base kind.Create (Some s) h status is_created t = cond (is_success status) (opened s t) (left s is_created t)
after_base kind.SetDelete (Some s) h status is_created t = cond (is_success status) (marked true s t) t
after_base kind.Restore (Some s) h status is_created t = cond (is_success status) (marked false s t) t
after_base kind.Close (Some s) (Some h) status is_created t = left s is_created (closed h t)
after_base _ _ _ status is_created t = t

-- a create that a filter completed leaves its stream
abbrev pub after_pre : PreState → Operation → Option StreamId → Bool → FileTable → FileTable
after_pre (state.Completed status) kind.Create (Some s) is_created t = left s is_created t
after_pre _ _ _ is_created t = t
