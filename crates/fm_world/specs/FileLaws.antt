-- What holds of streams and handles, and of the operations on them, between any two events.
use Rattle.std.specs.Prelude.{◌≡◌, ◌<◌, ◌||◌, Bool, true, false, All, AllPairs, Option, Some, None}
use Rattle.std.specs.List.{list_any}
use Rattle.fm_world.specs.Words.{HandleId, StreamId, is_creating, is_on_stream, has_create_on, FlowRecord, FlowTable}
use Rattle.fm_world.specs.declared.file.FileStream.{FileStream}
use Rattle.fm_world.specs.declared.file.FileHandle.{FileHandle}
use Rattle.fm_world.specs.Files.{FileTable, is_stream, is_handle, is_at_path, has_handle_on}

abbrev pub has_stream : FileTable → StreamId → Bool
has_stream f s = list_any (is_stream s) f.streams

abbrev pub has_stream_of : FileTable → Option StreamId → Bool
has_stream_of f None = false
has_stream_of f (Some s) = has_stream f s

-- a handle is open on the stream, or a create of it is under way
abbrev pub is_in_use : FileTable → FlowTable → FileStream → Bool
is_in_use f t x = has_handle_on x.number f || has_create_on x.number t

-- a create under way is on a stream that is there
abbrev pub IsCreatedOn : FileTable → FlowRecord → Type 0
IsCreatedOn f r = is_creating r ≡ true → has_stream_of f r.stream ≡ true

-- an operation on a handle that is open is on the handle's stream; and no handle to come will have that number
abbrev pub IsOnHandle : FileTable → Option StreamId → Option HandleId → Type 0
IsOnHandle f s None = Unit {0}
IsOnHandle f s (Some h) = (h.0 < f.next) × All (λ (x : FileHandle). is_handle h x ≡ true → is_on_stream x.stream s ≡ true) f.handles

pub record FilesHold (f : FileTable) (t : FlowTable) : Type 0 where
  -- the stream of an open handle is there, and so is that of a create under way
  pub handles_on : All (λ (x : FileHandle). has_stream f x.stream ≡ true) f.handles
  pub creates_on : All (IsCreatedOn f) t.operations
  -- on each stream that is there a handle is open, or a create of it is under way
  pub in_use : All (λ (x : FileStream). is_in_use f t x ≡ true) f.streams
  -- each number of a stream stands once, in ascending order, and each path of a volume once
  pub streams : AllPairs (λ (x y : FileStream). x.number.0 < y.number.0) f.streams
  pub paths : AllPairs (λ (x y : FileStream). is_at_path y.volume y.path x ≡ false) f.streams
  -- each number of a handle stands once, in ascending order, below the next handle's
  pub handles : AllPairs (λ (x y : FileHandle). x.number.0 < y.number.0) f.handles
  pub given : All (λ (x : FileHandle). x.number.0 < f.next) f.handles
  -- an operation on an open handle is on that handle's stream
  pub operations_on : All (λ (r : FlowRecord). IsOnHandle f r.stream r.handle) t.operations
