-- Streams and handles as the state keeps them.
use Rattle.std.specs.Prelude.{◌≡◌, ℕ, ◌<◌, ◌≤◌, min, Bool, false, List, Option, Some, None, option_map, All, AllPairs, map, count_by, remove, slice_index_or, slice_set}
use Rattle.fm_types.specs.declared.ids.StreamId.{StreamId}
use Rattle.fm_types.specs.declared.ids.VolumeId.{VolumeId}
use Rattle.fm_world.specs.declared.file.FileStream.{FileStream}
use Rattle.fm_world.specs.declared.file.FileHandle.{FileHandle}
use Rattle.fm_world.specs.Files.{FileTable, is_on, stream_of_path}
use Rattle.std.specs.HashMap.{HashMap}
use Rattle.fm_core.specs.FileNames.{AreNamed}
use Rattle.fm_core.specs.declared.file_name.FileName.{FileName}
use Rattle.fm_core.specs.declared.files.CreatePaths.{CreatePaths}

pub record FilesKept : Type 0 where
  pub table : FileTable
  -- how many streams have room
  pub room : ℕ

abbrev pub kept_in : List FileStream → List FileHandle → ℕ → FileTable
kept_in streams handles next = record { streams = streams; handles = handles; next = next }

-- the least of what three tables have room for
abbrev pub room_in : ℕ → ℕ → ℕ → ℕ
room_in a b c = min (min a b) c

-- one path, for each owner that a create has, and the stream that its file has already
abbrev pub paths_of : VolumeId → List ℕ → Option StreamId → CreatePaths
paths_of v path found = record { name = record { volume = v; path = path }; stream = path; operation = path; params = path; found = found }

abbrev pub found_at : VolumeId → List ℕ → FileTable → Option StreamId
found_at v path t = option_map (λ (x : FileStream). x.number) (stream_of_path v path t)

-- the stream that was found, or the one that a create of that number brings along
abbrev pub stream_or : ℕ → Option StreamId → StreamId
stream_or n None = record { 0 = n }
stream_or n (Some s) = s

abbrev pub IsBefore : FileStream → FileStream → Type 0
IsBefore x y = x.number.0 < y.number.0

abbrev pub IsOlder : FileHandle → FileHandle → Type 0
IsOlder x y = x.number.0 < y.number.0

-- both lists rise by their numbers, and the handles' lie below the next one's
pub record AreRising (t : FileTable) : Type 0 where
  pub streams : AllPairs IsBefore t.streams
  pub handles : AllPairs IsOlder t.handles
  pub given : All (λ (x : FileHandle). x.number.0 < t.next) t.handles

-- how many handles are open on a stream
abbrev pub open_on : List FileHandle → FileStream → ℕ
open_on hs x = count_by (is_on x.number) hs

-- beside each stream stands how many handles are open on it
abbrev pub AreCounted : List FileStream → List FileHandle → List ℕ → Type 0
AreCounted xs hs ns = ns ≡ map (open_on hs) xs

-- what is kept stands for streams and handles, and there is room for all handles
pub record AreKept {S : Type 0} (t : FileTable) (opens : List ℕ) (numbers : HashMap FileName StreamId S) (capacity : ℕ) : Type 0 where
  pub room : 4096 ≤ capacity
  pub rising : AreRising t
  pub counted : AreCounted t.streams t.handles opens
  pub named : AreNamed t.streams numbers

-- the number at a place changes, or goes
abbrev pub changed_at : (ℕ → ℕ) → Option ℕ → List ℕ → List ℕ
changed_at f None ns = ns
changed_at f (Some k) ns = slice_set ns k (f (slice_index_or ns k 0))

abbrev pub without_at : Option ℕ → List ℕ → List ℕ
without_at None ns = ns
without_at (Some k) ns = remove ns k

-- a handle that was found is on the stream
abbrev pub is_own : StreamId → Option FileHandle → Bool
is_own s None = false
is_own s (Some h) = is_on s h
