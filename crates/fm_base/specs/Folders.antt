-- The folder that a base stands for, and what each call makes of it or tells of it.
use Rattle.std.specs.Prelude.{ℕ, ◌==◌, ◌&&◌, Bool, cond, not, List, [], ◌∷◌, ◌++◌, length, take, drop, Option, Some, None, Result, Ok, Err}
use Rattle.std.specs.Prelude.{nat_le, nat_lt}
use Rattle.std.specs.List.{list_any, filter, flat_map}
use Rattle.std.specs.Ordering.{nat_cmp}
use Rattle.std.specs.Cmp.Lexicographic.{slice_cmp}
use Rattle.std.specs.FinMap.{FinMap, get, insert, remove, keys}
use Rattle.fm_types.specs.declared.status.Status.{Status}
use Rattle.fm_types.specs.declared.status.Status.TheVariants.{FileNotFound, AlreadyExists, TooMany, EndOfFile}
use Rattle.fm_types.specs.declared.operation.CreateMode.{CreateMode}
use Rattle.fm_types.specs.declared.operation.CreateMode.TheVariants.{Existing, New, Always}

-- a finite map from the paths of the files to their bytes; it has no folders of its own
abbrev pub Folder : Type 0
Folder = FinMap (slice_cmp nat_cmp) (List ℕ)

-- opens the file that is there, which keeps its bytes, or makes an empty one, as far as the mode allows
abbrev pub create_at : CreateMode → List ℕ → Folder → Option (List ℕ) → Result Folder Status
create_at Existing path folder None = Err FileNotFound
create_at Existing path folder (Some file) = Ok folder
create_at New path folder None = Ok (insert folder path [])
create_at New path folder (Some file) = Err AlreadyExists
create_at Always path folder None = Ok (insert folder path [])
create_at Always path folder (Some file) = Ok folder

-- what a create makes of the folder, or the status with which it is refused
abbrev pub created : CreateMode → List ℕ → Folder → Result Folder Status
created mode path folder = create_at mode path folder (get folder path)

abbrev pub change_at : (List ℕ → List ℕ) → List ℕ → Folder → Option (List ℕ) → Result Folder Status
change_at change path folder None = Err FileNotFound
change_at change path folder (Some file) = Ok (insert folder path (change file))

-- the folder with the bytes of one file changed, which has to be there
abbrev pub changed : (List ℕ → List ℕ) → List ℕ → Folder → Result Folder Status
changed change path folder = change_at change path folder (get folder path)

abbrev pub unlink_at : List ℕ → Folder → Option (List ℕ) → Result Folder Status
unlink_at path folder None = Err FileNotFound
unlink_at path folder (Some file) = Ok (remove folder path)

-- the folder without one file, which has to be there
abbrev pub unlinked : List ℕ → Folder → Result Folder Status
unlinked path folder = unlink_at path folder (get folder path)

abbrev pub tell_at : {T : Type 0} → (List ℕ → Result T Status) → Option (List ℕ) → Result T Status
tell_at tell None = Err FileNotFound
tell_at tell (Some file) = tell file

-- what is told of one file, which has to be there
abbrev pub told : {T : Type 0} → (List ℕ → Result T Status) → List ℕ → Folder → Result T Status
told tell path folder = tell_at tell (get folder path)

-- the bytes from a place on, fewer at the end; some bytes from past the end are refused
abbrev pub bytes_from : ℕ → ℕ → List ℕ → Result (List ℕ) Status
bytes_from offset len file = cond (nat_le (length file) offset && nat_lt 0 len) (Err EndOfFile) (Ok (take len (drop offset file)))

-- how many bytes there are
abbrev pub size_of : List ℕ → Result ℕ Status
size_of file = Ok (length file)

-- nothing but that the file is there
abbrev pub presence_of : List ℕ → Result (Unit {0}) Status
presence_of file = Ok tt

-- a path of one part, which has no `/`
abbrev pub is_direct : List ℕ → Bool
is_direct path = not (list_any (λ byte. byte == 47) path)

-- each name, and a line feed behind it
abbrev pub lines_of : List (List ℕ) → List ℕ
lines_of names = flat_map (λ name. name ++ 10 ∷ []) names

-- of some names, those of one part, each with a line feed behind it
abbrev pub listing_of : List (List ℕ) → List ℕ
listing_of names = lines_of (filter is_direct names)

-- the names directly in the folder, ascending by bytes
abbrev pub listing : Folder → List ℕ
listing folder = listing_of (keys folder)

-- a listing of more bytes than an operation may have is refused
abbrev pub listed : Folder → Result (List ℕ) Status
listed folder = cond (nat_lt 32768 (length (listing folder))) (Err TooMany) (Ok (listing folder))
