-- What the host's answers are to a base.
use Rattle.std.specs.Prelude.{◌≡◌, ℤ, Option, None, Result, Ok, Err}
use Rattle.std.specs.IoError.{error_kind, raw_os_error}
use Rattle.std.specs.declared.io.Error.{Error}
use Rattle.std.specs.declared.io.ErrorKind.{ErrorKind}
use Rattle.std.specs.declared.io.ErrorKind.TheVariants as kind
use Rattle.fm_types.specs.declared.status.Status.{Status}
use Rattle.fm_types.specs.declared.status.Status.TheVariants.{NoMemory, DeviceFault, FileNotFound, AlreadyExists}

-- no such file, or no such folder above it; a file that is there; a growth of this program's own that was refused, for which the host has no
-- number; all else, the host's own want of memory too, is a fault of the device
abbrev pub status_by : ErrorKind → Option ℤ → Status
status_by kind.NotFound number = FileNotFound
status_by kind.NotADirectory number = FileNotFound
status_by kind.AlreadyExists number = AlreadyExists
status_by kind.OutOfMemory None = NoMemory
status_by _ number = DeviceFault

-- the status for an error
abbrev pub status_of : Error → Status
status_of error = status_by (error_kind error) (raw_os_error error)

-- what the host told, as a base answers it
abbrev pub answer_of : {T : Type 0} → Result T Error → Result T Status
answer_of (Ok value) = Ok value
answer_of (Err error) = Err (status_of error)

-- the status for some error
abbrev pub IsHostRefusal : Status → Type 0
IsHostRefusal status = (error : Error) × (status ≡ status_of error)
