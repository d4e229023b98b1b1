-- The numbers of statuses.
use Rattle.std.specs.Prelude.{ℕ, List, codes}
use Rattle.fm_types.specs.declared.status.Status.{Status}
use Rattle.fm_types.specs.declared.status.Status.TheVariants.{Success, NoMemory, BadAltitude, BadName, NameCollision, AltitudeCollision, NoFilter, NoVolume, NoInstance, NotLoaded, AlreadyLoaded, DoNotAttach, DoNotDetach, DeletingObject, NoHandle, BadPath, DeletePending, AccessDenied, DeviceFault, FileNotFound, AlreadyExists, NotRegistered, AlreadyDefined, AlreadyLinked, NoContext, NotHeld, HandFull, NoObject, NotPended, TooMany, WrongStep, EndOfFile, BadRequest, Dismounting, Busy}

-- the number by which scripts and frames name a status
abbrev pub number_of : Status → ℕ
number_of Success = 0
number_of NoMemory = 1
number_of BadAltitude = 2
number_of BadName = 3
number_of NameCollision = 4
number_of AltitudeCollision = 5
number_of NoFilter = 6
number_of NoVolume = 7
number_of NoInstance = 8
number_of NotLoaded = 9
number_of AlreadyLoaded = 10
number_of DoNotAttach = 11
number_of DoNotDetach = 12
number_of DeletingObject = 13
number_of NoHandle = 14
number_of BadPath = 15
number_of DeletePending = 16
number_of AccessDenied = 17
number_of DeviceFault = 18
number_of FileNotFound = 19
number_of AlreadyExists = 20
number_of NotRegistered = 21
number_of AlreadyDefined = 22
number_of AlreadyLinked = 23
number_of NoContext = 24
number_of NotHeld = 25
number_of HandFull = 26
number_of NoObject = 27
number_of NotPended = 28
number_of TooMany = 29
number_of WrongStep = 30
number_of EndOfFile = 31
number_of BadRequest = 32
number_of Dismounting = 33
number_of (Busy count) = 34

-- the count of Busy; no other status has one
abbrev pub information_of : Status → ℕ
information_of (Busy count) = count
information_of _ = 0

-- its name
abbrev pub name_of : Status → List ℕ
name_of Success = codes "Success"
name_of NoMemory = codes "NoMemory"
name_of BadAltitude = codes "BadAltitude"
name_of BadName = codes "BadName"
name_of NameCollision = codes "NameCollision"
name_of AltitudeCollision = codes "AltitudeCollision"
name_of NoFilter = codes "NoFilter"
name_of NoVolume = codes "NoVolume"
name_of NoInstance = codes "NoInstance"
name_of NotLoaded = codes "NotLoaded"
name_of AlreadyLoaded = codes "AlreadyLoaded"
name_of DoNotAttach = codes "DoNotAttach"
name_of DoNotDetach = codes "DoNotDetach"
name_of DeletingObject = codes "DeletingObject"
name_of NoHandle = codes "NoHandle"
name_of BadPath = codes "BadPath"
name_of DeletePending = codes "DeletePending"
name_of AccessDenied = codes "AccessDenied"
name_of DeviceFault = codes "DeviceFault"
name_of FileNotFound = codes "FileNotFound"
name_of AlreadyExists = codes "AlreadyExists"
name_of NotRegistered = codes "NotRegistered"
name_of AlreadyDefined = codes "AlreadyDefined"
name_of AlreadyLinked = codes "AlreadyLinked"
name_of NoContext = codes "NoContext"
name_of NotHeld = codes "NotHeld"
name_of HandFull = codes "HandFull"
name_of NoObject = codes "NoObject"
name_of NotPended = codes "NotPended"
name_of TooMany = codes "TooMany"
name_of WrongStep = codes "WrongStep"
name_of EndOfFile = codes "EndOfFile"
name_of BadRequest = codes "BadRequest"
name_of Dismounting = codes "Dismounting"
name_of (Busy count) = codes "Busy"
