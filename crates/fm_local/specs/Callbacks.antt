-- What a callback of an instance's filter answers, and what it leaves.
use Rattle.std.specs.Prelude.{◌≡◌, Bool, List, Option}
use Rattle.fm_local.specs.Words.{Completion, OpId}
use Rattle.fm_filter.specs.Standing.{standing_of}
use Rattle.fm_local.specs.Managers.{IsQuietIn}
use Rattle.fm_local.specs.Waits.{Wait}
use Rattle.fm_local.specs.declared.callbacks.Consent.{Consent}
use Rattle.fm_local.specs.declared.callbacks.News.{News}
use Rattle.fm_local.specs.declared.local_port.Work.{Work}

-- what it may answer, where it is asked
abbrev pub consents : {F : Type 0} → (F → Bool → Type 0) → (F → Bool → Type 0) → Consent → F → Bool → Type 0
consents setup query Consent.Setup = setup
consents setup query Consent.Query = query

-- what holds once it was told
abbrev pub was_told : {F : Type 0} → (F → Type 0) → (F → Type 0) → (F → Completion → Type 0) → News → F → Type 0
was_told started completed drained News.Start f = started f
was_told started completed drained News.Complete f = completed f
was_told started completed drained (News.Drain completion) f = drained f completion

-- the instances and the workers stand
abbrev pub LeavesStanding : Work → Work → Type 0
LeavesStanding old new = standing_of new.state ≡ standing_of old.state

-- those that wait do so still
abbrev pub KeepsWaiting : Work → Work → Type 0
KeepsWaiting old new = (ended : List OpId) → Wait old.state.flow old.resumed.items.items ended → Wait new.state.flow new.resumed.items.items ended

-- a quiet filter leaves all, and any one where the instances and the workers stand; and those that wait do so still
pub record CallsOnly {F : Type 0} (is_quiet : F → Type 0) (filter : Option F) (old new : Work) : Type 0 where
  pub quiet : IsQuietIn is_quiet filter → new ≡ old
  pub far : LeavesStanding old new
  pub waits : KeepsWaiting old new
