-- A status is the one of its number.
use Rattle.std.proofs.Common.{◌≡◌, ◌<◌, ◌↔◌, ◌==◌, ℕ, suc, cond, Option, Some, None, IsSome, IfSome, slice_get, ap, refl, subst, sym, arith}
use Rattle.std.proofs.lemmas.Option.{slice_get_past}
use Rattle.std.proofs.Math.Nat.{lt_of_not-le}
use Rattle.fm_types.specs.declared.status.Status.{Status}
use Rattle.fm_types.specs.declared.status.Status.TheVariants.{Success, NoMemory, BadAltitude, BadName, NameCollision, AltitudeCollision, NoFilter, NoVolume, NoInstance, NotLoaded, AlreadyLoaded, DoNotAttach, DoNotDetach, DeletingObject, NoHandle, BadPath, DeletePending, AccessDenied, DeviceFault, FileNotFound, AlreadyExists, NotRegistered, AlreadyDefined, AlreadyLinked, NoContext, NotHeld, HandFull, NoObject, NotPended, TooMany, WrongStep, EndOfFile, BadRequest, Dismounting, Busy}
use Rattle.fm_types.specs.Statuses.{number_of, information_of}
use Rattle.kazdrin_c.specs.Named.{status_at, statuses}

at : (status : Status) (count : ℕ) → information_of status ≡ cond (number_of status == 34) count 0 → slice_get (statuses count) (number_of status) ≡ Some status
at Success count same = refl
at NoMemory count same = refl
at BadAltitude count same = refl
at BadName count same = refl
at NameCollision count same = refl
at AltitudeCollision count same = refl
at NoFilter count same = refl
at NoVolume count same = refl
at NoInstance count same = refl
at NotLoaded count same = refl
at AlreadyLoaded count same = refl
at DoNotAttach count same = refl
at DoNotDetach count same = refl
at DeletingObject count same = refl
at NoHandle count same = refl
at BadPath count same = refl
at DeletePending count same = refl
at AccessDenied count same = refl
at DeviceFault count same = refl
at FileNotFound count same = refl
at AlreadyExists count same = refl
at NotRegistered count same = refl
at AlreadyDefined count same = refl
at AlreadyLinked count same = refl
at NoContext count same = refl
at NotHeld count same = refl
at HandFull count same = refl
at NoObject count same = refl
at NotPended count same = refl
at TooMany count same = refl
at WrongStep count same = refl
at EndOfFile count same = refl
at BadRequest count same = refl
at Dismounting count same = refl
at (Busy held) count same = ap (λ n. Some (Busy n)) (sym same)

not_some : IsSome {T = Status} None → ⊥
not_some is = absurd (cc)

pub numbered : (found : Option Status) (n count : ℕ) → IsSome found ↔ (n < 35) → IfSome found (λ status. number_of status ≡ n)
    → IfSome found (λ status. information_of status ≡ cond (n == 34) count 0) → found ≡ status_at n count
unfolding status_at
numbered (Some status) n count there number information =
    subst (λ m. Some status ≡ slice_get (statuses count) m) number
    (sym (at status count (subst (λ m. information_of status ≡ cond (m == 34) count 0) (sym number) information)))
numbered None n count there number information =
    let past : 35 < suc n = lt_of_not-le (λ within. not_some (there.1 within)) in sym (slice_get_past (statuses count) n (omega (arith, past)))
