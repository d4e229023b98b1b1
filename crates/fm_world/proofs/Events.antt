-- An event was refused, and nothing changed, or it came to pass. Of both, P is asked: of the answer, and of the World after it.
use Rattle.fm_world.proofs.Words.{Callback, InCallback, callback_of, Unless, Answers, AnswersOrMemory, Status, WorkerId, is_idle, worker_at, World, Place}
use Rattle.fm_world.proofs.Words.{Bool, Err, List, None, Ok, Option, Result, Some, arith, subst, sym, true, ◌≡◌}

-- ---- refusals

-- what holds where an event is refused, with whatever status
abbrev pub Refused : {T : Type 0} → (Result T Status → World → Type 0) → World → Type 0
Refused P old = (why : Status) → P (Err why) old

pub refused_by : {T : Type 0} (P : Result T Status → World → Type 0) (why : Status) (result : Result T Status) (old new : World)
    → (result ≡ Err why) × (new ≡ old)
    → Refused P old → P result new
refused_by P why result old new h refused = subst (λ r. P r new) (sym h.0) (subst (P (Err why)) (sym h.1) (refused why))

pub unless_by : {T : Type 0} (P : Result T Status → World → Type 0) (refusal : Status) (b : Bool) (result : Result T Status) (old new : World) (Event : Type 0)
    → Unless refusal b result old new Event → Refused P old → (b ≡ true → Event → P result new) → P result new
unless_by P refusal b result old new Event h refused event = grind arith

pub answers_by : {T : Type 0} (P : Result T Status → World → Type 0) (refusal : Option Status) (result : Result T Status) (old new : World) (E : T → Type 0)
    → Answers refusal result old new E → Refused P old → ((v : T) → refusal ≡ None → E v → P (Ok v) new) → P result new
answers_by P refusal result old new E h refused event = grind arith

pub memory_by : {T : Type 0} (P : Result T Status → World → Type 0) (refusal : Option Status) (result : Result T Status) (old new : World) (E : T → Type 0)
    → AnswersOrMemory refusal result old new E → Refused P old → ((v : T) → refusal ≡ None → E v → P (Ok v) new) → P result new
memory_by P refusal result old new E h refused event = grind arith

-- ---- by an idle worker

idle_at : (m : Option Place) → is_idle m ≡ true → m ≡ Some Place.Idle
idle_at m h = grind arith

pub idle_there : (workers : List Place) (k : WorkerId) → is_idle (worker_at workers k) ≡ true → worker_at workers k ≡ Some Place.Idle
idle_there workers k h = idle_at (worker_at workers k) h

pub idle_by : {T : Type 0} (P : Result T Status → World → Type 0) (k : WorkerId) (result : Result T Status) (old new : World) (Event : Type 0)
    → Unless Status.WrongStep (is_idle (worker_at old.workers k)) result old new Event → Refused P old
    → (worker_at old.workers k ≡ Some Place.Idle → Event → P result new)
    → P result new
idle_by P k result old new Event h refused event = grind arith

-- ---- in a callback

-- an event of a callback with its refusals, and one that takes memory
pub asked_by : {T : Type 0} (P : Result T Status → World → Type 0) (old : World) (k : WorkerId) (result : Result T Status) (new : World)
    (refusal : Callback → Option Status) (E : Callback → T → Type 0)
    → InCallback old k result new (λ at. Answers (refusal at) result old new (E at)) → Refused P old
    → ((at : Callback) → callback_of old k ≡ Some at → (v : T) → refusal at ≡ None → E at v → P (Ok v) new) → P result new
asked_by P old k result new refusal E h refused event = grind arith

pub taken_by : {T : Type 0} (P : Result T Status → World → Type 0) (old : World) (k : WorkerId) (result : Result T Status) (new : World)
    (refusal : Callback → Option Status) (E : Callback → T → Type 0)
    → InCallback old k result new (λ at. AnswersOrMemory (refusal at) result old new (E at)) → Refused P old
    → ((at : Callback) → callback_of old k ≡ Some at → (v : T) → refusal at ≡ None → E at v → P (Ok v) new) → P result new
taken_by P old k result new refusal E h refused event = grind arith
