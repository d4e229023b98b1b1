-- How an instance is detached: its filter is asked, its teardown starts and is completed. Whether a callback of it runs and how many operations are in
-- flight at it, the caller says.
use Rattle.std.specs.Prelude.{◌≡◌, ℕ, List, [], ◌∷◌, Bool, true, false, not, ◌&&◌, ◌||◌, nat_lt, slice_get, Option, Some, None, Result, Ok, Err}
use Rattle.fm_types.specs.declared.ids.InstanceId.{InstanceId}
use Rattle.fm_types.specs.declared.registration.Registration.{Registration}
use Rattle.fm_types.specs.declared.status.Status.{Status}
use Rattle.fm_types.specs.declared.status.Status.TheVariants as status
use Rattle.fm_types.specs.Refusals.{first_of, Answers}
use Rattle.fm_types.specs.Lists.{updated}
use Rattle.fm_stack.specs.declared.instance.Instance.{Instance}
use Rattle.fm_stack.specs.declared.instance.Phase.{Phase}
use Rattle.fm_stack.specs.declared.instance.Phase.TheVariants as phase
use Rattle.fm_stack.specs.declared.instance.StartMark.{StartMark}
use Rattle.fm_stack.specs.declared.instance.StartMark.TheVariants as mark
use Rattle.fm_stack.specs.StackWorld.{StackWorld}
use Rattle.fm_stack.specs.Instances.{is_attached, is_completing, is_gone_at, is_stopping, passes, registration_of}

-- ---- rows ----

abbrev pub in_phase : Phase → Instance → Instance
in_phase p row = record row { phase = p }

abbrev pub with_start : StartMark → Instance → Instance
with_start m row = record row { start = m }

-- no new operation comes to it
abbrev pub stop_row : Instance → Instance
stop_row row = in_phase phase.Stopping row

abbrev pub is_not_made : StartMark → Bool
is_not_made mark.NotMade = true
is_not_made _ = false

abbrev pub is_returned : StartMark → Bool
is_returned mark.Returned = true
is_returned _ = false

abbrev pub is_in_use : Instance → Bool
is_in_use row = is_attached row.phase

-- its teardown may start: it is stopping, and no start was made
abbrev pub is_to_start : Instance → Bool
is_to_start row = is_stopping row.phase && is_not_made row.start

-- its teardown may be completed, as far as its row says: it is stopping, and the start returned
abbrev pub is_to_complete : Instance → Bool
is_to_complete row = is_stopping row.phase && is_returned row.start

abbrev pub is_in_complete : Instance → Bool
is_in_complete row = is_completing row.phase

-- ---- asking ----

-- a call that only tests: it succeeds exactly where nothing refuses it
abbrev pub Permits : Option Status → Result (Unit {0}) Status → Type 0
Permits refusal (Ok done) = refusal ≡ None
Permits refusal (Err status) = refusal ≡ Some status

abbrev pub has_query : Option Registration → Bool
has_query None = false
has_query (Some registration) = registration.query

-- is_asked: a query of it runs
abbrev pub ask_detach_refusals : StackWorld → InstanceId → Bool → List (Bool × Status)
ask_detach_refusals s i is_asked =
    (is_gone_at (slice_get s.instances i.0), status.NoInstance)
    ∷ (not (passes is_in_use (slice_get s.instances i.0)) || is_asked, status.DeletingObject)
    ∷ (not (has_query (registration_of s i)), status.DoNotDetach)
    ∷ []

abbrev pub query_refusals : StackWorld → InstanceId → Bool → List (Bool × Status)
query_refusals s i allow =
    (not allow, status.DoNotDetach) ∷ (not (passes is_in_use (slice_get s.instances i.0)), status.DeletingObject) ∷ []

abbrev pub stopped : StackWorld → InstanceId → StackWorld
stopped s i = record s { instances = updated stop_row s.instances i.0 }

unfoldable pub QueryReturns : StackWorld → InstanceId → Bool → Result (Unit {0}) Status → StackWorld → Type 0
QueryReturns old i allow result new = Answers (first_of (query_refusals old i allow)) result old new (λ _. new ≡ stopped old i)

-- ---- the start of the teardown ----

abbrev pub start_refusals : StackWorld → InstanceId → List (Bool × Status)
start_refusals s i =
    (is_gone_at (slice_get s.instances i.0), status.NoInstance)
    ∷ (not (passes is_to_start (slice_get s.instances i.0)), status.WrongStep)
    ∷ []

abbrev pub starting : StackWorld → InstanceId → StackWorld
starting s i = record s { instances = updated (with_start mark.Made) s.instances i.0 }

unfoldable pub StartsTeardown : StackWorld → InstanceId → Result (Unit {0}) Status → StackWorld → Type 0
StartsTeardown old i result new = Answers (first_of (start_refusals old i)) result old new (λ _. new ≡ starting old i)

abbrev pub started : StackWorld → InstanceId → StackWorld
started s i = record s { instances = updated (with_start mark.Returned) s.instances i.0 }

-- ---- its completion ----

-- is_asked: a query of it runs; Busy says how many operations are in flight at it
abbrev pub complete_refusals : StackWorld → InstanceId → Bool → ℕ → List (Bool × Status)
complete_refusals s i is_asked in_flight =
    (is_gone_at (slice_get s.instances i.0), status.NoInstance)
    ∷ (not (passes is_to_complete (slice_get s.instances i.0)) || is_asked, status.WrongStep)
    ∷ (nat_lt 0 in_flight, status.Busy in_flight)
    ∷ []

abbrev pub completing : StackWorld → InstanceId → StackWorld
completing s i = record s { instances = updated (in_phase phase.Completing) s.instances i.0 }

unfoldable pub CompletesTeardown : StackWorld → InstanceId → Bool → ℕ → Result (Unit {0}) Status → StackWorld → Type 0
CompletesTeardown old i is_asked in_flight result new =
    Answers (first_of (complete_refusals old i is_asked in_flight)) result old new (λ _. new ≡ completing old i)

-- what is left of it waits for its contexts
abbrev pub emptying : StackWorld → InstanceId → StackWorld
emptying s i = record s { instances = updated (in_phase phase.Emptying) s.instances i.0 }
