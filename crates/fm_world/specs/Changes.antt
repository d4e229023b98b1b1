-- The event by which an instance that holds an operation has other parameters go down: its refusals in their order, and what it makes of the World.
use Rattle.std.specs.Prelude.{◌≡◌, false, not, [], ◌∷◌, Option, Some, None, Result, Ok, Err}
use Rattle.fm_world.specs.Words.{InstanceId, OpId, WorkerId, Status, first_of, Answers, changed, told}
use Rattle.fm_types.specs.declared.status.Status.TheVariants as status
use Rattle.fm_callback_data.specs.declared.params.Params.{Params}
use Rattle.fm_operations.specs.declared.hold.Hold.TheVariants as hold
use Rattle.fm_operations.specs.Steps.{takes, changed_held}
use Rattle.fm_world.specs.World.{World}
use Rattle.fm_world.specs.Workers.{worker_at}
use Rattle.fm_world.specs.Owners.{place_in}
use Rattle.fm_world.specs.Events.{is_held_by}

-- its preoperation holds the operation, and the parameters are the operation's own, as those are that a callback puts in place of what it received
abbrev pub change_held_refused : World → OpId → InstanceId → Params → Option Status
change_held_refused w o i params =
    first_of ((not (is_held_by w hold.Pre o i), status.NotPended) ∷ (not (told (takes params) false o w.flow), status.BadRequest) ∷ [])

-- whoever comes below receives them; the postoperations of the holder and of those above it see what they were to see
abbrev pub ChangesHeldAt : World → OpId → Params → Result (Unit {0}) Status → World → Option InstanceId → Type 0
ChangesHeldAt old o params result new None = (result ≡ Err status.WrongStep) × (new ≡ old)
ChangesHeldAt old o params result new (Some i) =
    Answers (change_held_refused old o i params) result old new (λ done. new ≡ record old { flow = changed o (changed_held params) old.flow })

-- by a worker in a callback or a routine of the instance, wherever it may resume the operation
unfoldable pub ChangesHeld : World → WorkerId → OpId → Params → Result (Unit {0}) Status → World → Type 0
ChangesHeld old k o params result new = ChangesHeldAt old o params result new (place_in (worker_at old.workers k))
