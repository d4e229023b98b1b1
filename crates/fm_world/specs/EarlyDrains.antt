-- The events by which a stopping instance gets completions back before their turn: the refusals of each, in their order, and what it makes of the World.
use Rattle.std.specs.Prelude.{◌≡◌, Bool, true, false, List, [], ◌∷◌, Option, Some, None, Result, Ok, Err}
use Rattle.fm_world.specs.Words.{InstanceId, OpId, WorkerId, Status, StackWorld, Instance, first_of, Answers, Leaves, is_stopping}
use Rattle.fm_types.specs.declared.status.Status.TheVariants as status
use Rattle.fm_callback_data.specs.declared.verdict.Completion.{Completion}
use Rattle.fm_operations.specs.Drains.{DrainTaken, drain_done_of}
use Rattle.fm_world.specs.declared.place.Place.{Place}
use Rattle.fm_world.specs.declared.place.Place.TheVariants as place
use Rattle.fm_world.specs.World.{World, carries}
use Rattle.fm_world.specs.Workers.{worker_at, put, is_idle}
use Rattle.fm_world.specs.Owners.{row_at}
use Rattle.fm_world.specs.ContextEvents.{is_gone_at}
use Rattle.fm_world.specs.Events.{Unless, brought}

abbrev pub is_stopping_at : Option Instance → Bool
is_stopping_at None = false
is_stopping_at (Some row) = is_stopping row.phase

abbrev pub drain_refusals : StackWorld → InstanceId → List (Bool × Status)
drain_refusals s i = (is_gone_at (row_at s i), status.NoInstance) ∷ []

-- the worker is in the drain, with what its completion carries in its hand; the operation stays where it is
abbrev pub GivesDrain : World → WorkerId → InstanceId → Option (OpId × Completion) → World → Type 0
GivesDrain old k i None new = new ≡ old
GivesDrain old k i (Some (o, completion)) new =
    new ≡ record old { flow = new.flow; workers = put old.workers k (place.EarlyDrain o i); contexts = brought old.contexts k completion.context }

-- what the instance is owed first, where it is stopping; else there is none
abbrev pub DrainsWhere : Bool → World → WorkerId → InstanceId → Option (OpId × Completion) → World → Type 0
DrainsWhere true old k i drain new = DrainTaken i old.flow drain new.flow × GivesDrain old k i drain new
DrainsWhere false old k i drain new = (drain ≡ None) × (new ≡ old)

-- by an idle worker
unfoldable pub TakesDrain : World → WorkerId → InstanceId → Result (Option (OpId × Completion)) Status → World → Type 0
TakesDrain old k i result new =
    Unless status.WrongStep (is_idle (worker_at old.workers k)) result old new
    (Answers (first_of (drain_refusals old.stack i)) result old new (λ drain. DrainsWhere (is_stopping_at (row_at old.stack i)) old k i drain new))

-- by a worker in such a drain: the record of an operation whose answer was handed out goes with the last that runs
abbrev pub DrainReturnsAt : World → WorkerId → Result (Unit {0}) Status → World → Option Place → Type 0
DrainReturnsAt old k result new (Some (place.EarlyDrain o i)) =
    (result ≡ Ok tt) × Leaves (carries old) old.contexts new.contexts k.0
    × (new ≡ record old { flow = drain_done_of o i old.flow; workers = put old.workers k place.Idle; contexts = new.contexts })
DrainReturnsAt old k result new _ = (result ≡ Err status.WrongStep) × (new ≡ old)

unfoldable pub DrainReturns : World → WorkerId → Result (Unit {0}) Status → World → Type 0
DrainReturns old k result new = DrainReturnsAt old k result new (worker_at old.workers k)
