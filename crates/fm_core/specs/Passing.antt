-- Callbacks that answer where they are called: `next`, and the return of the callback that it calls, in one.
use Rattle.std.specs.Prelude.{◌≡◌, ℕ, List, Option, true, false, Some, None, Ok, slice_get, slice_index_or}
use Rattle.fm_types.specs.declared.ids.InstanceId.{InstanceId}
use Rattle.fm_types.specs.declared.ids.OpId.{OpId}
use Rattle.fm_types.specs.declared.ids.WorkerId.{WorkerId}
use Rattle.fm_callback_data.specs.Data.{Data}
use Rattle.fm_callback_data.specs.declared.verdict.Completion.{Completion}
use Rattle.fm_callback_data.specs.declared.verdict.PreVerdict.{PreVerdict}
use Rattle.fm_callback_data.specs.declared.verdict.PreVerdict.TheVariants.{WithCallback}
use Rattle.fm_callback_data.specs.declared.verdict.PostVerdict.TheVariants.{Finished}
use Rattle.fm_operations.specs.declared.action.Below.TheVariants as below
use Rattle.fm_operations.specs.declared.action.FlowAction.TheVariants as action
use Rattle.fm_operations.specs.declared.entry.Ask.{Ask}
use Rattle.fm_operations.specs.declared.stage.Stage.TheVariants.{Ascending, Descending}
use Rattle.fm_operations.specs.Entries.{owed}
use Rattle.fm_operations.specs.Record.{FlowRecord}
use Rattle.fm_operations.specs.Steps.{may_take}
use Rattle.fm_operations.specs.Table.{operation_at}
use Rattle.fm_stack.specs.StackWorld.{StackWorld}
use Rattle.fm_world.specs.Events.{LiesBelow, Nexts, PostReturns, PreReturns, has_post, is_stopping_ask}
use Rattle.fm_world.specs.Workers.{is_idle, worker_at}
use Rattle.fm_world.specs.World.{World}
use Rattle.fm_core.specs.declared.passing.Coming.{Coming}
use Rattle.fm_core.specs.declared.passing.Coming.TheVariants as coming
use Rattle.fm_core.specs.declared.passing.Passed.{Passed}
use Rattle.fm_core.specs.declared.passing.Passed.TheVariants as passed

-- what a filter hands on that hands on a number alone
abbrev pub numbered : ℕ → Completion
numbered n = record { number = n; context = None }

-- ---- the events

-- an operation passes an instance on its way down: its preoperation is called, and asks at once for its postoperation
abbrev pub PassesDown : World → WorkerId → OpId → InstanceId → Completion → World → Type 0
PassesDown old k o i completion new =
    (lent : Data) × (mid : World) × Nexts old k o (Ok (action.Pre i lent)) mid × PreReturns mid k (WithCallback completion) lent (Ok tt) new

-- and on its way up: its postoperation is called, and finishes at once
abbrev pub PassesUp : World → WorkerId → OpId → InstanceId → World → Type 0
PassesUp old k o i new =
    (lent : Data) × (completion : Completion) × (mid : World) × Nexts old k o (Ok (action.Post i lent completion)) mid
    × PostReturns mid k Finished (Some lent) (Ok tt) new

-- what the preoperation of an instance answers at once, by the instances' numbers: it asks for its postoperation until something else is said
abbrev pub answered_by : List PreVerdict → InstanceId → PreVerdict
answered_by verdicts i = slice_index_or verdicts i.0 (WithCallback (numbered 0))

-- an operation passes an instance, or nothing changes
abbrev pub Passes : World → WorkerId → OpId → List PreVerdict → Option Passed → World → Type 0
Passes old k o verdicts (Some (passed.Down i n)) new = (answered_by verdicts i ≡ WithCallback (numbered n)) × PassesDown old k o i (numbered n) new
Passes old k o verdicts (Some (passed.Up i)) new = PassesUp old k o i new
Passes old k o verdicts None new = new ≡ old

-- ---- when there is such a callback

-- on its way down an operation comes to that instance, whose filter has a callback before it and one after it
pub record LiesNext (s : StackWorld) (r : FlowRecord) (i : InstanceId) : Type 0 where
  pub stage : r.stage ≡ Descending
  pub lies : LiesBelow s r (below.Instance i true)
  pub asks : has_post s (slice_get s.instances i.0) r.operation ≡ true

-- on its way up it owes that postoperation next; it isn't drained, the worker may make it, and no context comes back with it
pub record OwesPlain (s : StackWorld) (r : FlowRecord) (k : WorkerId) (ask : Ask) : Type 0 where
  pub stage : r.stage ≡ Ascending
  pub owes : slice_get (owed r.entries) 0 ≡ Some ask
  pub runs : is_stopping_ask s (Some ask) ≡ false
  pub may : may_take k ask ≡ true
  pub bare : ask.completion.context ≡ None

-- the worker is idle, and the operation there
pub record ComesDown (w : World) (k : WorkerId) (o : OpId) (i : InstanceId) : Type 0 where
  pub idle : is_idle (worker_at w.workers k) ≡ true
  pub operation : FlowRecord
  pub there : operation_at o w.flow ≡ Some operation
  pub next : LiesNext w.stack operation i

pub record ComesUp (w : World) (k : WorkerId) (o : OpId) (ask : Ask) : Type 0 where
  pub idle : is_idle (worker_at w.workers k) ≡ true
  pub operation : FlowRecord
  pub there : operation_at o w.flow ≡ Some operation
  pub next : OwesPlain w.stack operation k ask

-- what the operation passes next
abbrev pub IsComing : World → WorkerId → OpId → List PreVerdict → Coming → Type 0
IsComing w k o verdicts (coming.Down i n) = ComesDown w k o i × (answered_by verdicts i ≡ WithCallback (numbered n))
IsComing w k o verdicts (coming.Up ask) = ComesUp w k o ask
