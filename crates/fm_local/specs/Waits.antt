-- Operations that wait: those that were resumed, to be carried on, and those that ended, to be handed out.
use Rattle.std.specs.Prelude.{[], ⊤, ◌∷◌, ◌≡◌, ◌==◌, ◌&&◌, All, Bool, List, None, Ok, Option, Result, Some, cond, false, filter, map, not, true, ℕ}
use Rattle.std.specs.List.{list_any}
use Rattle.fm_local.specs.Words.{Answer, FlowAction, FlowRecord, Parts, OpId, Operation, Status, WorkerId, World}
use Rattle.fm_filter.specs.Standing.{Shape, Standing, shape_of}
use Rattle.fm_operations.specs.declared.stage.Stage.{Stage}
use Rattle.fm_operations.specs.declared.stage.Stage.TheVariants.{Ascending, Descending}
use Rattle.fm_operations.specs.Table.{FlowTable, is_collectable, told}
use Rattle.fm_world.specs.Sound.{IsSound}
use Rattle.fm_world.specs.Steps.{Steps}
use Rattle.fm_world.specs.declared.step.Step.{Step}
use Rattle.fm_world.specs.declared.step.Step.TheVariants as step
use Rattle.fm_world.specs.declared.step.StepReply.{StepReply}
use Rattle.fm_world.specs.declared.place.Place.{Place}
use Rattle.fm_callback_data.specs.declared.request.Reply.{Reply}
use Rattle.fm_world.specs.Events.{Collects}
use Rattle.fm_local.specs.Actions.{replied}
use Rattle.fm_local.specs.Places.{IsIn}

-- nobody is inside an operation at that stage, and no filter holds it
abbrev pub is_between : Stage → Bool
is_between Descending = true
is_between Ascending = true
is_between _ = false

-- so it is with an operation whose answer wasn't handed out
abbrev pub is_loose : FlowRecord → Bool
is_loose r = not r.collected && is_between r.stage

abbrev pub IsLoose : FlowTable → OpId → Type 0
IsLoose t o = told is_loose false o t ≡ true

-- an operation is done, and its answer wasn't handed out
abbrev pub IsEnded : FlowTable → OpId → Type 0
IsEnded t o = told is_collectable false o t ≡ true

-- whether an event hands out the answer of an operation
abbrev pub hands_out : Step → OpId → Bool
hands_out (step.Collect o) p = p.0 == o.0
hands_out _ p = false

-- an operation that is done and whose answer wasn't handed out stays so in every event but the one that hands its answer out
abbrev pub EndedLasts : Type 0
EndedLasts =
    (old : World) (s : Step) (r : StepReply) (new : World) (p : OpId) → IsSound old → Steps old s r new → hands_out s p ≡ false
    → IsEnded old.flow p → IsEnded new.flow p

-- ---- those that wait

abbrev pub is_among : OpId → List OpId → Bool
is_among o os = list_any (λ p. p.0 == o.0) os

-- no operation stands twice
abbrev pub are_apart : List OpId → Bool
are_apart [] = true
are_apart (o ∷ os) = not (is_among o os) && are_apart os

abbrev pub are_loose : FlowTable → List OpId → Bool
are_loose t [] = true
are_loose t (o ∷ os) = told is_loose false o t && are_loose t os

-- operations that were resumed: each waits once, and nobody is inside it
abbrev pub go_on_once : FlowTable → List OpId → Bool
go_on_once t os = are_loose t os && are_apart os

-- operations that were resumed and operations that ended: of the latter each waits once, with an answer that wasn't handed out, and none of them is to go on
pub record Wait (t : FlowTable) (resumed ended : List OpId) : Type 0 where
  pub going : go_on_once t resumed ≡ true
  pub done : All (IsEnded t) ended
  pub others : All (λ o. is_among o resumed ≡ false) ended
  pub once : are_apart ended ≡ true

-- ---- what no callback changes of them

-- whether an operation of that number has ended, and isn't to go on
abbrev pub is_left : FlowTable → List OpId → ℕ → Bool
is_left t resumed n = told is_collectable false (record { 0 = n }) t && not (is_among (record { 0 = n }) resumed)

abbrev pub left_ended : FlowTable → List OpId → List ℕ
left_ended t resumed = filter (is_left t resumed) (map (λ r. r.number.0) t.operations)

-- they stand as one more shape: those that ended and aren't to go on as drained, and a path where those that are to go on wait once
abbrev pub shape_of_waiting : FlowTable → List OpId → Shape
shape_of_waiting t resumed = record {
  number = record { 0 = 0 };
  operation = Operation.Read;
  path =
      cond (go_on_once t resumed) (Some []) None;
  drained = left_ended t resumed;
}

-- what stands, with those that wait
abbrev pub standing_with : List OpId → World → Standing
standing_with resumed w = record { stack = w.stack; workers = w.workers; operations = shape_of_waiting w.flow resumed ∷ map shape_of w.flow.operations }

-- ---- of a manager

abbrev pub Waiting : {F B : Type 0} → Parts F B → Type 0
Waiting m = Wait m.work.state.flow m.work.resumed.items.items m.finished.items.items

-- where that was so it is so again
abbrev pub StaysWaiting : {F B : Type 0} → Parts F B → Parts F B → Type 0
StaysWaiting old new = Waiting old → Waiting new

-- an operation neither is to go on nor has its answer handed out later
abbrev pub IsApart : {F B : Type 0} → OpId → Parts F B → Type 0
IsApart o m = (is_among o m.work.resumed.items.items ≡ false) × (is_among o m.finished.items.items ≡ false)

-- so it is again
abbrev pub StaysApart : {F B : Type 0} → OpId → Parts F B → Parts F B → Type 0
StaysApart o old new = Waiting old → IsApart o old → Waiting new × IsApart o new

-- the worker is inside the callback of an operation that it was given
abbrev pub IsGiven : WorkerId → OpId → Result FlowAction Status → World → Type 0
IsGiven k o (Ok (FlowAction.Pre i lent)) w = IsIn k (Place.Pre o i) w
IsGiven k o (Ok (FlowAction.Post i lent completion)) w = IsIn k (Place.Post o i) w
IsGiven k o (Ok (FlowAction.Drain i completion)) w = IsIn k (Place.Drain o i) w
IsGiven k o _ w = ⊤

-- ---- handed out

-- of those that ended the first is handed out, with the answer that the state has for it, and waits no more; where none waits nothing changes
abbrev pub HandsOut : {F B : Type 0} → List OpId → Parts F B → Option (OpId × Reply) → Parts F B → Type 0
HandsOut [] old said new = (said ≡ None) × (new.work ≡ old.work) × (new.finished.items.items ≡ [])
HandsOut (o ∷ ended) old said new =
    (answer : Answer) × (said ≡ Some (o, replied answer)) × Collects old.work.state o (Ok answer) new.work.state × (new.finished.items.items ≡ ended)
