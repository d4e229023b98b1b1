-- Which Worlds events lead to, and that an answer is what an event was answered in one of them.
use Rattle.std.specs.Prelude.{◌≡◌, ◌⊎◌, ⊤, ℕ, List, Option, Some, None, Result, Ok, Err}
use Rattle.fm_callback_data.specs.declared.answer.Answer.{Answer}
use Rattle.fm_lock.specs.declared.clients.Waited.{Waited}
use Rattle.fm_lock.specs.declared.clients.Waited.TheVariants as waited
use Rattle.fm_types.specs.declared.ids.OpId.{OpId}
use Rattle.fm_types.specs.declared.ids.FilterId.{FilterId}
use Rattle.fm_types.specs.declared.registration.Registration.{Registration}
use Rattle.fm_types.specs.declared.status.Status.{Status}
use Rattle.fm_types.specs.declared.status.Status.TheVariants as status
use Rattle.fm_world.specs.declared.refused.Refused.{Refused}
use Rattle.fm_world.specs.declared.step.Step.{Step}
use Rattle.fm_world.specs.declared.step.Step.TheVariants as step
use Rattle.fm_world.specs.declared.step.StepReply.{StepReply}
use Rattle.fm_world.specs.declared.step.StepReply.TheVariants as reply
use Rattle.fm_world.specs.Steps.{Run, Steps}
use Rattle.fm_world.specs.World.{World, empty_world}

-- a run of events leads from the empty World to that one
abbrev pub IsRun : World → Type 0
IsRun w = (steps : List Step) × (replies : List StepReply) × Run empty_world steps replies w

-- the event was made in a World that a run leads to, and got that answer there
pub record IsMade (s : Step) (answer : StepReply) : Type 0 where
  pub before : World
  pub after : World
  pub run : IsRun before
  pub event : Steps before s answer after

-- the event got that answer; or it was refused first of all, and came back
abbrev pub IsAnswered : Step → Result StepReply (Refused Step) → Type 0
IsAnswered s (Ok answer) = IsMade s answer
IsAnswered s (Err refused) = refused ≡ record { status = status.WrongStep; handed_back = s }

-- the same of what was read off the answer
abbrev pub IsRead : {A : Type 0} → Step → (Result StepReply (Refused Step) → A) → A → Type 0
IsRead s read result = (given : Result StepReply (Refused Step)) × IsAnswered s given × (result ≡ read given)

-- or it was refused first of all, with that answer
abbrev pub IsMadeOr : {A : Type 0} → A → Step → StepReply → A → Type 0
IsMadeOr refused s answer result = IsMade s answer ⊎ (result ≡ refused)

-- a filter of that name was registered so, or none of that name was handed in
abbrev pub IsRegistered : List ℕ → Result FilterId Status → Type 0
IsRegistered name result =
    ((registration : Registration) × IsMade (step.Register name registration) (reply.Filter result)) ⊎ (result ≡ Err status.NoFilter)

-- what a wait took is an operation's answer, or its refusal; it may have taken none
abbrev pub IsTaken : OpId → Result (Option Answer) Status → Type 0
IsTaken o (Ok (Some answer)) = IsMade (step.Collect o) (reply.Answer (Ok answer))
IsTaken o (Ok None) = ⊤
IsTaken o (Err status) = IsMade (step.Collect o) (reply.Answer (Err status))

abbrev pub IsTakenIn : OpId → Result Waited Status → Type 0
IsTakenIn o (Ok (waited.Answer answer)) = IsMade (step.Collect o) (reply.Answer (Ok answer))
IsTakenIn o (Ok waited.Turn) = ⊤
IsTakenIn o (Ok waited.Late) = ⊤
IsTakenIn o (Err status) = IsMade (step.Collect o) (reply.Answer (Err status))
