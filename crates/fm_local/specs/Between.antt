-- How a manager is between two calls.
use Rattle.fm_local.specs.Words.{Parts}
use Rattle.fm_local.specs.Cleanups.{HasNoneDue}
use Rattle.fm_local.specs.Places.{IsOut}
use Rattle.fm_local.specs.Waits.{Waiting}
use Rattle.fm_local.specs.declared.parts.TheConstants.{WORKER}

-- each operation that waits was resumed, or ended, and waits once; the worker is idle, and no context is due
pub record IsBetween {F B : Type 0} (m : Parts F B) : Type 0 where
  pub waits : Waiting m
  pub out : IsOut WORKER m.work.state
  pub none_due : HasNoneDue WORKER m.work.state

-- where it was so it is so again
abbrev pub StaysBetween : {F B : Type 0} → Parts F B → Parts F B → Type 0
StaysBetween old new = IsBetween old → IsBetween new
