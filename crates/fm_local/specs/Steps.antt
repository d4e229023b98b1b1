-- Operations beside each other: how one begins, and how one goes on by a step.
use Rattle.std.specs.Prelude.{◌∷◌, ◌≡◌, ◌||◌, [], Bool, None, Option, Result, Some, false, true}
use Rattle.fm_local.specs.Words.{Answer, OpId, Parts, Status}
use Rattle.fm_callback_data.specs.declared.request.Request.{Request}
use Rattle.fm_base.specs.declared.base.Base as base
use Rattle.fm_device.specs.Bases.{BasesCarry}
use Rattle.fm_filter.specs.Handed.{numbered}
use Rattle.fm_filter.specs.declared.minifilter.Minifilter as filter
use Rattle.fm_world.specs.Events.{Begins, Collects}
use Rattle.fm_local.specs.Actions.{OnlyState, TakesTurn, reply_of}
use Rattle.fm_local.specs.Cleanups.{CleansAll}
use Rattle.fm_local.specs.Waits.{is_among}
use Rattle.fm_local.specs.declared.parts.TheConstants.{WORKER}
use Rattle.fm_local.specs.declared.requests.Turn.{Turn}
use Rattle.fm_local.specs.declared.steps.Stepped.{Stepped}

module _ {F B : Type 0} where
  -- an operation begins, or is refused, and that is all
  abbrev pub BeginsAlone : Request → Parts F B → Result OpId Status → Parts F B → Type 0
  BeginsAlone what old result new = Begins old.work.state what result new.work.state × OnlyState old new

  -- whether an operation waits: to be carried on, since it was resumed, or to be handed out
  abbrev pub waits_in : OpId → Parts F B → Bool
  waits_in o m = is_among o m.work.resumed.items.items || is_among o m.finished.items.items

  -- the one that was resumed first is taken, if there is one, and nothing else changes
  abbrev pub TakesResumed : Parts F B → Option OpId → Parts F B → Type 0
  TakesResumed old None new = (old.work.resumed.items.items ≡ []) × (new.work.resumed.items.items ≡ []) × (new ≡ record old { work = record old.work { resumed = new.work.resumed } })
  TakesResumed old (Some o) new =
      (old.work.resumed.items.items ≡ o ∷ new.work.resumed.items.items) × (new ≡ record old { work = record old.work { resumed = new.work.resumed } })

  -- a turn that ended so leaves an operation so: of one that is done the answer is handed out
  abbrev pub StandsAfter : Turn → OpId → Parts F B → Stepped → Parts F B → Type 0
  StandsAfter Turn.Goes o old said new = (said ≡ Stepped.Goes) × (new ≡ old)
  StandsAfter Turn.Held o old said new = (said ≡ Stepped.Held) × (new ≡ old)
  StandsAfter Turn.Done o old said new =
      ((collected : Result Answer Status) × Collects old.work.state o collected new.work.state × (said ≡ Stepped.Done (reply_of collected)))
      × (new ≡ record old { work = record old.work { state = new.work.state }; trace = new.trace })

module _ {F B : Type 0} (own : filter.Ghosts F) (below : base.Ghosts B) where
  -- a turn of an operation, by filters of any kind, after which what is due is cleaned up
  abbrev pub StepsTurned : OpId → Parts F B → Stepped → Parts F B → Type 0
  StepsTurned o old said new =
      (ended : Turn) × (turned stands : Parts F B)
      × TakesTurn own.pre_may own.post_may own.drained (BasesCarry below.folder below.faults) (numbered old.filters) WORKER o ended
      old.work.state old.bases.all.items turned.work.state turned.bases.all.items
      × (turned ≡ record old { work = turned.work; bases = turned.bases; trace = turned.trace; leaks = turned.leaks })
      × StandsAfter ended o turned said stands × CleansAll own.cleanup_may (numbered stands.filters) WORKER stands.work.state new.work.state
      × OnlyState stands new

  abbrev pub StepsUnless : Bool → OpId → Parts F B → Stepped → Parts F B → Type 0
  StepsUnless true o old said new = (said ≡ Stepped.Held) × (new ≡ old)
  StepsUnless false o old said new = StepsTurned o old said new

  -- a step of an operation: one that waits is left as it is
  abbrev pub StepsOne : OpId → Parts F B → Stepped → Parts F B → Type 0
  StepsOne o old said new = StepsUnless (waits_in o old) o old said new
