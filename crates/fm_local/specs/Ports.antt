-- What a callback's resumptions through its port may answer beyond what the events say.
use Rattle.std.specs.Prelude.{[], ◌∷◌, ◌≡◌, Bool, Err, List, Ok, Result, length, ◌++◌, not, nat_le, option_and_then, option_map}
use Rattle.fm_local.specs.Words.{PreVerdict, OpId, Status, WorkerId, World}
use Rattle.std.specs.VecDeque.{deque_capacity}
use Rattle.fm_types.specs.declared.status.Status.TheVariants.{TooMany}
use Rattle.fm_world.specs.Events.{Unless, ResumesPre, ResumesPost}
use Rattle.fm_ctx.specs.Bags.{hand_of}
use Rattle.fm_stack.specs.declared.instance.Instance.{Instance}
use Rattle.fm_world.specs.Owners.{place_in, row_at}
use Rattle.fm_world.specs.Workers.{worker_at}
use Rattle.fm_filter.specs.Hands.{InHand}
use Rattle.fm_local.specs.declared.local_port.Work.{Work}

-- the references of a worker's hand, as long as it is in a callback of an instance
abbrev pub hand_at : World → WorkerId → InHand
hand_at w k = option_map (λ (row : Instance). hand_of w.contexts.hands k.0) (option_and_then (row_at w.stack) (place_in (worker_at w.workers k)))

-- whether there is room to note one more resumed operation
abbrev pub has_room : Work → Bool
has_room work = not (nat_le (deque_capacity work.resumed.items) (length work.resumed.items.items))

-- an event, by which nothing that waits to be carried on changes
abbrev pub OnState : (World → World → Type 0) → Work → Work → Type 0
OnState Event old new = Event old.state new.state × (new.resumed ≡ old.resumed)

-- what waits after a resumption: that operation behind the others
abbrev pub queued : OpId → Result (Unit {0}) Status → List OpId → List OpId
queued o (Ok done) waiting = waiting ++ o ∷ []
queued o (Err why) waiting = waiting

-- refused where there is no room, and else the event
abbrev pub ResumesPreIn : Work → WorkerId → OpId → PreVerdict → Result (Unit {0}) Status → Work → Type 0
ResumesPreIn old k o verdict result new =
    Unless TooMany (has_room old) result old.state new.state (ResumesPre old.state k o verdict result new.state)
    × (new.resumed.items.items ≡ queued o result old.resumed.items.items)

abbrev pub ResumesPostIn : Work → WorkerId → OpId → Result (Unit {0}) Status → Work → Type 0
ResumesPostIn old k o result new =
    Unless TooMany (has_room old) result old.state new.state (ResumesPost old.state k o result new.state)
    × (new.resumed.items.items ≡ queued o result old.resumed.items.items)
