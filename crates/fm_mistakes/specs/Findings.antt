-- What is told of the three lists that a manager notes.
use Rattle.std.specs.Prelude.{ℕ, List, Option, Some, None, ◌+◌, ◌++◌, nat_eq, is_some, drop, filter_map, find, length, map, option_and_then, slice_get, if◌then◌else◌}
use Rattle.std.specs.List.{range_with_len}
use Rattle.fm_types.specs.declared.ids.OpId.{OpId}
use Rattle.fm_types.specs.declared.ids.InstanceId.{InstanceId}
use Rattle.fm_types.specs.declared.status.Status.{Status}
use Rattle.fm_world.specs.declared.place.Place.{Place}
use Rattle.fm_world.specs.declared.place.Place.TheVariants as place
use Rattle.fm_local.specs.declared.leak.Leak.{Leak}
use Rattle.fm_local.specs.declared.refusal.Refusal.{Refusal}
use Rattle.fm_local.specs.declared.trace.Traced.{Traced}
use Rattle.fm_local.specs.declared.trace.Visit.{Visit}
use Rattle.fm_local.specs.declared.trace.Visit.TheVariants as visit
use Rattle.fm_local.specs.declared.trace.PostAnswer.{PostAnswer}
use Rattle.fm_mistakes.specs.declared.mistake.Mistake.{Mistake}
use Rattle.fm_mistakes.specs.declared.mistake.Mistake.TheVariants as told
use Rattle.fm_mistakes.specs.declared.finding.Finding.{Finding}
use Rattle.fm_mistakes.specs.declared.finding.Finding.TheVariants as finding
use Rattle.fm_mistakes.specs.Mistakes.{is_same_status, mistake_of, post_mistake, pre_mistake}

abbrev pub mistake_in : Finding → Mistake
mistake_in (finding.Answer mistake at) = mistake
mistake_in (finding.Leak leak) = told.Leak
mistake_in (finding.Call mistake refusal) = mistake

abbrev pub place_in : Finding → Place
place_in (finding.Answer mistake at) = at
place_in (finding.Leak leak) = leak.place
place_in (finding.Call mistake refusal) = refusal.place

-- ---- steps

abbrev status_in : Visit → Option Status
status_in (visit.Post i answer) = Some answer.found
status_in (visit.Replied status) = Some status
status_in _ = None

-- the status that a step above the file system found, or that an operation's reply has, where it is of that operation
abbrev pub status_found : OpId → Traced → Option Status
status_found o step = if nat_eq step.operation.0 o.0 then status_in step.visit else None

-- the first such step
abbrev pub next_step : OpId → List Traced → Option Traced
next_step o steps = find (λ step. is_some (status_found o step)) steps

-- its status
abbrev pub next_status : OpId → List Traced → Option Status
next_status o steps = option_and_then (status_found o) (next_step o steps)

-- a mistake of a callback, if it is one
abbrev pub answered : Place → Option Mistake → Option Finding
answered at (Some mistake) = Some (finding.Answer mistake at)
answered at None = None

abbrev pub post_told : OpId → InstanceId → PostAnswer → Option Status → Option Finding
post_told o i answer None = None
post_told o i answer (Some next) = answered (place.Post o i) (post_mistake (is_same_status answer.found answer.left) (is_same_status answer.left next))

-- of a visit, and what follows it
abbrev pub visit_told : OpId → Visit → List Traced → Option Finding
visit_told o (visit.Pre i answer) rest =
    answered (place.Pre o i) (pre_mistake answer.given answer.counted (is_same_status answer.found answer.left))
visit_told o (visit.Post i answer) rest = post_told o i answer (next_status o rest)
visit_told o _ rest = None

abbrev pub step_told : List Traced → ℕ → Option Traced → Option Finding
step_told steps place None = None
step_told steps place (Some step) = visit_told step.operation step.visit (drop (place + 1) steps)

-- what is told of the step at a place
abbrev pub finding_at : List Traced → ℕ → Option Finding
finding_at steps place = step_told steps place (slice_get steps place)

-- of all steps, in their order
abbrev pub step_findings : List Traced → List Finding
step_findings steps = filter_map (finding_at steps) (range_with_len 0 (length steps))

-- ---- leaks and calls

abbrev pub leak_finding : Leak → Finding
leak_finding leak = finding.Leak leak

abbrev called : Refusal → Option Mistake → Option Finding
called refusal (Some mistake) = Some (finding.Call mistake refusal)
called refusal None = None

abbrev pub call_finding : Refusal → Option Finding
call_finding refusal = called refusal (mistake_of refusal.status refusal.call)

-- ---- all

abbrev pub findings : List Traced → List Leak → List Refusal → List Finding
findings steps leaks calls = step_findings steps ++ map leak_finding leaks ++ filter_map call_finding calls
