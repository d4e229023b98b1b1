-- What an operation counts for: references that completions carry, and instances at which it is in flight.
use Rattle.std.specs.Prelude.{ℕ, ◌+◌, ◌==◌, Bool, false, cond, ◌&&◌, List, [], ◌∷◌, Option, Some, None, Result, Ok, Err}
use Rattle.fm_types.specs.declared.ids.CtxId.{CtxId}
use Rattle.fm_types.specs.declared.status.Status.{Status}
use Rattle.fm_callback_data.specs.declared.verdict.Completion.{Completion}
use Rattle.fm_operations.specs.declared.entries.Ending.{Ending}
use Rattle.fm_operations.specs.declared.entries.Ending.TheVariants as ending
use Rattle.fm_operations.specs.declared.entry.PreState.{PreState}
use Rattle.fm_operations.specs.declared.entry.PreState.TheVariants as pre
use Rattle.fm_operations.specs.declared.entry.PostState.{PostState}
use Rattle.fm_operations.specs.declared.entry.PostState.TheVariants as post
use Rattle.fm_operations.specs.declared.entry.Ask.{Ask}
use Rattle.fm_operations.specs.declared.entry.Entry.{Entry}
use Rattle.fm_operations.specs.declared.entry.Entry.TheVariants.{Pre, Base, Post, Drain}
use Rattle.fm_operations.specs.declared.action.Below.{Below}
use Rattle.fm_operations.specs.declared.action.Below.TheVariants as below
use Rattle.fm_operations.specs.declared.action.FlowAction.{FlowAction}
use Rattle.fm_operations.specs.declared.action.FlowAction.TheVariants as action
use Rattle.fm_operations.specs.Entries.{one, times, owed, instances, is_pre_open, is_post_open, is_open}
use Rattle.fm_operations.specs.Record.{FlowRecord}

-- whether that is the context
abbrev pub same_context : CtxId → Option CtxId → Bool
same_context c None = false
same_context c (Some d) = (d.slot == c.slot) && (d.generation == c.generation)

-- how many references to a context a completion carries: one or none
abbrev pub carried_in : CtxId → Completion → ℕ
carried_in c completion = one (same_context c completion.context)

-- how many the completions of owed postoperations carry
abbrev pub carried_among : CtxId → List Ask → ℕ
carried_among c [] = 0
carried_among c (ask ∷ asks) = carried_in c ask.completion + carried_among c asks

-- how many the operation carries
abbrev pub carried_by : CtxId → FlowRecord → ℕ
carried_by c r = carried_among c (owed r.entries)

-- how many the answer of `next` hands out
abbrev pub handed_in : CtxId → FlowAction → ℕ
handed_in c (action.Post i lent completion) = carried_in c completion
handed_in c (action.Drain i completion) = carried_in c completion
handed_in c _ = 0

abbrev pub handed : CtxId → Result FlowAction Status → ℕ
handed c (Ok a) = handed_in c a
handed c (Err status) = 0

-- how many a verdict takes in
abbrev pub taken_by : CtxId → PreState → ℕ
taken_by c (pre.Asked completion) = carried_in c completion
taken_by c (pre.Synchronized completion) = carried_in c completion
taken_by c _ = 0

-- whether a callback of the instance that the entry names runs or holds the operation there
abbrev pub opens_at : ℕ → Entry → ℕ
opens_at i (Pre visit) = one ((visit.instance.0 == i) && is_pre_open visit.state)
opens_at i (Base status information) = 0
opens_at i (Post visit) = one ((visit.instance.0 == i) && is_post_open visit.state)
opens_at i (Drain visit) = one ((visit.instance.0 == i) && visit.is_running)

abbrev pub opens : ℕ → List Entry → ℕ
opens i [] = 0
opens i (e ∷ es) = opens_at i e + opens i es

-- whether the operation is in flight at an instance, 1 or 0: a callback there runs or holds it, or a
-- postoperation is owed to the instance
abbrev pub flight : ℕ → FlowRecord → ℕ
flight i r = opens i r.entries + times i (instances (owed r.entries))

-- how much `next` adds to that: a visit on the way down brings the operation to the instance
abbrev pub enters_by : ℕ → Below → FlowAction → ℕ
enters_by i lies_below (action.Pre j lent) = one (j.0 == i)
enters_by i (below.Instance j is_called) action.Moved = one (j.0 == i)
enters_by i lies_below _ = 0

abbrev pub enters : ℕ → Below → Result FlowAction Status → ℕ
enters i lies_below (Ok a) = enters_by i lies_below a
enters i lies_below (Err status) = 0

-- how much a verdict takes from it: where the preoperation asks or holds, the operation stays
abbrev pub leaves_by : PreState → ℕ
leaves_by pre.Passed = 1
leaves_by (pre.Completed status) = 1
leaves_by _ = 0

-- that much where the instance is the one named, else nothing
abbrev pub leaves_at : ℕ → Option ℕ → ℕ → ℕ
leaves_at j None n = 0
leaves_at j (Some i) n = cond (i == j) n 0

-- how much a postoperation's verdict takes from it
abbrev pub post_leaves_by : PostState → ℕ
post_leaves_by post.Finished = 1
post_leaves_by _ = 0

-- how many drains of an instance run
abbrev pub drain_opens_at : ℕ → Entry → ℕ
drain_opens_at i (Drain visit) = one ((visit.instance.0 == i) && visit.is_running)
drain_opens_at i _ = 0

abbrev pub drain_opens : ℕ → List Entry → ℕ
drain_opens i [] = 0
drain_opens i (e ∷ es) = drain_opens_at i e + drain_opens i es

-- whether a drain runs
abbrev pub is_running_drain : Entry → Bool
is_running_drain (Drain visit) = visit.is_running
is_running_drain _ = false

-- whether a drain of that instance does
abbrev pub is_running_drain_of : ℕ → Entry → Bool
is_running_drain_of i (Drain visit) = (visit.instance.0 == i) && visit.is_running
is_running_drain_of i _ = false

-- whether the entry is the one that is over
abbrev pub is_due : Ending → Entry → Bool
is_due (ending.Drain instance) = is_running_drain_of instance.0
is_due _ = is_open
