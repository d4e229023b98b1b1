-- What the rule says for all seats and every schedule.
use Rattle.std.specs.Prelude.{◌≡◌, ◌+◌, ◌^◌, ◌<◌, ℕ, true, List, slice_index}
use Rattle.fm_rundown.specs.Views.{most_volumes}
use Rattle.fm_rundown.specs.Kinds.{is_closing_word}
use Rattle.fm_rundown.specs.Counts.{is_seen_drained, NobodyHolds}
use Rattle.fm_rundown.specs.Rule.{GateState, IsKept, column}
use Rattle.fm_rundown.specs.Schedules.{Step, Leads}

-- every schedule keeps the rule
abbrev pub RuleIsKept : Type 0
RuleIsKept = (seats : ℕ) (s t : GateState) (steps : List Step) → IsKept seats s → Leads steps s t → IsKept seats t

-- no word comes near to wrapping
abbrev pub NoWordWraps : Type 0
NoWordWraps = (seats v : ℕ) (s : GateState) → IsKept seats s → v < most_volumes → slice_index s.words v + 2 < 2 ^ 64

-- after a volume was seen drained, by any seat, nobody holds a pass of it, after any steps of any seats; and it is closing, so that no `enter`
-- gets one
abbrev pub DrainedIsFinal : Type 0
DrainedIsFinal =
    (seats v : ℕ) (s t : GateState) (steps : List Step) → IsKept seats s → v < most_volumes → is_seen_drained (column v s.views) ≡ true
    → Leads steps s t
    → NobodyHolds (column v t.views) × (is_closing_word (slice_index t.words v) ≡ true)
