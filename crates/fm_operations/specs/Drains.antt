-- Drains that are taken before `next` reaches them.
use Rattle.std.specs.Prelude.{◌≡◌, ◌≢◌, ℕ, ◌≤◌, ◌==◌, Bool, true, false, cond, All, find, Option, Some, None, option_map}
use Rattle.std.specs.List.{list_any}
use Rattle.fm_types.specs.declared.ids.OpId.{OpId}
use Rattle.fm_types.specs.declared.ids.InstanceId.{InstanceId}
use Rattle.fm_callback_data.specs.declared.verdict.Completion.{Completion}
use Rattle.fm_operations.specs.declared.stage.Stage.TheVariants.{InDrain}
use Rattle.fm_operations.specs.declared.entry.Ask.{Ask}
use Rattle.fm_operations.specs.Entries.{owed}
use Rattle.fm_operations.specs.Counts.{drain_opens}
use Rattle.fm_operations.specs.Record.{FlowRecord}
use Rattle.fm_operations.specs.Steps.{with_drain, drain_settled}
use Rattle.fm_operations.specs.Table.{FlowTable, operation_at, changed, removed, told, is_spent}

-- ---- taken

-- whether a postoperation is that of the instance
abbrev pub is_of : ℕ → Ask → Bool
is_of i ask = ask.instance.0 == i

abbrev pub is_some_of : ℕ → Option Ask → Bool
is_some_of i None = false
is_some_of i (Some ask) = is_of i ask

-- whether a postoperation is owed to an instance
abbrev pub owes : ℕ → FlowRecord → Bool
owes i r = list_any (is_of i) (owed r.entries)

-- the completion that goes with it
abbrev pub owed_to : ℕ → FlowRecord → Option Completion
owed_to i r = option_map (λ ask. ask.completion) (find (is_of i) (owed r.entries))

-- a drain of the instance starts, and the operation stays where it is
abbrev pub drained_early : InstanceId → FlowRecord → FlowRecord
drained_early i r = with_drain i r.stage r

-- the operation of that number gives its drain
pub record IsDrainedEarly (i : InstanceId) (old : FlowTable) (o : OpId) (completion : Completion) (new : FlowTable) : Type 0 where
  -- it owes the instance that completion, and none of a lower number owes it one
  pub owed : told (owed_to i.0) None o old ≡ Some completion
  pub lowest : All (λ r. owes i.0 r ≡ true → o.0 ≤ r.number.0) old.operations
  pub after : new ≡ changed o (drained_early i) old

-- or none owes it anything, and nothing changes
abbrev pub DrainTaken : InstanceId → FlowTable → Option (OpId × Completion) → FlowTable → Type 0
DrainTaken i old None new = All (λ r. owes i.0 r ≡ false) old.operations × (new ≡ old)
DrainTaken i old (Some (o, completion)) new = IsDrainedEarly i old o completion new

-- ---- over

-- it is over; the operation stays where it is
abbrev pub early_over : InstanceId → FlowRecord → FlowRecord
early_over i r = drain_settled i r.stage r

-- the record goes where nobody needs it any more
abbrev pub drain_done_in : OpId → InstanceId → FlowTable → Option FlowRecord → FlowTable
drain_done_in o i t None = t
drain_done_in o i t (Some r) = cond (is_spent (early_over i r)) (removed o t) (changed o (early_over i) t)

abbrev pub drain_done_of : OpId → InstanceId → FlowTable → FlowTable
drain_done_of o i t = drain_done_in o i t (operation_at o t)

-- a drain of the instance runs, and it isn't the one that has the operation
abbrev pub RunsEarly : InstanceId → Option FlowRecord → Type 0
RunsEarly i None = ⊥
RunsEarly i (Some r) = (drain_opens i.0 r.entries ≡ 1) × (r.stage ≢ InDrain i)
