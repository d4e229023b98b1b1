-- What becomes of a worker's hand where a callback begins with a completion, and where one ends.
use Rattle.std.specs.Prelude.{◌≡◌, ◌<◌, ◌^◌, ℕ, Bool, true, Option, Some, None, Result, Ok, Err, length}
use Rattle.fm_types.specs.declared.ids.CtxId.{CtxId}
use Rattle.fm_types.specs.declared.ids.InstanceId.{InstanceId}
use Rattle.fm_types.specs.declared.status.Status.{Status}
use Rattle.fm_ctx.specs.declared.owner.Owner.TheVariants as owner
use Rattle.fm_ctx.specs.Bags.{holds, hand_of}
use Rattle.fm_ctx.specs.Kept.{ContextsKept, carried_of, carried_more, carried_fewer}
use Rattle.fm_ctx.specs.References.{grabbed, handed_on}
use Rattle.fm_ctx.specs.Settling.{Leaves, is_linked_of}
use Rattle.fm_ctx.specs.Table.{Context}
use Rattle.fm_core.specs.Lost.{Sweeping}
use Rattle.fm_operations.specs.declared.action.FlowAction.{FlowAction}
use Rattle.fm_operations.specs.declared.action.FlowAction.TheVariants as action

-- the context that a postoperation or a drain brings back
abbrev pub back_in : FlowAction → Option CtxId
back_in (action.Post i lent completion) = completion.context
back_in (action.Drain i completion) = completion.context
back_in _ = None

abbrev pub MayBring : ContextsKept → ℕ → Option CtxId → Type 0
MayBring kept w None = Unit {0}
MayBring kept w (Some c) = (w < 48) × (0 < carried_of kept c) × (length (hand_of kept.table.hands w) < 16)

abbrev pub kept_brought : ContextsKept → ℕ → Option CtxId → ContextsKept
kept_brought kept w None = kept
kept_brought kept w (Some c) = record { table = grabbed kept.table w c; carried = carried_fewer kept.carried c }

-- a completion takes a context along
abbrev pub MaySend : ContextsKept → ℕ → Option CtxId → Type 0
MaySend kept w None = Unit {0}
MaySend kept w (Some c) = (holds (hand_of kept.table.hands w) c ≡ true) × (carried_of kept c < 2 ^ 32)

abbrev pub kept_sent : ContextsKept → ℕ → Option CtxId → ContextsKept
kept_sent kept w None = kept
kept_sent kept w (Some c) = record { table = handed_on kept.table w c; carried = carried_more kept.carried c }

-- the rest of the hand goes
pub record Ends (mid new : ContextsKept) (w : ℕ) : Type 0 where
  pub leaves : Leaves (carried_of mid) mid.table new.table w
  pub carried : new.carried ≡ mid.carried

-- where an instance isn't attached, its contexts lose their links
abbrev pub SweepsUnless : Result (Unit {0}) Status → InstanceId → ContextsKept → ContextsKept → Type 0
SweepsUnless (Ok done) i old new = new ≡ old
SweepsUnless (Err status) i old new = Sweeping (is_linked_of (owner.Instance i)) old new

-- where an event succeeds, the contexts that pass a test lose their links
abbrev pub SweptWhere : Result (Unit {0}) Status → (Context → Bool) → ContextsKept → ContextsKept → Type 0
SweptWhere (Ok done) test old new = Sweeping test old new
SweptWhere (Err status) test old new = new ≡ old
